-- What private functions alone cite of `Frames.antt`'s subject.
use Rattle.std.specs.Prelude.{◌⊎◌, ℕ, ◌<◌, ◌≤◌, List, [], length, Option, Some, None, Result, Ok, Err}
use Rattle.arrayvec.specs.declared.array_vec.ArrayVec.{ArrayVec}
use Rattle.typecodes.specs.declared.message.Message as message
use Rattle.typecodes.specs.Layout.{Layout, Spells}
use Rattle.typecodes.specs.Message.{CantBeRead, ReadWhole}
use Rattle.sign_core.specs.declared.fault.ServeFault.{ServeFault}
use Rattle.sign_core.specs.declared.fault.ServeFault.TheVariants.{FrameCut, MessageRead, WriteFailed}
use Rattle.sign_core.specs.declared.frames.Head.{Head}
use Rattle.sign_core.specs.Frames.{CutsField, ReadsInput, broken, ended, going, head}

-- A buffer was filled with the next bytes; or the input ended before, or a read of it failed.
abbrev pub FillsBuffer : {M : Type 0} → message.Ghosts M → (buffer : List ℕ) → (old new : M)
    → Result (Unit {0}) ServeFault → Type 0
FillsBuffer m buffer old new (Ok _) = ReadsInput m buffer going old new
FillsBuffer m buffer old new (Err FrameCut) =
    (part : List ℕ) × (length part < length buffer) × ReadsInput m part ended old new
FillsBuffer m buffer old new (Err MessageRead) =
    (part : List ℕ) × (length part < length buffer) × ReadsInput m part broken old new
FillsBuffer m buffer old new (Err WriteFailed) = ⊥

-- What was read spells the value; or it is cut.
abbrev pub ReadsField : {M A V : Type 0} → message.Ghosts M → Layout V → (A → V) → (old new : M) → Result A ServeFault
    → Type 0
ReadsField m layout view old new (Ok x) =
    (bytes : List ℕ) × Spells layout (view x) bytes × ReadsInput m bytes going old new
ReadsField m layout view old new (Err FrameCut) =
    (bytes : List ℕ) × CutsField layout bytes × ReadsInput m bytes ended old new
ReadsField m layout view old new (Err MessageRead) =
    (bytes : List ℕ) × CutsField layout bytes × ReadsInput m bytes broken old new
ReadsField m layout view old new (Err WriteFailed) = ⊥

abbrev pub bytes_of : ArrayVec ℕ 255 (Unit {0}) → List ℕ
bytes_of name = name.items

abbrev pub head_fields : Head → List ℕ × ℕ
head_fields head = (head.name.items, head.announced)

-- A head was read; or the input is at its end, before its first byte; or it is cut.
abbrev pub ReadsHead : {M : Type 0} → message.Ghosts M → (old new : M) → Result (Option Head) ServeFault → Type 0
ReadsHead m old new (Ok (Some found)) =
    (bytes : List ℕ) × Spells head (head_fields found) bytes × ReadsInput m bytes going old new
ReadsHead m old new (Ok None) = ReadsInput m [] ended old new
ReadsHead m old new (Err FrameCut) =
    (bytes : List ℕ) × (1 ≤ length bytes) × CutsField head bytes × ReadsInput m bytes ended old new
ReadsHead m old new (Err MessageRead) = (bytes : List ℕ) × CutsField head bytes × ReadsInput m bytes broken old new
ReadsHead m old new (Err WriteFailed) = ⊥

-- The message was read to its end, or counts as one that can't be read.
abbrev pub WasReadOrFailed : {M : Type 0} → message.Ghosts M → M → Type 0
WasReadOrFailed {M} m now =
    (before : M) × (((text : List ℕ) × ReadWhole m.transition m.remaining text before now)
    ⊎ CantBeRead m.transition before now)
