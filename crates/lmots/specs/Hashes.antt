-- What the hashes of LM-OTS begin with, and how numbers go into them (RFC 8554 3.1, 4.3 and 4.5).
use Rattle.std.specs.Prelude.{ℕ, List, [], ◌∷◌}
use Rattle.byteorder.specs.Endian.{big_bytes}

-- big-endian numbers (3.1)
abbrev pub u8str : ℕ → List ℕ
u8str x = x ∷ []

abbrev pub u16str : ℕ → List ℕ
u16str x = big_bytes 2 x

abbrev pub u32str : ℕ → List ℕ
u32str x = big_bytes 4 x

-- D_PBLC (4.3) and D_MESG (4.5), which keep the scheme's hashes apart
abbrev pub public_separator : ℕ
public_separator = 0x8080

abbrev pub message_separator : ℕ
message_separator = 0x8181
