-- When all is ready to sign: a key file, a message and random bytes are open.
use Rattle.std.specs.Prelude.{◌≡◌, ◌++◌, ℕ, List, Option, Result, Ok, Err}
use Rattle.typecodes.specs.declared.message.Message as message
use Rattle.sign_core.specs.declared.source.Source as source
use Rattle.command.specs.declared.refusal.Refusal.{Refusal}
use Rattle.command.specs.declared.refusal.Refusal.TheVariants.{FileFailed}
use Rattle.command.specs.declared.trace.Role.{Role}
use Rattle.command.specs.declared.trace.Role.TheVariants as role
use Rattle.command.specs.Files.{ShowsContent}
use Rattle.command.specs.Trace.{Happening}
use Rattle.command.specs.Sign.{FailsToSign, ready_to_sign}

-- Both files were opened, and show their contents, if known; or one couldn't be.
abbrev pub ReadiesToSign : {F R : Type 0} → (role_of : F → Role) → (remaining : F → Option (List ℕ))
    → (upcoming : R → Option (List ℕ)) → (content : List ℕ → Option (List ℕ)) → (message random : List ℕ)
    → Result (F × R) Refusal → (old new : List Happening) → Type 0
ReadiesToSign role_of remaining upcoming content message random (Ok (file, source)) old new =
    (role_of file ≡ role.Message) × ShowsContent (content message) (remaining file)
    × ShowsContent (content random) (upcoming source) × (new ≡ old ++ ready_to_sign message random)
ReadiesToSign role_of remaining upcoming content message random (Err refusal) old new =
    (refusal ≡ FileFailed) × FailsToSign message random old new
