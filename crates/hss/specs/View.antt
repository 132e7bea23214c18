-- What a view of a signature's bytes shows.
use denote.Bor.{Bor}
use Rattle.std.specs.Prelude.{ℕ, List}
use Rattle.hss.specs.declared.signature.HssSigView.{HssSigView}
use Rattle.hss.specs.Signature.{Signature, shown_signature}

abbrev pub signature_of : HssSigView → Signature
signature_of view = shown_signature view.signed.slots view.bottom

-- the bytes that spell the signature, as they were lent
abbrev pub lent_of : HssSigView → Bor (List ℕ)
lent_of view = view.bytes

-- and as a list
abbrev pub bytes_of : HssSigView → List ℕ
bytes_of view = view.bytes.now
