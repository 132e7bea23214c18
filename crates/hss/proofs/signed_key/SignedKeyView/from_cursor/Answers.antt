use Rattle.std.proofs.Common.{◌≡◌, ◌+◌, ◌-◌, ◌∙◌, ap, ap₂, arith, rules, take, drop, Ok, Err}
use Rattle.typecodes.specs.Types.{lms_signature_len_of}
use Rattle.typecodes.specs.Cursor.{read}
use Rattle.lms.specs.Key.{public_key as lms_public_key}
use Rattle.lms.specs.Signature.{signature as lms_signature}
use Rattle.lms.specs.View.{pair_of, signature_of as lms_signature_of}
use Rattle.hss.proofs.Passing.{signed_key-faulty}
use Rattle.hss.proofs.signed_key.SignedKeyView.from_cursor.Goals as goal

pub returns-clause-part : goal.returns-clause-part
returns-clause-part c =
    let cursor = c.args.cursor.now in
    let size = lms_signature_len_of (pair_of c.in_ok-signature.signature) in
    let long : c.from_cursor.new.cursor.place - cursor.place ≡ size = omega (arith, c.in_ok-signature.ensures.len) in
    let bytes : c.from_cursor-2.new.cursor.bytes.now ≡ cursor.bytes.now = ap (λ b. b.now) (c.from_cursor-2.ensures.passes.bytes ∙ c.from_cursor.ensures.keeps.bytes) in
    let next : c.from_cursor.new.cursor.place ≡ cursor.place + size = omega (arith, c.in_ok-signature.ensures.len) in (
      c.in_ok-signature.ensures.part ∙ ap (λ n. take n (drop cursor.place cursor.bytes.now)) long,
      c.bytes_of_key-key_bytes.ensures.range
          ∙ ap₂ (λ at bytes. take 56 (drop at bytes)) next bytes,
    )

-- the key has a fault
pub returns-in_err-key-clause-read : goal.returns-in_err-key-clause-read
returns-in_err-key-clause-read c =
    let cursor = c.args.cursor.now in
    let middle = c.from_cursor.new.cursor.place in
    let found : read lms_signature cursor.bytes.now cursor.place ≡ Ok (lms_signature_of c.in_ok-signature.signature, middle) = search rules in
    let fault : read lms_public_key cursor.bytes.now middle ≡ Err c.in_err-key.field-0.0 = search rules in
    let all = signed_key-faulty cursor.bytes.now cursor.place middle _ _ found fault in
    search rules
