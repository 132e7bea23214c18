use Rattle.std.proofs.Common.{◌≡◌, ◌-◌, ◌++◌, sym, ap, ◌∙◌, subst, length, take, arith, length-take, length-drop}
use Rattle.std.specs.List.{flat_map}
use borrow.Rule.Slice.PartMut.{post_of}
use Rattle.typecodes.specs.Layout.{Spells}
use Rattle.lms.specs.Signature.{signature as lms_signature}
use Rattle.lms.specs.Writing.{signature_bytes as lms_signature_bytes}
use Rattle.hss.specs.SignedKey.{signed_keys}
use Rattle.hss.specs.Signature.{signature}
use Rattle.hss.specs.Secret.{key_of, signature_of_level}
use Rattle.hss.specs.Writing.{signature_bytes, made_signature, signed_key_bytes}
use Rattle.hss.proofs.Bytes.{size-parts, whole-spelled, whole-written}
use Rattle.hss.proofs.Making.{made_textbook, made_valid, signed-count}
use Rattle.hss.proofs.writing.write_signature.Goals.{After-write}
use Rattle.hss.proofs.writing.write_signature.Goals as goal

pub write_above-offset-requires-clause-exact_length : goal.write_above-offset-requires-clause-exact_length
write_above-offset-requires-clause-exact_length c = omega (arith, c.requires.room ∙ size-parts c.args.above.now c.args.bottom.now)

pub slice_bounds-write-count : goal.slice_bounds-write-count
slice_bounds-write-count c = omega (arith, c.requires.room ∙ size-parts c.args.above.now c.args.bottom.now, c.write_above-offset.ensures.offset)

pub slice_bounds-write-start : goal.slice_bounds-write-start
slice_bounds-write-start c = omega (arith, c.requires.room ∙ size-parts c.args.above.now c.args.bottom.now, c.write_above-offset.ensures.offset)

pub write-requires : goal.write-requires
write-requires c =
    let size = c.requires.room ∙ size-parts c.args.above.now c.args.bottom.now in
    simp (length-take, length-drop) (omega (arith, size, c.write_above-offset.ensures.offset))

-- the number, the signed keys and the bottom's signature stand one after the other
written : (c : After-write) → take c.write_above-offset.result c.write_above-offset.new.into
    ++ (c.write.new.into ++ post_of c.write_above-offset.result (length c.write_above-offset.new.into - c.write_above-offset.result) c.write_above-offset.new.into)
    ≡ signature_bytes (made_signature c.args.above.now c.args.bottom.now)
written c =
    let s = made_signature c.args.above.now c.args.bottom.now in
    let front = c.write_above-offset.ensures.bytes ∙ ap (λ head. head ++ flat_map signed_key_bytes s.signed) c.write_number.ensures in
    whole-written s (length c.args.above.now) c.write_above-offset.result c.write_above-offset.new.into c.write.new.into front (sym (signed-count signature_of_level key_of c.args.above.now c.args.bottom.now)) c.write.ensures.bytes
    (omega (arith, c.requires.room ∙ size-parts c.args.above.now c.args.bottom.now, c.write_above-offset.ensures.offset))

pub returns-clause-bytes : goal.returns-clause-bytes
returns-clause-bytes c = written (goal.at.returns-clause-bytes c).After-write

pub returns-clause-spells : goal.returns-clause-spells
returns-clause-spells c =
    let s = made_signature c.args.above.now c.args.bottom.now in
    let count = signed-count signature_of_level key_of c.args.above.now c.args.bottom.now in
    let keys = subst (λ n. Spells (signed_keys n) s.signed (flat_map signed_key_bytes s.signed)) (sym count) c.write_above-offset.ensures.spells in
    let bottom = subst (Spells lms_signature s.bottom) c.write.ensures.bytes c.write.ensures.spells in
    let all = whole-spelled s (flat_map signed_key_bytes s.signed) (lms_signature_bytes s.bottom) (omega (arith, count)) keys bottom in
    subst (Spells signature s) (sym (written (goal.at.returns-clause-spells c).After-write)) all

pub returns-clause-textbook : goal.returns-clause-textbook
returns-clause-textbook c = made_textbook c.args.above.now c.args.bottom.now

pub returns-clause-valid : goal.returns-clause-valid
returns-clause-valid c = made_valid c.args.above.now c.args.bottom.now
