use Rattle.std.proofs.Common.{◌≡◌, refl, sym, ap, ◌∙◌, subst, subst₂, length, take, ◌++◌, append-nil, arith}
use Rattle.std.specs.List.{flat_map}
use Rattle.std.proofs.lemmas.List.{take_all}
use Rattle.typecodes.specs.Layout.{Spells}
use Rattle.hss.specs.SignedKey.{signed_key, signed_keys}
use Rattle.hss.specs.Secret.{key_of, signature_of_level}
use Rattle.hss.specs.Writing.{made_signature, made_signed_key, signed_key_bytes}
use Rattle.hss.proofs.Bytes.{keys-none, part-more, spelled-more, written-more}
use Rattle.hss.proofs.Making.{signed-count}
use Rattle.hss.proofs.writing.write_above.Goals.{After-loop-i}
use Rattle.hss.proofs.writing.write_above.Goals as goal

pub loop-i-init : goal.loop-i-init
loop-i-init c = record { offset = refl; bytes = sym (append-nil _); spelled = keys-none }

pub slice_bounds-write_signed_key-end : goal.slice_bounds-write_signed_key-end
slice_bounds-write_signed_key-end c =
    let parts = part-more c.args.above.now c.loop-i.i c.index-above-i.result c.loop-i-test.true c.index-above-i.is in
    omega (arith, parts.0, parts.1, c.loop-i.invariant.offset, c.signature_len.ensures)

pub loop-i-preserved : goal.loop-i-preserved
loop-i-preserved c =
    let above = c.args.above.now in
    let level = c.index-above-i.result in
    let next = c.key_below-next.result in
    let parts = part-more above c.loop-i.i level c.loop-i-test.true c.index-above-i.is in
    record {
      offset = omega (arith, parts.0, c.loop-i.invariant.offset, c.signature_len.ensures);
      bytes = written-more above c.args.bottom.now level next c.loop-i.i c.loop-i-test.true c.index-above-i.is c.key_below-next.ensures _ c.loop-i.into c.write_signed_key.new.into c.loop-i.offset _
          c.loop-i.invariant.bytes c.write_signed_key.ensures.bytes (omega arith) (omega arith);
      spelled = spelled-more above c.args.bottom.now level next c.loop-i.i c.loop-i-test.true c.index-above-i.is c.key_below-next.ensures c.loop-i.invariant.spelled
          (subst (Spells signed_key (made_signed_key level next)) c.write_signed_key.ensures.bytes c.write_signed_key.ensures.spells);
    }

-- all were written
all_written : (c : After-loop-i) → take c.loop-i.i (made_signature c.args.above.now c.args.bottom.now).signed ≡ (made_signature c.args.above.now c.args.bottom.now).signed
all_written c =
    let signed = (made_signature c.args.above.now c.args.bottom.now).signed in
    take_all c.loop-i.i signed (omega (arith, signed-count signature_of_level key_of c.args.above.now c.args.bottom.now, c.loop-i-test.false))

pub returns-clause-bytes : goal.returns-clause-bytes
returns-clause-bytes c = c.loop-i.invariant.bytes ∙ ap (λ signed. take 4 c.args.into.now ++ flat_map signed_key_bytes signed) (all_written (c))

pub returns-clause-spells : goal.returns-clause-spells
returns-clause-spells c =
    let all = all_written c in
    let count : c.loop-i.i ≡ length c.args.above.now = omega arith in
    subst₂ (λ n signed. Spells (signed_keys n) signed (flat_map signed_key_bytes signed)) count all c.loop-i.invariant.spelled
