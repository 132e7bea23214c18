use Rattle.std.proofs.Common.{◌≡◌, ◌∙◌, ◌+◌, ◌<◌, [], ◌∷◌, ◌++◌, length, refl, sym, ap, arith}
use Rattle.std.specs.Prelude.{map}
use Rattle.std.specs.List.{range_with_len}
use Rattle.hss.specs.Signature.{key_at, message_at}
use Rattle.lms.specs.Writing.{public_bytes}
use Rattle.hss.specs.View.{signature_of}
use Rattle.hss.proofs.Verifying.{message_at-above, message_at-bottom, signature_at-bottom}
use Rattle.key_audit.specs.inner.Uses.{hss_use_at}
use Rattle.key_audit.proofs.Levels.{level_added, level_count_of}
use Rattle.key_audit.proofs.uses.hss_uses.Goals as goal

pub push-requires : goal.push-requires
push-requires c =
    let many = level_count_of c.args.top.now c.args.message.now (signature_of c.args.signature.now) c.loop-level.level c.loop-level.uses.items c.loop-level.key c.loop-level.invariant in
    omega (arith, many, c.loop-level-test.true, c.levels-level-end.ensures.at_most_8)

pub loop-level-preserved : goal.loop-level-preserved
loop-level-preserved c =
    let top = c.args.top.now in
    let s = signature_of c.args.signature.now in
    let i = c.loop-level.level in
    let inside : i < length s.signed = omega (arith, c.levels-level-end.ensures.value, c.loop-level-test.true) in
    let next : c.key-next.result ≡ key_at top s (i + 1) = c.key-next.ensures.value top in
    record {
      items = c.push.ensures.items
          ∙ ap (λ u. c.loop-level.uses.items ++ u ∷ []) c.lms_use.ensures
          ∙ level_added top c.args.message.now s i c.loop-level.uses.items c.loop-level.key c.to_bytes.result _ c.loop-level.invariant
          (c.to_bytes.ensures.bytes ∙ ap public_bytes next ∙ message_at-above top c.args.message.now s i inside)
          c.level.ensures.value;
      key_is = next;
      within = omega (arith, inside);
    }

pub push-requires-2 : goal.push-requires-2
push-requires-2 c =
    let many = level_count_of c.args.top.now c.args.message.now (signature_of c.args.signature.now) c.loop-level.level c.loop-level.uses.items c.loop-level.key c.loop-level.invariant in
    omega (arith, many, c.loop-level.invariant.within, c.levels-level-end.ensures.value, c.levels-level-end.ensures.at_most_8)

pub returns : goal.returns
returns c =
    let top = c.args.top.now in
    let message = c.args.message.now in
    let s = signature_of c.args.signature.now in
    let i = c.loop-level.level in
    let last : i ≡ length s.signed = omega (arith, c.loop-level.invariant.within, c.levels-level-end.ensures.value, c.loop-level-test.false) in
    c.push-2.ensures.items
    ∙ ap (λ u. c.loop-level.uses.items ++ u ∷ []) c.lms_use-2.ensures
    ∙ level_added top message s i c.loop-level.uses.items c.loop-level.key message _ c.loop-level.invariant
    (message_at-bottom message s ∙ ap (message_at message s) (sym last))
    (c.bottom.ensures.value ∙ signature_at-bottom s i last)
    ∙ ap (λ n. map (hss_use_at top message s) (range_with_len 0 (n + 1))) last
