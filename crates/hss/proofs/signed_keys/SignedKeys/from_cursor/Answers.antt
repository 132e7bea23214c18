use Rattle.std.proofs.Common.{◌≡◌, ◌+◌, ◌<◌, ◌∙◌, refl, sym, ap, [], Some, Ok, Err, arith, rules, length, subst, length-set, ◌++◌, ◌∷◌}
use Rattle.std.specs.Prelude.{set, take}
use Rattle.typecodes.specs.Cursor.{read}
use Rattle.hss.specs.SignedKey.{StandInTurn, BeginsAt, shown_keys, signed_key, signed_key_of, signed_keys_size}
use Rattle.hss.specs.inner.SignedKey.{AreFirst}
use Rattle.hss.proofs.Passing.{keys-faulty, keys-next, keys-none}
use Rattle.hss.proofs.Slots.{set-first, set-shows, set-stand, shown-front, unused-first, unused-stand}
use Rattle.hss.proofs.Walking.{keys-end}
use Rattle.hss.proofs.signed_keys.SignedKeys.from_cursor.Goals as goal

pub loop-i-init : goal.loop-i-init
loop-i-init c =
    let cursor = c.args.cursor.now in
    record {
      read = keys-none cursor.bytes.now cursor.place;
      first = unused-first;
      stand = unused-stand cursor.place cursor.bytes.now;
      size = refl;
      at_most_9380_each = omega arith;
      bytes = refl;
    }

pub loop-i-preserved : goal.loop-i-preserved
loop-i-preserved c =
    let bytes = c.args.cursor.now.bytes.now in
    let place = c.args.cursor.now.place in
    let slots = c.loop-i.slots in
    let i = c.loop-i.i in
    let view = c.in_ok-from_cursor.field-0 in
    let same = ap (λ b. b.now) c.loop-i.invariant.bytes in
    let within : i < length slots = omega (arith, c.loop-i.invariant.size) in
    let empty = c.loop-i.invariant.first.1 in
    let found : read signed_key bytes c.loop-i.rest.place ≡ Ok (signed_key_of view, c.from_cursor.new.cursor.place) =
    ap (λ b. read signed_key b c.loop-i.rest.place) (sym same) ∙ c.in_ok-from_cursor.ensures.read in
    let at : c.loop-i.rest.place ≡ place + signed_keys_size (shown_keys (take i slots)) =
    (keys-end i bytes place c.loop-i.rest.place (shown_keys slots) c.args.cursor.now.within c.loop-i.invariant.read).1
    ∙ ap (λ keys. place + signed_keys_size keys) (shown-front i slots c.loop-i.invariant.first) in
    let here : BeginsAt (place + signed_keys_size (shown_keys (take i slots))) bytes view =
    subst (λ at. BeginsAt at bytes view) at (subst (λ b. BeginsAt c.loop-i.rest.place b view) same c.in_ok-from_cursor.ensures.part) in
    let shows : shown_keys slots ++ signed_key_of view ∷ [] ≡ shown_keys (set slots c.from.result (Some view)) =
    sym (set-shows slots i view within empty) ∙ ap (λ k. shown_keys (set slots k (Some view))) (sym c.from.ensures) in
    record {
      read = keys-next i bytes place c.loop-i.rest.place c.from_cursor.new.cursor.place (shown_keys slots) (signed_key_of view) c.loop-i.invariant.read found
          ∙ ap (λ keys. Ok (keys, c.from_cursor.new.cursor.place)) shows;
      first = subst (λ k. AreFirst (i + 1) (set slots k (Some view))) (sym c.from.ensures) (set-first slots i view within empty c.loop-i.invariant.first);
      stand = subst (λ k. StandInTurn place bytes (set slots k (Some view))) (sym c.from.ensures) (set-stand slots i view within empty place bytes c.loop-i.invariant.stand here);
      size = length-set slots c.from.result (Some view) ∙ c.loop-i.invariant.size;
      at_most_9380_each = omega (arith, c.in_ok-from_cursor.ensures.at_most_9380, c.loop-i.invariant.at_most_9380_each);
      bytes = c.in_ok-from_cursor.ensures.keeps.bytes ∙ c.loop-i.invariant.bytes;
    }

-- the next one has a fault
pub returns-in_err-from_cursor-clause-read : goal.returns-in_err-from_cursor-clause-read
returns-in_err-from_cursor-clause-read c =
    let bytes = c.args.cursor.now.bytes.now in
    let place = c.args.cursor.now.place in
    let same = ap (λ b. b.now) c.loop-i.invariant.bytes in
    let faulty : read signed_key bytes c.loop-i.rest.place ≡ Err c.in_err-from_cursor.field-0.0 =
    ap (λ b. read signed_key b c.loop-i.rest.place) (sym same) ∙ c.in_err-from_cursor.ensures.read in
    let all = keys-faulty c.loop-i.i c.args.count bytes place c.loop-i.rest.place (shown_keys c.loop-i.slots) _ c.loop-i-test.true c.loop-i.invariant.read faulty in
    search rules
