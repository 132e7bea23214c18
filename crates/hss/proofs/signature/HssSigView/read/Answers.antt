use Rattle.std.proofs.Common.{◌≡◌, ◌+◌, ◌-◌, ◌<◌, ◌≤◌, ◌∙◌, length, sym, ap, ap₂, Ok, arith, rules, subst₂, take, drop}
use Rattle.typecodes.specs.Types.{lms_signature_len_of}
use Rattle.typecodes.specs.Cursor.{read}
use Rattle.typecodes.proofs.Steps.{ends-trailing}
use Rattle.lms.specs.Signature.{signature as lms_signature}
use Rattle.lms.specs.View.{bytes_of as lms_bytes_of, pair_of as lms_pair_of, signature_of as lms_signature_of}
use Rattle.hss.specs.Key.{level_number}
use Rattle.hss.specs.SignedKey.{StandInTurn, shown_keys, signed_keys, signed_keys_size}
use Rattle.hss.specs.Signature.{shown_signature, signature}
use Rattle.hss.proofs.Walking.{keys-end, whole-read}
use Rattle.hss.proofs.signature.HssSigView.read.Goals.{After-end}
use Rattle.hss.proofs.signature.HssSigView.read.Goals as goal

-- where they begin
bytes_are : (c : After-end) → c.number_above.new.cursor.bytes.now ≡ c.args.bytes.now
bytes_are c = ap (λ b. b.now) (c.in_ok-above.ensures.passes.bytes ∙ c.new-cursor.ensures.bytes)

four_is : (c : After-end) → c.number_above.new.cursor.place ≡ 4
four_is c = omega (arith, c.in_ok-above.ensures.passes.len, c.new-cursor.ensures.place)

-- the signed keys that were read
keys : (c : After-end) → read (signed_keys c.in_ok-above.above) c.args.bytes.now 4 ≡ Ok (shown_keys c.in_ok-signed.signed.slots, c.from_cursor.new.cursor.place)
keys c = ap₂ (λ b at. read (signed_keys c.in_ok-above.above) b at) (sym (bytes_are c)) (sym (four_is c)) ∙ c.in_ok-signed.ensures.read

-- and all
found : (c : After-end) → read signature c.args.bytes.now 0 ≡ Ok (shown_signature c.in_ok-signed.signed.slots c.in_ok-bottom.bottom, c.from_cursor-2.new.cursor.place)
found c =
    let bytes = c.args.bytes.now in
    let number : read (level_number 0 7) bytes 0 ≡ Ok (c.in_ok-above.above, 4) = search rules in
    let bottom : read lms_signature bytes c.from_cursor.new.cursor.place ≡ Ok (lms_signature_of c.in_ok-bottom.bottom, c.from_cursor-2.new.cursor.place) = search rules in
    whole-read bytes _ _ _ _ _ _ number (keys c) bottom

-- bytes follow the signature
pub returns-in_err-end-clause-reads : goal.returns-in_err-end-clause-reads
returns-in_err-end-clause-reads c =
    let is = found (goal.at.returns-in_err-end-clause-reads c).After-end in
    let more : c.from_cursor-2.new.cursor.place < length c.args.bytes.now = search rules in
    let faulty = ends-trailing signature c.args.bytes.now _ _ is more in
    search rules

pub invariant_of-result : goal.invariant_of-result
invariant_of-result c =
    let after = (goal.at.invariant_of-result c).After-end in
    let bytes = c.args.bytes.now in
    let view = c.in_ok-bottom.bottom in
    let place = c.from_cursor.new.cursor.place in
    let slots = c.in_ok-signed.signed.slots in
    let size = lms_signature_len_of (lms_pair_of view) in
    let at_end : length bytes ≡ c.from_cursor-2.new.cursor.place = search rules in
    let four : 4 ≤ length bytes = search rules in
    let stands : place ≡ 4 + signed_keys_size (shown_keys slots) = (keys-end c.in_ok-above.above bytes 4 place (shown_keys slots) four (keys after)).1 in
    let long : c.from_cursor-2.new.cursor.place - place ≡ size = omega (arith, c.in_ok-bottom.ensures.len) in
    let part : lms_bytes_of view ≡ take (c.from_cursor-2.new.cursor.place - place) (drop place bytes) = search rules in
    let stand : StandInTurn 4 bytes slots =
    subst₂ (λ at b. StandInTurn at b slots) (four_is after) (bytes_are after) c.in_ok-signed.ensures.stand in
    record {
      spelled = found after ∙ ap (λ at. Ok (shown_signature slots view, at)) (sym at_end);
      stand = stand;
      last = part ∙ ap₂ (λ n at. take n (drop at bytes)) long stands;
    }
