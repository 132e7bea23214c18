use denote.Bor.{Bor}
use Rattle.std.proofs.Common.{ℕ, List, ◌≡◌, ◌+◌, ◌-◌, ◌<◌, ◌∙◌, ap₂, arith, length, Ok, rules, subst, take, drop}
use Rattle.std.proofs.lemmas.List.{take_all}
use Rattle.byteorder.specs.Endian.{big_number}
use Rattle.typecodes.specs.Cursor.{read}
use Rattle.typecodes.specs.Fields.{first_values}
use Rattle.typecodes.specs.Types.{chains_of, height_of, lms_signature_len_of, signature_len_of}
use Rattle.typecodes.proofs.Steps.{ends-trailing}
use Rattle.lms.specs.Signature.{signature}
use Rattle.lms.specs.View.{bytes_of, pair_of, signature_of}
use Rattle.lms.proofs.signature.LmsSigView.read.Goals as goal

-- bytes follow the signature
pub returns-in_err-end-clause-reads : goal.returns-in_err-end-clause-reads
returns-in_err-end-clause-reads c =
    let end = c.from_cursor.new.cursor.place in
    let found : read signature c.args.bytes.now 0 ≡ Ok (signature_of c.in_ok-view.view, end) = search rules in
    let more : end < length c.args.bytes.now = search rules in
    let faulty = ends-trailing signature c.args.bytes.now (signature_of c.in_ok-view.view) end found more in
    search rules

-- the view's own bytes are all that were given
pub invariant_of-view : goal.invariant_of-view
invariant_of-view c =
    let view = c.in_ok-view.view in
    let pair = pair_of view in
    let end = c.from_cursor.new.cursor.place in
    let at_end : length c.args.bytes.now ≡ end = search rules in
    let all : bytes_of view ≡ c.args.bytes.now =
    c.in_ok-view.ensures.part
    ∙ ap₂ (λ at (b : Bor (List ℕ)). take (end - at) (drop at b.now)) c.new-cursor.ensures.place c.new-cursor.ensures.bytes
    ∙ take_all (end - 0) c.args.bytes.now (omega (arith, at_end)) in
    record {
      is_leaf = view.is_leaf;
      chain_count = view.chain_count;
      path_length = view.path_length;
      spelled = subst (λ bytes. read signature bytes 0 ≡ Ok (signature_of view, length bytes)) all view.spelled;
      size = subst (λ bytes. length bytes ≡ lms_signature_len_of pair) all view.size;
      q_at = subst (λ bytes. (signature_of view).q ≡ big_number 4 (take 4 bytes)) all view.q_at;
      randomizer_at = subst (λ bytes. (signature_of view).randomizer ≡ take 32 (drop 8 bytes)) all view.randomizer_at;
      chains_at =
          subst (λ bytes. (signature_of view).chains ≡ first_values (chains_of pair.ots) (drop 40 bytes)) all
          view.chains_at;
      path_at =
          subst
          (λ bytes. (signature_of view).path ≡ first_values (height_of pair.tree) (drop (8 + signature_len_of pair.ots) bytes))
          all
          view.path_at;
    }
