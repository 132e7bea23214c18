use Rattle.std.proofs.Common.{◌≡◌, ◌-◌, Ok, arith, rules, take, drop}
use Rattle.typecodes.specs.Cursor.{read}
use Rattle.lms.specs.Signature.{Signature, signature, whole_signature}
use Rattle.lms.proofs.Fields.{fields}
use Rattle.typecodes.proofs.Parts.{part_read}
use Rattle.lms.proofs.Parts.{laid_out}
use Rattle.lms.proofs.signature.LmsSigView.from_cursor.Goals as goal

pub invariant_of-result : goal.invariant_of-result
unfolding signature
invariant_of-result c =
    let cursor = c.args.cursor.now in
    let end = c.values-2.new.self.place in
    let s : Signature = whole_signature (record { tree = c.in_ok-tree.tree; ots = c.in_ok-ots.ots }) c.in_ok-q.q c.in_ok-randomizer.randomizer.now c.in_ok-chains.chains.now c.in_ok-path.path.now in
    let found : read signature cursor.bytes.now cursor.place ≡ Ok (s, end) = search (rules, fields) in
    let spelled = part_read signature s cursor.bytes.now cursor.place end (omega arith) found in
    let laid = laid_out s (take (end - cursor.place) (drop cursor.place cursor.bytes.now)) spelled in
    record { is_leaf = search (rules, fields); chain_count = search (rules, fields); path_length = search (rules, fields); spelled = spelled; size = laid.size; q_at = laid.q; randomizer_at = laid.randomizer; chains_at = laid.chains; path_at = laid.path }
