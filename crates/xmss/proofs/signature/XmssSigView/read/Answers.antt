use Rattle.std.proofs.Common.{◌≡◌, length, Ok, rules}
use Rattle.typecodes.specs.Cursor.{read}
use Rattle.typecodes.specs.Types.{xmss_height_of}
use Rattle.xmss.specs.Signature.{Signature, signature, whole_signature}
use Rattle.xmss.proofs.Fields.{fields}
use Rattle.typecodes.proofs.Parts.{array_at, values_read_at}
use Rattle.xmss.proofs.Parts.{chains_read_at}
use Rattle.xmss.proofs.signature.XmssSigView.read.Goals as goal

pub invariant_of-result : goal.invariant_of-result
unfolding signature
invariant_of-result c =
    let bytes = c.args.bytes.now in
    let s : Signature = whole_signature c.in_ok-index.index c.in_ok-randomizer.randomizer.now c.in_ok-chains.chains.now c.in_ok-path.path.now in
    let found : read (signature c.args.tree) bytes 0 ≡ Ok (s, length bytes) = search (rules, fields) in
    record {
      is_leaf = search rules;
      chain_count = search rules;
      path_length = search rules;
      spelled = found;
      size = search rules;
      index_at = search rules;
      randomizer_at = array_at 4 bytes _ _ _ _ (search rules) (search rules) c.in_ok-randomizer.ensures.read;
      chains_at = chains_read_at 36 bytes _ _ _ _ (search rules) (search rules) (search rules) c.in_ok-chains.ensures.read;
      path_at = values_read_at (xmss_height_of c.args.tree) 2180 bytes _ _ _ _ _ (search rules) (search rules) (search rules) (search rules) c.in_ok-path.ensures.read;
    }
