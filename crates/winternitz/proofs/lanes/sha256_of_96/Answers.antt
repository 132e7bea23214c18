use Rattle.std.proofs.Common.{◌≡◌, ◌∙◌, List, ℕ, [], ◌++◌, refl, ap, ap₂, arith, length, rules, slice_index_or}
use Rattle.sha2.specs.Sha256.{compress, digest_bytes, initial_hash_256, sha256}
use Rattle.winternitz.proofs.Vectors.{each_more}
use Rattle.winternitz.proofs.lanes.sha256_of_96.Goals as goal

pub loop-lane-preserved : goal.loop-lane-preserved
loop-lane-preserved c = record {
  long = search rules;
  each = each_more
      (λ j last. (block : List ℕ) → length block ≡ 64
      → digest_bytes (compress (compress initial_hash_256 block) last) 8 ≡ sha256 (block ++ slice_index_or c.args.last.now j []))
      _ c.loop-lane.lane _ (omega arith) c.loop-lane.invariant.each c.last_of_96.ensures;
}

pub returns : goal.returns
returns c j low first long begun =
    c.digests.ensures j low
    ∙ ap (λ state. digest_bytes state 8) (c.compress.ensures j low ∙ ap₂ compress begun refl)
    ∙ c.loop-lane.invariant.each j (omega arith) first long
