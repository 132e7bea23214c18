-- A chain of trees leads from the Key's down to a current tree.
use Rattle.std.proofs.Common.{◌≡◌, ◌∙◌, refl, sym, ap, subst, inl, inr, ℕ, zero, suc, List, [], ◌∷◌, ◌++◌, arith}
use Rattle.std.specs.Prelude.{slice_get, unwrap_or}
use Rattle.std.proofs.lemmas.List.{length_push}
use Rattle.std.proofs.lemmas.Option.{none-some, same_Some, slice_get_within}
use Rattle.state_file.specs.Laws.{IsCurrent}
use Rattle.state_file.specs.declared.record.Record.{Record}
use Rattle.state_file.specs.declared.record.Record.TheVariants.{Extend as ExtendRecord}
use Rattle.sign_core.specs.Textbook.{IsTreeChain, current_at, tree_chain}
use Rattle.sign_core.proofs.records.Lists.{front_or_new, slice_get_new}
use Rattle.sign_core.proofs.records.CurrentTrees.{before_current}

-- one tree more, under the last one
chain_more : (records : List Record) (level above tree : ℕ) (chain : List ℕ) → IsTreeChain records level above chain
    → IsCurrent records tree level above → IsTreeChain records (suc level) tree (chain ++ tree ∷ [])
chain_more records level above tree chain is under = record {
  count = length_push chain tree ∙ omega (arith, is.count);
  last = ap (slice_get (chain ++ tree ∷ [])) (sym is.count) ∙ slice_get_new chain tree;
  each = λ i one next at more. elim (front_or_new chain tree (suc i) next more) [
    | inl (below, there) ↦ elim (front_or_new chain tree i one at) [
      | inl (within, here) ↦ is.each i one next here there
      | inr (end, same) ↦ absurd (omega (arith, below, end))
    ]
    | inr (end, same) ↦ elim (front_or_new chain tree i one at) [
      | inl (within, here) ↦
          let lowest : i ≡ level = omega (arith, end, is.count) in
          let parent : above ≡ one = same_Some above one (sym is.last ∙ ap (slice_get chain) (sym lowest) ∙ here) in
          subst (λ (x : ℕ × ℕ × ℕ). IsCurrent records x.0 x.1 x.2) (λ j. (same j, sym lowest j, parent j)) under
      | inr (other, same_tree) ↦ absurd (omega (arith, end, other))
    ]
  ];
}

pub chain_is : (records : List Record) (k level tree : ℕ) → IsCurrent records k level tree
    → IsTreeChain records level tree (tree_chain level records tree)
chain_is records k zero tree is = record {
  count = refl;
  last = refl;
  each = λ i one next at more. absurd (none-some next more);
}
chain_is records k (suc level) tree (last, (above, now, then_above)) =
    let within = slice_get_within records tree (ExtendRecord last.extend) last.stands in
    let before = before_current records tree level above (omega (arith, within)) then_above in
    let parent : above ≡ current_at level records tree = sym (ap (λ o. unwrap_or o 0) before) in
    subst (λ p. IsTreeChain records (suc level) tree (tree_chain level records p ++ tree ∷ [])) parent
    (chain_more records level above tree (tree_chain level records above) (chain_is records tree level above then_above) then_above)
