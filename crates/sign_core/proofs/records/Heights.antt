-- The heights of a key's trees, by their levels.
use Rattle.std.proofs.Common.{◌≡◌, ◌∙◌, refl, sym, ap, subst, ℕ, zero, suc, ◌<◌, List, [], ◌∷◌, length, map, Option, Some, None, arith}
use Rattle.std.specs.Prelude.{slice_get, slice_index_or}
use Rattle.std.proofs.lemmas.Option.{none-some, same_Some}
use Rattle.typecodes.specs.declared.spec.Spec.{Spec}
use Rattle.typecodes.specs.declared.types.LmsPair.{LmsPair}
use Rattle.typecodes.specs.declared.secret.XmssSecret.{XmssSecret}
use Rattle.typecodes.specs.Types.{height_of, xmss_height_of}
use Rattle.state_file.specs.Laws.{IsLegal, levels_of}
use Rattle.state_file.specs.declared.record.Key.{Key}
use Rattle.state_file.specs.declared.record.Record.{Record}
use Rattle.state_file.specs.declared.record.Record.TheVariants.{Extend as ExtendRecord}
use Rattle.state_file.specs.declared.record.Secret.{Secret}
use Rattle.state_file.specs.declared.record.Secret.TheVariants.{Lms, Hss, Xmss}
use Rattle.sign_core.specs.declared.trees.Tree.{Tree}
use Rattle.sign_core.specs.Progress.{types_of_key}
use Rattle.sign_core.specs.Records.{current, the_key, types_of}
use Rattle.sign_core.specs.Textbook.{Trees, secret_at, trees_of}
use Rattle.sign_core.specs.Trees.{tree_at, with_next}
use Rattle.sign_core.specs.inner.KeyTrees.{IsTreeAt}
use Rattle.sign_core.specs.inner.Progress.{height_at}
use Rattle.sign_core.proofs.chains.CurrentChain.{tree_stands}
use Rattle.sign_core.proofs.records.Keys.{key_stands, legal_key}
use Rattle.sign_core.proofs.chains.ChainsInMemory.{pair_at}

level_height : (levels : List LmsPair) (level : ℕ) (other : LmsPair) → level < length levels
    → slice_get (map (λ (pair : LmsPair). height_of pair.tree) levels) level ≡ Some (height_of (slice_index_or levels level other).tree)
level_height [] level other within = absurd (omega (arith, within))
level_height (pair ∷ rest) zero other within = refl
level_height (pair ∷ rest) (suc level) other within = level_height rest level other (omega (arith, within))

pub height_of_level : (secret : Secret) (trees : Trees) (level : ℕ) → trees_of secret ≡ Some trees → level < levels_of secret
    → height_at (types_of secret) level ≡ Some (height_of (slice_index_or trees.pairs level trees.top.pair).tree)
height_of_level (Lms secret) trees zero these within =
    ap (λ (t : Trees). Some (height_of (slice_index_or t.pairs 0 t.top.pair).tree)) (same_Some _ trees these)
height_of_level (Lms secret) trees (suc level) these within = absurd (omega (arith, within))
height_of_level (Hss [] identifier seed) trees level these within = absurd (cc)
height_of_level (Hss (pair ∷ rest) identifier seed) trees level these within =
    level_height (pair ∷ rest) level pair within
    ∙ ap (λ (t : Trees). Some (height_of (slice_index_or t.pairs level t.top.pair).tree)) (same_Some _ trees these)
height_of_level (Xmss secret) trees level these within = absurd (cc)

-- a key with LMS trees has a top level
has_top : (secret : Secret) (trees : Trees) → trees_of secret ≡ Some trees → 0 < levels_of secret
has_top (Lms secret) trees these = omega arith
has_top (Hss [] identifier seed) trees these = absurd (cc)
has_top (Hss (pair ∷ rest) identifier seed) trees these = omega arith
has_top (Xmss secret) trees these = absurd (cc)

level_inside : (key : Key) (records : List Record) (level place : ℕ) → IsLegal records → the_key records ≡ Some key → 0 < levels_of key.secret
    → IsTreeAt records level place → level < levels_of key.secret
level_inside key records zero place legal keyed some at = some
level_inside key records (suc level) place legal keyed some (extend, stands, of_level) =
    let (own, is, below, current_is, leaf) = legal.fits place (ExtendRecord extend) stands in
    subst (λ (k : Key). suc level < levels_of k.secret) (legal_key records key legal keyed) (omega (arith, of_level, below))

-- the height of the tree that stands at a place
pub height_of_tree : (key : Key) (trees : Trees) (records : List Record) (level place : ℕ) (spec : Spec) → IsLegal records → the_key records ≡ Some key
    → trees_of key.secret ≡ Some trees → spec ≡ types_of key.secret → IsTreeAt records level place
    → height_at spec level ≡ Some (height_of (secret_at trees records place).pair.tree)
height_of_tree key trees records level place spec legal keyed these same at =
    ap (λ s. height_at s level) same
    ∙ height_of_level key.secret trees level these (level_inside key records level place legal keyed (has_top key.secret trees these) at)
    ∙ ap (λ (pair : LmsPair). Some (height_of pair.tree)) (sym (pair_at key trees records level place (key_stands records key keyed) these at))

found_place : (secret : Secret) (records : List Record) (found : Option ℕ) (tree : Tree) → with_next secret records found ≡ Some tree → found ≡ Some tree.place
found_place secret records None tree is = absurd (none-some _ is)
found_place secret records (Some place) tree is = ap (λ (t : Tree). Some t.place) (same_Some _ tree is)

-- the height of a level's current tree
pub height_of_current : (key : Key) (trees : Trees) (records : List Record) (level : ℕ) (spec : Spec) (found : Option Tree) (tree : Tree) → IsLegal records
    → the_key records ≡ Some key → trees_of key.secret ≡ Some trees → spec ≡ types_of key.secret
    → found ≡ tree_at key.secret records level → found ≡ Some tree
    → height_at spec level ≡ Some (height_of (secret_at trees records tree.place).pair.tree)
height_of_current key trees records level spec found tree legal keyed these same is some =
    height_of_tree key trees records level tree.place spec legal keyed these same
    (tree_stands records level tree.place (found_place key.secret records (current level records) tree (sym is ∙ some)))

pub height_of_xmss : (secret : Secret) (own : XmssSecret) (spec : Spec) → secret ≡ Xmss own → spec ≡ types_of secret
    → height_at spec 0 ≡ Some (xmss_height_of own.tree)
height_of_xmss secret own spec of_key same = ap (λ s. height_at s 0) (same ∙ ap types_of of_key)

-- ---- the types of the records' key

pub types_are : (found : Option Key) (key : Key) (spec : Spec) → types_of_key found ≡ Some spec → found ≡ Some key → spec ≡ types_of key.secret
types_are found key spec types is = sym (same_Some _ spec (sym (ap types_of_key is) ∙ types))
