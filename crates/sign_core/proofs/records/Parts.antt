-- Names that proofs give to parts of the specifications.
use Rattle.std.specs.Prelude.{ℕ, List, [], length, false, not, ◌&&◌, Option, option_map, unwrap_or, if◌then◌else◌}
use Rattle.std.specs.Option.{option_map_or}
use Rattle.lmots.specs.Key.{message_digest_of}
use Rattle.hss.specs.Writing.{signature_bytes as hss_signature_bytes, textbook as hss_textbook}
use Rattle.state_file.specs.declared.record.Bound.{Bound}
use Rattle.state_file.specs.declared.record.Key.{Key}
use Rattle.state_file.specs.declared.record.Record.{Record}
use Rattle.state_file.specs.declared.record.Secret.{Secret}
use Rattle.sign_core.specs.Events.{AreFields, tree_sizes}
use Rattle.sign_core.specs.Records.{can_move, next_leaf}
use Rattle.sign_core.specs.Textbook.{Trees, digest_at, secret_at, chain_signings}
use Rattle.sign_core.specs.World.{Draw, Migration, State, closed_state, migrated_list}
use Rattle.sign_core.specs.inner.KeyTrees.{signing_of_bound}

abbrev pub next_of : Secret → List Record → (tree : Option ℕ) → ℕ
next_of secret records tree = unwrap_or (option_map (next_leaf secret records) tree) 0

abbrev pub digest_under : Option Trees → List Record → (tree leaf : ℕ) → (randomizer message : List ℕ) → List ℕ
digest_under found records tree leaf randomizer message =
    unwrap_or (option_map (λ trees. message_digest_of (secret_at trees records tree).identifier leaf randomizer message) found) []

abbrev pub hss_signature_under : Option Trees → List Record → (level tree : ℕ) → Bound → List ℕ
hss_signature_under found records level tree bound =
    unwrap_or (option_map (λ trees. hss_signature_bytes (hss_textbook (chain_signings trees level records tree) (signing_of_bound trees records tree bound))) found) []

abbrev pub IsTreeDraw : Draw → Type 0
IsTreeDraw draw = AreFields tree_sizes draw.fields

abbrev pub new_bound : Key → List Record → (name : List ℕ) → (leaf : ℕ) → (randomizer message : List ℕ) → Bound
new_bound key records name leaf randomizer message =
    record { name = name; leaf = leaf; randomizer = randomizer; digest = digest_at key records (length records) leaf randomizer message }

abbrev pub migrated_key : State → Migration → Option Key → State
migrated_key state fate found =
    let can = option_map_or (λ (key : Key). can_move key.version) found false in
    if can && not state.is_open then closed_state (migrated_list state.records fate) else state
