-- Runs of the world lead to what a migration leaves at either place.
use Rattle.std.proofs.Common.{◌≡◌, ◌∙◌, sym, subst, ℕ, ◌⊎◌, inl, inr, IsTrue, List, Result, Ok}
use Rattle.state_file.specs.declared.disk.Disk as disk
use Rattle.state_file.specs.declared.migration.MigrateFault.{MigrateFault}
use Rattle.state_file.specs.declared.record.Record.{Record}
use Rattle.state_file.specs.Carried.{carried, with_moved}
use Rattle.state_file.specs.Disk.{MayLeave}
use Rattle.state_file.specs.File.{HasNoKey, SpellsRecords, StandsFor}
use Rattle.state_file.specs.inner.FileStore.{stands_one, synced_left}
use Rattle.sign_core.specs.Lives.{CanMigrate, IsAtStart, LedTo}
use Rattle.sign_core.specs.Migration.{Migrates}
use Rattle.sign_core.specs.Moves.{MovesLaw}
use Rattle.sign_core.specs.OldFile.{SpellsMovable}
use Rattle.sign_core.specs.SignerCalls.{world_of}
use Rattle.sign_core.specs.World.{Handed, beginning, closed_state}
use Rattle.sign_core.specs.Calls.{IsRun}
use Rattle.sign_core.proofs.calls.AppendMoments.{version_of_key}
use Rattle.sign_core.proofs.records.CanFollow.{key_first}
use Rattle.sign_core.proofs.calls.Lives.{KeepsTime, migrates, spelled_stands}

-- records that can move are of a key of version 1
pub can_migrate : (content : List ℕ) (records : List Record) → SpellsMovable content records → CanMigrate records
can_migrate content records is =
    let keyed = key_first records is.legal.key is.legal.first in
    (is.legal.key, keyed, sym (version_of_key records is.legal.key keyed) ∙ is.version)

module _ {D E : Type 0} (d : disk.Ghosts D) (e : disk.Ghosts E) (time : KeepsTime d) (limit : ℕ) (handed : List Handed) (old : D)
    (starts : IsAtStart d (LedTo limit handed) old) where
  led : LedTo limit handed (d.state old).content
  led = starts.holds (d.state old).content (time.shows old starts.honest)

  -- runs lead to each content that stands for its records
  led_on : (records : List Record) (c : List ℕ) → SpellsMovable (d.state old).content records → StandsFor records c → LedTo limit handed c
  led_on records c is stands =
      let same : led.records ≡ records =
      stands_one led.records records (d.state old).content led.stands (spelled_stands records (d.state old).content is.spelled) in
      record {
        records = records;
        stands = stands;
        runs = subst (λ l. IsRun limit beginning (world_of (closed_state l) handed)) same led.runs;
      }

  led_over : (records : List Record) (c : List ℕ) → SpellsMovable (d.state old).content records
      → StandsFor (carried records) c ⊎ StandsFor (with_moved records) c → LedTo limit handed c
  led_over records c is there =
      migrates limit handed records (d.state old).content c led (spelled_stands records (d.state old).content is.spelled)
      (can_migrate (d.state old).content records is) there

  module _ (old_after : D) (new new_after : E) (answer : Result ℕ MigrateFault) (moves : Migrates d e old new old_after new_after answer) where
    old_place : (c : List ℕ) → d.left_since old_after (d.moment old) c → LedTo limit handed c
    old_place c since = elim ((moves.old_moments starts.honest).each c since) as (λ u. LedTo limit handed c) [
      | inl may ↦ starts.holds c may
      | inr (records, is, inl stands, changes) ↦ led_on records c is stands
      | inr (records, is, inr stands, changes) ↦ led_over records c is (inr stands)
    ]

    new_place : IsTrue (e.honest new) → (c : List ℕ) → e.left_since new_after (e.moment new) c → MayLeave (e.state new) c ⊎ HasNoKey c ⊎ LedTo limit handed c
    new_place honest c since = elim ((moves.new_moments honest).each c since) as (λ u. MayLeave (e.state new) c ⊎ HasNoKey c ⊎ LedTo limit handed c) [
      | inl may ↦ inl may
      | inr (records, is, fills) ↦ elim (fills.kind starts.honest) as (λ u. MayLeave (e.state new) c ⊎ HasNoKey c ⊎ LedTo limit handed c) [
        | inl none ↦ inr (inl none)
        | inr spelled ↦ inr (inr (led_over records c (is starts.honest) (inl (spelled_stands (carried records) c spelled))))
      ]
    ]

  done : (old_after : D) (new new_after : E) (n : ℕ) → Migrates d e old new old_after new_after (Ok n) → IsTrue (e.honest new)
      → (c : List ℕ) → MayLeave (e.state new_after) c → LedTo limit handed c
  done old_after new new_after n moves honest c may =
      let (records, is, _, _, _) = moves.answers_old starts.honest in
      let (synced, spelled) = moves.carries starts.honest honest records is.spelled in
      let same : c ≡ (e.state new_after).content = synced_left (e.state new_after).content c (subst (λ s. MayLeave s c) synced may) in
      led_over records c is (inl (spelled_stands (carried records) c (subst (λ l. SpellsRecords l (carried records)) (sym same) spelled)))

pub moves_law : {D E : Type 0} (d : disk.Ghosts D) (e : disk.Ghosts E) → KeepsTime d → MovesLaw d e
moves_law d e time = record {
  old_place = λ limit handed old old_after new new_after answer starts moves.
      old_place d e time limit handed old starts old_after new new_after answer moves;
  new_place = λ limit handed old old_after new new_after answer starts honest moves.
      new_place d e time limit handed old starts old_after new new_after answer moves honest;
  done = λ limit handed old old_after new new_after n starts honest moves. done d e time limit handed old starts old_after new new_after n moves honest;
}
