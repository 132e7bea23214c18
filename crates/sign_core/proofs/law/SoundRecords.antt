-- Each event leaves sound records.
use Rattle.std.proofs.Common.{◌≡◌, ◌∙◌, ap, sym, subst, ℕ, ◌⊎◌, inl, inr, List, [], ◌∷◌, ◌++◌, Some, arith}
use Rattle.typecodes.specs.declared.spec.Spec.{Spec}
use Rattle.state_file.specs.declared.record.Key.{Key}
use Rattle.state_file.specs.declared.record.Record.{Record}
use Rattle.sign_core.specs.Records.{the_key}
use Rattle.sign_core.specs.Sound.{AreWhole, SoundLaw}
use Rattle.sign_core.specs.Events.{IsEvent}
use Rattle.sign_core.specs.Lasting.{lasting}
use Rattle.sign_core.specs.Textbook.{AllHaveSizes, AreSound}
use Rattle.sign_core.specs.World.{Creation, Event, State, World, after, create, created}
use Rattle.sign_core.proofs.law.KeptByRuns.{kept_after}
use Rattle.sign_core.proofs.law.Lasting.{carries_along}
use Rattle.state_file.specs.declared.record.Record.TheVariants.{Key as KeyRecord, Extend as ExtendRecord, Bound as BoundRecord, Retire, Moved}
use Rattle.sign_core.proofs.law.KeptByEvents.{IsKept, kept_empty}
use Rattle.sign_core.proofs.law.OpenedRecords.{after_state, silent}

none_handed : (records : List Record) → AreWhole records → IsKept records []
none_handed records whole = record {
  ground = inr whole.sound;
  sizes = whole.sizes;
  recorded = λ x (k, within, at). absurd (omega arith);
}

-- records that begin with a key's aren't empty
some_left : (records more left : List Record) (key : Key) → the_key records ≡ Some key → lasting left ≡ lasting records ++ more → left ≡ [] → ⊥
some_left [] more left key keyed grown empty = cc
some_left (KeyRecord own ∷ records) more left key keyed grown empty = let none = sym (ap lasting empty) ∙ grown in cc
some_left (ExtendRecord extend ∷ records) more left key keyed grown empty = cc
some_left (BoundRecord bound ∷ records) more left key keyed grown empty = cc
some_left (Retire upto ∷ records) more left key keyed grown empty = cc
some_left (Moved ∷ records) more left key keyed grown empty = cc

stays : (limit : ℕ) (world : World) (event : Event) → IsEvent event → AreWhole world.state.records → AreWhole (after limit world event).state.records
unfolding silent
stays limit world event can whole =
    let kept = kept_after limit (silent world.state) event can (none_handed world.state.records whole) in
    let same = after_state limit world event in
    let left = (after limit world event).state.records in
    let extends = carries_along limit world (event ∷ []) in
    let ground = subst (λ (s : State). (s.records ≡ []) ⊎ AreSound s.records) same kept.ground in
    record {
      sound = elim ground as (λ u. AreSound left) [
        | inl empty ↦ absurd (some_left world.state.records extends.records left whole.sound.key whole.sound.keyed extends.records_are empty)
        | inr sound ↦ sound
      ];
      sizes = subst (λ (s : State). AllHaveSizes s.records) same kept.sizes;
    }

begins : (state : State) (spec : Spec) (chance : Creation) → IsEvent (create spec chance) → state.records ≡ []
    → ((created state spec chance).state.records ≡ []) ⊎ AreWhole (created state spec chance).state.records
begins state spec chance can empty =
    let kept = kept_after 0 (record { state = state; handed = [] }) (create spec chance) can (subst (λ l. IsKept l []) (sym empty) kept_empty) in
    elim kept.ground as (λ u. ((created state spec chance).state.records ≡ []) ⊎ AreWhole (created state spec chance).state.records) [
      | inl none ↦ inl none
      | inr sound ↦ inr (record { sound = sound; sizes = kept.sizes })
    ]

pub sound_law : SoundLaw
sound_law = record { stays = stays; begins = begins }
