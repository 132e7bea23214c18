-- Every event keeps the records sound and what was handed out recorded, and so does every run.
use Rattle.std.proofs.Common.{◌≡◌, refl, sym, subst, ℕ, zero, suc, ◌<◌, ◌≤◌, inr, true, false, List, [], ◌∷◌, ◌++◌}
use Rattle.std.proofs.Common.{length, Option, Some, None, arith}
use Rattle.std.specs.Prelude.{if◌then◌else◌, is_some, nat_le, nat_lt, slice_get}
use Rattle.std.specs.Cmp.Lexicographic.{bytes_decides}
use Rattle.std.proofs.lemmas.Bool.{and_from, le-leb, leb-false, ltb-false, not_from_false}
use Rattle.typecodes.specs.declared.spec.Spec.{Spec}
use Rattle.typecodes.specs.Spec.{IsSpec}
use Rattle.state_file.specs.Laws.{bottom_of, leaves_at}
use Rattle.state_file.specs.declared.record.Key.{Key}
use Rattle.state_file.specs.declared.record.Record.{Record}
use Rattle.state_file.specs.declared.record.Record.TheVariants.{Key as KeyRecord, Retire}
use Rattle.state_file.specs.declared.record.Secret.{Secret}
use Rattle.sign_core.specs.Records.{can_follow, current, has_moved, leaves_of_current, next_at}
use Rattle.sign_core.proofs.records.Parts.{next_of}
use Rattle.sign_core.specs.Events.{AllEvents, AreFields, IsEvent, key_sizes}
use Rattle.sign_core.specs.World.{Creation, Event, Fate, Handed, Opening, Outcome, State, World, after, beginning, create}
use Rattle.sign_core.specs.World.{create_steps, created, migrate, new_key, open_steps, opened, reopen, request, retire}
use Rattle.sign_core.specs.World.{retire_steps, retired, run, secret_of_fields, stop}
use Rattle.sign_core.proofs.steps.Holds.{holds}
use Rattle.sign_core.specs.Textbook.{HasSizes, SecretHasSizes, is_sound_at, key_root}
use Rattle.sign_core.proofs.records.FirstIllegal.{legal_alone}
use Rattle.sign_core.proofs.law.KeptByEvents.{IsKept, kept_empty, kept_grown}
use Rattle.sign_core.proofs.moves.KeptRecords.{kept_migrated}
use Rattle.sign_core.proofs.law.KeptByRequests.{kept_request}
use Rattle.sign_core.proofs.records.Sizes.{root_size, secret_sizes}
use Rattle.state_file.specs.declared.record.Version.{Version}

-- ---- the first record

key_sound : (version : Version) (secret : Secret) (k : ℕ) → is_sound_at (new_key version secret) (KeyRecord (new_key version secret) ∷ []) k ≡ true
key_sound version secret zero = (bytes_decides (key_root secret) (key_root secret)).1 refl
key_sound version secret (suc k) = refl

key_sizes_at : (version : Version) (secret : Secret) (k : ℕ) (entry : Record) → SecretHasSizes secret → slice_get (KeyRecord (new_key version secret) ∷ []) k ≡ Some entry → HasSizes entry
key_sizes_at version secret zero entry sizes is = let same : KeyRecord (new_key version secret) ≡ entry = cc in subst HasSizes same (sizes, root_size secret sizes)
key_sizes_at version secret (suc k) entry sizes is = absurd (cc)

-- nothing was handed out before
pub kept_key : (version : Version) (secret : Secret) (handed : List Handed) → SecretHasSizes secret → IsKept [] handed → IsKept (KeyRecord (new_key version secret) ∷ []) handed
kept_key version secret handed sizes kept = record {
  ground = inr (record { legal = legal_alone (new_key version secret); key = new_key version secret; keyed = refl; sound = key_sound version secret });
  sizes = λ k entry is. key_sizes_at version secret k entry sizes is;
  recorded = λ x there. let none = (kept.recorded x there).is_bound.keyed in absurd (cc);
}

-- ---- create

-- the outcome's records, with what was handed out before
abbrev After : {A : Type 0} → (handed : List Handed) → Outcome A → Type 0
After handed outcome = IsKept outcome.state.records handed

pub none_there : (records : List Record) → nat_le 1 (length records) ≡ false → records ≡ []
none_there [] short = refl
none_there (first ∷ rest) short = absurd (omega (arith, leb-false 1 (length (first ∷ rest)) short))

after_created : (state : State) (handed : List Handed) (spec : Spec) (chance : Creation) → IsSpec spec
    → AreFields (key_sizes spec) chance.fields → IsKept state.records handed → After handed (created state spec chance)
after_created state handed spec chance can fields kept =
    holds (After handed) (create_steps spec chance) state (
      λ fault failed. kept,
      λ loaded. (
        λ there. kept,
        λ short. (
          λ none. kept,
          λ made is. (
            λ none. kept,
            λ room. (
              λ done. (λ none. more short made is, λ known some. more short made is),
              λ old. kept,
              λ new. more short made is,
              λ none. kept,
            ),
          ),
        ),
      ),
    )
  where
    more : nat_le 1 (length state.records) ≡ false → (made : Secret) → secret_of_fields spec chance.fields ≡ Some made
        → IsKept (state.records ++ KeyRecord (new_key chance.version made) ∷ []) handed
    more short made is =
        let empty = none_there state.records short in
        let entry = KeyRecord (new_key chance.version made) in
        let sizes = secret_sizes spec chance.fields made can fields is in
        subst (λ records. IsKept (records ++ entry ∷ []) handed) (sym empty)
        (kept_key chance.version made handed sizes (subst (λ records. IsKept records handed) empty kept))

-- ---- open

after_opened : (state : State) (handed : List Handed) (chance : Opening) → IsKept state.records handed
    → After handed (opened state chance)
after_opened state handed chance kept =
    holds (After handed) (open_steps chance) state (λ fault some. kept, λ none. (λ none. kept, λ known some. kept))

-- ---- retire

retire_there : (found : Option ℕ) (secret : Secret) (records : List Record) (leaves upto : ℕ) → upto ≤ (if is_some found then leaves else 0)
    → next_of secret records found < upto
    → (is_some found ≡ true) × (upto ≤ leaves)
retire_there (Some tree) secret records leaves upto inside beyond = (refl, inside)
retire_there None secret records leaves upto inside beyond = absurd (omega (arith, inside, beyond))

pub retire_can : (key : Key) (records : List Record) (upto : ℕ) → has_moved records ≡ false
    → nat_lt (leaves_of_current key.secret records (bottom_of key.secret)) upto ≡ false
    → nat_le upto (next_at key.secret records (bottom_of key.secret)) ≡ false → can_follow (Some key) records (Retire upto) ≡ true
retire_can key records upto stays inside beyond =
    let bottom = bottom_of key.secret in
    let (there, within) = retire_there (current bottom records) key.secret records (leaves_at key.secret bottom) upto
    (ltb-false (leaves_of_current key.secret records bottom) upto inside) (leb-false upto (next_at key.secret records bottom) beyond) in
    and_from _ _ (not_from_false _ stays) (and_from _ _ there (le-leb upto (leaves_at key.secret bottom) within))

after_retired : (limit : ℕ) (state : State) (handed : List Handed) (upto : ℕ) (fate : Fate)
    → IsKept state.records handed → After handed (retired limit state upto fate)
after_retired limit state handed upto fate kept =
    holds (After handed) (retire_steps limit upto fate) state (
      λ none. kept,
      λ key keyed. (
        λ closed. kept,
        λ open_now. (
          λ moved. kept,
          λ stays. (
            λ outside. kept,
            λ inside. (
              λ past. kept,
              λ beyond.
                  let more = kept_grown state.records handed key (Retire upto) kept keyed
                  (retire_can key state.records upto stays inside beyond) refl tt in
                  (λ full. kept, λ fits. (λ done. more, λ old. kept, λ new. more, λ none. kept)),
            ),
          ),
        ),
      ),
    )

-- ---- runs

pub kept_after : (limit : ℕ) (world : World) (event : Event) → IsEvent event → IsKept world.state.records world.handed
    → IsKept (after limit world event).state.records (after limit world event).handed
kept_after limit world (create spec chance) can kept = after_created world.state world.handed spec chance can.0 can.1 kept
kept_after limit world (reopen chance) can kept = after_opened world.state world.handed chance kept
kept_after limit world (request name chance) can kept = kept_request limit world.state world.handed name chance can.1 kept
kept_after limit world (retire upto fate) can kept = after_retired limit world.state world.handed upto fate kept
kept_after limit world (migrate fate) can kept = kept_migrated world.state world.handed fate kept
kept_after limit world stop can kept = kept

kept_along : (limit : ℕ) (world : World) (events : List Event) → AllEvents events → IsKept world.state.records world.handed
    → IsKept (run limit world events).state.records (run limit world events).handed
kept_along limit world [] all kept = kept
kept_along limit world (event ∷ events) all kept = kept_along limit (after limit world event) events all.1 (kept_after limit world event all.0 kept)

pub kept_by_run : (limit : ℕ) (events : List Event) → AllEvents events → IsKept (run limit beginning events).state.records (run limit beginning events).handed
kept_by_run limit events all = kept_along limit beginning events all kept_empty
