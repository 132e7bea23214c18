-- The draws of a key's secret, one field after the other.
use Rattle.std.proofs.Common.{◌≡◌, ℕ, ◌+◌, List, [], ◌∷◌, ◌++◌, Some, None, Result, Ok, Err, refl, sym, ap, ◌∙◌, subst, append_assoc, append-nil}
use Rattle.std.specs.Prelude.{Option}
use Rattle.std.specs.List.{concat}
use Rattle.std.proofs.lemmas.List.Folds.{concat-append}
use Rattle.typecodes.specs.declared.spec.Spec.{Spec}
use Rattle.state_file.specs.declared.record.Secret.{Secret}
use Rattle.sign_core.specs.declared.fault.SignFault.{SignFault}
use Rattle.sign_core.specs.declared.fault.SignFault.TheVariants.{RandomRepeated, MessageRead, Moved, RetireRange, LongName, NoKey, Illegal, DeviceFailed, NoMemoryToOpen}
use Rattle.sign_core.specs.declared.fault.SignFault.TheVariants.{Changed, Exhausted, RandomFailed, StoreFailed, Stopped, Damaged, OutOfMemory, LedgerFull}
use Rattle.sign_core.specs.declared.fault.SignFault.TheVariants.{Unreadable, KeyThere}
use Rattle.sign_core.specs.declared.source.Source as source
use Rattle.sign_core.specs.inner.Source.{DrawsBytes}
use Rattle.sign_core.specs.Source.{Provides}
use Rattle.sign_core.specs.Events.{AreFields, key_sizes}
use Rattle.sign_core.specs.inner.Signer.{DrawsSecret}
use Rattle.sign_core.specs.World.{secret_of_fields}

pub provides_none : (upcoming : Option (List ℕ)) → Provides upcoming [] upcoming
provides_none None = refl
provides_none (Some upcoming) = refl

provides_both : (upcoming : Option (List ℕ)) (a : List ℕ) (between : Option (List ℕ)) (b : List ℕ) (left : Option (List ℕ)) → Provides upcoming a between
    → Provides between b left → Provides upcoming (a ++ b) left
provides_both None a None b left h k = k
provides_both None a (Some rest) b left h k = absurd (cc)
provides_both (Some upcoming) a None b left h k = absurd h
provides_both (Some upcoming) a (Some rest) b None h k = absurd k
provides_both (Some upcoming) a (Some rest) b (Some last) h k = h ∙ ap (λ l. a ++ l) k ∙ sym (append_assoc a b last)

-- These fields were drawn, and nothing failed.
pub record HasDrawn {R : Type 0} (r : source.Ghosts R) (old new : R) (fields : List (List ℕ)) : Type 0 where
  pub source : Provides (r.upcoming old) (concat fields) (r.upcoming new)
  pub failures : r.failures new ≡ r.failures old

abbrev pub Draws : {R : Type 0} → source.Ghosts R → (old new : R) → Result (List ℕ) SignFault → Type 0
Draws r old new answer = DrawsBytes (r.failures old) (r.failures new) (r.upcoming old) (r.upcoming new) answer

pub none_drawn : {R : Type 0} (r : source.Ghosts R) (random : R) → HasDrawn r random random []
none_drawn r random = record { source = provides_none (r.upcoming random); failures = refl }

pub more_drawn : {R : Type 0} (r : source.Ghosts R) (old mid new : R) (fields : List (List ℕ)) (field : List ℕ) → HasDrawn r old mid fields
    → Draws r mid new (Ok field) → HasDrawn r old new (fields ++ field ∷ [])
more_drawn r old mid new fields field so_far more =
    let one_more : concat (fields ++ field ∷ []) ≡ concat fields ++ field =
    concat-append fields (field ∷ []) ∙ ap (λ l. concat fields ++ l) (append-nil field) in
    record {
      source = subst (λ bytes. Provides (r.upcoming old) bytes (r.upcoming new)) (sym one_more)
          (provides_both _ (concat fields) _ field _ so_far.source more.1);
      failures = more.0 ∙ so_far.failures;
    }

pub all_drawn : {R : Type 0} (r : source.Ghosts R) (spec : Spec) (old new : R) (fields : List (List ℕ)) (secret : Secret) → HasDrawn r old new fields
    → AreFields (key_sizes spec) fields → secret_of_fields spec fields ≡ Some secret → DrawsSecret r spec old new (Ok secret)
all_drawn r spec old new fields secret has are is = record {
  fields = fields;
  drawn = is;
  possible = are;
  source = has.source;
  failures = has.failures;
}

pub draw_stops : {R : Type 0} (r : source.Ghosts R) (spec : Spec) (old mid new : R) (fields : List (List ℕ)) (fault : SignFault) → HasDrawn r old mid fields
    → AreFields (key_sizes spec) fields → secret_of_fields spec fields ≡ None → Draws r mid new (Err fault) → DrawsSecret r spec old new (Err fault)
draw_stops r spec old mid new fields RandomFailed has are is failed = record {
  fields = fields;
  drawn = is;
  possible = are;
  source = subst (λ left. Provides (r.upcoming old) (concat fields) left) (sym failed.1) has.source;
  failures = failed.0 ∙ ap (λ n. n + 1) has.failures;
}
draw_stops r spec old mid new fields StoreFailed has are is failed = absurd failed
draw_stops r spec old mid new fields OutOfMemory has are is failed = absurd failed
draw_stops r spec old mid new fields Changed has are is failed = absurd failed
draw_stops r spec old mid new fields Exhausted has are is failed = absurd failed
draw_stops r spec old mid new fields Stopped has are is failed = absurd failed
draw_stops r spec old mid new fields LedgerFull has are is failed = absurd failed
draw_stops r spec old mid new fields KeyThere has are is failed = absurd failed
draw_stops r spec old mid new fields RandomRepeated has are is failed = absurd failed
draw_stops r spec old mid new fields MessageRead has are is failed = absurd failed
draw_stops r spec old mid new fields Moved has are is failed = absurd failed
draw_stops r spec old mid new fields RetireRange has are is failed = absurd failed
draw_stops r spec old mid new fields LongName has are is failed = absurd failed
draw_stops r spec old mid new fields NoKey has are is failed = absurd failed
draw_stops r spec old mid new fields DeviceFailed has are is failed = absurd failed
draw_stops r spec old mid new fields NoMemoryToOpen has are is failed = absurd failed
draw_stops r spec old mid new fields (Damaged k) has are is failed = absurd failed
draw_stops r spec old mid new fields (Unreadable k) has are is failed = absurd failed
draw_stops r spec old mid new fields (Illegal k) has are is failed = absurd failed

-- `DrawsSecret` along an equal spec and an equal answer
pub draws_along : {R : Type 0} (r : source.Ghosts R) (old new : R) (spec spec' : Spec) (answer answer' : Result Secret SignFault) → spec ≡ spec' → answer ≡ answer'
    → DrawsSecret r spec old new answer → DrawsSecret r spec' old new answer'
draws_along r old new spec spec' answer answer' same is = subst (λ (t : Spec × Result Secret SignFault). DrawsSecret r t.0 old new t.1) (λ i. (same i, is i))
