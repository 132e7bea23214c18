-- The draws of a new tree: all three fields, or the ones before the field at which the source failed.
use Rattle.std.proofs.Common.{◌≡◌, ◌∙◌, ℕ, ◌+◌, false, List, [], ◌∷◌, ◌++◌, length, Option, Some, None, Result, Ok, Err, refl, append_assoc, sym, ap, subst, append-nil, arith}
use Rattle.std.specs.List.{concat}
use Rattle.typecodes.specs.Layout.{AreBytes}
use Rattle.state_file.specs.declared.record.Record.{Record}
use Rattle.sign_core.specs.declared.fault.SignFault.{SignFault}
use Rattle.sign_core.specs.declared.fault.SignFault.TheVariants.{RandomRepeated, MessageRead, Moved, RetireRange, LongName, NoKey, Illegal, DeviceFailed, NoMemoryToOpen}
use Rattle.sign_core.specs.declared.fault.SignFault.TheVariants.{Changed, Exhausted, RandomFailed, StoreFailed, Stopped, Damaged, OutOfMemory, LedgerFull, Unreadable, KeyThere}
use Rattle.typecodes.specs.declared.secret.LmsSecret.{LmsSecret}
use Rattle.typecodes.specs.declared.types.LmsPair.{LmsPair}
use Rattle.sign_core.specs.inner.Source.{DrawsBytes}
use Rattle.sign_core.specs.Source.{Provides}
use Rattle.sign_core.specs.Records.{has_identifier}
use Rattle.sign_core.specs.Events.{AreFields, tree_sizes}
use Rattle.sign_core.specs.inner.Signing.{DrawsTree}

pub gives_both : (upcoming : Option (List ℕ)) (a : List ℕ) (between : Option (List ℕ)) (b : List ℕ) (left : Option (List ℕ)) → Provides upcoming a between → Provides between b left → Provides upcoming (a ++ b) left
gives_both None a None b left h k = k
gives_both None a (Some rest) b left h k = absurd (cc)
gives_both (Some upcoming) a None b left h k = absurd h
gives_both (Some upcoming) a (Some rest) b None h k = absurd k
gives_both (Some upcoming) a (Some rest) b (Some last) h k = h ∙ ap (λ l. a ++ l) k ∙ sym (append_assoc a b last)

-- a draw that fails answers 23, and gives nothing
pub draw_fails : (before after : ℕ) (upcoming left : Option (List ℕ)) (fault : SignFault) → DrawsBytes before after upcoming left (Err fault) → (fault ≡ RandomFailed) × (left ≡ upcoming)
draw_fails before after upcoming left RandomFailed (_, same) = (refl, same)
draw_fails before after upcoming left Changed h = absurd h
draw_fails before after upcoming left Exhausted h = absurd h
draw_fails before after upcoming left StoreFailed h = absurd h
draw_fails before after upcoming left Stopped h = absurd h
draw_fails before after upcoming left (Damaged k) h = absurd h
draw_fails before after upcoming left OutOfMemory h = absurd h
draw_fails before after upcoming left LedgerFull h = absurd h
draw_fails before after upcoming left (Unreadable k) h = absurd h
draw_fails before after upcoming left KeyThere h = absurd h
draw_fails before after upcoming left RandomRepeated h = absurd h
draw_fails before after upcoming left MessageRead h = absurd h
draw_fails before after upcoming left Moved h = absurd h
draw_fails before after upcoming left RetireRange h = absurd h
draw_fails before after upcoming left LongName h = absurd h
draw_fails before after upcoming left NoKey h = absurd h
draw_fails before after upcoming left (Illegal k) h = absurd h
draw_fails before after upcoming left DeviceFailed h = absurd h
draw_fails before after upcoming left NoMemoryToOpen h = absurd h

-- a field that was drawn: the source counts no failure, and gave its bytes
pub record Drawn (before after : ℕ) (upcoming left : Option (List ℕ)) (size : ℕ) (field : List ℕ) : Type 0 where
  pub draws : DrawsBytes before after upcoming left (Ok field)
  pub sized : length field ≡ size
  pub bytes : AreBytes field

fails_once : (before after : ℕ) (upcoming left : Option (List ℕ)) (fault : SignFault) → DrawsBytes before after upcoming left (Err fault) → after ≡ before + 1
fails_once before after upcoming left fault draws =
    (subst (λ (f : SignFault). DrawsBytes before after upcoming left (Err f)) (draw_fails before after upcoming left fault draws).0 draws).0

failed : (pair : LmsPair) (records : List Record) (before after : ℕ) (upcoming left : Option (List ℕ)) (fault : SignFault) (answer : Result (LmsSecret × List ℕ) SignFault)
    → fault ≡ RandomFailed → answer ≡ Err fault → DrawsTree pair records before after upcoming left (Err RandomFailed)
    → DrawsTree pair records before after upcoming left answer
failed pair records before after upcoming left fault answer is answers draws =
    subst (DrawsTree pair records before after upcoming left) (ap Err (sym is) ∙ sym answers) draws

pub seed_fails : (pair : LmsPair) (records : List Record) (before mid after : ℕ) (upcoming between left : Option (List ℕ)) (identifier : List ℕ) (fault : SignFault)
    (answer : Result (LmsSecret × List ℕ) SignFault)
    → Drawn before mid upcoming between 16 identifier → has_identifier records identifier ≡ false
    → DrawsBytes mid after between left (Err fault) → answer ≡ Err fault
    → DrawsTree pair records before after upcoming left answer
seed_fails pair records before mid after upcoming between left identifier fault answer first fresh draws answers =
    let fails = draw_fails mid after between left fault draws in
    let once : after ≡ mid + 1 = fails_once mid after between left fault draws in
    let gives : Provides upcoming (concat (identifier ∷ [])) left =
    subst (λ (bytes : List ℕ). Provides upcoming bytes left) (sym (append-nil identifier))
    (subst (Provides upcoming identifier) (sym fails.1) first.draws.1) in
    let sized : AreFields tree_sizes (identifier ∷ []) = (first.sized, first.bytes, tt) in
    failed pair records before after upcoming left fault answer fails.0 answers (
      identifier ∷ [],
      once ∙ ap (λ n. n + 1) first.draws.0,
      gives,
      sized,
      omega arith,
      λ other rest is. let same : identifier ≡ other = cc in ap (has_identifier records) (sym same) ∙ fresh,
    )

pub randomizer_fails : (pair : LmsPair) (records : List Record) (before mid after_two after : ℕ) (upcoming between last left : Option (List ℕ)) (identifier seed : List ℕ) (fault : SignFault)
    (answer : Result (LmsSecret × List ℕ) SignFault)
    → Drawn before mid upcoming between 16 identifier → has_identifier records identifier ≡ false → Drawn mid after_two between last 32 seed
    → DrawsBytes after_two after last left (Err fault) → answer ≡ Err fault
    → DrawsTree pair records before after upcoming left answer
randomizer_fails pair records before mid after_two after upcoming between last left identifier seed fault answer first fresh second draws answers =
    let fails = draw_fails after_two after last left fault draws in
    let once : after ≡ after_two + 1 = fails_once after_two after last left fault draws in
    let both : Provides upcoming (identifier ++ seed) last = gives_both upcoming identifier between seed last first.draws.1 second.draws.1 in
    let gives : Provides upcoming (concat (identifier ∷ seed ∷ [])) left =
    subst (λ (bytes : List ℕ). Provides upcoming (identifier ++ bytes) left) (sym (append-nil seed))
    (subst (Provides upcoming (identifier ++ seed)) (sym fails.1) both) in
    let sized : AreFields tree_sizes (identifier ∷ seed ∷ []) = (first.sized, first.bytes, (second.sized, second.bytes, tt)) in
    failed pair records before after upcoming left fault answer fails.0 answers (
      identifier ∷ seed ∷ [],
      once ∙ ap (λ n. n + 1) (second.draws.0 ∙ first.draws.0),
      gives,
      sized,
      omega arith,
      λ other rest is. let same : identifier ≡ other = cc in ap (has_identifier records) (sym same) ∙ fresh,
    )

pub all_drawn : (pair : LmsPair) (records : List Record) (before mid after_two after : ℕ) (upcoming between last left : Option (List ℕ)) (identifier seed randomizer : List ℕ) (secret : LmsSecret)
    → secret ≡ record { pair = pair; identifier = identifier; seed = seed }
    → Drawn before mid upcoming between 16 identifier → has_identifier records identifier ≡ false → Drawn mid after_two between last 32 seed
    → Drawn after_two after last left 32 randomizer
    → DrawsTree pair records before after upcoming left (Ok (secret, randomizer))
all_drawn pair records before mid after_two after upcoming between last left identifier seed randomizer secret made first fresh second third =
    subst (λ s. DrawsTree pair records before after upcoming left (Ok (s, randomizer))) (sym made) (
    let below : Provides between (seed ++ randomizer) left = gives_both between seed last randomizer left second.draws.1 third.draws.1 in
    let gives : Provides upcoming (identifier ++ (seed ++ randomizer)) left =
    gives_both upcoming identifier between (seed ++ randomizer) left first.draws.1 below in
    let sized : AreFields tree_sizes (identifier ∷ seed ∷ randomizer ∷ []) =
    (first.sized, first.bytes, (second.sized, second.bytes, (third.sized, third.bytes, tt))) in
    (third.draws.0 ∙ second.draws.0 ∙ first.draws.0, gives, sized, fresh, refl))
