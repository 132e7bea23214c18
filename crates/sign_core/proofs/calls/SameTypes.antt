-- The types of a key's trees stay, whatever is answered.
use Rattle.std.proofs.Common.{◌≡◌, ◌∙◌, ap, sym, ℕ, List, [], ◌∷◌, ◌++◌, Some, Result}
use Rattle.typecodes.specs.declared.spec.Spec.{Spec}
use Rattle.state_file.specs.declared.record.Record.{Record}
use Rattle.state_file.specs.declared.record.Record.TheVariants.{Key as KeyRecord, Extend as ExtendRecord, Bound as BoundRecord, Retire, Moved}
use Rattle.state_file.specs.declared.store.Store as store
use Rattle.sign_core.specs.declared.fault.SignFault.{SignFault}
use Rattle.sign_core.specs.declared.serving.Reply.{Reply}
use Rattle.sign_core.specs.declared.serving.Reply.TheVariants.{BadName, Refused, Signed}
use Rattle.sign_core.specs.declared.source.Source as source
use Rattle.sign_core.specs.Frames.{Request}
use Rattle.sign_core.specs.Progress.{types_of_key}
use Rattle.sign_core.specs.Records.{the_key}
use Rattle.sign_core.specs.Serving.{AnswersBy, AnswersInTurn, Exchange}
use Rattle.sign_core.specs.Signer.{AnswersRequest, View, state_of}
use Rattle.sign_core.specs.World.{Outcome}
use Rattle.sign_core.proofs.law.Lasting.{acknowledges_more}

types_stay : (xs ys : List Record) (spec : Spec) → types_of_key (the_key xs) ≡ Some spec → types_of_key (the_key (xs ++ ys)) ≡ Some spec
types_stay [] ys spec is = absurd (cc)
types_stay (KeyRecord first ∷ rest) ys spec is = is
types_stay (ExtendRecord extend ∷ rest) ys spec is = absurd (cc)
types_stay (BoundRecord bound ∷ rest) ys spec is = absurd (cc)
types_stay (Retire upto ∷ rest) ys spec is = absurd (cc)
types_stay (Moved ∷ rest) ys spec is = absurd (cc)

request_keeps : {S R : Type 0} (g : store.Ghosts S) (r : source.Ghosts R) (old new : View S R) (name : List ℕ) (capacity : ℕ)
    (answer : Result (List ℕ) SignFault) (spec : Spec) → AnswersRequest g r old new name capacity answer
    → types_of_key (the_key old.records) ≡ Some spec → types_of_key (the_key new.records) ≡ Some spec
request_keeps g r old new name capacity answer spec answers types =
    let (more, are) = acknowledges_more (g.most old.store) (state_of old) name answers.chance in
    ap (λ l. types_of_key (the_key l)) (answers.ends.records ∙ ap (λ (o : Outcome (List ℕ)). o.acknowledged) (sym answers.step) ∙ are)
    ∙ types_stay old.records more spec types

reply_keeps : {S R : Type 0} (g : store.Ghosts S) (r : source.Ghosts R) (reply : Reply) (signature : List ℕ) (request : Request) (old new : View S R)
    (capacity : ℕ) (spec : Spec) → AnswersBy g r reply signature request old new capacity
    → types_of_key (the_key old.records) ≡ Some spec → types_of_key (the_key new.records) ≡ Some spec
reply_keeps g r Signed signature request old new capacity spec (name, signs) types = request_keeps g r old new _ _ _ spec signs.answers types
reply_keeps g r (Refused fault) signature request old new capacity spec (name, signs) types = request_keeps g r old new _ _ _ spec signs.answers types
reply_keeps {S = S} {R = R} g r BadName signature request old new capacity spec (none, same) types =
    ap (λ (w : View S R). types_of_key (the_key w.records)) same ∙ types

pub exchanges_keep : {S R : Type 0} (g : store.Ghosts S) (r : source.Ghosts R) (exchanges : List Exchange) (old new : View S R) (capacity after : ℕ)
    (spec : Spec) → AnswersInTurn g r exchanges old new capacity after
    → types_of_key (the_key old.records) ≡ Some spec → types_of_key (the_key new.records) ≡ Some spec
exchanges_keep {S = S} {R = R} g r [] old new capacity after spec (same, room) types =
    ap (λ (w : View S R). types_of_key (the_key w.records)) same ∙ types
exchanges_keep g r (first ∷ later) old new capacity after spec (next, room, (grows, answers, caches, signer), rest) types =
    exchanges_keep g r later next new room after spec rest (reply_keeps g r first.reply first.signature first.request old next capacity spec answers types)
