-- The requests of a serve are calls, one after the other.
use Rattle.std.proofs.Common.{◌≡◌, ◌∙◌, refl, sym, ap, subst, ℕ, Bool, true, false, List, [], ◌∷◌, ◌++◌}
use Rattle.std.proofs.Common.{Some, None, Ok, Err}
use Rattle.std.specs.Prelude.{IsSome, if◌then◌else◌, unwrap_or}
use Rattle.typecodes.specs.declared.message.Message as message
use Rattle.state_file.specs.declared.store.Store as store
use Rattle.sign_core.specs.declared.serving.Reply.{Reply}
use Rattle.sign_core.specs.declared.serving.Reply.TheVariants.{BadName, Refused, Signed}
use Rattle.sign_core.specs.declared.source.Source as source
use Rattle.sign_core.specs.Frames.{Request, given_message}
use Rattle.sign_core.specs.Serving.{AnswersBy, AnswersInTurn, Exchange, SignsGiven}
use Rattle.sign_core.specs.Sessions.{AreCallsOf, ServeLaw, handed_of, signs, with_signer}
use Rattle.sign_core.specs.Signer.{IsSigner, View, state_of}
use Rattle.sign_core.specs.World.{Handed, Outcome, requested}
use Rattle.sign_core.proofs.law.DrawsOfRequests.{signed_read}

-- what a message gave is its text, where it gave one
text_given : (whole : Bool) (text : List ℕ) → IsSome (if whole then Some text else None)
    → unwrap_or (if whole then Some text else None) [] ≡ text
text_given true text some = refl
text_given false text none = absurd (cc)

module _ {S R : Type 0} (g : store.Ghosts S) (r : source.Ghosts R) where
  given_text : (old new : View S R) (request : Request) (capacity : ℕ) (signature : List ℕ)
      → SignsGiven g r old new request.name (given_message request) capacity (Ok signature)
      → unwrap_or (given_message request) [] ≡ request.message
  given_text old new request capacity signature does =
      let limit = g.most old.store in
      let chance = does.answers.chance in
      let step : requested limit (state_of old) request.name chance ≡ does.answers.outcome = does.answers.step in
      let answered : (requested limit (state_of old) request.name chance).answer ≡ Ok signature =
      ap (λ (o : Outcome (List ℕ)). o.answer) step ∙ does.answers.ends.answer_is in
      let (some, read) = signed_read limit (state_of old) request.name signature chance answered in
      let given : chance.given ≡ given_message request =
      does.message (ap (λ (o : Outcome (List ℕ)). o.is_read) (sym step) ∙ read) in
      text_given request.is_whole request.message (subst IsSome given some)

  -- a request comes before the calls of later ones
  call_before : (reply : Reply) (signature : List ℕ) (request : Request) (later : List Exchange) (old next new : View S R)
      (capacity : ℕ) → AnswersBy g r reply signature request old next capacity → IsSigner g next
      → AreCallsOf g r later next new
      → AreCallsOf g r (record { request = request; reply = reply; signature = signature } ∷ later) old new
  call_before Signed signature request later old next new capacity (named, does) signer rest =
      let given = given_message request in
      let hands : List ℕ → List Handed =
      λ text. record { name = request.name; message = text; signature = signature } ∷ [] in
      record {
        calls = signs next request.name given capacity (Ok signature) ∷ rest.calls;
        each = ((named, does), signer, rest.each);
        last = rest.last;
        asked = (next, capacity, rest.calls, refl, rest.asked);
        handed = ap (λ text. hands text ++ handed_of rest.calls) (given_text old next request capacity signature does)
            ∙ ap (λ all. hands request.message ++ all) rest.handed;
      }
  call_before (Refused fault) signature request later old next new capacity (named, does) signer rest = record {
    calls = signs next request.name (given_message request) capacity (Err fault) ∷ rest.calls;
    each = ((named, does), signer, rest.each);
    last = rest.last;
    asked = (next, capacity, rest.calls, refl, rest.asked);
    handed = rest.handed;
  }
  call_before BadName signature request later old next new capacity (unnamed, same) signer rest =
      let own = subst (λ view. AreCallsOf g r later view new) same rest in
      record { calls = own.calls; each = own.each; last = own.last; asked = own.asked; handed = own.handed }

  calls_in_turn : (exchanges : List Exchange) (old new : View S R) (capacity after : ℕ)
      → AnswersInTurn g r exchanges old new capacity after → AreCallsOf g r exchanges old new
  calls_in_turn [] old new capacity after (same, room) =
      record { calls = []; each = tt; last = ap with_signer (sym same); asked = refl; handed = refl }
  calls_in_turn (first ∷ later) old new capacity after (next, room, (grows, answers, caches, signer), rest) =
      call_before first.reply first.signature first.request later old next new capacity answers signer
      (calls_in_turn later next new room after rest)

pub serve_law : {S R I : Type 0} (g : store.Ghosts S) (r : source.Ghosts R) (m : message.Ghosts I) → ServeLaw g r m
serve_law g r m old new before later contents left result serves =
    calls_in_turn g r serves.exchanges old new 0 serves.capacity serves.answers
