-- What one signer handed out passes every check of given signatures.
use Rattle.std.proofs.Common.{List, refl, sym, subst}
use Rattle.state_file.specs.declared.disk.Disk as disk
use Rattle.state_file.specs.declared.store.Store as store
use Rattle.state_file.specs.declared.store.file_store.FileStore.{FileStore}
use Rattle.sign_core.specs.declared.key.AnyPublic.{AnyPublic}
use Rattle.sign_core.specs.declared.source.Source as source
use Rattle.sign_core.specs.Headline.{IsValidUnder, LeafUse, MakesUses}
use Rattle.sign_core.specs.HeadlineOfCalls.{AreSignedOnce, HeadlineOfCalls, HeadlineOfMoved, IsHanded}
use Rattle.sign_core.specs.World.{Handed}
use Rattle.key_audit.specs.declared.given.Given.{Given}
use Rattle.key_audit.specs.declared.given.GivenFault.TheVariants.{NotValid, LeafTwice, OutOfMemory}
use Rattle.key_audit.specs.Given.{IsValidGiven, UseLeafTwice, Uses}
use Rattle.key_audit.specs.Runs.{IsHandedOut, IsNeverRefused, MovedRunsLaw, RunsLaw}

was_handed : (all : List Handed) (public : AnyPublic) (each : Given) (out : IsHandedOut all each) (used : LeafUse) → (by : Uses public each used)
    → IsHanded public all out.x by.0
was_handed all public each out used (uses, makes, contains) = record {
  handed = out.contains;
  makes = subst (λ m. MakesUses public m out.x.signature uses) (sym out.message)
      (subst (λ s. MakesUses public each.message.items s uses) (sym out.signature) makes);
}

none_twice : (all : List Handed) (public : AnyPublic) (a b : Given) → AreSignedOnce public all → IsHandedOut all a → IsHandedOut all b
    → UseLeafTwice public a b → ⊥
none_twice all public a b once of_a of_b twice =
    twice.digests (once.one_digest of_a.x of_b.x twice.by_a.0 twice.by_b.0 twice.first twice.second
    (was_handed all public a of_a twice.first twice.by_a) (was_handed all public b of_b twice.second twice.by_b) twice.by_a.2 twice.by_b.2 twice.leaf)

valid_out : (all : List Handed) (public : AnyPublic) (each : Given) → AreSignedOnce public all → IsHandedOut all each → IsValidGiven public each
valid_out all public each once out = record {
  verifies = subst (λ m. IsValidUnder public m each.signature.items) out.message
      (subst (λ s. IsValidUnder public out.x.message s) out.signature (once.valid out.x out.contains));
  short = out.short;
}

never_refused : (public : AnyPublic) (all : List Handed) → AreSignedOnce public all → IsNeverRefused public all
never_refused public all once given (NotValid i) each is = absurd (is.not_valid (valid_out all public is.each once (each i is.each is.stands)))
never_refused public all once given (LeafTwice i j) each is =
    let twice = is.1.twice in
    absurd (none_twice all public twice.a twice.b once (each i twice.a twice.at_i) (each j twice.b twice.at_j) twice.twice)
never_refused public all once given OutOfMemory each is = refl

pub runs_law : {D E R : Type 0} (d : disk.Ghosts D) (e : disk.Ghosts E) (g : store.Ghosts (FileStore D d)) (r : source.Ghosts R)
    → HeadlineOfCalls d e g r → RunsLaw d e g r
runs_law d e g r law history is public given = never_refused public _ ((law history is).once public given)

pub moved_law : {D E R : Type 0} (d : disk.Ghosts D) (e : disk.Ghosts E) (g : store.Ghosts (FileStore D d)) (h : store.Ghosts (FileStore E e))
    (r : source.Ghosts R) → HeadlineOfMoved d e g h r → MovedRunsLaw d e g h r
moved_law d e g h r law moved is public given = never_refused public _ ((law moved is).once public given)
