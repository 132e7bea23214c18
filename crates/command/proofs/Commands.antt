-- The commands: the shape of each, how many values it waits for, and the line of a task.
use Rattle.std.proofs.Common.{◌≡◌, ◌∙◌, List, [], ◌∷◌, Some, None, true, refl, ap}
use Rattle.clap.specs.Walk.{nothing_held}
use Rattle.clap.specs.Words.{Text}
use Rattle.clap.proofs.OnLiterals.{clap_on_literals}
use Rattle.command.specs.Audit.{audit_app}
use Rattle.command.specs.AuditGiven.{audit_given_app}
use Rattle.command.specs.Line.{FindsTask, IsLineOf, Task, audit, audit_given, list, make, migrate, publish, retire, retire_number, serve, sign, verify}
use Rattle.command.specs.ListState.{list_app}
use Rattle.command.specs.Make.{make_app}
use Rattle.command.specs.Migrate.{migrate_app}
use Rattle.command.specs.Public.{public_app}
use Rattle.command.specs.Retire.{retire_app}
use Rattle.command.specs.Serve.{serve_app}
use Rattle.command.specs.Sign.{sign_app}
use Rattle.command.specs.Verify.{verify_app}
use Rattle.command.proofs.Walking.{Command, Enters, Offers, Takes, after_value, finds_taken, finds_values, shape, wants_value}

pub make_command : Command make_app 3
unfolding clap_on_literals
make_command = record {
  enters = record { step = refl; well = refl; rows = λ words. refl; fault = λ words. refl };
  waits = (refl, refl, λ state. (refl, refl, λ public. (refl, refl, λ spec. (refl, refl))));
}

pub sign_command : Command sign_app 4
unfolding clap_on_literals
sign_command = record {
  enters = record { step = refl; well = refl; rows = λ words. refl; fault = λ words. refl };
  waits = (refl, refl, λ state. (refl, refl, λ name. (refl, refl, λ message. (refl, refl, λ out. (refl, refl)))));
}

pub verify_command : Command verify_app 3
unfolding clap_on_literals
verify_command = record {
  enters = record { step = refl; well = refl; rows = λ words. refl; fault = λ words. refl };
  waits = (refl, refl, λ public. (refl, refl, λ message. (refl, refl, λ signature. (refl, refl))));
}

pub retire_command : Command retire_app 2
unfolding clap_on_literals
retire_command = record {
  enters = record { step = refl; well = refl; rows = λ words. refl; fault = λ words. refl };
  waits = (refl, refl, λ state. (refl, refl, λ upto. (refl, refl)));
}

pub audit_command : Command audit_app 1
unfolding clap_on_literals
audit_command = record {
  enters = record { step = refl; well = refl; rows = λ words. refl; fault = λ words. refl };
  waits = (refl, refl, λ state. (refl, refl));
}

pub enters_audit_given : Enters audit_given_app.top.name (shape audit_given_app)
unfolding clap_on_literals
enters_audit_given = record { step = refl; well = refl; rows = λ words. refl; fault = λ words. refl }

pub serve_command : Command serve_app 1
unfolding clap_on_literals
serve_command = record {
  enters = record { step = refl; well = refl; rows = λ words. refl; fault = λ words. refl };
  waits = (refl, refl, λ state. (refl, refl));
}

pub migrate_command : Command migrate_app 2
unfolding clap_on_literals
migrate_command = record {
  enters = record { step = refl; well = refl; rows = λ words. refl; fault = λ words. refl };
  waits = (refl, refl, λ old. (refl, refl, λ new. (refl, refl)));
}

-- `list` takes one value or two.
pub enters_list : Enters list_app.top.name (shape list_app)
unfolding clap_on_literals
enters_list = record { step = refl; well = refl; rows = λ words. refl; fault = λ words. refl }

pub list_wants_file : wants_value (shape list_app) 1 nothing_held ≡ true
unfolding clap_on_literals
list_wants_file = refl

pub list_offers : (file : Text) → Offers (shape list_app) 2 (after_value (shape list_app) 1 file nothing_held)
unfolding clap_on_literals
list_offers file = (refl, refl, λ public. (refl, refl))

pub list_takes_file : Takes (shape list_app) 1 1 nothing_held
unfolding clap_on_literals
list_takes_file = (refl, λ file. refl)

pub list_takes_both : Takes (shape list_app) 2 1 nothing_held
unfolding clap_on_literals
list_takes_both = (refl, λ file. (refl, λ public. refl))

pub public_command : Command public_app 2
unfolding clap_on_literals
public_command = record {
  enters = record { step = refl; well = refl; rows = λ words. refl; fault = λ words. refl };
  waits = (refl, refl, λ state. (refl, refl, λ path. (refl, refl)));
}

-- The line of a task has no fault, and `clap` finds the task.
pub finds_task : (words : List Text) (task : Task) → IsLineOf words task → FindsTask words task
finds_task words (make state public spec version random) found = found
finds_task words (sign state name message out random) found = found
finds_task words (verify public message signature) line =
    finds_values verify_app (public ∷ message ∷ signature ∷ []) verify_command words line
finds_task words (retire state upto) (text, spells, line) =
    let (none, found) = finds_values retire_app (state ∷ text ∷ []) retire_command words line in
    (none, found ∙ ap (retire_number state) spells)
finds_task words (audit state anchor) found = found
finds_task words (audit_given public files) found = found
finds_task words (serve state random) found = found
finds_task words (migrate old new) line = finds_values migrate_app (old ∷ new ∷ []) migrate_command words line
finds_task words (list file None) line = finds_taken list_app (file ∷ []) enters_list list_takes_file words line
finds_task words (list file (Some public)) line = finds_taken list_app (file ∷ public ∷ []) enters_list list_takes_both words line
finds_task words (publish state path) line = finds_values public_app (state ∷ path ∷ []) public_command words line
