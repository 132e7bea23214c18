-- From what `clap` matched to the task that is requested.
use Rattle.std.proofs.Common.{◌≡◌, ◌≢◌, ◌∙◌, List, [], ◌∷◌, Option, Some, None, Result, Ok, Err, IfErr, IsErrAnd, inl, inr, ap, ap₂, arith, codes, refl, sym, subst, option_map, unwrap_or}
use Rattle.std.specs.Prelude.{Box}
use Rattle.std.specs.Box.{box_value}
use Rattle.std.specs.Str.{bytes_eq}
use Rattle.std.proofs.Math.Path.{fun_ext}
use Rattle.std.proofs.lemmas.Bool.{cases_Bool}
use Rattle.std.proofs.lemmas.Slice.Eq.{bytes_eq-Decides}
use Rattle.clap.specs.Kinds.{or_else}
use Rattle.clap.specs.Simple.{subcommand_rows}
use Rattle.clap.specs.Words.{HasKind, Kinds, Row, Text, first_value, kind_of, matched_of, raw_values, rows_of, subcommand_name_of, subcommand_rows_of}
use Rattle.clap.specs.declared.error.Error.{Error}
use Rattle.clap.specs.declared.error.kind.ErrorKind.TheVariants.{OutOfMemory}
use Rattle.clap.specs.declared.parser.matches.ArgMatches.{ArgMatches}
use Rattle.clap.specs.declared.parser.matches.ArgMatches.TheViews.{out-ArgMatches, out-SubCommand}
use Rattle.clap.specs.declared.parser.matches.Found.{Found}
use Rattle.clap.specs.declared.parser.matches.SubCommand.{SubCommand}
use Rattle.clap.proofs.WalkLemmas.{first_value-rows, raw_values-rows}
use Rattle.command.specs.AuditGiven.{IsAuditGiven, pairs_of}
use Rattle.command.specs.Line.{Task, audit_given, audit_given_task, fixed_task_named, task_found, task_named, usage_kind}
use Rattle.command.specs.LineFault.{usage_faults}
use Rattle.command.specs.declared.audit_given.AuditGiven.{AuditGiven}
use Rattle.command.specs.declared.usage_fault.UsageFault.{UsageFault}

met_is : (met : Option (Text × List Row)) (name : Text) (rows : List Row) → Some name ≡ option_map (λ p. p.0) met
    → Some rows ≡ option_map (λ p. p.1) met → met ≡ Some (name, rows)
met_is None name rows named has = cc
met_is (Some met) name rows named has =
    ap₂ (λ (n : Option Text) (r : Option (List Row)). Some (unwrap_or n name, unwrap_or r rows)) (sym named) (sym has)

named : {Z : Type 0} (o : Option (Box SubCommand Z)) → option_map (λ b. (out-SubCommand (box_value b)).name.now) o
    ≡ option_map (λ p. p.0) (subcommand_rows o)
named None = refl
named (Some met) = refl

-- The matches of a subcommand request its task.
pub met_task : (matches : ArgMatches) (name : Text) (found : Found) → Some name ≡ subcommand_name_of matches
    → Some (rows_of found) ≡ option_map (λ p. p.1) (subcommand_rows_of matches)
    → task_named name (rows_of found) ≡ task_found (subcommand_rows_of matches)
met_task matches name found is has =
    sym (ap task_found (met_is (subcommand_rows_of matches) name (rows_of found) (is ∙ named (out-ArgMatches matches).subcommand) has))

-- Every command but `audit-given` has a fixed number of values.
pub fixed_task : (name : Text) (found : Found) → name ≢ codes "audit-given"
    → fixed_task_named name (first_value found) ≡ task_named name (rows_of found)
fixed_task name found isnt = elim (cases_Bool (bytes_eq name (codes "audit-given"))) [
  | inl same ↦ absurd (isnt ((bytes_eq-Decides name (codes "audit-given")).0 same))
  | inr differs ↦ rw differs (ap (fixed_task_named name) (fun_ext (first_value-rows found)))
]

-- .. which has any number of files
given_task : (name : Text) (found : Found) → name ≡ codes "audit-given"
    → audit_given_task (first_value found (codes "PUBLIC")) (option_map raw_values (matched_of found (codes "FILES"))) ≡ task_named name (rows_of found)
given_task name found is =
    ap₂ audit_given_task (first_value-rows found (codes "PUBLIC")) (raw_values-rows found (codes "FILES")) ∙ sym (ap (λ n. task_named n (rows_of found)) is)

is_given : (public : Option Text) (files : Option (List Text)) (words : AuditGiven) → IsAuditGiven public files (Ok words)
    → Ok (audit_given words.public.now (pairs_of words)) ≡ audit_given_task public files
is_given public files words is = grind arith

no_given : (public : Option Text) (files : Option (List Text)) (fault : UsageFault) → IsAuditGiven public files (Err fault)
    → Err fault ≡ audit_given_task public files
no_given public files fault is = grind arith

pub given_found : (name : Text) (found : Found) (words : AuditGiven) → name ≡ codes "audit-given"
    → IsAuditGiven (first_value found (codes "PUBLIC")) (option_map raw_values (matched_of found (codes "FILES"))) (Ok words)
    → Ok (audit_given words.public.now (pairs_of words)) ≡ task_named name (rows_of found)
given_found name found words is says =
    is_given (first_value found (codes "PUBLIC")) (option_map raw_values (matched_of found (codes "FILES"))) words says ∙ given_task name found is

pub given_missing : (name : Text) (found : Found) (fault : UsageFault) → name ≡ codes "audit-given"
    → IsAuditGiven (first_value found (codes "PUBLIC")) (option_map raw_values (matched_of found (codes "FILES"))) (Err fault)
    → Err fault ≡ task_named name (rows_of found)
given_missing name found fault is says =
    no_given (first_value found (codes "PUBLIC")) (option_map raw_values (matched_of found (codes "FILES"))) fault says ∙ given_task name found is

pub handed_err : {T : Type 0} (r : Result T Error) (e : Error) (Q : Error → Type 0) → IsErrAnd r (λ x. x ≡ e) → Q e → IfErr r Q
handed_err (Ok x) e Q same holds = absurd same
handed_err (Err x) e Q same holds = subst Q (sym same) holds

-- an error that may be of no kind is refused memory
pub only_memory : (kinds : Kinds) (e : Error) → kinds ≡ [] → HasKind kinds e → kind_of e ≡ OutOfMemory
only_memory [] e none (inl memory) = memory
only_memory [] e none (inr among) = absurd among
only_memory (k ∷ ks) e none has = cc

pub or_others : (kinds others : Kinds) (e : Error) → HasKind kinds e → HasKind (or_else kinds others) e
or_others [] others e (inl memory) = inl memory
or_others [] others e (inr among) = absurd among
or_others (k ∷ ks) others e has = has

-- Where `clap` finds no fault, the usage fault gives the error's kind.
pub usage_kind_is : (faults : Kinds) (found : Result Task UsageFault) (fault : UsageFault) (e : Error) → faults ≡ [] → found ≡ Err fault → kind_of e ≡ usage_kind fault
    → HasKind (or_else faults (usage_faults found)) e
usage_kind_is faults found fault e none is same = rw (none, is) (inr (inl same))
