-- Each command finds tasks of its own name alone.
use Rattle.std.proofs.Common.{◌≡◌, List, Result, IfOk, arith, codes, if◌then◌else◌, inl, inr, subst, sym}
use Rattle.std.specs.Str.{bytes_eq}
use Rattle.std.proofs.lemmas.Bool.{cases_Bool}
use Rattle.std.proofs.lemmas.Slice.Eq.{bytes_eq-Decides}
use Rattle.clap.specs.Walk.{Row}
use Rattle.clap.specs.Words.{Text}
use Rattle.command.specs.Line.{Task, audit, audit_given, list, make, migrate, publish, retire, serve, sign, task_named, verify}
use Rattle.command.specs.declared.usage_fault.UsageFault.{UsageFault}

-- the name of a task's command
abbrev pub name_of : Task → Text
name_of (make state public spec version random) = codes "make"
name_of (sign state name message out random) = codes "sign"
name_of (verify public message signature) = codes "verify"
name_of (retire state upto) = codes "retire"
name_of (audit state anchor) = codes "audit"
name_of (audit_given public files) = codes "audit-given"
name_of (serve state random) = codes "serve"
name_of (migrate old new) = codes "migrate"
name_of (list file public) = codes "list"
name_of (publish state public) = codes "public"

abbrev IsOf : Text → Result Task UsageFault → Type 0
IsOf name found = IfOk found (λ task. name ≡ name_of task)

-- a command's own task, or another's
by_name : (name own : Text) (here there : Result Task UsageFault) → IsOf own here → IsOf name there
    → IsOf name (if bytes_eq name own then here else there)
by_name name own here there this other = elim (cases_Bool (bytes_eq name own)) [
  | inl same ↦ rw same (subst (λ n. IsOf n here) (sym ((bytes_eq-Decides name own).0 same)) this)
  | inr differs ↦ rw differs other
]

pub is_named : (name : Text) (rows : List Row) → IsOf name (task_named name rows)
is_named name rows = by_name name (codes "audit-given") _ _ (grind arith) (by_name name (codes "make") _ _ (grind arith)
    (by_name name (codes "sign") _ _ (grind arith) (by_name name (codes "verify") _ _ (grind arith)
    (by_name name (codes "retire") _ _ (grind arith) (by_name name (codes "audit") _ _ (grind arith)
    (by_name name (codes "serve") _ _ (grind arith) (by_name name (codes "migrate") _ _ (grind arith)
    (by_name name (codes "list") _ _ (grind arith) (by_name name (codes "public") _ _ (grind arith) tt)))))))))
