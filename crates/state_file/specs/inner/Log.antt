-- What a crash leaves right after a log is what it leaves since the log ended.
use Rattle.std.specs.Prelude.{◌≡◌, ℕ, ◌≤◌, List, length, take}
use Rattle.state_file.specs.declared.disk.log.Entry.{Entry}
use Rattle.std.proofs.Common.{sym, subst, arith}
use Rattle.std.proofs.lemmas.List.{take_all}
use Rattle.state_file.specs.Log.{LeftBy, LeftSince}

pub left_now : (first : List ℕ) (log : List Entry) (t : ℕ) (c : List ℕ) → t ≤ length log → LeftBy first log c
    → LeftSince first log t c
left_now first log t c early left =
    let whole : take (length log) log ≡ log = take_all (length log) log (omega arith) in
    (length log, early, omega arith, subst (λ (l : List Entry). LeftBy first l c) (sym whole) left)

pub left_only_now : (first : List ℕ) (log : List Entry) (c : List ℕ) → LeftSince first log (length log) c
    → LeftBy first log c
left_only_now first log c since =
    let whole : take since.0 log ≡ log = take_all since.0 log since.1 in
    subst (λ (l : List Entry). LeftBy first l c) whole since.3
