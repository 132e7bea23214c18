-- The capacity of an output: it is as it was, or grows to the size of a signature.
use Rattle.std.proofs.Common.{◌≡◌, ℕ, ◌≤◌, List, Some, subst, arith}
use Rattle.std.proofs.Math.Nat.{le-max_left}
use Rattle.std.specs.Prelude.{max}
use Rattle.state_file.specs.declared.record.Key.{Key}
use Rattle.state_file.specs.declared.record.Record.{Record}
use Rattle.sign_core.specs.Records.{the_key}
use Rattle.sign_core.specs.Signer.{signature_size}
use Rattle.sign_core.specs.Signing.{KeepsCapacity}
use Rattle.sign_core.proofs.chains.BindingChains.{same_key}

pub capacity_stays : (records : List Record) (n : ℕ) → KeepsCapacity records n n
capacity_stays records n = (omega arith, λ key keyed. le-max_left n (signature_size key.secret))

pub capacity_grows : (records : List Record) (key : Key) (old new : ℕ) → the_key records ≡ Some key → old ≤ new
    → new ≤ max old (signature_size key.secret) → KeepsCapacity records old new
capacity_grows records key old new keyed least most =
    (least, λ other is. subst (λ k. new ≤ max old (signature_size k.secret)) (same_key records key other keyed is) most)
