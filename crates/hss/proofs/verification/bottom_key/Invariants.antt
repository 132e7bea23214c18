use Rattle.std.proofs.Common.{◌≡◌, ◌<◌, ◌≤◌, ℕ, List, length}
use Rattle.hss.specs.Signature.{key_at}
use Rattle.hss.specs.Verification.{IsValidAt}
use Rattle.hss.specs.View.{signature_of}
use Rattle.hss.proofs.verification.bottom_key.Given as goal

-- the levels so far that stand above the bottom are valid, and this is the next level's key, or the bottom's
abbrev pub invariant-loop-i : goal.invariant-loop-i
invariant-loop-i g l =
    let s = signature_of l.view in
    let n = length s.signed in
    record {
      key : l.i ≤ n → l.key ≡ key_at l.top s l.i;
      last : n ≤ l.i → l.key ≡ key_at l.top s n;
      valid : (message : List ℕ) (j : ℕ) → j < l.i → j < n → IsValidAt l.top message s j;
    }
