use Rattle.std.proofs.Common.{◌≡◌, ◌-◌, ◌<◌, ◌≤◌, ℕ, length}
use Rattle.std.specs.Prelude.{◌↔◌}
use Rattle.hss.specs.Signature.{key_at}
use Rattle.hss.specs.Verification.{IsValidAt}
use Rattle.hss.specs.View.{signature_of}
use Rattle.hss.proofs.verification.top_root.Given as goal

-- the levels below this one are valid, and the root is its key's exactly where it is valid, too
abbrev pub invariant-loop-done : goal.invariant-loop-done
invariant-loop-done g l =
    let s = signature_of l.view in
    let n = length s.signed in
    record {
      within : l.done ≤ n;
      root : (l.root ≡ (key_at l.top s (n - l.done)).root) ↔ IsValidAt l.top l.message s (n - l.done);
      below : (j : ℕ) → n - l.done < j → j ≤ n → IsValidAt l.top l.message s j;
    }
