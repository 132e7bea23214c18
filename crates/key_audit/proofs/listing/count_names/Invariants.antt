use Rattle.std.proofs.Common.{◌≡◌, ◌≤◌, take}
use Rattle.key_audit.specs.Listing.{names_among}
use Rattle.key_audit.proofs.listing.count_names.Given as goal

-- the names so far are counted
abbrev pub invariant-loop-entry : goal.invariant-loop-entry
invariant-loop-entry l = (l.names ≡ names_among (take l.entry-index l.entries)) × (l.names ≤ l.entry-index)
