use Rattle.sign_core.proofs.laws.ledger_laws.Goals as goal
use Rattle.sign_core.proofs.records.CurrentTrees.{current_is, is_current}
use Rattle.sign_core.proofs.records.FreeLeaves.{is_next, deepest_is, none_free}
use Rattle.sign_core.proofs.records.FirstIllegal.{legal_from_none, none_from_legal, first_is}
use Rattle.sign_core.proofs.records.TreeChain.{chain_is}
use Rattle.sign_core.proofs.records.Bindings.{binding_stands, unbound, identifier_stands, stands_identifier}

pub returns-clause-current : goal.returns-clause-current
returns-clause-current c = λ records level tree. (current_is level records tree, is_current level records tree)

pub returns-clause-chain : goal.returns-clause-chain
returns-clause-chain c = chain_is

pub returns-clause-next : goal.returns-clause-next
returns-clause-next c = is_next

pub returns-clause-deepest : goal.returns-clause-deepest
returns-clause-deepest c = deepest_is

pub returns-clause-exhausted : goal.returns-clause-exhausted
returns-clause-exhausted c = none_free

pub returns-clause-bound : goal.returns-clause-bound
returns-clause-bound c = λ records name k bound is.
    let (stands, named, first) = binding_stands records name k bound is in (stands, named)

pub returns-clause-unbound : goal.returns-clause-unbound
returns-clause-unbound c = unbound

pub returns-clause-identifier : goal.returns-clause-identifier
returns-clause-identifier c = λ records identifier. (
  identifier_stands records identifier,
  λ there. let (k, entry, at, own) = there in stands_identifier records identifier k entry at own,
)

pub returns-clause-legal : goal.returns-clause-legal
returns-clause-legal c = λ records some. (legal_from_none records some, none_from_legal records)

pub returns-clause-first : goal.returns-clause-first
returns-clause-first c = first_is
