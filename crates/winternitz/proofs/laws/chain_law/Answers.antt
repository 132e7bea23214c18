use Rattle.std.proofs.Common.{refl, sym}
use Rattle.winternitz.proofs.Chains.{digits_are_chains}
use Rattle.winternitz.proofs.laws.chain_law.Goals as goal

pub returns-clause-lm_ots : goal.returns-clause-lm_ots
returns-clause-lm_ots c = λ ots. sym (digits_are_chains ots)

pub returns-clause-wots : goal.returns-clause-wots
returns-clause-wots c = refl

pub returns-clause-xmss : goal.returns-clause-xmss
returns-clause-xmss c = λ t. refl
