-- `damped::candidate` meets its contract. The four sums are the definition's. Assumes nothing.
use borrow.Author.Rules.{rules}
use Rattle.damped.specs.Damped.{candidate}
use Rattle.damped.proofs.candidate.Goals as goal

pub returns : goal.returns
unfolding candidate
returns c = search rules
