-- `receptions::identity::before` meets its contract: the derived order is the documents' (`derived-before`). Assumes nothing.
use Rattle.std.proofs.Common.{◌∙◌}
use Rattle.std.proofs.Common.{ap}
use Rattle.std.specs.Ordering.{is_lt}
use Rattle.receptions.proofs.Derived.{derived-before}
use Rattle.receptions.proofs.identity.before.Goals as goal

pub returns : goal.returns
returns c = c.is_lt.ensures ∙ ap is_lt c.cmp.ensures ∙ derived-before c.args.a c.args.b
