-- `count_patterns::lines::with_column` meets its contract. The spaces, and the digits behind them.
use native.Mathlib.Omega.{arith}
use Rattle.text.specs.Text.{text_of, decimal}
use Rattle.text.proofs.Joined.{two-more}
use Rattle.count_patterns.specs.Lines.{spaces, column}
use Rattle.count_patterns.proofs.lines.with_column.Goals as goal

pub returns : goal.returns
unfolding column
returns c = (
  two-more (text_of c.args.text) _ _ (spaces c.args.x) (decimal c.args.x) c.with_spaces.ensures.0 c.with_number.ensures.0,
  c.with_number.ensures.1,
  omega arith,
)
