-- `limits::published_row` meets its contract: each entry is what `inflated` makes of the one that `at` reads. Assumes nothing.
use Rattle.limits.proofs.published_row.Goals as goal

pub returns : goal.returns
returns c = rw (
  c.inflated-3.ensures,
  c.at-3.ensures,
  c.inflated-2.ensures,
  c.at-2.ensures,
  c.inflated.ensures,
  c.at.ensures,
)
