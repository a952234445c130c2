-- `screen::least_baseline` meets its contract: both answers are what light goes in the gap less the margin, cut off at zero (`passes-from`). Assumes
-- nothing.
use native.Mathlib.Omega.{arith}
use Rattle.screen.proofs.Reach.{passes-from}
use Rattle.screen.proofs.least_baseline.Goals as goal

pub returns-then-light-lt-SCREEN_MARGIN_MM : goal.returns-then-light-lt-SCREEN_MARGIN_MM
returns-then-light-lt-SCREEN_MARGIN_MM c = (passes-from c.args.gap 0 (omega arith), omega arith)

pub returns : goal.returns
returns c = (passes-from c.args.gap _ (omega arith), omega arith)
