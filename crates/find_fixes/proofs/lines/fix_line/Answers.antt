-- `find_fixes::lines::fix_line` meets its contract. The line is behind nothing. Assumes nothing.
use Rattle.std.proofs.Common.{ℕ, List, ◌++◌, ap, ◌∙◌, arith}
use Rattle.find_fixes.specs.Lines.{fix_line}
use Rattle.find_fixes.proofs.lines.fix_line.Goals as goal

pub returns : goal.returns
returns c = (
  c.with_fix.ensures.0 ∙ ap (λ (t : List ℕ). t ++ fix_line c.args.place c.args.distance)
      c.empty.ensures.0,
  c.with_fix.ensures.1,
  omega arith,
)
