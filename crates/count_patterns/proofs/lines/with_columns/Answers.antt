-- `count_patterns::lines::with_columns` meets its contract. The columns, one after the other (`seven`).
use native.Mathlib.Omega.{arith}
use lib.ListN.{get_or}
use Rattle.text.specs.Text.{text_of}
use Rattle.text.proofs.Joined.{seven}
use Rattle.count_patterns.specs.Lines.{column, columns}
use Rattle.count_patterns.proofs.lines.with_columns.Goals as goal

pub returns : goal.returns
unfolding columns
returns c =
    let counts = c.args.counts.now in (
      seven (text_of c.args.text) _ _ _ _ _ _ _ (column (get_or counts 0 0)) (column (get_or counts 1 0))
          (column (get_or counts 2 0)) (column (get_or counts 3 0)) (column (get_or counts 4 0))
          (column (get_or counts 5 0)) (column (get_or counts 6 0)) c.with_column-a.ensures.0 c.with_column-b.ensures.0
          c.with_column-c.ensures.0 c.with_column-d.ensures.0 c.with_column-e.ensures.0 c.with_column-f.ensures.0
          c.with_column.ensures.0,
      c.with_column.ensures.1,
      omega arith,
    )
