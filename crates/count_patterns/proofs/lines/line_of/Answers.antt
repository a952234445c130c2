-- `count_patterns::lines::line_of` meets its contract. The pieces, one after the other (`seven`), behind nothing.
use Prim.Native.Nat.{ℕ}
use mathlib.Core.Path.{ap₂, ◌∙◌}
use mathlib.Core.List.{List, ◌++◌}
use native.Mathlib.Omega.{arith}
use Rattle.text.specs.Text.{text_of, ascii}
use Rattle.text.proofs.Joined.{alone, seven}
use Rattle.count_patterns.specs.Lines.{column, columns, share, line_of}
use Rattle.count_patterns.proofs.lines.line_of.Goals as goal

-- the line from its number of patterns and its counts
abbrev pieces : ℕ → ℕ → List ℕ → List ℕ
pieces n all counts = ascii "  " ++ column n ++ ascii "  " ++ column all ++ columns counts ++ ascii "  " ++ share n

pub returns : goal.returns
unfolding line_of
returns c =
    let n = c.args.n in
    let all = c.args.all in
    let counts = c.counted-counts.result in (
      alone _ _ (pieces n all counts) c.empty.ensures.0
          (seven (text_of c.empty.result) _ _ _ _ _ _ _ (ascii "  ") (column n) (ascii "  ") (column all)
          (columns counts) (ascii "  ") (share n) c.with-before.ensures.0 c.with_column-receptions.ensures.0
          c.with-between.ensures.0 c.with_column-patterns.ensures.0 c.with_columns-left.ensures.0
          c.with-after.ensures.0 c.with_share.ensures.0)
          ∙ ap₂ (pieces n) c.requires.1 c.counted-counts.ensures,
      c.with_share.ensures.1,
      omega (
        arith,
        c.empty.ensures.2,
        c.with-before.ensures.2,
        c.with_column-receptions.ensures.2,
        c.with-between.ensures.2,
        c.with_column-patterns.ensures.2,
        c.with_columns-left.ensures.2,
        c.with-after.ensures.2,
        c.with_share.ensures.2,
      ),
    )
