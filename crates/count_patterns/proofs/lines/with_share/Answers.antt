-- `count_patterns::lines::with_share` meets its contract. There is a pattern, and no count is above 2^15; the pieces come
-- one after the other (`four`).
use Prim.Native.Nat.{ℕ, ◌+◌, ◌*◌, ◌/◌, ◌%◌, ◌^◌}
use mathlib.Core.Path.{◌≡◌, ap, ap₂, ◌∙◌}
use mathlib.Core.List.{List, ◌++◌}
use native.Mathlib.Omega.{arith}
use Rattle.text.specs.Text.{text_of, ascii, decimal}
use Rattle.text.proofs.Joined.{four}
use Rattle.patterns.specs.Patterns.{pairs, leaving}
use Rattle.count_patterns.specs.Lines.{column, tenths, share}
use Rattle.count_patterns.proofs.Bounds.{few-patterns, leaving-le}
use Rattle.count_patterns.proofs.lines.with_share.Goals as goal

-- the pieces of a share of so many tenths
abbrev pieces : ℕ → List ℕ
pieces t = column (t / 10) ++ ascii "." ++ decimal (t % 10) ++ ascii " %\n"

-- what the code counts is what is counted
counted
    : (n f all : ℕ) → f ≡ leaving n 4 + leaving n 5 + leaving n 6 → all ≡ 2 ^ pairs n
    → (f * 1000 + all / 2) / all ≡ tenths n
unfolding tenths
counted n f all e a = ap₂ (λ (f all : ℕ). (f * 1000 + all / 2) / all) e a

pub overflow_mul-tenths : goal.overflow_mul-tenths
overflow_mul-tenths c =
    let n = c.args.n in
    let h = c.requires.1 in
    omega (arith, c.four.ensures, c.requires.2, few-patterns n h, leaving-le n 4 h, leaving-le n 5 h, leaving-le n 6 h)

pub overflow_add-tenths : goal.overflow_add-tenths
overflow_add-tenths c =
    let n = c.args.n in
    let h = c.requires.1 in
    omega (arith, c.four.ensures, c.requires.2, few-patterns n h, leaving-le n 4 h, leaving-le n 5 h, leaving-le n 6 h)

pub returns : goal.returns
unfolding share
returns c =
    let all = c.args.all in
    let t = (c.four.result * 1000 + all / 2) / all in (
      four (text_of c.args.text) _ _ _ _ (column (t / 10)) (ascii ".") (decimal (t % 10)) (ascii " %\n")
          c.with_column-whole.ensures.0 c.with-point.ensures.0 c.with_number-tenth.ensures.0 c.with.ensures.0
          ∙ ap (λ (t : ℕ). text_of c.args.text ++ pieces t)
          (counted c.args.n _ all c.four.ensures c.requires.2),
      c.with.ensures.1,
      omega arith,
    )
