-- `find_fixes::lines::nearest_line` meets its contract. Its test is the definition's. Assumes nothing.
use Rattle.std.proofs.Common.{◌≡◌, Bool, cond, ◌++◌, sym, ap, ◌∙◌, arith}
use Rattle.text.specs.Text.{ascii}
use Rattle.near.specs.declared.Held.{Held}
use Rattle.find_fixes.specs.Lines.{fix_line, nearest_line}
use Rattle.text.proofs.Joined.{alone, two}
use Rattle.find_fixes.proofs.lines.nearest_line.Goals as goal

-- the line, by whether there is a fix
by : (h : Held) (b : Bool) → h.found ≡ b
    → cond b (ascii "nearest: " ++ fix_line h.place h.distance) (ascii "nearest: none, the file has no fix\n") ≡ nearest_line h
unfolding nearest_line
by h b e = ap (λ (b : Bool). cond b (ascii "nearest: " ++ fix_line h.place h.distance) (ascii "nearest: none, the file has no fix\n")) (sym e)

pub returns-then-held : goal.returns-then-held
returns-then-held c =
    let held = c.args.held in (
      two _ _ _ (ascii "nearest: ") (fix_line held.place held.distance) c.empty-none.ensures.0
          c.with.ensures.0 c.with_fix.ensures.0
          ∙ by held _ c.if-held.true,
      c.with_fix.ensures.1,
      omega arith,
    )

pub returns : goal.returns
returns c = (
  alone _ _ (ascii "nearest: none, the file has no fix\n") c.empty-none.ensures.0 c.with-2.ensures.0
      ∙ by c.args.held _ c.if-held.false,
  c.with-2.ensures.1,
  omega arith,
)
