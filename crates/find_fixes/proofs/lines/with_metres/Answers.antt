-- `find_fixes::lines::with_metres` meets its contract. Its test is the definition's. Assumes nothing.
use Rattle.std.proofs.Common.{Bool, cond, T, ◌++◌, sym, ap, ◌∙◌, subst, arith}
use Rattle.text.specs.Text.{text_of}
use Rattle.find_fixes.specs.Lines.{millimetres, far, whole, metres}
use Rattle.find_fixes.proofs.lines.with_metres.Goals as goal

pub with_whole-requires : goal.with_whole-requires
with_whole-requires c = (c.requires, subst T (sym c.if-mm.true) tt)

pub returns-then-mm : goal.returns-then-mm
unfolding metres
returns-then-mm c = (
  c.with_whole.ensures.0
      ∙ ap (λ (b : Bool). text_of c.args.text ++ cond b (whole (millimetres c.args.metres)) far)
      (sym c.if-mm.true),
  c.with_whole.ensures.1,
  omega arith,
)

pub returns : goal.returns
unfolding metres
returns c = (
  c.with.ensures.0
      ∙ ap (λ (b : Bool). text_of c.args.text ++ cond b (whole (millimetres c.args.metres))
      far) (sym c.if-mm.false),
  c.with.ensures.1,
  omega arith,
)
