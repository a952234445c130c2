-- `find_fixes::lines::with_whole` meets its contract. Its test is the definition's, and says that what is cut is a u64. Assumes nothing.
use Rattle.std.proofs.Common.{ℕ, T, ◌++◌, sym, ap, ◌∙◌, subst, arith}
use lib.Ieee.{of_bits, neg}
use Rattle.text.specs.Text.{text_of}
use Rattle.find_fixes.specs.Lines.{thousandths, whole}
use Rattle.find_fixes.proofs.lines.with_whole.Goals as goal

pub truncating_f64_to_u64-requires : goal.truncating_f64_to_u64-requires
unfolding of_bits neg
truncating_f64_to_u64-requires c = record {
  lower_bound = c.requires.1;
  upper_bound = subst T (sym c.if-mm.true) tt;
}

pub returns-then-mm : goal.returns-then-mm
unfolding whole
returns-then-mm c = (
  rw c.if-mm.true
      (c.with_mm.ensures.0 ∙ ap (λ (n : ℕ). text_of c.args.text ++ thousandths n)
      c.truncating_f64_to_u64.ensures),
  c.with_mm.ensures.1,
  omega arith,
)

pub returns : goal.returns
unfolding whole
returns c = (rw c.if-mm.false c.with.ensures.0, c.with.ensures.1, omega arith)
