-- `find_fixes::line_at` meets its contract. Each return is the line by what is held of the record. Assumes nothing.
use Rattle.std.proofs.Common.{ℕ, List, ap, ◌∙◌, arith}
use borrow.Author.Tests.{not-true, not-false}
use Rattle.near.specs.Parts.{nearest_in}
use Rattle.text.specs.Text.{text_of}
use Rattle.find_fixes.proofs.Places.{no-fix, near, far}
use Rattle.find_fixes.proofs.line_at.Goals as goal

pub returns-then-not-fix : goal.returns-then-not-fix
returns-then-not-fix c =
    let args = c.args in
    let p =
    no-fix args.block.now args.point args.radius args.base args.k c.nearest_in-fix.result
    (c.nearest_in-fix.ensures ∙ ap (λ (s : List ℕ). nearest_in s args.point) c.record_at.ensures)
    (text_of c.empty-none.result) c.empty-none.ensures.0 (not-true _ c.if-not-fix.true) in record {
      line = p.0;
      whole = p.1;
      room = (c.empty-none.ensures.1, omega arith);
    }

pub returns-then-fix-radius : goal.returns-then-fix-radius
returns-then-fix-radius c =
    let args = c.args in
    let p =
    near args.block.now args.point args.radius args.base args.k c.nearest_in-fix.result
    (c.nearest_in-fix.ensures ∙ ap (λ (s : List ℕ). nearest_in s args.point) c.record_at.ensures)
    (text_of c.fix_line.result) c.wrapping_add_u64.result c.fix_line.ensures.0 c.wrapping_add_u64.ensures.value
    (not-false _ c.if-not-fix.false) c.if-fix-radius.true in record {
      line = p.0;
      whole = p.1;
      room = (c.fix_line.ensures.1, c.fix_line.ensures.2);
    }

pub returns : goal.returns
returns c =
    let args = c.args in
    let p =
    far args.block.now args.point args.radius args.base args.k c.nearest_in-fix.result
    (c.nearest_in-fix.ensures ∙ ap (λ (s : List ℕ). nearest_in s args.point) c.record_at.ensures)
    (text_of c.empty-none.result) c.empty-none.ensures.0 (not-false _ c.if-not-fix.false) c.if-fix-radius.false in record {
      line = p.0;
      whole = p.1;
      room = (c.empty-none.ensures.1, omega arith);
    }
