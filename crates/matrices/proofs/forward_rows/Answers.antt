-- `matrices::forward_rows` meets its contract. The test holds of matching sizes alone, and then out holds q before the rows are
-- solved. Assumes nothing.
use mathlib.Core.Path.{◌≡◌, sym, ap, ◌∙◌}
use mathlib.Core.Bool.{Bool, true, false}
use mathlib.Core.List.{List}
use Prim.Native.Nat.{ℕ, ◌*◌, ◌≤◌}
use native.Mathlib.Omega.{arith}
use lib.ListN.{length}
use lib.Ieee.{Float}
use Rattle.dense.specs.Rows as rows
use Rattle.matrices.specs.Matching.{square_and_rows, answer, output}
use Rattle.matrices.specs.Calls as calls
use Rattle.matrices.proofs.Sizes.{with_rows}
use Rattle.matrices.proofs.forward_rows.Goals as goal

module _ (n width : ℕ) (l q out : List Float) where
  -- what the test shows where it holds
  sizes
      : square_and_rows n width (length l) (length q) (length out) ≡ true
      → (n ≤ 32) × (width ≤ 32) × (length l ≡ n * n) × (length q ≡ n * width) × (length out ≡ n * width)
  sizes h = with_rows n width (length l) (length q) (length out) h

  gives : (t : Bool) → square_and_rows n width (length l) (length q) (length out) ≡ t → answer t ≡ calls.forward_rows_answer n width l q out
  gives t h = sym (ap answer h)

  leaves
      : (t : Bool) → square_and_rows n width (length l) (length q) (length out) ≡ t
      → output t (calls.forward_rows n width l q) out ≡ calls.forward_rows_output n width l q out
  leaves t h = sym (ap (λ (b : Bool). output b (calls.forward_rows n width l q) out) h)

pub copy-requires : goal.copy-requires
copy-requires c =
    let s = sizes c.args.n c.args.width c.args.l.now c.args.q.now c.args.out.now (sym c.square_and_rows.ensures ∙ c.if-square_and_rows.true) in
    omega (arith, s.3, s.4)

pub forward_rows-requires : goal.forward_rows-requires
forward_rows-requires c =
    let s = sizes c.args.n c.args.width c.args.l.now c.args.q.now c.args.out.now (sym c.square_and_rows.ensures ∙ c.if-square_and_rows.true) in
    omega (arith, s.2, s.3, ap length c.copy.ensures)

pub returns-then-square_and_rows : goal.returns-then-square_and_rows
returns-then-square_and_rows c =
    let taken = sym c.square_and_rows.ensures ∙ c.if-square_and_rows.true in record {
      answer = gives c.args.n c.args.width c.args.l.now c.args.q.now c.args.out.now true taken;
      output = c.forward_rows.ensures
          ∙ ap (rows.forward_rows c.args.l.now c.args.n c.args.width) c.copy.ensures
          ∙ leaves c.args.n c.args.width c.args.l.now c.args.q.now c.args.out.now true taken;
    }

pub returns : goal.returns
returns c = record {
  answer = gives c.args.n c.args.width c.args.l.now c.args.q.now c.args.out.now false (sym c.square_and_rows.ensures ∙ c.if-square_and_rows.false);
  output = leaves c.args.n c.args.width c.args.l.now c.args.q.now c.args.out.now false (sym c.square_and_rows.ensures ∙ c.if-square_and_rows.false);
}
