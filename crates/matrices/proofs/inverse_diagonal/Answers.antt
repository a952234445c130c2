-- `matrices::inverse_diagonal` meets its contract. The test holds of matching sizes alone, and then what stood in out does not
-- show (`results-overwritten`). Assumes nothing.
use mathlib.Core.Path.{◌≡◌, sym, ap, ◌∙◌}
use mathlib.Core.Bool.{Bool, true, false}
use mathlib.Core.List.{List}
use Prim.Native.Nat.{ℕ, ◌*◌, ◌≤◌}
use native.Mathlib.Nat.{mul-one}
use native.Mathlib.Omega.{arith}
use lib.ListN.{length, replicate, length-replicate}
use lib.Ieee.{Float}
use Rattle.binary64.specs.Steps.{nought}
use Rattle.dense.specs.Triangular as triangular
use Rattle.dense.proofs.Symmetry.{results-overwritten}
use Rattle.matrices.specs.Matching.{square_and_column, answer, output}
use Rattle.matrices.specs.Calls as calls
use Rattle.matrices.proofs.Sizes.{with-column}
use Rattle.matrices.proofs.inverse_diagonal.Goals as goal

module _ (n : ℕ) (l out : List Float) where
  -- what the test shows where it holds
  sizes : square_and_column n (length l) (length out) ≡ true → (n ≤ 32) × (length l ≡ n * n) × (length out ≡ n * 1)
  sizes h = with-column n (length l) (length out) h

  gives : (t : Bool) → square_and_column n (length l) (length out) ≡ t → answer t ≡ calls.inverse_diagonal_answer n l out
  gives t h = sym (ap answer h)

  leaves : (t : Bool) → square_and_column n (length l) (length out) ≡ t → output t (calls.inverse_diagonal n l) out ≡ calls.inverse_diagonal_output n l out
  leaves t h = sym (ap (λ (b : Bool). output b (calls.inverse_diagonal n l) out) h)

  overwritten : square_and_column n (length l) (length out) ≡ true → triangular.inverse_diagonal l n out ≡ calls.inverse_diagonal n l
  overwritten h = results-overwritten.1 l n out (replicate n nought) ((sizes h).2 ∙ mul-one n) (length-replicate n nought)

pub inverse_diagonal-requires : goal.inverse_diagonal-requires
inverse_diagonal-requires c =
    let s = sizes c.args.n c.args.l.now c.args.out.now (sym c.square_and_column.ensures ∙ c.if-square_and_column.true) in
    omega (arith, s.0, s.1, s.2)

pub returns-then-square_and_column : goal.returns-then-square_and_column
returns-then-square_and_column c =
    let taken = sym c.square_and_column.ensures ∙ c.if-square_and_column.true in record {
      answer = gives c.args.n c.args.l.now c.args.out.now true taken;
      output = c.inverse_diagonal.ensures ∙ overwritten c.args.n c.args.l.now c.args.out.now taken ∙ leaves c.args.n c.args.l.now c.args.out.now true taken;
    }

pub returns : goal.returns
returns c = record {
  answer = gives c.args.n c.args.l.now c.args.out.now false (sym c.square_and_column.ensures ∙ c.if-square_and_column.false);
  output = leaves c.args.n c.args.l.now c.args.out.now false (sym c.square_and_column.ensures ∙ c.if-square_and_column.false);
}
