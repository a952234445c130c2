-- `matrices::inverse_triangular` meets its contract. The test holds of matching sizes alone, and then what stood in out does not
-- show (`results-overwritten`). Assumes nothing.
use mathlib.Core.Path.{◌≡◌, sym, ap, ◌∙◌}
use mathlib.Core.Bool.{Bool, true, false}
use mathlib.Core.List.{List}
use Prim.Native.Nat.{ℕ, ◌*◌, ◌≤◌}
use native.Mathlib.Omega.{arith}
use lib.ListN.{length, length-replicate}
use lib.Ieee.{Float}
use Rattle.binary64.specs.Steps.{nought}
use Rattle.dense.specs.Triangular.{blank}
use Rattle.dense.specs.Triangular as triangular
use Rattle.dense.proofs.Symmetry.{results-overwritten}
use Rattle.matrices.specs.Matching.{squares, answer, output}
use Rattle.matrices.specs.Calls as calls
use Rattle.matrices.proofs.Sizes.{two}
use Rattle.matrices.proofs.inverse_triangular.Goals as goal

module _ (n : ℕ) (l out : List Float) where
  -- what the test shows where it holds
  sizes : squares n (length l) (length out) ≡ true → (n ≤ 32) × (length l ≡ n * n) × (length out ≡ n * n)
  sizes h = two n (length l) (length out) h

  gives : (t : Bool) → squares n (length l) (length out) ≡ t → answer t ≡ calls.inverse_triangular_answer n l out
  gives t h = sym (ap answer h)

  leaves : (t : Bool) → squares n (length l) (length out) ≡ t → output t (calls.inverse_triangular n l) out ≡ calls.inverse_triangular_output n l out
  leaves t h = sym (ap (λ (b : Bool). output b (calls.inverse_triangular n l) out) h)

  overwritten : squares n (length l) (length out) ≡ true → triangular.inverse_triangular l n out ≡ calls.inverse_triangular n l
  overwritten h = results-overwritten.0 l n out (blank n) (sizes h).2 (length-replicate (n * n) nought)

pub inverse_triangular-requires : goal.inverse_triangular-requires
inverse_triangular-requires c =
    let s = sizes c.args.n c.args.l.now c.args.out.now (sym c.squares.ensures ∙ c.if-squares.true) in
    omega (arith, s.0, s.1, s.2)

pub returns-then-squares : goal.returns-then-squares
returns-then-squares c =
    let taken = sym c.squares.ensures ∙ c.if-squares.true in record {
      answer = gives c.args.n c.args.l.now c.args.out.now true taken;
      output = c.inverse_triangular.ensures ∙ overwritten c.args.n c.args.l.now c.args.out.now taken ∙ leaves c.args.n c.args.l.now c.args.out.now true taken;
    }

pub returns : goal.returns
returns c = record {
  answer = gives c.args.n c.args.l.now c.args.out.now false (sym c.squares.ensures ∙ c.if-squares.false);
  output = leaves c.args.n c.args.l.now c.args.out.now false (sym c.squares.ensures ∙ c.if-squares.false);
}
