-- `matrices::sandwich` meets its contract. The test holds of matching sizes alone, and then what stood in out does not show
-- (`results-overwritten`). Assumes nothing.
use mathlib.Core.Path.{◌≡◌, sym, ap, ◌∙◌}
use mathlib.Core.Bool.{Bool, true, false}
use mathlib.Core.List.{List}
use Prim.Native.Nat.{ℕ, ◌*◌, ◌≤◌}
use native.Mathlib.Omega.{arith}
use lib.ListN.{length, length-replicate}
use lib.Ieee.{Float}
use Rattle.binary64.specs.Steps.{nought}
use Rattle.dense.specs.Triangular.{blank}
use Rattle.dense.specs.Sandwich as sandwiched
use Rattle.dense.proofs.Symmetry.{results-overwritten}
use Rattle.matrices.specs.Matching.{three_squares, answer, output}
use Rattle.matrices.specs.Calls as calls
use Rattle.matrices.proofs.Sizes.{three}
use Rattle.matrices.proofs.sandwich.Goals as goal

module _ (n : ℕ) (a inner out : List Float) where
  -- what the test shows where it holds
  sizes : three_squares n (length a) (length inner) (length out) ≡ true → (n ≤ 32) × (length a ≡ n * n) × (length inner ≡ n * n) × (length out ≡ n * n)
  sizes h = three n (length a) (length inner) (length out) h

  gives : (t : Bool) → three_squares n (length a) (length inner) (length out) ≡ t → answer t ≡ calls.sandwich_answer n a inner out
  gives t h = sym (ap answer h)

  leaves
      : (t : Bool) → three_squares n (length a) (length inner) (length out) ≡ t → output t (calls.sandwich n a inner) out ≡ calls.sandwich_output n a inner out
  leaves t h = sym (ap (λ (b : Bool). output b (calls.sandwich n a inner) out) h)

  overwritten : three_squares n (length a) (length inner) (length out) ≡ true → sandwiched.sandwich a n inner out ≡ calls.sandwich n a inner
  overwritten h = results-overwritten.2 a inner n out (blank n) (sizes h).3 (length-replicate (n * n) nought)

pub sandwich-requires : goal.sandwich-requires
sandwich-requires c =
    let s = sizes c.args.n c.args.a.now c.args.inner.now c.args.out.now (sym c.three_squares.ensures ∙ c.if-three_squares.true) in
    omega (arith, s.0, s.1, s.2, s.3)

pub returns-then-three_squares : goal.returns-then-three_squares
returns-then-three_squares c =
    let taken = sym c.three_squares.ensures ∙ c.if-three_squares.true in record {
      answer = gives c.args.n c.args.a.now c.args.inner.now c.args.out.now true taken;
      output = c.sandwich.ensures ∙ overwritten c.args.n c.args.a.now c.args.inner.now c.args.out.now taken ∙ leaves c.args.n c.args.a.now c.args.inner.now c.args.out.now true taken;
    }

pub returns : goal.returns
returns c = record {
  answer = gives c.args.n c.args.a.now c.args.inner.now c.args.out.now false (sym c.three_squares.ensures ∙ c.if-three_squares.false);
  output = leaves c.args.n c.args.a.now c.args.inner.now c.args.out.now false (sym c.three_squares.ensures ∙ c.if-three_squares.false);
}
