-- `matrices::cholesky` meets its contract. The test holds of matching sizes alone, and the rest is what `factor` ensures.
-- Assumes nothing.
use mathlib.Core.Path.{◌≡◌, sym, ap, ◌∙◌}
use mathlib.Core.Bool.{Bool, true, false, cond}
use mathlib.Core.List.{List}
use Prim.Native.Nat.{ℕ, ◌*◌, ◌≤◌}
use lib.ListN.{length}
use lib.Ieee.{Float}
use Rattle.refusals.specs.Refusals.{wrong_size}
use Rattle.matrices.specs.Matching.{squares, output}
use Rattle.matrices.specs.Calls as calls
use Rattle.matrices.proofs.Sizes.{two}
use Rattle.matrices.proofs.cholesky.Goals as goal

module _ (n : ℕ) (a out : List Float) where
  -- what the test shows where it holds
  sizes : squares n (length a) (length out) ≡ true → (n ≤ 32) × (length a ≡ n * n) × (length out ≡ n * n)
  sizes h = two n (length a) (length out) h

  gives : (t : Bool) → squares n (length a) (length out) ≡ t → cond t (calls.factor_answer (calls.cholesky n a)) wrong_size ≡ calls.cholesky_answer n a out
  gives t h = sym (ap (λ (b : Bool). cond b (calls.factor_answer (calls.cholesky n a)) wrong_size) h)

  leaves
      : (t : Bool) → squares n (length a) (length out) ≡ t
      → output t (calls.factor_output (calls.cholesky n a) out) out ≡ calls.cholesky_output n a out
  leaves t h = sym (ap (λ (b : Bool). output b (calls.factor_output (calls.cholesky n a) out) out) h)

pub factor-requires : goal.factor-requires
factor-requires c = sizes c.args.n c.args.a.now c.args.out.now (sym c.squares.ensures ∙ c.if-squares.true)

pub returns-then-squares : goal.returns-then-squares
returns-then-squares c =
    let taken = sym c.squares.ensures ∙ c.if-squares.true in record {
      answer = c.factor.ensures.answer ∙ gives c.args.n c.args.a.now c.args.out.now true taken;
      output = c.factor.ensures.output ∙ leaves c.args.n c.args.a.now c.args.out.now true taken;
    }

pub returns : goal.returns
returns c = record {
  answer = gives c.args.n c.args.a.now c.args.out.now false (sym c.squares.ensures ∙ c.if-squares.false);
  output = leaves c.args.n c.args.a.now c.args.out.now false (sym c.squares.ensures ∙ c.if-squares.false);
}
