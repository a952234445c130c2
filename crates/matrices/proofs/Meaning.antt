-- A test is true or false: where it is true the sizes match (`three`, `with_rows`, `two`, `with-column`), and where it is false
-- they do not, for matching sizes make it true. Assumes nothing.
use mathlib.Core.Path.{◌≡◌, refl, sym, ap, ◌∙◌}
use mathlib.Core.Bool.{Bool, true, false, cond, ◌&&◌}
use mathlib.Core.Logic.{◌⊎◌, inl, inr}
use mathlib.Core.List.{List}
use Prim.Native.Nat.{ℕ, ◌+◌, ◌*◌, ◌≤◌, ◌<◌}
use native.Mathlib.Nat.{mul-one}
use native.Mathlib.Omega.{arith}
use lib.ListN.{length, get_or-replicate}
use lib.Ieee.{Float, nan}
use Rattle.binary64.specs.Steps.{nought}
use Rattle.refusals.specs.Refusals.{singular, wrong_size}
use Rattle.dense.specs.Entries.{at}
use Rattle.dense.specs.Factor.{Factor, found, refused}
use Rattle.dense.specs.Triangular.{blank}
use Rattle.dense.specs.Lower.{array_of}
use Rattle.dense.proofs.Places.{place}
use Rattle.dense.proofs.Lower.{right_kept}
use Rattle.matrices.specs.Matching.{squares, square_and_column, three_squares, square_and_rows, answer, output}
use Rattle.matrices.specs.Calls as calls
use Rattle.matrices.specs.Meaning.{Answered, SandwichAnswered, ForwardRowsAnswered, InverseTriangularAnswered}
use Rattle.matrices.specs.Meaning.{InverseDiagonalAnswered, CholeskyAnswered}
use Rattle.matrices.proofs.Sizes.{fits, two, with-column, three, with_rows}

differ : true ≡ false → ◌≡◌ {A = ℕ} 0 1
differ e = ap (λ (b : Bool). cond b 0 1) e

-- what a test that stands for the sizes gives and leaves
answered
    : (matching : Type 0) (test : Bool) (result out : List Float) → (test ≡ true → matching) → (matching → test ≡ true)
    → Answered matching (answer test) (output test result out) result out
answered matching true result out to from = inl (to refl, refl, refl)
answered matching false result out to from =
    inr ((λ m. let z : ◌≡◌ {A = ℕ} 0 1 = differ (sym (from m)) in omega arith), refl, refl)

both : (a b : Bool) → a ≡ true → b ≡ true → (a && b) ≡ true
both a b h g = rw (h, g)

pub sandwich-answered : SandwichAnswered
sandwich-answered n a inner out =
    answered _ (three_squares n (length a) (length inner) (length out)) (calls.sandwich n a inner) out
    (three n (length a) (length inner) (length out))
    (λ s. both _ _ (fits n n (length a) s.0 s.0 s.1)
    (both _ _ (fits n n (length inner) s.0 s.0 s.2) (fits n n (length out) s.0 s.0 s.3)))

pub forward-rows-answered : ForwardRowsAnswered
forward-rows-answered n width l q out =
    answered _ (square_and_rows n width (length l) (length q) (length out)) (calls.forward_rows n width l q) out
    (with_rows n width (length l) (length q) (length out))
    (λ s. both _ _ (fits n n (length l) s.0 s.0 s.2)
    (both _ _ (fits n width (length q) s.0 s.1 s.3) (fits n width (length out) s.0 s.1 s.4)))

square-and-square : (n l out : ℕ) → (n ≤ 32) × (l ≡ n * n) × (out ≡ n * n) → squares n l out ≡ true
square-and-square n l out s = both _ _ (fits n n l s.0 s.0 s.1) (fits n n out s.0 s.0 s.2)

pub inverse-triangular-answered : InverseTriangularAnswered
inverse-triangular-answered n l out =
    answered _ (squares n (length l) (length out)) (calls.inverse_triangular n l) out
    (two n (length l) (length out)) (square-and-square n (length l) (length out))

pub inverse-diagonal-answered : InverseDiagonalAnswered
inverse-diagonal-answered n l out =
    answered _ (square_and_column n (length l) (length out)) (calls.inverse_diagonal n l) out
    (λ e. let s = with-column n (length l) (length out) e in (s.0, s.1, s.2 ∙ mul-one n))
    (λ s. both _ _ (fits n n (length l) s.0 s.0 s.1) (fits n 1 (length out) s.0 (omega arith) (s.2 ∙ sym (mul-one n))))

-- ---- the factor
-- right of the diagonal there are zeros
zeros-right : (n : ℕ) (a l : List Float) → calls.cholesky n a ≡ found l → (i j : ℕ) → i < j → j < n → at l n i j ≡ nought
zeros-right n a l e i j h g =
    ap (λ (f : Factor). at (array_of f) n i j) (sym e)
    ∙ right_kept a n (blank n) i j h g
    ∙ get_or-replicate (n * n) (i * n + j) nought nan (place i j n (omega arith) g)

pub cholesky-answered : CholeskyAnswered
cholesky-answered n a out =
    cases (squares n (length a) (length out)) (calls.cholesky n a) refl
    (two n (length a) (length out)) (square-and-square n (length a) (length out))
  where
    cases
        : (test : Bool) (f : Factor) → calls.cholesky n a ≡ f
        → (test ≡ true → (n ≤ 32) × (length a ≡ n * n) × (length out ≡ n * n))
        → ((n ≤ 32) × (length a ≡ n * n) × (length out ≡ n * n) → test ≡ true)
        → (((n ≤ 32) × (length a ≡ n * n) × (length out ≡ n * n)) × (cond test (calls.factor_answer f) wrong_size ≡ 0)
        × (calls.cholesky n a ≡ found (output test (calls.factor_output f out) out))
        × ((i j : ℕ) → i < j → j < n → at (output test (calls.factor_output f out) out) n i j ≡ nought))
        ⊎ (((n ≤ 32) × (length a ≡ n * n) × (length out ≡ n * n)) × (cond test (calls.factor_answer f) wrong_size ≡ singular)
        × ((l : List Float) × (calls.cholesky n a ≡ refused l)) × (output test (calls.factor_output f out) out ≡ out))
        ⊎ (((n ≤ 32) × (length a ≡ n * n) × (length out ≡ n * n) → ⊥) × (cond test (calls.factor_answer f) wrong_size ≡ wrong_size)
        × (output test (calls.factor_output f out) out ≡ out))
    cases true (found l) e to from = inl (to refl, refl, e, zeros-right n a l e)
    cases true (refused l) e to from = inr (inl (to refl, refl, (l, e), refl))
    cases false f e to from = inr (inr ((λ m. let z : ◌≡◌ {A = ℕ} 0 1 = differ (sym (from m)) in omega arith), refl, refl))
