-- `matrices::factor` meets its contract. The factor is found in the first n * n of 1024 zeros (`take-zeros`), and those are
-- copied. Assumes nothing.
use mathlib.Core.Path.{◌≡◌, sym, ap, ◌∙◌}
use mathlib.Core.Bool.{Bool, true, false}
use mathlib.Core.List.{List}
use Prim.Native.Nat.{ℕ, ◌*◌, ◌≤◌}
use native.Mathlib.Omega.{arith}
use lib.ListN.{length, take, replicate, length-append, length-replicate}
use lib.Seq.{take_at}
use lib.Ieee.{Float}
use Rattle.binary64.specs.Steps.{nought}
use Rattle.dense.specs.Factor.{Factor}
use Rattle.dense.specs.Held.{verdict}
use Rattle.dense.specs.Factor as factors
use Rattle.dense.specs.Triangular.{blank}
use Rattle.dense.proofs.Places.{room}
use Rattle.dense.proofs.Units.{take-zeros}
use Rattle.matrices.specs.Calls as calls
use Rattle.matrices.proofs.factor.Goals as goal

-- what is lent to `cholesky`
lent : (n : ℕ) → n ≤ 32 → take (n * n) (replicate 1024 nought) ≡ blank n
lent n h = take-zeros (n * n) 1024 (room n h)

lent_length : (n : ℕ) → n ≤ 32 → length (take (n * n) (replicate 1024 nought)) ≡ n * n
lent_length n h = ap length (lent n h) ∙ length-replicate (n * n) nought

-- what it leaves there, and its verdict
told
    : (n : ℕ) (a left : List Float) (r t : Bool) → n ≤ 32
    → verdict r left ≡ factors.cholesky a n (take (n * n) (replicate 1024 nought)) → r ≡ t
    → verdict t left ≡ calls.cholesky n a
told n a left r t g e h = sym (ap (λ (b : Bool). verdict b left) h) ∙ e ∙ ap (factors.cholesky a n) (lent n g)

pub overflow_mul-size : goal.overflow_mul-size
overflow_mul-size c = omega (arith, room c.args.n (omega arith))

pub slice_bounds-l-end : goal.slice_bounds-l-end
slice_bounds-l-end c = omega (arith, room c.args.n (omega arith))

pub slice_bounds-cholesky-end : goal.slice_bounds-cholesky-end
slice_bounds-cholesky-end c = sym (lent_length c.args.n (omega arith))

pub cholesky-found-requires : goal.cholesky-found-requires
cholesky-found-requires c = omega (arith, lent_length c.args.n (omega arith))

pub slice_bounds-l-end-then-found : goal.slice_bounds-l-end-then-found
slice_bounds-l-end-then-found c =
    let left = c.cholesky-found.auto.l ∙ lent_length c.args.n (omega arith) in
    simp length-append (omega (arith, left, room c.args.n (omega arith)))

pub slice_bounds-copy_from_slice-end : goal.slice_bounds-copy_from_slice-end
slice_bounds-copy_from_slice-end c =
    let left = c.cholesky-found.auto.l ∙ lent_length c.args.n (omega arith) in
    rw (take_at _ _ _ left) (sym left)

pub copy_from_slice-requires : goal.copy_from_slice-requires
copy_from_slice-requires c =
    let left = c.cholesky-found.auto.l ∙ lent_length c.args.n (omega arith) in
    rw (take_at _ _ _ left) (omega (arith, left))

pub returns-then-found : goal.returns-then-found
returns-then-found c =
    let left = c.cholesky-found.auto.l ∙ lent_length c.args.n (omega arith) in
    let known = told c.args.n c.args.a.now _ _ true (omega arith) c.cholesky-found.ensures c.if-found.true in record {
      answer = ap calls.factor_answer known;
      output = c.copy_from_slice.ensures.after ∙ take_at _ _ _ left ∙ ap (λ (f : Factor). calls.factor_output f c.args.out.now) known;
    }

pub returns : goal.returns
returns c =
    let known = told c.args.n c.args.a.now _ _ false (omega arith) c.cholesky-found.ensures c.if-found.false in record {
      answer = ap calls.factor_answer known;
      output = ap (λ (f : Factor). calls.factor_output f c.args.out.now) known;
    }
