-- What it means that sizes match, and that two tests both hold. Assumes nothing.
use mathlib.Core.Path.{◌≡◌, refl}
use mathlib.Core.Bool.{Bool, true, false, ◌&&◌}
use Prim.Native.Nat.{ℕ, ◌*◌, ◌≤◌}
use native.Mathlib.Omega.{arith}
use lib.Dec.{leb, eqb}
use borrow.Author.Tests.{leb-true, eqb-true, le-leb, eq-eqb}
use Rattle.matrices.specs.Matching.{holds, squares, square_and_column, three_squares, square_and_rows}

pub both_true : (a b : Bool) → (a && b) ≡ true → (a ≡ true) × (b ≡ true)
both_true true true e = (refl, refl)
both_true true false e = absurd (let z : ◌≡◌ {A = ℕ} 0 1 = cc in omega arith)
both_true false b e = absurd (let z : ◌≡◌ {A = ℕ} 0 1 = cc in omega arith)

pub held : (rows columns entries : ℕ) → holds rows columns entries ≡ true → (rows ≤ 32) × (columns ≤ 32) × (entries ≡ rows * columns)
held rows columns entries e =
    let p = both_true (leb rows 32) (leb columns 32 && eqb entries (rows * columns)) e in
    let q = both_true (leb columns 32) (eqb entries (rows * columns)) p.1 in
    (leb-true rows 32 p.0, leb-true columns 32 q.0, eqb-true entries (rows * columns) q.1)

pub fits : (rows columns entries : ℕ) → rows ≤ 32 → columns ≤ 32 → entries ≡ rows * columns → holds rows columns entries ≡ true
fits rows columns entries h g e = rw (le-leb rows 32 h, le-leb columns 32 g, eq-eqb entries (rows * columns) e)

-- ---- the buffers of each call
pub two : (n l out : ℕ) → squares n l out ≡ true → (n ≤ 32) × (l ≡ n * n) × (out ≡ n * n)
two n l out e =
    let p = both_true (holds n n l) (holds n n out) e in
    let a = held n n l p.0 in
    (a.0, a.2, (held n n out p.1).2)

pub with-column : (n l out : ℕ) → square_and_column n l out ≡ true → (n ≤ 32) × (l ≡ n * n) × (out ≡ n * 1)
with-column n l out e =
    let p = both_true (holds n n l) (holds n 1 out) e in
    let a = held n n l p.0 in
    (a.0, a.2, (held n 1 out p.1).2)

pub three : (n a inner out : ℕ) → three_squares n a inner out ≡ true → (n ≤ 32) × (a ≡ n * n) × (inner ≡ n * n) × (out ≡ n * n)
three n a inner out e =
    let p = both_true (holds n n a) (squares n inner out) e in
    let q = two n inner out p.1 in
    (q.0, (held n n a p.0).2, q.1, q.2)

pub with_rows
    : (n width l q out : ℕ) → square_and_rows n width l q out ≡ true
    → (n ≤ 32) × (width ≤ 32) × (l ≡ n * n) × (q ≡ n * width) × (out ≡ n * width)
with_rows n width l q out e =
    let p = both_true (holds n n l) (holds n width q && holds n width out) e in
    let r = both_true (holds n width q) (holds n width out) p.1 in
    let a = held n n l p.0 in
    let b = held n width q r.0 in
    (a.0, b.1, a.2, b.2, (held n width out r.1).2)
