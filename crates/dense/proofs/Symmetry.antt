-- Two mirrored places that a value was stored in keep it, since what is stored later lies elsewhere: so the inverse and the
-- results that are mirrored by construction are symmetric to the bit, `inverse_diagonal` has the diagonal of
-- `inverse_triangular`, and what stood in a result's array before does not show. Assumes nothing.
use mathlib.Core.Path.{◌≡◌, refl, sym, subst, ◌∙◌}
use mathlib.Core.List.{List, [], ◌∷◌}
use mathlib.Core.Logic.{◌≢◌, ◌⊎◌, inl, inr}
use Prim.Native.Nat.{ℕ, zero, suc, ◌+◌, ◌*◌, ◌-◌, ◌/◌, ◌%◌, ◌≤◌, ◌<◌}
use native.Mathlib.Nat.{not-suc-le-zero, le_of_suc-le-suc, eq-or-lt_of_le, mod-lt, div-add-mod', div-lt_iff_lt-mul}
use native.Mathlib.Omega.{arith}
use lib.ListN.{length, set, replicate, length-set}
use lib.Seq.{get_or-set_same, get_or-set_other, lt-length-set, ext_get_or}
use lib.Ieee.{Float, nan}
use Rattle.binary64.specs.Steps.{◌⊕◌, ◌⊗◌, nought, one, half}
use Rattle.dense.specs.Entries.{nth, at, put}
use Rattle.dense.specs.Solve.{solve}
use Rattle.dense.specs.Inverse.{columns_to, put_column_to, symmetrise_row_to, symmetrise_to, inverse}
use Rattle.dense.specs.Mirrored.{mirrored_row_to, mirrored_to, mirrored}
use Rattle.dense.specs.Triangular.{columns_dot, diagonal_to, lower_inverse, blank}
use Rattle.dense.specs.Sandwich.{product, product_to}
use Rattle.dense.specs.Symmetry.{Symmetric, InverseSymmetric, InverseTriangularSymmetric, SandwichSymmetric, OneDiagonal}
use Rattle.dense.specs.Symmetry.{Overwritten, ResultsOverwritten}
use Rattle.dense.proofs.Places.{place, same_row, same-column}

-- ---- a value stored in two places stands in the first
twice : (l : List Float) (p q : ℕ) (v : Float) → p < length l → nth (set (set l p v) q v) p ≡ v
twice [] p q v h = absurd (not-suc-le-zero h)
twice (x ∷ xs) zero zero v h = refl
twice (x ∷ xs) zero (suc q) v h = refl
twice (x ∷ xs) (suc p) zero v h = get_or-set_same xs p v nan (le_of_suc-le-suc h)
twice (x ∷ xs) (suc p) (suc q) v h = twice xs p q v (le_of_suc-le-suc h)

module _ (n : ℕ) where
  -- ---- entries of different rows, or of different columns, lie in different places
  away : (i j r c : ℕ) → j < n → c < n → (i ≢ r) ⊎ (j ≢ c) → i * n + j ≢ r * n + c
  away i j r c h g (inl d) = λ e. d (same_row n i j r c h g e)
  away i j r c h g (inr d) = λ e. d (same-column n i j r c h g e)

  -- ---- v stands in both places of i and j
  abbrev Both : List Float → ℕ → ℕ → Float → Type 0
  Both m i j v = (at m n i j ≡ v) × (at m n j i ≡ v)

  abbrev both : List Float → ℕ → ℕ → Float → List Float
  both m r c v = put (put m n r c v) n c r v

  both-length : (m : List Float) (r c : ℕ) (v : Float) → length (both m r c v) ≡ length m
  both-length m r c v = length-set (put m n r c v) (c * n + r) v ∙ length-set m (r * n + c) v

  stored : (m : List Float) (r c : ℕ) (v : Float) → r < n → c < n → n * n ≤ length m → Both (both m r c v) r c v
  stored m r c v h g k = (
    twice m (r * n + c) (c * n + r) v (omega (arith, place r c n h g)),
    get_or-set_same (put m n r c v) (c * n + r) v nan (lt-length-set m (r * n + c) v (omega (arith, place c r n g h))),
  )

  beside
      : (m : List Float) (i j r c : ℕ) (v : Float) → j < n → r < n → c < n
      → (i ≢ r) ⊎ (j ≢ c) → (i ≢ c) ⊎ (j ≢ r) → at (both m r c v) n i j ≡ at m n i j
  beside m i j r c v h g k d e =
      get_or-set_other (put m n r c v) (c * n + r) (i * n + j) v nan (away i j c r h g e)
      ∙ get_or-set_other m (r * n + c) (i * n + j) v nan (away i j r c h k d)

  turned : {A B : Type 0} → A ⊎ B → B ⊎ A
  turned (inl a) = inr a
  turned (inr b) = inl b

  kept
      : (m : List Float) (i j r c : ℕ) (v w : Float) → i < n → j < n → r < n → c < n
      → (i ≢ r) ⊎ (j ≢ c) → (i ≢ c) ⊎ (j ≢ r) → Both m i j v → Both (both m r c w) i j v
  kept m i j r c v w a b g k d e p = (beside m i j r c w b g k d e ∙ p.0, beside m j i r c w a g k (turned e) (turned d) ∙ p.1)

  -- ---- what is mirrored by construction
  module _ (value : ℕ → ℕ → Float) where
    row-length : (i : ℕ) (m : List Float) (k : ℕ) → length (mirrored_row_to value n i m k) ≡ length m
    unfolding mirrored_row_to
    row-length i m zero = refl
    row-length i m (suc k) = both-length (mirrored_row_to value n i m k) i k (value i k) ∙ row-length i m k

    row_Makes
        : (i : ℕ) (m : List Float) (k j : ℕ) → i < n → n * n ≤ length m → k ≤ suc i → j < k
        → Both (mirrored_row_to value n i m k) i j (value i j)
    unfolding mirrored_row_to
    row_Makes i m zero j h r g l = absurd (not-suc-le-zero l)
    row_Makes i m (suc k) j h r g l =
        let row = mirrored_row_to value n i m k in
        elim (eq-or-lt_of_le (le_of_suc-le-suc l)) [
          | inl e ↦ rw e (stored row i k (value i k) h (omega arith) (omega (arith, row-length i m k)))
          | inr b ↦
              kept row i j i k (value i j) (value i k) h (omega arith) h (omega arith) (inr (λ e. omega arith)) (inr (λ e. omega arith))
              (row_Makes i m k j h r (omega arith) b)
        ]

    row_keeps
        : (t : ℕ) (m : List Float) (k i j : ℕ) (v : Float) → t < n → k ≤ suc t → i < t → j ≤ i
        → Both m i j v → Both (mirrored_row_to value n t m k) i j v
    unfolding mirrored_row_to
    row_keeps t m zero i j v h g a b p = p
    row_keeps t m (suc k) i j v h g a b p =
        kept (mirrored_row_to value n t m k) i j t k v (value t k) (omega arith) (omega arith) h (omega arith)
        (inl (λ e. omega arith)) (inr (λ e. omega arith)) (row_keeps t m k i j v h (omega arith) a b p)

    mirrored-length : (m : List Float) (t : ℕ) → length (mirrored_to value n m t) ≡ length m
    unfolding mirrored_to
    mirrored-length m zero = refl
    mirrored-length m (suc t) = row-length t (mirrored_to value n m t) (suc t) ∙ mirrored-length m t

    makes
        : (m : List Float) (t i j : ℕ) → n * n ≤ length m → t ≤ n → i < t → j ≤ i
        → Both (mirrored_to value n m t) i j (value i j)
    unfolding mirrored_to
    makes m zero i j r g l b = absurd (not-suc-le-zero l)
    makes m (suc t) i j r g l b =
        let rows = mirrored_to value n m t in
        elim (eq-or-lt_of_le (le_of_suc-le-suc l)) [
          | inl e ↦ rw e (row_Makes t rows (suc t) j (omega arith) (omega (arith, mirrored-length m t)) (omega arith) (omega arith))
          | inr a ↦ row_keeps t rows (suc t) i j (value i j) (omega arith) (omega arith) a b (makes m t i j r (omega arith) a b)
        ]

    -- the entries: on and left of the diagonal, and their mirrors
    entries : (m : List Float) → n * n ≤ length m → (i j : ℕ) → i < n → j ≤ i → Both (mirrored value n m) i j (value i j)
    entries m r i j h g = makes m n i j r (omega arith) h g

  -- ---- what `symmetrise` leaves: one value in both places of i and j
  abbrev Held : List Float → ℕ → ℕ → Type 0
  Held m i j = (v : Float) × Both m i j v

  -- half the sum of two mirrored entries
  abbrev mean : List Float → ℕ → ℕ → Float
  mean g r c = half ⊗ (at g n r c ⊕ at g n c r)

  means-length : (row : ℕ) (m : List Float) (k : ℕ) → length (symmetrise_row_to n row m k) ≡ length m
  unfolding symmetrise_row_to
  means-length row m zero = refl
  means-length row m (suc k) =
      let g = symmetrise_row_to n row m k in
      both-length g row (row + 1 + k) (mean g row (row + 1 + k)) ∙ means-length row m k

  means-make
      : (row : ℕ) (m : List Float) (k c : ℕ) → row + 1 + k ≤ n → n * n ≤ length m → c < k
      → Held (symmetrise_row_to n row m k) row (row + 1 + c)
  unfolding symmetrise_row_to
  means-make row m zero c h r l = absurd (not-suc-le-zero l)
  means-make row m (suc k) c h r l =
      let g = symmetrise_row_to n row m k in
      let x = mean g row (row + 1 + k) in
      elim (eq-or-lt_of_le (le_of_suc-le-suc l)) [
        | inl e ↦ rw e (x, stored g row (row + 1 + k) x (omega arith) (omega arith) (omega (arith, means-length row m k)))
        | inr b ↦
            let p = means-make row m k c (omega arith) r b in (
              p.0,
              kept g row (row + 1 + c) row (row + 1 + k) p.0 x (omega arith) (omega arith) (omega arith) (omega arith)
                  (inr (λ e. omega arith)) (inl (λ e. omega arith)) p.1,
            )
      ]

  means-keep
      : (row : ℕ) (m : List Float) (k i j : ℕ) → row + 1 + k ≤ n → i < row → j < n → Held m i j → Held (symmetrise_row_to n row m k) i j
  unfolding symmetrise_row_to
  means-keep row m zero i j h a b p = p
  means-keep row m (suc k) i j h a b p =
      let g = symmetrise_row_to n row m k in
      let x = mean g row (row + 1 + k) in
      let q = means-keep row m k i j (omega arith) a b p in (
        q.0,
        kept g i j row (row + 1 + k) q.0 x (omega arith) b (omega arith) (omega arith)
            (inl (λ e. omega arith)) (inl (λ e. omega arith)) q.1,
      )

  all-length : (m : List Float) (row : ℕ) → length (symmetrise_to n m row) ≡ length m
  unfolding symmetrise_to
  all-length m zero = refl
  all-length m (suc row) = means-length row (symmetrise_to n m row) (n - (row + 1)) ∙ all-length m row

  symmetrised
      : (m : List Float) (row i j : ℕ) → n * n ≤ length m → row ≤ n → i < row → i < j → j < n → Held (symmetrise_to n m row) i j
  unfolding symmetrise_to
  symmetrised m zero i j r h a b l = absurd (not-suc-le-zero a)
  symmetrised m (suc row) i j r h a b l =
      let g = symmetrise_to n m row in
      let few = n - (row + 1) in
      let at = j - (row + 1) in
      elim (eq-or-lt_of_le (le_of_suc-le-suc a)) [
        | inl e ↦
            let there : row + 1 + (j - (row + 1)) ≡ j = omega arith in
            rw e (rw there at (means-make row g few at (omega arith) (omega (arith, all-length m row)) (omega arith)))
        | inr d ↦ means-keep row g few i j (omega arith) d l (symmetrised m row i j r (omega arith) d b l)
      ]

  column-length : (column : ℕ) (x m : List Float) (k : ℕ) → length (put_column_to m n column x k) ≡ length m
  unfolding put_column_to
  column-length column x m zero = refl
  column-length column x m (suc k) =
      length-set (put_column_to m n column x k) (k * n + column) (nth x k) ∙ column-length column x m k

  columns-length : (l m : List Float) (k : ℕ) → length (columns_to l n m k) ≡ length m
  unfolding columns_to
  columns-length l m zero = refl
  columns-length l m (suc k) =
      column-length k (solve l n (set (replicate n nought) k one)) (columns_to l n m k) n ∙ columns-length l m k

  -- ---- the diagonal's entries, each stored once
  diagonal-length : (inv d : List Float) (k : ℕ) → length (diagonal_to inv n d k) ≡ length d
  unfolding diagonal_to
  diagonal-length inv d zero = refl
  diagonal-length inv d (suc k) = length-set (diagonal_to inv n d k) k (columns_dot inv n k k) ∙ diagonal-length inv d k

  diagonal
      : (inv d : List Float) (k i : ℕ) → n ≤ length d → k ≤ n → i < k → nth (diagonal_to inv n d k) i ≡ columns_dot inv n i i
  unfolding diagonal_to
  diagonal inv d zero i h g l = absurd (not-suc-le-zero l)
  diagonal inv d (suc k) i h g l =
      let z = diagonal_to inv n d k in
      let v = columns_dot inv n k k in
      elim (eq-or-lt_of_le (le_of_suc-le-suc l)) [
        | inl e ↦ rw e (get_or-set_same z k v nan (omega (arith, diagonal-length inv d k)))
        | inr a ↦ get_or-set_other z k i v nan (λ e. omega arith) ∙ diagonal inv d k i h (omega arith) a
      ]

-- ---- the statements
order : (i j : ℕ) → (i ≤ j) ⊎ (j ≤ i)
order zero j = inl (omega arith)
order (suc i) zero = inr (omega arith)
order (suc i) (suc j) = elim (order i j) [ inl h ↦ inl (omega arith) | inr h ↦ inr (omega arith) ]

-- it is enough to look right of the diagonal
from-half : (m : List Float) (n : ℕ) → ((i j : ℕ) → i < j → j < n → at m n i j ≡ at m n j i) → Symmetric m n
from-half m n f i j h g = elim (order i j) [
  | inl a ↦ elim (eq-or-lt_of_le a) [ inl e ↦ rw e | inr b ↦ f i j b g ]
  | inr a ↦ elim (eq-or-lt_of_le a) [ inl e ↦ rw e | inr b ↦ sym (f j i b h) ]
]

pub inverse-symmetric : InverseSymmetric
inverse-symmetric l n m r =
    let columns = columns_to l n m n in
    from-half (inverse l n m) n (λ i j h g.
    let p = symmetrised n columns n i j (omega (arith, columns-length n l m n)) (omega arith) (omega arith) h g in
    p.1.0 ∙ sym p.1.1)

mirrored-symmetric : (value : ℕ → ℕ → Float) (n : ℕ) (m : List Float) → n * n ≤ length m → Symmetric (mirrored value n m) n
mirrored-symmetric value n m r =
    from-half (mirrored value n m) n (λ i j h g.
    let p = entries n value m r j i g (omega arith) in
    p.1 ∙ sym p.0)

pub inverse-triangular-symmetric : InverseTriangularSymmetric
inverse-triangular-symmetric l n m r = mirrored-symmetric (columns_dot (lower_inverse l n (blank n)) n) n m r

pub sandwich-symmetric : SandwichSymmetric
sandwich-symmetric a inner n m r = mirrored-symmetric (product (product_to a inner n (blank n) n) a n) n m r

pub one-diagonal : OneDiagonal
one-diagonal l n d m h r i g =
    let inv = lower_inverse l n (blank n) in
    diagonal n inv d n i h (omega arith) g ∙ sym (entries n (columns_dot inv n) m r i i g (omega arith)).0

-- ---- every entry is written, so that what stood there before does not show
-- a place of a matrix is that of a row and a column
spot : (n : ℕ) (P : ℕ → Type 0) → ((i j : ℕ) → i < n → j < n → P (i * n + j)) → (p : ℕ) → p < n * n → P p
spot zero P f p h = absurd (not-suc-le-zero h)
spot (suc n) P f p h =
    let row = p / suc n in
    let column = p % suc n in
    subst P (div-add-mod' p (suc n)) (f row column ((div-lt_iff_lt-mul (omega arith)).1 h) (mod-lt p (omega arith)))

mirrored-overwritten : (value : ℕ → ℕ → Float) → Overwritten (mirrored value) (λ n. n * n)
mirrored-overwritten value n m m' h h' =
    let r = mirrored value n m in
    let r' = mirrored value n m' in
    ext_get_or nan r r' (mirrored-length n value m n ∙ h ∙ sym h' ∙ sym (mirrored-length n value m' n))
    (λ p g. spot n (λ q. nth r q ≡ nth r' q) same p (omega (arith, mirrored-length n value m n)))
  where
    same : (i j : ℕ) → i < n → j < n → at (mirrored value n m) n i j ≡ at (mirrored value n m') n i j
    same i j a b = elim (order i j) [
      | inl o ↦ (entries n value m (omega arith) j i b o).1 ∙ sym (entries n value m' (omega arith) j i b o).1
      | inr o ↦ (entries n value m (omega arith) i j a o).0 ∙ sym (entries n value m' (omega arith) i j a o).0
    ]

diagonal-overwritten : (inv : List Float) → Overwritten (λ n d. diagonal_to inv n d n) (λ n. n)
diagonal-overwritten inv n d d' h h' =
    let r = diagonal_to inv n d n in
    let r' = diagonal_to inv n d' n in
    ext_get_or nan r r' (diagonal-length n inv d n ∙ h ∙ sym h' ∙ sym (diagonal-length n inv d' n)) (λ i g.
    let k : i < n = omega (arith, diagonal-length n inv d n) in
    diagonal n inv d n i (omega arith) (omega arith) k ∙ sym (diagonal n inv d' n i (omega arith) (omega arith) k))

pub results-overwritten : ResultsOverwritten
results-overwritten = (
  (λ l n. mirrored-overwritten (columns_dot (lower_inverse l n (blank n)) n) n),
  (λ l n. diagonal-overwritten (lower_inverse l n (blank n)) n),
  (λ a inner n. mirrored-overwritten (product (product_to a inner n (blank n) n) a n) n),
)
