-- Tests joined by &&, and what the tests of bytes and of floats say place by place. Assumes nothing.
use Prim.Native.Nat.{ℕ, zero, suc, ◌+◌, ◌*◌, ◌<◌, ◌≤◌}
use mathlib.Core.Path.{◌≡◌, refl, sym, ap, ◌∙◌}
use mathlib.Core.Bool.{Bool, true, false, ◌&&◌, false≢true}
use mathlib.Core.Logic.{⊎_elim}
use mathlib.Core.List.{List, [], ◌∷◌, map}
use native.Mathlib.Omega.{arith}
use lib.Dec.{leb, eqb, lit<}
use lib.ListN.{get_or, take, drop, length, length-drop}
use lib.Seq.{get_or-drop}
use Rattle.std.specs.List.{list_all, range_with_len}
use Rattle.std.proofs.lemmas.List.Folds.{list_all_more, list_all-map, list_all-append}
use Rattle.std.proofs.lemmas.List.FromFn.{map-range_with_len_more}
use borrow.Author.Tests.{eqb-true}
use Rattle.binary64.specs.Steps.{is_finite}
use Rattle.sets.proofs.Tests.{lt-suc-cases}
use Rattle.words.specs.Words.{f64_at}
use Rattle.reader.specs.Rules.{answer_at, detail_at, n_at, mask_at, version_at, kind_at}
use Rattle.reader.specs.Tests.{zeros, finite, good_mask, good_dof, good_floats, good_metres, good_fix, meets_rules}

pub both_hold : (a b : Bool) → a ≡ true → b ≡ true → (a && b) ≡ true
both_hold a b p q = rw (p, q)

pub both_true : (a b : Bool) → (a && b) ≡ true → (a ≡ true) × (b ≡ true)
both_true true b e = (refl, e)
both_true false b e = absurd (false≢true e)

pub all-3 : (a b c : Bool) → (a && (b && c)) ≡ true → (a ≡ true) × (b ≡ true) × (c ≡ true)
all-3 a b c e = let t = both_true a (b && c) e in let u = both_true b c t.1 in (t.0, u.0, u.1)

pub all-4 : (a b c d : Bool) → (a && (b && (c && d))) ≡ true → (a ≡ true) × (b ≡ true) × (c ≡ true) × (d ≡ true)
all-4 a b c d e = let t = both_true a (b && (c && d)) e in let u = all-3 b c d t.1 in (t.0, u.0, u.1, u.2)

pub all-8
    : (a b c d e f g h : Bool) → (a && (b && (c && (d && (e && (f && (g && h))))))) ≡ true
    → (a ≡ true) × (b ≡ true) × (c ≡ true) × (d ≡ true) × (e ≡ true) × (f ≡ true) × (g ≡ true) × (h ≡ true)
all-8 a b c d e f g h q =
    let r = both_true a (b && (c && (d && (e && (f && (g && h)))))) q in
    let t = both_true b (c && (d && (e && (f && (g && h))))) r.1 in
    let u = both_true c (d && (e && (f && (g && h)))) t.1 in
    let v = both_true d (e && (f && (g && h))) u.1 in
    let w = all-4 e f g h v.1 in (r.0, t.0, u.0, v.0, w.0, w.1, w.2, w.3)

-- the same by the bytes of the part
pub zeros-part : (s : List ℕ) (k count : ℕ) → k + count ≤ length s → list_all (λ b. eqb b 0) (take count (drop k s)) ≡ zeros s k count
unfolding zeros
zeros-part s k zero h = refl
zeros-part s k (suc c) h =
    let part = drop k s in
    let more : c < length part = rw (length-drop k s) (omega arith) in
    let one : suc c ≡ c + 1 = omega arith in
    rw (one, list_all_more (λ b. eqb b 0) part c 0 more, zeros-part s k c (omega arith), get_or-drop k s c 0)

pub zeros-at : (s : List ℕ) (k count : ℕ) → zeros s k count ≡ true → (i : ℕ) → i < count → get_or s (k + i) 0 ≡ 0
unfolding zeros
zeros-at s k zero e i h = absurd (omega arith)
zeros-at s k (suc c) e i h =
    let t = both_true (zeros s k c) (eqb (get_or s (k + c) 0) 0) e in
    ⊎_elim (λ q. rw q (eqb-true _ _ t.1)) (λ l. zeros-at s k c t.0 i l) (lt-suc-cases i c h)

with-true : (a b : Bool) → (a && (b && true)) ≡ (a && b)
with-true a true = refl
with-true a false = refl

-- one place more
pub one-more : (p : ℕ → Bool) (c : ℕ) → list_all p (range_with_len 0 (c + 1)) ≡ (list_all p (range_with_len 0 c) && p c)
one-more p c =
    let id : Bool → Bool = λ b. b in
    sym (list_all-map id p (range_with_len 0 (c + 1)))
    ∙ ap (list_all id) (map-range_with_len_more p 0 c c (omega arith))
    ∙ list_all-append id (map p (range_with_len 0 c)) (p c ∷ [])
    ∙ rw (list_all-map id p (range_with_len 0 c)) (with-true (list_all p (range_with_len 0 c)) (p c))

-- the same by the places of the numbers
pub finite-each : (s : List ℕ) (k count : ℕ) → list_all (λ i. is_finite (f64_at s (k + 8 * i))) (range_with_len 0 count) ≡ finite s k count
unfolding finite
finite-each s k zero = refl
finite-each s k (suc c) =
    let one : suc c ≡ c + 1 = omega arith in
    let p : ℕ → Bool = λ i. is_finite (f64_at s (k + 8 * i)) in
    ap (λ n. list_all p (range_with_len 0 n)) one ∙ one-more p c ∙ rw (finite-each s k c)

pub finite-at : (s : List ℕ) (k count : ℕ) → finite s k count ≡ true → (i : ℕ) → i < count → is_finite (f64_at s (k + 8 * i)) ≡ true
unfolding finite
finite-at s k zero e i h = absurd (omega arith)
finite-at s k (suc c) e i h =
    let t = both_true (finite s k c) (is_finite (f64_at s (k + 8 * c))) e in
    ⊎_elim (λ q. rw q t.1) (λ l. finite-at s k c t.0 i l) (lt-suc-cases i c h)

-- some of the floats
pub finite-within : (s : List ℕ) (k count : ℕ) → finite s k count ≡ true → (j m : ℕ) → j + m ≤ count → finite s (k + 8 * j) m ≡ true
unfolding finite
finite-within s k count e j zero h = refl
finite-within s k count e j (suc m) h =
    let q : k + 8 * (j + m) ≡ k + 8 * j + 8 * m = omega arith in
    both_hold (finite s (k + 8 * j) m) (is_finite (f64_at s (k + 8 * j + 8 * m)))
    (finite-within s k count e j m (omega arith))
    (rw q at (finite-at s k count e (j + m) (omega arith)))

-- the floats of a fix: ECEF, T and the position; the covariance and chi2; the altitude metres
pub fix-floats : (s : List ℕ) → good_fix s ≡ true → (finite s 16 7 ≡ true) × (finite s 80 10 ≡ true) × (finite s 168 1 ≡ true)
unfolding good_fix good_floats
fix-floats s g =
    let floats = finite s 16 7 && (finite s 80 10 && finite s 168 1) in
    let mask = good_mask (mask_at s) (n_at s) in
    let dof = good_dof (mask_at s) (kind_at s) (detail_at s) in
    let r = all-8 (leb (n_at s) 32) (eqb (version_at s) 8) (leb (kind_at s) 2) floats mask dof (zeros s 163 5) (good_metres (kind_at s) s) g in
    all-3 (finite s 16 7) (finite s 80 10) (finite s 168 1) r.3

-- a fix that meets the rules meets those of a fix
pub fix-meets : (s : List ℕ) → answer_at s ≡ 0 → meets_rules s ≡ true → good_fix s ≡ true
unfolding meets_rules
fix-meets s e g = rw e at g

module _ (s : List ℕ) (g : good_fix s ≡ true) where
  -- one of the first seven, one of the ten, and three of either
  pub low-finite : (i : ℕ) → i < 7 → is_finite (f64_at s (16 + 8 * i)) ≡ true
  low-finite = finite-at s 16 7 (fix-floats s g).0

  pub high-finite : (i : ℕ) → i < 10 → is_finite (f64_at s (80 + 8 * i)) ≡ true
  high-finite = finite-at s 80 10 (fix-floats s g).1

  pub low-three : (j : ℕ) → j + 3 ≤ 7 → finite s (16 + 8 * j) 3 ≡ true
  low-three j = finite-within s 16 7 (fix-floats s g).0 j 3

  pub high-three : (j : ℕ) → j + 3 ≤ 10 → finite s (80 + 8 * j) 3 ≡ true
  high-three j = finite-within s 80 10 (fix-floats s g).1 j 3

  pub metres-finite : is_finite (f64_at s 168) ≡ true
  metres-finite = finite-at s 168 1 (fix-floats s g).2 0 (lit< tt)
