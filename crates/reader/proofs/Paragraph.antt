-- The tests hold exactly where the rules do: rule by rule, each in both directions. Assumes nothing.
use Prim.Native.Nat.{ℕ, zero, suc, ◌+◌, ◌-◌, ◌*◌, ◌/◌, ◌%◌, ◌^◌, ◌<◌, ◌≤◌}
use mathlib.Core.Path.{◌≡◌, refl, sym, subst}
use mathlib.Core.Bool.{Bool, true, false, cond, not, ◌&&◌, ◌||◌}
use mathlib.Core.Logic.{◌⊎◌, inl, inr, ⊎_elim}
use mathlib.Core.List.{List}
use native.Mathlib.Nat.{pow-suc}
use native.Mathlib.Omega.{arith}
use lib.Dec.{T, leb, eqb}
use lib.ListN.{get_or}
use lib.Pow.{pow_pos}
use borrow.Author.Tests.{eq-eqb, ne_eqb, eqb-true, eqb-false, le-leb, leb-true, leb-false, lt-ltb, ltb-true}
use Rattle.binary64.specs.Steps.{is_finite}
use Rattle.sets.specs.Mask.{has}
use Rattle.sets.proofs.Digits.{has-suc, has-low, has-below}
use Rattle.words.specs.Words.{u32_at, f64_at}
use Rattle.words.proofs.Back.{word_lt}
use Rattle.reader.specs.Rules.{answer_at, detail_at, n_at, mask_at, version_at, kind_at}
use Rattle.reader.specs.Rules.{Zero, Finite, DetailRule, FixRules, RefusalRules, Rules}
use Rattle.reader.specs.Tests.{between, zeros, finite, good_answer, good_detail, good_n, good_mask, good_dof, good_floats, good_metres}
use Rattle.reader.specs.Tests.{good_fix, good_refusal, meets_rules}
use Rattle.reader.specs.Meaning.{Bytes, TestsAreRules}
use Rattle.reader.proofs.Tests.{both_true, both_hold, all-3, all-4, all-8, zeros-at, finite-at}

-- ---- tests

or-true : (a b : Bool) → (a || b) ≡ true → (a ≡ true) ⊎ (b ≡ true)
or-true true b e = inl refl
or-true false b e = inr e

or-hold : (a b : Bool) → (a ≡ true) ⊎ (b ≡ true) → (a || b) ≡ true
or-hold a b (inl e) = rw e
or-hold true b (inr e) = refl
or-hold false b (inr e) = e

-- ---- zero bytes and finite floats

zero_of : (s : List ℕ) (k count : ℕ) → zeros s k count ≡ true → Zero s k (k + count)
zero_of s k count e j a b = let q : k + (j - k) ≡ j = omega arith in rw q at (zeros-at s k count e (j - k) (omega arith))

zero-to : (s : List ℕ) (k count : ℕ) → Zero s k (k + count) → zeros s k count ≡ true
unfolding zeros
zero-to s k zero z = refl
zero-to s k (suc c) z =
    both_hold (zeros s k c) (eqb (get_or s (k + c) 0) 0) (zero-to s k c (λ j a b. z j a (omega arith)))
    (eq-eqb (get_or s (k + c) 0) 0 (z (k + c) (omega arith) (omega arith)))

finite-to : (s : List ℕ) (k count : ℕ) → ((i : ℕ) → i < count → Finite s (k + 8 * i)) → finite s k count ≡ true
unfolding finite
finite-to s k zero f = refl
finite-to s k (suc c) f =
    both_hold (finite s k c) (is_finite (f64_at s (k + 8 * c))) (finite-to s k c (λ i h. f i (omega arith))) (f c (omega arith))

one-finite : (s : List ℕ) (k : ℕ) → Finite s k → (i : ℕ) → i < 1 → Finite s (k + 8 * i)
one-finite s k f i h = let e : k + 8 * i ≡ k = omega arith in rw e f

-- ---- a mask within n

no-low : (b : Bool) (m : ℕ) → cond b 1 0 ≡ m % 2 → (T b → ⊥) → m % 2 ≡ 0
no-low true m e f = absurd (f tt)
no-low false m e f = sym e

within : (w m n : ℕ) → m < 2 ^ w → ((i : ℕ) → T (has m i) → i < n) → m < 2 ^ n
within zero m n h f = let e : m ≡ 0 = omega arith in rw e (pow_pos n)
within (suc w) m zero h f =
    let none : (j : ℕ) → T (has (m / 2) j) → j < 0 = λ j t. let l : suc j < 0 = f (suc j) (subst T (sym (has-suc m j)) t) in omega arith in
    let half : m / 2 < 2 ^ 0 = within w (m / 2) 0 (omega (arith, pow-suc 2 w)) none in
    let low : m % 2 ≡ 0 = no-low (has m 0) m (has-low m) (λ t. let l : 0 < 0 = f 0 t in omega arith) in
    omega arith
within (suc w) m (suc n) h f =
    let less : (j : ℕ) → T (has (m / 2) j) → j < n = λ j t. let l : suc j < suc n = f (suc j) (subst T (sym (has-suc m j)) t) in omega arith in
    let half : m / 2 < 2 ^ n = within w (m / 2) n (omega (arith, pow-suc 2 w)) less in
    omega (arith, pow-suc 2 n)

module _ (s : List ℕ) (bytes : Bytes s) where
  mask_lt : mask_at s < 2 ^ 32
  unfolding u32_at
  mask_lt = word_lt 4 s 12 bytes

  mask-to : ((i : ℕ) → T (has (mask_at s) i) → i < n_at s) → good_mask (mask_at s) (n_at s) ≡ true
  unfolding good_mask
  mask-to f = lt-ltb (mask_at s) (2 ^ n_at s) (within 32 (mask_at s) (n_at s) mask_lt f)

mask-of : (m n : ℕ) → good_mask m n ≡ true → (i : ℕ) → T (has m i) → i < n
unfolding good_mask
mask-of m n g i t = has-below n m i (ltb-true m (2 ^ n) g) t

-- ---- a refusal's detail and its n

module _ (a d : ℕ) where
  detail-of : good_detail a d ≡ true → DetailRule a d
  unfolding good_detail
  detail-of g = record {
    too_few = λ e. leb-true d 3 (rw e at g);
    disorder = λ e. let t = both_true (leb 1 d) (leb d 31) (rw e at g) in (leb-true 1 d t.0, leb-true d 31 t.1);
    bad_field = λ e. ⊎_elim (λ h. inl (leb-true d 31 h)) (λ h. inr (row h)) (or-true (leb d 31) (between 100 131 d || eqb d 200) (rw e at g));
    others = λ x y z. eqb-true d 0 (rw (ne_eqb a 1 x, ne_eqb a 11 y, ne_eqb a 12 z) at g);
  }
    where
      row : (between 100 131 d || eqb d 200) ≡ true → ((100 ≤ d) × (d ≤ 131)) ⊎ (d ≡ 200)
      row h =
          ⊎_elim (λ b. let t = both_true (leb 100 d) (leb d 131) b in inl (leb-true 100 d t.0, leb-true d 131 t.1))
          (λ e. inr (eqb-true d 200 e))
          (or-true (between 100 131 d) (eqb d 200) h)

  detail-to : DetailRule a d → good_detail a d ≡ true
  unfolding good_detail
  detail-to r = go (eqb a 1) (eqb a 11) (eqb a 12) refl refl refl
    where
      some : (d ≤ 31) ⊎ (((100 ≤ d) × (d ≤ 131)) ⊎ (d ≡ 200)) → (leb d 31 || (between 100 131 d || eqb d 200)) ≡ true
      some (inl h) = or-hold (leb d 31) (between 100 131 d || eqb d 200) (inl (le-leb d 31 h))
      some (inr (inl h)) =
          or-hold (leb d 31) (between 100 131 d || eqb d 200) (inr
          (or-hold (between 100 131 d) (eqb d 200) (inl (both_hold (leb 100 d) (leb d 131) (le-leb 100 d h.0) (le-leb d 131 h.1)))))
      some (inr (inr e)) =
          or-hold (leb d 31) (between 100 131 d || eqb d 200) (inr (or-hold (between 100 131 d) (eqb d 200) (inr (eq-eqb d 200 e))))

      go
          : (x y z : Bool) → eqb a 1 ≡ x → eqb a 11 ≡ y → eqb a 12 ≡ z
          → cond x (leb d 3) (cond y (between 1 31 d) (cond z (leb d 31 || (between 100 131 d || eqb d 200)) (eqb d 0))) ≡ true
      go true y z p q t = le-leb d 3 (r.too_few (eqb-true a 1 p))
      go false true z p q t =
          let b = r.disorder (eqb-true a 11 q) in
          both_hold (leb 1 d) (leb d 31) (le-leb 1 d b.0) (le-leb d 31 b.1)
      go false false true p q t = some (r.bad_field (eqb-true a 12 t))
      go false false false p q t = eq-eqb d 0 (r.others (eqb-false a 1 p) (eqb-false a 11 q) (eqb-false a 12 t))

module _ (a n : ℕ) where
  n-of : good_n a n ≡ true → (n ≤ 32) × (9 < a → n ≡ 0)
  unfolding good_n
  n-of g = go (leb a 9) refl g
    where
      go : (b : Bool) → leb a 9 ≡ b → leb n (cond b 32 0) ≡ true → (n ≤ 32) × (9 < a → n ≡ 0)
      go true e h = (leb-true n 32 h, λ l. absurd (let m : a ≤ 9 = leb-true a 9 e in omega arith))
      go false e h = let m : n ≤ 0 = leb-true n 0 h in (omega arith, λ l. omega arith)

  n-to : n ≤ 32 → (9 < a → n ≡ 0) → good_n a n ≡ true
  unfolding good_n
  n-to l z = go (leb a 9) refl
    where
      go : (b : Bool) → leb a 9 ≡ b → leb n (cond b 32 0) ≡ true
      go true e = le-leb n 32 l
      go false e = let m : n ≡ 0 = z (leb-false a 9 e) in le-leb n 0 (omega arith)

-- ---- the metres where there is no altitude

metres-of : (s : List ℕ) (k : ℕ) → good_metres k s ≡ true → k ≡ 0 → Zero s 168 176
unfolding good_metres
metres-of s k g e = zero_of s 168 8 (rw e at g)

metres-to : (s : List ℕ) (k : ℕ) → (k ≡ 0 → Zero s 168 176) → good_metres k s ≡ true
unfolding good_metres
metres-to s k z = go (eqb k 0) refl
  where
    go : (b : Bool) → eqb k 0 ≡ b → (not b || zeros s 168 8) ≡ true
    go true e = zero-to s 168 8 (z (eqb-true k 0 e))
    go false e = refl

-- ---- all of them

module _ (s : List ℕ) where
  fix-of : good_fix s ≡ true → (n_at s ≤ 32) × FixRules s
  unfolding good_fix good_floats good_dof
  fix-of g =
      let floats = finite s 16 7 && (finite s 80 10 && finite s 168 1) in
      let mask = good_mask (mask_at s) (n_at s) in
      let dof = good_dof (mask_at s) (kind_at s) (detail_at s) in
      let r = all-8 (leb (n_at s) 32) (eqb (version_at s) 8) (leb (kind_at s) 2) floats mask dof (zeros s 163 5) (good_metres (kind_at s) s) g in
      let f = all-3 (finite s 16 7) (finite s 80 10) (finite s 168 1) r.3 in (
        leb-true (n_at s) 32 r.0,
        record {
          version = eqb-true (version_at s) 8 r.1;
          kind = leb-true (kind_at s) 2 r.2;
          places = finite-at s 16 7 f.0;
          claims = finite-at s 80 10 f.1;
          metres = finite-at s 168 1 f.2 0 (omega arith);
          mask = mask-of (mask_at s) (n_at s) r.4;
          dof = eqb-true _ _ r.5;
          filler = zero_of s 163 5 r.6;
          unused = metres-of s (kind_at s) r.7;
        },
      )

  fix-to : Bytes s → n_at s ≤ 32 → FixRules s → good_fix s ≡ true
  unfolding good_fix good_floats good_dof
  fix-to bytes n f =
      rw (
        le-leb (n_at s) 32 n,
        f.version,
        le-leb (kind_at s) 2 f.kind,
        finite-to s 16 7 f.places,
        finite-to s 80 10 f.claims,
        finite-to s 168 1 (one-finite s 168 f.metres),
        mask-to s bytes f.mask,
        eq-eqb _ _ f.dof,
        zero-to s 163 5 f.filler,
        metres-to s (kind_at s) f.unused,
      )

  refusal-of : good_refusal s ≡ true → ((answer_at s ≤ 13) ⊎ (answer_at s ≡ 15)) × (n_at s ≤ 32) × RefusalRules s
  unfolding good_refusal
  refusal-of g =
      let a = answer_at s in
      let r = all-4 (good_answer a) (good_detail a (detail_at s)) (good_n a (n_at s)) (zeros s 12 164) g in
      let n = n-of a (n_at s) r.2 in (
        ⊎_elim (λ h. inl (leb-true a 13 h)) (λ e. inr (eqb-true a 15 e)) (or-true (leb a 13) (eqb a 15) r.0),
        n.0,
        record {
          detail = detail-of a (detail_at s) r.1;
          n = n.1;
          unused = zero_of s 12 164 r.3;
        },
      )

  refusal-to : (answer_at s ≤ 13) ⊎ (answer_at s ≡ 15) → n_at s ≤ 32 → RefusalRules s → good_refusal s ≡ true
  unfolding good_refusal
  refusal-to a n r =
      rw (
        or-hold (leb (answer_at s) 13) (eqb (answer_at s) 15) (⊎_elim (λ h. inl (le-leb (answer_at s) 13 h)) (λ e. inr (eq-eqb (answer_at s) 15 e)) a),
        detail-to (answer_at s) (detail_at s) r.detail,
        n-to (answer_at s) (n_at s) n r.n,
        zero-to s 12 164 r.unused,
      )

  rules-of : (b : Bool) → eqb (answer_at s) 0 ≡ b → cond b (good_fix s) (good_refusal s) ≡ true → Rules s
  rules-of true e g =
      let a : answer_at s ≡ 0 = eqb-true (answer_at s) 0 e in
      let f = fix-of g in
      record { answer = inl (omega arith); n = f.0; fix = λ z. f.1; refusal = λ n. absurd (n a) }
  rules-of false e g =
      let r = refusal-of g in
      record { answer = r.0; n = r.1; fix = λ z. absurd (eqb-false (answer_at s) 0 e z); refusal = λ n. r.2 }

  rules-to : Bytes s → Rules s → (b : Bool) → eqb (answer_at s) 0 ≡ b → cond b (good_fix s) (good_refusal s) ≡ true
  rules-to bytes r true e = fix-to bytes r.n (r.fix (eqb-true (answer_at s) 0 e))
  rules-to bytes r false e = refusal-to r.answer r.n (r.refusal (eqb-false (answer_at s) 0 e))

pub tests-are-rules : TestsAreRules
unfolding meets_rules
tests-are-rules s bytes = (rules-of s (eqb (answer_at s) 0) refl, λ r. rules-to s bytes r (eqb (answer_at s) 0) refl)
