-- The rows of failing pairs, as the code fills them: reception after reception, each with those before it. Assumes nothing.
use mathlib.Core.Path.{◌≡◌, refl, sym, ap, subst, fun_ext, ◌∙◌}
use mathlib.Core.Logic.{◌⊎◌, inl, inr, ◌↔◌}
use mathlib.Core.Bool.{Bool, true, false, not, ◌&&◌}
use mathlib.Core.List.{List}
use Prim.Native.Nat.{ℕ, zero, suc, ◌+◌, ◌≤◌, ◌<◌}
use native.Mathlib.Omega.{arith}
use lib.Dec.{T, T_not, ltb, ltb→lt, lt→ltb, nltb→le}
use lib.ListN.{get_or, length, set, length-set, replicate, take}
use lib.Seq.{get_or-set_same, get_or-set_other}
use lib.IntN.{ℤ}
use borrow.Author.Tests.{lt-ltb, le-ltb}
use Rattle.std.specs.List.{All}
use Rattle.std.proofs.lemmas.List.Elements.{All-get_or}
use Rattle.std.proofs.lemmas.List.{length-take-le, get_or-take}
use Rattle.sets.specs.Sets.{Subset, first, joined}
use Rattle.sets.specs.Mask.{has}
use Rattle.sets.proofs.Tests.{either, eq→T, eq→F, and_l, and_r, and_both, lt-suc-cases}
use Rattle.sets.proofs.Belonging.{subset-ext, in-joined}
use Rattle.sets.proofs.Digits.{has-zero}
use Rattle.screen.specs.Pair.{clash, fails}
use Rattle.screen.specs.Held.{pairs_of}
use Rattle.screen.specs.Meaning.{Clear}
use Rattle.screen.proofs.Symmetry.{clash-sym, clash-self}

pub zeros : (k a : ℕ) → ◌≡◌ {A = ℕ} (get_or (replicate k 0) a 0) 0
zeros zero a = refl
zeros (suc k) zero = refl
zeros (suc k) (suc a) = zeros k a

-- ---- the rows below i have no bit
abbrev pub Bare : List ℕ → ℕ → Type 0
Bare rows i = (j : ℕ) → j < i → get_or rows j 0 ≡ 0

pub bare-all : (rows : List ℕ) (n : ℕ) → n ≤ length rows → All (λ (x : ℕ). x ≡ 0) (take n rows) → Bare rows n
bare-all rows n h a j l = sym (get_or-take n rows j 0 l) ∙ All-get_or (λ (x : ℕ). x ≡ 0) (take n rows) j 0 (rw (length-take-le n rows h) l) a

pub bare-clear : (rows : List ℕ) (n : ℕ) → Bare rows n → Clear n (pairs_of rows) (first n)
unfolding pairs_of
bare-clear rows n b i j t u = eq→F (ap (λ (x : ℕ). has x j) (b i (ltb→lt i n t)) ∙ has-zero j)

module _ (times sites : List ℤ) where
  -- those below k with which a fails
  abbrev pub row_to : ℕ → ℕ → Subset
  row_to a k b = ltb b k && clash times sites a b

  in_row : (a k b : ℕ) → T (row_to a k b) ↔ ((b < k) × T (clash times sites a b))
  in_row a k b = (
    (λ t. (ltb→lt b k (and_l (ltb b k) (clash times sites a b) t), and_r (ltb b k) (clash times sites a b) t)),
    (λ h. and_both (ltb b k) (clash times sites a b) (lt→ltb b k h.0) h.1),
  )

  -- k fails with a, and joins its row
  row-joins : (a k : ℕ) → T (clash times sites a k) → joined (row_to a k) k ≡ row_to a (k + 1)
  row-joins a k f = subset-ext (joined (row_to a k) k) (row_to a (k + 1)) (λ b. (
    (λ t. on b ((in-joined (row_to a k) k b).0 t)),
    (λ t. let h = (in_row a (k + 1) b).0 t in (in-joined (row_to a k) k b).1 (off b h.1 (lt-suc-cases b k (omega (arith, h.0))))),
  ))
    where
      on : (b : ℕ) → T (row_to a k b) ⊎ (b ≡ k) → T (row_to a (k + 1) b)
      on b (inl t) = let h = (in_row a k b).0 t in (in_row a (k + 1) b).1 (omega (arith, h.0), h.1)
      on b (inr e) = (in_row a (k + 1) b).1 (omega arith, subst (λ (x : ℕ). T (clash times sites a x)) (sym e) f)

      off : (b : ℕ) → T (clash times sites a b) → (b ≡ k) ⊎ (b < k) → T (row_to a k b) ⊎ (b ≡ k)
      off b t (inl e) = inr e
      off b t (inr l) = inl ((in_row a k b).1 (l, t))

  -- k passes with a, and its row stays
  row_stays : (a k : ℕ) → T (not (clash times sites a k)) → row_to a k ≡ row_to a (k + 1)
  row_stays a k f = subset-ext (row_to a k) (row_to a (k + 1)) (λ b. (
    (λ t. let h = (in_row a k b).0 t in (in_row a (k + 1) b).1 (omega (arith, h.0), h.1)),
    (λ t. let h = (in_row a (k + 1) b).0 t in (in_row a k b).1 (off b h.1 (lt-suc-cases b k (omega (arith, h.0))), h.1)),
  ))
    where
      off : (b : ℕ) → T (clash times sites a b) → (b ≡ k) ⊎ (b < k) → b < k
      off b t (inl e) = absurd (T_not (clash times sites a k) f (subst (λ (x : ℕ). T (clash times sites a x)) e t))
      off b t (inr l) = l

  row-none : (a b : ℕ) → row_to a 0 b ≡ false
  row-none a b = rw (le-ltb b 0 (omega arith)) refl

  -- the rows of the first n receptions
  fails-row : (n a : ℕ) → a < n → fails times sites n a ≡ row_to a n
  unfolding fails
  fails-row n a l = fun_ext (λ (b : ℕ). rw (lt-ltb a n l) refl)

  fails-none : (n a : ℕ) → n ≤ a → fails times sites n a ≡ row_to a 0
  unfolding fails
  fails-none n a l = fun_ext (λ (b : ℕ). rw (le-ltb a n l) (sym (row-none a b)))

  -- Reception i and those below j are compared: the rows of these have i, its row has them.
  pub record Marked (rows : List ℕ) (i j : ℕ) : Type 0 where
    pub done : (a : ℕ) → a < j → has (get_or rows a 0) ≡ row_to a (i + 1)
    pub ahead : (a : ℕ) → j ≤ a → a < i → has (get_or rows a 0) ≡ row_to a i
    pub own : has (get_or rows i 0) ≡ row_to i j
    pub later : (a : ℕ) → i < a → has (get_or rows a 0) ≡ row_to a 0

  pub marked_start : (rows : List ℕ) (i : ℕ) → pairs_of rows ≡ fails times sites i → Marked rows i 0
  unfolding pairs_of
  marked_start rows i e = record {
    done = λ a l. absurd (omega arith);
    ahead = λ a m l. row a ∙ fails-row i a l;
    own = row i ∙ fails-none i i (omega arith);
    later = λ a l. row a ∙ fails-none i a (omega arith);
  }
    where
      row : (a : ℕ) → has (get_or rows a 0) ≡ fails times sites i a
      row a = ap (λ (R : ℕ → Subset). R a) e

  pub marked-end : (rows : List ℕ) (i : ℕ) → Marked rows i i → pairs_of rows ≡ fails times sites (i + 1)
  unfolding pairs_of
  marked-end rows i m = fun_ext (λ (a : ℕ). go a (either (ltb a i)) (either (ltb i a)))
    where
      go : (a : ℕ) → T (ltb a i) ⊎ T (not (ltb a i)) → T (ltb i a) ⊎ T (not (ltb i a)) → has (get_or rows a 0) ≡ fails times sites (i + 1) a
      go a (inl l) q = let h = ltb→lt a i l in m.done a h ∙ sym (fails-row (i + 1) a (omega arith))
      go a (inr g) (inl l) = let h = ltb→lt i a l in m.later a h ∙ sym (fails-none (i + 1) a (omega arith))
      go a (inr g) (inr q) = let e : a ≡ i = omega (arith, nltb→le a i g, nltb→le i a q) in
          rw e (m.own ∙ row_stays i i (eq→F (clash-self times sites i)) ∙ sym (fails-row (i + 1) i (omega arith)))

  -- ---- the pair i, j is compared
  module _ (i j : ℕ) (l : j < i) where
    marked_next : (rows next : List ℕ) → ((a : ℕ) → (a ≡ i → ⊥) → (a ≡ j → ⊥) → get_or next a 0 ≡ get_or rows a 0)
        → has (get_or next i 0) ≡ row_to i (j + 1) → has (get_or next j 0) ≡ row_to j (i + 1) → Marked rows i j → Marked next i (j + 1)
    marked_next rows next others ei ej m = record {
      done = λ a h. go a (lt-suc-cases a j (omega arith));
      ahead = λ a h k. ap has (others a (λ e. omega arith) (λ e. omega arith)) ∙ m.ahead a (omega arith) k;
      own = ei;
      later = λ a h. ap has (others a (λ e. omega arith) (λ e. omega arith)) ∙ m.later a h;
    }
      where
        go : (a : ℕ) → (a ≡ j) ⊎ (a < j) → has (get_or next a 0) ≡ row_to a (i + 1)
        go a (inl e) = subst (λ (x : ℕ). has (get_or next x 0) ≡ row_to x (i + 1)) (sym e) ej
        go a (inr h) = ap has (others a (λ e. omega arith) (λ e. omega arith)) ∙ m.done a h

    -- t is what the code finds of the pair
    module _ (t : Bool) (e : t ≡ clash times sites i j) where
      pub marked-passes : (rows : List ℕ) → t ≡ false → Marked rows i j → Marked rows i (j + 1)
      marked-passes rows f m =
          let passed = sym e ∙ f in
          marked_next rows rows (λ a p q. refl) (m.own ∙ row_stays i j (eq→F passed))
          (m.ahead j (omega arith) l ∙ row_stays j i (eq→F (clash-sym times sites j i ∙ passed))) m

      pub marked-fails : (rows : List ℕ) (x y : ℕ) → i < length rows → t ≡ true
          → has x ≡ joined (has (get_or rows i 0)) j → has y ≡ joined (has (get_or (set rows i x) j 0)) i → Marked rows i j
          → Marked (set (set rows i x) j y) i (j + 1)
      marked-fails rows x y s f ex ey m =
          let failed = sym e ∙ f in
          let row : get_or (set rows i x) j 0 ≡ get_or rows j 0 = get_or-set_other rows i j x 0 (λ q. omega arith) in
          let own = get_or-set_other (set rows i x) j i y 0 (λ q. omega arith) ∙ get_or-set_same rows i x 0 s in
          let theirs = get_or-set_same (set rows i x) j y 0 (rw length-set (omega arith)) in
          marked_next rows (set (set rows i x) j y) (λ a p q. get_or-set_other (set rows i x) j a y 0 q ∙ get_or-set_other rows i a x 0 p)
          (ap has own ∙ ex ∙ ap (λ (S : Subset). joined S j) m.own ∙ row-joins i j (eq→T failed))
          (ap has theirs ∙ ey ∙ ap (λ (S : Subset). joined S i) (ap has row ∙ m.ahead j (omega arith) l)
          ∙ row-joins j i (eq→T (clash-sym times sites j i ∙ failed)))
          m

  -- ---- before the first reception
  pub marked-none : (k : ℕ) → pairs_of (replicate k 0) ≡ fails times sites 0
  unfolding pairs_of
  marked-none k = fun_ext (λ (a : ℕ). fun_ext (λ (b : ℕ). ap (λ (x : ℕ). has x b) (zeros k a) ∙ has-zero b ∙ sym (row-none a b))
      ∙ sym (fails-none 0 a (omega arith)))
