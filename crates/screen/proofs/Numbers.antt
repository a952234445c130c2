-- How the code stores the numbers: each counted once, at first, and lessened as one goes. Assumes nothing.
use mathlib.Core.Path.{◌≡◌, refl, sym, ap, ap₂, subst, fun_ext, ◌∙◌}
use mathlib.Core.Logic.{◌⊎◌, inl, inr}
use mathlib.Core.Bool.{Bool, not, cond, ◌&&◌}
use mathlib.Core.List.{List}
use Prim.Native.Nat.{ℕ, ◌+◌, ◌-◌, ◌/◌, ◌%◌, ◌^◌, ◌≤◌, ◌<◌}
use native.Mathlib.Nat.{lt_of_le_of_lt}
use native.Mathlib.Omega.{arith}
use lib.Bits.{bit_and, and_le_l}
use lib.Dec.{T, T_not, eqb, eqb→eq, ltb, ltb→lt, nltb→le}
use lib.ListN.{get_or, length, set, replicate}
use lib.Seq.{get_or-set_same, get_or-set_other}
use borrow.Author.Tests.{lt-ltb}
use Rattle.sets.specs.Sets.{Subset, first, without, count}
use Rattle.sets.specs.Mask.{has}
use Rattle.sets.proofs.Tests.{either, T→eq, F→eq, eq→eqb, lt-suc-cases}
use Rattle.sets.proofs.Counting.{count_same}
use Rattle.sets.proofs.Digits.{has-low, has-and}
use Rattle.sets.proofs.Masks.{count-within}
use Rattle.screen.specs.Screen.{clashes}
use Rattle.screen.specs.Held.{pairs_of, numbers_of, held_by}
use Rattle.screen.specs.State.{Held, Counted, lessened, start, removed}
use Rattle.screen.proofs.Rows.{zeros}
use Rattle.screen.proofs.Removal.{Within}

-- two states with the same set and the same numbers are one
held-ext : (s t : Held) → s.alive ≡ t.alive → ((i : ℕ) → s.counts i ≡ t.counts i) → s ≡ t
held-ext s t a c = ap₂ {C = Held} (λ (A : Subset) (f : ℕ → ℕ). record { alive = A; counts = f }) a (fun_ext c)

-- ---- the numbers at first: f, for those below i
pub record Filled (f : ℕ → ℕ) (counts : List ℕ) (i : ℕ) : Type 0 where
  pub done : (j : ℕ) → j < i → get_or counts j 0 ≡ f j
  pub ahead : (j : ℕ) → i ≤ j → get_or counts j 0 ≡ 0

pub filled-start : (f : ℕ → ℕ) (k : ℕ) → Filled f (replicate k 0) 0
filled-start f k = record { done = λ j l. absurd (omega arith); ahead = λ j l. zeros k j }

pub filled_next : (f : ℕ → ℕ) (counts : List ℕ) (i x : ℕ) → i < length counts → x ≡ f i → Filled f counts i → Filled f (set counts i x) (i + 1)
filled_next f counts i x l e h = record {
  done = λ j k. go j (lt-suc-cases j i (omega arith));
  ahead = λ j k. get_or-set_other counts i j x 0 (λ q. omega arith) ∙ h.ahead j (omega arith);
}
  where
    go : (j : ℕ) → (j ≡ i) ⊎ (j < i) → get_or (set counts i x) j 0 ≡ f j
    go j (inl q) = subst (λ (y : ℕ). get_or (set counts i x) y 0 ≡ f y) (sym q) (get_or-set_same counts i x 0 l ∙ e)
    go j (inr k) = get_or-set_other counts i j x 0 (λ q. omega arith) ∙ h.done j k

module _ (rows : List ℕ) (n alive : ℕ) (s : n ≤ 32) (e : has alive ≡ first n) (h : alive < 2 ^ n) where
  -- the ones of a row among all n are the clash count at first
  row_count : (i : ℕ) → count (has (bit_and alive (get_or rows i 0))) 32 ≡ clashes n (pairs_of rows) (has alive) i
  unfolding clashes pairs_of
  row_count i =
      count-within n (bit_and alive (get_or rows i 0)) (lt_of_le_of_lt (and_le_l alive (get_or rows i 0)) h) s
      ∙ count_same (has (bit_and alive (get_or rows i 0))) (λ (j : ℕ). has alive j && has (get_or rows i 0) j) n (λ j l. has-and alive (get_or rows i 0) j)

  pub first_count : (i x : ℕ) → i < n → x ≡ count (has (bit_and alive (get_or rows i 0))) 32 → x ≡ (start n (pairs_of rows)).counts i
  unfolding start
  first_count i x l q = q ∙ row_count i ∙ rw (e, lt-ltb i n l) refl

  pub start-held : (counts : List ℕ) → Filled (start n (pairs_of rows)).counts counts n
      → held_by (record { alive = alive; counts = counts }) ≡ start n (pairs_of rows)
  unfolding start
  start-held counts f = held-ext (held_by (record { alive = alive; counts = counts })) (start n (pairs_of rows)) e (λ i. go i (either (ltb i n)))
    where
      go : (i : ℕ) → T (ltb i n) ⊎ T (not (ltb i n)) → get_or counts i 0 ≡ (start n (pairs_of rows)).counts i
      go i (inl t) = f.done i (ltb→lt i n t)
      go i (inr t) = f.ahead i (nltb→le i n t) ∙ rw (F→eq (ltb i n) t) refl

-- ---- the last bit of a row, shifted
pub bit_is : (row w : ℕ) → row / 2 ^ w % 2 ≡ cond (has row w) 1 0
unfolding has
bit_is row w =
    let e : row / 2 ^ w / 2 ^ 0 ≡ row / 2 ^ w = omega arith in
    sym (has-low (row / 2 ^ w)) ∙ ap (λ (x : ℕ). cond (eqb (x % 2) 1) 1 0) e

-- ---- the numbers once one is taken off each that is near, of those below i
pub record Fewer (near : ℕ → Bool) (before counts : List ℕ) (i : ℕ) : Type 0 where
  pub done : (j : ℕ) → j < i → get_or counts j 0 ≡ get_or before j 0 - cond (near j) 1 0
  pub ahead : (j : ℕ) → i ≤ j → get_or counts j 0 ≡ get_or before j 0

pub fewer-start : (near : ℕ → Bool) (before : List ℕ) → Fewer near before before 0
fewer-start near before = record { done = λ j l. absurd (omega arith); ahead = λ j l. refl }

pub fewer-next : (near : ℕ → Bool) (before counts : List ℕ) (i x : ℕ) → i < length counts → x ≡ get_or counts i 0 - cond (near i) 1 0
    → Fewer near before counts i → Fewer near before (set counts i x) (i + 1)
fewer-next near before counts i x l e h = record {
  done = λ j k. go j (lt-suc-cases j i (omega arith));
  ahead = λ j k. get_or-set_other counts i j x 0 (λ q. omega arith) ∙ h.ahead j (omega arith);
}
  where
    go : (j : ℕ) → (j ≡ i) ⊎ (j < i) → get_or (set counts i x) j 0 ≡ get_or before j 0 - cond (near j) 1 0
    go j (inl q) = rw (q, get_or-set_same counts i x 0 l, e, h.ahead i (omega arith)) refl
    go j (inr k) = get_or-set_other counts i j x 0 (λ q. omega arith) ∙ h.done j k

-- w holds 0 before any is lessened
pub fewer-end : (fails : ℕ → ℕ → Bool) (n w : ℕ) (before counts : List ℕ) → w < n → n ≤ length before
    → Fewer (λ (j : ℕ). fails j w) (set before w 0) counts n → numbers_of counts ≡ lessened fails (first n) w (numbers_of before)
unfolding lessened
fewer-end fails n w before counts l k h = fun_ext (λ (j : ℕ). go j (either (eqb j w)) (either (ltb j n)))
  where
    other : (j : ℕ) → T (not (eqb j w)) → get_or (set before w 0) j 0 ≡ get_or before j 0
    other j d = get_or-set_other before w j 0 0 (λ q. T_not (eqb j w) d (eq→eqb j w q))

    go : (j : ℕ) → T (eqb j w) ⊎ T (not (eqb j w)) → T (ltb j n) ⊎ T (not (ltb j n))
        → get_or counts j 0 ≡ lessened fails (first n) w (numbers_of before) j
    go j (inl t) u =
        let q : j ≡ w = eqb→eq j w t in
        let z : get_or (set before w 0) j 0 ≡ 0 = ap (λ (x : ℕ). get_or (set before w 0) x 0) q ∙ get_or-set_same before w 0 0 (omega arith) in
        rw (T→eq (eqb j w) t) (omega (arith, h.done j (omega arith), z))
    go j (inr d) (inl u) = rw (F→eq (eqb j w) d, T→eq (ltb j n) u) (h.done j (ltb→lt j n u) ∙ rw (other j d) refl)
    go j (inr d) (inr u) = rw (F→eq (eqb j w) d, F→eq (ltb j n) u) (h.ahead j (nltb→le j n u) ∙ other j d ∙ omega arith)

-- of true numbers one is taken off those still in alone, for a removed one holds 0
pub removed-held : (n : ℕ) (fails : ℕ → ℕ → Bool) (s : Held) (w : ℕ) (t : Held) → Within n fails s.alive → Counted n fails s
    → t.alive ≡ without s.alive w → t.counts ≡ lessened fails (first n) w s.counts → t ≡ removed fails s w
unfolding removed
removed-held n fails s w t b c a e =
    held-ext t (removed fails s w) a (λ i. ap (λ (f : ℕ → ℕ). f i) e ∙ ap (λ (x : ℕ). cond (eqb i w) 0 x) (go i (either (s.alive i))))
  where
    go : (i : ℕ) → T (s.alive i) ⊎ T (not (s.alive i))
        → s.counts i - cond (first n i && fails i w) 1 0 ≡ s.counts i - cond (s.alive i && fails i w) 1 0
    go i (inl u) = rw (T→eq (s.alive i) u, lt-ltb i n (b i u)) refl
    go i (inr u) = omega (arith, c.gone i u)
