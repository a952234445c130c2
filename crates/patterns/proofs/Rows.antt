-- Rows as the code fills them: one after another, and each bit after bit, of those with which a reception fails. Assumes nothing.
use mathlib.Core.Path.{◌≡◌, sym, ap, fun_ext, ◌∙◌}
use mathlib.Core.Logic.{◌⊎◌, inl, inr}
use mathlib.Core.Bool.{Bool, true, false, not, cond}
use mathlib.Core.List.{List}
use Prim.Native.Nat.{ℕ, ◌+◌, ◌*◌, ◌^◌, ◌%◌, ◌≤◌, ◌<◌}
use native.Mathlib.Numerals.{add-one}
use native.Mathlib.Omega.{arith}
use lib.Dec.{T, not_T, ltb, ltb→lt, nltb→le}
use lib.ListN.{get_or, length, set, replicate}
use lib.Pow.{pow_mono}
use lib.Seq.{get_or-set_same, get_or-set_other}
use Rattle.sets.specs.Sets.{Subset}
use Rattle.sets.specs.Mask.{has, mask_of}
use Rattle.sets.proofs.Tests.{either, F→eq, lt-suc-cases}
use Rattle.sets.proofs.Digits.{has-zero}
use Rattle.sets.proofs.Masks.{one_bit, mask-same, mask_lt, set-of-mask}
use Rattle.screen.specs.Held.{pairs_of}
use Rattle.screen.proofs.Rows.{zeros}
use Rattle.patterns.specs.Patterns.{clash, failing}
use Rattle.patterns.proofs.Once.{failing-in, failing-within}

module _ (S : Subset) (k : ℕ) where
  mask_next : (b : Bool) → S k ≡ b → mask_of S (k + 1) ≡ cond b 1 0 * 2 ^ k + mask_of S k
  unfolding mask_of
  mask_next b e = ap (mask_of S) (add-one k) ∙ ap (λ (x : Bool). cond x 1 0 * 2 ^ k + mask_of S k) e

  pub mask-adds : k < 6 → S k ≡ true → mask_of S k + 1 * 2 ^ k % 2 ^ 32 ≡ mask_of S (k + 1)
  mask-adds l e = omega (arith, one_bit k (omega arith), mask_next true e)

  pub mask-skips : S k ≡ false → mask_of S k ≡ mask_of S (k + 1)
  mask-skips e = omega (arith, mask_next false e)

  -- there is room for the bit
  pub mask-room : k < 6 → mask_of S k + 1 * 2 ^ k % 2 ^ 32 < 2 ^ 32
  mask-room l =
      let m : k ≤ 6 = omega arith in
      let h : 2 ^ k ≤ 2 ^ 6 = pow_mono m in
      omega (arith, h, one_bit k (omega arith), mask_lt S k)

-- the whole row of a reception
pub row_is : (n p a : ℕ) → a < n → has (mask_of (clash p a) n) ≡ failing n p a
row_is n p a h =
    ap has (mask-same (clash p a) (failing n p a) n (λ b l. sym (failing-in n p a b h l)))
    ∙ set-of-mask (failing n p a) n (λ b t. (failing-within n p a b t).1)

-- ---- the rows below a are filled, the others are bare
module _ (n p : ℕ) where
  pub record Filled (rows : List ℕ) (a : ℕ) : Type 0 where
    pub filled : (i : ℕ) → i < a → has (get_or rows i 0) ≡ failing n p i
    pub bare : (i : ℕ) → a ≤ i → get_or rows i 0 ≡ 0

  pub filled-start : (k : ℕ) → Filled (replicate k 0) 0
  filled-start k = record { filled = λ i l. absurd (omega arith); bare = λ i l. zeros k i }

  pub filled_next : (rows : List ℕ) (a x : ℕ) → a < length rows → has x ≡ failing n p a → Filled rows a → Filled (set rows a x) (a + 1)
  filled_next rows a x s e f = record {
    filled = λ i l. go i (lt-suc-cases i a (omega arith));
    bare = λ i l. get_or-set_other rows a i x 0 (λ q. omega arith) ∙ f.bare i (omega arith);
  }
    where
      go : (i : ℕ) → (i ≡ a) ⊎ (i < a) → has (get_or (set rows a x) i 0) ≡ failing n p i
      go i (inl q) = rw q (ap has (get_or-set_same rows a x 0 s) ∙ e)
      go i (inr l) = ap has (get_or-set_other rows a i x 0 (λ q. omega arith)) ∙ f.filled i l

  outside : (i j : ℕ) → n ≤ i → failing n p i j ≡ false
  outside i j l = F→eq (failing n p i j) (not_T (failing n p i j) (λ t. omega (arith, (failing-within n p i j t).0)))

  pub filled-end : (rows : List ℕ) → Filled rows n → pairs_of rows ≡ failing n p
  unfolding pairs_of
  filled-end rows f = fun_ext (λ (i : ℕ). go i (either (ltb i n)))
    where
      go : (i : ℕ) → T (ltb i n) ⊎ T (not (ltb i n)) → has (get_or rows i 0) ≡ failing n p i
      go i (inl t) = f.filled i (ltb→lt i n t)
      go i (inr t) =
          let l = nltb→le i n t in
          ap has (f.bare i l) ∙ fun_ext (λ (j : ℕ). has-zero j ∙ sym (outside i j l))
