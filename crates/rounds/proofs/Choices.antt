-- The two choices of a round are the worst and the least of demand 3. Assumes nothing.
use Rattle.std.proofs.Common.{ℕ, ◌<◌, Bool, not, ◌&&◌, T, ◌⊎◌, inl, inr, arith, T_not}
use mathlib.Core.Option.{Option, none, some}
use lib.Dec.{not_T}
use lib.Ieee.{Float, lt, le, is_nan, of_bits}
use Rattle.sets.specs.Sets.{Subset}
use Rattle.sets.specs.Choice.{FirstBest, IsChoice, Ranks}
use Rattle.sets.proofs.Tests.{either, and_l, and_r, and_both}
use Rattle.sets.proofs.Choosing.{choose-is}
use Rattle.rounds.specs.Setting.{Setting, five, kept}
use Rattle.rounds.specs.Setting.{greater, less}
use Rattle.rounds.specs.Rounds.{above, worst, readmissible, least}
use Rattle.rounds.specs.Demand.{Worst, NoneAbove, left_out, Least}
use Rattle.best.proofs.Order.{lt-split, lt-asym, lt-right, le_left, lt_trans, le_of_not_lt, lt_of_not_le, le-lt}

pub five-number : T (not (is_nan five))
unfolding of_bits is_nan
five-number = tt

-- ---- candidates
above_of : (S : Subset) (z : ℕ → Float) (i : ℕ) → T (above S z i) → T (S i) × T (lt five (z i))
above_of S z i t = (and_l (S i) (lt five (z i)) t, and_r (S i) (lt five (z i)) t)

of-above : (S : Subset) (z : ℕ → Float) (i : ℕ) → T (S i) → T (lt five (z i)) → T (above S z i)
of-above S z i t u = and_both (S i) (lt five (z i)) t u

-- the first best of some candidates is that of fewer, where it is one of them
first-of-fewer : (p q : Subset) (beats : ℕ → ℕ → Bool) (k i : ℕ) → ((j : ℕ) → T (q j) → T (p j)) → T (q i) → FirstBest p beats k i
    → FirstBest q beats k i
first-of-fewer p q beats k i fewer c b = record {
  below = b.below;
  candidate = c;
  unbeaten = λ j l t. b.unbeaten j l (fewer j t);
  lowest = λ j l t. b.lowest j l (fewer j t);
}

-- ---- candidates are ranked by their residuals, which are numbers
turned : {A B : Type 0} → A ⊎ B → B ⊎ A
turned (inl a) = inr a
turned (inr b) = inl b

pub ranks-greater : (S : Subset) (z : ℕ → Float) → Ranks (above S z) (greater z)
ranks-greater S z = record {
  asym = λ i j h k. lt-asym (z j) (z i) h k;
  split = λ i j k t h. turned (lt-split (z k) (z j) (z i) (lt-right five (z j) (above_of S z j t).1) h);
}

pub ranks-less : (K S : Subset) (z : ℕ → Float) → Ranks (readmissible K S z) (less z)
ranks-less K S z = record {
  asym = λ i j h k. lt-asym (z i) (z j) h k;
  split = λ i j k t h. lt-split (z i) (z j) (z k) (le_left (z j) five (and_r (K j && not (S j)) (le (z j) five) t)) h;
}

module _ {Q F X : Type 0} (P : Setting Q F X) where
  -- a left-out reception is kept
  pub out-kept : (S : Subset) (j : ℕ) → T (left_out P S j) → T (kept P j)
  out-kept S j t = and_l (kept P j) (not (S j)) t

  near_of : (S : Subset) (z : ℕ → Float) (i : ℕ) → T (readmissible (kept P) S z i) → T (left_out P S i) × T (le (z i) five)
  near_of S z i t = (and_l (left_out P S i) (le (z i) five) t, and_r (left_out P S i) (le (z i) five) t)

  of-near : (S : Subset) (z : ℕ → Float) (i : ℕ) → T (left_out P S i) → T (le (z i) five) → T (readmissible (kept P) S z i)
  of-near S z i t u = and_both (left_out P S i) (le (z i) five) t u

  -- only kept receptions are included
  abbrev pub Within : Subset → Type 0
  Within S = (j : ℕ) → T (S j) → T (kept P j)

  abbrev pub Numbers : F → Type 0
  Numbers f = (j : ℕ) → j < P.n → T (kept P j) → T (not (is_nan (P.residual f j)))

  abbrev pub IsWorst : Subset → F → Option ℕ → Type 0
  IsWorst S f o = IsChoice (above S (P.residual f)) (greater (P.residual f)) P.n o

  abbrev pub IsLeast : Subset → F → Option ℕ → Type 0
  IsLeast S f o = IsChoice (readmissible (kept P) S (P.residual f)) (less (P.residual f)) P.n o

  -- ---- the passes find the choices
  pub worst-is : (S : Subset) (f : F) → IsWorst S f (worst S (P.residual f) P.n)
  worst-is S f = choose-is (above S (P.residual f)) (greater (P.residual f)) (ranks-greater S (P.residual f)) P.n

  pub least-is : (S : Subset) (f : F) → IsLeast S f (least (kept P) S (P.residual f) P.n)
  least-is S f = choose-is (readmissible (kept P) S (P.residual f)) (less (P.residual f)) (ranks-less (kept P) S (P.residual f)) P.n

  -- ---- the choices, where every kept residual is a number
  module _ (S : Subset) (f : F) (W : Within S) (N : Numbers f) where
    abbrev z : ℕ → Float
    z = P.residual f

    at_most : (j : ℕ) → j < P.n → T (kept P j) → T (not (lt five (z j))) → T (le (z j) five)
    at_most j l k h = le_of_not_lt five (z j) five-number (N j l k) h

    more : (j : ℕ) → j < P.n → T (kept P j) → T (not (le (z j) five)) → T (lt five (z j))
    more j l k h = lt_of_not_le five (z j) five-number (N j l k) h

    pub worst-none : IsWorst S f none → NoneAbove P S f
    worst-none h j l t = at_most j l (W j t) (not_T (lt five (z j)) (λ u. T_not (above S z j) (h j l) (of-above S z j t u)))

    pub none-worst : NoneAbove P S f → IsWorst S f none
    none-worst h j l = not_T (above S z j) (λ t. let a = above_of S z j t in le-lt five (z j) (h j l a.0) a.1)

    pub worst-some : (i : ℕ) → IsWorst S f (some i) → Worst P S f i
    worst-some i h = (
      record {
        below = h.below;
        candidate = a.0;
        unbeaten = λ j l t. not_T (lt (z i) (z j))
            (λ u. T_not (greater z j i) (h.unbeaten j l (of-above S z j t (lt_trans five (z i) (z j) a.1 u))) u);
        lowest = λ j l t. low j l t (either (lt five (z j)));
      },
      a.1,
    )
      where
        a : T (S i) × T (lt five (z i))
        a = above_of S z i h.candidate

        before : (j : ℕ) → j < i → j < P.n
        before j l = omega (arith, h.below)

        low : (j : ℕ) → j < i → T (S j) → T (lt five (z j)) ⊎ T (not (lt five (z j))) → T (lt (z j) (z i))
        low j l t (inl u) = h.lowest j l (of-above S z j t u)
        low j l t (inr u) = elim (lt-split five (z j) (z i) (N j (before j l) (W j t)) a.1)
            [ inl v ↦ absurd (T_not (lt five (z j)) u v) | inr v ↦ v ]

    pub some-worst : (i : ℕ) → Worst P S f i → IsWorst S f (some i)
    some-worst i w = first-of-fewer S (above S z) (greater z) P.n i (λ j t. (above_of S z j t).0) (of-above S z i w.0.candidate w.1) w.0

    pub least-none : IsLeast S f none → (j : ℕ) → j < P.n → T (left_out P S j) → T (lt five (z j))
    least-none h j l o = more j l (out-kept S j o) (not_T (le (z j) five) (λ u. T_not (readmissible (kept P) S z j) (h j l) (of-near S z j o u)))

    pub none-least : ((j : ℕ) → j < P.n → T (left_out P S j) → T (lt five (z j))) → IsLeast S f none
    none-least h j l = not_T (readmissible (kept P) S z j) (λ t. let a = near_of S z j t in le-lt five (z j) a.1 (h j l a.0))

    pub least-some : (i : ℕ) → IsLeast S f (some i) → Least P S f i
    least-some i h = (
      record {
        below = h.below;
        candidate = a.0;
        unbeaten = λ j l o. not_T (lt (z j) (z i))
            (λ u. T_not (less z j i) (h.unbeaten j l (of-near S z j o (at_most j l (out-kept S j o) (lower j u)))) u);
        lowest = λ j l o. low j l o (either (le (z j) five));
      },
      a.1,
    )
      where
        a : T (left_out P S i) × T (le (z i) five)
        a = near_of S z i h.candidate

        before : (j : ℕ) → j < i → j < P.n
        before j l = omega (arith, h.below)

        lower : (j : ℕ) → T (lt (z j) (z i)) → T (not (lt five (z j)))
        lower j u = not_T (lt five (z j)) (λ v. le-lt five (z i) a.1 (lt_trans five (z j) (z i) v u))

        low : (j : ℕ) → j < i → T (left_out P S j) → T (le (z j) five) ⊎ T (not (le (z j) five)) → T (lt (z i) (z j))
        low j l o (inl u) = h.lowest j l (of-near S z j o u)
        low j l o (inr u) = elim (lt-split five (z i) (z j) (N i h.below (out-kept S i a.0)) (more j (before j l) (out-kept S j o) u))
            [ inl v ↦ absurd (le-lt five (z i) a.1 v) | inr v ↦ v ]

    pub some-least : (i : ℕ) → Least P S f i → IsLeast S f (some i)
    some-least i w = first-of-fewer (left_out P S) (readmissible (kept P) S z) (less z) P.n i (λ j t. (near_of S z j t).0)
        (of-near S z i w.0.candidate w.1) w.0
