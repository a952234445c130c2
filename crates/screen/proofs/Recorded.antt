-- The turn and the clash count of each removed one, as the code writes them down: where it goes, and nowhere else. Assumes nothing.
use mathlib.Core.Path.{◌≡◌, refl, sym, ap, ◌∙◌}
use mathlib.Core.Logic.{◌⊎◌, inl, inr}
use mathlib.Core.Option.{none, some, Option-elim}
use mathlib.Core.Bool.{Bool, false, not, cond}
use mathlib.Core.List.{List}
use Prim.Native.Nat.{ℕ, zero, suc, ◌+◌, ◌-◌, ◌^◌, ◌≤◌, ◌<◌}
use native.Mathlib.Numerals.{add-one}
use native.Mathlib.Omega.{arith}
use lib.Dec.{T, T_not, eqb, eqb→eq}
use lib.ListN.{get_or, length, set}
use lib.Seq.{get_or-set_same, get_or-set_other}
use Rattle.sets.specs.Sets.{Subset, without}
use Rattle.sets.specs.Mask.{has}
use Rattle.sets.proofs.Tests.{either, T→eq, F→eq, eq→eqb}
use Rattle.screen.specs.Screen.{clashes, goes, alive_to, kept}
use Rattle.screen.specs.Turns.{takes, turn_to, clash_to}
use Rattle.screen.specs.Held.{Told}

-- what is written down after k turns
pub record Recorded (n : ℕ) (fails : ℕ → ℕ → Bool) (k : ℕ) (turns counts : List ℕ) : Type 0 where
  pub turn : (j : ℕ) → get_or turns j 0 ≡ turn_to n fails k j
  pub clash : (j : ℕ) → get_or counts j 0 ≡ clash_to n fails k j

written : (xs : List ℕ) (w v j : ℕ) → w < length xs → get_or (set xs w v) j 0 ≡ cond (eqb j w) v (get_or xs j 0)
written xs w v j l = go (either (eqb j w))
  where
    go : T (eqb j w) ⊎ T (not (eqb j w)) → get_or (set xs w v) j 0 ≡ cond (eqb j w) v (get_or xs j 0)
    go (inl t) = rw (T→eq (eqb j w) t) (ap (λ (x : ℕ). get_or (set xs w v) x 0) (eqb→eq j w t) ∙ get_or-set_same xs w v 0 l)
    go (inr t) = rw (F→eq (eqb j w) t) (get_or-set_other xs w j v 0 (λ e. T_not (eqb j w) t (eq→eqb j w e)))

pub recorded-start : (n : ℕ) (fails : ℕ → ℕ → Bool) (turns counts : List ℕ)
    → ((j : ℕ) → get_or turns j 0 ≡ 0) → ((j : ℕ) → get_or counts j 0 ≡ 0) → Recorded n fails 0 turns counts
unfolding turn_to clash_to
recorded-start n fails turns counts t c = record { turn = t; clash = c }

module _ (n : ℕ) (fails : ℕ → ℕ → Bool) (k : ℕ) where
  -- ---- w goes, in v failing pairs
  module _ (w v : ℕ) (e : goes n fails (alive_to n fails k) ≡ some w) (q : v ≡ clashes n fails (alive_to n fails k) w) where
    takes-w : (j : ℕ) → takes n fails k j ≡ eqb j w
    unfolding takes Option-elim
    takes-w j = rw e refl

    pub recorded-next : (turns counts : List ℕ) → w < length turns → w < length counts
        → Recorded n fails k turns counts → Recorded n fails (k + 1) (set turns w (k + 1)) (set counts w v)
    unfolding turn_to clash_to
    recorded-next turns counts l m r = rw add-one (record {
      turn = λ j. written turns w (suc k) j l ∙ rw (takes-w j, r.turn j) refl;
      clash = λ j. written counts w v j m ∙ go j (either (eqb j w));
    })
      where
        go : (j : ℕ) → T (eqb j w) ⊎ T (not (eqb j w)) → cond (eqb j w) v (get_or counts j 0) ≡ clash_to n fails (suc k) j
        go j (inl t) = rw (takes-w j, T→eq (eqb j w) t) (q ∙ ap (λ (x : ℕ). clashes n fails (alive_to n fails k) x) (sym (eqb→eq j w t)))
        go j (inr t) = rw (takes-w j, F→eq (eqb j w) t) (r.clash j)

  -- ---- none goes: those still in stay, and what is written down is that of all turns
  module _ (e : goes n fails (alive_to n fails k) ≡ none) where
    from-none : 0 + k ≡ k
    from-none = omega arith

    one_more : (d : ℕ) → suc d + k ≡ suc (d + k)
    one_more d = omega arith

    stays : (d : ℕ) → alive_to n fails (d + k) ≡ alive_to n fails k
    unfolding alive_to Option-elim
    stays zero = ap (alive_to n fails) from-none
    stays (suc d) = ap (alive_to n fails) (one_more d) ∙ ap (λ (A : Subset). Option-elim (goes n fails A) A (without A)) (stays d) ∙ rw e refl

    takes_none : (d j : ℕ) → takes n fails (d + k) j ≡ false
    unfolding takes Option-elim
    takes_none d j = rw (stays d, e) refl

    turn-stays : (d j : ℕ) → turn_to n fails (d + k) j ≡ turn_to n fails k j
    unfolding turn_to
    turn-stays zero j = ap (λ (x : ℕ). turn_to n fails x j) from-none
    turn-stays (suc d) j = ap (λ (x : ℕ). turn_to n fails x j) (one_more d) ∙ rw (takes_none d j) (turn-stays d j)

    clash-stays : (d j : ℕ) → clash_to n fails (d + k) j ≡ clash_to n fails k j
    unfolding clash_to
    clash-stays zero j = ap (λ (x : ℕ). clash_to n fails x j) from-none
    clash-stays (suc d) j = ap (λ (x : ℕ). clash_to n fails x j) (one_more d) ∙ rw (takes_none d j) (clash-stays d j)

    pub recorded-end : (alive : ℕ) (turns counts : List ℕ) → k ≤ n → has alive ≡ alive_to n fails k → alive < 2 ^ n
        → Recorded n fails k turns counts → Told n fails (record { kept = alive; turns = turns; clashes = counts })
    unfolding kept
    recorded-end alive turns counts m a b r =
        let q : n - k + k ≡ n = omega arith in
        record {
          survivors = a ∙ sym (stays (n - k)) ∙ ap (alive_to n fails) q;
          within = b;
          turns = λ j. r.turn j ∙ sym (turn-stays (n - k) j) ∙ ap (λ (x : ℕ). turn_to n fails x j) q;
          clashes = λ j. r.clash j ∙ sym (clash-stays (n - k) j) ∙ ap (λ (x : ℕ). clash_to n fails x j) q;
        }
