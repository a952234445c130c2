-- After each step the stored numbers are the recount, so that they name the one that goes. Assumes nothing.
use mathlib.Core.Path.{◌≡◌, refl, sym, ap, subst, ◌∙◌}
use mathlib.Core.Logic.{◌⊎◌, inl, inr}
use mathlib.Core.Option.{Option, none, some, Option-elim}
use mathlib.Core.Bool.{Bool, not}
use Prim.Native.Nat.{ℕ, zero, suc}
use native.Mathlib.Omega.{arith}
use lib.Dec.{T, T_not, not_T, ltb, ltb→lt}
use Rattle.sets.specs.Sets.{Subset, without, first}
use Rattle.sets.specs.Choice.{IsChoice}
use Rattle.sets.proofs.Tests.{either, T→eq, F→eq, and_l, and_r, and_both}
use Rattle.sets.proofs.Choosing.{choose-is, choice-unique}
use Rattle.screen.specs.Screen.{clashes, goes, alive_to}
use Rattle.screen.specs.State.{Held, Counted, most_clashing, removed, start, held_to, StoredIsRecount, RemovedHoldsNone, SameSurvivors}
use Rattle.screen.proofs.Removal.{clashing, more, Within, Chosen, chosen, ranked-by, alive-below, goes_some}
use Rattle.screen.proofs.Stored.{still-true}

-- ---- true numbers name the one that goes
module _ (n : ℕ) (fails : ℕ → ℕ → Bool) (s : Held) (c : Counted n fails s) where
  abbrev above : ℕ → Bool
  above i = ltb 0 (s.counts i)

  abbrev beats : ℕ → ℕ → Bool
  beats i j = ltb (s.counts j) (s.counts i)

  -- a number above 0 is that of one still in
  in-above : (i : ℕ) → T (above i) → T (s.alive i)
  in-above i t = go (either (s.alive i))
    where
      go : T (s.alive i) ⊎ T (not (s.alive i)) → T (s.alive i)
      go (inl a) = a
      go (inr a) = absurd (omega (arith, ltb→lt 0 (s.counts i) t, c.gone i a))

  counts-as : (i : ℕ) → T (above i) → s.counts i ≡ clashes n fails s.alive i
  counts-as i t = c.recount i (in-above i t)

  above-clashing : (i : ℕ) → T (above i) → T (clashing n fails s.alive i)
  above-clashing i t =
      and_both (s.alive i) (ltb 0 (clashes n fails s.alive i)) (in-above i t) (subst (λ (x : ℕ). T (ltb 0 x)) (counts-as i t) t)

  clashing-above : (i : ℕ) → T (clashing n fails s.alive i) → T (above i)
  clashing-above i t =
      subst (λ (x : ℕ). T (ltb 0 x)) (sym (c.recount i (and_l (s.alive i) (ltb 0 (clashes n fails s.alive i)) t)))
      (and_r (s.alive i) (ltb 0 (clashes n fails s.alive i)) t)

  same-order : (i j : ℕ) → T (above i) → T (above j) → beats i j ≡ more n fails s.alive i j
  same-order i j t u = rw (counts-as i t, counts-as j u) refl

  same-choice : (o : Option ℕ) → IsChoice above beats n o → Chosen n fails s.alive o
  same-choice none h = λ j l. not_T (clashing n fails s.alive j) (λ t. T_not (above j) (h j l) (clashing-above j t))
  same-choice (some i) h = record {
    below = h.below;
    candidate = above-clashing i h.candidate;
    unbeaten = λ j l t. let u = clashing-above j t in subst (λ (b : Bool). T (not b)) (same-order j i u h.candidate) (h.unbeaten j l u);
    lowest = λ j l t. let u = clashing-above j t in subst T (same-order i j h.candidate u) (h.lowest j l u);
  }

  pub most-goes : Within n fails s.alive → most_clashing n s.counts ≡ goes n fails s.alive
  unfolding most_clashing
  most-goes w =
      choice-unique (clashing n fails s.alive) (more n fails s.alive) n (most_clashing n s.counts) (goes n fails s.alive)
      (same-choice (most_clashing n s.counts) (choose-is above beats (ranked-by above s.counts) n)) (chosen n fails s.alive w)

-- ---- the steps
module _ (n : ℕ) (fails : ℕ → ℕ → Bool) where
  counted_start : Counted n fails (start n fails)
  unfolding start
  counted_start = record {
    recount = λ i t. rw (T→eq (first n i) t) refl;
    gone = λ i t. rw (F→eq (first n i) t) refl;
  }

  -- one goes, or none does
  stepped : (s : Held) → Counted n fails s → Within n fails s.alive → (o : Option ℕ) → goes n fails s.alive ≡ o
      → let t = Option-elim o s (removed fails s) in Counted n fails t × (t.alive ≡ Option-elim o s.alive (without s.alive))
  unfolding removed Option-elim
  stepped s c w none e = (c, refl)
  stepped s c w (some i) e = let g = (goes_some n fails s.alive w i e).here in (still-true n fails s i (w i g) g c, refl)

  pub steps : (k : ℕ) → Counted n fails (held_to n fails k) × ((held_to n fails k).alive ≡ alive_to n fails k)
  unfolding held_to alive_to
  steps zero = (counted_start, refl)
  steps (suc k) = go (held_to n fails k) (steps k).0 (steps k).1
    where
      go : (s : Held) → Counted n fails s → s.alive ≡ alive_to n fails k
          → let t = Option-elim (most_clashing n s.counts) s (removed fails s) in
          let A = alive_to n fails k in
          Counted n fails t × (t.alive ≡ Option-elim (goes n fails A) A (without A))
      go s c e =
          let w : Within n fails s.alive = subst (λ (A : Subset). Within n fails A) (sym e) (alive-below n fails k) in
          rw (most-goes n fails s c w, ← e) (stepped s c w (goes n fails s.alive) refl)

pub stored-is-recount : StoredIsRecount
stored-is-recount n fails k i t =
    let h = steps n fails k in
    h.0.recount i (subst (λ (A : Subset). T (A i)) (sym h.1) t) ∙ ap (λ (A : Subset). clashes n fails A i) h.1

pub removed-holds-none : RemovedHoldsNone
removed-holds-none n fails k i t =
    let h = steps n fails k in
    h.0.gone i (subst (λ (A : Subset). T (not (A i))) (sym h.1) t)

pub same-survivors : SameSurvivors
same-survivors n fails k = (steps n fails k).1
