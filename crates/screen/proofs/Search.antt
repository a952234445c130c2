-- How the code finds the one that goes, and removes one after another. Assumes nothing.
use mathlib.Core.Path.{◌≡◌, refl, sym, ap, subst, ◌∙◌}
use mathlib.Core.Logic.{◌⊎◌, inl, inr}
use mathlib.Core.Option as maybe
use mathlib.Core.Option.{none, some, Option-elim}
use mathlib.Core.Bool.{Bool, true, not}
use Prim.Native.Nat.{ℕ, suc, ◌+◌, ◌≤◌, ◌<◌}
use native.Mathlib.Numerals.{add-one}
use native.Mathlib.Omega.{arith}
use lib.Dec.{T, ltb, ltb→lt}
use borrow.Author.Tests.{lt-ltb, le-ltb}
use Rattle.std.specs.Prelude.{Option, None, Some}
use Rattle.std.proofs.lemmas.Option.{none-some, same_Some}
use Rattle.sets.specs.Sets.{Subset, first, without}
use Rattle.sets.specs.Choice.{consider, choose}
use Rattle.sets.specs.Held.{option_of}
use Rattle.sets.proofs.Tests.{either, T→eq, F→eq}
use Rattle.screen.specs.Screen.{clashes, goes, alive_to}
use Rattle.screen.specs.State.{Held, Counted, most_clashing, lessened, held_to}
use Rattle.screen.specs.Meaning.{Goes}
use Rattle.screen.proofs.Removal.{Within, alive-below, goes_some, goes-early}
use Rattle.screen.proofs.Numbers.{removed-held}
use Rattle.screen.proofs.Steps.{most-goes, steps}

module _ (counts : ℕ → ℕ) where
  abbrev pub above : ℕ → Bool
  above i = ltb 0 (counts i)

  abbrev pub beats : ℕ → ℕ → Bool
  beats i j = ltb (counts j) (counts i)

  -- the number of a choice, 0 of none
  abbrev pub number : Option ℕ → ℕ
  number None = 0
  number (Some w) = counts w

  -- w is the choice among those below i, and `most` its number, or 0 with none
  pub record Best (i : ℕ) (w : Option ℕ) (most : ℕ) : Type 0 where
    pub index : w ≡ option_of (choose above beats i)
    pub found : most ≡ number w

  pub best-start : Best 0 None 0
  unfolding choose
  best-start = record { index = refl; found = refl }

  pub best-end : (n most : ℕ) (w : Option ℕ) → Best n w most → w ≡ option_of (most_clashing n counts)
  unfolding most_clashing
  best-end n most w b = b.index

  -- c is its number
  module _ (i : ℕ) (w : Option ℕ) (most c : ℕ) (e : c ≡ counts i) (b : Best i w most) where
    pub best_takes : most < c → Best (i + 1) (Some i) c
    unfolding choose consider
    best_takes k = record { index = go (choose above beats i) refl (lt-ltb 0 (counts i) (omega arith)); found = e }
      where
        go : (o : maybe.Option ℕ) → choose above beats i ≡ o → above i ≡ true → Some i ≡ option_of (choose above beats (i + 1))
        go none q p = rw (add-one i, q, p) refl
        go (some j) q p =
            let h : most ≡ counts j = b.found ∙ ap number (b.index ∙ ap option_of q) in
            rw (add-one i, q, p, lt-ltb (counts j) (counts i) (omega arith)) refl

    pub best-leaves : c ≤ most → Best (i + 1) w most
    unfolding choose consider
    best-leaves k = record { index = b.index ∙ go (choose above beats i) refl (either (above i)); found = b.found }
      where
        go : (o : maybe.Option ℕ) → choose above beats i ≡ o → T (above i) ⊎ T (not (above i)) → option_of o ≡ option_of (choose above beats (i + 1))
        go o q (inr p) = rw (add-one i, q, F→eq (above i) p) refl
        go none q (inl p) =
            let h : most ≡ 0 = b.found ∙ ap number (b.index ∙ ap option_of q) in
            absurd (omega (arith, ltb→lt 0 (counts i) p))
        go (some j) q (inl p) =
            let h : most ≡ counts j = b.found ∙ ap number (b.index ∙ ap option_of q) in
            rw (add-one i, q, T→eq (above i) p, le-ltb (counts j) (counts i) (omega arith)) refl

-- ---- the loop of removals

-- w is the one that goes from s, the state after k steps
pub record Leaving (n : ℕ) (fails : ℕ → ℕ → Bool) (k : ℕ) (s : Held) (w : ℕ) : Type 0 where
  pub goes-is : goes n fails (alive_to n fails k) ≡ some w
  pub here : T (s.alive w)
  pub below : w < n
  pub early : k < n
  pub clash : s.counts w ≡ clashes n fails (alive_to n fails k) w
  pub next : (t : Held) → t.alive ≡ without s.alive w → t.counts ≡ lessened fails (first n) w s.counts → t ≡ held_to n fails (suc k)

module _ (n : ℕ) (fails : ℕ → ℕ → Bool) (k : ℕ) (s : Held) (e : s ≡ held_to n fails k) where
  held-true : Counted n fails s
  held-true = subst (λ (x : Held). Counted n fails x) (sym e) (steps n fails k).0

  pub held-alive : s.alive ≡ alive_to n fails k
  held-alive = ap (λ (x : Held). x.alive) e ∙ (steps n fails k).1

  held_below : Within n fails s.alive
  held_below = subst (λ (A : Subset). Within n fails A) (sym held-alive) (alive-below n fails k)

  named : most_clashing n s.counts ≡ goes n fails (alive_to n fails k)
  named = most-goes n fails s held-true held_below ∙ ap (goes n fails) held-alive

  -- what the code finds
  pub none-goes : None ≡ option_of (most_clashing n s.counts) → goes n fails (alive_to n fails k) ≡ none
  none-goes q = go (most_clashing n s.counts) named q
    where
      go : (o : maybe.Option ℕ) → o ≡ goes n fails (alive_to n fails k) → None ≡ option_of o → goes n fails (alive_to n fails k) ≡ none
      go none e p = sym e
      go (some i) e p = absurd (none-some i p)

  module _ (w : ℕ) (q : Some w ≡ option_of (most_clashing n s.counts)) where
    most-is : most_clashing n s.counts ≡ some w
    most-is = go (most_clashing n s.counts) q
      where
        go : (o : maybe.Option ℕ) → Some w ≡ option_of o → o ≡ some w
        go none p = absurd (none-some w (sym p))
        go (some i) p = ap some (sym (same_Some w i p))

    pub leaving : Leaving n fails k s w
    unfolding held_to Option-elim
    leaving =
        let found : goes n fails (alive_to n fails k) ≡ some w = sym named ∙ most-is in
        let g : Goes n fails (alive_to n fails k) w = goes_some n fails (alive_to n fails k) (alive-below n fails k) w found in
        let here : T (s.alive w) = subst (λ (A : Subset). T (A w)) (sym held-alive) g.here in
        record {
          goes-is = found;
          here = here;
          below = alive-below n fails k w g.here;
          early = goes-early n fails k w g;
          clash = held-true.recount w here ∙ ap (λ (A : Subset). clashes n fails A w) held-alive;
          next = λ t a c. removed-held n fails s w t held_below held-true a c ∙ rw (← e, most-is) refl;
        }
