-- The one look at the residuals: what a reception more makes of each choice, and that both are the definition's, after
-- every k. A choice is held as an index and its residual, so a reception is weighed without reading another's. Assumes nothing.
use Rattle.std.proofs.Common.{◌≡◌, ℕ, ◌+◌, ◌<◌, Bool, true, false, cond, not, ◌&&◌, T, ◌↔◌, sym, refl, ap, ◌∙◌, subst, ap₂, add-one, T_not}
use Rattle.std.specs.Prelude as std
use mathlib.Core.Option.{Option, none, some}
use lib.Dec.{not_T}
use lib.Ieee.{Float, lt, le}
use Rattle.sets.specs.Sets.{Subset}
use Rattle.sets.specs.Choice.{consider, choose, IsChoice, Ranks}
use Rattle.sets.proofs.Tests.{and_l, and_r, and_both}
use Rattle.sets.proofs.Choosing.{choose-is, choice-unique}
use Rattle.best.proofs.Order.{le_of_not_lt, lt_of_not_le, le-lt}
use Rattle.rounds.specs.declared.outliers.Choice.{Choice}
use Rattle.rounds.specs.declared.outliers.Choices.{Choices}
use Rattle.rounds.specs.Setting.{five}
use Rattle.rounds.specs.Setting.{greater, less}
use Rattle.rounds.specs.Rounds.{above, worst, readmissible, least}
use Rattle.rounds.specs.Looked.{held, chosen_by, goes_before, looked_to, LookFindsBoth}
use Rattle.rounds.proofs.Choices.{five-number, ranks-greater, ranks-less}

-- ---- the choice by an order of residuals, among the first k
module _ (p : ℕ → Bool) (z : ℕ → Float) (order : Float → Float → Bool) (k : ℕ) where
  abbrev beats : ℕ → ℕ → Bool
  beats i j = order (z i) (z j)

  abbrev here : std.Option Choice
  here = std.Some (record { at = k; z = z k })

  next : (t : Bool) (o : Option ℕ) → t ≡ p k → choose p beats k ≡ o → held z (consider beats t k o) ≡ held z (choose p beats (k + 1))
  unfolding choose
  next t o u e =
      ap₂ (λ (b : Bool) (y : Option ℕ). held z (consider beats b k y)) u (sym e) ∙ ap (λ (x : ℕ). held z (choose p beats x)) (sym (add-one k))

  -- one that is no candidate changes nothing
  held_stays : false ≡ p k → held z (choose p beats k) ≡ held z (choose p beats (k + 1))
  unfolding consider
  held_stays u = next false (choose p beats k) u refl

  -- a candidate goes in where there is none yet or it is better
  begins : (t : Bool) → cond (t && true) here (held z none) ≡ held z (consider beats t k none)
  unfolding consider
  begins true = refl
  begins false = refl

  weighs : (w : ℕ) (t v : Bool) → order (z k) (z w) ≡ v → cond (t && v) here (held z (some w)) ≡ held z (consider beats t k (some w))
  unfolding consider
  weighs w false v e = refl
  weighs w true true e = ap (λ (x : Bool). held z (cond x (some k) (some w))) (sym e)
  weighs w true false e = ap (λ (x : Bool). held z (cond x (some k) (some w))) (sym e)

  held-turn : (c : std.Option Choice) → c ≡ held z (choose p beats k) → (t : Bool) → t ≡ p k
      → cond (t && goes_before order (z k) c) here c ≡ held z (choose p beats (k + 1))
  held-turn c h t u = go (choose p beats k) refl
    where
      turn : std.Option Choice → std.Option Choice
      turn x = cond (t && goes_before order (z k) x) here x

      go : (o : Option ℕ) → choose p beats k ≡ o → turn c ≡ held z (choose p beats (k + 1))
      go none e = ap turn (h ∙ ap (held z) e) ∙ begins t ∙ next t none u e
      go (some w) e = ap turn (h ∙ ap (held z) e) ∙ weighs w t (order (z k) (z w)) refl ∙ next t (some w) u e

-- the reception that is held is the choice
held-is : (z : ℕ → Float) (o : Option ℕ) → chosen_by (held z o) ≡ o
held-is z none = refl
held-is z (some i) = refl

held-choice : (p : ℕ → Bool) (z : ℕ → Float) (beats : ℕ → ℕ → Bool) (k : ℕ) → Ranks p beats
    → IsChoice p beats k (chosen_by (held z (choose p beats k)))
held-choice p z beats k R = subst (IsChoice p beats k) (sym (held-is z (choose p beats k))) (choose-is p beats R k)

-- ---- a turn of the pass: reception i, with the residual x
module _ (K S : Subset) (z : ℕ → Float) (i : ℕ) (seen : Choices) (h : seen ≡ looked_to K S z i) where
  abbrev both : std.Option Choice → std.Option Choice → Choices
  both w l = record { worst = w; least = l }

  worst-held : seen.worst ≡ held z (worst S z i)
  worst-held = ap (λ (c : Choices). c.worst) h

  least-held : seen.least ≡ held z (least K S z i)
  least-held = ap (λ (c : Choices). c.least) h

  worst-stays : S i ≡ false → seen.worst ≡ held z (worst S z (i + 1))
  worst-stays u = worst-held ∙ held_stays (above S z) z (λ x y. lt y x) i (ap (λ (t : Bool). t && lt five (z i)) (sym u))

  least_stays : (K i && not (S i)) ≡ false → seen.least ≡ held z (least K S z (i + 1))
  least_stays u = least-held ∙ held_stays (readmissible K S z) z (λ x y. lt x y) i (ap (λ (t : Bool). t && le (z i) five) (sym u))

  in-neither : (a : Bool) → (a && false) ≡ false
  in-neither true = refl
  in-neither false = refl

  -- one that is neither kept nor included changes nothing
  pub look-other : S i ≡ false → K i ≡ false → seen ≡ looked_to K S z (i + 1)
  look-other u v = ap₂ both (worst-stays u) (least_stays (ap (λ (t : Bool). t && not (S i)) v))

  module _ (x : Float) (e : x ≡ z i) where
    abbrev as-worst : Float → std.Option Choice
    as-worst y = cond (lt five y && goes_before (λ a b. lt b a) y seen.worst) (std.Some (record { at = i; z = y })) seen.worst

    abbrev as-least : Float → std.Option Choice
    as-least y = cond (le y five && goes_before lt y seen.least) (std.Some (record { at = i; z = y })) seen.least

    -- an included one is weighed as the worst
    pub look-included : S i ≡ true → (w : std.Option Choice) → w ≡ as-worst x → both w seen.least ≡ looked_to K S z (i + 1)
    look-included u w g =
        let p : lt five (z i) ≡ above S z i = ap (λ (t : Bool). t && lt five (z i)) (sym u) in
        ap₂ both (g ∙ ap as-worst e ∙ held-turn (above S z) z (λ x y. lt y x) i seen.worst worst-held (lt five (z i)) p)
        (least_stays (ap (λ (t : Bool). K i && not t) u ∙ in-neither (K i)))

    -- a left-out one as the least
    pub look-left-out : S i ≡ false → K i ≡ true → (l : std.Option Choice) → l ≡ as-least x → both seen.worst l ≡ looked_to K S z (i + 1)
    look-left-out u v l g =
        let p : le (z i) five ≡ readmissible K S z i = ap₂ (λ (a b : Bool). (a && not b) && le (z i) five) (sym v) (sym u) in
        ap₂ both (worst-stays u)
        (g ∙ ap as-least e ∙ held-turn (readmissible K S z) z (λ x y. lt x y) i seen.least least-held (le (z i) five) p)

-- ---- the receptions that the look hands over
module _ (z : ℕ → Float) (o : Option ℕ) (r : std.Option Choice) (h : r ≡ held z o) where
  some-held : (x : Choice) → r ≡ std.Some x → o ≡ some x.at
  some-held x e = sym (held-is z o) ∙ ap chosen_by (sym h ∙ e)

  none-held : r ≡ std.None → o ≡ none
  none-held e = sym (held-is z o) ∙ ap chosen_by (sym h ∙ e)

module _ (K S : Subset) (z : ℕ → Float) (n : ℕ) (c : Choices) (e : c ≡ looked_to K S z n) where
  pub worst-some : (x : Choice) → c.worst ≡ std.Some x → worst S z n ≡ some x.at
  worst-some x q = some-held z (worst S z n) c.worst (ap (λ (y : Choices). y.worst) e) x q

  pub worst-none : c.worst ≡ std.None → worst S z n ≡ none
  worst-none q = none-held z (worst S z n) c.worst (ap (λ (y : Choices). y.worst) e) q

  pub least-some : (x : Choice) → c.least ≡ std.Some x → least K S z n ≡ some x.at
  least-some x q = some-held z (least K S z n) c.least (ap (λ (y : Choices). y.least) e) x q

  pub least-none : c.least ≡ std.None → least K S z n ≡ none
  least-none q = none-held z (least K S z n) c.least (ap (λ (y : Choices). y.least) e) q

  pub worst-below : (x : Choice) → c.worst ≡ std.Some x → x.at < n
  worst-below x q = (subst (IsChoice (above S z) (greater z) n) (worst-some x q) (choose-is (above S z) (greater z) (ranks-greater S z) n)).below

  pub least-below : (x : Choice) → c.least ≡ std.Some x → x.at < n
  least-below x q = (subst (IsChoice (readmissible K S z) (less z) n) (least-some x q)
      (choose-is (readmissible K S z) (less z) (ranks-less K S z) n)).below

-- ---- what both are

-- none is chosen exactly where nothing below k is a candidate
none-exactly : (p : ℕ → Bool) (beats : ℕ → ℕ → Bool) (k : ℕ) (o : Option ℕ) → IsChoice p beats k o → (o ≡ none) ↔ ((j : ℕ) → j < k → T (not (p j)))
none-exactly p beats k o h = ((λ e. subst (IsChoice p beats k) e h), λ n. choice-unique p beats k o none h n)

module _ (K S : Subset) (z : ℕ → Float) where
  no-worst : (j : ℕ) → T (S j) → T (not (above S z j)) → T (not (lt five (z j)))
  no-worst j t h = not_T (lt five (z j)) (λ u. T_not (above S z j) h (and_both (S j) (lt five (z j)) t u))

  worst-no : (j : ℕ) → (T (S j) → T (le (z j) five)) → T (not (above S z j))
  worst-no j h = not_T (above S z j) (λ t. le-lt five (z j) (h (and_l (S j) (lt five (z j)) t)) (and_r (S j) (lt five (z j)) t))

  no-least : (j : ℕ) → T (K j) → T (not (S j)) → T (not (readmissible K S z j)) → T (not (le (z j) five))
  no-least j t o h =
      not_T (le (z j) five) (λ u. T_not (readmissible K S z j) h (and_both (K j && not (S j)) (le (z j) five) (and_both (K j) (not (S j)) t o) u))

  least-no : (j : ℕ) → (T (K j) → T (not (S j)) → T (lt five (z j))) → T (not (readmissible K S z j))
  least-no j h = not_T (readmissible K S z j) (λ t.
      let o = and_l (K j && not (S j)) (le (z j) five) t in
      le-lt five (z j) (and_r (K j && not (S j)) (le (z j) five) t) (h (and_l (K j) (not (S j)) o) (and_r (K j) (not (S j)) o)))

pub look-finds-both : LookFindsBoth
look-finds-both K S z W N k s = record {
  worst = w;
  least = l;
  no_worst = (
    (λ e j h t. le_of_not_lt five (z j) five-number (N j (W j t)) (no-worst K S z j t ((none-exactly (above S z) (greater z) k _ w).0 e j h))),
    λ a. (none-exactly (above S z) (greater z) k _ w).1 (λ j h. worst-no K S z j (a j h)),
  );
  no_least = (
    (λ e j h t o. lt_of_not_le five (z j) five-number (N j t) (no-least K S z j t o ((none-exactly (readmissible K S z) (less z) k _ l).0 e j h))),
    λ a. (none-exactly (readmissible K S z) (less z) k _ l).1 (λ j h. least-no K S z j (a j h)),
  );
}
  where
    w : IsChoice (above S z) (greater z) k (chosen_by (held z (worst S z k)))
    w = held-choice (above S z) z (greater z) k (ranks-greater S z)

    l : IsChoice (readmissible K S z) (less z) k (chosen_by (held z (least K S z k)))
    l = held-choice (readmissible K S z) z (less z) k (ranks-less K S z)
