-- What `best` gives is what specs/Meaning.antt says of it. Assumes nothing.
use mathlib.Core.Path.{◌≡◌, refl, sym, ap, subst, ◌∙◌}
use mathlib.Core.Logic.{◌⊎◌, inl, inr}
use mathlib.Core.Option.{Option, none, some}
use mathlib.Core.Bool.{Bool, true, false, not, cond, ◌&&◌, false≢true}
use mathlib.Core.List.{List, [], ◌∷◌, map}
use Prim.Native.Nat.{ℕ, zero, suc, ◌≤◌, ◌<◌}
use native.Mathlib.Omega.{arith}
use lib.Dec.{T, T_not, not_T, ltb, ltb→lt, lt→ltb, nltb→le}
use lib.ListN.{length, get_or, length-map, get_or-eq_default}
use lib.Ieee.{Float, binary64, lt, le, neg, sub, round, is_nan}
use Rattle.binary64.specs.Steps.{◌⊕◌, decimal}
use Rattle.binary64.proofs.Numbers.{num-sub}
use Rattle.geo.specs.Geo.{from_ecef}
use Rattle.sets.specs.Sets.{Subset, count}
use Rattle.sets.proofs.Tests.{either, T→eq, F→eq, eq→T, and_l, and_r, and_both, lt-suc-cases}
use Rattle.sets.proofs.Counting.{count-pos, count-some}
use Rattle.problem.specs.Problem.{position, range}
use Rattle.whitening.specs.Whitened.{Chosen}
use Rattle.damped.specs.declared.Fit.{Fit}
use Rattle.damped.specs.Damped.{levenberg_marquardt}
use Rattle.best.specs.declared.Unfit.{Unfit}
use Rattle.best.specs.declared.Unfit.TheVariants.{NoConvergence, OutOfRange, Ambiguous, Singular}
use Rattle.limits.specs.Heights.{min_height_m, max_height_m}
use Rattle.limits.specs.Limits.{chi2_limit}
use Rattle.best.specs.Plausible.{max_range_m, near_to, plausible}
use Rattle.best.specs.Best.{Outcome, gives, refuses, distance, explains_alike, fit_at, any_fit, weighed, rival, best_of, judged, best}
use Rattle.best.specs.Meaning.{fit_from, Plausible, Converges, Weighed, Leads, Rival, IsBest, Rivalled, NoneConverges, NonePlausible}
use Rattle.best.specs.Meaning.{Answered, NoRivalAtLimit}
use Rattle.best.proofs.Order.{lt-asym, le_of_not_lt, le-lt}
use Rattle.best.proofs.Passes.{nothing}
use Rattle.best.proofs.Cost.{cost-number}
use Rattle.best.proofs.Zeros.{not_itself}
use Rattle.best.proofs.Cheapest.{Cheapest, cheapest-of, none_of, of-cheapest, of_none}

-- nine more than a number is one
nine-more : (x : Float) → T (not (is_nan x)) → T (not (is_nan (x ⊕ decimal 9 0)))
unfolding sub neg round
nine-more x h = num-sub binary64 x (neg (decimal 9 0)) h tt

-- ---- plausible
near-at : (sites x : List Float) (k : ℕ) → T (near_to sites x k) → (j : ℕ) → j < k → T (le (range sites x j) max_range_m)
unfolding near_to
near-at sites x zero h j l = absurd (omega arith)
near-at sites x (suc k) h j l = elim (lt-suc-cases j k l) [
  | inl e ↦ subst (λ (i : ℕ). T (le (range sites x i) max_range_m)) (sym e) (and_r (near_to sites x k) (le (range sites x k) max_range_m) h)
  | inr q ↦ near-at sites x k (and_l (near_to sites x k) (le (range sites x k) max_range_m) h) j q
]

all_near : (sites x : List Float) (k : ℕ) → ((j : ℕ) → j < k → T (le (range sites x j) max_range_m)) → T (near_to sites x k)
unfolding near_to
all_near sites x zero h = tt
all_near sites x (suc k) h = and_both (near_to sites x k) (le (range sites x k) max_range_m) (all_near sites x k (λ j l. h j (omega arith)))
    (h k (omega arith))

module _ (C : Chosen) (starts : List (List Float)) where
  plausible-is : (fit : Fit) → T (plausible C.sites C.k fit.params) → Plausible C fit
  unfolding plausible
  plausible-is fit h =
      let x : List Float = position fit.params in
      let height : Float = (from_ecef x).height_m in
      let flies = and_l (le min_height_m height && le height max_height_m) (near_to C.sites x C.k) h in
      record {
        above = and_l (le min_height_m height) (le height max_height_m) flies;
        below = and_r (le min_height_m height) (le height max_height_m) flies;
        near = near-at C.sites x C.k (and_r (le min_height_m height && le height max_height_m) (near_to C.sites x C.k) h);
      }

  is-plausible : (fit : Fit) → Plausible C fit → T (plausible C.sites C.k fit.params)
  unfolding plausible
  is-plausible fit h =
      let x : List Float = position fit.params in
      let height : Float = (from_ecef x).height_m in
      and_both (le min_height_m height && le height max_height_m) (near_to C.sites x C.k)
      (and_both (le min_height_m height) (le height max_height_m) h.above h.below)
      (all_near C.sites x C.k h.near)

  -- ---- the fits, as a list
  abbrev fits : List Fit
  fits = map (levenberg_marquardt C) starts

  abbrev used : Fit → Bool
  used = weighed C.sites C.k

  of_map : (f : List Float → Fit) (ps : List (List Float)) (i : ℕ) → i < length ps → get_or (map f ps) i nothing ≡ f (get_or ps i [])
  of_map f [] i h = absurd (omega arith)
  of_map f (p ∷ ps) zero h = refl
  of_map f (p ∷ ps) (suc i) h = of_map f ps i (omega arith)

  at-start : (i : ℕ) → i < length starts → fit_at fits i ≡ fit_from C starts i
  at-start i h = of_map (levenberg_marquardt C) starts i h

  past : (i : ℕ) → length starts ≤ i → fit_at fits i ≡ nothing
  past i h = get_or-eq_default fits nothing (subst (λ (m : ℕ). m ≤ i) (sym (length-map starts (levenberg_marquardt C))) h)

  -- a converged fit has a number for its cost
  number : (i : ℕ) → T (used (fit_at fits i)) → T (not (is_nan (fit_at fits i).cost))
  number i t = go (either (ltb i (length starts)))
    where
      go : T (ltb i (length starts)) ⊎ T (not (ltb i (length starts))) → T (not (is_nan (fit_at fits i).cost))
      go (inl l) =
          let e : fit_at fits i ≡ fit_from C starts i = at-start i (ltb→lt i (length starts) l) in
          subst (λ (f : Fit). T (not (is_nan f.cost))) (sym e)
          (cost-number C (get_or starts i []) (subst (λ (f : Fit). T f.ok) e
          (and_l (fit_at fits i).ok (plausible C.sites C.k (fit_at fits i).params) t)))
      go (inr l) = absurd (subst (λ (f : Fit). T (used f)) (past i (nltb→le i (length starts) l)) t)

  -- ---- those that are weighed, and what is chosen of them
  abbrev chosen_best : Option ℕ
  chosen_best = best_of C.sites C.k fits

  listed : (i : ℕ) → i < length fits → i < length starts
  listed i h = subst (λ (m : ℕ). i < m) (length-map starts (levenberg_marquardt C)) h

  listed_back : (i : ℕ) → i < length starts → i < length fits
  listed_back i h = subst (λ (m : ℕ). i < m) (sym (length-map starts (levenberg_marquardt C))) h

  -- a fact of the j-th of the list is one of the fit from the j-th start, and back
  of-start : (Q : Fit → Type 0) (j : ℕ) → j < length starts → Q (fit_at fits j) → Q (fit_from C starts j)
  of-start Q j l q = subst Q (at-start j l) q

  of-list : (Q : Fit → Type 0) (j : ℕ) → j < length starts → Q (fit_from C starts j) → Q (fit_at fits j)
  of-list Q j l q = subst Q (sym (at-start j l)) q

  abbrev candidate : Subset
  candidate j = used (fit_at fits j)

  abbrev cost_at : ℕ → Float
  cost_at j = (fit_at fits j).cost

  weighed-is : (j : ℕ) → j < length starts → T (candidate j) → Weighed C starts j
  weighed-is j l t =
      let u : T (used (fit_from C starts j)) = of-start (λ f. T (used f)) j l t in
      let ok : Bool = (fit_from C starts j).ok in
      let there : Bool = plausible C.sites C.k (fit_from C starts j).params in
      record { converges = record { listed = l; converged = and_l ok there u }; plausible = plausible-is (fit_from C starts j) (and_r ok there u) }

  is-weighed : (j : ℕ) → Weighed C starts j → T (candidate j)
  is-weighed j w =
      let f : Fit = fit_from C starts j in
      of-list (λ x. T (used x)) j w.converges.listed
      (and_both f.ok (plausible C.sites C.k f.params) w.converges.converged (is-plausible f w.plausible))

  -- a fact of the costs of two starts is one of two of the list, and back
  of-starts : (Q : Float → Float → Type 0) (i j : ℕ) → i < length starts → j < length starts → Q (cost_at i) (cost_at j)
      → Q (fit_from C starts i).cost (fit_from C starts j).cost
  of-starts Q i j l m q = of-start (λ f. Q f.cost (fit_from C starts j).cost) i l (of-start (λ f. Q (cost_at i) f.cost) j m q)

  of-lists : (Q : Float → Float → Type 0) (i j : ℕ) → i < length starts → j < length starts → Q (fit_from C starts i).cost (fit_from C starts j).cost
      → Q (cost_at i) (cost_at j)
  of-lists Q i j l m q = of-list (λ f. Q f.cost (cost_at j)) i l (of-list (λ f. Q (fit_from C starts i).cost f.cost) j m q)

  leads-is : (i : ℕ) → chosen_best ≡ some i → Leads C starts i
  leads-is i c =
      let b : Cheapest candidate cost_at number (length fits) i = cheapest-of candidate cost_at number (length fits) i c in
      let here : i < length starts = listed i b.below in
      record {
        weighed = weighed-is i here b.candidate;
        cheapest = λ j w. let l : j < length starts = w.converges.listed in
            of-starts (λ x y. T (le x y)) i j here l (b.cheapest j (listed_back j l) (is-weighed j w));
        earliest = λ j m w. of-starts (λ x y. T (lt x y)) i j here w.converges.listed (b.earliest j m (is-weighed j w));
      }

  is-led : (i : ℕ) → Leads C starts i → chosen_best ≡ some i
  is-led i h = of-cheapest candidate cost_at number (length fits) i first
    where
      here : i < length starts
      here = h.weighed.converges.listed

      first : Cheapest candidate cost_at number (length fits) i
      first = record {
        below = listed_back i here;
        candidate = is-weighed i h.weighed;
        cheapest = λ j l t. of-lists (λ x y. T (le x y)) i j here (listed j l) (h.cheapest j (weighed-is j (listed j l) t));
        earliest = λ j m t. let l : j < length starts = omega (arith, here) in
            of-lists (λ x y. T (lt x y)) i j here l (h.earliest j m (weighed-is j l t));
      }

  none-weighed : chosen_best ≡ none → (j : ℕ) → Weighed C starts j → ⊥
  none-weighed c j w = T_not (candidate j) (none_of candidate cost_at number (length fits) c j (listed_back j w.converges.listed)) (is-weighed j w)

  weighed-none : ((j : ℕ) → Weighed C starts j → ⊥) → chosen_best ≡ none
  weighed-none h = of_none candidate cost_at number (length fits) (λ j l. not_T (candidate j) (λ t. h j (weighed-is j (listed j l) t)))

  -- ---- whether one of the fits passes a test
  some-any : (p : Fit → Bool) (j : ℕ) → j < length starts → T (p (fit_from C starts j)) → any_fit p fits ≡ true
  some-any p j l t =
      T→eq (any_fit p fits) (lt→ltb 0 (count (λ i. p (fit_at fits i)) (length fits))
      (count-pos (λ i. p (fit_at fits i)) (length fits) j (listed_back j l) (of-list (λ f. T (p f)) j l t)))

  any_some : (p : Fit → Bool) → any_fit p fits ≡ true → (j : ℕ) × (j < length starts) × T (p (fit_from C starts j))
  any_some p e =
      let w = count-some (λ i. p (fit_at fits i)) (length fits) (ltb→lt 0 (count (λ i. p (fit_at fits i)) (length fits)) (eq→T e)) in
      let l = listed w.0 w.1 in
      (w.0, l, of-start (λ f. T (p f)) w.0 l w.2)

  not-any : (p : Fit → Bool) → ((j : ℕ) → j < length starts → T (p (fit_from C starts j)) → ⊥) → any_fit p fits ≡ false
  not-any p h = F→eq (any_fit p fits) (not_T (any_fit p fits) (λ t. let w = any_some p (T→eq (any_fit p fits) t) in h w.0 w.1 w.2))

  none_any : (p : Fit → Bool) → any_fit p fits ≡ false → (j : ℕ) → j < length starts → T (p (fit_from C starts j)) → ⊥
  none_any p e j l t = false≢true (sym e ∙ some-any p j l t)

  -- ---- rivals of the fit from the i-th start, which converged
  module _ (i : ℕ) (c : Converges C starts i) where
    abbrev top : Fit
    top = fit_from C starts i

    nine : T (not (is_nan (top.cost ⊕ decimal 9 0)))
    nine = nine-more top.cost (cost-number C (get_or starts i []) c.converged)

    rival-is : (j : ℕ) → j < length starts → T (rival C.sites C.k top (fit_from C starts j)) → Rival C starts i j
    rival-is j l t =
        let f : Fit = fit_from C starts j in
        let w : Weighed C starts j = weighed-is j l (of-list (λ x. T (used x)) j l (and_l (used f) (explains_alike top f) t)) in
        let alike : T (explains_alike top f) = and_r (used f) (explains_alike top f) t in
        let low : Bool = not (lt (top.cost ⊕ decimal 9 0) f.cost) in
        let far : Bool = lt (chi2_limit 4) (distance top f) in
        record {
          other = λ e. not_itself top (subst (λ (x : ℕ). T (lt (chi2_limit 4) (distance top (fit_from C starts x)))) e (and_r low far alike));
          weighed = w;
          costs = le_of_not_lt (top.cost ⊕ decimal 9 0) f.cost nine (cost-number C (get_or starts j []) w.converges.converged)
              (and_l low far alike);
          outside = and_r low far alike;
        }

    is-rival : (j : ℕ) → Rival C starts i j → T (rival C.sites C.k top (fit_from C starts j))
    is-rival j r =
        let f : Fit = fit_from C starts j in
        let low : Bool = not (lt (top.cost ⊕ decimal 9 0) f.cost) in
        let far : Bool = lt (chi2_limit 4) (distance top f) in
        and_both (used f) (explains_alike top f) (of-start (λ x. T (used x)) j r.weighed.converges.listed (is-weighed j r.weighed))
        (and_both low far (not_T (lt (top.cost ⊕ decimal 9 0) f.cost) (λ u. le-lt (top.cost ⊕ decimal 9 0) f.cost r.costs u)) r.outside)

  -- ---- what the judgement comes to
  abbrev judged_by : Option ℕ → Outcome Unfit Fit
  judged_by = judged C.sites C.k fits

  chosen-by : (o : Option ℕ) → chosen_best ≡ o → best C starts ≡ judged_by o
  unfolding best
  chosen-by o e = ap judged_by e

  -- the i-th leads, and it has a rival, or none
  module _ (i : ℕ) (h : Leads C starts i) where
    abbrev rivals : Fit → Bool
    rivals = rival C.sites C.k (fit_from C starts i)

    led : (b : Bool) → any_fit rivals fits ≡ b → best C starts ≡ cond b (refuses Ambiguous) (gives (fit_from C starts i))
    led b e =
        chosen-by (some i) (is-led i h)
        ∙ ap (λ (f : Fit). cond (any_fit (rival C.sites C.k f) fits) (refuses Ambiguous) (gives f)) (at-start i h.weighed.converges.listed)
        ∙ ap (λ (x : Bool). cond x (refuses Ambiguous) (gives (fit_from C starts i))) e

    led-alone : ((j : ℕ) → Rival C starts i j → ⊥) → best C starts ≡ gives (fit_from C starts i)
    led-alone n = led false (not-any rivals (λ j l t. n j (rival-is i h.weighed.converges j l t)))

    led-rivalled : (j : ℕ) → Rival C starts i j → best C starts ≡ refuses Ambiguous
    led-rivalled j r = led true (some-any rivals j r.weighed.converges.listed (is-rival i h.weighed.converges j r))

  of-none-converges : NoneConverges C starts → best C starts ≡ refuses NoConvergence
  of-none-converges h =
      chosen-by none (weighed-none (λ j w. h j w.converges))
      ∙ ap (λ (x : Bool). refuses (cond x OutOfRange NoConvergence)) (not-any (λ f. f.ok) (λ j l t. h j (record { listed = l; converged = t })))

  of-none-plausible : NonePlausible C starts → best C starts ≡ refuses OutOfRange
  of-none-plausible h =
      chosen-by none (weighed-none h.1)
      ∙ ap (λ (x : Bool). refuses (cond x OutOfRange NoConvergence)) (some-any (λ f. f.ok) h.0.0 h.0.1.listed h.0.1.converged)

  -- one of the four is so
  data Came : Type 0 where
    alone : (i : ℕ) → Leads C starts i → ((j : ℕ) → Rival C starts i j → ⊥) → Came
    rivalled : Rivalled C starts → Came
    unconverged : NoneConverges C starts → Came
    implausible : NonePlausible C starts → Came

  came : Came
  came = go chosen_best refl
    where
      lone : (i : ℕ) (h : Leads C starts i) (b : Bool) → any_fit (rivals i h) fits ≡ b → Came
      lone i h true e = let w = any_some (rivals i h) e in rivalled (i, w.0, h, rival-is i h.weighed.converges w.0 w.1 w.2)
      lone i h false e = alone i h (λ j r. none_any (rivals i h) e j r.weighed.converges.listed (is-rival i h.weighed.converges j r))

      none-chosen : chosen_best ≡ none → (b : Bool) → any_fit (λ f. f.ok) fits ≡ b → Came
      none-chosen c true e = let w = any_some (λ f. f.ok) e in implausible ((w.0, record { listed = w.1; converged = w.2 }), none-weighed c)
      none-chosen c false e = unconverged (λ j v. none_any (λ f. f.ok) e j v.listed v.converged)

      go : (o : Option ℕ) → chosen_best ≡ o → Came
      go none c = none-chosen c (any_fit (λ f. f.ok) fits) refl
      go (some i) c = let h = leads-is i c in lone i h (any_fit (rivals i h) fits) refl

  -- what it gives is so
  abbrev outcome : Came → Outcome Unfit Fit
  outcome (alone i h n) = gives (fit_from C starts i)
  outcome (rivalled h) = refuses Ambiguous
  outcome (unconverged h) = refuses NoConvergence
  outcome (implausible h) = refuses OutOfRange

  came-out : (c : Came) → best C starts ≡ outcome c
  came-out (alone i h n) = led-alone i h n
  came-out (rivalled h) = led-rivalled h.0 h.2 h.1 h.3
  came-out (unconverged h) = of-none-converges h
  came-out (implausible h) = of-none-plausible h

  out : best C starts ≡ outcome came
  out = came-out came

  found-so : (fit : Fit) (c : Came) → outcome c ≡ gives fit → (i : ℕ) × IsBest C starts fit i
  found-so fit (alone i h n) q = let e : fit ≡ fit_from C starts i = cc in (i, record { from = e; leads = h; alone = n })
  found-so fit (rivalled h) q = absurd (let z : ◌≡◌ {A = ℕ} 0 1 = cc in omega arith)
  found-so fit (unconverged h) q = absurd (let z : ◌≡◌ {A = ℕ} 0 1 = cc in omega arith)
  found-so fit (implausible h) q = absurd (let z : ◌≡◌ {A = ℕ} 0 1 = cc in omega arith)

  ambiguous-so : (c : Came) → outcome c ≡ refuses Ambiguous → Rivalled C starts
  ambiguous-so (rivalled h) q = h
  ambiguous-so (alone i h n) q = absurd (let z : ◌≡◌ {A = ℕ} 0 1 = cc in omega arith)
  ambiguous-so (unconverged h) q = absurd (let z : ◌≡◌ {A = ℕ} 0 1 = cc in omega arith)
  ambiguous-so (implausible h) q = absurd (let z : ◌≡◌ {A = ℕ} 0 1 = cc in omega arith)

  unconverged-so : (c : Came) → outcome c ≡ refuses NoConvergence → NoneConverges C starts
  unconverged-so (unconverged h) q = h
  unconverged-so (alone i h n) q = absurd (let z : ◌≡◌ {A = ℕ} 0 1 = cc in omega arith)
  unconverged-so (rivalled h) q = absurd (let z : ◌≡◌ {A = ℕ} 0 1 = cc in omega arith)
  unconverged-so (implausible h) q = absurd (let z : ◌≡◌ {A = ℕ} 0 1 = cc in omega arith)

  implausible-so : (c : Came) → outcome c ≡ refuses OutOfRange → NonePlausible C starts
  implausible-so (implausible h) q = h
  implausible-so (alone i h n) q = absurd (let z : ◌≡◌ {A = ℕ} 0 1 = cc in omega arith)
  implausible-so (rivalled h) q = absurd (let z : ◌≡◌ {A = ℕ} 0 1 = cc in omega arith)
  implausible-so (unconverged h) q = absurd (let z : ◌≡◌ {A = ℕ} 0 1 = cc in omega arith)

  never-singular : (c : Came) → outcome c ≡ refuses Singular → ⊥
  never-singular (alone i h n) q = let z : ◌≡◌ {A = ℕ} 0 1 = cc in omega arith
  never-singular (rivalled h) q = let z : ◌≡◌ {A = ℕ} 0 1 = cc in omega arith
  never-singular (unconverged h) q = let z : ◌≡◌ {A = ℕ} 0 1 = cc in omega arith
  never-singular (implausible h) q = let z : ◌≡◌ {A = ℕ} 0 1 = cc in omega arith

pub answered : (C : Chosen) (starts : List (List Float)) → Answered C starts
answered C starts = record {
  numbers = λ i h. cost-number C (get_or starts i []) h;
  found = λ fit. (
    (λ e. found-so C starts fit (came C starts) (sym (out C starts) ∙ e)),
    λ b. led-alone C starts b.0 b.1.leads b.1.alone
        ∙ ap gives (sym b.1.from),
  );
  ambiguous = ((λ e. ambiguous-so C starts (came C starts) (sym (out C starts) ∙ e)), λ h. came-out C starts (rivalled h));
  no_convergence = ((λ e. unconverged-so C starts (came C starts) (sym (out C starts) ∙ e)), λ h. of-none-converges C starts h);
  out_of_range = ((λ e. implausible-so C starts (came C starts) (sym (out C starts) ∙ e)), λ h. of-none-plausible C starts h);
  not_singular = λ e. never-singular C starts (came C starts) (sym (out C starts) ∙ e);
}

-- nothing lies below itself
pub no-rival-at-limit : NoRivalAtLimit
no-rival-at-limit C starts i j e r =
    let h = subst (λ (x : Float). T (lt (chi2_limit 4) x)) e r.outside in
    lt-asym (chi2_limit 4) (chi2_limit 4) h h
