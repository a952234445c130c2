-- What each loop over the fits has found, and what one fit more adds. Assumes nothing.
use mathlib.Core.Path.{◌≡◌, refl, sym, ap, ap₂, subst, fun_ext, ◌∙◌}
use mathlib.Core.Logic.{◌⊎◌, inl, inr}
use mathlib.Core.Bool.{Bool, true, false, not, cond, ◌&&◌, ◌||◌}
use mathlib.Core.List.{List, [], ◌∷◌, ◌++◌, map, map-append}
use mathlib.Core.Option as maybe
use mathlib.Core.Option.{none, some}
use Prim.Native.Nat.{ℕ, zero, suc, ◌+◌, ◌-◌, ◌≤◌, ◌<◌, min}
use native.Mathlib.Omega.{arith}
use native.Mathlib.Numerals.{add-one}
use lib.Dec.{T, ltb, eqb, ltb→lt, nltb→le}
use lib.ListN.{length, get_or, set, take, replicate, length-map, length-take, get_or-eq_default, get_or-map}
use lib.Seq.{append_snoc, set-append_seam, take_at, get_or-take}
use lib.Ieee.{Float}
use borrow.Author.Tests.{lt-ltb, eq-eqb, ne_eqb}
use Rattle.std.specs.Prelude.{Option, None, Some, IfSome, MatchOption}
use Rattle.std.proofs.lemmas.Option.{none-some, same_Some}
use Rattle.sets.specs.Sets.{Subset, joined, count}
use Rattle.sets.specs.Mask.{has}
use Rattle.sets.specs.Choice.{consider, choose}
use Rattle.sets.proofs.Tests.{either}
use Rattle.sets.proofs.Digits.{has-zero}
use Rattle.geo.specs.Geo.{from_ecef}
use Rattle.geo.specs.Held.{nowhere}
use Rattle.problem.specs.Problem.{position}
use Rattle.damped.specs.declared.Fit.{Fit}
use Rattle.damped.specs.declared.Placed.{Placed}
use Rattle.damped.specs.Damped.{unfitted}
use Rattle.damped.specs.Held.{placed}
use Rattle.starts.specs.Held.{point}
use Rattle.best.specs.Best.{fit_at, cheaper}
use Rattle.sets.specs.Held.{option_of}
use Rattle.best.specs.Held.{fits_of, placed_at, EachPlaced, points_to}
use Rattle.best.proofs.Cheapest as cheapest
use Rattle.best.proofs.Listing.{points-length}

-- what lies past the last of a list of fits
abbrev pub nothing : Fit
nothing = fit_at [] 0

or-true : (a : Bool) → (a || true) ≡ true
or-true true = refl
or-true false = refl

pub or-false : (a : Bool) → (a || false) ≡ a
or-false true = refl
or-false false = refl

-- one index more: some index below it passes, or it does
pub any-turn : (S : Subset) (i : ℕ) → (ltb 0 (count S i) || S i) ≡ ltb 0 (count S (i + 1))
unfolding count
any-turn S i = go (S i) refl ∙ ap (λ (x : ℕ). ltb 0 (count S x)) (sym (add-one i))
  where
    go : (b : Bool) → S i ≡ b → (ltb 0 (count S i) || S i) ≡ ltb 0 (count S (suc i))
    go true e = rw e (or-true (ltb 0 (count S i)) ∙ sym (lt-ltb 0 (1 + count S i) (omega arith)))
    go false e = let z : count S i ≡ 0 + count S i = omega arith in rw e (or-false (ltb 0 (count S i)) ∙ ap (ltb 0) z)

-- the i-th of the fits alone
pub fit-at : (fits : List Placed) (i : ℕ) → fit_at (fits_of fits) i ≡ (placed_at fits i).fit
fit-at fits i = get_or-map (λ (x : Placed). x.fit) fits i (placed_at [] 0)

-- ---- the fits from the first i starts with their places, and none past them in 18 places
module _ (f : List Float → Placed) (at : List Float) where
  abbrev made : ℕ → List Placed
  made i = map f (points_to at i)

  made-length : (i : ℕ) → length (made i) ≡ i
  made-length i = length-map (points_to at i) f ∙ points-length at i

  abbrev pub fits_to : ℕ → List Placed
  fits_to i = made i ++ replicate (18 - i) (placed unfitted)

  pub fits-turn : (i : ℕ) (fit : Placed) → i < 18 → fit ≡ f (point at i) → set (fits_to i) i fit ≡ fits_to (i + 1)
  unfolding points_to
  fits-turn i fit h g =
      let rest : List Placed = replicate (18 - (i + 1)) (placed unfitted) in
      let room : 18 - i ≡ suc (18 - (i + 1)) = omega arith in
      ap₂ (λ (m j : ℕ). set (made i ++ replicate m (placed unfitted)) j fit) room (sym (made-length i))
      ∙ set-append_seam (made i) (placed unfitted) rest fit ∙ ap (λ (x : Placed). made i ++ x ∷ rest) g
      ∙ sym (append_snoc (made i) (f (point at i)) rest)
      ∙ ap (λ (fs : List Placed). fs ++ rest) (sym (map-append f (points_to at i) (point at i ∷ [])) ∙ ap made (sym (add-one i)))

  alone : (xs : List (List Float)) → fits_of (map f xs) ≡ map (λ (x : List Float). (f x).fit) xs
  alone [] = refl
  alone (x ∷ xs) = ap (λ (fs : List Fit). (f x).fit ∷ fs) (alone xs)

  -- they are the first i of the 18
  front : (i : ℕ) (fits : List Placed) → fits ≡ fits_to i → take i fits ≡ made i
  front i fits e = ap (take i) e ∙ take_at (made i) (replicate (18 - i) (placed unfitted)) i (made-length i)

  -- the fits alone
  pub fits-front : (i : ℕ) (fits : List Placed) → fits ≡ fits_to i → fits_of (take i fits) ≡ map (λ (x : List Float). (f x).fit) (points_to at i)
  fits-front i fits e = ap fits_of (front i fits e) ∙ alone (points_to at i)

  mapped : (xs : List (List Float)) (d : Placed) (j : ℕ) → j < length xs → get_or (map f xs) j d ≡ f (get_or xs j [])
  mapped [] d j h = absurd (omega arith)
  mapped (x ∷ xs) d zero h = refl
  mapped (x ∷ xs) d (suc j) h = mapped xs d j (omega arith)

  -- beside each of them stands its place, if f gives it
  pub fits-placed : (i : ℕ) (fits : List Placed) → fits ≡ fits_to i → ((x : List Float) → f x ≡ placed (f x).fit) → EachPlaced (take i fits)
  fits-placed i fits e own j h =
      let within : j < length (made i) = subst (λ (fs : List Placed). j < length fs) (front i fits e) h in
      let listed : j < length (points_to at i) = subst (λ (m : ℕ). j < m) (length-map (points_to at i) f) within in
      let is : placed_at (take i fits) j ≡ f (get_or (points_to at i) j []) = ap (λ (fs : List Placed). placed_at fs j) (front i fits e)
      ∙ mapped (points_to at i) (placed_at [] 0) j listed in
      is ∙ own (get_or (points_to at i) j []) ∙ ap (λ (x : Placed). placed x.fit) (sym is)

-- the place beside a fit that converged
pub place-at : (x : Placed) → x ≡ placed x.fit → x.fit.ok ≡ true → x.place ≡ from_ecef (position x.fit.params)
place-at x e h = ap (λ (y : Placed). y.place) e ∙ ap (λ (b : Bool). cond b (from_ecef (position x.fit.params)) nowhere) h

-- ---- the mask of those that pass a test
module _ (p : Fit → Bool) (none : p nothing ≡ false) (fits : List Fit) where
  abbrev passing : ℕ → Subset
  passing i j = p (fit_at (take i fits) j)

  before : (i j : ℕ) → j < i → passing i j ≡ p (fit_at fits j)
  before i j h = ap p (get_or-take i fits j nothing h)

  past : (i j : ℕ) → i ≤ j → passing i j ≡ false
  past i j h = ap p (get_or-eq_default (take i fits) nothing (let e = length-take i fits in short e)) ∙ none
    where
      short : length (take i fits) ≡ min i (length fits) → length (take i fits) ≤ j
      short e = omega arith

  pub mask_start : has 0 ≡ passing 0
  mask_start = fun_ext (λ (j : ℕ). has-zero j ∙ sym (past 0 j (omega arith)))

  pub mask-joins : (i : ℕ) → p (fit_at fits i) ≡ true → joined (passing i) i ≡ passing (i + 1)
  unfolding joined
  mask-joins i e = fun_ext (λ (j : ℕ). go j (either (ltb j i)) (either (ltb i j)))
    where
      go : (j : ℕ) → T (ltb j i) ⊎ T (not (ltb j i)) → T (ltb i j) ⊎ T (not (ltb i j)) → (passing i j || eqb j i) ≡ passing (i + 1) j
      go j (inl l) q = let h = ltb→lt j i l in rw (ne_eqb j i (λ d. omega arith), before i j h, before (i + 1) j (omega arith))
          (or-false (p (fit_at fits j)))
      go j (inr g) (inl l) = let h = ltb→lt i j l in rw (ne_eqb j i (λ d. omega arith), past i j (omega arith), past (i + 1) j (omega arith))
      go j (inr g) (inr q) =
          let d : j ≡ i = omega (arith, nltb→le j i g, nltb→le i j q) in
          rw d (rw (eq-eqb i i refl, past i i (omega arith), before (i + 1) i (omega arith), e))

  pub mask-stays : (i : ℕ) → p (fit_at fits i) ≡ false → passing i ≡ passing (i + 1)
  mask-stays i e = fun_ext (λ (j : ℕ). go j (either (ltb j i)) (either (ltb i j)))
    where
      go : (j : ℕ) → T (ltb j i) ⊎ T (not (ltb j i)) → T (ltb i j) ⊎ T (not (ltb i j)) → passing i j ≡ passing (i + 1) j
      go j (inl l) q = let h = ltb→lt j i l in before i j h ∙ sym (before (i + 1) j (omega arith))
      go j (inr g) (inl l) = let h = ltb→lt i j l in past i j (omega arith) ∙ sym (past (i + 1) j (omega arith))
      go j (inr g) (inr q) =
          let d : j ≡ i = omega (arith, nltb→le j i g, nltb→le i j q) in
          rw d (past i i (omega arith) ∙ sym e ∙ sym (before (i + 1) i (omega arith)))

-- ---- the choice, as code holds it
pub chosen-some : (o : maybe.Option ℕ) (w : ℕ) → Some w ≡ option_of o → o ≡ some w
chosen-some none w e = absurd (none-some w (sym e))
chosen-some (some i) w e = ap some (sym (same_Some w i e))

module _ (S : Subset) (fits : List Fit) where
  abbrev pub choice : ℕ → Option ℕ
  choice i = option_of (choose S (cheaper fits) i)

  pub choice_start : None ≡ choice 0
  unfolding choose
  choice_start = refl

  -- of the first i
  pub choice-below : (i w : ℕ) → Some w ≡ choice i → w < i
  choice-below i w e = (cheapest.chosen S (cheaper fits) i w (chosen-some (choose S (cheaper fits) i) w e)).1

  pub all-below : (i n : ℕ) (top : Option ℕ) → i ≤ n → top ≡ choice i → IfSome top (λ (w : ℕ). w < n)
  all-below i n None h e = tt
  all-below i n (Some w) h e = let l : w < i = choice-below i w e in omega arith

  -- one more: r says whether it takes the place of the top
  module _ (i : ℕ) (top : Option ℕ) (e : top ≡ choice i) where
    turn : (r : Bool) → MatchOption top (r ≡ true) (λ (w : ℕ). r ≡ cheaper fits i w) → cond (S i && r) (Some i) top ≡ choice (i + 1)
    unfolding choose consider
    turn r m = go (S i) refl (choose S (cheaper fits) i) refl top e m
      where
        picked : (c : Bool) (k : ℕ) → cond c (Some i) (Some k) ≡ option_of (cond c (some i) (some k))
        picked true k = refl
        picked false k = refl

        go : (t : Bool) → S i ≡ t → (o : maybe.Option ℕ) → choose S (cheaper fits) i ≡ o → (w : Option ℕ) → w ≡ choice i
            → MatchOption w (r ≡ true) (λ (j : ℕ). r ≡ cheaper fits i j) → cond (t && r) (Some i) w ≡ choice (i + 1)
        go false f o q w h n = rw (add-one i, f) h
        go true f none q None h n = rw (add-one i, f, q, n) refl
        go true f none q (Some j) h n = absurd (none-some j (sym (h ∙ ap option_of q)))
        go true f (some b) q None h n = absurd (none-some b (h ∙ ap option_of q))
        go true f (some b) q (Some j) h n =
            let same : j ≡ b = same_Some j b (h ∙ ap option_of q) in
            rw (add-one i, f, q, n, same) (picked (cheaper fits i b) b)

    pub choice-skips : S i ≡ false → top ≡ choice (i + 1)
    unfolding choose consider
    choice-skips f = rw (add-one i, f) e

    module _ (f : S i ≡ true) (r : Bool) (m : MatchOption top (r ≡ true) (λ (w : ℕ). r ≡ cheaper fits i w)) where
      pub choice-takes : r ≡ true → Some i ≡ choice (i + 1)
      choice-takes g = ap₂ (λ (x y : Bool). cond (x && y) (Some i) top) (sym f) (sym g) ∙ turn r m

      pub choice-leaves : r ≡ false → top ≡ choice (i + 1)
      choice-leaves g = ap₂ (λ (x y : Bool). cond (x && y) (Some i) top) (sym f) (sym g) ∙ turn r m
