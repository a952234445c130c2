-- The nearest fix, place by place: a step of the code is one of the choice. Assumes nothing.
use Rattle.std.proofs.Common.{◌≡◌, ℕ, ◌+◌, Bool, true, false, cond, not, List, sym, refl, ap, ◌∙◌, add-one}
use mathlib.Core.Option.{Option, none, some}
use lib.Ieee.{Float, lt}
use Rattle.sets.specs.Choice.{consider, choose}
use Rattle.near.specs.declared.Held.{Held}
use Rattle.near.specs.Near.{fixes, distance_at, nearest_to, place_of, held_of, held_to, step}

-- a fix at place k, d away, is the nearest
abbrev this : ℕ → Float → Held
this k d = record { found = true; place = k; distance = d }

module _ (distances : ℕ → Float) where
  turned : (b : Bool) (k j : ℕ)
      → cond (not b) (held_of distances (some j)) (held_of distances (some k)) ≡ held_of distances (cond b (some k) (some j))
  turned true k j = refl
  turned false k j = refl

  stepped : (fix : Bool) (k : ℕ) (o : Option ℕ)
      → step fix k (distances k) (held_of distances o) ≡ held_of distances (consider (λ i j. lt (distances i) (distances j)) fix k o)
  unfolding step held_of consider
  stepped false k o = refl
  stepped true k none = refl
  stepped true k (some j) = turned (lt (distances k) (distances j)) k j

-- ---- the code's ends: a fix at place k, d away

module _ (fix : Bool) (k : ℕ) (d e : Float) (held : Held) (is : fix ≡ true) (far : d ≡ e) where
  pub first : held.found ≡ false → this k d ≡ step fix k e held
  unfolding step
  first f = rw (is, f, far)

  pub closer-one : held.found ≡ true → lt d held.distance ≡ true → this k d ≡ step fix k e held
  unfolding step
  closer-one f l = rw (is, f, ← far, l)

  pub kept : held.found ≡ true → lt d held.distance ≡ false → held ≡ step fix k e held
  unfolding step
  kept f l = rw (is, f, ← far, l)

-- ---- the choice

module _ (file : List ℕ) (point : List Float) where
  pub next-held : (k : ℕ) → step (fixes file k) k (distance_at file point k) (held_to file point k) ≡ held_to file point (k + 1)
  unfolding choose
  next-held k =
      stepped (distance_at file point) (fixes file k) k (nearest_to file point k)
      ∙ ap (held_to file point) (sym (add-one k))

-- the place that is held is the choice's
pub held_place : (distances : ℕ → Float) (o : Option ℕ) → (held_of distances o).place ≡ place_of o
unfolding held_of place_of
held_place distances none = refl
held_place distances (some k) = refl
