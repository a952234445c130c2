-- The five columns of whitened rows, joined. Assumes nothing.
use mathlib.Core.Path.{◌≡◌, refl, sym, ap, ◌∙◌}
use mathlib.Core.List.{List, []}
use Prim.Native.Nat.{ℕ, ◌+◌, ◌≤◌}
use native.Mathlib.Omega.{arith}
use lib.ListN.{length, set}
use lib.Ieee.{Float, neg, round, of_bits}
use Rattle.binary64.specs.Steps.{#, ◌⊖◌, ◌⊘◌, one, decimal}
use Rattle.dense.specs.Entries.{nth}
use Rattle.dense.specs.Solve.{forward}
use Rattle.geo.specs.Geo.{from_ecef}
use Rattle.geo.specs.declared.Geodetic.{Geodetic}
use Rattle.problem.specs.Problem.{position}
use Rattle.problem.specs.declared.Altitude.{Altitude}
use Rattle.problem.specs.declared.Altitude.TheVariants.{None, Barometric, Gnss}
use Rattle.whitening.specs.Whitened.{Chosen, Rows, rows, no_rows, raw, raw_row, slope_at, fill_to, up_row, push_altitude, whitened_column}
use Rattle.whitening.specs.Whitened.{whitened}
use Rattle.whitening.specs.declared.Equations.{Equations}
use Rattle.whitening.specs.Normal.{normal, evaluated}
use Rattle.whitening.specs.Held.{Slopes, column_over, over, row_place, beside, cost_to}
use Rattle.whitening.proofs.Costs.{cost-is}
use Rattle.whitening.proofs.Over.{Alike, over-alike, cost-alike, normal-alike}

-- the constants have the bits that the code has
baro-bits : decimal 100 0 ≡ # 0x4059000000000000
unfolding round of_bits
baro-bits = refl

gnss-bits : decimal 15 0 ≡ # 0x402E000000000000
unfolding round of_bits
gnss-bits = refl

-- one relation that holds of each of the four arrays of slopes, as a contract says it
abbrev pub Four : (ℕ → List Float → List Float → Type 0) → List Float → List Float → List Float → List Float → List Float → List Float → List Float
    → List Float → Type 0
Four R a₀ b₀ c₀ d₀ a b c d = (R 0 a₀ a) × ((R 1 b₀ b) × ((R 2 c₀ c) × (R 3 d₀ d)))

-- the altitude's residual after k others, by its kind
module _ (altitude : Altitude) (metres : Float) (g : Geodetic) (k : ℕ) (r r₁ : List Float) where
  abbrev Higher : Type 0
  Higher = (r₁ ≡ (push_altitude altitude g (rows k r [] [] [] [])).r) × (k + 1 ≡ (push_altitude altitude g (rows k r [] [] [] [])).count)

  pub barometric : altitude ≡ Barometric metres → r₁ ≡ set r k ((g.height_m ⊖ metres) ⊘ # 0x4059000000000000) → Higher
  barometric e f = (rw (e, baro-bits) f, rw e)

  pub gnss : altitude ≡ Gnss metres → r₁ ≡ set r k ((g.height_m ⊖ metres) ⊘ # 0x402E000000000000) → Higher
  gnss e f = (rw (e, gnss-bits) f, rw e)

-- its slopes after k others
module _ (altitude : Altitude) (metres : Float) (g : Geodetic) (k : ℕ) (row a b c d : List Float) {a₁ b₁ c₁ d₁ : List Float}
    (p : Four (λ j y y₁. y₁ ≡ set y k (nth row j)) a b c d a₁ b₁ c₁ d₁) where
  abbrev Up : Type 0
  Up = (r : List Float) → rows (k + 1) (push_altitude altitude g (rows k r [] [] [] [])).r a₁ b₁ c₁ d₁ ≡ push_altitude altitude g (rows k r a b c d)

  pub barometric-up : altitude ≡ Barometric metres → row ≡ up_row (# 0x4059000000000000) g → Up
  barometric-up e h = λ r. rw (e, p.0, p.1.0, p.1.1.0, p.1.1.1, h, baro-bits)

  pub gnss-up : altitude ≡ Gnss metres → row ≡ up_row (# 0x402E000000000000) g → Up
  gnss-up e h = λ r. rw (e, p.0, p.1.0, p.1.1.0, p.1.1.1, h, gnss-bits)

-- the rows of the receptions
abbrev pub received : Chosen → List Float → Rows
received P p = let column = whitened_column P p in rows P.k (column 0) (column 1) (column 2) (column 3) (column 4)

-- over what five arrays held
abbrev received_over : Chosen → List Float → Rows → Rows
received_over P p held = let column = column_over P p in
    rows P.k (column 0 held.r) (column 1 held.a) (column 2 held.b) (column 3 held.c) (column 4 held.d)

-- residuals that an array held, beside zeros
abbrev pub alone : Chosen → List Float → Rows
alone P r = rows P.k r no_rows no_rows no_rows no_rows

-- neither the residuals nor how many rows there are turn on the slopes
push-r : (altitude : Altitude) (g : Geodetic) (k : ℕ) (r a b c d : List Float) → (push_altitude altitude g (rows k r a b c d)).r
    ≡ (push_altitude altitude g (rows k r [] [] [] [])).r
push-r None g k r a b c d = refl
push-r (Barometric metres) g k r a b c d = refl
push-r (Gnss metres) g k r a b c d = refl

push-count : (altitude : Altitude) (g h : Geodetic) (w v : Rows) → w.count ≡ v.count → (push_altitude altitude g w).count
    ≡ (push_altitude altitude h v).count
push-count None g h w v e = e
push-count (Barometric metres) g h w v e = ap (λ (n : ℕ). n + 1) e
push-count (Gnss metres) g h w v e = ap (λ (n : ℕ). n + 1) e

-- the columns of the slopes before they are whitened
raw-slope : (sites z p : List Float) → (raw sites z p 1 ≡ slope_at sites p 0)
    × ((raw sites z p 2 ≡ slope_at sites p 1) × ((raw sites z p 3 ≡ slope_at sites p 2) × (raw sites z p 4 ≡ (λ i. neg one))))
unfolding raw_row
raw-slope sites z p = (refl, (refl, (refl, refl)))

-- no row looks at the place where there is no altitude
placed : (altitude : Altitude) (p : List Float) (w : Rows) → push_altitude altitude (row_place altitude p) w
    ≡ push_altitude altitude (from_ecef (position p)) w
placed None p w = refl
placed (Barometric metres) p w = refl
placed (Gnss metres) p w = refl

module _ (P : Chosen) (p : List Float) (g : Geodetic) (place : g ≡ row_place P.altitude p) where
  same : (w : Rows) → push_altitude P.altitude g w ≡ push_altitude P.altitude (from_ecef (position p)) w
  same w = ap (λ (at : Geodetic). push_altitude P.altitude at w) place ∙ placed P.altitude p w

  count-is : (r : List Float) → (push_altitude P.altitude g (rows P.k r [] [] [] [])).count ≡ (whitened P p).count
  unfolding whitened
  count-is r = push-count P.altitude g (from_ecef (position p)) (rows P.k r [] [] [] []) (received P p) refl

  -- the residuals over what an array held, joined
  module _ (r₀ : List Float) {r₁ r : List Float} (column : r₁ ≡ column_over P p 0 r₀)
      (e : r ≡ (push_altitude P.altitude g (rows P.k r₁ [] [] [] [])).r) where
    pub residuals-over : r ≡ (over P p (alone P r₀)).r
    residuals-over =
        let w = received_over P p (alone P r₀) in
        e ∙ ap (λ (y : List Float). (push_altitude P.altitude g (rows P.k y [] [] [] [])).r) column
        ∙ sym (push-r P.altitude g P.k w.r w.a w.b w.c w.d) ∙ ap (λ (v : Rows). v.r) (same w)

    module _ (few : P.k ≤ 32) (long : length r₀ ≡ 33) where
      -- those that count are those of the definition
      pub residuals-joined : Alike (whitened P p).count r (whitened P p).r
      residuals-joined = rw residuals-over (over-alike P p few (alone P r₀) long (refl, refl, refl, refl)).1

      -- and what they cost
      pub cost-joined : (s : Float) → s ≡ cost_to r (push_altitude P.altitude g (rows P.k r₁ [] [] [] [])).count → s ≡ (evaluated P p).cost
      unfolding evaluated
      cost-joined s f =
          f ∙ ap (cost_to r) (count-is r₁)
          ∙ cost-alike r (whitened P p).r (whitened P p).count residuals-joined (whitened P p).count (omega arith)
          ∙ sym (cost-is (whitened P p) (whitened P p).count)

  -- the slopes over what arrays held, joined
  pub slopes-joined : (m : ℕ) (a₀ b₀ c₀ d₀ : List Float) {a₁ b₁ c₁ d₁ a₂ b₂ c₂ d₂ a b c d : List Float} →
      (a₁ ≡ fill_to a₀ (slope_at P.sites p 0) P.k)
      × ((b₁ ≡ fill_to b₀ (slope_at P.sites p 1) P.k)
      × ((c₁ ≡ fill_to c₀ (slope_at P.sites p 2) P.k) × (d₁ ≡ fill_to d₀ (λ i. neg one) P.k))) →
      Four (λ j y y₁. y₁ ≡ forward P.whitener P.k y) a₁ b₁ c₁ d₁ a₂ b₂ c₂ d₂ →
      ((r : List Float) → rows m (push_altitude P.altitude g (rows P.k r [] [] [] [])).r a b c d
      ≡ push_altitude P.altitude g (rows P.k r a₂ b₂ c₂ d₂)) →
      (r : List Float) → rows m r a b c d ≡ beside r (over P p (rows P.k no_rows a₀ b₀ c₀ d₀))
  slopes-joined m a₀ b₀ c₀ d₀ {a₂ = a₂} {b₂ = b₂} {c₂ = c₂} {d₂ = d₂} f h u r =
      let raws = raw-slope P.sites P.z p in
      let held = rows P.k no_rows a₀ b₀ c₀ d₀ in
      let all : rows P.k (column_over P p 0 no_rows) a₂ b₂ c₂ d₂ ≡ received_over P p held =
      rw (
        h.0,
        h.1.0,
        h.1.1.0,
        h.1.1.1,
        f.0,
        f.1.0,
        f.1.1.0,
        f.1.1.1,
        raws.0,
        raws.1.0,
        raws.1.1.0,
        raws.1.1.1,
      ) in
      ap (beside r)
      (u (column_over P p 0 no_rows) ∙ ap (λ (w : Rows). push_altitude P.altitude g w) all ∙ same (received_over P p held))

module _ (P : Chosen) (p : List Float) where
  -- all rows, over zeros
  pub whitened-joined : (m : ℕ) {r₀ a₀ b₀ c₀ d₀ r a b c d : List Float} →
      (r₀ ≡ no_rows) × (a₀ ≡ no_rows) × (b₀ ≡ no_rows) × (c₀ ≡ no_rows) × (d₀ ≡ no_rows) → r ≡ (over P p (alone P r₀)).r
      → rows m r a b c d ≡ beside r (over P p (rows P.k no_rows a₀ b₀ c₀ d₀)) → rows m r a b c d ≡ whitened P p
  unfolding whitened
  whitened-joined m {a₀ = a₀} {b₀ = b₀} {c₀ = c₀} {d₀ = d₀} {r = r} z f h =
      let all : over P p (rows P.k no_rows a₀ b₀ c₀ d₀) ≡ whitened P p = rw (z.1, z.2, z.3, z.4) in
      let first : r ≡ (whitened P p).r = f ∙ ap (λ (y : List Float). (over P p (alone P y)).r) z.0 in
      h ∙ ap (beside r) all ∙ ap (λ (y : List Float). beside y (whitened P p)) first

  -- the normal equations, from the slopes that are found and some residuals
  pub slopes-beside : P.k ≤ 32 → (e : Equations) (m : ℕ) (r a₀ b₀ c₀ d₀ : List Float) {a b c d : List Float} → Slopes a₀ b₀ c₀ d₀
      → e ≡ normal (rows m r a b c d) → rows m r a b c d ≡ beside r (over P p (rows P.k no_rows a₀ b₀ c₀ d₀))
      → e ≡ normal (beside r (whitened P p))
  slopes-beside few e m r a₀ b₀ c₀ d₀ room f h =
      let held = rows P.k no_rows a₀ b₀ c₀ d₀ in
      let like = over-alike P p few held refl room in
      f ∙ ap normal h
      ∙ normal-alike (beside r (over P p held)) (beside r (whitened P p)) (like.0, λ j l. refl, like.2, like.3, like.4, like.5)

  -- and from those of all rows
  pub completes : (e : Equations) (r : List Float) → e ≡ normal (beside r (whitened P p)) → Alike (whitened P p).count r (whitened P p).r
      → e ≡ evaluated P p
  unfolding evaluated
  completes e r f h =
      f ∙ normal-alike (beside r (whitened P p)) (whitened P p) (refl, h, λ j l. refl, λ j l. refl, λ j l. refl, λ j l. refl)
