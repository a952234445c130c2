-- What an array held before it is written over does not show in the rows that count. Assumes nothing.
use mathlib.Core.Path.{◌≡◌, refl, sym, ap, ap₂, ◌∙◌}
use mathlib.Core.Logic.{inl, inr}
use mathlib.Core.List.{List, []}
use Prim.Native.Nat.{ℕ, zero, suc, ◌+◌, ◌≤◌, ◌<◌}
use native.Mathlib.Nat.{eq-or-lt_of_le}
use native.Mathlib.Omega.{arith}
use lib.ListN.{length, set, length-set}
use lib.Seq.{get_or-set_same, get_or-set_other}
use lib.Ieee.{Float, nan}
use Rattle.binary64.specs.Steps.{◌⊕◌, ◌⊖◌, ◌⊗◌, ◌⊘◌}
use Rattle.dense.specs.Entries.{nth, at, minus_dots}
use Rattle.dense.specs.Solve.{forward_to}
use Rattle.geo.specs.Geo.{from_ecef}
use Rattle.geo.specs.declared.Geodetic.{Geodetic}
use Rattle.problem.specs.Problem.{position}
use Rattle.problem.specs.declared.Altitude.{Altitude}
use Rattle.problem.specs.declared.Altitude.TheVariants.{None, Barometric, Gnss}
use Rattle.whitening.specs.Whitened.{Chosen, Rows, rows, no_rows, raw, fill_to, push_altitude, whitened_column, whitened}
use Rattle.whitening.specs.Normal.{normal_to, normal}
use Rattle.whitening.specs.Held.{Slopes, column_over, over, beside, cost_to}
use Rattle.whitening.proofs.Costs.{forward-length, fill-length, fill-at, room-left}

-- two arrays hold the same below n
abbrev pub Alike : ℕ → List Float → List Float → Type 0
Alike n x y = (j : ℕ) → j < n → nth x j ≡ nth y j

-- one entry more is stored in both
more
    : (n i : ℕ) (x y : List Float) (v w : Float) → n ≤ i + 1 → i < length x → i < length y → v ≡ w → Alike i x y → Alike n (set x i v) (set y i w)
more n i x y v w s lx ly e h j l =
    let m : j ≤ i = omega arith in
    elim (eq-or-lt_of_le m) [
      | inl same ↦ rw same (get_or-set_same x i v nan lx ∙ e ∙ sym (get_or-set_same y i w nan ly))
      | inr g ↦ get_or-set_other x i j v nan (λ same. omega arith) ∙ h j g ∙ sym (get_or-set_other y i j w nan (λ same. omega arith))
    ]

minus-alike : (a f g : ℕ → Float) (i : ℕ) (v : Float) → ((j : ℕ) → j < i → f j ≡ g j) → minus_dots a f i v ≡ minus_dots a g i v
unfolding minus_dots
minus-alike a f g zero v h = refl
minus-alike a f g (suc i) v h =
    ap₂ (λ (s x : Float). s ⊖ a i ⊗ x) (minus-alike a f g i v (λ j l. h j (omega arith))) (h i (omega arith))

-- rows that are solved of right sides that are alike
solved-alike
    : (l : List Float) (n : ℕ) (b c : List Float) → n ≤ length b → n ≤ length c → Alike n b c → (i : ℕ) → i ≤ n
    → Alike i (forward_to l n b i) (forward_to l n c i)
unfolding forward_to
solved-alike l n b c lb lc h zero s = λ j g. absurd (omega arith)
solved-alike l n b c lb lc h (suc i) s =
    let y = forward_to l n b i in
    let z = forward_to l n c i in
    let before : Alike i y z = solved-alike l n b c lb lc h i (omega arith) in
    let dots : minus_dots (at l n i) (nth y) i (nth b i) ≡ minus_dots (at l n i) (nth z) i (nth c i) =
    minus-alike (at l n i) (nth y) (nth z) i (nth b i) before ∙ ap (minus_dots (at l n i) (nth z) i) (h i (omega arith)) in
    more (suc i) i y z _ _ (omega arith) (omega (arith, forward-length l n b i)) (omega (arith, forward-length l n c i))
    (ap (λ (v : Float). v ⊘ at l n i i) dots) before

-- ---- a column over what an array held, beside that over zeros
module _ (P : Chosen) (p : List Float) (few : P.k ≤ 32) (j : ℕ) (held : List Float) (long : length held ≡ 33) where
  pub column-alike : Alike P.k (column_over P p j held) (whitened_column P p j)
  column-alike =
      let f = raw P.sites P.z p j in
      let k = P.k in
      let zeros : length no_rows ≡ 33 = refl in
      let x = fill_to held f k in
      let y = fill_to no_rows f k in
      let filled : Alike k x y = λ i l. fill-at f held k i (omega arith) l ∙ sym (fill-at f no_rows k i (omega arith) l) in
      solved-alike P.whitener k x y (omega (arith, fill-length f held k)) (omega (arith, fill-length f no_rows k)) filled k (omega arith)

  pub column-room : length (column_over P p j held) ≡ 33
  column-room = room-left P.whitener (raw P.sites P.z p j) held P.k P.k ∙ long

  -- and with the altitude's row
  pub pushed-alike : (v : Float) → Alike (P.k + 1) (set (column_over P p j held) P.k v) (set (whitened_column P p j) P.k v)
  pushed-alike v =
      let zeros : length (whitened_column P p j) ≡ 33 = room-left P.whitener (raw P.sites P.z p j) no_rows P.k P.k in
      more (P.k + 1) P.k (column_over P p j held) (whitened_column P p j) v v (omega arith) (omega (arith, column-room)) (omega arith) refl
      column-alike

-- ---- rows whose columns are alike
abbrev pub AlikeRows : Rows → Rows → Type 0
AlikeRows w v = let n = v.count in
    (w.count ≡ n)
    × Alike n w.r v.r
    × Alike n w.a v.a
    × Alike n w.b v.b
    × Alike n w.c v.c
    × Alike n w.d v.d

-- the rows over what arrays with room held are those over zeros
pub over-alike : (P : Chosen) (p : List Float) → P.k ≤ 32 → (w : Rows) → length w.r ≡ 33 → Slopes w.a w.b w.c w.d
    → AlikeRows (over P p w) (whitened P p)
unfolding whitened
over-alike P p few w l h = go P.altitude
  where
    g : Geodetic
    g = from_ecef (position p)

    at-column : (j : ℕ) (y : List Float) → length y ≡ 33 → Alike P.k (column_over P p j y) (whitened_column P p j)
    at-column j y e = column-alike P p few j y e

    pushed : (j : ℕ) (y : List Float) → length y ≡ 33 → (v : Float)
        → Alike (P.k + 1) (set (column_over P p j y) P.k v) (set (whitened_column P p j) P.k v)
    pushed j y e = pushed-alike P p few j y e

    go : (altitude : Altitude) → AlikeRows
        (push_altitude altitude g
        (rows P.k (column_over P p 0 w.r) (column_over P p 1 w.a) (column_over P p 2 w.b) (column_over P p 3 w.c)
        (column_over P p 4 w.d)))
        (push_altitude altitude g
        (rows P.k (whitened_column P p 0) (whitened_column P p 1) (whitened_column P p 2) (whitened_column P p 3) (whitened_column P p 4)))
    go None = (
      refl,
      at-column 0 w.r l,
      at-column 1 w.a h.0,
      at-column 2 w.b h.1,
      at-column 3 w.c h.2,
      at-column 4 w.d h.3,
    )
    go (Barometric metres) = (
      refl,
      pushed 0 w.r l _,
      pushed 1 w.a h.0 _,
      pushed 2 w.b h.1 _,
      pushed 3 w.c h.2 _,
      pushed 4 w.d h.3 _,
    )
    go (Gnss metres) = (
      refl,
      pushed 0 w.r l _,
      pushed 1 w.a h.0 _,
      pushed 2 w.b h.1 _,
      pushed 3 w.c h.2 _,
      pushed 4 w.d h.3 _,
    )

-- the cost and the normal equations see only rows that count
pub cost-alike : (r s : List Float) (n : ℕ) → Alike n r s → (i : ℕ) → i ≤ n → cost_to r i ≡ cost_to s i
unfolding cost_to
cost-alike r s n h zero l = refl
cost-alike r s n h (suc i) l = ap₂ (λ (t x : Float). t ⊕ x ⊗ x) (cost-alike r s n h i (omega arith)) (h i (omega arith))

normal-to : (w v : Rows) → AlikeRows w v → (i : ℕ) → i ≤ v.count → normal_to w i ≡ normal_to v i
unfolding normal_to
normal-to w v h zero l = refl
normal-to w v h (suc i) l =
    rw (
      normal-to w v h i (omega arith),
      h.1 i (omega arith),
      h.2 i (omega arith),
      h.3 i (omega arith),
      h.4 i (omega arith),
      h.5 i (omega arith),
    )

pub normal-alike : (w v : Rows) → AlikeRows w v → normal w ≡ normal v
normal-alike w v h = ap (normal_to w) h.0 ∙ normal-to w v h v.count (omega arith)

-- ---- an array that is written over keeps its room
push-room : (altitude : Altitude) (g : Geodetic) (w : Rows) (n : ℕ) → length w.r ≡ n → length (push_altitude altitude g w).r ≡ n
push-room None g w n e = e
push-room (Barometric metres) g w n e = length-set w.r w.count _ ∙ e
push-room (Gnss metres) g w n e = length-set w.r w.count _ ∙ e

pub height-room : (altitude : Altitude) (g : Geodetic) (k : ℕ) (r r₁ : List Float) → length r ≡ 33
    → r₁ ≡ (push_altitude altitude g (rows k r [] [] [] [])).r → length r₁ ≡ 33
height-room altitude g k r r₁ l e = ap length e ∙ push-room altitude g (rows k r [] [] [] []) 33 l

up_room : (altitude : Altitude) (g : Geodetic) (w : Rows) → Slopes w.a w.b w.c w.d
    → let v = push_altitude altitude g w in Slopes v.a v.b v.c v.d
up_room None g w h = h
up_room (Barometric metres) g w h = (
  length-set w.a w.count _ ∙ h.0,
  length-set w.b w.count _ ∙ h.1,
  length-set w.c w.count _ ∙ h.2,
  length-set w.d w.count _ ∙ h.3,
)
up_room (Gnss metres) g w h = (
  length-set w.a w.count _ ∙ h.0,
  length-set w.b w.count _ ∙ h.1,
  length-set w.c w.count _ ∙ h.2,
  length-set w.d w.count _ ∙ h.3,
)

pub slopes-room : (P : Chosen) (p : List Float) (w : Rows) → P.k ≤ 32 → Slopes w.a w.b w.c w.d
    → {m : ℕ} {r a b c d : List Float} → rows m r a b c d ≡ beside r (over P p w) → Slopes a b c d
slopes-room P p w few h e =
    let room : (j : ℕ) (y : List Float) → length y ≡ 33 → length (column_over P p j y) ≡ 33 = λ j y l. column-room P p few j y l in
    let all = up_room P.altitude (from_ecef (position p))
    (rows P.k (column_over P p 0 w.r) (column_over P p 1 w.a) (column_over P p 2 w.b) (column_over P p 3 w.c) (column_over P p 4 w.d))
    (room 1 w.a h.0, room 2 w.b h.1, room 3 w.c h.2, room 4 w.d h.3) in (
      ap (λ (v : Rows). length v.a) e ∙ all.0,
      ap (λ (v : Rows). length v.b) e ∙ all.1,
      ap (λ (v : Rows). length v.c) e ∙ all.2,
      ap (λ (v : Rows). length v.d) e ∙ all.3,
    )
