-- The nearest of a file is that of its parts. A part's records are the file's (`in-first`, `in-second`), so that the file's search goes on from
-- the first part as the second's does from none: what is held of the second, joined to the first, takes a further record as the file does
-- (`goes_on`), since `lt` ranks the distances of fixes. Assumes nothing.
use Rattle.std.proofs.Common.{◌≡◌, ℕ, zero, suc, ◌+◌, ◌*◌, ◌%◌, ◌^◌, ◌<◌, ◌≤◌, Bool, true, false, cond, not, ◌&&◌, List, ◌++◌, length, take, drop}
use Rattle.std.proofs.Common.{sym, refl, ap, ◌∙◌, subst, ap₂, inl, inr, add-zero, add-one, arith, length-append, length-drop, eq-eqb}
use mathlib.Core.Bool.{false≢true}
use lib.Seq.{take-append-le, drop-append-le, drop-append-add}
use lib.Ieee.{Float, lt}
use Rattle.sets.specs.Choice.{choose}
use Rattle.sets.proofs.Tests.{T→eq, eq→T}
use Rattle.binary64.proofs.Less.{lt-split, lt_trans}
use Rattle.reader.specs.Read.{place_refusal, record_at}
use Rattle.near.specs.declared.Held.{Held}
use Rattle.near.specs.Near.{records, is_fix, distance, held_of, held_to, step}
use Rattle.near.specs.Meaning.{Sound, GoodPoint}
use Rattle.near.specs.Parts.{nearest_in, joined, NearestOfParts}
use Rattle.near.proofs.Distances.{Num}
use Rattle.near.proofs.Records.{there}
use Rattle.near.proofs.Steps.{next-held}
use Rattle.near.proofs.Ranked.{number}

-- ---- the records of the parts

record_is : (file : List ℕ) (k : ℕ) → place_refusal (length file) k ≡ 0 → record_at file k ≡ take 176 (drop (176 * k) file)
unfolding record_at
record_is file k e = rw (eq-eqb _ 0 e)

module _ (first second : List ℕ) (m n : ℕ) (a : length first ≡ 176 * m) (b : length second ≡ 176 * n) where
  whole : length (first ++ second) ≡ 176 * (m + n)
  whole = let l = length-append first second in omega arith

  in-first : (k : ℕ) → k < m → record_at first k ≡ record_at (first ++ second) k
  in-first k h =
      record_is first k (there (length first) m k a h)
      ∙ sym (record_is (first ++ second) k (there (length (first ++ second)) (m + n) k whole (omega arith))
      ∙ ap (take 176) (drop-append-le (176 * k) first second (omega arith))
      ∙ take-append-le 176 (drop (176 * k) first) second (let l = length-drop (176 * k) first in omega arith))

  in-second : (k : ℕ) → k < n → record_at second k ≡ record_at (first ++ second) (m + k)
  in-second k h =
      let e : 176 * (m + k) ≡ length first + 176 * k = omega arith in
      record_is second k (there (length second) n k b h)
      ∙ sym (record_is (first ++ second) (m + k) (there (length (first ++ second)) (m + n) (m + k) whole (omega arith))
      ∙ ap (take 176) (ap (λ (j : ℕ). drop j (first ++ second)) e ∙ drop-append-add first second (176 * k)))

-- ---- a further record

-- x beats y and y beats z; neither does, and y is a number
both-beat : (x y z : Float) → lt x y ≡ true → lt y z ≡ true → lt x z ≡ true
both-beat x y z h k = T→eq _ (lt_trans x y z (eq→T h) (eq→T k))

neither-beats : (x y z : Float) → Num y → lt x y ≡ false → lt y z ≡ false → lt x z ≡ false
neither-beats x y z u h k = go (lt x z) refl
  where
    go : (t : Bool) → lt x z ≡ t → t ≡ false
    go false e = refl
    go true e = elim (lt-split x y z u (eq→T e)) [ inl w ↦ sym (T→eq _ w) ∙ h | inr w ↦ sym (T→eq _ w) ∙ k ]

-- a fix at place k, d away
abbrev this : ℕ → Float → Held
this k d = record { found = true; place = k; distance = d }

-- a step of a fix, by whether it is closer
by-test : (k : ℕ) (d : Float) (h : Held) (t : Bool) → lt d h.distance ≡ t → step true k d h ≡ cond (h.found && not t) h (this k d)
unfolding step
by-test k d h t e = ap (λ (b : Bool). cond (h.found && not b) h (this k d)) e

none_before : (k : ℕ) (d : Float) (h : Held) → h.found ≡ false → step true k d h ≡ this k d
none_before k d h e = by-test k d h _ refl ∙ ap (λ (b : Bool). cond (b && not (lt d h.distance)) h (this k d)) e

beats : (k : ℕ) (d : Float) (h : Held) → lt d h.distance ≡ true → step true k d h ≡ this k d
beats k d h e = by-test k d h true e ∙ go h.found
  where
    go : (b : Bool) → cond (b && not true) h (this k d) ≡ this k d
    go true = refl
    go false = refl

stays : (k : ℕ) (d : Float) (h : Held) → h.found ≡ true → lt d h.distance ≡ false → step true k d h ≡ h
stays k d h f e = by-test k d h false e ∙ ap (λ (b : Bool). cond (b && not false) h (this k d)) f

-- what is joined and then takes a fix at place m + k, d away, and what takes it and is then joined
module _ (h : Held) (p m k : ℕ) (d e : Float) (w : (m + k) % 2 ^ 64 ≡ m + k) where
  s : Held
  s = record { found = true; place = p; distance = e }

  -- the second's, as it is joined
  s' : Held
  s' = this ((m + p) % 2 ^ 64) e

  Goes : Type 0
  Goes = joined h m (step true k d s) ≡ step true (m + k) d (joined h m s)

  moved : joined h m (this k d) ≡ step true (m + k) d h
  unfolding joined
  moved = ap (λ (j : ℕ). step true j d h) w

  joins : joined h m s ≡ step true ((m + p) % 2 ^ 64) e h
  unfolding joined s
  joins = refl

  -- the new one is closer than the second's
  closer-new : lt d e ≡ true → (lt e h.distance ≡ true → lt d h.distance ≡ true) → Goes
  unfolding Goes s s'
  closer-new x t = ap (joined h m) (beats k d s x) ∙ moved ∙ go h.found refl (lt e h.distance) refl
    where
      go : (f : Bool) → h.found ≡ f → (y : Bool) → lt e h.distance ≡ y → step true (m + k) d h ≡ step true (m + k) d (joined h m s)
      go false f y q =
          none_before (m + k) d h f ∙ sym (ap (step true (m + k) d) (joins ∙ none_before ((m + p) % 2 ^ 64) e h f) ∙ beats (m + k) d s' x)
      go true f true q =
          beats (m + k) d h (t q) ∙ sym (ap (step true (m + k) d) (joins ∙ beats ((m + p) % 2 ^ 64) e h q) ∙ beats (m + k) d s' x)
      go true f false q = sym (ap (step true (m + k) d) (joins ∙ stays ((m + p) % 2 ^ 64) e h f q))

  -- it is not
  not-closer : lt d e ≡ false → (lt e h.distance ≡ false → lt d h.distance ≡ false) → Goes
  unfolding Goes s s'
  not-closer x t = ap (joined h m) (stays k d s refl x) ∙ go h.found refl (lt e h.distance) refl
    where
      go : (f : Bool) → h.found ≡ f → (y : Bool) → lt e h.distance ≡ y → joined h m s ≡ step true (m + k) d (joined h m s)
      go false f y q = let j = joins ∙ none_before ((m + p) % 2 ^ 64) e h f in j ∙ sym (ap (step true (m + k) d) j ∙ stays (m + k) d s' refl x)
      go true f true q = let j = joins ∙ beats ((m + p) % 2 ^ 64) e h q in j ∙ sym (ap (step true (m + k) d) j ∙ stays (m + k) d s' refl x)
      go true f false q = let j = joins ∙ stays ((m + p) % 2 ^ 64) e h f q in j ∙ sym (ap (step true (m + k) d) j ∙ stays (m + k) d h f (t q))

  goes : Num e → Goes
  goes u = go (lt d e) refl
    where
      go : (x : Bool) → lt d e ≡ x → Goes
      go true x = closer-new x (both-beat d e h.distance x)
      go false x = not-closer x (neither-beats d e h.distance u x)

goes_on : (h s : Held) (m k : ℕ) (d : Float) (fix : Bool) → (m + k) % 2 ^ 64 ≡ m + k → (s.found ≡ true → Num s.distance)
    → joined h m (step fix k d s) ≡ step fix (m + k) d (joined h m s)
unfolding joined step Goes s
goes_on h s m k d false w u = refl
goes_on h s m k d true w u = go s.found s.place s.distance u
  where
    go : (f : Bool) (p : ℕ) (e : Float) → (f ≡ true → Num e)
        → let x : Held = record { found = f; place = p; distance = e } in
        joined h m (step true k d x) ≡ step true (m + k) d (joined h m x)
    go false p e v = ap (λ (j : ℕ). step true j d h) w
    go true p e v = goes h p m k d e w (v refl)

-- what a step holds is a number away
held-step : (fix : Bool) (k : ℕ) (d : Float) (s : Held) → (fix ≡ true → Num d) → (s.found ≡ true → Num s.distance)
    → (step fix k d s).found ≡ true → Num (step fix k d s).distance
unfolding step
held-step false k d s v u = u
held-step true k d s v u = go (s.found && not (lt d s.distance))
  where
    go : (b : Bool) → (cond b s (this k d)).found ≡ true → Num (cond b s (this k d)).distance
    go true = u
    go false = λ e. v refl

-- ---- the search of the parts and that of the file

module _ (first second : List ℕ) (m n : ℕ) (a : length first ≡ 176 * m) (b : length second ≡ 176 * n)
    (s : Sound (first ++ second)) (point : List Float) (g : GoodPoint point) (l : m + n < 2 ^ 64) where
  abbrev file : List ℕ
  file = first ++ second

  -- a step, by a record
  abbrev turn : ℕ → List ℕ → Held → Held
  turn k r h = step (is_fix r) k (distance point r) h

  further : (f : List ℕ) (k : ℕ) → turn k (record_at f k) (held_to f point k) ≡ held_to f point (suc k)
  further f k = next-held f point k ∙ ap (held_to f point) (add-one k)

  through-first : (k : ℕ) → k ≤ m → held_to first point k ≡ held_to file point k
  unfolding choose held_of
  through-first zero h = refl
  through-first (suc k) h =
      sym (further first k)
      ∙ ap₂ (λ (r : List ℕ) (x : Held). turn k r x) (in-first first second m n a b k h) (through-first k (omega arith))
      ∙ further file k

  -- a fix of the second part is a number away
  fix-number : (k : ℕ) → k < n → is_fix (record_at second k) ≡ true → Num (distance point (record_at second k))
  fix-number k h =
      subst (λ (r : List ℕ). is_fix r ≡ true → Num (distance point r)) (sym (in-second first second m n a b k h))
      (λ e. number file s point g (m + k) (eq→T e))

  held_number : (k : ℕ) → k ≤ n → (held_to second point k).found ≡ true → Num (held_to second point k).distance
  unfolding choose held_of
  held_number zero h = λ e. absurd (false≢true e)
  held_number (suc k) h =
      subst (λ (x : Held). x.found ≡ true → Num x.distance) (further second k)
      (held-step (is_fix (record_at second k)) k (distance point (record_at second k)) (held_to second point k) (fix-number k h)
      (held_number k (omega arith)))

  through-second : (k : ℕ) → k ≤ n → joined (held_to first point m) m (held_to second point k) ≡ held_to file point (m + k)
  unfolding choose held_of joined step
  through-second zero h = through-first m (omega arith) ∙ ap (held_to file point) (sym (add-zero m))
  through-second (suc k) h =
      let wide : (m + k) % 2 ^ 64 ≡ m + k = omega arith in
      let H = held_to first point m in
      ap (joined H m) (sym (further second k))
      ∙ goes_on H (held_to second point k) m k (distance point (record_at second k)) (is_fix (record_at second k)) wide
      (held_number k (omega arith))
      ∙ ap₂ (λ (r : List ℕ) (x : Held). turn (m + k) r x) (in-second first second m n a b k h) (through-second k (omega arith))
      ∙ further file (m + k)
      ∙ ap (held_to file point) (next m k)
    where
      next : (m k : ℕ) → suc (m + k) ≡ m + suc k
      next m k = omega arith

-- whole records: the nearest of them
nearest-whole : (part : List ℕ) (point : List Float) (n : ℕ) → length part ≡ 176 * n → nearest_in part point ≡ held_to part point n
unfolding nearest_in
nearest-whole part point n e =
    let r : length part % 176 ≡ 0 = omega arith in
    let q : records part ≡ n = omega arith in
    rw (r, q)

pub nearest-of-parts : NearestOfParts
nearest-of-parts first second point s whole g l =
    let m = records first in
    let n = records second in
    let a : length first ≡ 176 * m = whole in
    let t = length-append first second in
    let z = s.whole in
    let b : length second ≡ 176 * n = omega arith in
    ap₂ (λ (x y : Held). joined x m y) (nearest-whole first point m a) (nearest-whole second point n b)
    ∙ through-second first second m n a b s point g (omega arith) n (omega arith)
    ∙ sym (nearest-whole (first ++ second) point (m + n) (omega arith))
