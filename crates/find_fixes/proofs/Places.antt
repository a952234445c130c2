-- What is printed of a place. The nearest of a record by itself is the record, if it is a fix (`alone`), so that the line is by what is held
-- of it (`line-is`); and the records of a block are those of a file that ends with it (`line-behind`). Assumes nothing.
use Rattle.std.proofs.Common.{◌≡◌, ℕ, ◌+◌, ◌*◌, ◌/◌, ◌%◌, ◌^◌, Bool, true, false, cond, ◌&&◌, eqb, ltb, List, [], ◌++◌, length, take, drop, sym, refl, ap, ◌∙◌, ap₂, arith, length-append, take_all, ltb-false, ltb-true, le-ltb, lt-ltb, eq-eqb, eqb-true}
use lib.Seq.{drop-append-add}
use lib.Ieee.{Float, le}
use Rattle.sets.specs.Choice.{choose}
use Rattle.reader.specs.Read.{place_refusal, record_at}
use Rattle.near.specs.declared.Held.{Held}
use Rattle.near.specs.Near.{records, is_fix, distance, is_near, none_held, held_of, held_to, step}
use Rattle.near.specs.Parts.{nearest_in}
use Rattle.near.proofs.Records.{there, sized}
use Rattle.near.proofs.Steps.{next-held}
use Rattle.find_fixes.specs.Lines.{fix_line}
use Rattle.find_fixes.specs.Blocks.{line_at, LineInFile}

-- ---- a record by itself

own : (r : List ℕ) → length r ≡ 176 → record_at r 0 ≡ r
unfolding record_at
own r l = rw (eq-eqb (place_refusal (length r) 0) 0 (there (length r) 1 0 l (omega arith))) (take_all 176 r (omega arith))

nearest-one : (r : List ℕ) (point : List Float) → length r ≡ 176 → nearest_in r point ≡ held_to r point 1
unfolding nearest_in
nearest-one r point l =
    let m : length r % 176 ≡ 0 = omega arith in
    let q : records r ≡ 1 = omega arith in
    rw (m, q)

-- a fix d away is held
abbrev this : Float → Held
this d = record { found = true; place = 0; distance = d }

first : (fix : Bool) (d : Float) → step fix 0 d none_held ≡ cond fix (this d) none_held
unfolding step
first fix d = refl

alone : (r : List ℕ) (point : List Float) → length r ≡ 176 → nearest_in r point ≡ cond (is_fix r) (this (distance point r)) none_held
unfolding choose held_of
alone r point l =
    nearest-one r point l
    ∙ sym (next-held r point 0)
    ∙ ap (λ (x : List ℕ). step (is_fix x) 0 (distance point x) none_held) (own r l)
    ∙ first (is_fix r) (distance point r)

no_record : (file : List ℕ) (k : ℕ) → eqb (place_refusal (length file) k) 0 ≡ false → record_at file k ≡ []
unfolding record_at
no_record file k e = rw e

none-of-none : (point : List Float) → nearest_in [] point ≡ none_held
unfolding nearest_in held_of choose
none-of-none point = refl

-- ---- the line by what is held

abbrev said : ℕ → Float → Held → List ℕ
said name radius h = cond h.found (cond (le h.distance radius) (fix_line name h.distance) []) []

by-fix : (name : ℕ) (radius : Float) (fix : Bool) (d : Float)
    → said name radius (cond fix (this d) none_held) ≡ cond (fix && le d radius) (fix_line name d) []
by-fix name radius true d = refl
by-fix name radius false d = refl

module _ (file : List ℕ) (point : List Float) (radius : Float) (k name : ℕ) where
  by_place : (t : Bool) → eqb (place_refusal (length file) k) 0 ≡ t
      → said name radius (nearest_in (record_at file k) point)
      ≡ cond (t && is_near point radius (record_at file k)) (fix_line name (distance point (record_at file k))) []
  unfolding is_near
  by_place true e =
      ap (said name radius) (alone (record_at file k) point (sized file k (eqb-true (place_refusal (length file) k) 0 e)))
      ∙ by-fix name radius (is_fix (record_at file k)) (distance point (record_at file k))
  by_place false e =
      ap (λ (x : List ℕ). said name radius (nearest_in x point)) (no_record file k e) ∙ ap (said name radius) (none-of-none point)

  line-is : said name radius (nearest_in (record_at file k) point) ≡ line_at file point radius k name
  unfolding line_at
  line-is = by_place (eqb (place_refusal (length file) k) 0) refl

-- ---- a block behind a file of m records

ltb-behind : (m a b : ℕ) → ltb (m + a) (m + b) ≡ ltb a b
ltb-behind m a b = go (ltb a b) refl
  where
    go : (t : Bool) → ltb a b ≡ t → ltb (m + a) (m + b) ≡ t
    go true e = lt-ltb (m + a) (m + b) (let h = ltb-true a b e in omega arith)
    go false e = le-ltb (m + a) (m + b) (let h = ltb-false a b e in omega arith)

place-behind : (m size k : ℕ) → place_refusal (176 * m + size) (m + k) ≡ place_refusal size k
unfolding place_refusal
place-behind m size k =
    let a : (176 * m + size) % 176 ≡ size % 176 = omega arith in
    let b : (176 * m + size) / 176 ≡ m + size / 176 = omega arith in
    rw (a, b, ltb-behind m k (size / 176))

module _ (file block : List ℕ) (m k : ℕ) (a : length file ≡ 176 * m) where
  place_is : place_refusal (length block) k ≡ place_refusal (length (file ++ block)) (m + k)
  place_is =
      sym (ap (λ (s : ℕ). place_refusal s (m + k)) (length-append file block ∙ ap (λ (n : ℕ). n + length block) a)
      ∙ place-behind m (length block) k)

  bytes-are : drop (176 * k) block ≡ drop (176 * (m + k)) (file ++ block)
  bytes-are =
      let e : 176 * (m + k) ≡ length file + 176 * k = omega arith in
      sym (ap (λ (j : ℕ). drop j (file ++ block)) e ∙ drop-append-add file block (176 * k))

  record_is : record_at block k ≡ record_at (file ++ block) (m + k)
  unfolding record_at
  record_is = ap₂ (λ (q : ℕ) (s : List ℕ). cond (eqb q 0) (take 176 s) []) place_is bytes-are

  line-behind : (point : List Float) (radius : Float) (name : ℕ)
      → line_at block point radius k name ≡ line_at (file ++ block) point radius (m + k) name
  unfolding line_at
  line-behind point radius name =
      ap₂ (λ (q : ℕ) (r : List ℕ). cond (eqb q 0 && is_near point radius r) (fix_line name (distance point r)) []) place_is record_is

-- ---- both promises, from the line by what is held of the record by itself

module _ (block : List ℕ) (point : List Float) (radius : Float) (base k : ℕ) (h : Held) (e : h ≡ nearest_in (record_at block k) point)
    (line : List ℕ) where
  abbrev name : ℕ
  name = (base + k) % 2 ^ 64

  abbrev Promised : Type 0
  Promised = (line ≡ line_at block point radius k name) × LineInFile block point radius base k line

  in-file : line ≡ line_at block point radius k name → LineInFile block point radius base k line
  in-file q file whole before l =
      let w : name ≡ base + k = omega arith in
      q
      ∙ ap (line_at block point radius k) w
      ∙ line-behind file block base k (whole ∙ ap (λ (n : ℕ). 176 * n) before) point radius (base + k)

  by-held : line ≡ said name radius h → Promised
  by-held l = let q = l ∙ ap (said name radius) e ∙ line-is block point radius k name in (q, in-file q)

  -- the code's ends
  pub no-fix : line ≡ [] → h.found ≡ false → Promised
  no-fix l f = by-held (l ∙ sym (ap (λ (b : Bool). cond b (cond (le h.distance radius) (fix_line name h.distance) []) []) f))

  pub near : (n : ℕ) → line ≡ fix_line n h.distance → n ≡ name → h.found ≡ true → le h.distance radius ≡ true → Promised
  near n l w f t =
      by-held
      (l
      ∙ ap (λ (n : ℕ). fix_line n h.distance) w
      ∙ sym (ap₂ (λ (b c : Bool). cond b (cond c (fix_line name h.distance) []) []) f t))

  pub far : line ≡ [] → h.found ≡ true → le h.distance radius ≡ false → Promised
  far l f t = by-held (l ∙ sym (ap₂ (λ (b c : Bool). cond b (cond c (fix_line name h.distance) []) []) f t))
