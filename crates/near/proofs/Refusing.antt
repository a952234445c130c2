-- The ends of the code as ends of the definitions. Assumes nothing.
use Rattle.std.proofs.Common.{◌≡◌, ℕ, ◌*◌, ◌%◌, ◌<◌, ◌≤◌, Bool, true, false, cond, ◌&&◌, eqb, List, length, sym, refl, ap, ◌∙◌, arith, le-ltb, lt-ltb, eq-eqb, ne_eqb, eqb-true}
use mathlib.Core.Bool.{false≢true}
use lib.Ieee.{Float}
use Rattle.sets.specs.Sets.{count, members_to}
use Rattle.near.specs.Near.{records, readable_to, file_refusal, query_refusal, good_point, good_radius}
use Rattle.near.specs.Near.{within, within_answer, places_after, count_after}
use Rattle.near.specs.Near.{nearest, place_of, nearest_answer, place_after}

-- ---- the file

module _ (file : List ℕ) where
  pub torn : (length file % 176 ≡ 0 → ⊥) → 16 ≡ file_refusal file
  unfolding file_refusal
  torn n = rw (ne_eqb (length file % 176) 0 n)

  pub malformed : length file % 176 ≡ 0 → readable_to file (records file) ≡ false → 18 ≡ file_refusal file
  unfolding file_refusal
  malformed e f = rw (eq-eqb (length file % 176) 0 e, f)

  pub sound : length file % 176 ≡ 0 → readable_to file (records file) ≡ true → 0 ≡ file_refusal file
  unfolding file_refusal
  sound e t = rw (eq-eqb (length file % 176) 0 e, t)

  -- the same the other way: a file that is not turned away
  parts : (a b : Bool) → ◌≡◌ {A = ℕ} (cond a (cond b 0 18) 16) 0 → (a ≡ true) × (b ≡ true)
  parts true true e = (refl, refl)
  parts true false e = absurd (omega arith)
  parts false b e = absurd (omega arith)

  pub sound-file : file_refusal file ≡ 0 → (length file ≡ 176 * records file) × (readable_to file (records file) ≡ true)
  unfolding file_refusal
  sound-file e =
      let t = parts (eqb (length file % 176) 0) (readable_to file (records file)) e in
      let w : length file % 176 ≡ 0 = eqb-true _ _ t.0 in
      (omega arith, t.1)

  -- ---- the query

  pub refused-file : (good : Bool) (r : ℕ) → r ≡ file_refusal file → (r ≡ 0 → ⊥) → r ≡ query_refusal file good
  unfolding query_refusal
  refused-file good r e n =
      e ∙ ap (λ (b : Bool). cond b (cond good 0 22) (file_refusal file)) (sym (ne_eqb (file_refusal file) 0 (λ z. n (e ∙ z))))

  pub bad-query : file_refusal file ≡ 0 → 22 ≡ query_refusal file false
  unfolding query_refusal
  bad-query e = ap (λ (b : Bool). cond b 22 (file_refusal file)) (sym (eq-eqb (file_refusal file) 0 e))

  pub asked : file_refusal file ≡ 0 → 0 ≡ query_refusal file true
  unfolding query_refusal
  asked e = ap (λ (b : Bool). cond b 0 (file_refusal file)) (sym (eq-eqb (file_refusal file) 0 e))

  -- a query that is not turned away is good, of a file that is not
  answered : (good : Bool) (f : ℕ) → cond (eqb f 0) (cond good 0 22) f ≡ 0 → (f ≡ 0) × (good ≡ true)
  answered good f e = go (eqb f 0) refl good e
    where
      go : (b : Bool) → eqb f 0 ≡ b → (g : Bool) → cond b (cond g 0 22) f ≡ 0 → (f ≡ 0) × (g ≡ true)
      go true q true z = (eqb-true f 0 q, refl)
      go true q false z = absurd (let n : ◌≡◌ {A = ℕ} 22 0 = z in omega arith)
      go false q g z = absurd (false≢true (sym q ∙ eq-eqb f 0 z))

  pub answered-query : (good : Bool) → query_refusal file good ≡ 0 → (file_refusal file ≡ 0) × (good ≡ true)
  unfolding query_refusal
  answered-query good e = answered good (file_refusal file) e

-- ---- those within a radius

module _ (file : List ℕ) (point : List Float) (radius : Float) (places : List ℕ) where
  abbrev good : Bool
  good = good_point point && good_radius radius

  pub short : length places < records file → 14 ≡ within_answer file point radius places
  unfolding within_answer
  short h = rw (lt-ltb (length places) (records file) h)

  pub roomy : (r : ℕ) → records file ≤ length places → r ≡ query_refusal file good → r ≡ within_answer file point radius places
  unfolding within_answer
  roomy r h e = rw (le-ltb (length places) (records file) h) e

  -- a refusal leaves both as found
  pub left : (r found : ℕ) → r ≡ within_answer file point radius places → (r ≡ 0 → ⊥)
      → (r ≡ within_answer file point radius places)
      × ((places ≡ places_after file point radius places) × (found ≡ count_after file point radius places found))
  unfolding places_after count_after
  left r found e n = let f = ne_eqb (within_answer file point radius places) 0 (λ z. n (e ∙ z)) in (e, (rw f, rw f))

  pub filled : (list : List ℕ) (n found : ℕ) → 0 ≡ within_answer file point radius places
      → n ≡ count (within file point radius) (records file) → list ≡ members_to (within file point radius) places (records file)
      → (0 ≡ within_answer file point radius places)
      × ((list ≡ places_after file point radius places) × (n ≡ count_after file point radius places found))
  unfolding places_after count_after
  filled list n found e a b = let t = eq-eqb (within_answer file point radius places) 0 (sym e) in (e, (rw t b, rw t a))

-- ---- the nearest

module _ (file : List ℕ) (point : List Float) where
  pub unmoved : (r found : ℕ) → r ≡ query_refusal file (good_point point) → (r ≡ 0 → ⊥)
      → (r ≡ nearest_answer file point) × (found ≡ place_after file point found)
  unfolding nearest_answer place_after
  unmoved r found e n = (e, rw (ne_eqb (query_refusal file (good_point point)) 0 (λ z. n (e ∙ z))))

  pub moved : (r found : ℕ) → 0 ≡ query_refusal file (good_point point) → r ≡ place_of (nearest file point)
      → (0 ≡ nearest_answer file point) × (r ≡ place_after file point found)
  unfolding nearest_answer place_after
  moved r found e a = (e, rw (eq-eqb (query_refusal file (good_point point)) 0 (sym e)) a)
