-- What the list and the nearest come to: each statement of specs/Meaning.antt but those on distances. Assumes nothing.
use Rattle.std.proofs.Common.{◌≡◌, ℕ, zero, suc, ◌%◌, ◌<◌, ◌≤◌, Bool, true, false, cond, not, ◌&&◌, T, eqb, ltb, ◌↔◌, List, length, sym, refl, ap, ◌∙◌, arith, nltb→le, ltb-false, ltb-true, eq-eqb, ne_eqb, eqb-true}
use mathlib.Core.Bool.{false≢true}
use lib.Ieee.{Float, lt, le}
use Rattle.binary64.specs.Steps.{nought, abs, is_finite}
use Rattle.dense.specs.Entries.{nth}
use Rattle.sets.specs.Sets.{count, members_to}
use Rattle.sets.proofs.Tests.{T→eq, eq→T, eq→F, and_l, and_r, and_both}
use Rattle.sets.proofs.Listed.{lists, placed, members-length}
use Rattle.reader.specs.Rules.{answer_at}
use Rattle.reader.specs.Read.{record_at}
use Rattle.reader.proofs.Tests.{both_true, both_hold}
use Rattle.near.specs.Near.{records, readable_to, is_fix, distance, farthest, good_size, good_point, good_radius}
use Rattle.near.specs.Near.{file_refusal, query_refusal, is_near, within, within_answer, places_after, count_after, nearest_answer}
use Rattle.near.specs.Meaning.{Within, Whole, Readable, Malformed, Sound, GoodSize, GoodPoint, GoodQuery, WithinAnswers}
use Rattle.near.specs.Meaning.{NearestAnswers, LentAsFound, Lists, ListIsExact}
use Rattle.reader.proofs.Clause.{Clause}
use Rattle.near.proofs.Records.{each, all, one-is-not, some-is-not}
use Rattle.near.proofs.Refusing.{torn, malformed, sound, sound-file, bad-query, asked, refused-file, short, roomy, left, unmoved}
use Rattle.near.proofs.Listing as listing

-- ---- tests and what they say

either_way : (b : Bool) → (b ≡ true → ⊥) → b ≡ false
either_way true n = absurd (n refl)
either_way false n = refl

size_of : (x : Float) → good_size x ≡ true → GoodSize x
unfolding good_size farthest
size_of x g = let t = both_true (is_finite x) (le (abs x) farthest) g in record { finite = t.0; size = eq→T t.1 }

size-to : (x : Float) → GoodSize x → good_size x ≡ true
unfolding good_size farthest
size-to x g = both_hold (is_finite x) (le (abs x) farthest) g.finite (T→eq _ g.size)

pub below-3 : (P : ℕ → Type 0) → P 0 → P 1 → P 2 → (i : ℕ) → i < 3 → P i
below-3 P a b c zero h = a
below-3 P a b c (suc zero) h = b
below-3 P a b c (suc (suc zero)) h = c
below-3 P a b c (suc (suc (suc i))) h = absurd (omega arith)

pub point-of : (point : List Float) → good_point point ≡ true → GoodPoint point
unfolding good_point
point-of point g i h =
    let t = both_true (good_size (nth point 0)) (good_size (nth point 1) && good_size (nth point 2)) g in
    let u = both_true (good_size (nth point 1)) (good_size (nth point 2)) t.1 in
    size_of (nth point i) (below-3 (λ i. good_size (nth point i) ≡ true) t.0 u.0 u.1 i h)

point-to : (point : List Float) → GoodPoint point → good_point point ≡ true
unfolding good_point
point-to point g =
    both_hold (good_size (nth point 0)) (good_size (nth point 1) && good_size (nth point 2)) (size-to _ (g 0 (omega arith)))
    (both_hold (good_size (nth point 1)) (good_size (nth point 2)) (size-to _ (g 1 (omega arith))) (size-to _ (g 2 (omega arith))))

query-of : (point : List Float) (radius : Float) → (good_point point && good_radius radius) ≡ true → GoodQuery point radius
unfolding good_radius
query-of point radius g =
    let t = both_true (good_point point) (good_radius radius) g in
    let u = both_true (good_size radius) (not (lt radius nought)) t.1 in
    record { place = point-of point t.0; reach = size_of radius u.0; positive = eq→T u.1 }

query-to : (point : List Float) (radius : Float) → GoodQuery point radius → (good_point point && good_radius radius) ≡ true
unfolding good_radius
query-to point radius g =
    both_hold (good_point point) (good_radius radius) (point-to point g.place)
    (both_hold (good_size radius) (not (lt radius nought)) (size-to radius g.reach) (T→eq _ g.positive))

-- ---- the file

module _ (file : List ℕ) where
  torn-file : (Whole file → ⊥) → file_refusal file ≡ 16
  torn-file n = sym (torn file (λ e. n (omega arith)))

  malformed-file : Whole file → (k : ℕ) → k < records file → (Readable file k → ⊥) → file_refusal file ≡ 18
  malformed-file w k h n = sym (malformed file (omega arith) (one-is-not file (records file) k h (ne_eqb _ 0 n)))

  pub sound-of : file_refusal file ≡ 0 → Sound file
  sound-of e =
      let t = sound-file file e in
      record { whole = t.0; read = λ k h. eqb-true _ 0 (each file (records file) t.1 k h) }

  sound-to : Sound file → file_refusal file ≡ 0
  sound-to s = sym (sound file (let w = s.whole in omega arith) (all file (records file) (λ k h. eq-eqb _ 0 (s.read k h))))

  -- the refusal of a query, by the file's and the query's
  bad-file : (good : Bool) (n : ℕ) → file_refusal file ≡ n → (n ≡ 0 → ⊥) → query_refusal file good ≡ n
  bad-file good n e z = sym (refused-file file good n (sym e) z)

  bad-asked : (good : Bool) → Sound file → (good ≡ true → ⊥) → query_refusal file good ≡ 22
  bad-asked good s n = ap (query_refusal file) (either_way good n) ∙ sym (bad-query file (sound-to s))

  good-asked : (good : Bool) → Sound file → good ≡ true → query_refusal file good ≡ 0
  good-asked good s g = ap (query_refusal file) g ∙ sym (asked file (sound-to s))

-- what a file is, and so what each number is given for
data FileCase (file : List ℕ) : Type 0 where
  torn-case : (Whole file → ⊥) → FileCase file
  malformed-case : Malformed file → FileCase file
  sound-case : Sound file → FileCase file

file-case : (file : List ℕ) → FileCase file
file-case file = go (eqb (length file % 176) 0) refl (readable_to file (records file)) refl
  where
    go : (a : Bool) → eqb (length file % 176) 0 ≡ a → (b : Bool) → readable_to file (records file) ≡ b → FileCase file
    go false p b q =
        torn-case (λ w. false≢true (sym p ∙ eq-eqb (length file % 176) 0 (omega arith)))
    go true p true q = let e : length file % 176 ≡ 0 = eqb-true _ 0 p in sound-case (sound-of file (sym (sound file e q)))
    go true p false q =
        let e : length file % 176 ≡ 0 = eqb-true _ 0 p in
        let t = some-is-not file (records file) q in
        malformed-case (record {
          whole = omega arith;
          place = t.0;
          below = t.1;
          unread = λ r. false≢true (sym t.2 ∙ eq-eqb _ 0 r);
        })

-- ---- the query of a file, which is good or not

data Asked (file : List ℕ) (Good : Type 0) : Type 0 where
  of-torn : (Whole file → ⊥) → Asked file Good
  of-malformed : Malformed file → Asked file Good
  badly : Sound file → (Good → ⊥) → Asked file Good
  well : Sound file → Good → Asked file Good

module _ (file : List ℕ) (good : Bool) (Good : Type 0) (of : good ≡ true → Good) (to : Good → good ≡ true) where
  abbrev numbered : Asked file Good → ℕ
  numbered (of-torn n) = 16
  numbered (of-malformed m) = 18
  numbered (badly s n) = 22
  numbered (well s g) = 0

  asked-case : Asked file Good
  asked-case = go good refl (file-case file)
    where
      go : (b : Bool) → good ≡ b → FileCase file → Asked file Good
      go b q (torn-case n) = of-torn n
      go b q (malformed-case m) = of-malformed m
      go true q (sound-case s) = well s (of q)
      go false q (sound-case s) = badly s (λ g. false≢true (sym q ∙ to g))

  is-numbered : (c : Asked file Good) → query_refusal file good ≡ numbered c
  is-numbered (of-torn n) = bad-file file good 16 (torn-file file n) (λ z. omega arith)
  is-numbered (of-malformed m) =
      bad-file file good 18 (malformed-file file m.whole m.place m.below m.unread) (λ z. omega arith)
  is-numbered (badly s n) = bad-asked file good s (λ g. n (of g))
  is-numbered (well s g) = good-asked file good s (to g)

  torn-so : (c : Asked file Good) → numbered c ≡ 16 → Whole file → ⊥
  torn-so (of-torn n) e = n
  torn-so (of-malformed m) e = absurd (let z : ◌≡◌ {A = ℕ} 18 16 = e in omega arith)
  torn-so (badly s n) e = absurd (let z : ◌≡◌ {A = ℕ} 22 16 = e in omega arith)
  torn-so (well s g) e = absurd (let z : ◌≡◌ {A = ℕ} 0 16 = e in omega arith)

  malformed-so : (c : Asked file Good) → numbered c ≡ 18 → Malformed file
  malformed-so (of-torn n) e = absurd (let z : ◌≡◌ {A = ℕ} 16 18 = e in omega arith)
  malformed-so (of-malformed m) e = m
  malformed-so (badly s n) e = absurd (let z : ◌≡◌ {A = ℕ} 22 18 = e in omega arith)
  malformed-so (well s g) e = absurd (let z : ◌≡◌ {A = ℕ} 0 18 = e in omega arith)

  bad-so : (c : Asked file Good) → numbered c ≡ 22 → Sound file × (Good → ⊥)
  bad-so (of-torn n) e = absurd (let z : ◌≡◌ {A = ℕ} 16 22 = e in omega arith)
  bad-so (of-malformed m) e = absurd (let z : ◌≡◌ {A = ℕ} 18 22 = e in omega arith)
  bad-so (badly s n) e = (s, n)
  bad-so (well s g) e = absurd (let z : ◌≡◌ {A = ℕ} 0 22 = e in omega arith)

  good-so : (c : Asked file Good) → numbered c ≡ 0 → Sound file × Good
  good-so (of-torn n) e = absurd (let z : ◌≡◌ {A = ℕ} 16 0 = e in omega arith)
  good-so (of-malformed m) e = absurd (let z : ◌≡◌ {A = ℕ} 18 0 = e in omega arith)
  good-so (badly s n) e = absurd (let z : ◌≡◌ {A = ℕ} 22 0 = e in omega arith)
  good-so (well s g) e = (s, g)

  -- no query is answered by 14
  never-short : (c : Asked file Good) → numbered c ≡ 14 → ⊥
  never-short (of-torn n) e = let z : ◌≡◌ {A = ℕ} 16 14 = e in omega arith
  never-short (of-malformed m) e = let z : ◌≡◌ {A = ℕ} 18 14 = e in omega arith
  never-short (badly s n) e = let z : ◌≡◌ {A = ℕ} 22 14 = e in omega arith
  never-short (well s g) e = let z : ◌≡◌ {A = ℕ} 0 14 = e in omega arith

  -- each number is given exactly for its case
  so : (n : ℕ) {A : Type 0} → ((c : Asked file Good) → numbered c ≡ n → A) → query_refusal file good ≡ n → A
  so n of-case e = of-case asked-case (sym (is-numbered asked-case) ∙ e)

  torn-exactly : (query_refusal file good ≡ 16) ↔ (Whole file → ⊥)
  torn-exactly = (so 16 torn-so, λ n. is-numbered (of-torn n))

  malformed-exactly : (query_refusal file good ≡ 18) ↔ Malformed file
  malformed-exactly = (so 18 malformed-so, λ m. is-numbered (of-malformed m))

  bad-exactly : (query_refusal file good ≡ 22) ↔ (Sound file × (Good → ⊥))
  bad-exactly = (so 22 bad-so, λ h. is-numbered (badly h.0 h.1))

  answered-exactly : (query_refusal file good ≡ 0) ↔ (Sound file × Good)
  answered-exactly = (so 0 good-so, λ h. is-numbered (well h.0 h.1))

  not_short : query_refusal file good ≡ 14 → ⊥
  not_short = so 14 never-short

-- ---- what is turned away

module _ (file : List ℕ) (point : List Float) (radius : Float) (places : List ℕ) where
  abbrev good : Bool
  good = good_point point && good_radius radius

  -- a buffer is short, or there is room for all
  short-so : within_answer file point radius places ≡ 14 → length places < records file
  unfolding within_answer
  short-so = go (ltb (length places) (records file)) refl
    where
      go : (b : Bool) → ltb (length places) (records file) ≡ b → cond b 14 (query_refusal file good) ≡ 14
          → length places < records file
      go true p e = ltb-true _ _ p
      go false p e = absurd (not_short file good (GoodQuery point radius) (query-of point radius) (query-to point radius) e)

  roomy-so : (n : ℕ) → (n ≡ 14 → ⊥) → within_answer file point radius places ≡ n
      → (records file ≤ length places) × (query_refusal file good ≡ n)
  unfolding within_answer
  roomy-so n z = go (ltb (length places) (records file)) refl
    where
      go : (b : Bool) → ltb (length places) (records file) ≡ b → cond b 14 (query_refusal file good) ≡ n
          → (records file ≤ length places) × (query_refusal file good ≡ n)
      go true p e = absurd (z (sym e))
      go false p e = (ltb-false _ _ p, e)

  -- with room for all, what the query is answered
  with-room : (n : ℕ) {A : Type 0} → (n ≡ 14 → ⊥) → (query_refusal file good ≡ n) ↔ A
      → (within_answer file point radius places ≡ n) ↔ ((records file ≤ length places) × A)
  with-room n z exactly = (
    (λ e. let t = roomy-so n z e in (t.0, exactly.0 t.1)),
    λ h. sym (roomy file point radius places n h.0 (sym (exactly.1 h.1))),
  )

pub within-answers : WithinAnswers
within-answers file point radius places = record {
  short = (short-so file point radius places, λ h. sym (short file point radius places h));
  torn = with-room file point radius places 16 (λ z. omega arith) (torn-exactly file _ _ of to);
  malformed = with-room file point radius places 18 (λ z. omega arith) (malformed-exactly file _ _ of to);
  bad = with-room file point radius places 22 (λ z. omega arith) (bad-exactly file _ _ of to);
  answered = with-room file point radius places 0 (λ z. omega arith) (answered-exactly file _ _ of to);
}
  where
    of : (good_point point && good_radius radius) ≡ true → GoodQuery point radius
    of = query-of point radius

    to : GoodQuery point radius → (good_point point && good_radius radius) ≡ true
    to = query-to point radius

pub nearest-answers : NearestAnswers
unfolding nearest_answer
nearest-answers file point = record {
  torn = torn-exactly file _ _ of to;
  malformed = malformed-exactly file _ _ of to;
  bad = bad-exactly file _ _ of to;
  answered = answered-exactly file _ _ of to;
}
  where
    of : good_point point ≡ true → GoodPoint point
    of = point-of point

    to : GoodPoint point → good_point point ≡ true
    to = point-to point

pub lent-as-found : LentAsFound
unfolding nearest_answer
lent-as-found file point radius places found = (
  λ n. let t = left file point radius places _ found refl n in (sym t.1.0, sym t.1.1),
  λ n. sym (unmoved file point _ found refl n).1,
)

-- ---- the list

near_of : (file : List ℕ) (point : List Float) (radius : Float) (k : ℕ)
    → k < records file → T (within file point radius k) → Within file point radius k
unfolding is_near is_fix
near_of file point radius k h t =
    let r = record_at file k in
    record {
      fix = record { below = h; answer = eqb-true (answer_at r) 0 (T→eq _ (and_l (eqb (answer_at r) 0) (le (distance point r) radius) t)) };
      near = and_r (eqb (answer_at r) 0) (le (distance point r) radius) t;
    }

near-to : (file : List ℕ) (point : List Float) (radius : Float) (k : ℕ) → Within file point radius k → T (within file point radius k)
unfolding is_near is_fix
near-to file point radius k w =
    let r = record_at file k in
    and_both (eqb (answer_at r) 0) (le (distance point r) radius) (eq→T (eq-eqb _ 0 w.fix.answer)) w.near

-- the list of a buffer with room for all, clause by clause
module _ (file : List ℕ) (point : List Float) (radius : Float) (places : List ℕ) (room : records file ≤ length places) where
  abbrev near_by : ℕ → Bool
  near_by = within file point radius

  abbrev Listed : Type 0
  Listed = Lists file point radius places (members_to near_by places (records file)) (count near_by (records file))

  list-each : Clause (λ (l : Listed). l.each)
  list-each k w =
      let p = placed near_by places (records file) k room w.fix.below (near-to file point radius k w) in
      (p.place, p.below, p.there)

  list-no-other : Clause (λ (l : Listed). l.no_other)
  list-no-other a h = let l = lists near_by places (records file) a room h in near_of file point radius _ l.below l.member

  list-once : Clause (λ (l : Listed). l.once)
  list-once a b l h e = listing.distinct near_by places (records file) a b room l h e

  list-ascending : Clause (λ (l : Listed). l.ascending)
  list-ascending a b l h = listing.ascends near_by places (records file) a b room l h

  list-rest : Clause (λ (l : Listed). l.rest)
  list-rest a h = listing.rest near_by places (records file) a h

  list-size : Clause (λ (l : Listed). l.size)
  list-size = members-length near_by places (records file)

  whole-list : Listed
  whole-list = record {
    each = list-each;
    no_other = list-no-other;
    once = list-once;
    ascending = list-ascending;
    rest = list-rest;
    size = list-size;
  }

room_of : (b : Bool) (places n r : ℕ) → ltb places n ≡ b → ◌≡◌ {A = ℕ} (cond b 14 r) 0 → n ≤ places
room_of true places n r e z = absurd (omega arith)
room_of false places n r e z = nltb→le places n (eq→F e)

pub list-is-exact : ListIsExact
unfolding places_after count_after within_answer
list-is-exact file point radius places found e =
    rw (eq-eqb (within_answer file point radius places) 0 e)
    (whole-list file point radius places (room_of (ltb (length places) (records file)) (length places) (records file) _ refl e))
