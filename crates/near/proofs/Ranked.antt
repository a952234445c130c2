-- The nearest is the one of specs/Meaning.antt: distances of fixes are numbers, which `lt` ranks, so that the choice is the first of the
-- least. Assumes nothing.
use Rattle.std.proofs.Common.{◌≡◌, ℕ, ◌^◌, ◌<◌, ◌≤◌, true, not, T, ltb, ◌⊎◌, List, [], length, refl, subst, inl, inr, arith, ltb→lt, nltb→le, T_not, eq-eqb, eqb-true}
use mathlib.Core.Option.{Option, none, some}
use lib.Ieee.{Float, of_bits}
use Rattle.binary64.specs.Steps.{is_finite}
use Rattle.dense.specs.Entries.{nth}
use Rattle.sets.specs.Choice.{IsChoice, FirstBest, Ranks}
use Rattle.sets.proofs.Tests.{either, T→eq, eq→T, neither-below}
use Rattle.sets.proofs.Choosing.{choose-is}
use Rattle.words.specs.Words.{f64_at, u64_at, word_at}
use Rattle.binary64.proofs.Less.{lt-asym, lt-split, le_of_not_lt, le-lt}
use Rattle.reader.specs.Rules.{answer_at}
use Rattle.refusals.specs.Refusals.{no_such_place}
use Rattle.reader.specs.Read.{place_refusal, record_at, three_at}
use Rattle.reader.proofs.Reading.{accepted}
use Rattle.reader.proofs.Places.{no-such-place, refused}
use Rattle.reader.proofs.Tests.{fix-meets, low-finite}
use Rattle.near.specs.Near.{records, is_fix, fixes, distance, distance_at, closer, nearest, place_of, nearest_answer, place_after}
use Rattle.near.specs.Near.{good_point, query_refusal}
use Rattle.near.specs.Meaning.{Fix, Nearest, Sound, GoodPoint, NearestFound, NearestIsNearest}
use Rattle.near.proofs.Distances.{Num, distance-is-number}
use Rattle.near.proofs.Refusing.{answered-query}
use Rattle.near.proofs.Meaning.{below-3, sound-of, point-of}

-- ---- the distance of every fix is a number

module _ (file : List ℕ) (s : Sound file) where
  -- of a fix of the file by the reader's rules, and past its end there are no bytes
  fix-finite : (k : ℕ) → k < records file → T (fixes file k) → (i : ℕ) → i < 3 → is_finite (nth (three_at (record_at file k) 16) i) ≡ true
  unfolding is_fix
  fix-finite k h t =
      let r = record_at file k in
      let good = fix-meets r (eqb-true (answer_at r) 0 (T→eq _ t)) (accepted r (s.read k h)).1 in
      let finite = low-finite r good in
      below-3 (λ i. is_finite (nth (three_at r 16) i) ≡ true) (finite 0 (omega arith)) (finite 1 (omega arith)) (finite 2 (omega arith))

  no_bytes : (i : ℕ) → i < 3 → is_finite (nth (three_at [] 16) i) ≡ true
  unfolding f64_at u64_at word_at of_bits is_finite
  no_bytes = below-3 (λ i. is_finite (nth (three_at [] 16) i) ≡ true) refl refl refl

  past_end : (k : ℕ) → records file ≤ k → [] ≡ record_at file k
  past_end k h =
      let w = s.whole in
      let n : no_such_place ≡ place_refusal (length file) k = no-such-place (length file) k (omega arith) h in
      refused file k (λ e. omega arith)

  ecef-finite : (k : ℕ) → T (fixes file k) → (i : ℕ) → i < 3 → is_finite (nth (three_at (record_at file k) 16) i) ≡ true
  ecef-finite k t = go (either (ltb k (records file)))
    where
      go : T (ltb k (records file)) ⊎ T (not (ltb k (records file))) → (i : ℕ) → i < 3 → is_finite (nth (three_at (record_at file k) 16) i) ≡ true
      go (inl l) = fix-finite k (ltb→lt k (records file) l) t
      go (inr l) = subst (λ r. (i : ℕ) → i < 3 → is_finite (nth (three_at r 16) i) ≡ true) (past_end k (nltb→le k (records file) l)) no_bytes

  module _ (point : List Float) (g : GoodPoint point) where
    pub number : (k : ℕ) → T (fixes file k) → Num (distance_at file point k)
    unfolding distance
    number k t = distance-is-number (three_at (record_at file k) 16) point (ecef-finite k t) (λ i h. (g i h).finite)

    ranks : Ranks (fixes file) (closer file point)
    ranks = record {
      asym = λ i j h k. lt-asym (distance_at file point i) (distance_at file point j) h k;
      split = λ i j k t h. lt-split (distance_at file point i) (distance_at file point j) (distance_at file point k) (number j t) h;
    }

    -- ---- the choice

    fix-of : (k : ℕ) → k < records file → T (fixes file k) → Fix file k
    unfolding is_fix
    fix-of k h t = record { below = h; answer = eqb-true _ 0 (T→eq _ t) }

    fix-to : (k : ℕ) → Fix file k → T (fixes file k)
    unfolding is_fix
    fix-to k f = eq→T (eq-eqb _ 0 f.answer)

    nearest-of : (k : ℕ) → FirstBest (fixes file) (closer file point) (records file) k → Nearest file point k
    nearest-of k b = record {
      fix = fix-of k b.below b.candidate;
      closest = λ j f.
          le_of_not_lt (distance_at file point j) (distance_at file point k) (number j (fix-to j f)) (number k b.candidate)
          (b.unbeaten j f.below (fix-to j f));
      earliest = λ j f l. b.lowest j l (fix-to j f);
    }

    -- two that are nearest are one
    never : (i j : ℕ) → Nearest file point i → Nearest file point j → i < j → ⊥
    never i j a b l = le-lt (distance_at file point j) (distance_at file point i) (a.closest j b.fix) (b.earliest i a.fix l)

    found : length file < 2 ^ 64 → (o : Option ℕ) → IsChoice (fixes file) (closer file point) (records file) o
        → NearestFound file point (place_of o)
    unfolding place_of
    found l none c = record {
      none = λ e k f. T_not (fixes file k) (c k f.below) (fix-to k f);
      no_fix = λ n. refl;
      nearest = λ n. absurd (n refl);
      only = λ k w. absurd (T_not (fixes file k) (c k w.fix.below) (fix-to k w.fix));
    }
    found l (some i) c =
        let best = nearest-of i c in
        let below : i < records file = c.below in
        record {
          none = λ e k f. omega arith;
          no_fix = λ n. absurd (n i best.fix);
          nearest = λ n. best;
          only = λ k w. neither-below i k (never i k best w) (never k i w best);
        }

pub nearest-is-nearest : NearestIsNearest
unfolding place_after nearest_answer
nearest-is-nearest file point found₀ l e =
    let t = answered-query file (good_point point) e in
    let s = sound-of file t.0 in
    let g = point-of point t.1 in
    rw (eq-eqb (query_refusal file (good_point point)) 0 e)
    (found file s point g l (nearest file point) (choose-is (fixes file) (closer file point) (ranks file s point g) (records file)))
