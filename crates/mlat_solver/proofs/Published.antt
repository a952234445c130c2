-- Whatever the solve publishes, everything downstream takes: entry's `reply-publishes` says what the record of a fix shows, and so each rule of the
-- reader and each limit of the wire and of the items is met. Assumes nothing.
use Prim.Native.Nat.{ℕ, zero, suc, ◌+◌, ◌*◌, ◌≤◌}
use mathlib.Core.Path.{◌≡◌, refl, sym, ap, subst, ◌∙◌}
use mathlib.Core.Logic.{inl, inr}
use mathlib.Core.List.{List}
use native.Mathlib.Omega.{arith}
use native.Mathlib.Nat.{le_refl, le_of_suc-le-suc, eq-or-lt_of_le}
use borrow.Author.Tests.{eq-eqb}
use lib.Dec.{T, lit≤, lit<}
use lib.IntN.{ℤ, pos, negsuc, neg_ℤ, nat_abs}
use lib.ListN.{length}
use lib.Ieee.{Float, neg, round, le}
use lib.Ieee.Bits.{is_true}
use lib.Ieee.Fits.{and_i}
use mir.Syntax.{w16}
use mir.Val.{SFits}
use Rattle.binary64.specs.Steps.{decimal}
use Rattle.binary64.specs.Within.{Within}
use Rattle.geo.specs.declared.Geodetic.{Geodetic}
use Rattle.limits.specs.Heights.{min_height_m, max_height_m}
use Rattle.words.specs.Words.{f64_at}
use Rattle.std.specs.Prelude.{Result, Ok}
use Rattle.refusals.specs.declared.Refusal.{Refusal}
use Rattle.refusals.specs.Refusals.{answer_of}
use Rattle.reader.specs.Rules.{answer_at, Finite}
use Rattle.reader.specs.Read.{content_at, fix_at}
use Rattle.reader.specs.Meaning.{Bytes}
use Rattle.reader.proofs.Clause.{Clause}
use Rattle.reader.proofs.Fixed.{answer-read}
use Rattle.reader.proofs.Meaning.{takes-apart-exactly}
use Rattle.reader.proofs.Value.{fix-bytes, refusal-bytes}
use Rattle.wire.specs.declared.Wire.{Wire}
use Rattle.wire.specs.Held.{AtMost}
use Rattle.wire.specs.Nearest.{nearest, half_up}
use Rattle.wire.specs.Wire.{per_degree, per_metre, in_units, to_wire}
use Rattle.wire.specs.Meaning.{IsNearest, WithinLimits, IsWritten}
use Rattle.wire.proofs.Meaning.{in-units-nearest}
use Rattle.wire.proofs.Reach.{half-most, few, tested}
use Rattle.wire.proofs.Exactly.{writes-exactly}
use Rattle.asterix.specs.Multiples.{level}
use Rattle.asterix.specs.Meaning.{IsExported}
use Rattle.asterix.specs.Items.{to_answer}
use Rattle.asterix.proofs.Meaning.{exports-exactly}
use Rattle.entry.specs.Reply.{reply}
use Rattle.entry.proofs.Records as records
use Rattle.entry.proofs.Records.{reply-written}
use Rattle.entry.proofs.Published.{Publishes, reply-publishes}
use Rattle.mlat_solver.specs.Solved.{solved_record, FiniteFloats, Moves}
use Rattle.mlat_solver.specs.Positions.{wire_of, numbers_after}
use Rattle.mlat_solver.specs.Published.{OfEveryFix, FixesAreFinite, FixesLieOnEarth, ClaimsArePositive, Chi2IsNotNegative, FiniteChi2}
use Rattle.mlat_solver.specs.Published.{ClaimsAreDefinite, ReadExactlyWhere, Taken, FixesAreTaken}
use Rattle.mlat_solver.proofs.Solved.{told-refuses, answered, is-record, solved-moves}

-- ---- what a fix shows
published : OfEveryFix Publishes
published I out h e = subst Publishes (sym (is-record I out h)) (reply-publishes I (sym (answered I out h) ∙ e))

pub fixes-are-finite : FixesAreFinite
fixes-are-finite I out h e = let p = published I out h e in (p.places, p.claims)

pub fixes-lie-on-earth : FixesLieOnEarth
fixes-lie-on-earth I out h e = let p = published I out h e in (p.lat, p.lon)

pub claims-are-positive : ClaimsArePositive
claims-are-positive I out h e = (published I out h e).variances

pub claims-are-definite : ClaimsAreDefinite
claims-are-definite I out h e = (published I out h e).definite

pub chi2-is-not-negative : Chi2IsNotNegative
chi2-is-not-negative I out h e = (published I out h e).chi2

-- ---- with a finite chi-square all its floats are finite
all-finite : (s : List ℕ) → Publishes s → FiniteChi2 s → FiniteFloats s
all-finite s p c = record {
  places = p.places;
  claims = λ i l. elim (eq-or-lt_of_le (le_of_suc-le-suc l)) [
    | inl e ↦ subst (λ (k : ℕ). Finite s (80 + 8 * k)) (sym e) c
    | inr k ↦ p.claims i k
  ];
}

moved : OfEveryFix (λ s. FiniteChi2 s → Moves s)
moved I out h e c = solved-moves.fixes I out h e (all-finite (solved_record I out) (published I out h e) c)

-- ---- the reader
written-bytes : (k : ℕ) (s : List ℕ) → records.Written k s → Bytes s
written-bytes k s (records.refused d n t h e) = subst Bytes (sym e) (refusal-bytes k d n)
written-bytes k s (records.fixed n alt x z h e) = subst Bytes (sym e) (fix-bytes n alt x)

written-answer : (k : ℕ) (s : List ℕ) → records.Written k s → k ≡ 0 → answer_at s ≡ 0
written-answer k s (records.refused d n t h e) z = absurd (told-refuses t z)
written-answer k s (records.fixed n alt x q h e) z = ap answer_at e ∙ answer-read n alt x

is-bytes : OfEveryFix Bytes
is-bytes I out h e = subst Bytes (sym (is-record I out h)) (written-bytes (reply I).number (reply I).bytes (reply-written I))

is-fix : OfEveryFix (λ s. answer_at s ≡ 0)
is-fix I out h e =
    ap answer_at (is-record I out h) ∙ written-answer (reply I).number (reply I).bytes (reply-written I) (sym (answered I out h) ∙ e)

pub read-exactly-where : ReadExactlyWhere
read-exactly-where I out h e =
    let s = solved_record I out in (
      λ r. (((takes-apart-exactly s (is-bytes I out h e)).0 r).1.fix (is-fix I out h e)).claims 9 (omega arith),
      λ c. ap answer_of (moved I out h e c).read,
    )

-- ---- the wire and the items
nearest-of : (unit : ℕ) (x : Float) → IsNearest unit x (in_units unit x)
nearest-of unit x s a c p v = (in-units-nearest unit x s a c p v).0

lat-most : (x : Float) → Within (decimal 90 0) x → AtMost 90 x
unfolding round neg
lat-most x w = tested 45 1 45 1 90 x (le_refl 90) (le_refl 90) (is_true _ (and_i (le (neg (decimal 90 0)) x) (le x (decimal 90 0)) w.0 w.1))

lon-most : (x : Float) → Within (decimal 180 0) x → AtMost 180 x
unfolding round neg
lon-most x w =
    tested 45 2 45 2 180 x (le_refl 180) (le_refl 180) (is_true _ (and_i (le (neg (decimal 180 0)) x) (le x (decimal 180 0)) w.0 w.1))

height-most : (x : Float) → T (le min_height_m x) → T (le x max_height_m) → AtMost 25000 x
unfolding min_height_m max_height_m round neg
height-most x l h = tested 375 2 3125 3 25000 x (lit≤ tt) (le_refl 25000) (is_true _ (and_i (le min_height_m x) (le x max_height_m) l h))

level-fits : (z : ℤ) → nat_abs z ≤ 25000000 → SFits w16 (level z)
unfolding level nearest
level-fits (pos a) h = let l : half_up a 1905 ≤ 13124 = half-most a 1905 13124 (lit< tt) (omega arith) in record { sfits = omega arith }
level-fits (negsuc a) h = minus (half_up (suc a) 1905) (half-most (suc a) 1905 13124 (lit< tt) (omega arith))
  where
    minus : (n : ℕ) → n ≤ 13124 → SFits w16 (neg_ℤ (pos n))
    minus zero l = record { sfits = lit< tt }
    minus (suc n) l = record { sfits = omega arith }

module _ (s : List ℕ) (p : Publishes s) (z : answer_at s ≡ 0) (m : Moves s) where
  abbrev place : Geodetic
  place = record { lat_deg = f64_at s 48; lon_deg = f64_at s 56; height_m = f64_at s 64 }

  abbrev w : Wire
  w = record { lat = in_units per_degree (f64_at s 48); lon = in_units per_degree (f64_at s 56); height = in_units per_metre (f64_at s 64) }

  content : ((content_at s).answer ≡ 0) × ((content_at s).fix.position ≡ place)
  unfolding content_at fix_at
  content = rw (eq-eqb (answer_at s) 0 z) (refl, refl)

  position : (content_at s).fix.position ≡ place
  position = content.1

  is-written : IsWritten s w
  is-written = record {
    content = content_at s;
    taken = m.read;
    fix = content.0;
    limited = subst WithinLimits (sym position) (record { lat = p.lat; lon = p.lon; height = (p.above, p.below) });
    lat = subst (λ (g : Geodetic). IsNearest per_degree g.lat_deg w.lat) (sym position) (nearest-of per_degree (f64_at s 48));
    lon = subst (λ (g : Geodetic). IsNearest per_degree g.lon_deg w.lon) (sym position) (nearest-of per_degree (f64_at s 56));
    height = subst (λ (g : Geodetic). IsNearest per_metre g.height_m w.height) (sym position) (nearest-of per_metre (f64_at s 64));
  }

  whole : to_wire s ≡ Ok w
  whole = (writes-exactly s w).1 is-written

  exported : (items : List ℕ) → length items ≡ 10 → IsExported w (length items)
  exported items l = record {
    ten = l;
    lat = few 90 per_degree (f64_at s 48) (lat-most (f64_at s 48) p.lat);
    lon = few 180 per_degree (f64_at s 56) (lon-most (f64_at s 56) p.lon);
    height = level-fits w.height (few 25000 per_metre (f64_at s 64) (height-most (f64_at s 64) p.above p.below));
  }

  taken-moves : Clause (λ (t : Taken s). t.moves)
  taken-moves = m

  taken-wire : Clause (λ (t : Taken s). t.wire)
  taken-wire = ap answer_of whole

  taken-asterix : Clause (λ (t : Taken s). t.asterix)
  taken-asterix found items l =
      subst (λ (o : Result Wire Refusal). to_answer (wire_of (numbers_after o found)) items ≡ 0) (sym whole)
      ((exports-exactly w items).0 (exported items l)).0

  taken : Taken s
  taken = record { moves = taken-moves; wire = taken-wire; asterix = taken-asterix }

pub fixes-are-taken : FixesAreTaken
fixes-are-taken I out h e c = taken (solved_record I out) (published I out h e) (is-fix I out h e) (moved I out h e c)
