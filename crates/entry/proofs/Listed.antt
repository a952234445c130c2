-- A solve sees of its receptions only those below n: two inputs whose receptions agree there get one reply, and so do bytes and the list that they
-- hold. Assumes nothing.
use Rattle.std.proofs.Common.{Ok, Err}
use Prim.Native.Nat.{ℕ, zero, suc, ◌*◌, ◌/◌, ◌%◌, ◌≤◌, ◌<◌}
use mathlib.Core.Path.{◌≡◌, refl, sym, ap, ap₂, ◌∙◌}
use mathlib.Core.Bool.{Bool, true, cond}
use mathlib.Core.List.{List, []}
use mathlib.Core.Option
use mathlib.Core.Option.{Option}
use native.Mathlib.Omega.{arith}
use borrow.Author.Tests.{eq-eqb}
use lib.Dec.{eqb, leb, ltb}
use lib.IntN.{ℤ, pos}
use lib.ListN.{length, get_or, replicate, length-replicate}
use lib.Ieee.{Float}
use Rattle.refusals.specs.Refusals.{short_output}
use Rattle.dense.specs.Entries.{nth}
use Rattle.geo.specs.Geo.{from_mm}
use Rattle.problem.specs.declared.Problem.{Problem}
use Rattle.receptions.specs.declared.Reception.{Reception}
use Rattle.receptions.specs.Identities.{before, ascends}
use Rattle.receptions.specs.Receptions.{reception_bytes, reception_at, listed_at, no_reception, fill_to, wholes, floats, fields_of}
use Rattle.receptions.proofs.Filling.{fill-length, fill-at, fill-same}
use Rattle.inputs.specs.declared.Fault.TheVariants.{TornInput, TooMany, Disorder, BadField}
use Rattle.inputs.specs.Domain.{good_reception}
use Rattle.inputs.specs.Faults.{Check, passed, or_else, unless, first_to}
use Rattle.inputs.specs.Inputs.{Inputs, inputs_of, untorn, check_reception, check_clock, check_altitude, check_covered, check_inputs, metres_of, upper_at}
use Rattle.inputs.specs.Inputs.{altitude_of, reference_of, shown_of, problem_of}
use Rattle.rounds.specs.Solve.{solve_problem}
use Rattle.record.specs.Record.{stored}
use Rattle.entry.specs.declared.Reply.{Reply}
use Rattle.entry.specs.Reply.{given, lent, listed, answered, replied, reply}
use Rattle.entry.specs.Unmoved.{SameReply}
use Rattle.entry.specs.Listed.{Hold, ListRepliesAlike}

-- ---- inputs that differ in receptions past the last
module _ (whole : Bool) (n : ℕ) (at at' : ℕ → Reception) (clock alt ref : Option (List ℕ)) (A : (i : ℕ) → i < n → at i ≡ at' i) where
  abbrev one : Inputs
  one = record { whole = whole; n = n; at = at; clock = clock; altitude = alt; reference = ref }

  abbrev other : Inputs
  other = record { whole = whole; n = n; at = at'; clock = clock; altitude = alt; reference = ref }

  reception-same : (i : ℕ) → i < n → check_reception at i ≡ check_reception at' i
  unfolding check_reception ascends
  reception-same zero l = ap (λ (r : Reception). or_else (unless (good_reception r) (BadField 0)) passed) (A 0 l)
  reception-same (suc i) l =
      ap₂ (λ (q r : Reception). or_else (unless (good_reception r) (BadField (suc i))) (unless (before q.id r.id) (Disorder (suc i))))
      (A i (omega arith)) (A (suc i) l)

  receptions-same : (k : ℕ) → k ≤ n → first_to (check_reception at) k ≡ first_to (check_reception at') k
  unfolding first_to
  receptions-same zero l = refl
  receptions-same (suc k) l = ap₂ or_else (receptions-same k (omega arith)) (reception-same k (omega arith))

  check-same : check_inputs one ≡ check_inputs other
  unfolding check_inputs untorn
  check-same =
      ap (λ (c : Check). or_else (unless (untorn one) TornInput) (or_else (unless (leb n 32) TooMany) (or_else c
      (or_else (check_clock clock n) (or_else (check_altitude alt) (check_covered clock)))))) (receptions-same n (omega arith))

  -- coordinate k is one of reception k / 3
  third : (k : ℕ) → k < 3 * n → k / 3 < n
  third k l = omega arith

  abbrev made : List ℤ → List ℤ → List Float → List Float → List Float → Problem
  made time mm site z noise = record {
    n = n;
    time = time;
    site_mm = mm;
    site = site;
    z = z;
    noise_m2 = noise;
    clock_m2 = fill_to (floats 1024) (upper_at (Option.get_or clock []) n) (n * n);
    altitude = altitude_of alt;
    reference_ps = reference_of ref;
    shown = shown_of alt;
  }

  times-same : (fields_of at n).time ≡ (fields_of at' n).time
  unfolding fields_of
  times-same = fill-same (wholes 32) (λ i. (at i).time) (λ i. (at' i).time) n (λ i l. ap (λ (r : Reception). r.time) (A i l))

  mm-same : (fields_of at n).site_mm ≡ (fields_of at' n).site_mm
  unfolding fields_of
  mm-same =
      fill-same (wholes 96) (λ k. get_or (at (k / 3)).site_mm (k % 3) (pos 0)) (λ k. get_or (at' (k / 3)).site_mm (k % 3) (pos 0)) (3 * n)
      (λ k l. ap (λ (r : Reception). get_or r.site_mm (k % 3) (pos 0)) (A (k / 3) (third k l)))

  metres-same : metres_of at n ≡ metres_of at' n
  metres-same =
      fill-same (floats 96) (λ k. nth (from_mm (at (k / 3)).site_mm) (k % 3)) (λ k. nth (from_mm (at' (k / 3)).site_mm) (k % 3)) (3 * n)
      (λ k l. ap (λ (r : Reception). nth (from_mm r.site_mm) (k % 3)) (A (k / 3) (third k l)))

  z-same : (fields_of at n).z ≡ (fields_of at' n).z
  unfolding fields_of
  z-same = fill-same (floats 32) (λ i. (at i).z) (λ i. (at' i).z) n (λ i l. ap (λ (r : Reception). r.z) (A i l))

  noise-same : (fields_of at n).noise_m2 ≡ (fields_of at' n).noise_m2
  unfolding fields_of
  noise-same = fill-same (floats 32) (λ i. (at i).noise_m2) (λ i. (at' i).noise_m2) n (λ i l. ap (λ (r : Reception). r.noise_m2) (A i l))

  problem-same : problem_of one ≡ problem_of other
  unfolding problem_of
  problem-same =
      ap₂ (λ (t m : List ℤ). made t m (metres_of at n) (fields_of at n).z (fields_of at n).noise_m2) times-same mm-same
      ∙ ap (λ (s : List Float). made (fields_of at' n).time (fields_of at' n).site_mm s (fields_of at n).z (fields_of at n).noise_m2) metres-same
      ∙ ap₂ (made (fields_of at' n).time (fields_of at' n).site_mm (metres_of at' n)) z-same noise-same

  replied-same : (c : Check) → replied c one ≡ replied c other
  replied-same (Err fault) = refl
  replied-same (Ok _) = ap (λ (P : Problem). answered n P.shown (solve_problem P)) problem-same

  reply-same : reply one ≡ reply other
  unfolding reply
  reply-same = ap (λ (c : Check). replied c one) check-same ∙ replied-same (check_inputs other)

-- ---- bytes, and the list that they hold
module _ (bytes : List ℕ) (receptions : List Reception) (clock altitude reference : List ℕ) (present : ℕ) (h : Hold bytes receptions) where
  untorn-bytes : eqb (length bytes % reception_bytes) 0 ≡ true
  untorn-bytes = eq-eqb (length bytes % reception_bytes) 0 (omega (arith, h.sized))

  as_many : length bytes / reception_bytes ≡ length receptions
  as_many = omega (arith, h.sized)

  bytes-replied : reply (lent bytes clock altitude reference present) ≡ reply (listed receptions clock altitude reference present)
  bytes-replied =
      ap₂ (λ (w : Bool) (n : ℕ). reply (inputs_of w n (reception_at bytes) (given present) clock altitude reference)) untorn-bytes as_many
      ∙ reply-same true (length receptions) (reception_at bytes) (listed_at receptions) _ _ _ h.each

alike : (I J : Inputs) → reply I ≡ reply J → SameReply I J
alike I J r = record {
  replies = r;
  answers = λ out. ap (λ (x : Reply). cond (ltb (length out) 176) short_output x.number) r;
  outputs = λ out. ap (λ (x : Reply). cond (ltb (length out) 176) out (stored out x.bytes)) r;
}

-- ---- the list that is read from bytes
module _ (bytes : List ℕ) where
  abbrev n : ℕ
  n = length bytes / reception_bytes

  abbrev read_from : List Reception
  read_from = fill_to (replicate n no_reception) (reception_at bytes) n

  sized : length read_from ≡ n
  sized = fill-length (replicate n no_reception) (reception_at bytes) n ∙ length-replicate n no_reception

  holds : length bytes % reception_bytes ≡ 0 → Hold bytes read_from
  holds h =
      let e = sized in
      record {
        sized = omega (arith, e, h);
        each = λ i l. holds-each i (omega (arith, e, l));
      }
    where
      holds-each : (i : ℕ) → i < n → reception_at bytes i ≡ listed_at read_from i
      holds-each i l =
          sym (fill-at (replicate n no_reception) (reception_at bytes) n i no_reception l (rw length-replicate l))

pub list-replies-alike : ListRepliesAlike
list-replies-alike = record {
  same = λ bytes receptions clock altitude reference present h.
      alike (lent bytes clock altitude reference present) (listed receptions clock altitude reference present)
      (bytes-replied bytes receptions clock altitude reference present h);
  read = λ bytes h. (read_from bytes, holds bytes h);
}
