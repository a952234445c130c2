-- Inputs that are alike in what is kept hold problems that are, since each field of a problem is filled entry by entry
-- from the inputs' own, so that their answers are equal and with them every byte of the reply. Assumes nothing.
use Prim.Native.Nat.{ℕ, ◌+◌, ◌*◌, ◌/◌, ◌%◌, ◌≤◌, ◌<◌}
use mathlib.Core.Path.{◌≡◌, ap, ap₂, sym, subst, ◌∙◌}
use mathlib.Core.Bool.{cond}
use mathlib.Core.List.{List, []}
use mathlib.Core.Option
use native.Mathlib.Omega.{arith}
use lib.Dec.{T, ltb}
use lib.IntN.{ℤ, pos}
use lib.ListN.{length, get_or, length-replicate}
use lib.Ieee.{Float, nan}
use Rattle.refusals.specs.Refusals.{short_output}
use Rattle.dense.specs.Entries.{nth, at}
use Rattle.dense.proofs.Places.{place, room}
use Rattle.geo.specs.Geo.{from_mm}
use Rattle.sets.specs.Sets.{Subset}
use Rattle.screen.specs.Pair as pair
use Rattle.screen.proofs.Removal.{kept-below}
use Rattle.problem.specs.declared.Altitude.{Altitude}
use Rattle.receptions.specs.Receptions.{fill_to, wholes, floats, fields_of}
use Rattle.receptions.proofs.Filling.{fill-at, fill-same}
use Rattle.inputs.specs.Faults.{Check, passed}
use Rattle.inputs.specs.Inputs.{Inputs, entry_at, check_inputs, metres_of, upper_at, altitude_of, shown_of, reference_of, problem_of}
use Rattle.inputs.proofs.Order.{few}
use Rattle.inputs.proofs.Sound.{upper}
use Rattle.rounds.specs.Solve.{solve_problem}
use Rattle.rounds.specs.Unmoved as rounds
use Rattle.rounds.proofs.Unread.{removed-unread}
use Rattle.record.specs.Record.{stored}
use Rattle.entry.specs.declared.Reply.{Reply}
use Rattle.entry.specs.Reply.{lent, listed, answered, replied, reply}
use Rattle.entry.specs.Unmoved.{clock_at, SameReply, RemovedUnread}

-- ---- what is read back of arrays of n receptions
module _ (n : ℕ) (N : n ≤ 32) where
  float_read : (f : ℕ → Float) (i : ℕ) → i < n → nth (fill_to (floats 32) f n) i ≡ f i
  float_read f i h = fill-at (floats 32) f n i nan h (rw length-replicate (omega arith))

  clock-read : (b : List ℕ) (i j : ℕ) → i ≤ j → j < n → at (fill_to (floats 1024) (upper_at b n) (n * n)) n i j ≡ entry_at b n i j
  clock-read b i j h l =
      let w : i < n = omega arith in
      let p = place i j n w l in
      let q = room n N in
      fill-at (floats 1024) (upper_at b n) (n * n) (i * n + j) nan p (rw length-replicate (omega (arith, p, q))) ∙ upper b n i j h l

-- ---- two inputs with as many receptions at the same times and sites, the same altitude and the same reference
module _ (I J : Inputs) (p : check_inputs I ≡ passed) (e : I.n ≡ J.n) (A : (i : ℕ) → i < I.n → (I.at i).time ≡ (J.at i).time)
    (M : (i : ℕ) → i < I.n → (I.at i).site_mm ≡ (J.at i).site_mm) (H : I.altitude ≡ J.altitude) (R : I.reference ≡ J.reference) where
  abbrev n : ℕ
  n = I.n

  -- those that the screen keeps
  abbrev K : Subset
  K = rounds.kept_of (problem_of I)

  small : n ≤ 32
  small = few I p

  small' : J.n ≤ 32
  small' = subst (λ (m : ℕ). m ≤ 32) e small

  below : (i : ℕ) → T (K i) → i < n
  unfolding problem_of
  below i t = kept-below (problem_of I).n (pair.fails (problem_of I).time (problem_of I).site_mm (problem_of I).n) i t

  below' : (i : ℕ) → T (K i) → i < J.n
  below' i t = subst (λ (m : ℕ). i < m) e (below i t)

  -- coordinate k is one of reception k / 3
  third : (k : ℕ) → k < 3 * n → k / 3 < n
  third k l = omega arith

  -- z and noise of kept receptions are equal, and clock entries on or right of the diagonal between them
  module _ (Z : (i : ℕ) → T (K i) → (I.at i).z ≡ (J.at i).z) (N : (i : ℕ) → T (K i) → (I.at i).noise_m2 ≡ (J.at i).noise_m2)
      (C : (i j : ℕ) → i ≤ j → T (K i) → T (K j) → clock_at I i j ≡ clock_at J i j) where
    clocks : (i j : ℕ) → i ≤ j → T (K i) → T (K j) → at (problem_of I).clock_m2 n i j ≡ at (problem_of J).clock_m2 n i j
    unfolding problem_of
    clocks i j h t u =
        let c = Option.get_or J.clock [] in
        clock-read n small (Option.get_or I.clock []) i j h (below j u) ∙ C i j h t u ∙ sym (clock-read J.n small' c i j h (below' j u))
        ∙ ap (λ (m : ℕ). at (fill_to (floats 1024) (upper_at c J.n) (J.n * J.n)) m i j) (sym e)

    problems-alike : rounds.AlikeInKept (problem_of I) (problem_of J)
    unfolding problem_of fields_of
    problems-alike = record {
      n = e;
      time = fill-same (wholes 32) (λ i. (I.at i).time) (λ i. (J.at i).time) n A ∙ ap (fill_to (wholes 32) (λ i. (J.at i).time)) e;
      site_mm =
          fill-same (wholes 96) (λ k. get_or (I.at (k / 3)).site_mm (k % 3) (pos 0)) (λ k. get_or (J.at (k / 3)).site_mm (k % 3) (pos 0)) (3 * n)
          (λ k l. ap (λ (s : List ℤ). get_or s (k % 3) (pos 0)) (M (k / 3) (third k l)))
          ∙ ap (λ (m : ℕ). fill_to (wholes 96) (λ k. get_or (J.at (k / 3)).site_mm (k % 3) (pos 0)) (3 * m)) e;
      site =
          fill-same (floats 96) (λ k. nth (from_mm (I.at (k / 3)).site_mm) (k % 3)) (λ k. nth (from_mm (J.at (k / 3)).site_mm) (k % 3)) (3 * n)
          (λ k l. ap (λ (s : List ℤ). nth (from_mm s) (k % 3)) (M (k / 3) (third k l))) ∙ ap (metres_of J.at) e;
      altitude = ap altitude_of H;
      reference_ps = ap reference_of R;
      z = λ i t. float_read n small (λ k. (I.at k).z) i (below i t) ∙ Z i t ∙ sym (float_read J.n small' (λ k. (J.at k).z) i (below' i t));
      noise = λ i t.
          float_read n small (λ k. (I.at k).noise_m2) i (below i t) ∙ N i t
          ∙ sym (float_read J.n small' (λ k. (J.at k).noise_m2) i (below' i t));
      clock = clocks;
    }

    few-of-problem : (problem_of I).n ≤ 32
    unfolding problem_of
    few-of-problem = small

    same-shown : (problem_of I).shown ≡ (problem_of J).shown
    unfolding problem_of
    same-shown = ap shown_of H

    same-answered : replied passed I ≡ replied passed J
    same-answered =
        ap₂ (λ (m : ℕ) (h : Altitude). answered m h (solve_problem (problem_of I))) e same-shown
        ∙ ap (answered J.n (problem_of J).shown) (removed-unread (problem_of I) (problem_of J) few-of-problem problems-alike)

    same-reply : check_inputs J ≡ passed → SameReply I J
    unfolding reply
    same-reply q =
        let r : reply I ≡ reply J = ap (λ (c : Check). replied c I) p ∙ same-answered ∙ sym (ap (λ (c : Check). replied c J) q) in
        record {
          replies = r;
          answers = λ out. ap (λ (x : Reply). cond (ltb (length out) 176) short_output x.number) r;
          outputs = λ out. ap (λ (x : Reply). cond (ltb (length out) 176) out (stored out x.bytes)) r;
        }

pub unread-of-inputs : RemovedUnread
unread-of-inputs = record {
  bytes = λ rs rs' clock clock' altitude altitude' reference reference' present present' a.
      same-reply (lent rs clock altitude reference present) (lent rs' clock' altitude' reference' present')
      a.valid a.n a.time a.site_mm a.altitude a.reference a.z a.noise a.clock a.valid_too;
  list = λ rs rs' clock clock' altitude altitude' reference reference' present present' a.
      same-reply (listed rs clock altitude reference present) (listed rs' clock' altitude' reference' present')
      a.valid a.n a.time a.site_mm a.altitude a.reference a.z a.noise a.clock a.valid_too;
}
