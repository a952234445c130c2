-- Every normalised residual is a number: z is finite, the transmit time of a fit is a number since its cost is one, a range is finite since the fit
-- lies within 600,000 m of a site, and sigma is above 0 and finite. Assumes nothing.
use Prim.Native.Nat.{ℕ, zero, suc, ◌+◌, ◌*◌, ◌/◌, ◌%◌, ◌<◌, ◌≤◌}
use mathlib.Core.Path.{◌≡◌, refl, sym, subst}
use mathlib.Core.Bool.{true, false, ◌&&◌}
use mathlib.Core.List.{List, [], ◌∷◌}
use mathlib.Core.Option
use mathlib.Core.Option.{Option}
use native.Mathlib.Omega.{arith}
use borrow.Author.Tests.{eq-eqb}
use lib.Dec.{T, leb}
use lib.IntN.{ℤ, pos}
use lib.ListN.{get_or, length-replicate}
use lib.Ieee.{Float, nan, inf, fin, binary64, round, neg, add, le, fits, is_nan, of_bits}
use lib.Ieee.Bits.{of_bits-fits}
use lib.Ieee.Fits.{and_l, and_r, cond-fits}
use lib.Ieee.Positive.{positive, between}
use lib.Ieee.Scale.{finite}
use Rattle.binary64.specs.Steps.{◌⊕◌, ◌⊖◌, ◌⊘◌, nought, decimal, abs}
use Rattle.binary64.specs.Root.{root}
use Rattle.binary64.specs.Meaning.{IsBinary64}
use Rattle.binary64.proofs.Interval.{In, finite-between}
use Rattle.binary64.proofs.Numbers.{Num, sub-num, num-sub, num-div}
use Rattle.binary64.proofs.Order.{holds, nought-is}
use Rattle.binary64.proofs.RootBounds.{roots, root_in}
use Rattle.binary64.proofs.Runs.{plus, range, check, check_sound}
use Rattle.geo.specs.Geo.{from_mm}
use Rattle.dense.specs.Entries.{nth, at}
use Rattle.dense.proofs.Places.{place, room}
use Rattle.sets.specs.Sets.{Subset, count}
use Rattle.sets.proofs.Counting.{count-some, count-le}
use Rattle.problem.specs.declared.Problem.{Problem}
use Rattle.problem.specs.Problem as problem
use Rattle.problem.specs.Problem.{site_at, position, transmit_m}
use Rattle.words.specs.Words.{f64_at}
use Rattle.receptions.specs.Receptions.{floats, fields_of}
use Rattle.receptions.proofs.Filling.{fill-at}
use Rattle.inputs.specs.Faults.{passed}
use Rattle.inputs.specs.Domain.{good_coordinate, good_z, good_noise, good_entry}
use Rattle.inputs.specs.Inputs.{Inputs, check_reception, check_inputs, entry_at, upper_at, problem_of}
use Rattle.inputs.proofs.Order.{few, passed-receptions, first_of}
use Rattle.inputs.proofs.Sound.{coordinate-good}
use Rattle.whitening.specs.Covariance.{sigma}
use Rattle.whitening.specs.Whitened.{Chosen, range_at, residual}
use Rattle.whitening.proofs.Formatted.{Formatted}
use Rattle.damped.specs.declared.Fit.{Fit}
use Rattle.damped.proofs.Timed.{time-number}
use Rattle.best.specs.Best.{gives}
use Rattle.best.specs.Meaning.{IsBestOver}
use Rattle.best.specs.OfProblem.{Receptions, receptions_of, chosen_over, starts_over, best_fit_over}
use Rattle.best.proofs.Found.{answered}
use Rattle.best.proofs.Over.{answered-over}
use Rattle.rounds.specs.Solve.{normalised}
use Rattle.rounds.specs.Demand.{included, InTime, rounds}
use Rattle.rounds.proofs.Published.{best-formatted, chain-formatted, some-needed}
use Rattle.entry.specs.Numbered.{NoisesHeld, ResidualsAreNumbers}
use Rattle.entry.proofs.Published.{passed-domain}
use Rattle.entry.proofs.Reaches.{edge, metres-in, other-finite}

-- ---- sigma is above 0 and finite
abbrev limit : Float
limit = decimal 1000000000000 0

abbrev least : Float
least = decimal 1 6

abbrev twice : Float
twice = decimal 2000000000000 0

sum-passes : T (check least twice (plus 0 1 ∷ []) (range nought limit ∷ range least limit ∷ []))
unfolding round add le fits of_bits
sum-passes = tt

roots-pass : T (roots (decimal 1 4) (decimal 2000000 0) least twice)
unfolding round
roots-pass = tt

positive-size : (x : Float) → T (positive x) → T (positive (abs x))
unfolding abs
positive-size nan h = h
positive-size (inf s) h = h
positive-size (fin true m e) h = absurd h
positive-size (fin false m e) h = h

sigma-positive : (c v : Float) → IsBinary64 c → IsBinary64 v → T (le nought c) → T (le c limit) → T (le least v) → T (le v limit)
    → T (positive (abs (root (c ⊕ v))))
unfolding round fits of_bits
sigma-positive c v f g a b d e =
    let i : In binary64 nought limit c = record {
      lo-is = nought-is;
      hi-is = (tt, tt);
      is = (f, finite-between nought c limit tt tt a b);
      least = a;
      most = b;
    } in
    let j : In binary64 least limit v = record {
      lo-is = (tt, tt);
      hi-is = (tt, tt);
      is = (g, finite-between least v limit tt tt d e);
      least = d;
      most = e;
    } in
    let s = check_sound least twice (plus 0 1 ∷ []) (range nought limit ∷ range least limit ∷ []) (c ∷ v ∷ []) (i, (j, tt)) sum-passes in
    let r = root_in (decimal 1 4) (decimal 2000000 0) least twice (c ⊕ v) (tt, tt) (tt, tt) roots-pass s in
    positive-size (root (c ⊕ v)) (between (decimal 1 4) (root (c ⊕ v)) (decimal 2000000 0) tt tt r.least r.most)

-- ---- the domain
z-finite : (x : Float) → good_z x ≡ true → T (finite x)
unfolding good_z round of_bits
z-finite x e =
    let most = decimal 3000000000 0 in
    finite-between nought x most tt tt (and_l (le nought x) (le x most) (holds _ e)) (and_r (le nought x) (le x most) (holds _ e))

noise-ends : (x : Float) → good_noise x ≡ true → T (le least x) × T (le x limit)
unfolding good_noise
noise-ends x e = (and_l (le least x) (le x limit) (holds _ e), and_r (le least x) (le x limit) (holds _ e))

diagonal-ends : (j : ℕ) (x : Float) → good_entry j j x ≡ true → T (le nought x) × T (le x limit)
unfolding good_entry
diagonal-ends j x e =
    let t : (le nought x && le x limit) ≡ true = rw (eq-eqb j j refl) at e in
    (and_l (le nought x) (le x limit) (holds _ t), and_r (le nought x) (le x limit) (holds _ t))

abbrev InEdge : Float → Type 0
InEdge v = In binary64 (neg edge) edge v

three-in : (mm : List ℤ) (k : ℕ) → k < 3 → good_coordinate (get_or mm k (pos 0)) ≡ true → InEdge (nth (from_mm mm) k)
unfolding from_mm
three-in mm zero l h = metres-in (get_or mm 0 (pos 0)) h
three-in mm (suc zero) l h = metres-in (get_or mm 1 (pos 0)) h
three-in mm (suc (suc zero)) l h = metres-in (get_or mm 2 (pos 0)) h
three-in mm (suc (suc (suc k))) l h = absurd (omega arith)

upper_fits : (clock : List ℕ) (n k : ℕ) → IsBinary64 (upper_at clock n k)
unfolding upper_at entry_at f64_at
upper_fits clock n k =
    cond-fits binary64 (leb (k / n) (k % n)) (entry_at clock n (k / n) (k % n)) nought (of_bits-fits binary64 _) (of_bits-fits binary64 _)

module _ (I : Inputs) (passes : check_inputs I ≡ passed) where
  checked : (j : ℕ) → j < I.n → check_reception I.at j ≡ passed
  checked j l = first_of (check_reception I.at) I.n j (passed-receptions I passes) l

  at-site : (m j k : ℕ) → m / 3 ≡ j → m % 3 ≡ k → m < 3 * I.n → j < I.n → k < 3 → InEdge (nth (problem_of I).site m)
  unfolding problem_of
  at-site m j k a b l n h =
      let s = few I passes in
      let e = fill-at (floats 96) (λ k. nth (from_mm (I.at (k / 3)).site_mm) (k % 3)) (3 * I.n) m nan l (rw length-replicate (omega arith)) in
      let good = three-in (I.at j).site_mm k h (coordinate-good I.at j (checked j n) k h) in
      subst InEdge (sym e)
      (subst (λ (c : ℕ). InEdge (nth (from_mm (I.at (m / 3)).site_mm) c)) (sym b)
      (subst (λ (i : ℕ). InEdge (nth (from_mm (I.at i).site_mm) k)) (sym a) good))

  site-in : (j : ℕ) → j < I.n → (k : ℕ) → k < 3 → InEdge (nth (site_at (problem_of I).site j) k)
  site-in j l zero h = at-site (3 * j) j 0 (omega arith) (omega arith) (omega arith) l h
  site-in j l (suc zero) h = at-site (3 * j + 1) j 1 (omega arith) (omega arith) (omega arith) l h
  site-in j l (suc (suc zero)) h = at-site (3 * j + 2) j 2 (omega arith) (omega arith) (omega arith) l h
  site-in j l (suc (suc (suc k))) h = absurd (omega arith)

  noise-held : NoisesHeld I → (j : ℕ) → j < I.n → IsBinary64 (nth (problem_of I).noise_m2 j)
  unfolding problem_of fields_of
  noise-held held j l =
      let s = few I passes in
      subst IsBinary64 (sym (fill-at (floats 32) (λ i. (I.at i).noise_m2) I.n j nan l (rw length-replicate (omega arith)))) (held j l)

  clock-held : (j : ℕ) → j < I.n → IsBinary64 (at (problem_of I).clock_m2 I.n j j)
  unfolding problem_of
  clock-held j l =
      let s = few I passes in
      let p = place j j I.n l l in
      let q = room I.n s in
      let clock = Option.get_or I.clock [] in
      subst IsBinary64
      (sym (fill-at (floats 1024) (upper_at clock I.n) (I.n * I.n) (j * I.n + j) nan p (rw length-replicate (omega (arith, p, q)))))
      (upper_fits clock I.n (j * I.n + j))

-- ---- a residual of numbers is one
size-num : (x : Float) → Num x → Num (abs x)
unfolding abs is_nan
size-num nan h = h
size-num (inf s) h = tt
size-num (fin s m e) h = tt

quotient-num : (z t r s : Float) → T (finite z) → Num t → T (finite r) → T (positive (abs s)) → Num (abs (z ⊖ t ⊖ r) ⊘ s)
quotient-num z t r s a b c d =
    num-div binary64 (abs (z ⊖ t ⊖ r)) s (size-num (z ⊖ t ⊖ r) (num-sub binary64 (z ⊖ t) r (sub-num binary64 z t a b) c)) d

-- ---- in every round
module _ (I : Inputs) (passes : check_inputs I ≡ passed) (held : NoisesHeld I) (S : Subset) (p : Option (List Float))
    (t : InTime (rounds (problem_of I)) S p) (enough : (rounds (problem_of I)).minimum ≤ included (rounds (problem_of I)) S) (f : Fit)
    (e : best_fit_over (receptions_of (problem_of I)) S p ≡ gives f) where
  abbrev Q : Problem
  Q = problem_of I

  abbrev R : Receptions
  R = receptions_of Q

  few-read : Q.n ≤ 32
  few-read = (passed-domain I passes).most

  some : 0 < count S Q.n
  some = omega (arith, some-needed Q.altitude, enough)

  one : (i : ℕ) × (i < Q.n) × T (S i)
  one = count-some S Q.n some

  best : (l : List Float) × (i : ℕ) × IsBestOver R S p f l i
  best = ((answered-over R S p).found few-read f).0 e

  formatted : Formatted f.params
  formatted = best-formatted R S p f few-read (chain-formatted Q few-read t.chain tt) e

  place-held : (k : ℕ) → k < 3 → IsBinary64 (nth (position f.params) k)
  place-held zero l = formatted 0 (omega arith)
  place-held (suc zero) l = formatted 1 (omega arith)
  place-held (suc (suc zero)) l = formatted 2 (omega arith)
  place-held (suc (suc (suc k))) l = absurd (omega arith)

  time : Num (nth f.params 3)
  time =
      let C : Chosen = chosen_over R S best.0 in
      let starts = starts_over R S p in
      subst (λ (g : Fit). Num (nth g.params 3)) (sym best.2.best.from)
      (time-number C some (let l = count-le S Q.n in let m = few-read in omega arith) (get_or starts best.1 [])
      ((answered C starts).numbers best.1 best.2.best.leads.weighed.converges.converged))

  way : (j : ℕ) → j < Q.n → T (finite (problem.range Q.site (position f.params) j))
  unfolding problem_of
  way j l =
      other-finite Q.site (position f.params) one.0 j place-held (site-in I passes one.0 one.1) (site-in I passes j l)
      (best.2.near one.0 one.1 one.2)

  spread : (j : ℕ) → j < Q.n → T (positive (abs (sigma Q.clock_m2 Q.n Q.noise_m2 j)))
  unfolding sigma problem_of
  spread j l =
      let d = passed-domain I passes in
      let a = diagonal-ends j (at Q.clock_m2 Q.n j j) (d.clock j j (omega arith) l) in
      let b = noise-ends (nth Q.noise_m2 j) (d.noises j l) in
      sigma-positive (at Q.clock_m2 Q.n j j) (nth Q.noise_m2 j) (clock-held I passes j l) (noise-held I passes held j l)
      a.0 a.1 b.0 b.1

  number : (j : ℕ) → j < Q.n → Num (normalised R f.params j)
  unfolding normalised residual
  number j l =
      quotient-num (nth Q.z j) (transmit_m f.params) (range_at Q.site f.params j) (sigma Q.clock_m2 Q.n Q.noise_m2 j)
      (z-finite (nth Q.z j) ((passed-domain I passes).zs j l)) time (way j l) (spread j l)

pub residuals-are-numbers : ResidualsAreNumbers
residuals-are-numbers I passes held S p t enough f e j l = number I passes held S p t enough f e j l
