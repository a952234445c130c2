-- The floats of a fix are finite: a range of 600,000 m at most has finite coordinates, a normalised residual of 5 at most a finite T, a height within
-- its limits is that of a place, and a covariance that passes its tests has finite entries. Assumes nothing.
use Rattle.std.proofs.Common.{◌≡◌, ℕ, zero, suc, ◌<◌, ◌≤◌, true, false, not, T, eqb, ◌⊎◌, List, [], get_or, replicate, sym, ap, ◌∙◌, subst, inl, inr, arith}
use mathlib.Core.Option.{Option, none, some}
use lib.Ieee.{Float, nan, inf, fin, binary64, round, neg, lt, le, is_nan, of_bits}
use lib.Ieee.Fits.{add-fits, sub-fits, mul-fits, cond-fits}
use lib.Ieee.Scale.{finite}
use Rattle.binary64.specs.Steps.{◌⊕◌, ◌⊖◌, ◌⊗◌, ◌⊘◌, nought, one, decimal, abs}
use Rattle.binary64.specs.Meaning.{IsBinary64}
use Rattle.binary64.specs.Within.{Within}
use Rattle.binary64.proofs.Clear.{clear}
use Rattle.binary64.proofs.Interval.{finite-between}
use Rattle.binary64.proofs.Less.{le_of_not_lt}
use Rattle.binary64.proofs.Numbers.{finite-num}
use Rattle.binary64.proofs.Order.{finite-is}
use Rattle.geo.specs.Geo.{E2, to_degrees, height, bowring, bowring_to, from_ecef}
use Rattle.geo.specs.Meaning.{IsFinite}
use Rattle.geo.specs.declared.Geodetic.{Geodetic}
use Rattle.dense.specs.Entries.{nth, at}
use Rattle.dense.specs.Inverse.{inverse}
use Rattle.dense.proofs.Symmetry.{inverse-symmetric}
use Rattle.sets.specs.Sets.{Subset, most_receptions}
use Rattle.sets.proofs.Counting.{count-some}
use Rattle.problem.specs.declared.Altitude.{Altitude}
use Rattle.problem.specs.declared.Altitude.TheVariants.{None, Barometric, Gnss}
use Rattle.problem.specs.declared.Problem.{Problem}
use Rattle.problem.specs.Problem.{site_at, position, minimum, range}
use Rattle.whitening.specs.Covariance.{sigma}
use Rattle.whitening.specs.Whitened.{residual}
use Rattle.limits.specs.Heights.{min_height_m, max_height_m}
use Rattle.limits.specs.Local.{entry, error_inflation, error_floor_m, inflated}
use Rattle.limits.specs.Mirrored.{Mirrored}
use Rattle.limits.proofs.Mirrors.{published-mirrored}
use Rattle.damped.specs.declared.Fit.{Fit}
use Rattle.best.specs.Plausible.{max_range_m}
use Rattle.best.specs.Best.{gives}
use Rattle.best.specs.OfProblem.{Receptions, receptions_of, starts_over, best_fit_over}
use Rattle.best.proofs.Found.{answered}
use Rattle.best.proofs.Over.{answered-over}
use Rattle.record.specs.declared.content.Fix.{Fix}
use Rattle.rounds.specs.Setting.{five, fix}
use Rattle.rounds.specs.Finish.{max_variance_m2}
use Rattle.rounds.specs.Solve.{normalised, solve_problem}
use Rattle.rounds.specs.Later.{Certain, covariance_by}
use Rattle.rounds.specs.Demand.{Fitted, Change, removal, return, Chain, start, then, Fixed, Found, rounds, remaining, used_by, params_by}
use Rattle.rounds.specs.Demand.{whitened_by}
use Rattle.rounds.specs.Mirrored.{covariance}
use Rattle.rounds.proofs.Found.{demand-met}
use Rattle.whitening.proofs.Formatted.{Formatted}
use Rattle.starts.proofs.Formatted.{starts-formatted}
use Rattle.damped.proofs.Formatted.{zeros-formatted, fit-formatted}
use Rattle.damped.proofs.CostSign.{fit-plain}
use Rattle.binary64.proofs.Finite.{not-less, add-finite, sub-finite, mul-finite, root-under, size-under, root-clear, add-clear-of}
use Rattle.rounds.proofs.Definite.{variance-finite, above, diagonal, lower}
use Rattle.geo.proofs.Centre.{place-finite}
use Rattle.geo.proofs.OnEarth.{on-earth}

-- ---- what is proved of every fix

-- no clock's variance is below 0, and every noise is above 0: so it is in document 01's domain
abbrev pub Noisy : Problem → Type 0
Noisy P =
    (j : ℕ) → j < P.n → T (le nought (at P.clock_m2 P.n j j)) × T (lt nought (nth P.noise_m2 j))

-- every float of a fix but chi-square is a finite binary64
pub record FiniteFix (x : Fix) : Type 0 where
  pub ecef : (j : ℕ) → j < 3 → IsFinite (nth x.ecef j)
  pub t : IsFinite x.t
  pub lat : IsFinite x.position.lat_deg
  pub lon : IsFinite x.position.lon_deg
  pub height : IsFinite x.position.height_m
  pub claims : (i j : ℕ) → i < 3 → j < 3 → IsFinite (entry (covariance x) i j)

-- every variance is above 0 and at most 1,500²
abbrev pub Claimed : Fix → Type 0
Claimed x =
    (axis : ℕ) → axis < 3
    → T (lt nought (entry (covariance x) axis axis)) × T (le (entry (covariance x) axis axis) max_variance_m2)

-- "Latitude within ±90 and longitude within ±180": the place is one on earth
abbrev pub OnEarth : Fix → Type 0
OnEarth x = Within (decimal 90 0) x.position.lat_deg × Within (decimal 180 0) x.position.lon_deg

abbrev pub FixFinite : Type 0
FixFinite =
    (P : Problem) → P.n ≤ most_receptions → Noisy P → (x : Fix) → solve_problem P ≡ fix x → FiniteFix x

abbrev pub FixClaimed : Type 0
FixClaimed = (P : Problem) → P.n ≤ most_receptions → (x : Fix) → solve_problem P ≡ fix x → Claimed x

abbrev pub FixOnEarth : Type 0
FixOnEarth = (P : Problem) → P.n ≤ most_receptions → (x : Fix) → solve_problem P ≡ fix x → OnEarth x

-- chi-square is a number that is not below 0, or plus infinity
abbrev pub Chi2Up : Fix → Type 0
Chi2Up x = IsBinary64 x.chi2 × T (le nought x.chi2)

abbrev pub FixChi2Up : Type 0
FixChi2Up = (P : Problem) → P.n ≤ most_receptions → (x : Fix) → solve_problem P ≡ fix x → Chi2Up x

-- ---- the parameters of every round are values of binary64
abbrev pub Before : Option (List Float) → Type 0
Before none = Unit {0}
Before (some p) = Formatted p

start-formatted : (R : Receptions) (S : Subset) (p : Option (List Float)) → Before p → (i : ℕ) → Formatted (get_or (starts_over R S p) i [])
start-formatted R S none h i = starts-formatted _ _ _ _ _ _ zeros-formatted i
start-formatted R S (some q) h i = starts-formatted _ _ _ _ _ _ h i

pub best-formatted
    : (R : Receptions) (S : Subset) (p : Option (List Float)) (f : Fit) → R.n ≤ 32 → Before p → best_fit_over R S p ≡ gives f → Formatted f.params
best-formatted R S p f N h e =
    let b = ((answered-over R S p).found N f).0 e in
    subst (λ (g : Fit). Formatted g.params) (sym b.2.best.from) (fit-formatted _ _ (start-formatted R S p h b.1))

module _ (P : Problem) (N : P.n ≤ 32) where
  change-fitted : {S S' : Subset} {p : Option (List Float)} {f : Fit} → Change (rounds P) S p S' f → Fitted (rounds P) S p f
  change-fitted (removal i h w g) = h
  change-fitted (return i h a l g) = h

  pub chain-formatted : {k : ℕ} {S E : Subset} {p q : Option (List Float)} → Chain (rounds P) k S p E q → Before p → Before q
  chain-formatted start h = h
  chain-formatted {S = S} {p = p} (then {f = f} c s) h =
      chain-formatted s (best-formatted (receptions_of P) S p f N h (change-fitted c).best)

  fixed-formatted : (x : Fix) (h : Fixed (rounds P) (remaining P) x) → Formatted h.best.params
  fixed-formatted x h =
      best-formatted (receptions_of P) h.used h.before h.best N (chain-formatted h.in_time.chain tt) h.settled.fitted.best

-- ---- coordinates
range-finite : T (finite max_range_m)
unfolding max_range_m round
range-finite = tt

coordinates-finite
    : (sites e : List Float) (j : ℕ) → T (le (range sites e j) max_range_m) → (k : ℕ) → k < 3 → T (finite (nth e k))
coordinates-finite sites e j h = each
  where
    d : ℕ → Float
    d k = nth e k ⊖ nth (site_at sites j) k

    sum : T (finite (d 0 ⊗ d 0 ⊕ d 1 ⊗ d 1 ⊕ d 2 ⊗ d 2))
    sum = root-under (d 0 ⊗ d 0 ⊕ d 1 ⊗ d 1 ⊕ d 2 ⊗ d 2) max_range_m range-finite h

    of : (k : ℕ) → T (finite (d k ⊗ d k)) → T (finite (nth e k))
    of k t = (sub-finite binary64 (nth e k) (nth (site_at sites j) k) (mul-finite binary64 (d k) (d k) t).0).0

    two : T (finite (d 0 ⊗ d 0)) × T (finite (d 1 ⊗ d 1))
    two = add-finite binary64 (d 0 ⊗ d 0) (d 1 ⊗ d 1) (add-finite binary64 (d 0 ⊗ d 0 ⊕ d 1 ⊗ d 1) (d 2 ⊗ d 2) sum).0

    each : (k : ℕ) → k < 3 → T (finite (nth e k))
    each zero l = of 0 two.0
    each (suc zero) l = of 1 two.1
    each (suc (suc zero)) l = of 2 (add-finite binary64 (d 0 ⊗ d 0 ⊕ d 1 ⊗ d 1) (d 2 ⊗ d 2) sum).1
    each (suc (suc (suc k))) l = absurd (omega arith)

-- ---- T
five-finite : T (finite five)
unfolding of_bits
five-finite = tt

above-clear : (y : Float) → T (lt nought y) → T (clear y)
unfolding lt of_bits
above-clear nan h = h
above-clear (inf true) h = absurd h
above-clear (inf false) h = tt
above-clear (fin true m e) h = absurd h
above-clear (fin false m e) h = tt

sigma-clear
    : (clock noise : List Float) (n j : ℕ) → T (le nought (at clock n j j)) → T (lt nought (nth noise j)) → T (clear (sigma clock n noise j))
unfolding sigma
sigma-clear clock noise n j h k =
    root-clear (at clock n j j ⊕ nth noise j) (add-clear-of (at clock n j j) (nth noise j) h (above-clear (nth noise j) k))

transmit-finite : (P : Problem) (x : Fix) (j : ℕ) → T (clear (sigma P.clock_m2 P.n P.noise_m2 j))
    → T (le (normalised (receptions_of P) (params_by P x) j) five) → T (finite x.t)
unfolding normalised residual
transmit-finite P x j c h =
    let far = range P.site (position (params_by P x)) j in
    let r = size-under (nth P.z j ⊖ x.t ⊖ far) (sigma P.clock_m2 P.n P.noise_m2 j) five c five-finite h in
    (sub-finite binary64 (nth P.z j) x.t (sub-finite binary64 (nth P.z j ⊖ x.t) far r).0).1

-- ---- the place
min-finite : T (finite min_height_m)
unfolding min_height_m round neg
min-finite = tt

max-finite : T (finite max_height_m)
unfolding max_height_m round
max-finite = tt

height-formatted : (p z s c n : Float) → IsBinary64 (height p z s c n)
unfolding height
height-formatted p z s c n =
    cond-fits binary64 (lt (decimal 1 9) (abs c)) (p ⊘ c ⊖ n) (abs z ⊘ abs s ⊖ n ⊗ (one ⊖ E2)) (sub-fits binary64 (p ⊘ c) n)
    (sub-fits binary64 (abs z ⊘ abs s) (n ⊗ (one ⊖ E2)))

place-formatted
    : (e : List Float) → IsBinary64 (from_ecef e).lat_deg × IsBinary64 (from_ecef e).lon_deg × IsBinary64 (from_ecef e).height_m
unfolding from_ecef to_degrees bowring_to bowring
place-formatted e = (mul-fits binary64 _ _, mul-fits binary64 _ _, height-formatted _ _ _ _ _)

-- ---- the covariance
inflated-formatted : (i j : ℕ) (v : Float) → IsBinary64 (inflated i j v)
unfolding inflated
inflated-formatted i j v =
    cond-fits binary64 (eqb i j) (v ⊗ error_inflation ⊗ error_inflation ⊕ error_floor_m ⊗ error_floor_m) (v ⊗ error_inflation ⊗ error_inflation)
    (add-fits binary64 (v ⊗ error_inflation ⊗ error_inflation) (error_floor_m ⊗ error_floor_m))
    (mul-fits binary64 (v ⊗ error_inflation) error_inflation)

module _ (m : List Float) (certain : Certain (covariance_by m)) where
  abbrev c : List (List Float)
  c = covariance_by m

  abbrev inverted : List Float
  inverted = inverse m 4 (replicate 16 nought)

  mirrored : Mirrored c
  mirrored = published-mirrored inverted (inverse-symmetric m 4 (replicate 16 nought) (omega arith))

  abbrev fit : (i j : ℕ) → IsBinary64 (inflated i j (at inverted 4 i j))
  fit i j = inflated-formatted i j (at inverted 4 i j)

  aboves : (T (lt nought (entry c 0 0))) × (T (lt nought (entry c 1 1))) × (T (lt nought (entry c 2 2)))
  aboves = above c certain (fit 1 1) (fit 2 2)

  diagonals : (T (finite (entry c 0 0))) × (T (finite (entry c 1 1))) × (T (finite (entry c 2 2)))
  diagonals = diagonal c certain (fit 1 1) (fit 2 2)

  lowers : (T (finite (entry c 1 0))) × (T (finite (entry c 2 0))) × (T (finite (entry c 2 1)))
  lowers = lower c certain (fit 1 1) (fit 2 2)

  up : (i j : ℕ) → i < 3 → j < 3 → T (finite (entry c j i)) → T (finite (entry c i j))
  up i j p q h = subst (λ (v : Float). T (finite v)) (mirrored j i q p) h

  entries-finite : (i j : ℕ) → i < 3 → j < 3 → IsFinite (entry c i j)
  entries-finite zero zero p q = (fit 0 0, finite-is _ diagonals.0)
  entries-finite zero (suc zero) p q = (fit 0 1, finite-is _ (up 0 1 p q lowers.0))
  entries-finite zero (suc (suc zero)) p q = (fit 0 2, finite-is _ (up 0 2 p q lowers.1))
  entries-finite (suc zero) zero p q = (fit 1 0, finite-is _ lowers.0)
  entries-finite (suc zero) (suc zero) p q = (fit 1 1, finite-is _ diagonals.1)
  entries-finite (suc zero) (suc (suc zero)) p q = (fit 1 2, finite-is _ (up 1 2 p q lowers.2))
  entries-finite (suc (suc zero)) zero p q = (fit 2 0, finite-is _ lowers.1)
  entries-finite (suc (suc zero)) (suc zero) p q = (fit 2 1, finite-is _ lowers.2)
  entries-finite (suc (suc zero)) (suc (suc zero)) p q = (fit 2 2, finite-is _ diagonals.2)
  entries-finite zero (suc (suc (suc j))) p q = absurd (omega arith)
  entries-finite (suc zero) (suc (suc (suc j))) p q = absurd (omega arith)
  entries-finite (suc (suc zero)) (suc (suc (suc j))) p q = absurd (omega arith)
  entries-finite (suc (suc (suc i))) j p q = absurd (omega arith)

  at_most : (v : Float) → T (finite v) → T (not (lt max_variance_m2 v)) → T (le v max_variance_m2)
  at_most v f n = le_of_not_lt max_variance_m2 v (finite-num max_variance_m2 variance-finite) (finite-num v f) n

  variances : (axis : ℕ) → axis < 3 → T (lt nought (entry c axis axis)) × T (le (entry c axis axis) max_variance_m2)
  variances zero p = (aboves.0, at_most (entry c 0 0) diagonals.0 (certain.narrow 0 p))
  variances (suc zero) p = (aboves.1, at_most (entry c 1 1) diagonals.1 (certain.narrow 1 p))
  variances (suc (suc zero)) p = (aboves.2, at_most (entry c 2 2) diagonals.2 (certain.narrow 2 p))
  variances (suc (suc (suc k))) p = absurd (omega arith)

-- ---- chi-square
not-below : (v : Float) → T (clear v) ⊎ (v ≡ nan) → T (not (is_nan v)) → T (le nought v)
unfolding le lt is_nan of_bits
not-below nan (inl c) n = absurd c
not-below (inf true) (inl c) n = absurd c
not-below (inf false) (inl c) n = tt
not-below (fin true m e) (inl c) n = absurd c
not-below (fin false m e) (inl c) n = not-less m e
not-below v (inr e) n = absurd (subst (λ (u : Float). T (not (is_nan u))) e n)

-- ---- every fix
pub some-needed : (a : Altitude) → 0 < minimum a
some-needed None = omega arith
some-needed (Barometric m) = omega arith
some-needed (Gnss m) = omega arith

module _ (P : Problem) (N : P.n ≤ 32) (x : Fix) (h : Fixed (rounds P) (remaining P) x) where
  abbrev found : Found P x h
  found = (demand-met P N).found x h

  one-used : (j : ℕ) × (j < P.n) × T (used_by P x j)
  one-used = let e = found.enough in count-some (used_by P x) P.n (omega (arith, some-needed P.altitude, e))

  abbrev e : List Float
  e = position h.best.params

  same : e ≡ x.ecef
  same = found.shows.0

  ecef-is : (k : ℕ) → k < 3 → IsFinite (nth e k)
  ecef-is k l = (formatted k l, finite-is (nth e k) (coordinates-finite P.site e one-used.0 near k l))
    where
      near : T (le (range P.site e one-used.0) max_range_m)
      near = subst (λ (v : List Float). T (le (range P.site v one-used.0) max_range_m)) (sym same) (found.near one-used.0 one-used.2)

      formatted : (k : ℕ) → k < 3 → IsBinary64 (nth e k)
      formatted zero l = fixed-formatted P N x h 0 (omega arith)
      formatted (suc zero) l = fixed-formatted P N x h 1 (omega arith)
      formatted (suc (suc zero)) l = fixed-formatted P N x h 2 (omega arith)
      formatted (suc (suc (suc k))) l = absurd (omega arith)

  t-is : Noisy P → IsFinite x.t
  t-is noisy = (
    subst IsBinary64 found.shows.1 (fixed-formatted P N x h 3 (omega arith)),
    finite-is x.t
        (transmit-finite P x one-used.0
        (sigma-clear P.clock_m2 P.noise_m2 P.n one-used.0 (noisy one-used.0 one-used.1).0
        (noisy one-used.0 one-used.1).1)
        (found.within one-used.0 one-used.2)),
  )

  placed : from_ecef e ≡ x.position
  placed = ap from_ecef same ∙ sym found.placed

  height-finite : T (finite (from_ecef e).height_m)
  height-finite =
      subst (λ (g : Geodetic). T (finite g.height_m)) (sym placed)
      (finite-between min_height_m x.position.height_m max_height_m min-finite max-finite found.above found.below)

  finite-fix : Noisy P → FiniteFix x
  finite-fix noisy =
      let f = place-formatted e in
      let p = place-finite (nth e 0) (nth e 1) (nth e 2) (ecef-is 0 (omega arith)) (ecef-is 1 (omega arith)) (ecef-is 2 (omega arith))
      height-finite in
      record {
        ecef = λ j l. subst (λ (v : List Float). IsFinite (nth v j)) same (ecef-is j l);
        t = t-is noisy;
        lat = subst (λ (g : Geodetic). IsFinite g.lat_deg) placed (f.0, p.0);
        lon = subst (λ (g : Geodetic). IsFinite g.lon_deg) placed (f.1, p.1);
        height = subst (λ (g : Geodetic). IsFinite g.height_m) placed (f.2, finite-is _ height-finite);
        claims = λ i j p q. subst (λ (y : Fix). IsFinite (entry (covariance y) i j)) (sym h.shown.shows)
            (entries-finite h.shown.m h.shown.certain i j p q);
      }

  fixed-on-earth : OnEarth x
  unfolding min_height_m max_height_m
  fixed-on-earth =
      let r : (g : Geodetic) → x.position ≡ g → T (le min_height_m g.height_m) × T (le g.height_m max_height_m) =
      λ g s. subst (λ (v : Geodetic). T (le min_height_m v.height_m) × T (le v.height_m max_height_m)) s (found.above, found.below) in
      let w = r (from_ecef e) (sym placed) in
      subst (λ (g : Geodetic). Within (decimal 90 0) g.lat_deg × Within (decimal 180 0) g.lon_deg) placed
      (on-earth (nth e 0) (nth e 1) (nth e 2) (ecef-is 0 (omega arith)) (ecef-is 1 (omega arith)) (ecef-is 2 (omega arith)) (place-formatted e).2
      w.0 w.1)

  chi2-up : Chi2Up x
  chi2-up =
      let b = found.best in
      let same : h.best.cost ≡ x.chi2 = found.shows.2 in
      let number = (answered (whitened_by P x found.factor) (starts_over (receptions_of P) (used_by P x) h.before)).numbers found.from
      b.leads.weighed.converges.converged in
      let plain = fit-plain (whitened_by P x found.factor) (get_or (starts_over (receptions_of P) (used_by P x) h.before) found.from []) in
      subst (λ (v : Float). IsBinary64 v × T (le nought v)) (sym (ap (λ (f : Fit). f.cost) b.from) ∙ same)
      (plain.0, not-below _ plain.1 number)

pub fix-chi2-up : FixChi2Up
fix-chi2-up P N x q = chi2-up P N x (((demand-met P N).claim.fixed x).0 q)

pub fix-on-earth : FixOnEarth
fix-on-earth P N x q = fixed-on-earth P N x (((demand-met P N).claim.fixed x).0 q)

pub fix-finite : FixFinite
fix-finite P N noisy x q = finite-fix P N x (((demand-met P N).claim.fixed x).0 q) noisy

pub fix-claimed : FixClaimed
fix-claimed P N x q = let h = ((demand-met P N).claim.fixed x).0 q in
    subst Claimed (sym h.shown.shows) (variances h.shown.m h.shown.certain)
