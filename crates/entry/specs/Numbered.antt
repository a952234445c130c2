-- Document 01: "Where a kept reception's normalised residual is not a number, used or left out, the outlier round ends
-- in 6". No problem comes to it. Statement only: proofs/Numbered.antt proves it.
use Rattle.std.specs.Prelude.{◌≡◌, not, List, ℕ, ◌<◌, ◌≤◌, T, Float}
use Rattle.std.proofs.Math.Option.{Option}
use Rattle.std.specs.Float.Ieee.{is_nan}
use Rattle.binary64.specs.Meaning.{IsBinary64}
use Rattle.sets.specs.Sets.{Subset}
use Rattle.inputs.specs.Faults.{passed}
use Rattle.inputs.specs.Inputs.{Inputs, check_inputs, problem_of}
use Rattle.damped.specs.declared.Fit.{Fit}
use Rattle.best.specs.Best.{gives}
use Rattle.rounds.specs.Demand.{included, InTime, rounds}

-- each noise is a binary64, as every f64 is
abbrev pub NoisesHeld : Inputs → Type 0
NoisesHeld I = (i : ℕ) → i < I.n → IsBinary64 (I.at i).noise_m2

-- Of inputs that nothing turns away: in every round, over S and after p, the normalised residual of each reception at
-- the best fit is a number. So nothing meets `unnumbered` of rounds' `Ends`.
abbrev pub ResidualsAreNumbers : Type 0
ResidualsAreNumbers =
    (I : Inputs) → check_inputs I ≡ passed → NoisesHeld I
    → (S : Subset) (p : Option (List Float)) → InTime (rounds (problem_of I)) S p
    → (rounds (problem_of I)).minimum ≤ included (rounds (problem_of I)) S
    → (f : Fit) → (rounds (problem_of I)).best_fit S p ≡ gives f
    → (j : ℕ) → j < (rounds (problem_of I)).n → T (not (is_nan ((rounds (problem_of I)).residual f j)))
