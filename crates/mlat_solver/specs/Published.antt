-- Beyond document 02: whatever the solve publishes, everything downstream takes. Of `mlat_solve` and
-- `mlat_solve_receptions`, which leave what entry's `output` says, in the words of the reader (item 1), the wire (item
-- 5), the archive (item 7) and the two ASTERIX items (item 13). Definitions and statements only: proofs/Published.antt
-- proves each.
use Rattle.std.specs.Prelude.{ℕ, ◌+◌, ◌*◌, ◌<◌, ◌≤◌, ◌≡◌, ◌↔◌, List, [], ◌∷◌, T, ℤ, length, replicate, Float}
use Rattle.std.specs.Float.Ieee.{lt, le}
use Rattle.binary64.specs.Steps.{decimal, nought}
use Rattle.binary64.specs.Within.{Within}
use Rattle.dense.specs.Factor.{found, cholesky}
use Rattle.words.specs.Words.{f64_at}
use Rattle.record.specs.Record.{record_bytes}
use Rattle.refusals.specs.Refusals.{answer_of}
use Rattle.reader.specs.Rules.{Finite}
use Rattle.reader.specs.Read.{read_of}
use Rattle.wire.specs.Wire.{to_wire}
use Rattle.asterix.specs.Items.{to_answer}
use Rattle.inputs.specs.Inputs.{Inputs}
use Rattle.entry.specs.Reply.{answer}
use Rattle.mlat_solver.specs.Solved.{solved_record, Moves}
use Rattle.mlat_solver.specs.Positions.{wire_of, numbers_after}

-- S holds of the record of every fix, for every input
abbrev pub OfEveryFix : (List ℕ → Type 0) → Type 0
OfEveryFix S = (I : Inputs) (out : List ℕ) → record_bytes ≤ length out → answer I out ≡ 0 → S (solved_record I out)

-- ---- what a fix shows

-- every float of a fix but chi-square is finite: ECEF, T and the position from byte 16 on, the covariance from 80 on
abbrev pub FixesAreFinite : Type 0
FixesAreFinite =
    OfEveryFix (λ s. ((i : ℕ) → i < 7 → Finite s (16 + 8 * i)) × ((i : ℕ) → i < 9 → Finite s (80 + 8 * i)))

-- its latitude lies within ±90 degrees, and its longitude within ±180
abbrev pub FixesLieOnEarth : Type 0
FixesLieOnEarth = OfEveryFix (λ s. Within (decimal 90 0) (f64_at s 48) × Within (decimal 180 0) (f64_at s 56))

-- each of its variances is above 0 and at most 1,500²
abbrev pub ClaimsArePositive : Type 0
ClaimsArePositive =
    OfEveryFix (λ s.
    (axis : ℕ) → axis < 3
    → T (lt nought (f64_at s (80 + 32 * axis))) × T (le (f64_at s (80 + 32 * axis)) (decimal 2250000 0)))

-- the nine floats of its covariance, rows in order
abbrev pub covariance_at : List ℕ → List Float
covariance_at s =
    f64_at s 80 ∷ f64_at s 88 ∷ f64_at s 96
    ∷ f64_at s 104 ∷ f64_at s 112 ∷ f64_at s 120
    ∷ f64_at s 128 ∷ f64_at s 136 ∷ f64_at s 144 ∷ []

-- its covariance has a Cholesky factor, which linalg.rs finds in the nine floats that its bytes show
abbrev pub ClaimsAreDefinite : Type 0
ClaimsAreDefinite = OfEveryFix (λ s. (l : List Float) × (cholesky (covariance_at s) 3 (replicate 9 nought) ≡ found l))

-- its chi-square is a number, and not below 0: finite, or plus infinity
abbrev pub Chi2IsNotNegative : Type 0
Chi2IsNotNegative = OfEveryFix (λ s. T (le nought (f64_at s 152)))

-- ---- who takes it

-- chi-square, from byte 152 on
abbrev pub FiniteChi2 : List ℕ → Type 0
FiniteChi2 s = Finite s 152

-- the reader takes the record apart exactly where its chi-square is finite
abbrev pub ReadExactlyWhere : Type 0
ReadExactlyWhere = OfEveryFix (λ s. (answer_of (read_of s) ≡ 0) ↔ FiniteChi2 s)

-- s is read and moved; `mlat_to_wire` answers 0 to it; and to the three whole numbers that it then leaves in place of
-- `found`, whoever lends ten bytes, `mlat_to_asterix` answers 0
pub record Taken (s : List ℕ) : Type 0 where
  pub moves : Moves s
  pub wire : answer_of (to_wire s) ≡ 0
  pub asterix
      : (found : List ℤ) (items : List ℕ) → length items ≡ 10
      → to_answer (wire_of (numbers_after (to_wire s) found)) items ≡ 0

-- so is every fix whose chi-square is finite
abbrev pub FixesAreTaken : Type 0
FixesAreTaken = OfEveryFix (λ s. FiniteChi2 s → Taken s)
