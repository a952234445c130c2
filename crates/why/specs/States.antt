-- Document 02, item 9: the state of each reception of a solved problem, and the bytes that tell it. Definitions only;
-- Meaning.antt says what they come to.
use Rattle.std.specs.Prelude.{Bool, cond, List, [], ◌∷◌, ℕ, zero, suc, ◌+◌, ◌*◌, ltb, Float}
use Rattle.binary64.specs.Steps.{nought}
use Rattle.screen.specs.Pair as pair
use Rattle.screen.specs.Turns.{turn_of, clash_of}
use Rattle.problem.specs.declared.Problem.{Problem}
use Rattle.record.specs.declared.content.Fix.{Fix}
use Rattle.record.specs.Record.{Row, from, u32, f64, written}
use Rattle.rounds.specs.Demand.{used_by, residual_by}
use Rattle.why.specs.declared.State.{State}
use Rattle.why.specs.declared.State.TheVariants.{Used, Removed, LeftOut}

-- ---- the state

-- of a reception that the fix uses or not, that goes in this turn of the screen (0 where it is kept) with this clash
-- count, and has this normalised residual
abbrev pub state_by : Bool → ℕ → ℕ → Float → State
state_by used turn clashes z = cond used (Used z) (cond (ltb 0 turn) (Removed turn clashes) (LeftOut z))

-- which pairs of a problem's receptions fail the screen
abbrev pub clashing : Problem → ℕ → ℕ → Bool
clashing P = pair.fails P.time P.site_mm P.n

module _ (P : Problem) (x : Fix) where
  -- the normalised residual of reception j at the parameters of the fix
  abbrev pub residual_at : ℕ → Float
  residual_at = residual_by P x

  -- the state of reception j in the fix x of the problem P
  unfoldable pub state_of : ℕ → State
  state_of j = state_by (used_by P x j) (turn_of P.n (clashing P) j) (clash_of P.n (clashing P) j) (residual_at j)

-- ---- its bytes: "20 bytes each: u32 state (1 used, 2 removed, 3 left out), u32 turn, u32 clash count, f64 residual,
-- zero bytes where a state has none"

abbrev pub number_of : State → ℕ
number_of (Used z) = 1
number_of (Removed t c) = 2
number_of (LeftOut z) = 3

abbrev pub turn_in : State → ℕ
turn_in (Used z) = 0
turn_in (Removed t c) = t
turn_in (LeftOut z) = 0

abbrev pub clashes_in : State → ℕ
clashes_in (Used z) = 0
clashes_in (Removed t c) = c
clashes_in (LeftOut z) = 0

abbrev pub residual_in : State → Float
residual_in (Used z) = z
residual_in (Removed t c) = nought
residual_in (LeftOut z) = z

-- from byte k on
abbrev pub rows_at : ℕ → State → List Row
rows_at k s =
    from k (u32 (number_of s))
    ∷ from (k + 4) (u32 (turn_in s))
    ∷ from (k + 8) (u32 (clashes_in s))
    ∷ from (k + 12) (f64 (residual_in s))
    ∷ []

-- the lent bytes once the states of the first k receptions are in them, "in input order"
unfoldable pub states_to : List ℕ → (ℕ → State) → ℕ → List ℕ
states_to out state zero = out
states_to out state (suc k) = written (states_to out state k) (rows_at (20 * k) (state k))
