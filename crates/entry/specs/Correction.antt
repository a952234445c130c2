-- What the correction of document 02's Item 8 comes to, of the whole reply. Statements only: proofs/Correction.antt
-- proves them.
use Rattle.std.specs.Prelude.{ℕ, ◌<◌, ◌≡◌, List, get_or, Ok, Err}
use Rattle.std.proofs.Math.Option.{some}
use Rattle.words.specs.Words.{u64_at}
use Rattle.inputs.specs.Faults.{Check}
use Rattle.inputs.specs.Inputs.{Inputs}
use Rattle.inputs.specs.Uncorrected.{old_check_inputs, old_problem, Uncorrected}
use Rattle.rounds.specs.Solve.{solve_problem}
use Rattle.entry.specs.declared.Reply.{Reply}
use Rattle.entry.specs.Reply.{answered, turned_away, reply}

-- document 01's reply: one altitude, which is solved with and shown
abbrev pub old_replied : Check → Inputs → Reply
old_replied (Err fault) I = turned_away fault I.n
old_replied (Ok _) I = answered I.n (old_problem I).altitude (solve_problem (old_problem I))

-- "A correction of 0 is not added at all, since -0 metres would change, and with it each old answer stays."
abbrev pub OldAnswersStay : Type 0
OldAnswersStay = (I : Inputs) → Uncorrected I.altitude → reply I ≡ old_replied (old_check_inputs I) I

-- "The fix shows the metres as given.": in its bytes from 168 on, to the bit, whatever the correction
abbrev pub MetresAsGiven : Type 0
MetresAsGiven =
    (I : Inputs) (altitude : List ℕ) → I.altitude ≡ some altitude → ((k : ℕ) → get_or altitude k 0 < 256)
    → (reply I).number ≡ 0 → u64_at (reply I).bytes 168 ≡ u64_at altitude 8
