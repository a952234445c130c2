-- Document 01's whole outputs that no reception decides, by computing: the statement of specs/Outputs.antt. Assumes nothing.
use mathlib.Core.Path.{◌≡◌, refl}
use mathlib.Core.List.{[], ◌∷◌}
use lib.ListN.{replicate}
use Rattle.entry.specs.Reply.{lent, reply}
use Rattle.entry.specs.Outputs.{WholeOutputs}

all-absent : reply (lent [] [] [] [] 0) ≡ record { number = 7; bytes = 7 ∷ replicate 175 0 }
unfolding reply Rattle.sets.specs.Mask.has Rattle.inputs.specs.Inputs.check_inputs Rattle.inputs.specs.Inputs.untorn Rattle.inputs.specs.Faults.first_to
    Rattle.record.specs.Record.refusal Rattle.words.specs.Words.put_u32
all-absent = refl

empty-clock : reply (lent [] [] [] [] 1) ≡ record { number = 1; bytes = 1 ∷ replicate 175 0 }
unfolding reply Rattle.sets.specs.Mask.has Rattle.inputs.specs.Inputs.check_inputs Rattle.inputs.specs.Inputs.untorn Rattle.inputs.specs.Faults.first_to
    Rattle.inputs.specs.Inputs.problem_of Rattle.record.specs.Record.refusal Rattle.words.specs.Words.put_u32 Rattle.rounds.specs.Solve.solve_problem
    Rattle.rounds.specs.Rounds.outlier_rounds Rattle.sets.specs.Sets.count
empty-clock = refl

pub whole-outputs : WholeOutputs
whole-outputs = record { all_absent = all-absent; empty_clock = empty-clock }
