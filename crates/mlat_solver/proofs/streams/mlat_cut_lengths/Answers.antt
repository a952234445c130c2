-- `mlat_solver::streams::mlat_cut_lengths` meets its contract: the four numbers are the lengths that `stream::kept` takes, and the array has
-- the four that it gives. Assumes nothing.
use mathlib.Core.Path.{ap, ◌∙◌}
use Rattle.stream.specs.Frames.{kept}
use Rattle.mlat_solver.specs.Streams.{four_of}
use Rattle.mlat_solver.proofs.streams.mlat_cut_lengths.Goals as goal

pub returns : goal.returns
returns c = ap four_of (c.kept-enough.ensures ∙ ap kept c.head.ensures)
