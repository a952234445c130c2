-- `screen::mark` meets its contract. The invariant: reception i and those below j are compared (`Marked`). A failing pair puts a bit into
-- the rows of both (`marked-fails`), any other changes nothing (`marked-passes`). Assumes nothing.
use mathlib.Core.Path.{◌≡◌}
use lib.ListN.{length}
use Rattle.screen.proofs.Rows.{Marked}
use Rattle.screen.proofs.mark.Given as goal

abbrev pub invariant-loop-j : goal.invariant-loop-j
invariant-loop-j l = (length l.rows ≡ 32) × Marked l.times l.sites l.rows l.i l.j
