-- `best::near` meets its contract. The range is the root of what `dot` gives, by what the three calls ensure, and the test of the root is that of the
-- square (`near-is`). Assumes nothing.
use mathlib.Core.Path.{sym}
use Rattle.linalg.specs.Vec3.{sub}
use Rattle.problem.specs.Problem.{site_at}
use Rattle.best.proofs.Constants.{farthest}
use Rattle.best.proofs.Squares.{near-is}
use Rattle.best.proofs.near.Goals as goal

pub returns : goal.returns
returns c =
    let s = c.args in
    rw (farthest, c.dot.ensures, c.sub-delta.ensures, c.site.ensures)
    (sym (near-is (sub s.x (site_at s.sites.now s.i))))
