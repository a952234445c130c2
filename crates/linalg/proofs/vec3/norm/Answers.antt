-- `linalg::vec3::norm` meets its contract: it is the root that `sqrt` ensures, of the product that `dot` ensures. Assumes nothing.
use Rattle.linalg.proofs.vec3.norm.Goals as goal

pub returns : goal.returns
returns c = rw (c.sqrt.ensures, c.dot.ensures)
