-- `whitening::rows::place` meets its contract. By the kinds of altitude. Assumes nothing.
use Rattle.whitening.proofs.rows.place.Goals as goal

pub returns-in-None : goal.returns-in-None
returns-in-None c = rw c.in-None.is

pub returns-in-Barometric : goal.returns-in-Barometric
returns-in-Barometric c = rw (c.in-Barometric.is, c.from_ecef.ensures)

pub returns-in-Gnss : goal.returns-in-Gnss
returns-in-Gnss c = rw (c.in-Gnss.is, c.from_ecef-in-Gnss.ensures)
