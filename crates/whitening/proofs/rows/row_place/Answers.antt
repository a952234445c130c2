-- `whitening::rows::row_place` meets its contract. By the kinds of altitude. Assumes nothing.
use Rattle.whitening.proofs.rows.row_place.Goals as goal

pub returns-in-None : goal.returns-in-None
returns-in-None c = λ p h. rw c.in-None.is

pub returns-in-Barometric : goal.returns-in-Barometric
returns-in-Barometric c = λ p h. rw c.in-Barometric.is h

pub returns-in-Gnss : goal.returns-in-Gnss
returns-in-Gnss c = λ p h. rw c.in-Gnss.is h
