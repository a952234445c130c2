-- `starts::bancroft::with_bancroft` meets its contract: where a pivot is refused there is no root. Assumes nothing.
use Rattle.starts.specs.Held.{packed}
use Rattle.starts.specs.Bancroft.{bancroft}
use Rattle.starts.proofs.bancroft.with_bancroft.Goals as goal

pub returns-then-cholesky : goal.returns-then-cholesky
unfolding bancroft
returns-then-cholesky c =
    rw (
      ← c.products-btb.ensures,
      ← c.cholesky.ensures,
      c.if-cholesky.true,
      ← c.right_side-ones.ensures,
      ← c.right_side-alpha.ensures,
      ← c.pseudo-u.ensures,
      ← c.pseudo-v.ensures,
      ← c.with_crossed.ensures,
    )

pub returns : goal.returns
unfolding bancroft packed
returns c = rw (← c.products-btb.ensures, ← c.cholesky.ensures, c.if-cholesky.false)
