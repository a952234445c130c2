-- `starts::bancroft::right_side` meets its contract: the invariant: the first i rows are in. Assumes nothing.
use Rattle.std.proofs.Common.{◌≡◌, refl, add-one, arith, rules}
use Rattle.starts.specs.Bancroft.{rhs_to}
use Rattle.starts.proofs.bancroft.right_side.Goals as goal

pub loop-i-init : goal.loop-i-init
unfolding rhs_to
loop-i-init c = (search rules, refl)

pub loop-i-preserved : goal.loop-i-preserved
unfolding rhs_to
loop-i-preserved c = (
  omega arith,
  rw (
    add-one,
    c.plus_multiple-next.ensures,
    c.rhs.ensures,
    c.row_at-row.ensures,
    c.loop-i.invariant.1,
  ),
)

pub returns : goal.returns
returns c = let e : c.loop-i.i ≡ c.args.k = omega arith in rw (← e, c.loop-i.invariant.1)
