-- `receptions::part_at` meets its contract. Assumes nothing.
use Rattle.std.proofs.Common.{◌≡◌, ◌+◌, ◌-◌, arith}
use Rattle.receptions.specs.Receptions.{part_at}
use Rattle.receptions.proofs.part_at.Goals as goal

pub returns : goal.returns
unfolding part_at
returns c =
    let e : c.args.k + 32 - c.args.k ≡ 32 = omega arith in
    rw e at c.copy_from_slice.ensures.after
