-- `rounds::fitting::subset` meets its contract. Call by call: the indices are below n, of which there are at most 32. Assumes nothing.
use Rattle.std.proofs.Common.{refl, lt_of_lt_of_le}
use Rattle.sets.specs.Mask.{has}
use Rattle.rounds.proofs.Gathering.{few, picks}
use Rattle.rounds.proofs.fitting.subset.Goals as goal

pub gather_sites-requires : goal.gather_sites-requires
gather_sites-requires c =
    let S = has c.args.included in
    rw (c.members-k.ensures.0, c.members-k.ensures.1)
    (few S c.args.n c.requires, λ a h. lt_of_lt_of_le (picks S c.args.n c.requires a h) c.requires)

pub gather-requires : goal.gather-requires
gather-requires c =
    let S = has c.args.included in
    rw (c.members-k.ensures.0, c.members-k.ensures.1)
    (few S c.args.n c.requires, λ a h. lt_of_lt_of_le (picks S c.args.n c.requires a h) c.requires)

pub returns : goal.returns
returns c = rw (
  c.gather.ensures,
  c.gather_sites.ensures,
  c.members-k.ensures.1,
  c.members-k.ensures.0,
) refl
