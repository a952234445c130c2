-- `inputs::upper_at` meets its contract: by the side of the diagonal. Assumes nothing.
use native.Mathlib.Nat.{div-lt_iff_lt-mul, mod-lt}
use borrow.Author.Tests.{le-leb, lt-leb}
use Rattle.inputs.specs.Inputs.{upper_at}
use Rattle.inputs.proofs.Steps.{some-rows}
use Rattle.inputs.proofs.upper_at.Goals as goal

pub nonzero_div-i : goal.nonzero_div-i
nonzero_div-i c = some-rows c.args.n c.args.k c.requires.1

pub nonzero_rem-j : goal.nonzero_rem-j
nonzero_rem-j c = some-rows c.args.n c.args.k c.requires.1

pub entry_at-requires : goal.entry_at-requires
entry_at-requires c =
    let n = c.args.n in
    let k = c.args.k in
    let r = some-rows n k c.requires.1 in
    (c.requires.0, (div-lt_iff_lt-mul {k = n} {x = k} {y = n} r).1 c.requires.1, mod-lt k r, c.requires.2)

pub returns-then-i-j : goal.returns-then-i-j
unfolding upper_at
returns-then-i-j c = rw (le-leb _ _ c.if-i-j.true) c.entry_at.ensures

pub returns : goal.returns
unfolding upper_at
returns c = rw (lt-leb _ _ c.if-i-j.false)
