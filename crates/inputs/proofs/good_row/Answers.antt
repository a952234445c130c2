-- `inputs::good_row` meets its contract: the entries so far are good (`row_next`), and the first that is not decides (`row-bad`). Assumes nothing.
use Rattle.std.proofs.Common.{◌≡◌, sym, ◌∙◌, arith}
use Rattle.inputs.proofs.Steps.{row-start, row_next, row-bad}
use Rattle.inputs.proofs.good_row.Goals as goal

pub loop-j-init : goal.loop-j-init
loop-j-init c = (omega arith, omega arith, sym (row-start c.args.clock.now c.args.n c.args.i))

pub returns-then-not-good_entry : goal.returns-then-not-good_entry
returns-then-not-good_entry c =
    let a = c.args in
    let bad = rw (c.entry_at.ensures) at (sym c.good_entry.ensures ∙ c.if-not-good_entry.true) in
    sym (row-bad a.clock.now a.n a.i c.loop-j.j a.n c.loop-j.invariant.0 (omega arith) bad)

pub loop-j-preserved : goal.loop-j-preserved
loop-j-preserved c =
    let a = c.args in
    let good = rw (c.entry_at.ensures) at (sym c.good_entry.ensures ∙ c.if-not-good_entry.false) in
    (omega arith, omega arith, sym (row_next a.clock.now a.n a.i c.loop-j.j c.loop-j.invariant.0) ∙ rw (c.loop-j.invariant.2, good))

pub returns : goal.returns
returns c = let e : c.loop-j.j ≡ c.args.n = omega arith in sym (rw e at c.loop-j.invariant.2)
