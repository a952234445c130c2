-- `count_patterns::lines::four` meets its contract: no count is above 2^15 (`leaving-le`).
use native.Mathlib.Omega.{arith}
use Rattle.count_patterns.proofs.Bounds.{leaving-le, four-in-table}
use Rattle.count_patterns.proofs.lines.four.Goals as goal

pub overflow_add-result : goal.overflow_add-result
overflow_add-result c =
    let n = c.args.n in
    let t = four-in-table n c.args.counts.now c.requires.1 in
    omega (arith, t.0, t.1, leaving-le n 4 c.requires.0, leaving-le n 5 c.requires.0)

pub overflow_add-result-2 : goal.overflow_add-result-2
overflow_add-result-2 c =
    let n = c.args.n in
    let t = four-in-table n c.args.counts.now c.requires.1 in
    omega (arith, t.0, t.1, t.2, leaving-le n 4 c.requires.0, leaving-le n 5 c.requires.0, leaving-le n 6 c.requires.0)

pub returns : goal.returns
returns c =
    let t = four-in-table c.args.n c.args.counts.now c.requires.1 in
    omega (arith, t.0, t.1, t.2)
