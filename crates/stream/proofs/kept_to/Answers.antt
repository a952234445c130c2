-- `stream::kept_to` meets its contract: its tests tell which of the two is the least. Assumes nothing.
use Prim.Native.Nat.{min}
use mathlib.Core.Path.{◌≡◌}
use native.Mathlib.Omega.{arith}
use borrow.Author.Tests.{eq-eqb, ne_eqb}
use Rattle.stream.specs.Frames.{absent}
use Rattle.stream.proofs.kept_to.Goals as goal

pub returns-then-mark-eq-ABSENT : goal.returns-then-mark-eq-ABSENT
returns-then-mark-eq-ABSENT c = rw (eq-eqb c.args.mark absent c.if-mark-eq-ABSENT.true)

pub returns-then-mark-most : goal.returns-then-mark-most
returns-then-mark-most c =
    let a = c.args in
    let e : min a.mark a.most ≡ a.mark = omega arith in
    rw (ne_eqb a.mark absent c.if-mark-eq-ABSENT.false, e)

pub returns : goal.returns
returns c =
    let a = c.args in
    let e : min a.mark a.most ≡ a.most = omega arith in
    rw (ne_eqb a.mark absent c.if-mark-eq-ABSENT.false, e)
