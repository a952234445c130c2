-- `stream::kept_receptions` meets its contract: its tests are those of the definition, which takes the least first. Assumes nothing.
use Prim.Native.Nat.{◌-◌, ◌%◌, min}
use mathlib.Core.Path.{◌≡◌}
use native.Mathlib.Omega.{arith}
use borrow.Author.Tests.{eq-eqb, ne_eqb, lt-ltb}
use Rattle.receptions.specs.Receptions.{reception_bytes}
use Rattle.entry.specs.Cut.{one_too_many}
use Rattle.stream.specs.Frames.{absent}
use Rattle.stream.proofs.kept_receptions.Goals as goal

pub returns-then-mark-eq-ABSENT : goal.returns-then-mark-eq-ABSENT
returns-then-mark-eq-ABSENT c = rw (eq-eqb c.args.mark absent c.if-mark-eq-ABSENT.true)

pub returns-then-mark-lt-RECEPTIONS : goal.returns-then-mark-lt-RECEPTIONS
returns-then-mark-lt-RECEPTIONS c =
    let m = c.args.mark in
    let e : min m one_too_many ≡ m = omega arith in
    rw (ne_eqb m absent c.if-mark-eq-ABSENT.false, e, lt-ltb m one_too_many c.if-mark-lt-RECEPTIONS.true)

pub returns-then-mark-eq0 : goal.returns-then-mark-eq0
returns-then-mark-eq0 c =
    let m = c.args.mark in
    let e : min m one_too_many ≡ one_too_many = omega arith in
    rw (ne_eqb m absent c.if-mark-eq-ABSENT.false, e, eq-eqb ((m - one_too_many) % reception_bytes) 0 c.if-mark-eq0.true)

pub returns : goal.returns
returns c =
    let m = c.args.mark in
    let e : min m one_too_many ≡ one_too_many = omega arith in
    rw (ne_eqb m absent c.if-mark-eq-ABSENT.false, e, ne_eqb ((m - one_too_many) % reception_bytes) 0 c.if-mark-eq0.false)
