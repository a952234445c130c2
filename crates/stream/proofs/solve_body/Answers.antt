-- `stream::solve_body` meets its contract: the parts that it lends are the problem's inputs (`Solving`). Assumes nothing.
use Prim.Native.Nat.{◌≤◌}
use mathlib.Core.Path.{refl, sym}
use native.Mathlib.Omega.{arith}
use lib.ListN.{length}
use lib.Seq.{length-take-le}
use Rattle.stream.proofs.Solving.{body-solved, body-torn}
use Rattle.stream.proofs.solve_body.Goals as goal

pub returns-then-body-end : goal.returns-then-body-end
returns-then-body-end c =
    let told = body-torn c.args.head c.args.body.now c.args.out.now _ _ _ _ _
    c.size_of-clock.ensures.0
    c.size_of.ensures.0
    c.size_of-2.ensures.0
    c.size_of-3.ensures.0
    refl c.if-body-end.true in record {
      outcome = told.0;
      output = told.1;
    }

pub slice_bounds-solve-end : goal.slice_bounds-solve-end
slice_bounds-solve-end c =
    let k = c.size_of-clock.result in
    let body = c.args.body.now in
    let l : k ≤ length body = omega arith in
    sym (length-take-le k body l)

pub returns : goal.returns
returns c = let both = body-solved c.args.head c.args.body.now c.args.out.now _ _ _ _ _
    c.size_of-clock.ensures.0
    c.size_of.ensures.0
    c.size_of-2.ensures.0
    c.size_of-3.ensures.0
    c.present_of-present.ensures
    _ _ (omega arith) c.solve-number.ensures.answer c.solve-number.ensures.output in record { outcome = both.0; output = both.1 }
