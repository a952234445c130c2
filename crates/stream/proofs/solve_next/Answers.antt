-- `stream::solve_next` meets its contract: the lengths are read and the rest lent. Assumes nothing.
use Prim.Native.Nat.{◌-◌}
use native.Mathlib.Omega.{arith}
use lib.ListN.{length, drop, length-drop}
use lib.Seq.{take_all}
use Rattle.stream.proofs.Solving.{next-torn, next-solved}
use Rattle.stream.proofs.solve_next.Goals as goal

pub returns-then-stream-lt-HEAD : goal.returns-then-stream-lt-HEAD
returns-then-stream-lt-HEAD c =
    let told = next-torn c.args.stream.now c.args.out.now c.if-stream-lt-HEAD.true in record {
      outcome = told.0;
      output = told.1;
    }

pub returns : goal.returns
returns c =
    let stream = c.args.stream.now in let both = next-solved stream c.args.out.now _ _ _ _ c.if-stream-lt-HEAD.false c.head_of-head.ensures
    (take_all (length stream - 16) (drop 16 stream) (omega (arith, length-drop 16 stream)))
    c.solve_body.ensures.outcome c.solve_body.ensures.output in record { outcome = both.0; output = both.1 }
