-- `patterns::clash_patterns` meets its contract: nothing is written over six, and the table else. Assumes nothing.
use mathlib.Core.Path.{refl}
use borrow.Author.Tests.{lt-ltb, le-ltb}
use Rattle.patterns.proofs.clash_patterns.Goals as goal

pub returns-then-receptions-gt-MOST : goal.returns-then-receptions-gt-MOST
returns-then-receptions-gt-MOST c = let e = lt-ltb 6 c.args.receptions c.if-receptions-gt-MOST.true in record {
  answer = rw e refl;
  counts = rw e refl;
}

pub returns : goal.returns
returns c = let e = le-ltb 6 c.args.receptions c.if-receptions-gt-MOST.false in record {
  answer = rw e refl;
  counts = rw e c.tallied.ensures;
}
