-- `find_fixes::decimals::pointed` meets its contract. The test is the definition's. Assumes nothing.
use Rattle.std.proofs.Common.{Bool, Option, Some, None, cond, sym, ap}
use Rattle.find_fixes.specs.declared.decimals.Digits.{Digits}
use Rattle.find_fixes.specs.Decimals.{onward, pointed}
use Rattle.find_fixes.proofs.decimals.pointed.Goals as goal

pub returns-then-d : goal.returns-then-d
unfolding pointed
returns-then-d c = ap (λ (b : Bool). cond {A = Option Digits} b None (Some (onward c.args.d))) (sym c.if-d.true)

pub returns : goal.returns
unfolding pointed
returns c = ap (λ (b : Bool). cond {A = Option Digits} b None (Some (onward c.args.d))) (sym c.if-d.false)
