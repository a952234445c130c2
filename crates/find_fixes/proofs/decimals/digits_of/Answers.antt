-- `find_fixes::decimals::digits_of` meets its contract. Assumes nothing.
use Rattle.std.proofs.Common.{sym, ◌∙◌, arith}
use Rattle.find_fixes.proofs.Reading.{further, spoilt, ended}
use Rattle.find_fixes.proofs.decimals.digits_of.Goals as goal

pub returns-in_err-d : goal.returns-in_err-d
returns-in_err-d c =
    c.from_residual.ensures
    ∙ spoilt c.args.text.now c.loop-byte.byte-index c.loop-byte.d _ c.loop-byte-test.true (sym c.next.ensures ∙ c.in_err-d.was) c.loop-byte.invariant

pub loop-byte-preserved : goal.loop-byte-preserved
loop-byte-preserved c =
    further c.args.text.now c.loop-byte.byte-index c.loop-byte.d c.in_ok-d.d _ c.loop-byte-test.true (sym c.next.ensures ∙ c.in_ok-d.was)
    c.loop-byte.invariant

pub returns : goal.returns
returns c = ended c.args.text.now c.loop-byte.byte-index c.loop-byte.d _ (omega arith) c.loop-byte.invariant
