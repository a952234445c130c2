-- `reader::rules::zeros` meets its contract. The next byte of the part is the next of the record. Assumes nothing.
use Rattle.std.proofs.Common.{◌≡◌, refl, ◌∙◌, arith, ◌+◌, ◌-◌, ◌<◌, take, drop}
use native.Mathlib.Numerals.{add-one}
use lib.ListN.{get_or, length-take}
use lib.Seq.{get_or-take, get_or-drop}
use Rattle.reader.specs.Tests.{zeros}
use Rattle.reader.proofs.rules.zeros.Goals as goal

pub loop-byte-init : goal.loop-byte-init
unfolding zeros
loop-byte-init c = refl

pub loop-byte-preserved : goal.loop-byte-preserved
unfolding zeros
loop-byte-preserved c =
    let s = c.args.s.now in
    let k = c.args.k in
    let i = c.loop-byte.byte-index in
    let rest = drop k s in
    let below : i < k + c.args.count - k = omega (arith, length-take (k + c.args.count - k) rest) in
    let here : get_or (take (k + c.args.count - k) rest) i 0 ≡ get_or s (k + i) 0 = get_or-take _ rest i 0 below ∙ get_or-drop k s i 0 in
    rw (add-one, ← c.loop-byte.invariant, ← here) refl
