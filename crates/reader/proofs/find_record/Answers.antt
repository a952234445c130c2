-- `reader::find_record` meets its contract. A place that is not refused has its record within the file (`within-file`). Assumes nothing.
use Prim.Native.Nat.{ℕ, ◌+◌, ◌*◌, ◌-◌}
use mathlib.Core.Path.{◌≡◌, sym, ap, ◌∙◌}
use native.Mathlib.Omega.{arith}
use lib.ListN.{length, take, drop}
use Rattle.reader.proofs.Places.{torn-file, no-such-place, placed, there}
use Rattle.reader.proofs.find_record.Goals as goal

pub returns-then-size-ne0-clause-answer : goal.returns-then-size-ne0-clause-answer
returns-then-size-ne0-clause-answer c = torn-file _ _ c.if-size-ne0.true

pub returns-then-size-place-clause-answer : goal.returns-then-size-place-clause-answer
returns-then-size-place-clause-answer c = no-such-place _ _ c.if-size-ne0.false (omega arith)

pub returns-clause-answer : goal.returns-clause-answer
returns-clause-answer c = placed _ _ c.if-size-ne0.false (omega arith)

pub returns-clause-bytes : goal.returns-clause-bytes
returns-clause-bytes c =
    let file = c.args.file.now in
    let from = 176 * c.args.place in
    let e : from + 176 - from ≡ 176 = omega arith in
    ap (λ (n : ℕ). take n (drop from file)) e ∙ there file c.args.place (sym (placed (length file) c.args.place c.if-size-ne0.false (omega arith)))
