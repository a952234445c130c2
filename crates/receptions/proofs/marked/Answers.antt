-- `receptions::marked` meets its contract: what is added is one bit (`one_bit`), and all bits before it are below it. Assumes nothing.
use Prim.Native.Nat.{ℕ, suc, ◌+◌, ◌*◌, ◌%◌, ◌^◌, ◌<◌, ◌≤◌}
use mathlib.Core.Path.{◌≡◌}
use native.Mathlib.Omega.{arith}
use native.Mathlib.Nat.{pow-suc}
use lib.Pow.{pow_mono}
use Rattle.sets.proofs.Masks.{one_bit}
use Rattle.receptions.proofs.marked.Goals as goal

one_more : (i bits : ℕ) → i < 32 → 1 * 2 ^ i % 2 ^ 32 + bits ≡ 1 * 2 ^ i + bits
one_more i bits h = rw (one_bit i h) (omega arith)

none_more : (i bits : ℕ) → bits ≡ 0 * 2 ^ i + bits
none_more i bits = omega arith

pub overflow_add-result : goal.overflow_add-result
overflow_add-result c =
    let i = c.args.i in
    let most : 2 ^ suc i ≤ 2 ^ 32 = pow_mono (let h : suc i ≤ 32 = omega (arith, c.requires.0) in h) in
    record { fits = omega (arith, one_bit i c.requires.0, pow-suc 2 i, most, c.requires.1) }

pub returns-then-above : goal.returns-then-above
returns-then-above c = rw c.if-above.true (one_more c.args.i c.args.bits c.requires.0)

pub returns : goal.returns
returns c = rw c.if-above.false (none_more c.args.i c.args.bits)
