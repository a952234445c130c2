-- `binary64::square_root::unlike` meets its contract. Where both parts are 0, x is normal and s has the bits of its root. Assumes nothing.
use mathlib.Core.Path.{◌≡◌, sym, ap, ◌∙◌}
use Prim.Native.Nat.{ℕ, ◌+◌, ◌/◌, ◌^◌, ◌≤◌, ◌<◌}
use native.Mathlib.Omega.{arith}
use lib.Bits.{bit_xor}
use Rattle.binary64.specs.Root.{root}
use Rattle.binary64.proofs.BitTests.{or-none, xor-none}
use Rattle.binary64.proofs.square_root.unlike.Goals as goal

normal : (b : ℕ) → bit_xor ((b / 2 ^ 52 + 512) / 2 ^ 10) 1 ≡ 0 → (2 ^ 52 ≤ b) × (b < 0x7ff0_0000_0000_0000)
normal b h = let e : (b / 2 ^ 52 + 512) / 2 ^ 10 ≡ 1 = xor-none ((b / 2 ^ 52 + 512) / 2 ^ 10) 1 h in (omega arith, omega arith)

pub returns : goal.returns
returns c = λ t.
    let x = c.bits_of-bits in
    let s = c.bits_of in
    let z = or-none _ _ t in
    let n = normal x.result z.0 in
    let p = c.off.ensures z.1 n.0 n.1 in
    sym (s.ensures p.0) ∙ p.1 ∙ ap root (x.ensures (omega arith))
