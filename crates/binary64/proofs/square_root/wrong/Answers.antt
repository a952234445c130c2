-- `binary64::square_root::wrong` meets its contract. The invariant: where nothing bad was found, the entries below i are roots. The measure is what
-- is left of k. Assumes nothing.
use mathlib.Core.Path.{◌≡◌}
use mathlib.Core.Logic.{inl, inr}
use mathlib.Core.List.{List}
use Prim.Native.Nat.{ℕ, ◌+◌, ◌≤◌}
use native.Mathlib.Nat.{eq-or-lt_of_le}
use native.Mathlib.Omega.{arith}
use lib.Bits.{bit_or}
use lib.ListN.{get_or}
use lib.Ieee.{Float, nan}
use Rattle.binary64.specs.Root.{root}
use Rattle.binary64.proofs.BitTests.{or-none}
use Rattle.binary64.proofs.square_root.wrong.Invariants.{Roots}
use Rattle.binary64.proofs.square_root.wrong.Goals as goal

one_more
    : (d out : List Float) (i bad u : ℕ) → (bad ≡ 0 → Roots d out i) → (u ≡ 0 → get_or out i nan ≡ root (get_or d i nan))
    → bit_or bad u ≡ 0 → Roots d out (i + 1)
one_more d out i bad u before now h j l =
    let z = or-none bad u h in
    let m : j ≤ i = omega arith in
    elim (eq-or-lt_of_le m) [
      | inl e ↦ rw e (now z.1)
      | inr g ↦ before z.0 j g
    ]

pub loop-i-init : goal.loop-i-init
loop-i-init c = (omega arith, λ h j l. absurd (omega arith))

pub loop-i-preserved : goal.loop-i-preserved
loop-i-preserved c =
    let l = c.loop-i in
    let s = c.args in
    (omega arith, one_more s.d.now s.out.now l.i l.bad c.unlike-bad.result l.invariant.1 c.unlike-bad.ensures)

pub returns : goal.returns
returns c =
    let l = c.loop-i in
    let all : l.i ≡ c.args.k = omega arith in
    rw all at l.invariant.1
