-- `binary64::square_root::root_bits` meets its contract: a normal value is m * 2 ^ p units (`normal`), and a subnormal one is moved up until it has
-- 53 binary digits (`subnormal`). The loop's invariant: m is `bits` with k zeros after it. Assumes nothing.
use mathlib.Core.Path.{◌≡◌, sym, ap, ◌∙◌, subst}
use Prim.Native.Nat.{ℕ, ◌+◌, ◌-◌, ◌*◌, ◌/◌, ◌%◌, ◌^◌, ◌≤◌, ◌<◌}
use native.Mathlib.Nat.{mul_assoc, mul-one, mul-le-mul_right, lt_of_not-le}
use native.Mathlib.Omega.{arith}
use mathlib.Core.Bool.{false}
use lib.Pow.{pow-add, pow_mono}
use lib.Bits.{mask_lt}
use lib.Ieee.{binary64, of_bits}
use lib.Ieee.Exact.{HasValue}
use Rattle.binary64.specs.Root.{root, root_units}
use Rattle.binary64.proofs.Decode.{clear, fields-low, root-value}
use Rattle.binary64.proofs.RootBits.{normal}
use Rattle.binary64.proofs.square_root.root_bits.Goals as goal

-- a subnormal value is b units
subnormal : (b k m : ℕ) → 0 < b → b / 2 ^ 52 ≡ 0 → m ≡ b * 2 ^ k → k ≤ 1074 → root (of_bits binary64 b) ≡ root_units (m * 2 ^ (1074 - k))
subnormal b k m p z e l =
    let small : b % 2 ^ 52 ≡ b = omega arith in
    let v : HasValue (of_bits binary64 b) false b (2 ^ 1074) =
    subst (λ (x : ℕ). HasValue (of_bits binary64 b) false x (2 ^ 1074)) small
    (rw (clear b (omega arith), z) (fields-low false (b % 2 ^ 52))) in
    root-value (of_bits binary64 b) b v p
    ∙ ap root_units (ap (λ (x : ℕ). b * x) (ap (λ (x : ℕ). 2 ^ x) (sum k l) ∙ pow-add 2 k (1074 - k)) ∙ sym (mul_assoc b (2 ^ k) (2 ^ (1074 - k)))
    ∙ ap (λ (x : ℕ). x * 2 ^ (1074 - k)) (sym e))
  where
    sum : (k : ℕ) → k ≤ 1074 → 1074 ≡ k + (1074 - k)
    sum k l = omega arith

-- a b above 0 with k zeros after it has more than k digits
few : (b k m : ℕ) → 0 < b → m ≡ b * 2 ^ k → m < 2 ^ 53 → k < 53
few b k m p e h = lt_of_not-le (λ (g : 53 ≤ k). omega (arith, pow_mono {i = 53} {j = k} g, mul-le-mul_right (2 ^ k) p))

again : (b k m : ℕ) → m ≡ b * 2 ^ k → 2 * m ≡ b * 2 ^ (k + 1)
again b k m e = rw (pow-add 2 k 1) (omega arith)

pub overflow_add-bits : goal.overflow_add-bits
overflow_add-bits c = omega (arith, mask_lt c.args.bits 52)

pub root_of-requires : goal.root_of-requires
root_of-requires c = record { bound = omega (arith, mask_lt c.args.bits 52); le_p = omega (arith, mask_lt c.args.bits 52) }

pub returns-then-e-gt0 : goal.returns-then-e-gt0
returns-then-e-gt0 c = (
  c.root_of.ensures.0,
  c.root_of.ensures.1
      ∙ sym (normal c.args.bits c.if-e-gt0.true c.requires.1),
)

pub loop-m-init : goal.loop-m-init
loop-m-init c = (omega arith, omega arith, omega arith, sym (mul-one _))

pub loop-m-preserved : goal.loop-m-preserved
loop-m-preserved c =
    let l = c.loop-m in
    let b = c.args.bits in
    let p : 0 < b = c.requires.0 in
    let e : 2 * l.m ≡ b * 2 ^ (l.k + 1) = again b l.k l.m l.invariant.3 in
    let s : 2 * l.m < 2 ^ 53 = omega arith in
    (omega arith, s, few b (l.k + 1) (2 * l.m) p e s, e)

pub root_of-requires-2 : goal.root_of-requires-2
root_of-requires-2 c = record { bound = omega arith; le_p = omega arith }

pub returns : goal.returns
returns c =
    let l = c.loop-m in
    let z : c.args.bits / 2 ^ 52 ≡ 0 = omega arith in (
      c.root_of-2.ensures.0,
      c.root_of-2.ensures.1
          ∙ sym (subnormal c.args.bits l.k l.m c.requires.0 z l.invariant.3 (omega arith)),
    )
