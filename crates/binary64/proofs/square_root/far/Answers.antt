-- `binary64::square_root::far` meets its contract: by `fold_law` m is compared with (r * r + r) / 2 ^ 52 and (r * r - r) / 2 ^ 52, so where neither
-- difference reaches 2 ^ 62, m * 2 ^ 52 lies between the squares of r - 1 / 2 and r + 1 / 2. Assumes nothing.
use mathlib.Core.Path.{◌≡◌, subst}
use Prim.Native.Nat.{ℕ, ◌+◌, ◌-◌, ◌*◌, ◌/◌, ◌^◌, ◌≤◌, ◌<◌}
use native.Mathlib.Nat.{le-div_iff_mul-le, div-lt_iff_lt-mul}
use native.Mathlib.Omega.{arith}
use lib.Pow.{pow_pos}
use lib.Bits.{bit_and, bit_or}
use Rattle.binary64.specs.Held.{Nearest}
use Rattle.binary64.proofs.Fold.{small, fold_law}
use Rattle.binary64.proofs.BitTests.{or-le}
use Rattle.binary64.proofs.square_root.far.Goals as goal

-- the number that m is compared with
abbrev fold : ℕ → ℕ → ℕ
fold r c = let a = r / 2 ^ 26 in let b = bit_and r 0x3ff_ffff in a * a + (2 * a * b + (b * b + c) / 2 ^ 26) / 2 ^ 26

nearest : (m r : ℕ) → r ≤ 2 ^ 53 → m ≤ fold r r → fold r (0x40_0000_0000_0000 - r) < m + 4 → Nearest (m * 2 ^ 52) r
nearest m r hi a b =
    let c = 0x40_0000_0000_0000 - r in
    let low : r * r + c < (m + 4) * 2 ^ 52 = (div-lt_iff_lt-mul (pow_pos 52)).0 (subst (λ (x : ℕ). x < m + 4) (fold_law r c) b) in
    let high : m * 2 ^ 52 ≤ r * r + r = (le-div_iff_mul-le (pow_pos 52)).0 (subst (λ (x : ℕ). m ≤ x) (fold_law r r) a) in
    (omega arith, high)

-- neither reaches 2 ^ 62
apart : (m most least : ℕ) → bit_or (0x3fff_ffff_ffff_ffff + m - most) (0x3fff_ffff_ffff_fffc + least - m) / 2 ^ 62 ≡ 0 → (m ≤ most) × (least < m + 4)
apart m most least h =
    let o = or-le (0x3fff_ffff_ffff_ffff + m - most) (0x3fff_ffff_ffff_fffc + least - m) in
    (omega arith, omega arith)

pub overflow_mul-aa : goal.overflow_mul-aa
overflow_mul-aa c = let s = small c.args.r c.requires.2 in record { fits = omega arith }

pub overflow_mul-ab-2 : goal.overflow_mul-ab-2
overflow_mul-ab-2 c = let s = small c.args.r c.requires.2 in record { fits = omega arith }

pub overflow_mul-bb : goal.overflow_mul-bb
overflow_mul-bb c = let s = small c.args.r c.requires.2 in record { fits = omega arith }

pub overflow_add-most : goal.overflow_add-most
overflow_add-most c = let s = small c.args.r c.requires.2 in record { fits = omega arith }

pub overflow_add-most-2 : goal.overflow_add-most-2
overflow_add-most-2 c = let s = small c.args.r c.requires.2 in record { fits = omega arith }

pub overflow_add-most-3 : goal.overflow_add-most-3
overflow_add-most-3 c = let s = small c.args.r c.requires.2 in record { fits = omega arith }

pub overflow_add-least : goal.overflow_add-least
overflow_add-least c = let s = small c.args.r c.requires.2 in record { fits = omega arith }

pub overflow_add-least-2 : goal.overflow_add-least-2
overflow_add-least-2 c = let s = small c.args.r c.requires.2 in record { fits = omega arith }

pub overflow_add-least-3 : goal.overflow_add-least-3
overflow_add-least-3 c = let s = small c.args.r c.requires.2 in record { fits = omega arith }

pub overflow_sub-over : goal.overflow_sub-over
overflow_sub-over c = let s = small c.args.r c.requires.2 in omega arith

pub overflow_add-under : goal.overflow_add-under
overflow_add-under c = let s = small c.args.r c.requires.2 in record { fits = omega arith }

pub returns : goal.returns
returns c = λ t.
    let m = c.args.m in
    let r = c.args.r in
    let a = apart m (fold r r) (fold r (0x40_0000_0000_0000 - r)) t in
    nearest m r c.requires.2 a.0 a.1
