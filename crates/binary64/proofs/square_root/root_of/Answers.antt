-- `binary64::square_root::root_of` meets its contract: what `bisect` finds is the nearest, and `result` has the bits of that. The shift loses
-- nothing (`shifted`). Assumes nothing.
use mathlib.Core.Path.{◌≡◌, subst}
use Prim.Native.Nat.{ℕ, ◌*◌, ◌%◌, ◌^◌, ◌≤◌, ◌<◌}
use native.Mathlib.Omega.{arith}
use Rattle.binary64.specs.Held.{Nearest}
use Rattle.binary64.proofs.Shift.{shifted, range}
use Rattle.binary64.proofs.RootBits.{bounds, result}
use Rattle.binary64.proofs.square_root.root_of.Goals as goal

-- the shift loses nothing, and its result is in range
moved : (c : goal.Start) → (c.args.m * 2 ^ (c.args.p % 2)) % 2 ^ 64 ≡ c.args.m * 2 ^ (c.args.p % 2)
moved c = shifted c.args.m (c.args.p % 2) c.requires.bound.1 (omega arith)

inside : (c : goal.Start) → (2 ^ 52 ≤ c.args.m * 2 ^ (c.args.p % 2)) × (c.args.m * 2 ^ (c.args.p % 2) < 2 ^ 54)
inside c = range c.args.m (c.args.p % 2) c.requires.bound.0 c.requires.bound.1 (omega arith)

-- what `bisect` gives
near : (c : goal.After-bisect-r) → Nearest (c.args.m * 2 ^ (c.args.p % 2) * 2 ^ 52) c.bisect-r.result
near c = subst (λ (x : ℕ). Nearest (x * 2 ^ 52) c.bisect-r.result) (moved c.before) c.bisect-r.ensures

pub bisect-r-requires : goal.bisect-r-requires
bisect-r-requires c = omega (arith, moved c, inside c)

pub overflow_add-result : goal.overflow_add-result
overflow_add-result c =
    record { fits = omega (arith, bounds c.args.m c.args.p c.bisect-r.result c.requires.bound.0 c.requires.bound.1 (near c)) }

pub returns : goal.returns
returns c = result _ _ _ c.requires.bound.0 c.requires.bound.1 (near c) c.requires.le_p.0 c.requires.le_p.1
