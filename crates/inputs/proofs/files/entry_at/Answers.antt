-- `inputs::files::entry_at` meets its contract: the entry lies in the file (`place`, `room`). Assumes nothing.
use Prim.Native.Nat.{ℕ, ◌+◌, ◌*◌, ◌<◌, ◌≤◌}
use native.Mathlib.Omega.{arith}
use Rattle.dense.proofs.Places.{place, room}
use Rattle.inputs.specs.Inputs.{entry_at}
use Rattle.inputs.proofs.files.entry_at.Goals as goal

lies : (i j n : ℕ) → n ≤ 32 → i < n → j < n → (i * n + j < n * n) × (n * n ≤ 1024)
lies i j n few hi hj = (place i j n hi hj, room n few)

pub overflow_mul-i : goal.overflow_mul-i
overflow_mul-i c = omega (arith, lies c.args.i c.args.j c.args.n (omega arith) (omega arith) (omega arith))

pub overflow_add-i : goal.overflow_add-i
overflow_add-i c = omega (arith, lies c.args.i c.args.j c.args.n (omega arith) (omega arith) (omega arith))

pub overflow_mul-i-2 : goal.overflow_mul-i-2
overflow_mul-i-2 c = omega (arith, lies c.args.i c.args.j c.args.n (omega arith) (omega arith) (omega arith))

pub f64_at-requires : goal.f64_at-requires
f64_at-requires c = omega (arith, lies c.args.i c.args.j c.args.n (omega arith) (omega arith) (omega arith))

pub returns : goal.returns
unfolding entry_at
returns c = c.f64_at.ensures
