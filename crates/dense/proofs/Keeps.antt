-- A solve in place leaves each row of the right side as it came until its turn. Assumes nothing.
use mathlib.Core.Path.{◌≡◌, refl}
use mathlib.Core.List.{List}
use mathlib.Core.Logic.{◌≢◌}
use Prim.Native.Nat.{ℕ, zero, suc, ◌-◌, ◌≤◌, ◌<◌}
use native.Mathlib.Omega.{arith}
use lib.Seq.{get_or-set_other}
use lib.Ieee.{Float}
use Rattle.dense.specs.Entries.{nth}
use Rattle.dense.specs.Solve.{forward_to, backward_to}

pub forward-keeps : (l : List Float) (n : ℕ) (b : List Float) (i j : ℕ) → i ≤ j → nth (forward_to l n b i) j ≡ nth b j
unfolding forward_to
forward-keeps l n b zero j h = refl
forward-keeps l n b (suc i) j h =
    let k : j ≢ i = λ e. omega arith in
    rw get_or-set_other (forward-keeps l n b i j (omega arith))

pub backward-keeps : (l : List Float) (n : ℕ) (y : List Float) (m j : ℕ) → m ≤ n → j < n - m → nth (backward_to l n y m) j ≡ nth y j
unfolding backward_to
backward-keeps l n y zero j g h = refl
backward-keeps l n y (suc m) j g h =
    let k : j ≢ n - suc m = λ e. omega arith in
    rw get_or-set_other (backward-keeps l n y m j (omega arith) (omega arith))
