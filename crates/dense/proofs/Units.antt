-- The first n of 32 entries that hold a unit vector are the unit vector of size n. Assumes nothing.
use mathlib.Core.Path.{◌≡◌, ap, ◌∙◌}
use mathlib.Core.List.{List}
use Prim.Native.Nat.{ℕ, ◌+◌, ◌-◌, ◌≤◌, ◌<◌}
use native.Mathlib.Omega.{arith}
use lib.ListN.{length, take, set, replicate, length-set, length-replicate, replicate-append-replicate}
use lib.Seq.{take-set-lt, take_at}
use lib.Ieee.{Float}
use Rattle.binary64.specs.Steps.{nought, one}

abbrev pub unit : ℕ → ℕ → List Float
unit n column = set (replicate n nought) column one

-- of m zeros the first n are n zeros
pub take-zeros : (n m : ℕ) → n ≤ m → take n (replicate m nought) ≡ replicate n nought
take-zeros n m h =
    let e : n + (m - n) ≡ m = omega arith in
    rw (← e, ← replicate-append-replicate n (m - n) nought) (take_at (replicate n nought) (replicate (m - n) nought) n (length-replicate n nought))

pub unit-part : (n column m : ℕ) → column < n → n ≤ m → take n (set (replicate m nought) column one) ≡ unit n column
unit-part n column m h g = take-set-lt n (replicate m nought) column one h ∙ ap (λ z. set z column one) (take-zeros n m g)

pub unit-length : (n column : ℕ) → length (unit n column) ≡ n
unit-length n column = length-set (replicate n nought) column one ∙ length-replicate n nought
