-- Numbers with their sign clear: sums of those and squares are such. Assumes nothing.
use mathlib.Core.Path.{◌≡◌, refl}
use mathlib.Core.Logic.{◌⊎◌, inl, inr}
use mathlib.Core.Bool.{Bool, true, false, not, cond}
use Prim.Native.Nat.{ℕ, zero, suc, ◌+◌, ◌*◌, ◌^◌}
use lib.Dec.{T, ltb}
use lib.Ieee.{Float, Format, nan, inf, fin, round, units, odd, sum, add, mul, low, emax, prec}

-- a number with its sign clear
abbrev pub clear : Float → Bool
clear nan = false
clear (inf s) = not s
clear (fin s m e) = not s

odd-clear : (d q k l : ℕ) → T (clear (odd d false q k l))
unfolding odd
odd-clear d zero k l = tt
odd-clear d (suc q) k l = tt

units-clear : (f : Format) (q k : ℕ) → T (clear (units f false q k))
unfolding units
units-clear f q k = go (ltb (q * 2 ^ k) (2 ^ (low f + suc (emax f))))
  where
    go : (b : Bool) → T (clear (cond b (odd (suc (prec f)) false q k (low f)) (inf false)))
    go true = odd-clear (suc (prec f)) q k (low f)
    go false = tt

round-clear : (f : Format) (num den : ℕ) → T (clear (round f false num den))
unfolding round
round-clear f num den = units-clear f _ _

pub add-clear : (f : Format) (x y : Float) → T (clear x) → T (clear y) → T (clear (add f x y))
unfolding add sum
add-clear f (inf false) (inf false) h k = tt
add-clear f (inf false) (fin false n d) h k = tt
add-clear f (fin false m e) (inf false) h k = tt
add-clear f (fin false m e) (fin false n d) h k = round-clear f _ _
add-clear f nan y h k = elim h [ ]
add-clear f (inf false) nan h k = elim k [ ]
add-clear f (inf false) (inf true) h k = elim k [ ]
add-clear f (inf false) (fin true n d) h k = elim k [ ]
add-clear f (inf true) y h k = elim h [ ]
add-clear f (fin false m e) nan h k = elim k [ ]
add-clear f (fin false m e) (inf true) h k = elim k [ ]
add-clear f (fin false m e) (fin true n d) h k = elim k [ ]
add-clear f (fin true m e) y h k = elim h [ ]

-- a square is clear, or that of no number
pub square-clear : (f : Format) (x : Float) → T (clear (mul f x x)) ⊎ (x ≡ nan)
unfolding mul
square-clear f nan = inr refl
square-clear f (inf true) = inl tt
square-clear f (inf false) = inl tt
square-clear f (fin true m e) = inl (round-clear f _ _)
square-clear f (fin false m e) = inl (round-clear f _ _)
