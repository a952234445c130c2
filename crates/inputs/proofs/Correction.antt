-- A correction and its bits; metres that pass are a number. Assumes nothing.
use Prim.Native.Nat.{suc, ◌-◌, ◌<◌, ◌^◌}
use mathlib.Core.Path.{◌≡◌, refl, sym, ◌∙◌}
use mathlib.Core.Bool.{true, false, not, false≢true}
use native.Mathlib.Omega.{arith}
use borrow.Author.Tests.{eq-eqb, ne_eqb}
use lib.Dec.{T, eqb}
use lib.IntN.{ℤ, pos, negsuc}
use lib.Ieee.{Float, nan, inf, fin, round, le, lt, eq, neg, is_nan}
use mir.Syntax.{w32}
use mir.Val.{of_z, SFits}
use Rattle.inputs.specs.Domain.{is_zero, good_metres}

pub zero_bits : (c : ℤ) → SFits w32 c → eqb (of_z w32 c) 0 ≡ is_zero c
zero_bits (pos n) f = refl
zero_bits (negsuc m) f = let h : m < 2 ^ 31 = f.sfits in ne_eqb (2 ^ 32 - suc m) 0 (λ e. omega arith)

pub is-zero : (c : ℤ) → SFits w32 c → of_z w32 c ≡ 0 → is_zero c ≡ true
is-zero c f e = sym (zero_bits c f) ∙ eq-eqb (of_z w32 c) 0 e

pub not-zero : (c : ℤ) → SFits w32 c → (of_z w32 c ≡ 0 → ⊥) → is_zero c ≡ false
not-zero c f e = sym (zero_bits c f) ∙ ne_eqb (of_z w32 c) 0 e

none-good : good_metres nan ≡ false
unfolding good_metres le lt eq round neg
none-good = refl

pub metres-number : (x : Float) → good_metres x ≡ true → T (not (is_nan x))
unfolding is_nan
metres-number nan e = absurd (false≢true (sym none-good ∙ e))
metres-number (inf s) e = tt
metres-number (fin s m e) h = tt
