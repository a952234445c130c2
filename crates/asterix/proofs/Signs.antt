-- i32 by sign and size, and its bits in two's complement. Assumes nothing.
use mathlib.Core.Path.{◌≡◌, refl, sym, ap, ◌∙◌}
use mathlib.Core.Bool.{true, false}
use Prim.Native.Nat.{ℕ, zero, suc, ◌-◌, ◌*◌, ◌^◌, ◌<◌, ◌≤◌, zero-le}
use native.Mathlib.Omega.{arith}
use lib.IntN.{ℤ, pos, negsuc, nat_abs, ◌-ℤ◌, ◌*ℤ◌}
use lib.Signed.{lt_z, mag}
use mir.Syntax.{w32}
use mir.Val.{SFits, to_z, of_z}
use mir.ValLaws.{to_z_pos, to_z-of_z}
use borrow.Author.Tests.{le-ltb, lt-ltb, eq-eqb, ne_eqb}
use Rattle.wire.specs.Nearest.{signed, half_up, nearest}
use Rattle.wire.proofs.Distance.{times, nearest-signed}
use Rattle.asterix.specs.Multiples.{turned}
use Rattle.asterix.specs.Held.{complement}

-- an i32 is read back from its bits; of a call's result `.ok` says that it is one
pub back : {x : ℤ} → mag x < 2 ^ 31 → to_z w32 (of_z w32 x) ≡ x
back {x} h = to_z-of_z w32 x (record { sfits = h })

pub own_bits : (x : ℤ) {r : ℕ} → mag x < 2 ^ 31 → r ≡ of_z w32 (to_z w32 (of_z w32 x)) → r ≡ of_z w32 x
own_bits x h e = e ∙ ap (of_z w32) (back {x = x} h)

-- ---- the nearest multiple by sign and size
pub by_sign : (w : ℤ) (t d : ℕ) → 0 < d → signed (lt_z w (pos 0)) (half_up (nat_abs w * t) d) ≡ nearest (w *ℤ pos t) d
by_sign (pos n) t d p = rw (le-ltb n 0 zero-le) (sym (nearest-signed false (n * t) d p))
by_sign (negsuc n) t d p = sym (ap (λ (z : ℤ). nearest z d) (times true (suc n) t) ∙ nearest-signed true (suc n * t) d p)

-- ---- 180 degrees
pub turn : (m : ℤ) → SFits w32 m → of_z w32 m ≡ 2 ^ 25 → negsuc (2 ^ 25 - 1) ≡ turned m
unfolding turned
turn (pos n) f e = rw (eq-eqb n (2 ^ 25) e)
turn (negsuc n) f e = let h : n < 2 ^ 31 = f.sfits in absurd (omega arith)

pub no-turn : (m : ℤ) → SFits w32 m → (of_z w32 m ≡ 2 ^ 25 → ⊥) → to_z w32 (of_z w32 m) ≡ turned m
unfolding turned
no-turn m f e = to_z-of_z w32 m f ∙ go m e
  where
    go : (m : ℤ) → (of_z w32 m ≡ 2 ^ 25 → ⊥) → m ≡ turned m
    go (pos n) e = rw (ne_eqb n (2 ^ 25) e)
    go (negsuc n) e = refl

-- ---- a number from its bits
less_one : (y : ℕ) → negsuc 0 -ℤ pos y ≡ negsuc y
less_one zero = refl
less_one (suc y) = ap negsuc (omega arith)

module _ (n half : ℕ) (h : n < 2 * half) (s : half ≤ 2 ^ 31) where
  pub from-plus : n < half → to_z w32 n ≡ complement half n
  from-plus l = to_z_pos w32 n (omega arith) ∙ sym (rw (lt-ltb n half l))

  minus : half ≤ n → negsuc 0 -ℤ to_z w32 (2 * half - 1 - n) ≡ negsuc (2 * half - suc n)
  minus l =
      let y = 2 * half - 1 - n in
      let b : y < 2 ^ 31 = omega arith in
      let e : y ≡ 2 * half - suc n = omega arith in
      ap (λ (z : ℤ). negsuc 0 -ℤ z) (to_z_pos w32 y b) ∙ less_one y ∙ ap negsuc e

  minus-fits : half ≤ n → SFits w32 (negsuc (2 * half - suc n))
  minus-fits l = record { sfits = omega arith }

  pub from-minus-fits : half ≤ n → SFits w32 (negsuc 0 -ℤ to_z w32 (2 * half - 1 - n))
  from-minus-fits l = rw (minus l) (minus-fits l)

  pub from-minus : half ≤ n → to_z w32 (of_z w32 (negsuc 0 -ℤ to_z w32 (2 * half - 1 - n))) ≡ complement half n
  from-minus l =
      ap (λ (z : ℤ). to_z w32 (of_z w32 z)) (minus l) ∙ to_z-of_z w32 (negsuc (2 * half - suc n)) (minus-fits l) ∙ sym (rw (le-ltb n half l))
