-- A list of ten, byte by byte: what the stores leave, and that the stores are the definition's ten. Assumes nothing.
use mathlib.Core.Path.{◌≡◌, refl}
use mathlib.Core.List.{List, [], ◌∷◌}
use Prim.Native.Nat.{ℕ, ◌/◌, ◌%◌, ◌^◌}
use native.Mathlib.Omega.{arith}
use lib.ListN.{length}
use Rattle.asterix.specs.Items.{bytes_of}
use Rattle.asterix.specs.Held.{put_two, put_four}

pub record Ten (s : List ℕ) : Type 0 where
  pub a : ℕ
  pub b : ℕ
  pub c : ℕ
  pub d : ℕ
  pub e : ℕ
  pub f : ℕ
  pub g : ℕ
  pub h : ℕ
  pub i : ℕ
  pub j : ℕ
  pub is : s ≡ a ∷ b ∷ c ∷ d ∷ e ∷ f ∷ g ∷ h ∷ i ∷ j ∷ []

pub ten-of : (s : List ℕ) → length s ≡ 10 → Ten s
ten-of [] p = absurd (omega arith)
ten-of (a ∷ []) p = absurd (omega arith)
ten-of (a ∷ b ∷ []) p = absurd (omega arith)
ten-of (a ∷ b ∷ c ∷ []) p = absurd (omega arith)
ten-of (a ∷ b ∷ c ∷ d ∷ []) p = absurd (omega arith)
ten-of (a ∷ b ∷ c ∷ d ∷ e ∷ []) p = absurd (omega arith)
ten-of (a ∷ b ∷ c ∷ d ∷ e ∷ f ∷ []) p = absurd (omega arith)
ten-of (a ∷ b ∷ c ∷ d ∷ e ∷ f ∷ g ∷ []) p = absurd (omega arith)
ten-of (a ∷ b ∷ c ∷ d ∷ e ∷ f ∷ g ∷ h ∷ []) p = absurd (omega arith)
ten-of (a ∷ b ∷ c ∷ d ∷ e ∷ f ∷ g ∷ h ∷ i ∷ []) p = absurd (omega arith)
ten-of (a ∷ b ∷ c ∷ d ∷ e ∷ f ∷ g ∷ h ∷ i ∷ j ∷ []) p = record { a = a; b = b; c = c; d = d; e = e; f = f; g = g; h = h; i = i; j = j; is = refl }
ten-of (a ∷ b ∷ c ∷ d ∷ e ∷ f ∷ g ∷ h ∷ i ∷ j ∷ x ∷ s) p = absurd (omega arith)

-- the bytes of a number of four, by its halves
halves : (x : ℕ) → (x / 2 ^ 16 / 2 ^ 8 % 256 ≡ x / 2 ^ 24 % 256) × (x / 2 ^ 16 % 256 ≡ x / 2 ^ 16 % 256)
halves x = (omega arith, refl)

stored : (s : List ℕ) → Ten s → (x y z : ℕ) → put_two (put_four (put_four s 0 x) 4 y) 8 z ≡ bytes_of x y z
stored s t x y z = rw (t.is, (halves x).0, (halves y).0)

pub store : (s : List ℕ) → length s ≡ 10 → (x y z : ℕ) → put_two (put_four (put_four s 0 x) 4 y) 8 z ≡ bytes_of x y z
store s h x y z = stored s (ten-of s h) x y z
