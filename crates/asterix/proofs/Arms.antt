-- The ends of what is read, written and exported. Assumes nothing.
use mathlib.Core.Path.{◌≡◌, refl, sym, ◌∙◌}
use mathlib.Core.Bool.{Bool, true, false}
use mathlib.Core.List.{List}
use Prim.Native.Nat.{ℕ, ◌/◌, ◌%◌, ◌^◌, ◌≤◌}
use native.Mathlib.Omega.{arith}
use lib.Dec.{leb, eqb}
use lib.IntN.{ℤ, pos, negsuc}
use lib.ListN.{length, length-set}
use mir.Syntax.{w16, w32}
use mir.Val.{of_z}
use borrow.Author.Tests.{leb-true, eqb-true, eq-eqb, ne_eqb}
use Rattle.wire.specs.declared.Wire.{Wire}
use Rattle.wire.specs.Wire.{between}
use Rattle.wire.proofs.Reach.{left, right}
use Rattle.asterix.specs.declared.Multiples.{Multiples}
use Rattle.std.specs.Prelude.{Result, Ok, Err}
use Rattle.refusals.specs.declared.Refusal.{Refusal}
use Rattle.refusals.specs.declared.Refusal.TheVariants.{BeyondTheItems}
use Rattle.asterix.specs.Multiples.{angle, level, turned, of_wire, on_globe}
use Rattle.asterix.specs.Items.{items, four_at, two_at, multiples_of, fitting, write_answer, write_output}
use Rattle.asterix.specs.Held.{put_two, put_four, complement}
use Rattle.asterix.specs.Items.{exportable, to_answer, to_output, read_items}
use Rattle.asterix.proofs.Ten.{store}

-- ---- reading
pub three
    : (s : List ℕ) {x y z : ℤ} → length s ≡ 10 → x ≡ complement (2 ^ 31) (four_at s 0) → y ≡ complement (2 ^ 31) (four_at s 4)
    → z ≡ complement (2 ^ 15) (two_at s 8)
    → ◌≡◌ {A = Result Multiples Refusal} (Ok (record { lat = x; lon = y; height = z })) (read_items s)
unfolding read_items multiples_of
three s l a b c = rw (eq-eqb (length s) 10 l, a, b, c)

pub not-ten : (s : List ℕ) → (length s ≡ 10 → ⊥) → ◌≡◌ {A = Result Multiples Refusal} (Err BeyondTheItems) (read_items s)
unfolding read_items
not-ten s l = rw (ne_eqb (length s) 10 l)

-- ---- lengths
pub four-length : (s : List ℕ) (k x : ℕ) → length (put_four s k x) ≡ length s
four-length s k x = simp length-set

pub ten-long : (m : Multiples) (n : ℕ) → fitting m n ≡ true → n ≡ 10
unfolding fitting
ten-long m n h = eqb-true n 10 (left (eqb n 10) (between (negsuc 32767) (pos 32767) m.height) h)

-- ---- the lower 16 bits of a number that 16 bits hold
low_bits
    : (z : ℤ) → between (negsuc 32767) (pos 32767) z ≡ true
    → (of_z w32 z / 2 ^ 8 % 256 ≡ of_z w16 z / 2 ^ 8 % 256) × (of_z w32 z % 256 ≡ of_z w16 z % 256)
low_bits (pos n) h = (refl, refl)
low_bits (negsuc n) h = let l : n ≤ 32767 = leb-true n 32767 (left (leb n 32767) true h) in (omega arith, omega arith)

-- ---- writing
pub joined
    : (out : List ℕ) (x y z : ℕ) {one two three : List ℕ} {a b c : ℕ} → one ≡ put_four out 0 a → a ≡ x → two ≡ put_four one 4 b → b ≡ y
    → three ≡ put_two two 8 c → c ≡ z → three ≡ put_two (put_four (put_four out 0 x) 4 y) 8 z
joined out x y z f a g b h c = h ∙ rw (g, f, a, b, c)

module _ (m : Multiples) (out : List ℕ) {b : Bool} (e : b ≡ fitting m (length out)) where
  pub ten-stored
      : b ≡ true
      → put_two (put_four (put_four out 0 (of_z w32 m.lat)) 4 (of_z w32 m.lon)) 8 (of_z w32 m.height) ≡ write_output m out
  unfolding write_output items fitting
  ten-stored t =
      let h : fitting m (length out) ≡ true = sym e ∙ t in
      let z = low_bits m.height (right (eqb (length out) 10) (between (negsuc 32767) (pos 32767) m.height) h) in
      store out (ten-long m (length out) h) (of_z w32 m.lat) (of_z w32 m.lon) (of_z w32 m.height) ∙ rw (h, z.0, z.1)

  pub answered : b ≡ true → 0 ≡ write_answer m out
  unfolding write_answer
  answered t = rw (← e, t)

  pub not_written : b ≡ false → (23 ≡ write_answer m out) × (out ≡ write_output m out)
  unfolding write_answer write_output
  not_written t = (rw (← e, t), rw (← e, t))

-- ---- exporting
pub of-wire
    : (w : Wire) {x y z : ℤ} → x ≡ angle w.lat → y ≡ turned (angle w.lon) → z ≡ level w.height
    → ◌≡◌ {A = Multiples} (record { lat = x; lon = y; height = z }) (of_wire w)
unfolding of_wire
of-wire w a b c = rw (a, b, c)

module _ (w : Wire) (out : List ℕ) {b : Bool} (e : b ≡ on_globe w) where
  pub exports : b ≡ true → (write_answer (of_wire w) out ≡ to_answer w out) × (write_output (of_wire w) out ≡ to_output w out)
  unfolding to_answer to_output exportable write_answer write_output
  exports t = (rw (← e, t), rw (← e, t))

  pub refuses : b ≡ false → (23 ≡ to_answer w out) × (out ≡ to_output w out)
  unfolding to_answer to_output exportable
  refuses t = (rw (← e, t), rw (← e, t))
