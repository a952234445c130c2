-- Ten bytes and multiples there and back: two's complement of both widths undoes itself (`of_z-to_z`, `to_z-of_z`), and so do the digits of a
-- number to the base 256. Assumes nothing.
use mathlib.Core.Path.{◌≡◌, refl, ap, ◌∙◌}
use mathlib.Core.List.{List, [], ◌∷◌}
use Prim.Native.Nat.{ℕ, ◌+◌, ◌*◌, ◌/◌, ◌%◌, ◌^◌, ◌<◌}
use native.Mathlib.Omega.{arith}
use lib.IntN.{ℤ, pos, negsuc}
use lib.ListN.{length}
use lib.Pow.{split}
use mir.Syntax.{w16, w32}
use mir.Val.{Fits, SFits, of_z}
use mir.ValLaws.{to_z-Fits, to_z-of_z, of_z-to_z}
use borrow.Author.Tests.{eq-eqb}
use Rattle.reader.specs.Meaning.{Bytes}
use Rattle.wire.proofs.Words.{fits}
use Rattle.asterix.specs.declared.Multiples.{Multiples}
use Rattle.std.specs.Prelude.{Result, Ok}
use Rattle.refusals.specs.declared.Refusal.{Refusal}
use Rattle.asterix.specs.Multiples.{of_wire}
use Rattle.asterix.specs.Items.{items, four_at, two_at, multiples_of, read_items}
use Rattle.asterix.specs.Meaning.{ExportsInRange, TenComeBack, MultiplesComeBack}
use Rattle.asterix.proofs.Ten.{Ten, ten-of}
use Rattle.asterix.proofs.Meaning.{in-range, writes, written, exports, exported}

-- ---- digits to the base 256
record Four (a b c d n : ℕ) : Type 0 where
  small : n < 2 ^ 32
  first : n / 2 ^ 24 % 256 ≡ a
  second : n / 2 ^ 16 % 256 ≡ b
  third : n / 2 ^ 8 % 256 ≡ c
  fourth : n % 256 ≡ d

four : (a b c d : ℕ) → a < 256 → b < 256 → c < 256 → d < 256 → Four a b c d (a * 2 ^ 24 + b * 2 ^ 16 + c * 2 ^ 8 + d)
four a b c d h i j k = record { small = omega arith; first = omega arith; second = omega arith; third = omega arith; fourth = omega arith }

record Two (a b n : ℕ) : Type 0 where
  small : n < 2 ^ 16
  first : n / 2 ^ 8 % 256 ≡ a
  second : n % 256 ≡ b

two : (a b : ℕ) → a < 256 → b < 256 → Two a b (a * 2 ^ 8 + b)
two a b h i = record { small = omega arith; first = omega arith; second = omega arith }

-- ---- ten bytes
ten-back : (s : List ℕ) → Ten s → Bytes s → (items (multiples_of s) ≡ s) × SFits w16 (multiples_of s).height
unfolding items multiples_of
ten-back s t h =
    let e = t.is in
    let byte : Bytes (t.a ∷ t.b ∷ t.c ∷ t.d ∷ t.e ∷ t.f ∷ t.g ∷ t.h ∷ t.i ∷ t.j ∷ []) = rw e at h in
    let x = four t.a t.b t.c t.d (byte 0) (byte 1) (byte 2) (byte 3) in
    let y = four t.e t.f t.g t.h (byte 4) (byte 5) (byte 6) (byte 7) in
    let z = two t.i t.j (byte 8) (byte 9) in
    let lat : Fits w32 (four_at s 0) = record { fits = rw e x.small } in
    let lon : Fits w32 (four_at s 4) = record { fits = rw e y.small } in
    let height : Fits w16 (two_at s 8) = record { fits = rw e z.small } in (
      rw (
        of_z-to_z w32 (four_at s 0) lat,
        of_z-to_z w32 (four_at s 4) lon,
        of_z-to_z w16 (two_at s 8) height,
        e,
        x.first,
        x.second,
        x.third,
        x.fourth,
        y.first,
        y.second,
        y.third,
        y.fourth,
        z.first,
        z.second,
      ),
      to_z-Fits w16 (two_at s 8) height,
    )

ten-read : (s : List ℕ) → length s ≡ 10 → ◌≡◌ {A = Result Multiples Refusal} (read_items s) (Ok (multiples_of s))
unfolding read_items
ten-read s l = rw (eq-eqb (length s) 10 l)

pub ten-come-back : TenComeBack
ten-come-back s out h l o =
    let b = ten-back s (ten-of s l) h in
    let w = writes (multiples_of s) out o b.1 in
    (multiples_of s, ten-read s l, w.0, w.1 ∙ b.0)

-- ---- three multiples
whole_four : (x : ℕ) → x < 2 ^ 32 → x / 2 ^ 24 % 256 * 2 ^ 24 + x / 2 ^ 16 % 256 * 2 ^ 16 + x / 2 ^ 8 % 256 * 2 ^ 8 + x % 256 ≡ x
whole_four x h =
    let y = x / 2 ^ 8 in
    let z = y / 2 ^ 8 in
    let a : x / 2 ^ 16 ≡ z = omega arith in
    let b : x / 2 ^ 24 ≡ z / 2 ^ 8 = omega arith in
    rw (a, b) (digits x y z (z / 2 ^ 8) (x % 2 ^ 8) (y % 2 ^ 8) (z % 2 ^ 8) (split x 8) (split y 8) (split z 8) (omega arith))
  where
    digits
        : (x y z u p q r : ℕ) → y * 2 ^ 8 + p ≡ x → z * 2 ^ 8 + q ≡ y → u * 2 ^ 8 + r ≡ z → u < 256
        → u % 256 * 2 ^ 24 + r * 2 ^ 16 + q * 2 ^ 8 + p ≡ x
    digits x y z u p q r a b c h = omega arith

whole-two : (x : ℕ) → x < 2 ^ 16 → x / 2 ^ 8 % 256 * 2 ^ 8 + x % 256 ≡ x
whole-two x h = omega arith

bits_small : (z : ℤ) → SFits w32 z → of_z w32 z < 2 ^ 32
bits_small (pos n) f = let h : n < 2 ^ 31 = f.sfits in omega arith
bits_small (negsuc n) f = omega arith

bits-few : (z : ℤ) → SFits w16 z → of_z w16 z < 2 ^ 16
bits-few (pos n) f = let h : n < 2 ^ 15 = f.sfits in omega arith
bits-few (negsuc n) f = omega arith

three_back : (m : Multiples) → SFits w32 m.lat → SFits w32 m.lon → SFits w16 m.height → multiples_of (items m) ≡ m
unfolding multiples_of items
three_back m x y z =
    rw (
      whole_four (of_z w32 m.lat) (bits_small m.lat x),
      whole_four (of_z w32 m.lon) (bits_small m.lon y),
      whole-two (of_z w16 m.height) (bits-few m.height z),
      to_z-of_z w32 m.lat x,
      to_z-of_z w32 m.lon y,
      to_z-of_z w16 m.height z,
    )

ten-items : (m : Multiples) → length (items m) ≡ 10
unfolding items
ten-items m = refl

read_back : (m : Multiples) → SFits w32 m.lat → SFits w32 m.lon → SFits w16 m.height → read_items (items m) ≡ Ok m
read_back m x y z = ten-read (items m) (ten-items m) ∙ ap Ok (three_back m x y z)

pub multiples-come-back : MultiplesComeBack
multiples-come-back m out x y a =
    let w = written m out a in
    ap read_items (writes m out w.0 w.1).1 ∙ read_back m x y w.1

pub exports-in-range : ExportsInRange
unfolding of_wire
exports-in-range w out a =
    let x = exported w out a in
    let r = in-range w x.lat x.lon in
    let lat = r.lat in
    let lon = r.lon-size in
    let back = read_back (of_wire w) (fits (of_wire w).lat (omega arith)) (fits (of_wire w).lon (omega arith)) x.height in
    (ap read_items (exports w out x).1 ∙ back, r)
