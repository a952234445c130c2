-- A word and its two parts, for every width: the lower a bytes, and the b bytes above them. Assumes nothing.
use Prim.Native.Nat.{ℕ, zero, suc, ◌+◌, ◌*◌, ◌/◌, ◌%◌, ◌^◌, ◌<◌}
use mathlib.Core.Path.{◌≡◌}
use mathlib.Core.List.{List}
use native.Mathlib.Omega.{arith}
use native.Mathlib.Nat.{div-div-eq-div-mul, add-zero, zero-add, suc-add, pow-suc, pow-succ', one-le-pow}
use lib.Arith.{mod-mul, digits_div, digits_mod}
use lib.ListN.{set}
use Rattle.words.specs.Words.{word_at, put_word}

pub read-parts : (a b : ℕ) (s : List ℕ) (k : ℕ) → word_at (a + b) s k ≡ word_at a s k + 256 ^ a * word_at b s (k + a)
unfolding word_at
read-parts zero b s k = rw (zero-add b, add-zero k) (omega arith)
read-parts (suc a) b s k =
    let i : k + 1 + a ≡ k + suc a = omega arith in
    rw (suc-add a b, read-parts a b s (k + 1), i, pow-succ' 256 a) (omega arith)

-- what the lower a + 1 bytes of x have above their first
low : (a x : ℕ) → x % 256 ^ suc a ≡ (x / 256 % 256 ^ a) * 256 + x % 256
low a x = rw (pow-suc 256 a) (mod-mul x (one-le-pow a 256 (omega arith)) (omega arith))

pub write-parts : (a b : ℕ) (s : List ℕ) (k x : ℕ) → put_word (a + b) s k x ≡ put_word b (put_word a s k (x % 256 ^ a)) (k + a) (x / 256 ^ a)
unfolding put_word
write-parts zero b s k x = let e : x / 1 ≡ x = omega arith in rw (zero-add, add-zero, e)
write-parts (suc a) b s k x =
    let i : k + 1 + a ≡ k + suc a = omega arith in
    let l : x % 256 < 256 = omega arith in
    rw (
      suc-add a b,
      write-parts a b (set s k (x % 256)) (k + 1) (x / 256),
      low a x,
      digits_div (x / 256 % 256 ^ a) l,
      digits_mod (x / 256 % 256 ^ a) l,
      i,
      div-div-eq-div-mul x 256 (256 ^ a),
      pow-succ' 256 a,
    )
