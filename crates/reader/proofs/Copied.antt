-- A list of bytes written anew, word by word, over another: the first k bytes are those of s, and the others still those of the list
-- written over. Assumes nothing.
use Prim.Native.Nat.{ℕ, zero, suc, ◌+◌, ◌*◌, ◌/◌, ◌%◌, ◌^◌, ◌<◌, ◌≤◌}
use mathlib.Core.Path.{◌≡◌, sym, ap, subst, ◌∙◌}
use mathlib.Core.Bool.{Bool, true, not, false≢true}
use mathlib.Core.List.{List, ◌∷◌, ◌++◌, append_assoc}
use native.Mathlib.Omega.{arith}
use native.Mathlib.Numerals.{add-one}
use lib.Dec.{T}
use lib.ListN.{length, take, drop, get_or, set}
use lib.Seq.{drop-cons, take-suc}
use lib.Ieee.{Float, nan, inf, fin, binary64, is_nan, nan_bits}
use lib.Ieee.Bits.{to_bits-of_bits, nan_bits_is}
use mir.Syntax.{w64}
use mir.ValLaws.{of_z-to_z}
use Rattle.binary64.specs.Steps.{#, is_finite}
use Rattle.words.specs.Words.{word_at, put_word, u16_at, u32_at, u64_at, i64_at, f64_at, put_u16, put_u32, put_u64, put_i64, put_f64}
use Rattle.words.proofs.Back.{word_lt}
use Rattle.record.proofs.Copies.{copy-next}

abbrev pub Bytes : List ℕ → Type 0
Bytes s = (j : ℕ) → get_or s j 0 < 256

unfoldable pub up_to : List ℕ → List ℕ → ℕ → List ℕ
up_to s out k = take k s ++ drop k out

finite_number : (x : Float) → is_finite x ≡ true → T (not (is_nan x))
unfolding is_finite is_nan
finite_number nan h = absurd (false≢true h)
finite_number (inf s) h = tt
finite_number (fin s m e) h = tt

-- the bits of a finite float
pub finite-pattern : (n : ℕ) → is_finite (# n) ≡ true → T (not (nan_bits binary64 n))
finite-pattern n f = subst (λ (b : Bool). T (not b)) (sym (nan_bits_is binary64 n)) (finite_number (# n) f)

-- the digits of a word with one byte more
low : (x y : ℕ) → x < 256 → (x + 256 * y) % 256 ≡ x
low x y h = omega arith

high : (x y : ℕ) → x < 256 → (x + 256 * y) / 256 ≡ y
high x y h = omega arith

module _ (s out : List ℕ) (same : length s ≡ length out) where
  pub copy-byte : (k : ℕ) → k + 1 ≤ length out → set (up_to s out k) k (get_or s k 0) ≡ up_to s out (k + 1)
  unfolding up_to
  copy-byte k h = copy-next s out k (omega arith) (omega arith)

  -- a byte that is there already
  pub skip-byte : (k : ℕ) → k + 1 ≤ length out → get_or s k 0 ≡ get_or out k 0 → up_to s out k ≡ up_to s out (k + 1)
  unfolding up_to
  skip-byte k h e =
      rw (add-one, take-suc s k 0 (omega arith), append_assoc)
      (ap (λ (l : List ℕ). take k s ++ l) (drop-cons out k 0 (omega arith) ∙ ap (λ (x : ℕ). x ∷ drop (suc k) out) (sym e)))

  module _ (bytes : Bytes s) where
    pub copy-word : (w k : ℕ) → k + w ≤ length out → put_word w (up_to s out k) k (word_at w s k) ≡ up_to s out (k + w)
    unfolding put_word word_at
    copy-word zero k h = let e : k + 0 ≡ k = omega arith in rw e
    copy-word (suc w) k h =
        let i : k + 1 + w ≡ k + suc w = omega arith in
        let byte = get_or s k 0 in
        let rest = word_at w s (k + 1) in
        rw (low byte rest (bytes k), high byte rest (bytes k), copy-byte k (omega arith), copy-word w (k + 1) (omega arith), i)

    pub copy-u16 : (k : ℕ) → k + 2 ≤ length out → put_u16 (up_to s out k) k (u16_at s k) ≡ up_to s out (k + 2)
    unfolding put_u16 u16_at
    copy-u16 k h = copy-word 2 k h

    pub copy-u32 : (k : ℕ) → k + 4 ≤ length out → put_u32 (up_to s out k) k (u32_at s k) ≡ up_to s out (k + 4)
    unfolding put_u32 u32_at
    copy-u32 k h = copy-word 4 k h

    pub copy-u64 : (k : ℕ) → k + 8 ≤ length out → put_u64 (up_to s out k) k (u64_at s k) ≡ up_to s out (k + 8)
    unfolding put_u64 u64_at
    copy-u64 k h = copy-word 8 k h

    u64-lt : (k : ℕ) → u64_at s k < 2 ^ 64
    unfolding u64_at
    u64-lt k = word_lt 8 s k bytes

    pub copy-i64 : (k : ℕ) → k + 8 ≤ length out → put_i64 (up_to s out k) k (i64_at s k) ≡ up_to s out (k + 8)
    unfolding put_i64 i64_at
    copy-i64 k h = rw (of_z-to_z w64 (u64_at s k) (record { fits = u64-lt k })) (copy-u64 k h)

    pub copy-f64 : (k : ℕ) → k + 8 ≤ length out → is_finite (f64_at s k) ≡ true → put_f64 (up_to s out k) k (f64_at s k) ≡ up_to s out (k + 8)
    unfolding put_f64 f64_at
    copy-f64 k h f = rw (to_bits-of_bits binary64 (u64_at s k) (u64-lt k) (finite_number _ f)) (copy-u64 k h)
