-- What is written is read back, what stands elsewhere stays, and no byte comes or goes: for every width, place and list. Assumes nothing.
use Prim.Native.Nat.{ℕ, zero, suc, ◌+◌, ◌*◌, ◌/◌, ◌%◌, ◌^◌, ◌<◌, ◌≤◌}
use mathlib.Core.Path.{◌≡◌, refl, ◌∙◌}
use mathlib.Core.Logic.{◌⊎◌, inl, inr, ⊎_elim}
use mathlib.Core.List.{List}
use native.Mathlib.Omega.{arith}
use native.Mathlib.Nat.{pow-suc, div-lt_iff_lt-mul, eq-or-lt_of_le}
use lib.ListN.{get_or, set, length, length-set}
use lib.Seq.{get_or-set_same, get_or-set_other}
use Rattle.words.specs.Words.{word_at, put_word}

pub put-length : (w : ℕ) (s : List ℕ) (k x : ℕ) → length (put_word w s k x) ≡ length s
unfolding put_word
put-length zero s k x = refl
put-length (suc w) s k x = put-length w (set s k (x % 256)) (k + 1) (x / 256) ∙ length-set s k (x % 256)

-- a byte outside the w that are written
pub put_keeps : (w : ℕ) (s : List ℕ) (k x j : ℕ) → (j < k) ⊎ (k + w ≤ j) → get_or (put_word w s k x) j 0 ≡ get_or s j 0
unfolding put_word
put_keeps zero s k x j o = refl
put_keeps (suc w) s k x j o =
    put_keeps w (set s k (x % 256)) (k + 1) (x / 256) j (⊎_elim (λ h. inl (omega arith)) (λ h. inr (omega arith)) o)
    ∙ get_or-set_other s k j (x % 256) 0 (⊎_elim (λ h e. omega arith) (λ h e. omega arith) o)

-- a word of v bytes outside those that are written
pub read-elsewhere : (v w : ℕ) (s : List ℕ) (k x j : ℕ) → (j + v ≤ k) ⊎ (k + w ≤ j) → word_at v (put_word w s k x) j ≡ word_at v s j
unfolding word_at
read-elsewhere zero w s k x j o = refl
read-elsewhere (suc v) w s k x j o =
    rw (
      put_keeps w s k x j (⊎_elim (λ h. inl (omega arith)) (λ h. inr h) o),
      read-elsewhere v w s k x (j + 1) (⊎_elim (λ h. inl (omega arith)) (λ h. inr (omega arith)) o),
    )

-- what w bytes hold of x: its lowest w digits to the base 256
unfoldable pub lowest : ℕ → ℕ → ℕ
lowest zero x = 0
lowest (suc w) x = x % 256 + 256 * lowest w (x / 256)

-- all of x where it is below 256 ^ w
pub lowest-whole : (w x : ℕ) → x < 256 ^ w → lowest w x ≡ x
unfolding lowest
lowest-whole zero x l = let e : x < 1 = l in omega arith
lowest-whole (suc w) x l =
    let m : x / 256 < 256 ^ w = (div-lt_iff_lt-mul {k = 256} {x = x} {y = 256 ^ w} (omega arith)).1 (rw (pow-suc 256 w) at l) in
    rw (lowest-whole w (x / 256) m) (omega arith)

-- the word that was written, whatever number it was given
pub read-lowest : (w : ℕ) (s : List ℕ) (k x : ℕ) → k + w ≤ length s → word_at w (put_word w s k x) k ≡ lowest w x
unfolding word_at put_word lowest
read-lowest zero s k x h = refl
read-lowest (suc w) s k x h =
    let t = set s k (x % 256) in
    let first = put_keeps w t (k + 1) (x / 256) k (inl (omega arith)) ∙ get_or-set_same s k (x % 256) 0 (omega arith) in
    rw (first, read-lowest w t (k + 1) (x / 256) (rw length-set (omega arith)))

pub read_back : (w : ℕ) (s : List ℕ) (k x : ℕ) → k + w ≤ length s → x < 256 ^ w → word_at w (put_word w s k x) k ≡ x
read_back w s k x h l = read-lowest w s k x h ∙ lowest-whole w x l

-- the bytes of a word that is 0
pub zero-bytes : (w : ℕ) (s : List ℕ) (k : ℕ) → word_at w s k ≡ 0 → (j : ℕ) → k ≤ j → j < k + w → get_or s j 0 ≡ 0
unfolding word_at
zero-bytes zero s k e j a b = absurd (omega arith)
zero-bytes (suc w) s k e j a b = elim (eq-or-lt_of_le a) [
  | inl q ↦ rw (← q) (omega arith)
  | inr l ↦ zero-bytes w s (k + 1) (omega arith) j (omega arith) (omega arith)
]

-- a word of w bytes is below 256 ^ w
pub word_lt : (w : ℕ) (s : List ℕ) (k : ℕ) → ((j : ℕ) → get_or s j 0 < 256) → word_at w s k < 256 ^ w
unfolding word_at
word_lt zero s k b = omega arith
word_lt (suc w) s k b =
    let first = b k in
    let rest = word_lt w s (k + 1) b in
    rw (pow-suc 256 w) (omega arith)
