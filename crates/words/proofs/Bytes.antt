-- A number by the library's bytes, which are its digits to the base 256: writing them one after another, and reading them. Assumes nothing.
use Rattle.std.proofs.Common.{ℕ, zero, suc, ◌+◌, ◌-◌, ◌*◌, ◌/◌, ◌%◌, ◌^◌, ◌≤◌, ◌≡◌, refl, sym, ◌∙◌, arith, List, [], ◌∷◌, ◌++◌, length, take, drop}
use Rattle.std.proofs.Common.{set, get_or}
use Rattle.std.proofs.lemmas.List.{append_assoc, take-append-drop, take_more_set, drop-drop, drop-set-lt, length-set}
use native.Mathlib.Nat.{div-div-eq-div-mul}
use Rattle.std.specs.Int.{w16, w32, w64, to_le_bytes}
use borrow.Rule.Slice.PartMut.{put_mid}
use Rattle.words.specs.Words.{word_at, put_word, put_u16, put_u32, put_u64}

-- the lowest w digits of x
unfoldable digits : ℕ → ℕ → List ℕ
digits zero x = []
digits (suc w) x = x % 256 ∷ digits w (x / 256)

drop-one : (k w : ℕ) (s : List ℕ) → drop (suc w) (drop k s) ≡ drop w (drop (k + 1) s)
drop-one k w s =
    let e : k + suc w ≡ k + 1 + w = omega arith in
    drop-drop (suc w) k s ∙ rw e (sym (drop-drop w (k + 1) s))

written : (w k x : ℕ) (s : List ℕ) → k + w ≤ length s → put_mid k w s (digits w x) ≡ put_word w s k x
unfolding digits put_word
written zero k x s h = take-append-drop k s
written (suc w) k x s h =
    let t : List ℕ = set s k (x % 256) in
    let front : take (k + 1) t ≡ take k s ++ (x % 256 ∷ []) = take_more_set s k (x % 256) (omega arith) in
    let rest : drop (k + 1) t ≡ drop (k + 1) s = drop-set-lt (k + 1) s k (x % 256) (omega arith) in
    let i : put_mid (k + 1) w t (digits w (x / 256)) ≡ put_word w t (k + 1) (x / 256) = written w (k + 1) (x / 256) t (rw length-set (omega arith)) in
    rw (drop-one k w s, ← rest) (sym (append_assoc (take k s) (x % 256 ∷ []) (digits w (x / 256) ++ drop w (drop (k + 1) t))) ∙ rw (← front) i)

bytes_16 : (x : ℕ) → to_le_bytes w16 x ≡ digits 2 x
unfolding digits
bytes_16 x = refl

bytes_32 : (x : ℕ) → to_le_bytes w32 x ≡ digits 4 x
unfolding digits
bytes_32 x = rw (div-div-eq-div-mul x 256 256, div-div-eq-div-mul x (256 ^ 2) 256)

bytes_64 : (x : ℕ) → to_le_bytes w64 x ≡ digits 8 x
unfolding digits
bytes_64 x =
    rw (
      div-div-eq-div-mul x 256 256,
      div-div-eq-div-mul x (256 ^ 2) 256,
      div-div-eq-div-mul x (256 ^ 3) 256,
      div-div-eq-div-mul x (256 ^ 4) 256,
      div-div-eq-div-mul x (256 ^ 5) 256,
      div-div-eq-div-mul x (256 ^ 6) 256,
    )

-- what is left of a slice once the w bytes of x are copied to its part from byte k on
pub copied_2 : (k x : ℕ) (s bytes : List ℕ) → k + 2 ≤ length s → bytes ≡ to_le_bytes w16 x → put_mid k (k + 2 - k) s bytes ≡ put_u16 s k x
unfolding put_u16
copied_2 k x s bytes h e = let n : k + 2 - k ≡ 2 = omega arith in rw (n, e ∙ bytes_16 x) (written 2 k x s h)

pub copied_4 : (k x : ℕ) (s bytes : List ℕ) → k + 4 ≤ length s → bytes ≡ to_le_bytes w32 x → put_mid k (k + 4 - k) s bytes ≡ put_u32 s k x
unfolding put_u32
copied_4 k x s bytes h e = let n : k + 4 - k ≡ 4 = omega arith in rw (n, e ∙ bytes_32 x) (written 4 k x s h)

pub copied_8 : (k x : ℕ) (s bytes : List ℕ) → k + 8 ≤ length s → bytes ≡ to_le_bytes w64 x → put_mid k (k + 8 - k) s bytes ≡ put_u64 s k x
unfolding put_u64
copied_8 k x s bytes h e = let n : k + 8 - k ≡ 8 = omega arith in rw (n, e ∙ bytes_64 x) (written 8 k x s h)

-- a word by its bytes' places
pub read_4 : (s : List ℕ) (k : ℕ) → word_at 4 s k ≡ get_or s k 0 + 256 * (get_or s (k + 1) 0 + 256 * (get_or s (k + 2) 0 + 256 * get_or s (k + 3) 0))
unfolding word_at
read_4 s k =
    let e2 : k + 1 + 1 ≡ k + 2 = omega arith in
    let e3 : k + 2 + 1 ≡ k + 3 = omega arith in
    rw (e2, e3) (omega arith)

pub read_8 : (s : List ℕ) (k : ℕ) → word_at 8 s k ≡ get_or s k 0 + 256 * (get_or s (k + 1) 0 + 256 * (get_or s (k + 2) 0 + 256 * (get_or s (k + 3) 0
    + 256 * (get_or s (k + 4) 0 + 256 * (get_or s (k + 5) 0 + 256 * (get_or s (k + 6) 0 + 256 * get_or s (k + 7) 0))))))
unfolding word_at
read_8 s k =
    let e2 : k + 1 + 1 ≡ k + 2 = omega arith in
    let e3 : k + 2 + 1 ≡ k + 3 = omega arith in
    let e4 : k + 3 + 1 ≡ k + 4 = omega arith in
    let e5 : k + 4 + 1 ≡ k + 5 = omega arith in
    let e6 : k + 5 + 1 ≡ k + 6 = omega arith in
    let e7 : k + 6 + 1 ≡ k + 7 = omega arith in
    rw (e2, e3, e4, e5, e6, e7) (omega arith)
