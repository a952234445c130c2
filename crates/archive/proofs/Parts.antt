-- A list that is laid out in parts: each is found in its place. Words and the parts that hold them. Assumes nothing.
use Prim.Native.Nat.{ℕ, zero, suc, ◌+◌, ◌*◌, ◌<◌, ◌≤◌}
use mathlib.Core.Path.{◌≡◌, refl, sym, ap, ap₂, ◌∙◌}
use mathlib.Core.List.{List, [], ◌∷◌, ◌++◌, append_assoc, append-nil}
use native.Mathlib.Omega.{arith}
use native.Mathlib.Nat.{add-zero}
use native.Mathlib.Numerals.{add-one}
use lib.ListN.{length, take, drop, get_or, length-append}
use lib.Seq.{take_all, take_at, drop-append_seam, drop_at, drop-cons, get_or-take, get_or-drop}
use Rattle.words.specs.Words.{word_at}
use Rattle.reader.specs.Meaning.{Bytes}
use Rattle.archive.specs.Forms.{part}

-- ---- p, with lists of eight bytes laid behind it

abbrev pub join : List ℕ → List (List ℕ) → List ℕ
join p [] = p
join p (x ∷ xs) = join (p ++ x) xs

abbrev pub Eights : List (List ℕ) → Type 0
Eights [] = Unit {0}
Eights (x ∷ xs) = (length x ≡ 8) × Eights xs

pub join-length : (p : List ℕ) (xs : List (List ℕ)) → Eights xs → length (join p xs) ≡ length p + 8 * length xs
join-length p [] e = omega arith
join-length p (x ∷ xs) (h, e) = join-length (p ++ x) xs e ∙ rw (length-append p x, h) (omega arith)

join_front : (p : List ℕ) (xs : List (List ℕ)) → join p xs ≡ p ++ join [] xs
join_front p [] = sym (append-nil p)
join_front p (x ∷ xs) = join_front (p ++ x) xs ∙ append_assoc p x (join [] xs) ∙ ap (λ (l : List ℕ). p ++ l) (sym (join_front x xs))

-- what stands right behind p
behind : (p x r : List ℕ) (n : ℕ) → length x ≡ n → part (p ++ x ++ r) (length p) n ≡ x
behind p x r n e = rw (append_assoc p x r, drop-append_seam p (x ++ r)) (take_at x r n e)

-- each is found in its place
pub found
    : (p : List ℕ) (xs : List (List ℕ)) (q : List ℕ) (i : ℕ) → Eights xs → i < length xs
    → part (join p xs ++ q) (length p + 8 * i) 8 ≡ get_or xs i []
found p [] q i e h = absurd (omega arith)
found p (x ∷ xs) q zero (f, e) h =
    let z : length p + 8 * 0 ≡ length p = omega arith in
    rw (z, join_front (p ++ x) xs, append_assoc (p ++ x) (join [] xs) q) (behind p x (join [] xs ++ q) 8 f)
found p (x ∷ xs) q (suc i) (f, e) h =
    let z : length (p ++ x) + 8 * i ≡ length p + 8 * suc i = rw (length-append p x, f) (omega arith) in
    ap (λ (k : ℕ). part (join (p ++ x) xs ++ q) k 8) (sym z) ∙ found (p ++ x) xs q i e (omega arith)

-- and so are p and what follows the last
pub first_found : (p : List ℕ) (xs : List (List ℕ)) (q : List ℕ) (k : ℕ) → length p ≡ k → part (join p xs ++ q) 0 k ≡ p
first_found p xs q k e = rw (join_front p xs, append_assoc p (join [] xs) q) (take_at p (join [] xs ++ q) k e)

pub last_found : (l q : List ℕ) (k n : ℕ) → length l ≡ k → length q ≡ n → part (l ++ q) k n ≡ q
last_found l q k n e f = rw (drop_at l q k e) (take_all n q (omega arith))

-- ---- bytes of a part

pub in-part : (s : List ℕ) (k n i : ℕ) → i < n → get_or (part s k n) i 0 ≡ get_or s (k + i) 0
in-part s k n i h = get_or-take n (drop k s) i 0 h ∙ get_or-drop k s i 0

pub bytes_take : (n : ℕ) (s : List ℕ) → Bytes s → Bytes (take n s)
bytes_take zero s b j = omega arith
bytes_take (suc n) [] b j = b j
bytes_take (suc n) (x ∷ s) b zero = b zero
bytes_take (suc n) (x ∷ s) b (suc j) = bytes_take n s (λ i. b (suc i)) j

pub bytes-part : (s : List ℕ) (k n : ℕ) → Bytes s → Bytes (part s k n)
bytes-part s k n b = bytes_take n (drop k s) (λ j. rw (get_or-drop k s j 0) (b (k + j)))

pub bytes-append : (p q : List ℕ) → Bytes p → Bytes q → Bytes (p ++ q)
bytes-append [] q b c j = c j
bytes-append (x ∷ p) q b c zero = b zero
bytes-append (x ∷ p) q b c (suc j) = bytes-append p q (λ i. b (suc i)) c j

abbrev pub AllBytes : List (List ℕ) → Type 0
AllBytes [] = Unit {0}
AllBytes (x ∷ xs) = Bytes x × AllBytes xs

pub bytes-join : (p : List ℕ) (xs : List (List ℕ)) → Bytes p → AllBytes xs → Bytes (join p xs)
bytes-join p [] b c = b
bytes-join p (x ∷ xs) b (y, c) = bytes-join (p ++ x) xs (bytes-append p x b y) c

-- ---- words and their bytes

-- equal bytes are equal words
pub equal_words : (w : ℕ) (s : List ℕ) (k j : ℕ) → ((i : ℕ) → i < w → get_or s (k + i) 0 ≡ get_or s (j + i) 0) → word_at w s k ≡ word_at w s j
unfolding word_at
equal_words zero s k j h = refl
equal_words (suc w) s k j h =
    let first : get_or s k 0 ≡ get_or s j 0 = rw (add-zero k, add-zero j) at (h 0 (omega arith)) in
    rw (first, equal_words w s (k + 1) (j + 1) others)
  where
    others : (i : ℕ) → i < w → get_or s (k + 1 + i) 0 ≡ get_or s (j + 1 + i) 0
    others i l =
        let p : k + (i + 1) ≡ k + 1 + i = omega arith in
        let q : j + (i + 1) ≡ j + 1 + i = omega arith in
        rw (p, q) at (h (i + 1) (omega arith))

-- equal words are equal bytes
pub equal-parts
    : (w : ℕ) (s : List ℕ) (k j : ℕ) → Bytes s → k + w ≤ length s → j + w ≤ length s → word_at w s k ≡ word_at w s j → part s k w ≡ part s j w
unfolding word_at
equal-parts zero s k j b h g e = refl
equal-parts (suc w) s k j b h g e =
    let x = b k in
    let y = b j in
    let first : get_or s k 0 ≡ get_or s j 0 = omega arith in
    let rest : word_at w s (k + 1) ≡ word_at w s (j + 1) = omega arith in
    let others = equal-parts w s (k + 1) (j + 1) b (omega arith) (omega arith) rest in
    ap (take (suc w)) (drop-cons s k 0 (omega arith))
    ∙ ap₂ ◌∷◌ first (rw (add-one k, add-one j) at others)
    ∙ ap (take (suc w)) (sym (drop-cons s j 0 (omega arith)))
