-- Parts of a list, put one after the other into another. Assumes nothing.
use Prim.Native.Nat.{ℕ, ◌+◌, ◌≤◌}
use mathlib.Core.Path.{◌≡◌, sym, ap, ◌∙◌}
use mathlib.Core.List.{List, ◌++◌}
use native.Mathlib.Omega.{arith}
use native.Mathlib.Nat.{zero-add}
use lib.ListN.{length, take, drop, length-drop}
use lib.Seq.{paste, take-paste, length-paste, take-add, drop-drop, take_all, length-take-le}
use borrow.Rule.Slice.PartMut.{put_mid}
use Rattle.std.proofs.lemmas.List.{take-take}
use Rattle.std.proofs.lemmas.Slice.{put_mid-paste}
use Rattle.archive.specs.Forms.{part}

-- what remains of s from byte k on is long enough for a part
rest : (s : List ℕ) (k n : ℕ) → k + n ≤ length s → n ≤ length (drop k s)
rest s k n h = rw (length-drop k s) (omega arith)

pub part_length : (s : List ℕ) (k n : ℕ) → k + n ≤ length s → length (part s k n) ≡ n
part_length s k n h = length-take-le n (drop k s) (rest s k n h)

-- two parts side by side are one
pub joined : (s : List ℕ) (k n m : ℕ) → part s k n ++ part s (k + n) m ≡ part s k (n + m)
joined s k n m = rw (take-add n m (drop k s), drop-drop n k s)

-- a copy keeps the length
pub same_size : (d s : List ℕ) (k at n : ℕ) → k + n ≤ length d → at + n ≤ length s → length (paste d k (drop at s) n) ≡ length d
same_size d s k at n h g = length-paste d k (drop at s) n h (rest s at n g)

-- where d begins with p, a copy right behind it makes it begin with p and the part
pub grown
    : (d s p : List ℕ) (k at n : ℕ) → k + n ≤ length d → at + n ≤ length s → take k d ≡ p
    → take (k + n) (paste d k (drop at s) n) ≡ p ++ part s at n
grown d s p k at n h g e =
    take-paste d k (drop at s) n (omega arith) (rest s at n g) ∙ ap (λ (l : List ℕ). l ++ part s at n) e

-- a part of d that has become a part of s
pub pasted
    : (d s ys : List ℕ) (k at n i : ℕ) → at + n ≤ length s → ys ≡ part s at n → n ≡ i → put_mid k i d ys ≡ paste d k (drop at s) n
pasted d s ys k at n i h e l =
    put_mid-paste k i d ys (part s at n) n e l (sym (part_length s at n h))
    ∙ ap (λ (m : List ℕ). take k d ++ m ++ drop (k + n) d) (take-take n n (drop at s) (omega arith))

-- all of m, over the front of d
pub over-front : (d m : List ℕ) (n : ℕ) → length m ≡ n → paste d 0 (drop 0 m) n ≡ m ++ drop n d
over-front d m n e = rw (zero-add n, take_all n m (omega arith))
