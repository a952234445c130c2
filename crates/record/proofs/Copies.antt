-- A copy over the front of a list, byte by byte. Assumes nothing.
use Prim.Native.Nat.{ℕ, suc, ◌+◌, ◌<◌}
use mathlib.Core.Path.{◌≡◌, ap, ◌∙◌}
use mathlib.Core.List.{List, ◌++◌, append_assoc}
use native.Mathlib.Omega.{arith}
use native.Mathlib.Numerals.{add-one}
use lib.ListN.{length, take, drop, get_or, set}
use lib.Seq.{drop-cons, take-suc, set_at, length-take-le}

-- one byte more
pub copy-next : (r out : List ℕ) (i : ℕ) → i < length r → i < length out → set (take i r ++ drop i out) i (get_or r i 0) ≡ take (i + 1) r
    ++ drop (i + 1) out
copy-next r out i h k =
    ap (λ (l : List ℕ). set (take i r ++ l) i (get_or r i 0)) (drop-cons out i 0 k)
    ∙ set_at (take i r) (get_or out i 0) (drop (suc i) out) (get_or r i 0) i (length-take-le i r (omega arith))
    ∙ rw (add-one, take-suc r i 0 h, append_assoc)
