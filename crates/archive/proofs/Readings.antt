-- Which numbers the reader gives. Assumes nothing.
use Prim.Native.Nat.{ℕ}
use mathlib.Core.Path.{◌≡◌, refl}
use mathlib.Core.Bool.{Bool, true, false, cond}
use mathlib.Core.List.{List}
use native.Mathlib.Omega.{arith}
use lib.Dec.{eqb}
use lib.ListN.{length}
use borrow.Author.Tests.{eq-eqb}
use Rattle.std.specs.Prelude.{Ok, Err}
use Rattle.refusals.specs.declared.Refusal.TheVariants.{TornFile, MalformedRecord}
use Rattle.refusals.specs.Refusals.{answer_of}
use Rattle.reader.specs.declared.content.Content.{Content}
use Rattle.reader.specs.Tests.{meets_rules}
use Rattle.reader.specs.Read.{read_of, content_at}

unread
    : (b : Bool) (v : Content) → (answer_of (cond b (Ok v) (Err MalformedRecord)) ≡ 0 → ⊥)
    → answer_of (cond b (Ok v) (Err MalformedRecord)) ≡ 18
unread true v n = absurd (n refl)
unread false v n = refl

-- of 176 bytes 18 is the only refusal
pub malformed : (s : List ℕ) → length s ≡ 176 → (answer_of (read_of s) ≡ 0 → ⊥) → answer_of (read_of s) ≡ 18
unfolding read_of
malformed s z n =
    let t = eq-eqb (length s) 176 z in
    rw t (unread (meets_rules s) (content_at s) (rw t at n))

other : (a b : Bool) (v : Content) → (answer_of (cond a (cond b (Ok v) (Err MalformedRecord)) (Err TornFile)) ≡ 20 → ⊥)
other true true v e = omega arith
other true false v e = omega arith
other false b v e = omega arith

-- it never gives 20
pub never-20 : (s : List ℕ) → (answer_of (read_of s) ≡ 20 → ⊥)
unfolding read_of
never-20 s = other (eqb (length s) 176) (meets_rules s) (content_at s)
