-- Why a place is refused, and that a record at one that is not lies within the file. Assumes nothing.
use Prim.Native.Nat.{ℕ, ◌+◌, ◌*◌, ◌/◌, ◌%◌, ◌<◌, ◌≤◌}
use mathlib.Core.Path.{◌≡◌, refl}
use mathlib.Core.Bool.{Bool, true, false, cond}
use mathlib.Core.List.{List, []}
use native.Mathlib.Omega.{arith}
use lib.Dec.{ltb, eqb}
use lib.ListN.{length, take, drop}
use borrow.Author.Tests.{ltb-true, eqb-true, eq-eqb, ne_eqb, lt-ltb, le-ltb}
use Rattle.refusals.specs.Refusals.{torn_file, no_such_place}
use Rattle.reader.specs.Read.{place_refusal, record_at}

-- ---- the three ends

module _ (size place : ℕ) where
  pub torn-file : (size % 176 ≡ 0 → ⊥) → torn_file ≡ place_refusal size place
  unfolding place_refusal
  torn-file n = rw (ne_eqb (size % 176) 0 n)

  pub no-such-place : size % 176 ≡ 0 → size / 176 ≤ place → no_such_place ≡ place_refusal size place
  unfolding place_refusal
  no-such-place e h = rw (e, le-ltb place (size / 176) h)

  pub placed : size % 176 ≡ 0 → place < size / 176 → 0 ≡ place_refusal size place
  unfolding place_refusal
  placed e h = rw (e, lt-ltb place (size / 176) h)

-- ---- a record within the file

tests : (a b : Bool) → ◌≡◌ {A = ℕ} (cond a (cond b 0 17) 16) 0 → (a ≡ true) × (b ≡ true)
tests true true e = (refl, refl)
tests true false e = absurd (omega arith)
tests false b e = absurd (omega arith)

pub within-file : (size place : ℕ) → place_refusal size place ≡ 0 → 176 * place + 176 ≤ size
unfolding place_refusal
within-file size place e =
    let t = tests (eqb (size % 176) 0) (ltb place (size / 176)) e in
    let whole : size % 176 ≡ 0 = eqb-true _ _ t.0 in
    let below : place < size / 176 = ltb-true _ _ t.1 in
    omega arith

pub there : (file : List ℕ) (place : ℕ) → place_refusal (length file) place ≡ 0 → take 176 (drop (176 * place) file) ≡ record_at file place
unfolding record_at
there file place e = rw (eq-eqb (place_refusal (length file) place) 0 e)

pub refused : (file : List ℕ) (place : ℕ) → (place_refusal (length file) place ≡ 0 → ⊥) → [] ≡ record_at file place
unfolding record_at
refused file place n = rw (ne_eqb (place_refusal (length file) place) 0 n)
