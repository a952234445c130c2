-- One step of each loop and test, over variables. Assumes nothing.
use Prim.Native.Nat.{ℕ, zero, suc, ◌+◌, ◌*◌, ◌-◌, ◌<◌, ◌≤◌}
use mathlib.Core.Path.{◌≡◌, refl, ◌∙◌}
use mathlib.Core.Bool.{Bool, true, false, ◌&&◌}
use mathlib.Core.Logic.{◌⊎◌, inl, inr}
use mathlib.Core.List.{List}
use Rattle.std.proofs.Common.{Ok, Err}
use native.Mathlib.Omega.{arith}
use native.Mathlib.Nat.{eq-or-lt_of_le}
use native.Mathlib.Numerals.{add-one}
use borrow.Author.Tests.{eqb-true}
use lib.IntN.{ℤ}
use lib.ListN.{set, length}
use lib.Ieee.{Float}
use Rattle.dense.specs.Entries.{nth}
use Rattle.geo.specs.Geo.{from_mm}
use Rattle.sets.specs.Mask.{has}
use Rattle.receptions.specs.declared.Fields.{Fields}
use Rattle.receptions.specs.Receptions.{floats}
use Rattle.receptions.specs.Held.{site_in}
use Rattle.inputs.specs.declared.Fault.{Fault}
use Rattle.inputs.specs.declared.Fault.TheVariants.{Disorder, BadField}
use Rattle.inputs.specs.Faults.{Check, passed, or_else, unless, first_to}
use Rattle.inputs.specs.Domain.{good_entry}
use Rattle.inputs.specs.Inputs.{entry_at, good_row_to, if_there, sized}
use Rattle.receptions.proofs.Filling.{fill-three}
use Rattle.inputs.proofs.Held.{good_in, check_in, metres_in}

pub first_next : (check : ℕ → Check) (k : ℕ) → or_else (first_to check k) (check k) ≡ first_to check (k + 1)
unfolding first_to
first_next check k = rw add-one

pub check-is
    : (f : Fields) (i : ℕ) {check : Check} {good above : Bool}
    → good ≡ good_in f i
    → above ≡ has f.ascending i
    → check ≡ or_else (unless good (BadField i)) (unless above (Disorder i))
    → check_in f i ≡ check
check-is f i g a c = rw (c, g, a)

-- the first check that refuses is the outcome of all
pub refuses-first
    : (check : ℕ → Check) (k n : ℕ) {fault : Fault} → first_to check k ≡ passed → check k ≡ Err fault → k < n → Err fault ≡ first_to check n
unfolding first_to
refuses-first check k zero p e h = absurd (omega (arith, h))
refuses-first check k (suc n) {fault} p e h = go (eq-or-lt_of_le (let q : k ≤ n = omega (arith, h) in q)) (λ q. refuses-first check k n p e q)
  where
    go : (k ≡ n) ⊎ (k < n) → (k < n → Err fault ≡ first_to check n) → Err fault ≡ or_else (first_to check n) (check n)
    go (inl q) f = rw (← q, p, e)
    go (inr q) f = rw (← f q)

-- one check more passes
pub passes-next : (check : ℕ → Check) (k : ℕ) {done : Unit {0}} → first_to check k ≡ passed → check k ≡ Ok done → first_to check (k + 1) ≡ passed
unfolding first_to
passes-next check k p e = rw (add-one, p, e)

pub metres-next
    : (sites : List ℤ) (i : ℕ) {site : List ℤ} {out out' metres : List Float}
    → out ≡ metres_in sites i
    → site ≡ site_in sites i
    → metres ≡ from_mm site
    → out' ≡ set (set (set out (3 * i) (nth metres 0)) (3 * i + 1) (nth metres 1)) (3 * i + 2) (nth metres 2)
    → out' ≡ metres_in sites (i + 1)
metres-next sites i e s m h = h ∙ rw (e, m, s) (fill-three (floats 96) (λ i a. nth (from_mm (site_in sites i)) a) i)

pub row-start : (clock : List ℕ) (n i : ℕ) → true ≡ good_row_to clock n i (i - i)
unfolding good_row_to
row-start clock n i = let e : i - i ≡ 0 = omega arith in rw e

pub row_next : (clock : List ℕ) (n i j : ℕ) → i ≤ j → good_row_to clock n i (j - i) && good_entry i j (entry_at clock n i j)
    ≡ good_row_to clock n i (j + 1 - i)
unfolding good_row_to
row_next clock n i j h =
    let e : j + 1 - i ≡ suc (j - i) = omega arith in
    let d : i + (j - i) ≡ j = omega arith in
    rw (e, d)

-- a row with a bad entry is no good row
pub row-bad
    : (clock : List ℕ) (n i j m : ℕ) → i ≤ j → j < m → good_entry i j (entry_at clock n i j) ≡ false → good_row_to clock n i (m - i) ≡ false
unfolding good_row_to
row-bad clock n i j zero h l e = absurd (omega (arith, l))
row-bad clock n i j (suc m) h l e = go (eq-or-lt_of_le (let q : j ≤ m = omega (arith, l) in q)) (λ q. row-bad clock n i j m h q e)
  where
    s : suc m - i ≡ suc (m - i)
    s = omega (arith, h, l)

    d : i + (m - i) ≡ m
    d = omega (arith, h, l)

    none : (a : Bool) → a && false ≡ false
    none true = refl
    none false = refl

    go : (j ≡ m) ⊎ (j < m) → (j < m → good_row_to clock n i (m - i) ≡ false) → good_row_to clock n i (suc m - i) ≡ false
    go (inl q) f = rw (s, d, ← q, e) (none (good_row_to clock n i (j - i)))
    go (inr q) f = rw (s, f q)

pub sized-there : (size : ℕ) (there : Bool) (b : List ℕ) → there ≡ true → sized size (if_there there b) ≡ true → length b ≡ size
sized-there size there b t e = eqb-true (length b) size (rw t at e)

-- an n × n matrix that has an entry has a row
pub some-rows : (n k : ℕ) → k < n * n → 0 < n
some-rows zero k h = absurd (omega arith)
some-rows (suc n) k h = omega arith
