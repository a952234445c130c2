-- How many receptions are unpacked: all of up to 32, none of more. Assumes nothing.
use Prim.Native.Nat.{ℕ, ◌≤◌}
use mathlib.Core.Path.{◌≡◌, refl, ap, ◌∙◌}
use mathlib.Core.Bool.{Bool, true, false, cond}
use native.Mathlib.Omega.{arith}
use borrow.Author.Tests.{le-leb, leb-true}
use lib.Dec.{leb}
use Rattle.receptions.specs.declared.Reception.{Reception}
use Rattle.receptions.specs.declared.Fields.{Fields}
use Rattle.receptions.specs.Receptions.{fields_of}
use Rattle.receptions.specs.Held.{Holds}

few-all : (n k : ℕ) → k ≡ cond (leb n 32) n 0 → n ≤ 32 → k ≡ n
few-all n k e h = e ∙ ap (λ (t : Bool). cond t n 0) (le-leb n 32 h)

pub few-within : (n k : ℕ) → k ≡ cond (leb n 32) n 0 → (k ≤ n) × (k ≤ 32)
few-within n k e = go (leb n 32) (leb-true n 32) e
  where
    go : (t : Bool) → (t ≡ true → n ≤ 32) → k ≡ cond t n 0 → (k ≤ n) × (k ≤ 32)
    go true h q = (omega (arith, q), omega (arith, q, h refl))
    go false h q = (omega (arith, q), omega (arith, q))

-- arrays that were filled from so many hold the receptions
pub few-held : (at : ℕ → Reception) (n k : ℕ) {f : Fields} → k ≡ cond (leb n 32) n 0 → f ≡ fields_of at k → Holds f n at
few-held at n k e filled h = filled ∙ ap (fields_of at) (few-all n k e h)
