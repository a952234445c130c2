-- The statement of specs/Meaning.antt: 0 and -0 make 0. Assumes nothing.
use Rattle.std.proofs.Common.{◌≡◌, ℕ, zero, suc, ◌<◌, List, refl, ap, ◌∙◌, ap₂, arith}
use lib.Ieee.{Float, binary64, add, neg, of_bits, to_bits}
use Rattle.binary64.specs.Steps.{◌⊕◌, ◌⊖◌, nought}
use Rattle.dense.specs.Entries.{nth}
use Rattle.problem.specs.Problem.{range}
use Rattle.starts.specs.Lifted.{sent_to}
use Rattle.starts.specs.Meaning.{TimesFromPlusZero}

with-minus-zero : nought ⊕ neg nought ≡ nought
unfolding add neg of_bits
with-minus-zero = refl

sum_is : (sites z x : List Float) (k : ℕ) → ((i : ℕ) → i < k → nth z i ⊖ range sites x i ≡ neg nought) → sent_to sites z x k ≡ nought
unfolding sent_to
sum_is sites z x zero h = refl
sum_is sites z x (suc k) h =
    ap₂ (λ (a b : Float). a ⊕ b) (sum_is sites z x k (λ i l. h i (omega arith))) (h k (omega arith)) ∙ with-minus-zero

nought-bits : to_bits binary64 nought ≡ 0
unfolding to_bits of_bits
nought-bits = refl

pub times-from-plus-zero : TimesFromPlusZero
times-from-plus-zero sites z x k h = ap (to_bits binary64) (sum_is sites z x k h) ∙ nought-bits
