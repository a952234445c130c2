-- Document 01's † edges, each from the crate that it is about; sums from plus zero, and `max`. Assumes nothing.
use Prim.Native.Nat.{ℕ, zero, suc}
use mathlib.Core.Path.{◌≡◌, refl, ap, ◌∙◌}
use mathlib.Core.Bool.{Bool, true, false, not, cond}
use lib.Dec.{T}
use lib.Ieee.{Float, binary64, add, mul, neg, lt, of_bits, to_bits}
use Rattle.binary64.specs.Steps.{◌⊕◌, ◌⊗◌, nought, one, max_of}
use Rattle.dense.specs.Entries.{dots}
use Rattle.binary64.proofs.Edges as numbers
use Rattle.screen.proofs.Edges as pairs
use Rattle.limits.proofs.Edges as limits
use Rattle.mlat_solver.specs.Edges.{Edges, SumsFromPlusZero, MaxGivesSecond}

pub edges : Edges
edges = record {
  one_site = λ s. (pairs.one-site-passes s, pairs.one-site-fails s);
  equality = pairs.equality;
  at_equality = (pairs.equality-passes, pairs.one-more-fails);
  twos = pairs.baseline-of-twos;
  farthest = pairs.baseline-of-the-farthest;
  first_goes = pairs.first-goes;
  middle_goes = pairs.middle-goes;
  root_of_two = numbers.root-of-two;
  root_of_least = numbers.root-of-least;
  up = numbers.two-and-a-half;
  down = numbers.minus-two-and-a-half;
  below_half = numbers.below-a-half;
  degrees = limits.degrees;
  no_redundancy = limits.no-redundancy;
}

-- 0 and -0 make 0
one_more : nought ⊕ nought ⊗ neg one ≡ nought
unfolding add mul neg of_bits
one_more = refl

sum_is : (n : ℕ) → dots (λ i. nought) (λ i. neg one) n ≡ nought
unfolding dots
sum_is zero = refl
sum_is (suc n) = ap (λ (x : Float). x ⊕ nought ⊗ neg one) (sum_is n) ∙ one_more

nought-bits : to_bits binary64 nought ≡ 0
unfolding to_bits of_bits
nought-bits = refl

pub sums-from-plus-zero : SumsFromPlusZero
sums-from-plus-zero n = ap (to_bits binary64) (sum_is n) ∙ nought-bits

second : (x : Bool) (a b : Float) → T (not x) → cond x a b ≡ b
second true a b h = elim h [ ]
second false a b h = refl

first : (x : Bool) (a b : Float) → T x → cond x a b ≡ a
first true a b h = refl
first false a b h = elim h [ ]

pub max-gives-second : MaxGivesSecond
unfolding max_of lt neg of_bits
max-gives-second = ((λ a b h. second (lt b a) a b h), (λ a b h. first (lt b a) a b h), refl, refl)
