-- The order that is derived for identities is that of the documents. Assumes nothing.
use Rattle.std.proofs.Common.{◌≡◌, ℕ, List, [], ◌∷◌, refl, sym, ap, ◌∙◌}
use Rattle.std.specs.Ordering.{is_lt, ordering_then, nat_cmp}
use Rattle.std.specs.Cmp.{nat_cmp_is}
use Rattle.std.specs.Cmp.Lexicographic.{slice_cmp}
use Rattle.std.specs.declared.cmp.Ordering.{Ordering}
use Rattle.std.specs.declared.cmp.Ordering.TheVariants.{Less, Equal, Greater}
use Rattle.receptions.specs.declared.ObservationId.{ObservationId}
use Rattle.receptions.specs.Identities.{in_turn, compare_numbers, compare_bytes, compare, is_less, before}
use Rattle.receptions.proofs.Ordered.{numbers-lt, numbers-eq, numbers-gt}

less-is : (p : Ordering) → is_lt p ≡ is_less p
less-is Less = refl
less-is Equal = refl
less-is Greater = refl

turn-is : (p q : Ordering) → ordering_then p q ≡ in_turn p q
turn-is Less q = refl
turn-is Equal q = refl
turn-is Greater q = refl

numbers-are : (a b : ℕ) → nat_cmp a b ≡ compare_numbers a b
numbers-are a b = sym (go (compare_numbers a b) refl)
  where
    go : (p : Ordering) → compare_numbers a b ≡ p → compare_numbers a b ≡ nat_cmp a b
    go Less e = rw e (nat_cmp_is a b Less (numbers-lt a b e))
    go Equal e = rw e (nat_cmp_is a b Equal (numbers-eq a b e))
    go Greater e = rw e (nat_cmp_is a b Greater (numbers-gt a b e))

bytes-are : (xs ys : List ℕ) → slice_cmp nat_cmp xs ys ≡ compare_bytes xs ys
unfolding compare_bytes
bytes-are [] [] = refl
bytes-are [] (y ∷ ys) = refl
bytes-are (x ∷ xs) [] = refl
bytes-are (x ∷ xs) (y ∷ ys) = turn-is (nat_cmp x y) (slice_cmp nat_cmp xs ys) ∙ (λ i. in_turn (numbers-are x y i) (bytes-are xs ys i))

pub derived-before
    : (a b : ObservationId)
    → is_lt (ordering_then (slice_cmp nat_cmp a.receiver b.receiver)
    (ordering_then (nat_cmp a.epoch b.epoch)
    (ordering_then (nat_cmp a.timestamp b.timestamp) (slice_cmp nat_cmp a.message b.message))))
    ≡ before a b
unfolding before compare
derived-before a b =
    let message = slice_cmp nat_cmp a.message b.message in
    let timestamp = ordering_then (nat_cmp a.timestamp b.timestamp) message in
    let epoch = ordering_then (nat_cmp a.epoch b.epoch) timestamp in
    let t : timestamp ≡ in_turn (compare_numbers a.timestamp b.timestamp) (compare_bytes a.message b.message) =
    turn-is (nat_cmp a.timestamp b.timestamp) message
    ∙ (λ i. in_turn (numbers-are a.timestamp b.timestamp i) (bytes-are a.message b.message i)) in
    let e = turn-is (nat_cmp a.epoch b.epoch) timestamp ∙ (λ i. in_turn (numbers-are a.epoch b.epoch i) (t i)) in
    let r = turn-is (slice_cmp nat_cmp a.receiver b.receiver) epoch ∙ (λ i. in_turn (bytes-are a.receiver b.receiver i) (e i)) in
    less-is (ordering_then (slice_cmp nat_cmp a.receiver b.receiver) epoch) ∙ ap is_less r
