-- The order of identities. Document 02, item 6: "Order is by these four fields in turn, bytes compared as unsigned from
-- the first." Definitions only; specs/Meaning.antt says what they mean.
use Rattle.std.specs.Prelude.{Bool, true, false, cond, List, [], ◌∷◌, ℕ, zero, suc, ltb}
use Rattle.receptions.specs.declared.ObservationId.{ObservationId}
use Rattle.std.specs.declared.cmp.Ordering.{Ordering}
use Rattle.std.specs.declared.cmp.Ordering.TheVariants.{Less, Equal, Greater}

-- "in turn": the first that is not equal
abbrev pub in_turn : Ordering → Ordering → Ordering
in_turn Less later = Less
in_turn Equal later = later
in_turn Greater later = Greater

unfoldable pub compare_numbers : ℕ → ℕ → Ordering
compare_numbers a b = cond (ltb a b) Less (cond (ltb b a) Greater Equal)

-- "bytes compared as unsigned from the first"; of two lists of which one begins the other the shorter comes first
unfoldable pub compare_bytes : List ℕ → List ℕ → Ordering
compare_bytes [] [] = Equal
compare_bytes [] (y ∷ ys) = Less
compare_bytes (x ∷ xs) [] = Greater
compare_bytes (x ∷ xs) (y ∷ ys) = in_turn (compare_numbers x y) (compare_bytes xs ys)

-- "by these four fields in turn"
unfoldable pub compare : ObservationId → ObservationId → Ordering
compare a b =
    in_turn (compare_bytes a.receiver b.receiver)
    (in_turn (compare_numbers a.epoch b.epoch)
    (in_turn (compare_numbers a.timestamp b.timestamp) (compare_bytes a.message b.message)))

abbrev pub is_less : Ordering → Bool
is_less Less = true
is_less Equal = false
is_less Greater = false

-- "identity not above the one before" is `before` that is false
unfoldable pub before : ObservationId → ObservationId → Bool
before a b = is_less (compare a b)

-- 11: "identity not above the one before". Whether that of reception i is above it; the first has none before it.
unfoldable pub ascends : (ℕ → ObservationId) → ℕ → Bool
ascends id zero = true
ascends id (suc i) = before (id i) (id (suc i))
