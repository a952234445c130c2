-- What the order of identities means, in words that know nothing of its computation. Statements only:
-- proofs/Meaning.antt proves them.
use Rattle.std.specs.Prelude.{◌≡◌, ◌↔◌, ◌⊎◌, Bool, true, false, List, ℕ, ◌<◌, length, get_or}
use Rattle.receptions.specs.declared.ObservationId.{ObservationId}
use Rattle.receptions.specs.Identities.{before}

-- none comes before itself; what comes before one comes before all that this one comes before; two of which neither
-- comes before the other are one
pub record StrictTotal {A : Type 0} (before : A → A → Bool) : Type 0 where
  pub irreflexive : (a : A) → before a a ≡ false
  pub transitive : (a b c : A) → before a b ≡ true → before b c ≡ true → before a c ≡ true
  pub total : (a b : A) → before a b ≡ false → before b a ≡ false → a ≡ b

abbrev pub IdentitiesOrdered : Type 0
IdentitiesOrdered = StrictTotal before

-- equal identities are equal in every field, and no others are
abbrev pub EqualInEveryField : Type 0
EqualInEveryField =
    (a b : ObservationId)
    → ((before a b ≡ false) × (before b a ≡ false))
    ↔ ((a.receiver ≡ b.receiver) × (a.epoch ≡ b.epoch) × (a.timestamp ≡ b.timestamp) × (a.message ≡ b.message))

-- receiver and message have 32 bytes, as their type says
abbrev pub Whole : ObservationId → Type 0
Whole id = (length id.receiver ≡ 32) × (length id.message ≡ 32)

-- "bytes compared as unsigned from the first": at some place the first's byte is less, and at each before it they agree
abbrev pub LessAt : List ℕ → List ℕ → ℕ → Type 0
LessAt xs ys k = (k < 32) × ((j : ℕ) → j < k → get_or xs j 0 ≡ get_or ys j 0) × (get_or xs k 0 < get_or ys k 0)

abbrev pub BytesLess : List ℕ → List ℕ → Type 0
BytesLess xs ys = (k : ℕ) × LessAt xs ys k

-- "Order is by these four fields in turn": a field decides, or it is the same in both and the next ones decide
abbrev pub FourInTurn : Type 0
FourInTurn =
    (a b : ObservationId) → Whole a → Whole b
    → (before a b ≡ true)
    ↔ (BytesLess a.receiver b.receiver
    ⊎ ((a.receiver ≡ b.receiver)
    × ((a.epoch < b.epoch)
    ⊎ ((a.epoch ≡ b.epoch)
    × ((a.timestamp < b.timestamp)
    ⊎ ((a.timestamp ≡ b.timestamp)
    × BytesLess a.message b.message))))))
