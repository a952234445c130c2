-- The order of identities is strict and total: so is that of numbers, and two orders in turn, and so that of bytes. Assumes nothing.
use Prim.Native.Nat.{ℕ, ◌<◌, ◌≤◌}
use mathlib.Core.Path.{◌≡◌, refl, sym, subst}
use mathlib.Core.Logic.{◌⊎◌, inl, inr}
use mathlib.Core.Bool.{Bool, true, false, cond}
use mathlib.Core.List.{List, [], ◌∷◌}
use native.Mathlib.Omega.{arith}
use borrow.Author.Tests.{ltb-true, ltb-false, lt-ltb, le-ltb}
use lib.Dec.{ltb}
use Rattle.receptions.specs.declared.ObservationId.{ObservationId}
use Rattle.std.specs.declared.cmp.Ordering.{Ordering}
use Rattle.std.specs.declared.cmp.Ordering.TheVariants.{Less, Equal, Greater}
use Rattle.receptions.specs.Identities.{in_turn, compare_numbers, compare_bytes, compare, is_less, before}

pub record Ordered {A : Type 0} (c : A → A → Ordering) : Type 0 where
  pub self : (a : A) → c a a ≡ Equal
  pub same : (a b : A) → c a b ≡ Equal → a ≡ b
  pub turned : (a b : A) → c a b ≡ Greater → c b a ≡ Less
  pub through : (a b d : A) → c a b ≡ Less → c b d ≡ Less → c a d ≡ Less

-- ---- two in turn
turn-equal : (p q : Ordering) → in_turn p q ≡ Equal → (p ≡ Equal) × (q ≡ Equal)
turn-equal Less q e = absurd (let z : ◌≡◌ {A = ℕ} 0 1 = cc in omega arith)
turn-equal Equal q e = (refl, e)
turn-equal Greater q e = absurd (let z : ◌≡◌ {A = ℕ} 0 1 = cc in omega arith)

pub turn-less : (p q : Ordering) → in_turn p q ≡ Less → (p ≡ Less) ⊎ ((p ≡ Equal) × (q ≡ Less))
turn-less Less q e = inl refl
turn-less Equal q e = inr (refl, e)
turn-less Greater q e = absurd (let z : ◌≡◌ {A = ℕ} 0 1 = cc in omega arith)

turn-greater : (p q : Ordering) → in_turn p q ≡ Greater → (p ≡ Greater) ⊎ ((p ≡ Equal) × (q ≡ Greater))
turn-greater Less q e = absurd (let z : ◌≡◌ {A = ℕ} 0 1 = cc in omega arith)
turn-greater Equal q e = inr (refl, e)
turn-greater Greater q e = inl refl

module _ {A : Type 0} (c : A → A → Ordering) (o : Ordered c) where
  pub turn-self : (a : A) (p : Ordering) → p ≡ Equal → in_turn (c a a) p ≡ Equal
  turn-self a p e = rw (o.self a) e

  pub turn-turned : (a b : A) (p q : Ordering) → (p ≡ Greater → q ≡ Less) → in_turn (c a b) p ≡ Greater → in_turn (c b a) q ≡ Less
  turn-turned a b p q h e = go (turn-greater (c a b) p e)
    where
      go : (c a b ≡ Greater) ⊎ ((c a b ≡ Equal) × (p ≡ Greater)) → in_turn (c b a) q ≡ Less
      go (inl g) = rw (o.turned a b g)
      go (inr g) = rw (subst (λ (x : A). c x a ≡ Equal) (o.same a b g.0) (o.self a)) (h g.1)

  pub turn-through
      : (a b d : A) (p q r : Ordering) → (p ≡ Less → q ≡ Less → r ≡ Less)
      → in_turn (c a b) p ≡ Less → in_turn (c b d) q ≡ Less → in_turn (c a d) r ≡ Less
  turn-through a b d p q r h e f = go (turn-less (c a b) p e) (turn-less (c b d) q f)
    where
      go : (c a b ≡ Less) ⊎ ((c a b ≡ Equal) × (p ≡ Less)) → (c b d ≡ Less) ⊎ ((c b d ≡ Equal) × (q ≡ Less)) → in_turn (c a d) r ≡ Less
      go (inl g) (inl k) = rw (o.through a b d g k)
      go (inl g) (inr k) = rw (subst (λ (x : A). c a x ≡ Less) (o.same b d k.0) g)
      go (inr g) (inl k) = rw (subst (λ (x : A). c x d ≡ Less) (sym (o.same a b g.0)) k)
      go (inr g) (inr k) = rw (subst (λ (x : A). c a x ≡ Equal) (o.same b d k.0) g.0) (h g.1 k.1)

  -- in words: the first decides, or both have the same there and the second decides
  module _ {P Q : Type 0} (a b : A) (q : Ordering) where
    pub turn-said : (c a b ≡ Less → P) → (q ≡ Less → Q) → in_turn (c a b) q ≡ Less → P ⊎ ((a ≡ b) × Q)
    turn-said f g e = go (turn-less (c a b) q e)
      where
        go : (c a b ≡ Less) ⊎ ((c a b ≡ Equal) × (q ≡ Less)) → P ⊎ ((a ≡ b) × Q)
        go (inl h) = inl (f h)
        go (inr h) = inr (o.same a b h.0, g h.1)

    pub turn-meant : (P → c a b ≡ Less) → (Q → q ≡ Less) → P ⊎ ((a ≡ b) × Q) → in_turn (c a b) q ≡ Less
    turn-meant f g (inl h) = rw (f h)
    turn-meant f g (inr h) = rw (subst (λ (x : A). c a x ≡ Equal) h.0 (o.self a)) (g h.1)

-- ---- numbers
pub numbers-lt : (a b : ℕ) → compare_numbers a b ≡ Less → a < b
unfolding compare_numbers
numbers-lt a b e = go (ltb a b) (ltb b a) refl e
  where
    go : (p q : Bool) → ltb a b ≡ p → cond p Less (cond q Greater Equal) ≡ Less → a < b
    go true q h e = ltb-true a b h
    go false true h e = absurd (let z : ◌≡◌ {A = ℕ} 0 1 = cc in omega arith)
    go false false h e = absurd (let z : ◌≡◌ {A = ℕ} 0 1 = cc in omega arith)

pub numbers-gt : (a b : ℕ) → compare_numbers a b ≡ Greater → b < a
unfolding compare_numbers
numbers-gt a b e = go (ltb a b) (ltb b a) refl e
  where
    go : (p q : Bool) → ltb b a ≡ q → cond p Less (cond q Greater Equal) ≡ Greater → b < a
    go true q h e = absurd (let z : ◌≡◌ {A = ℕ} 0 1 = cc in omega arith)
    go false true h e = ltb-true b a h
    go false false h e = absurd (let z : ◌≡◌ {A = ℕ} 0 1 = cc in omega arith)

pub numbers-eq : (a b : ℕ) → compare_numbers a b ≡ Equal → a ≡ b
unfolding compare_numbers
numbers-eq a b e = go (ltb a b) (ltb b a) refl refl e
  where
    go : (p q : Bool) → ltb a b ≡ p → ltb b a ≡ q → cond p Less (cond q Greater Equal) ≡ Equal → a ≡ b
    go true q h k e = absurd (let z : ◌≡◌ {A = ℕ} 0 1 = cc in omega arith)
    go false true h k e = absurd (let z : ◌≡◌ {A = ℕ} 0 1 = cc in omega arith)
    go false false h k e = omega (arith, ltb-false a b h, ltb-false b a k)

pub lt-numbers : (a b : ℕ) → a < b → compare_numbers a b ≡ Less
unfolding compare_numbers
lt-numbers a b h = rw (lt-ltb a b h)

pub eq-numbers : (a b : ℕ) → b ≤ a → a ≤ b → compare_numbers a b ≡ Equal
unfolding compare_numbers
eq-numbers a b h k = rw (le-ltb a b h, le-ltb b a k)

pub numbers-ordered : Ordered compare_numbers
numbers-ordered =
    record {
      self = λ a. eq-numbers a a (omega arith) (omega arith);
      same = numbers-eq;
      turned = λ a b e. lt-numbers b a (numbers-gt a b e);
      through = λ a b d e f. lt-numbers a d (omega (arith, numbers-lt a b e, numbers-lt b d f));
    }

-- ---- bytes
bytes-self : (xs : List ℕ) → compare_bytes xs xs ≡ Equal
unfolding compare_bytes
bytes-self [] = refl
bytes-self (x ∷ xs) = turn-self compare_numbers numbers-ordered x (compare_bytes xs xs) (bytes-self xs)

bytes_eq : (xs ys : List ℕ) → compare_bytes xs ys ≡ Equal → xs ≡ ys
unfolding compare_bytes
bytes_eq [] [] e = refl
bytes_eq [] (y ∷ ys) e = absurd (let z : ◌≡◌ {A = ℕ} 0 1 = cc in omega arith)
bytes_eq (x ∷ xs) [] e = absurd (let z : ◌≡◌ {A = ℕ} 0 1 = cc in omega arith)
bytes_eq (x ∷ xs) (y ∷ ys) e =
    let p = turn-equal (compare_numbers x y) (compare_bytes xs ys) e in
    λ i. numbers-eq x y p.0 i ∷ bytes_eq xs ys p.1 i

bytes-turned : (xs ys : List ℕ) → compare_bytes xs ys ≡ Greater → compare_bytes ys xs ≡ Less
unfolding compare_bytes
bytes-turned [] [] e = absurd (let z : ◌≡◌ {A = ℕ} 0 1 = cc in omega arith)
bytes-turned [] (y ∷ ys) e = absurd (let z : ◌≡◌ {A = ℕ} 0 1 = cc in omega arith)
bytes-turned (x ∷ xs) [] e = refl
bytes-turned (x ∷ xs) (y ∷ ys) e = turn-turned compare_numbers numbers-ordered x y (compare_bytes xs ys) (compare_bytes ys xs) (bytes-turned xs ys) e

bytes-through : (xs ys zs : List ℕ) → compare_bytes xs ys ≡ Less → compare_bytes ys zs ≡ Less → compare_bytes xs zs ≡ Less
unfolding compare_bytes
bytes-through [] [] zs e f = absurd (let z : ◌≡◌ {A = ℕ} 0 1 = cc in omega arith)
bytes-through [] (y ∷ ys) [] e f = absurd (let z : ◌≡◌ {A = ℕ} 0 1 = cc in omega arith)
bytes-through [] (y ∷ ys) (z ∷ zs) e f = refl
bytes-through (x ∷ xs) [] zs e f = absurd (let z : ◌≡◌ {A = ℕ} 0 1 = cc in omega arith)
bytes-through (x ∷ xs) (y ∷ ys) [] e f = absurd (let z : ◌≡◌ {A = ℕ} 0 1 = cc in omega arith)
bytes-through (x ∷ xs) (y ∷ ys) (z ∷ zs) e f =
    turn-through compare_numbers numbers-ordered x y z (compare_bytes xs ys) (compare_bytes ys zs) (compare_bytes xs zs) (bytes-through xs ys zs) e f

pub bytes-ordered : Ordered compare_bytes
bytes-ordered = record { self = bytes-self; same = bytes_eq; turned = bytes-turned; through = bytes-through }

-- ---- identities
module _ (a b : ObservationId) where
  abbrev pub message : Ordering
  message = compare_bytes a.message b.message

  abbrev pub timestamp : Ordering
  timestamp = in_turn (compare_numbers a.timestamp b.timestamp) message

  abbrev pub epoch : Ordering
  epoch = in_turn (compare_numbers a.epoch b.epoch) timestamp

ids-self : (a : ObservationId) → compare a a ≡ Equal
unfolding compare
ids-self a =
    turn-self compare_bytes bytes-ordered a.receiver (epoch a a)
    (turn-self compare_numbers numbers-ordered a.epoch (timestamp a a)
    (turn-self compare_numbers numbers-ordered a.timestamp (message a a) (bytes-self a.message)))

ids-eq : (a b : ObservationId) → compare a b ≡ Equal → a ≡ b
unfolding compare
ids-eq a b e =
    let p = turn-equal (compare_bytes a.receiver b.receiver) (epoch a b) e in
    let q = turn-equal (compare_numbers a.epoch b.epoch) (timestamp a b) p.1 in
    let r = turn-equal (compare_numbers a.timestamp b.timestamp) (message a b) q.1 in
    λ i. record {
      receiver = bytes_eq a.receiver b.receiver p.0 i;
      epoch = numbers-eq a.epoch b.epoch q.0 i;
      timestamp = numbers-eq a.timestamp b.timestamp r.0 i;
      message = bytes_eq a.message b.message r.1 i;
    }

ids-turned : (a b : ObservationId) → compare a b ≡ Greater → compare b a ≡ Less
unfolding compare
ids-turned a b =
    turn-turned compare_bytes bytes-ordered a.receiver b.receiver (epoch a b) (epoch b a)
    (turn-turned compare_numbers numbers-ordered a.epoch b.epoch (timestamp a b) (timestamp b a)
    (turn-turned compare_numbers numbers-ordered a.timestamp b.timestamp (message a b) (message b a) (bytes-turned a.message b.message)))

ids-through : (a b d : ObservationId) → compare a b ≡ Less → compare b d ≡ Less → compare a d ≡ Less
unfolding compare
ids-through a b d =
    turn-through compare_bytes bytes-ordered a.receiver b.receiver d.receiver (epoch a b) (epoch b d) (epoch a d)
    (turn-through compare_numbers numbers-ordered a.epoch b.epoch d.epoch (timestamp a b) (timestamp b d) (timestamp a d)
    (turn-through compare_numbers numbers-ordered a.timestamp b.timestamp d.timestamp (message a b) (message b d) (message a d)
    (bytes-through a.message b.message d.message)))

pub is-less : (p : Ordering) → is_less p ≡ true → p ≡ Less
is-less Less e = refl
is-less Equal e = absurd (let z : ◌≡◌ {A = ℕ} 0 1 = cc in omega arith)
is-less Greater e = absurd (let z : ◌≡◌ {A = ℕ} 0 1 = cc in omega arith)

pub not-before-self : (a : ObservationId) → before a a ≡ false
unfolding before
not-before-self a = rw (ids-self a)

pub before-through : (a b d : ObservationId) → before a b ≡ true → before b d ≡ true → before a d ≡ true
unfolding before
before-through a b d e f = rw (ids-through a b d (is-less (compare a b) e) (is-less (compare b d) f))

pub neither-before : (a b : ObservationId) → before a b ≡ false → before b a ≡ false → a ≡ b
unfolding before
neither-before a b e f = go (compare a b) refl e
  where
    go : (p : Ordering) → compare a b ≡ p → is_less p ≡ false → a ≡ b
    go Less g e = absurd (let z : ◌≡◌ {A = ℕ} 0 1 = cc in omega arith)
    go Equal g e = ids-eq a b g
    go Greater g e = absurd (let l = ids-turned a b g in let z : ◌≡◌ {A = ℕ} 0 1 = cc in omega arith)
