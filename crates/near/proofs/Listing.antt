-- The members of a set as an ascending list over the first entries of an array: one index more, and what the list holds beyond the
-- laws of sets: the order of its entries, and the entries past them. Assumes nothing.
use Rattle.std.proofs.Common.{◌≡◌, ℕ, zero, suc, ◌+◌, ◌<◌, ◌≤◌, Bool, true, false, ◌⊎◌, List, length, get_or, set, sym, refl, ap, ◌∙◌, subst, ap₂, inl, inr, add-one, arith, get_or-set_other, get_or-set_same}
use Rattle.sets.specs.Sets.{Subset, count, members_to}
use Rattle.sets.proofs.Tests.{lt-suc-cases, neither-below}
use Rattle.sets.proofs.Counting.{count-le}
use Rattle.sets.proofs.Listed.{adds, skips, members-length, lists}

module _ (S : Subset) (index : List ℕ) where
  -- the members below k are counted and listed
  pub record Listing (k m : ℕ) (list : List ℕ) : Type 0 where
    pub counted : m ≡ count S k
    pub listed : list ≡ members_to S index k

  pub begun : Listing 0 0 index
  unfolding count members_to
  begun = record { counted = refl; listed = refl }

  pub added : (k m : ℕ) (list : List ℕ) {n : ℕ} {next : List ℕ}
      → S k ≡ true → n ≡ m + 1 → next ≡ set list m k → Listing k m list → Listing (k + 1) n next
  added k m list e a b h =
      let one = adds S index k e in
      record {
        counted = a ∙ ap (λ n. n + 1) h.counted ∙ add-one (count S k) ∙ sym one.0 ∙ ap (count S) (sym (add-one k));
        listed = b ∙ ap₂ (λ v n. set v n k) h.listed h.counted ∙ sym one.1 ∙ ap (members_to S index) (sym (add-one k));
      }

  pub skipped : (k m : ℕ) (list : List ℕ) {n : ℕ} {next : List ℕ}
      → S k ≡ false → n ≡ m → next ≡ list → Listing k m list → Listing (k + 1) n next
  skipped k m list e a b h =
      let one = skips S index k e in
      record {
        counted = a ∙ h.counted ∙ sym one.0 ∙ ap (count S) (sym (add-one k));
        listed = b ∙ h.listed ∙ sym one.1 ∙ ap (members_to S index) (sym (add-one k));
      }

  -- the count is at most k, so that there is room for the next
  pub room : (k m : ℕ) (list : List ℕ) → Listing k m list → (m ≤ k) × (length list ≡ length index)
  room k m list h = (rw h.counted (count-le S k), ap length h.listed ∙ members-length S index k)

  -- ---- what the list holds

  -- an entry that is listed stays, and those past the count are as found
  abbrev list : ℕ → List ℕ
  list k = members_to S index k

  pub rest : (k a : ℕ) → count S k ≤ a → get_or (list k) a 0 ≡ get_or index a 0
  unfolding count members_to
  rest zero a h = refl
  rest (suc k) a h = go (S k) refl (rest k a)
    where
      go : (b : Bool) → S k ≡ b → (count S k ≤ a → get_or (list k) a 0 ≡ get_or index a 0) → get_or (list (suc k)) a 0 ≡ get_or index a 0
      go true e f =
          let one = adds S index k e in
          ap (λ w. get_or w a 0) one.1
          ∙ get_or-set_other (list k) (count S k) a k 0 (λ q. omega (arith, one.0))
          ∙ f (omega (arith, one.0))
      go false e f = let one = skips S index k e in ap (λ w. get_or w a 0) one.1 ∙ f (omega (arith, one.0))

  pub ascends : (k a b : ℕ) → k ≤ length index → a < b → b < count S k → get_or (list k) a 0 < get_or (list k) b 0
  unfolding count
  ascends zero a b r l h = absurd (omega arith)
  ascends (suc k) a b r l h = go (S k) refl (λ u. ascends k a b (omega arith) l u)
    where
      last : S k ≡ true → b ≡ count S k → get_or (list (suc k)) b 0 ≡ k
      last e q =
          ap₂ (λ w n. get_or w n 0) (adds S index k e).1 q
          ∙ get_or-set_same (list k) (count S k) k 0 (omega (arith, count-le S k, members-length S index k))

      before : (c : ℕ) → c < count S k → S k ≡ true → get_or (list (suc k)) c 0 ≡ get_or (list k) c 0
      before c u e =
          ap (λ w. get_or w c 0) (adds S index k e).1
          ∙ get_or-set_other (list k) (count S k) c k 0 (λ q. omega arith)

      add : S k ≡ true → (b ≡ count S k) ⊎ (b < count S k) → (b < count S k → get_or (list k) a 0 < get_or (list k) b 0)
          → get_or (list (suc k)) a 0 < get_or (list (suc k)) b 0
      add e (inl q) f =
          let u : a < count S k = omega arith in
          let below = (lists S index k a (omega arith) u).below in
          omega (arith, last e q, before a u e, below)
      add e (inr u) f =
          let v : a < count S k = omega arith in
          omega (arith, before a v e, before b u e, f u)

      go : (t : Bool) → S k ≡ t → (b < count S k → get_or (list k) a 0 < get_or (list k) b 0)
          → get_or (list (suc k)) a 0 < get_or (list (suc k)) b 0
      go true e f = add e (lt-suc-cases b (count S k) (subst (λ m. b < m) (adds S index k e).0 h)) f
      go false e f =
          let one = skips S index k e in
          let same : (c : ℕ) → get_or (list (suc k)) c 0 ≡ get_or (list k) c 0 = λ c. ap (λ w. get_or w c 0) one.1 in
          omega (arith, same a, same b, f (subst (λ m. b < m) one.0 h))

  pub distinct : (k a b : ℕ) → k ≤ length index → a < count S k → b < count S k → get_or (list k) a 0 ≡ get_or (list k) b 0 → a ≡ b
  distinct k a b r l h e =
      neither-below a b
      (λ (u : a < b). let w : get_or (list k) a 0 < get_or (list k) b 0 = ascends k a b r u h in omega arith)
      (λ (u : b < a). let w : get_or (list k) b 0 < get_or (list k) a 0 = ascends k b a r u l in omega arith)
