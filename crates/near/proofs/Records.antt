-- The records of a file: that each place has one, and that all of them are readable or one is not. Assumes nothing.
use Rattle.std.proofs.Common.{◌≡◌, ℕ, zero, suc, ◌+◌, ◌*◌, ◌<◌, Bool, true, false, ◌&&◌, List, length, sym, refl, ap, ◌∙◌, ⊎_elim, add-one, arith}
use mathlib.Core.Bool.{false≢true}
use Rattle.sets.proofs.Tests.{lt-suc-cases}
use Rattle.std.specs.Prelude.{Result, Ok, Err, is_ok, eqb}
use Rattle.std.specs.Result.{result_map_both}
use borrow.Author.Tests.{ne_eqb}
use Rattle.refusals.specs.declared.Refusal.{Refusal}
use Rattle.refusals.specs.Refusals.{number_of, answer_of}
use Rattle.reader.specs.declared.content.Content.{Content}
use Rattle.reader.specs.Read.{place_refusal, record_at, read_of}
use Rattle.reader.proofs.Numbered.{not-zero}
use Rattle.reader.proofs.Places.{placed, refused}
use Rattle.reader.proofs.Meaning.{own-bytes}
use Rattle.std.specs.List.{list_all, range_with_len}
use Rattle.reader.proofs.Tests.{both_true, both_hold, one-more}
use Rattle.near.specs.Near.{readable, readable_to}

-- a file of n records has one at each place below n
pub there : (size n k : ℕ) → size ≡ 176 * n → k < n → place_refusal size k ≡ 0
there size n k e h = sym (placed size k (omega arith) (omega arith))

-- of 176 bytes
pub sized : (file : List ℕ) (k : ℕ) → place_refusal (length file) k ≡ 0 → length (record_at file k) ≡ 176
sized file k e = (own-bytes file k e).0

-- the test of a record that is there, and of one that is not
pub tested
    : {A : Type 0} (v : Content) {read : Result Content Refusal} (r : Result A Refusal) → read ≡ result_map_both (λ _. v) (λ why. why) r
    → is_ok r ≡ eqb (answer_of read) 0
tested v (Ok x) e = rw e
tested v (Err why) e = rw e (sym (ne_eqb (number_of why) 0 (not-zero why)))

pub none-there : (file : List ℕ) (k : ℕ) → (place_refusal (length file) k ≡ 0 → ⊥) → false ≡ readable file k
unfolding read_of
none-there file k n = rw (← refused file k n)

-- ---- all readable, or one is not

pub readable-each : (file : List ℕ) (n : ℕ) → list_all (readable file) (range_with_len 0 n) ≡ readable_to file n
unfolding readable_to
readable-each file zero = refl
readable-each file (suc n) =
    ap (λ k. list_all (readable file) (range_with_len 0 k)) (sym (add-one n)) ∙ one-more (readable file) n ∙ rw (readable-each file n)

module _ (file : List ℕ) where
  pub one_more : (k : ℕ) → readable_to file k ≡ true → readable file k ≡ true → readable_to file (k + 1) ≡ true
  unfolding readable_to
  one_more k a b = ap (readable_to file) (add-one k) ∙ both_hold (readable_to file k) (readable file k) a b

  pub each : (n : ℕ) → readable_to file n ≡ true → (k : ℕ) → k < n → readable file k ≡ true
  unfolding readable_to
  each zero e k h = absurd (omega arith)
  each (suc n) e k h =
      let t = both_true (readable_to file n) (readable file n) e in
      ⊎_elim (λ q. ap (readable file) q ∙ t.1) (λ l. each n t.0 k l) (lt-suc-cases k n h)

  pub all : (n : ℕ) → ((k : ℕ) → k < n → readable file k ≡ true) → readable_to file n ≡ true
  unfolding readable_to
  all zero h = refl
  all (suc n) h = both_hold (readable_to file n) (readable file n) (all n (λ k l. h k (omega arith))) (h n (omega arith))

  pub one-is-not : (n k : ℕ) → k < n → readable file k ≡ false → readable_to file n ≡ false
  one-is-not n k h e = go (readable_to file n) refl
    where
      go : (b : Bool) → readable_to file n ≡ b → b ≡ false
      go true q = sym (each n q k h) ∙ e
      go false q = refl

  -- where not all are, one is not
  pub some-is-not : (n : ℕ) → readable_to file n ≡ false → (k : ℕ) × (k < n) × (readable file k ≡ false)
  unfolding readable_to
  some-is-not zero e = absurd (false≢true (sym e))
  some-is-not (suc n) e = go (readable_to file n) (readable file n) refl refl e (some-is-not n)
    where
      go : (a b : Bool) → readable_to file n ≡ a → readable file n ≡ b → (a && b) ≡ false
          → (readable_to file n ≡ false → (k : ℕ) × (k < n) × (readable file k ≡ false))
          → (k : ℕ) × (k < suc n) × (readable file k ≡ false)
      go true true p q z before = absurd (false≢true (sym z))
      go true false p q z before = (n, omega arith, q)
      go false b p q z before = let t = before p in (t.0, (let l = t.1 in omega arith), t.2)
