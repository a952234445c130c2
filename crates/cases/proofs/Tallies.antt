-- A tally grows with the calls that it is of.
use Rattle.std.proofs.Common.{◌≡◌, ◌<◌, ◌≤◌, ◌+◌, ℕ, Bool, true, false, List, [], ◌∷◌, ◌++◌, length, refl, ap, subst, sym, ◌∙◌, arith, cond, Option}
use Rattle.std.proofs.Common.{Some, None}
use Rattle.std.specs.Prelude.{count_by, not}
use Rattle.std.specs.List.{FoldsTo}
use Rattle.std.proofs.lemmas.Fn.{FoldsTo-push}
use Rattle.std.proofs.lemmas.List.{length_push}
use Rattle.std.proofs.lemmas.List.Sums.{count_by-le-length, fold_push}
use Rattle.cases.specs.declared.Tally.{Tally}
use Rattle.cases.specs.declared.Compared.{Compared}
use Rattle.cases.specs.Tallies.{IsTallyOf, Gives}

-- The tally of the calls before case k, which left the closure in this state.
pub record SoFar {F : Type 0} (step : F → ℕ → Option Compared → F → Type 0) (next : F) (k : ℕ) (state : F) (t : Tally) : Type 0 where
  pub found : List Compared
  pub gave : FoldsTo (Gives step) (next, 0) found (state, k)
  pub number : k ≡ length found
  pub compared : t.compared ≡ length found
  pub differ : t.differ ≡ count_by (λ c. not c.same) found
  pub differ_falsified : t.differ_falsified ≡ count_by (λ c. not c.same_falsified) found

pub started : {F : Type 0} (step : F → ℕ → Option Compared → F → Type 0) (next : F) (t : Tally) →
    (t.compared ≡ 0) × (t.differ ≡ 0) × (t.differ_falsified ≡ 0) → SoFar step next 0 next t
started step next t e = record {
  found = [];
  gave = refl;
  number = refl;
  compared = e.0;
  differ = e.1;
  differ_falsified = e.2;
}

-- One item more is counted where its test is not met.
counted_one : (b : Bool) (a n m : ℕ) → n ≡ a → m ≡ cond b n (n + 1) → m ≡ a + cond (not b) 1 0
counted_one true a n m e f = grind arith
counted_one false a n m e f = grind arith

counted_push : (p : Compared → Bool) (xs : List Compared) (x : Compared) (n m : ℕ) → n ≡ count_by (λ c. not (p c)) xs →
    m ≡ cond (p x) n (n + 1) → m ≡ count_by (λ c. not (p c)) (xs ++ x ∷ [])
counted_push p xs x n m e f = counted_one (p x) _ n m e f ∙ sym (fold_push (λ a c. a + cond (not (p c)) 1 0) 0 xs x)

pub more : {F : Type 0} (step : F → ℕ → Option Compared → F → Type 0) (next : F) (k : ℕ) (state : F) (t : Tally) →
    SoFar step next k state t → (x : Compared) (after : F) (u : Tally) → step state k (Some x) after →
    (u.compared ≡ t.compared + 1) × (u.differ ≡ cond x.same t.differ (t.differ + 1))
    × (u.differ_falsified ≡ cond x.same_falsified t.differ_falsified (t.differ_falsified + 1)) → SoFar step next (k + 1) after u
more {F} step next k state t s x after u went e = record {
  found = s.found ++ x ∷ [];
  gave = FoldsTo-push {P = F × ℕ} (Gives step) (next, 0) s.found (state, k) x (after, k + 1) s.gave (went, refl);
  number = ap (λ n. n + 1) s.number ∙ sym (length_push s.found x);
  compared = e.0 ∙ (ap (λ n. n + 1) s.compared ∙ sym (length_push s.found x));
  differ = counted_push (λ c. c.same) s.found x _ _ s.differ e.1;
  differ_falsified = counted_push (λ c. c.same_falsified) s.found x _ _ s.differ_falsified e.2;
}

-- No more differ than were compared.
pub within : {F : Type 0} {step : F → ℕ → Option Compared → F → Type 0} {next : F} {k : ℕ} {state : F} {t : Tally} →
    SoFar step next k state t → (t.differ ≤ t.compared) × (t.differ_falsified ≤ t.compared)
within {F} {step} {next} {k} {state} {t} s = (
  subst (λ n. n ≤ t.compared) (sym s.differ) (subst (λ n. count_by (λ c. not c.same) s.found ≤ n) (sym s.compared) (count_by-le-length _ s.found)),
  subst (λ n. n ≤ t.compared) (sym s.differ_falsified)
      (subst (λ n. count_by (λ c. not c.same_falsified) s.found ≤ n) (sym s.compared) (count_by-le-length _ s.found)),
)

pub whole : {F : Type 0} {step : F → ℕ → Option Compared → F → Type 0} {next : F} {k : ℕ} {state : F} {t : Tally} →
    SoFar step next k state t → (k < 1000000 → (after : F) × step state k None after) → IsTallyOf step next t
whole {F} {step} {next} {k} {state} {t} s ends = record {
  found = s.found;
  last = state;
  gave = subst (λ n. FoldsTo (Gives step) (next, 0) s.found (state, n)) s.number s.gave;
  compared = s.compared;
  differ = s.differ;
  differ_falsified = s.differ_falsified;
  whole = subst (λ n. n < 1000000 → (after : F) × step state n None after) (s.number ∙ sym s.compared) ends;
}
