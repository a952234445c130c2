-- The counts as the code takes them: pattern after pattern, one more where it leaves that many. Assumes nothing.
use mathlib.Core.Path.{◌≡◌, refl, sym, ap, ◌∙◌}
use mathlib.Core.Logic.{◌⊎◌, inl, inr}
use mathlib.Core.Bool.{Bool, not, cond}
use mathlib.Core.List.{List, [], ◌∷◌}
use Prim.Native.Nat.{ℕ, ◌+◌, ◌^◌, ◌≤◌, ◌<◌}
use native.Mathlib.Numerals.{add-one}
use native.Mathlib.Omega.{arith}
use lib.Dec.{T, eqb, eqb→eq, T_not}
use lib.ListN.{get_or, length, set, replicate}
use lib.Seq.{get_or-set_same, get_or-set_other}
use Rattle.sets.specs.Sets.{count}
use Rattle.sets.proofs.Tests.{either, T→eq, F→eq, eq→eqb}
use Rattle.sets.proofs.Counting.{count-le}
use Rattle.screen.proofs.Rows.{zeros}
use Rattle.patterns.specs.Patterns.{pairs, leaving, table}
use Rattle.patterns.proofs.Sum.{left}

-- how many of the f p, p below k, are s
abbrev pub tally : (ℕ → ℕ) → ℕ → ℕ → ℕ
tally f k s = count (λ (p : ℕ). eqb (f p) s) k

abbrev pub Tallied : (ℕ → ℕ) → List ℕ → ℕ → Type 0
Tallied f counts k = (s : ℕ) → get_or counts s 0 ≡ tally f k s

pub tally-le : (f : ℕ → ℕ) (k s : ℕ) → tally f k s ≤ k
tally-le f k s = count-le (λ (p : ℕ). eqb (f p) s) k

tally-next : (f : ℕ → ℕ) (k s : ℕ) → tally f (k + 1) s ≡ cond (eqb (f k) s) 1 0 + tally f k s
unfolding count
tally-next f k s = ap (λ (x : ℕ). tally f x s) (add-one k)

pub tallied-start : (f : ℕ → ℕ) (m : ℕ) → Tallied f (replicate m 0) 0
unfolding count
tallied-start f m s = zeros m s

pub tallied-next
    : (f : ℕ → ℕ) (counts : List ℕ) (k x : ℕ) → x ≡ f k → x < length counts
    → Tallied f counts k → Tallied f (set counts x (get_or counts x 0 + 1)) (k + 1)
tallied-next f counts k x e l h s = go (either (eqb (f k) s))
  where
    go : T (eqb (f k) s) ⊎ T (not (eqb (f k) s)) → get_or (set counts x (get_or counts x 0 + 1)) s 0 ≡ tally f (k + 1) s
    go (inl t) =
        let q : x ≡ s = e ∙ eqb→eq (f k) s t in
        ap (λ (y : ℕ). get_or (set counts x (get_or counts x 0 + 1)) y 0) (sym q) ∙ get_or-set_same counts x (get_or counts x 0 + 1) 0 l
        ∙ ap (λ (y : ℕ). get_or counts y 0 + 1) q ∙ omega (arith, h s, tally-next f k s, ap {B = ℕ} (λ (b : Bool). cond b 1 0) (T→eq (eqb (f k) s) t))
    go (inr t) =
        get_or-set_other counts x s (get_or counts x 0 + 1) 0 (λ q. T_not (eqb (f k) s) t (eq→eqb (f k) s (sym e ∙ sym q)))
        ∙ omega (arith, h s, tally-next f k s, ap {B = ℕ} (λ (b : Bool). cond b 1 0) (F→eq (eqb (f k) s) t))

-- ---- seven counts as they are lent
seven : (l : List ℕ) → length l ≡ 7 → l ≡ get_or l 0 0 ∷ get_or l 1 0 ∷ get_or l 2 0 ∷ get_or l 3 0 ∷ get_or l 4 0 ∷ get_or l 5 0 ∷ get_or l 6 0 ∷ []
seven [] h = absurd (omega arith)
seven (a ∷ []) h = absurd (omega arith)
seven (a ∷ b ∷ []) h = absurd (omega arith)
seven (a ∷ b ∷ c ∷ []) h = absurd (omega arith)
seven (a ∷ b ∷ c ∷ d ∷ []) h = absurd (omega arith)
seven (a ∷ b ∷ c ∷ d ∷ e ∷ []) h = absurd (omega arith)
seven (a ∷ b ∷ c ∷ d ∷ e ∷ f ∷ []) h = absurd (omega arith)
seven (a ∷ b ∷ c ∷ d ∷ e ∷ f ∷ g ∷ []) h = refl
seven (a ∷ b ∷ c ∷ d ∷ e ∷ f ∷ g ∷ x ∷ l) h = absurd (omega arith)

pub tabled : (n : ℕ) (counts : List ℕ) → length counts ≡ 7 → Tallied (left n) counts (2 ^ pairs n) → counts ≡ table n
unfolding table leaving
tabled n counts l h = seven counts l ∙ rw (h 0, h 1, h 2, h 3, h 4, h 5, h 6) refl
