-- The computation removes what document 01's sentence says, until no pair fails, and the sentence leaves nothing else. Assumes nothing.
use mathlib.Core.Path.{◌≡◌, refl, subst}
use mathlib.Core.Logic.{◌⊎◌, inl, inr}
use mathlib.Core.Option.{Option, none, some, Option-elim}
use mathlib.Core.Bool.{Bool, true, not, ◌&&◌}
use mathlib.Core.List.{List}
use Prim.Native.Nat.{ℕ, zero, suc, ◌+◌, ◌≤◌, ◌<◌}
use native.Mathlib.Omega.{arith}
use lib.IntN.{ℤ}
use lib.Dec.{T, T_not, not_T, ltb, ltb→lt, lt→ltb, nltb→le}
use Rattle.sets.specs.Sets.{Subset, first, without, count}
use Rattle.sets.specs.Choice.{IsChoice, Ranks}
use Rattle.sets.proofs.Tests.{either, and_l, and_r, and_both, neither-below}
use Rattle.sets.proofs.Belonging.{in_without}
use Rattle.sets.proofs.Counting.{count-le, count-pos, count-some, count-without}
use Rattle.sets.proofs.Choosing.{choose-is}
use Rattle.screen.specs.Pair.{pair_passes, clash, fails}
use Rattle.screen.specs.Screen.{clashes, goes, alive_to, kept}
use Rattle.screen.specs.Meaning.{Goes, Clear, Leaves, done, then, OnlyKeptIsLeft, KeptPass}

-- i is in A, and in a failing pair there; and i is in more of them than j
abbrev pub clashing : ℕ → (ℕ → ℕ → Bool) → Subset → ℕ → Bool
clashing n fails A i = A i && ltb 0 (clashes n fails A i)

abbrev pub more : ℕ → (ℕ → ℕ → Bool) → Subset → ℕ → ℕ → Bool
more n fails A i j = ltb (clashes n fails A j) (clashes n fails A i)

-- the greater of two numbers ranks first
pub ranked-by : (p : ℕ → Bool) (f : ℕ → ℕ) → Ranks p (λ (i j : ℕ). ltb (f j) (f i))
ranked-by p f = record {
  asym = λ i j h k. omega (arith, ltb→lt (f j) (f i) h, ltb→lt (f i) (f j) k);
  split = λ i j k t h. go i j k (ltb→lt (f k) (f i) h) (either (ltb (f j) (f i)));
}
  where
    go : (i j k : ℕ) → f k < f i → T (ltb (f j) (f i)) ⊎ T (not (ltb (f j) (f i))) → T (ltb (f j) (f i)) ⊎ T (ltb (f k) (f j))
    go i j k h (inl t) = inl t
    go i j k h (inr t) = inr (lt→ltb (f k) (f j) (omega (arith, nltb→le (f j) (f i) t)))

module _ (n : ℕ) (fails : ℕ → ℕ → Bool) where
  abbrev pub Within : Subset → Type 0
  Within A = (j : ℕ) → T (A j) → j < n

  abbrev clash-count : Subset → ℕ → ℕ
  clash-count A i = clashes n fails A i

  abbrev pub Chosen : Subset → Option ℕ → Type 0
  Chosen A o = IsChoice (clashing n fails A) (more n fails A) n o

  -- a clash count is above 0 where a pair fails, and nowhere else
  clashed : (A : Subset) (i j : ℕ) → Within A → T (A j) → T (fails i j) → 0 < clash-count A i
  unfolding clashes
  clashed A i j w a f = count-pos (λ (k : ℕ). A k && fails i k) n j (w j a) (and_both (A j) (fails i j) a f)

  clashed-with : (A : Subset) (i : ℕ) → 0 < clash-count A i → (j : ℕ) × T (A j) × T (fails i j)
  unfolding clashes
  clashed-with A i h =
      let r = count-some (λ (k : ℕ). A k && fails i k) n h in
      (r.0, and_l (A r.0) (fails i r.0) r.2, and_r (A r.0) (fails i r.0) r.2)

  clear_stays : (A : Subset) (i : ℕ) → Clear n fails A → Goes n fails A i → ⊥
  clear_stays A i c g = let r = clashed-with A i g.clash in T_not (fails i r.0) (c i r.0 g.here r.1) r.2

  -- ---- the one that goes
  ranked : (A : Subset) → Ranks (clashing n fails A) (more n fails A)
  ranked A = ranked-by (clashing n fails A) (clash-count A)

  module _ (A : Subset) (w : Within A) where
    candidate : (i : ℕ) → T (A i) → 0 < clash-count A i → T (clashing n fails A i)
    candidate i t h = and_both (A i) (ltb 0 (clash-count A i)) t (lt→ltb 0 (clash-count A i) h)

    pub chosen : Chosen A (goes n fails A)
    unfolding goes
    chosen = choose-is (clashing n fails A) (more n fails A) (ranked A) n

    chosen-clear : Chosen A none → Clear n fails A
    chosen-clear h i j a b = not_T (fails i j) (λ f. T_not (clashing n fails A i) (h i (w i a)) (candidate i a (clashed A i j w b f)))

    chosen-goes : (i : ℕ) → Chosen A (some i) → Goes n fails A i
    chosen-goes i h = record {
      here = and_l (A i) (ltb 0 (clash-count A i)) h.candidate;
      clash = above;
      most = λ j t. most j t (either (more n fails A j i));
      lowest = λ j l t. lowest j l t (either (ltb 0 (clash-count A j)));
    }
      where
        above : 0 < clash-count A i
        above = ltb→lt 0 (clash-count A i) (and_r (A i) (ltb 0 (clash-count A i)) h.candidate)

        most : (j : ℕ) → T (A j) → T (more n fails A j i) ⊎ T (not (more n fails A j i)) → clash-count A j ≤ clash-count A i
        most j t (inr u) = nltb→le (clash-count A i) (clash-count A j) u
        most j t (inl u) = absurd (T_not (more n fails A j i)
            (h.unbeaten j (w j t) (candidate j t (omega (arith, ltb→lt (clash-count A i) (clash-count A j) u)))) u)

        lowest : (j : ℕ) → j < i → T (A j) → T (ltb 0 (clash-count A j)) ⊎ T (not (ltb 0 (clash-count A j))) → clash-count A j < clash-count A i
        lowest j l t (inl u) = ltb→lt (clash-count A j) (clash-count A i) (h.lowest j l (and_both (A j) (ltb 0 (clash-count A j)) t u))
        lowest j l t (inr u) = omega (arith, nltb→le 0 (clash-count A j) u, above)

    pub goes_none : goes n fails A ≡ none → Clear n fails A
    goes_none e = chosen-clear (subst (λ (o : Option ℕ). Chosen A o) e chosen)

    pub goes_some : (i : ℕ) → goes n fails A ≡ some i → Goes n fails A i
    goes_some i e = chosen-goes i (subst (λ (o : Option ℕ). Chosen A o) e chosen)

  -- ---- the turns

  -- what removals leave of A, they leave of all n
  abbrev Reached : Subset → Type 0
  Reached A = (K : Subset) → Leaves n fails K A → Leaves n fails K (first n)

  -- after k turns of which each took one out, or when no pair fails
  abbrev Fewer : ℕ → Subset → Type 0
  Fewer k A = (count A n + k ≤ n) ⊎ Clear n fails A

  turns : (k : ℕ) → Within (alive_to n fails k) × Reached (alive_to n fails k) × Fewer k (alive_to n fails k)
  unfolding alive_to Option-elim
  turns zero = ((λ j t. ltb→lt j n t), (λ K l. l), inl (omega (arith, count-le (first n) n)))
  turns (suc k) = let h = turns k in go (alive_to n fails k) (goes n fails (alive_to n fails k)) refl h.0 h.1 h.2
    where
      fewer : (A : Subset) (i : ℕ) → Within A → Goes n fails A i → Fewer k A → Fewer (suc k) (without A i)
      fewer A i w g (inl c) = inl (omega (arith, count-without A n i (w i g.here) g.here))
      fewer A i w g (inr c) = absurd (clear_stays A i c g)

      go : (A : Subset) (o : Option ℕ) → goes n fails A ≡ o → Within A → Reached A → Fewer k A → let B = Option-elim o A (without A) in
          Within B × Reached B × Fewer (suc k) B
      go A none e w r f = (w, r, inr (goes_none A w e))
      go A (some i) e w r f =
          let g = goes_some A w i e in
          ((λ j t. w j ((in_without A i j).0 t).0), (λ K l. r K (then i g l)), fewer A i w g f)

  pub alive-below : (k : ℕ) → Within (alive_to n fails k)
  alive-below k = (turns k).0

  -- where one goes there were fewer than n turns before
  pub goes-early : (k i : ℕ) → Goes n fails (alive_to n fails k) i → k < n
  goes-early k i g = go (turns k).2
    where
      go : Fewer k (alive_to n fails k) → k < n
      go (inl h) = omega (arith, count-pos (alive_to n fails k) n i (alive-below k i g.here) g.here)
      go (inr c) = absurd (clear_stays (alive_to n fails k) i c g)

  -- with nobody left no pair fails
  clear-at-last : (A : Subset) → Within A → Fewer n A → Clear n fails A
  clear-at-last A w (inr c) = c
  clear-at-last A w (inl h) = λ i j a b. absurd (omega (arith, count-pos A n i (w i a) a))

  left : Leaves n fails (kept n fails) (first n)
  unfolding kept
  left = let h = turns n in h.1 (alive_to n fails n) (done (clear-at-last (alive_to n fails n) h.0 h.2))

  pub kept-below : Within (kept n fails)
  unfolding kept
  kept-below = (turns n).0

  -- ---- one outcome only
  not-before : (A : Subset) (i j : ℕ) → Goes n fails A i → Goes n fails A j → i < j → ⊥
  not-before A i j g h l = omega (arith, h.lowest i l g.here, g.most j h.here)

  one-goes : (A : Subset) (i j : ℕ) → Goes n fails A i → Goes n fails A j → i ≡ j
  one-goes A i j g h = neither-below i j (not-before A i j g h) (not-before A j i h g)

  one_left : {K L A : Subset} → Leaves n fails K A → Leaves n fails L A → K ≡ L
  one_left (done c) (done d) = refl
  one_left {K} (done c) (then i g l) = absurd (clear_stays K i c g)
  one_left {L = L} (then i g l) (done c) = absurd (clear_stays L i c g)
  one_left {L = L} (then {A = A} i g l) (then j h m) = one_left l (subst (λ (x : ℕ). Leaves n fails L (without A x)) (one-goes A j i h g) m)

  left-clear : {K A : Subset} → Leaves n fails K A → Clear n fails K
  left-clear (done c) = c
  left-clear (then i g l) = left-clear l

  pub kept-clear : Clear n fails (kept n fails)
  kept-clear = left-clear left

-- ---- the statements
pub only-kept-is-left : OnlyKeptIsLeft
only-kept-is-left n fails K = ((λ l. one_left n fails l (left n fails)), (λ e. rw e (left n fails)))

not-clash : (times sites : List ℤ) (n i j : ℕ) → i < n → j < n → T (not (fails times sites n i j)) → T (not (clash times sites i j))
unfolding fails
not-clash times sites n i j a b h =
    not_T (clash times sites i j) (λ c. T_not (fails times sites n i j) h
    (and_both (ltb i n) (ltb j n && clash times sites i j) (lt→ltb i n a) (and_both (ltb j n) (clash times sites i j) (lt→ltb j n b) c)))

not-not : (b : Bool) → T (not (not b)) → T b
not-not true t = tt
not-not mathlib.Core.Bool.false t = elim t [ ]

pub kept-pass : KeptPass
unfolding clash
kept-pass times sites n i j a b =
    let below = kept-below n (fails times sites n) in
    not-not (pair_passes times sites i j)
    (not-clash times sites n i j (below i a) (below j b) (kept-clear n (fails times sites n) i j a b))
