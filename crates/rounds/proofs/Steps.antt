-- What a round comes to, the computation and demand 3 say alike: a change, a settled round, or an ending. Assumes nothing.
use Rattle.std.proofs.Common.{◌≡◌, ℕ, ◌<◌, ◌≤◌, Bool, true, false, not, T, ltb, ◌≢◌, ◌⊎◌, ◌↔◌, refl, ap, ◌∙◌, ap₂, ltb→lt, lt→ltb, nltb→le, T_not}
use mathlib.Core.Option.{Option, none, some}
use lib.Dec.{not_T}
use lib.Arith.{le→nltb}
use lib.Ieee.{is_nan}
use Rattle.sets.specs.Sets.{Subset, without, joined, count}
use Rattle.sets.proofs.Tests.{T→eq, F→eq, eq→T, eq→F, and_l, and_r, and_both}
use Rattle.sets.proofs.Belonging.{subset-ext, in_without, in-joined}
use Rattle.sets.proofs.Counting.{count-some, count-pos}
use Rattle.sets.proofs.Choosing.{choice-unique}
use Rattle.best.specs.declared.Unfit.{Unfit}
use Rattle.best.specs.Best.{Outcome, refuses, gives}
use Rattle.rounds.specs.Setting.{Setting, kept}
use Rattle.rounds.specs.Setting.{greater, less}
use Rattle.rounds.specs.Rounds.{Step, ends, changes, settles, above, worst, readmissible, least, no_number, turned, decided}
use Rattle.rounds.specs.Rounds.{begun, round}
use Rattle.rounds.specs.Rounds as rounds
use Rattle.rounds.specs.Demand.{Fitted, Change, removal, return, Settled, Ends, few, unfit, unnumbered}
use Rattle.rounds.proofs.Choices.{Within, Numbers, IsWorst, IsLeast, worst-is, least-is, worst-none, none-worst, worst-some, some-worst}
use Rattle.rounds.proofs.Choices.{least-none, none-least, least-some, some-least}

-- two sets that are alike to a third
alike : (S S' : Subset) (A : ℕ → Type 0) → ((j : ℕ) → T (S j) ↔ A j) → ((j : ℕ) → T (S' j) ↔ A j) → S ≡ S'
alike S S' A h g = subset-ext S S' (λ j. ((λ t. (g j).1 ((h j).0 t)), λ t. (h j).1 ((g j).0 t)))

module _ {Q F X : Type 0} (P : Setting Q F X) where
  -- demand 3's words for what a round comes to
  abbrev pub Says : Subset → Option Q → Step F → Type 0
  Says S p (ends e) = Ends P S p e
  Says S p (changes R f) = Change P S p R f
  Says S p (settles f) = Settled P S p f

  -- ---- residuals that are not numbers
  abbrev lacks : F → Bool
  lacks f = rounds.unnumbered (kept P) (P.residual f) P.n

  lacks-some : (f : F) → T (lacks f) → (j : ℕ) × (j < P.n) × T (kept P j) × T (is_nan (P.residual f j))
  lacks-some f t =
      let s = count-some (no_number (kept P) (P.residual f)) P.n (ltb→lt 0 (count (no_number (kept P) (P.residual f)) P.n) t) in
      (s.0, s.1, and_l (kept P s.0) (is_nan (P.residual f s.0)) s.2, and_r (kept P s.0) (is_nan (P.residual f s.0)) s.2)

  some-lacks : (f : F) (j : ℕ) → j < P.n → T (kept P j) → T (is_nan (P.residual f j)) → T (lacks f)
  some-lacks f j l k t = lt→ltb 0 (count (no_number (kept P) (P.residual f)) P.n)
      (count-pos (no_number (kept P) (P.residual f)) P.n j l (and_both (kept P j) (is_nan (P.residual f j)) k t))

  all-numbers : (f : F) → T (not (lacks f)) → Numbers P f
  all-numbers f h j l k = not_T (is_nan (P.residual f j)) (λ t. T_not (lacks f) h (some-lacks f j l k t))

  numbers-all : (f : F) → Numbers P f → T (not (lacks f))
  numbers-all f h = not_T (lacks f) (λ t. let s = lacks-some f t in T_not (is_nan (P.residual f s.0)) (h s.0 s.1 s.2) s.3)

  -- ---- the computation's round is one of demand 3
  module _ (S : Subset) (p : Option Q) (W : Within P S) where
    turned-says : (f : F) → P.minimum ≤ count S P.n → P.best_fit S p ≡ gives f → (b : Bool) → lacks f ≡ b → (w : Option ℕ) → IsWorst P S f w
        → (l : Option ℕ) → IsLeast P S f l → Says S p (turned S f b w l)
    turned-says f m e true u w ww l ll = let s = lacks-some f (eq→T u) in unnumbered f s.0 m e s.1 s.2 s.3
    turned-says f m e false u (some i) ww l ll =
        let N = all-numbers f (eq→F u) in
        removal i (record { enough = m; best = e; numbers = N }) (worst-some P S f W N i ww) (in_without S i)
    turned-says f m e false u none ww (some i) ll =
        let N = all-numbers f (eq→F u) in
        return i (record { enough = m; best = e; numbers = N }) (worst-none P S f W N ww) (least-some P S f W N i ll) (in-joined S i)
    turned-says f m e false u none ww none ll =
        let N = all-numbers f (eq→F u) in
        record { fitted = record { enough = m; best = e; numbers = N }; none_above = worst-none P S f W N ww; none_back = least-none P S f W N ll }

    begun-says : (b : Bool) → ltb (count S P.n) P.minimum ≡ b → (o : Outcome Unfit F) → P.best_fit S p ≡ o → Says S p (begun P S b o)
    unfolding decided
    begun-says true b o e = few (ltb→lt (count S P.n) P.minimum (eq→T b))
    begun-says false b (refuses x) e = unfit x (nltb→le (count S P.n) P.minimum (eq→F b)) e
    begun-says false b (gives f) e = turned-says f (nltb→le (count S P.n) P.minimum (eq→F b)) e (lacks f) refl (worst S (P.residual f) P.n)
        (worst-is P S f) (least (kept P) S (P.residual f) P.n) (least-is P S f)

    pub round-says : Says S p (round P S p)
    unfolding round
    round-says = begun-says (ltb (count S P.n) P.minimum) refl (P.best_fit S p) refl

  -- ---- and no other
  module _ (S : Subset) (p : Option Q) where
    begun-enough : (o : Outcome Unfit F) → P.minimum ≤ count S P.n → P.best_fit S p ≡ o → round P S p ≡ begun P S false o
    unfolding round
    begun-enough o m e = ap₂ (λ (b : Bool) (x : Outcome Unfit F). begun P S b x)
        (F→eq (ltb (count S P.n) P.minimum) (le→nltb (count S P.n) P.minimum m)) e

    -- a round with the best fit f, by whether a residual is not a number, and the choices
    begun-turned : (f : F) → P.minimum ≤ count S P.n → P.best_fit S p ≡ gives f → (b : Bool) → lacks f ≡ b → (w l : Option ℕ)
        → worst S (P.residual f) P.n ≡ w → least (kept P) S (P.residual f) P.n ≡ l → round P S p ≡ turned S f b w l
    unfolding decided
    begun-turned f m h b u w l e d =
        begun-enough (gives f) m h
        ∙ ap (λ (x : Bool). turned S f x (worst S (P.residual f) P.n) (least (kept P) S (P.residual f) P.n)) u
        ∙ ap₂ (λ (x y : Option ℕ). turned S f b x y) e d

    module _ (W : Within P S) where
      one-worst : (f : F) (o : Option ℕ) → IsWorst P S f o → worst S (P.residual f) P.n ≡ o
      one-worst f o h = choice-unique (above S (P.residual f)) (greater (P.residual f)) P.n (worst S (P.residual f) P.n) o (worst-is P S f) h

      one-least : (f : F) (o : Option ℕ) → IsLeast P S f o → least (kept P) S (P.residual f) P.n ≡ o
      one-least f o h = choice-unique (readmissible (kept P) S (P.residual f)) (less (P.residual f)) P.n
          (least (kept P) S (P.residual f) P.n) o
          (least-is P S f) h

      fitted-turned : (f : F) → Fitted P S p f → (w l : Option ℕ) → IsWorst P S f w → least (kept P) S (P.residual f) P.n ≡ l → round P S p
          ≡ turned S f false w l
      fitted-turned f h w l e d = begun-turned f h.enough h.best false (F→eq (lacks f) (numbers-all f h.numbers)) w l (one-worst f w e) d

      pub says-round : (x : Step F) → Says S p x → round P S p ≡ x
      unfolding round
      says-round (ends e) (few h) =
          ap (λ (b : Bool). begun P S b (P.best_fit S p))
          (T→eq (ltb (count S P.n) P.minimum) (lt→ltb (count S P.n) P.minimum h))
      says-round (ends e) (unfit u m h) = begun-enough (refuses u) m h
      says-round (ends e) (unnumbered f j m h l k t) = begun-turned f m h true (T→eq (lacks f) (some-lacks f j l k t)) _ _ refl refl
      says-round (changes R f) (removal i h w g) =
          fitted-turned f h (some i) (least (kept P) S (P.residual f) P.n) (some-worst P S f W h.numbers i w) refl
          ∙ ap (λ (A : Subset). changes A f) (alike (without S i) R (λ j. T (S j) × (j ≢ i)) (in_without S i) g)
      says-round (changes R f) (return i h a l g) =
          fitted-turned f h none (some i) (none-worst P S f W h.numbers a) (one-least f (some i) (some-least P S f W h.numbers i l))
          ∙ ap (λ (A : Subset). changes A f) (alike (joined S i) R (λ j. T (S j) ⊎ (j ≡ i)) (in-joined S i) g)
      says-round (settles f) h =
          fitted-turned f h.fitted none none (none-worst P S f W h.fitted.numbers h.none_above)
          (one-least f none (none-least P S f W h.fitted.numbers h.none_back))
