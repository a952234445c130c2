-- The turn of a removal: one that is out is never in again, so it goes once. Assumes nothing.
use mathlib.Core.Path.{◌≡◌, refl, sym, ap, subst, ◌∙◌}
use mathlib.Core.Logic.{◌⊎◌, inl, inr}
use mathlib.Core.Option.{Option, none, some, Option-elim}
use mathlib.Core.Bool.{Bool, false, not}
use Prim.Native.Nat.{ℕ, zero, suc, ◌+◌, ◌-◌, ◌<◌}
use native.Mathlib.Omega.{arith}
use lib.Dec.{T, T_not, not_T, eqb, eqb→eq, ltb, lt→ltb}
use Rattle.sets.specs.Sets.{Subset, without}
use Rattle.sets.proofs.Tests.{either, T→eq, F→eq, eq→eqb, lt-suc-cases, neither-below}
use Rattle.sets.proofs.Belonging.{in_without}
use Rattle.screen.specs.Screen.{clashes, goes, alive_to, kept}
use Rattle.screen.specs.Meaning.{Goes}
use Rattle.screen.specs.Turns.{RemovedAt, takes, turn_to, clash_to, TurnIsOfRemoval, RemovedOnce, RemovedOrKept}
use Rattle.screen.proofs.Removal.{alive-below, goes_some, goes-early}

module _ (n : ℕ) (fails : ℕ → ℕ → Bool) where
  abbrev alive : ℕ → Subset
  alive k = alive_to n fails k

  -- ---- one turn
  taken : (k j : ℕ) → T (takes n fails k j) → goes n fails (alive k) ≡ some j
  unfolding takes Option-elim
  taken k j t = go (goes n fails (alive k)) t
    where
      go : (o : Option ℕ) → T (Option-elim o false (eqb j)) → o ≡ some j
      go none u = elim u [ ]
      go (some i) u = ap some (sym (eqb→eq j i u))

  take : (k j : ℕ) → goes n fails (alive k) ≡ some j → T (takes n fails k j)
  unfolding takes Option-elim
  take k j e = rw e (eq→eqb j j refl)

  out : (k j : ℕ) → goes n fails (alive k) ≡ some j → T (alive (suc k) j) → ⊥
  unfolding alive_to Option-elim
  out k j e t = ((in_without (alive k) j j).0 (subst (λ (o : Option ℕ). T (Option-elim o (alive k) (without (alive k)) j)) e t)).1 refl

  -- who is in was in, and who was in is in or goes
  was-in : (k j : ℕ) → T (alive (suc k) j) → T (alive k j)
  unfolding alive_to Option-elim
  was-in k j t = go (goes n fails (alive k)) t
    where
      go : (o : Option ℕ) → T (Option-elim o (alive k) (without (alive k)) j) → T (alive k j)
      go none u = u
      go (some i) u = ((in_without (alive k) i j).0 u).0

  stays-or-goes : (k j : ℕ) → T (alive k j) → T (alive (suc k) j) ⊎ (goes n fails (alive k) ≡ some j)
  unfolding alive_to Option-elim
  stays-or-goes k j t = go (goes n fails (alive k)) (λ i. either (eqb j i))
    where
      go : (o : Option ℕ) → ((i : ℕ) → T (eqb j i) ⊎ T (not (eqb j i))) → T (Option-elim o (alive k) (without (alive k)) j) ⊎ (o ≡ some j)
      go none h = inl t
      go (some i) h = elim (h i) [
        | inl e ↦ inr (ap some (sym (eqb→eq j i e)))
        | inr d ↦ inl ((in_without (alive k) i j).1 (t, λ e. T_not (eqb j i) d (eq→eqb j i e)))
      ]

  -- ---- the turns
  in-before : (k d j : ℕ) → T (alive (d + k) j) → T (alive k j)
  in-before k zero j t = subst (λ (x : ℕ). T (alive x j)) (let e : 0 + k ≡ k = omega arith in e) t
  in-before k (suc d) j t =
      let e : suc d + k ≡ suc (d + k) = omega arith in
      in-before k d j (was-in (d + k) j (subst (λ (x : ℕ). T (alive x j)) e t))

  goes_in : (k j : ℕ) → goes n fails (alive k) ≡ some j → Goes n fails (alive k) j
  goes_in k j e = goes_some n fails (alive k) (alive-below n fails k) j e

  not-later : (k m j : ℕ) → goes n fails (alive k) ≡ some j → goes n fails (alive m) ≡ some j → k < m → ⊥
  not-later k m j e f l = out k j e (later (m - suc k) (omega arith))
    where
      later : (d : ℕ) → m ≡ d + suc k → T (alive (suc k) j)
      later d q = in-before (suc k) d j (subst (λ (x : ℕ). T (alive x j)) q (goes_in m j f).here)

  one-turn : (k m j : ℕ) → goes n fails (alive k) ≡ some j → goes n fails (alive m) ≡ some j → k ≡ m
  one-turn k m j e f = neither-below k m (not-later k m j e f) (not-later m k j f e)

  -- the computation after k turns: j went in one of them, or in none
  pub record Went (k j : ℕ) : Type 0 where
    pub before : ℕ
    pub early : before < k
    pub gone : goes n fails (alive before) ≡ some j
    pub turn : turn_to n fails k j ≡ suc before
    pub clash : clash_to n fails k j ≡ clashes n fails (alive before) j

  pub record Stayed (k j : ℕ) : Type 0 where
    pub never : (m : ℕ) → m < k → goes n fails (alive m) ≡ some j → ⊥
    pub turn : turn_to n fails k j ≡ 0
    pub clash : clash_to n fails k j ≡ 0

  went-or-stayed : (k j : ℕ) → Went k j ⊎ Stayed k j
  unfolding turn_to clash_to
  went-or-stayed zero j = inr (record { never = λ m l e. omega arith; turn = refl; clash = refl })
  went-or-stayed (suc k) j = go (either (takes n fails k j)) (went-or-stayed k j)
    where
      go : T (takes n fails k j) ⊎ T (not (takes n fails k j)) → Went k j ⊎ Stayed k j → Went (suc k) j ⊎ Stayed (suc k) j
      go (inl t) h =
          let f = T→eq (takes n fails k j) t in
          inl (record { before = k; early = omega arith; gone = taken k j t; turn = rw f refl; clash = rw f refl })
      go (inr t) (inl h) =
          let f = F→eq (takes n fails k j) t in
          inl (record { before = h.before; early = omega (arith, h.early); gone = h.gone; turn = rw f h.turn; clash = rw f h.clash })
      go (inr t) (inr h) =
          let f = F→eq (takes n fails k j) t in
          inr (record { never = λ m l e. never h m e (lt-suc-cases m k l); turn = rw f h.turn; clash = rw f h.clash })
        where
          never : Stayed k j → (m : ℕ) → goes n fails (alive m) ≡ some j → (m ≡ k) ⊎ (m < k) → ⊥
          never h m e (inl q) = T_not (takes n fails k j) t (take k j (subst (λ (x : ℕ). goes n fails (alive x) ≡ some j) q e))
          never h m e (inr l) = h.never m l e

  -- one that was in at first and is out goes in one of the turns
  abbrev GoesBefore : ℕ → ℕ → Type 0
  GoesBefore k j = (m : ℕ) × (m < k) × (goes n fails (alive m) ≡ some j)

  out-went : (k j : ℕ) → j < n → T (not (alive k j)) → GoesBefore k j
  unfolding alive_to
  out-went zero j l t = absurd (T_not (ltb j n) t (lt→ltb j n l))
  out-went (suc k) j l t = go (either (alive k j)) (out-went k j l)
    where
      go : T (alive k j) ⊎ T (not (alive k j)) → (T (not (alive k j)) → GoesBefore k j) → GoesBefore (suc k) j
      go (inr u) f = let r = f u in (r.0, omega (arith, r.1), r.2)
      go (inl u) f = elim (stays-or-goes k j u) [ inl v ↦ absurd (T_not (alive (suc k) j) t v) | inr e ↦ (k, omega arith, e) ]

-- ---- the statements
pub removed-once : RemovedOnce
removed-once n fails j t u c d r s =
    let e : r.before ≡ s.before = one-turn n fails r.before s.before j r.gone s.gone in
    (r.turn ∙ ap suc e ∙ sym s.turn, r.clash ∙ ap (λ (k : ℕ). clashes n fails (alive_to n fails k) j) e ∙ sym s.clash)

pub turn-is-of-removal : TurnIsOfRemoval
turn-is-of-removal n fails j t c = (forth (went-or-stayed n fails n j), back (went-or-stayed n fails n j))
  where
    forth : Went n fails n j ⊎ Stayed n fails n j → RemovedAt n fails j t c → (0 < t) × (turn_to n fails n j ≡ t) × (clash_to n fails n j ≡ c)
    forth (inl w) r =
        let e : w.before ≡ r.before = one-turn n fails w.before r.before j w.gone r.gone in (
          omega (arith, r.turn),
          w.turn ∙ ap suc e ∙ sym r.turn,
          w.clash ∙ ap (λ (k : ℕ). clashes n fails (alive_to n fails k) j) e ∙ sym r.clash,
        )
    forth (inr w) r = absurd (w.never r.before (goes-early n fails r.before j (goes_in n fails r.before j r.gone)) r.gone)

    back : Went n fails n j ⊎ Stayed n fails n j → (0 < t) × (turn_to n fails n j ≡ t) × (clash_to n fails n j ≡ c) → RemovedAt n fails j t c
    back (inl w) h = record { before = w.before; turn = sym h.1 ∙ w.turn; gone = w.gone; clash = sym h.2 ∙ w.clash }
    back (inr w) h = absurd (omega (arith, h.0, h.1, w.turn))

pub removed-or-kept : RemovedOrKept
unfolding kept
removed-or-kept n fails j l = (forth (went-or-stayed n fails n j), back (went-or-stayed n fails n j))
  where
    forth : Went n fails n j ⊎ Stayed n fails n j → T (not (alive_to n fails n j)) → 0 < turn_to n fails n j
    forth (inl w) t = omega (arith, w.turn)
    forth (inr w) t = let r = out-went n fails n j l t in absurd (w.never r.0 r.1 r.2)

    back : Went n fails n j ⊎ Stayed n fails n j → 0 < turn_to n fails n j → T (not (alive_to n fails n j))
    back (inr w) h = absurd (omega arith)
    back (inl w) h = not_T (alive_to n fails n j) (λ t. still (n - suc w.before) (omega (arith, w.early)) t)
      where
        still : (d : ℕ) → n ≡ d + suc w.before → T (alive_to n fails n j) → ⊥
        still d q t = out n fails w.before j w.gone (in-before n fails (suc w.before) d j (subst (λ (x : ℕ). T (alive_to n fails x j)) q t))
