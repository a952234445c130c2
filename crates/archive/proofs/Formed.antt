-- The two forms, made by copies of parts one behind the other. Assumes nothing.
use Prim.Native.Nat.{ℕ, ◌+◌, ◌≤◌}
use mathlib.Core.Path.{◌≡◌, refl, sym, ap, ◌∙◌}
use mathlib.Core.List.{List, [], ◌++◌, append_assoc}
use native.Mathlib.Omega.{arith}
use lib.ListN.{length, take, drop}
use lib.Seq.{paste, take_all}
use Rattle.archive.specs.Forms.{part, new_form, old_form}
use Rattle.archive.proofs.Pasted.{joined, same_size, grown}

-- the first k of the size bytes of d are those of p
pub record Begins (size k : ℕ) (d p : List ℕ) : Type 0 where
  pub sized : length d ≡ size
  pub first : take k d ≡ p

-- a copy right behind them
next
    : (size : ℕ) (d e s p : List ℕ) (k at n : ℕ) → Begins size k d p → k + n ≤ size → at + n ≤ length s → e ≡ paste d k (drop at s) n
    → Begins size (k + n) e (p ++ part s at n)
next size d e s p k at n b h g q =
    let room : k + n ≤ length d = rw b.sized h in
    record {
      sized = ap length q ∙ same_size d s k at n room g ∙ b.sized;
      first = ap (take (k + n)) q ∙ grown d s p k at n room g b.first;
    }

whole : (size : ℕ) (d p : List ℕ) → Begins size size d p → d ≡ p
whole size d p b = let z = b.sized in sym (take_all size d (omega arith)) ∙ b.first

-- behind p, two entries side by side and three
two : (p s : List ℕ) (k : ℕ) → p ++ part s k 16 ≡ p ++ part s k 8 ++ part s (k + 8) 8
two p s k = rw (append_assoc, ← joined s k 8 8)

three : (p s : List ℕ) (k : ℕ) → p ++ part s k 24 ≡ p ++ part s k 8 ++ part s (k + 8) 8 ++ part s (k + 16) 8
three p s k =
    let e : k + 8 + 8 ≡ k + 16 = omega arith in
    rw (append_assoc (p ++ part s k 8) (part s (k + 8) 8) (part s (k + 16) 8), append_assoc p (part s k 8) _)
    (rw (← e, joined s (k + 8) 8 8, joined s k 8 16))

module _ (s d₀ d₁ d₂ d₃ d₄ d₅ : List ℕ) (sized : length s ≡ 176) (room : length d₀ ≡ 152) where
  pub new-form
      : d₁ ≡ paste d₀ 0 (drop 0 s) 80
      → d₂ ≡ paste d₁ 80 (drop 80 s) 24
      → d₃ ≡ paste d₂ 104 (drop 112 s) 16
      → d₄ ≡ paste d₃ 120 (drop 144 s) 8
      → d₅ ≡ paste d₄ 128 (drop 152 s) 24
      → d₅ ≡ new_form s
  unfolding new_form
  new-form e₁ e₂ e₃ e₄ e₅ =
      let b₀ : Begins 152 0 d₀ [] = record { sized = room; first = refl } in
      let b₁ = next 152 d₀ d₁ s [] 0 0 80 b₀ (omega arith) (omega arith) e₁ in
      let b₂ = next 152 d₁ d₂ s _ 80 80 24 b₁ (omega arith) (omega arith) e₂ in
      let b₃ = next 152 d₂ d₃ s _ 104 112 16 b₂ (omega arith) (omega arith) e₃ in
      let b₄ = next 152 d₃ d₄ s _ 120 144 8 b₃ (omega arith) (omega arith) e₄ in
      let b₅ = next 152 d₄ d₅ s _ 128 152 24 b₄ (omega arith) (omega arith) e₅ in
      whole 152 d₅ _ b₅
      ∙ ap (λ (p : List ℕ). p ++ part s 112 16 ++ part s 144 8 ++ part s 152 24) (three (part s 0 80) s 80)
      ∙ ap (λ (p : List ℕ). p ++ part s 144 8 ++ part s 152 24) (two (part s 0 80 ++ part s 80 8 ++ part s 88 8 ++ part s 96 8) s 112)

module _ (a d₀ d₁ d₂ d₃ d₄ d₅ d₆ d₇ d₈ : List ℕ) (sized : length a ≡ 152) (room : length d₀ ≡ 176) where
  pub old-form
      : d₁ ≡ paste d₀ 0 (drop 0 a) 80
      → d₂ ≡ paste d₁ 80 (drop 80 a) 24
      → d₃ ≡ paste d₂ 104 (drop 88 a) 8
      → d₄ ≡ paste d₃ 112 (drop 104 a) 16
      → d₅ ≡ paste d₄ 128 (drop 96 a) 8
      → d₆ ≡ paste d₅ 136 (drop 112 a) 8
      → d₇ ≡ paste d₆ 144 (drop 120 a) 8
      → d₈ ≡ paste d₇ 152 (drop 128 a) 24
      → d₈ ≡ old_form a
  unfolding old_form
  old-form e₁ e₂ e₃ e₄ e₅ e₆ e₇ e₈ =
      let b₀ : Begins 176 0 d₀ [] = record { sized = room; first = refl } in
      let b₁ = next 176 d₀ d₁ a [] 0 0 80 b₀ (omega arith) (omega arith) e₁ in
      let b₂ = next 176 d₁ d₂ a _ 80 80 24 b₁ (omega arith) (omega arith) e₂ in
      let b₃ = next 176 d₂ d₃ a _ 104 88 8 b₂ (omega arith) (omega arith) e₃ in
      let b₄ = next 176 d₃ d₄ a _ 112 104 16 b₃ (omega arith) (omega arith) e₄ in
      let b₅ = next 176 d₄ d₅ a _ 128 96 8 b₄ (omega arith) (omega arith) e₅ in
      let b₆ = next 176 d₅ d₆ a _ 136 112 8 b₅ (omega arith) (omega arith) e₆ in
      let b₇ = next 176 d₆ d₇ a _ 144 120 8 b₆ (omega arith) (omega arith) e₇ in
      let b₈ = next 176 d₇ d₈ a _ 152 128 24 b₇ (omega arith) (omega arith) e₈ in
      whole 176 d₈ _ b₈
      ∙ ap (λ (p : List ℕ). p ++ part a 88 8 ++ part a 104 16 ++ part a 96 8 ++ part a 112 8 ++ part a 120 8 ++ part a 128 24)
      (three (part a 0 80) a 80)
      ∙ ap (λ (p : List ℕ). p ++ part a 96 8 ++ part a 112 8 ++ part a 120 8 ++ part a 128 24)
      (two (part a 0 80 ++ part a 80 8 ++ part a 88 8 ++ part a 96 8 ++ part a 88 8) a 104)
