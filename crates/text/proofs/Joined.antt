-- Pieces of a text, put behind it one after the other, and the text they make. Assumes nothing.
use Prim.Native.Nat.{ℕ}
use mathlib.Core.Path.{◌≡◌, ap, ◌∙◌}
use mathlib.Core.List.{List, [], ◌++◌, append_assoc}

-- behind nothing
pub alone : (t t₁ a : List ℕ) → t ≡ [] → t₁ ≡ t ++ a → t₁ ≡ a
alone t t₁ a e e₁ = e₁ ∙ ap (λ (x : List ℕ). x ++ a) e

pub two : (t t₁ t₂ a b : List ℕ) → t ≡ [] → t₁ ≡ t ++ a → t₂ ≡ t₁ ++ b → t₂ ≡ a ++ b
two t t₁ t₂ a b e e₁ e₂ = e₂ ∙ ap (λ (x : List ℕ). x ++ b) (alone t t₁ a e e₁)

-- behind a text
pub two-more : (t t₁ t₂ a b : List ℕ) → t₁ ≡ t ++ a → t₂ ≡ t₁ ++ b → t₂ ≡ t ++ (a ++ b)
two-more t t₁ t₂ a b e₁ e₂ = rw (e₂, e₁) (append_assoc t a b)

pub four
    : (t t₁ t₂ t₃ t₄ a b c d : List ℕ) → t₁ ≡ t ++ a → t₂ ≡ t₁ ++ b → t₃ ≡ t₂ ++ c → t₄ ≡ t₃ ++ d
    → t₄ ≡ t ++ (a ++ b ++ c ++ d)
four t t₁ t₂ t₃ t₄ a b c d e₁ e₂ e₃ e₄ = rw (e₄, e₃, e₂, e₁) (simp append_assoc)

pub five
    : (t t₁ t₂ t₃ t₄ t₅ a b c d e : List ℕ) → t₁ ≡ t ++ a → t₂ ≡ t₁ ++ b → t₃ ≡ t₂ ++ c → t₄ ≡ t₃ ++ d → t₅ ≡ t₄ ++ e
    → t₅ ≡ t ++ (a ++ b ++ c ++ d ++ e)
five t t₁ t₂ t₃ t₄ t₅ a b c d e e₁ e₂ e₃ e₄ e₅ = rw (e₅, e₄, e₃, e₂, e₁) (simp append_assoc)

pub seven
    : (t t₁ t₂ t₃ t₄ t₅ t₆ t₇ a b c d e f g : List ℕ) → t₁ ≡ t ++ a → t₂ ≡ t₁ ++ b → t₃ ≡ t₂ ++ c → t₄ ≡ t₃ ++ d → t₅ ≡ t₄ ++ e
    → t₆ ≡ t₅ ++ f → t₇ ≡ t₆ ++ g → t₇ ≡ t ++ (a ++ b ++ c ++ d ++ e ++ f ++ g)
seven t t₁ t₂ t₃ t₄ t₅ t₆ t₇ a b c d e f g e₁ e₂ e₃ e₄ e₅ e₆ e₇ = rw (e₇, e₆, e₅, e₄, e₃, e₂, e₁) (simp append_assoc)
