-- `hypot` of two finite values is above 0, or 0 where both are: by the cases of its scaling. Assumes nothing.
use Rattle.std.proofs.Common.{◌≡◌, ◌-◌, ◌≤◌, Bool, true, false, cond, T, ltb, leb, ◌⊎◌, sym, refl, ap, ◌∙◌, inl, inr, true≢false, le_trans, lt_of_lt_of_le, le-add_right, le_of_lt, lt_irrefl, arith, ltb→lt, ltb-false, ltb-true, leb-false, leb-true}
use lib.Ieee.{Float, binary64, le, eq, fits, of_bits}
use lib.Ieee.Positive.{above, above_of_le}
use Rattle.binary64.specs.Steps.{◌⊕◌, #, nought, abs}
use Rattle.binary64.proofs.Units.{Is, P, le-trans-is}
use Rattle.binary64.proofs.Order.{fails, abs_is, nought-is}
use Rattle.binary64.proofs.Own.{sum-above, more-units}
use Rattle.libm.specs.Words.{high, word}
use Rattle.libm.specs.Hypotenuse.{scaled, hypot}
use Rattle.libm.proofs.HighWords.{word-is}
use Rattle.libm.proofs.HighWords.{high-above, high-finite, zero-or-least}
use Rattle.libm.proofs.ArcBounds.{zero_in}
use Rattle.libm.proofs.ScaledBounds.{abs-plus, as-they-are, scaled-down, scaled-up}
use Rattle.libm.proofs.SubnormalBounds.{subnormal}
use Rattle.libm.proofs.ScaledBounds.{abs-plus, as-they-are, scaled-down, scaled-up}
use Rattle.libm.proofs.SubnormalBounds.{subnormal}

-- ---- the outcome
abbrev pub Long : Float → Float → Float → Type 0
Long x y p = T (above p) ⊎ ((abs x ≡ nought) × (abs y ≡ nought) × (p ≡ nought))

choose : (x y : Float) (b : Bool) (p q : Float) → (b ≡ true → Long x y p) → (b ≡ false → Long x y q) → Long x y (cond b p q)
choose x y true p q h k = h refl
choose x y false p q h k = k refl

-- ---- b = 0: the length is a
nought-eq : eq nought nought ≡ true
unfolding eq of_bits
nought-eq = refl

flat : (x y : Float) → Is binary64 x → Is binary64 y → eq (abs y) nought ≡ true → Long x y (abs x)
unfolding of_bits le fits
flat x y p q z = elim (zero-or-least y q) [
  | inl e ↦ elim (zero-or-least x p) [ inl d ↦ inr (d, e, d) | inr l ↦ inl (above_of_le (# 1) (abs x) tt l) ]
  | inr l ↦
      let i = zero_in (abs y) (abs_is y q).0 z in
      absurd (fails (le (# 1) nought) refl (le-trans-is binary64 (# 1) (abs y) nought (tt, tt) (abs_is y q) nought-is l i.most))
]

-- ---- `scaled`, and `hypot`
scaled-above : (x y : Float) → Is binary64 x → Is binary64 y → high y ≤ high x → Long x y (scaled (abs x) (abs y) (high x) (high y))
unfolding scaled of_bits le
scaled-above x y p q l =
    let a = abs x in
    let b = abs y in
    let ha = high x in
    let hb = high y in
    choose x y (ltb 0x3c00000 (ha - hb)) (a ⊕ b) _
    (λ h.
    let g = ltb-true 0x3c00000 (ha - hb) h in
    let w = more-units (word 0x3c00000) a (word-is 0x3c00000 (omega arith)) (abs_is x p) (high-above x p 0x3c00000 (omega arith) (omega arith))
    (ltb→lt 0 (P binary64 (word 0x3c00000)) tt) in
    inl (above_of_le (word 0x3c00000) (a ⊕ b) tt
    (sum-above (word 0x3c00000) a b (word-is 0x3c00000 (omega arith)) (abs_is x p) (abs_is y q) (abs-plus x) (abs-plus y)
    (le_trans w.0 (le-add_right (P binary64 a) (P binary64 b))))))
    (λ h.
    let g = ltb-false 0x3c00000 (ha - hb) h in
    choose x y (ltb 0x5f300000 ha) _ _
    (λ k.
    let u = ltb-true 0x5f300000 ha k in
    choose x y (leb 0x7ff00000 ha) _ _ (λ n. absurd (lt_irrefl ha (lt_of_lt_of_le (high-finite x p) (leb-true 0x7ff00000 ha n))))
    (λ _. inl (scaled-down x y p q (omega arith) (omega arith))))
    (λ k.
    let u = ltb-false 0x5f300000 ha k in
    choose x y (ltb hb 0x20b00000) _ _
    (λ n.
    let v = ltb-true hb 0x20b00000 n in
    choose x y (leb hb 0x000fffff) _ _
    (λ o.
    let w = leb-true hb 0x000fffff o in
    choose x y (eq b nought) a _ (λ z. flat x y p q z)
    (λ z. elim (zero-or-least y q) [
      | inl e ↦ absurd (true≢false (sym (ap (λ (v : Float). eq v nought) e ∙ nought-eq) ∙ z))
      | inr s ↦ inl (subnormal x y p q (omega arith) (omega arith) s)
    ]))
    (λ o. let w = leb-false hb 0x000fffff o in inl (scaled-up x y p q (omega arith) (omega arith) (omega arith) (omega arith))))
    (λ n. let v = ltb-false hb 0x20b00000 n in inl (as-they-are x y p q u (omega arith) (omega arith) v))))

pub hypot-long : (x y : Float) → Is binary64 x → Is binary64 y → Long x y (hypot x y)
unfolding hypot
hypot-long x y p q =
    choose x y (ltb (high x) (high y)) _ _ (λ h. turned (scaled-above y x q p (le_of_lt (ltb-true (high x) (high y) h))))
    (λ h. scaled-above x y p q (ltb-false (high x) (high y) h))
  where
    turned : {v : Float} → Long y x v → Long x y v
    turned (inl a) = inl a
    turned (inr a) = inr (a.1, a.0, a.2)
