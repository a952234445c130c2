-- From 1/2 up to 1 a value and its root have bits that differ from a count of 2 ^ -53 by the same number, so that the counts decide which value is
-- the root. Assumes nothing.
use Rattle.std.proofs.Common.{◌≡◌, ℕ, ◌+◌, ◌-◌, ◌*◌, ◌/◌, ◌%◌, ◌^◌, ◌<◌, ◌≤◌, false, sym, ap, ◌∙◌, le_of_lt, mul-pos, arith, pow_pos, pow-add}
use lib.Ieee.{Float, binary64, of_fields}
use Rattle.binary64.specs.Steps.{#}
use Rattle.binary64.specs.Root.{root, root_units}
use Rattle.binary64.specs.Held.{Nearest}
use Rattle.binary64.proofs.BitsLaw.{bits-law}
use Rattle.binary64.proofs.Decode.{clear, fields-mid, root-value}
use Rattle.binary64.proofs.RootLaw.{root-law}
use Rattle.geo.specs.Held.{BelowOne}

-- h * h taken out
regroup : (m a h : ℕ) → m * h * (a * h) ≡ m * a * (h * h)
regroup m a h = omega arith

root-units : (m : ℕ) → 2 ^ 52 ≤ m → m < 2 ^ 53 → root (# (1021 * 2 ^ 52 + m)) ≡ root_units (m * 2 ^ 53 * (2 ^ 1021 * 2 ^ 1021))
root-units m lo hi =
    let b = 1021 * 2 ^ 52 + m in
    let t = m - 2 ^ 52 in
    let field : b / 2 ^ 52 ≡ 1022 = omega arith in
    let rest : b % 2 ^ 52 ≡ t = omega arith in
    let back : 2 ^ 52 + t ≡ m = omega arith in
    let e : # b ≡ of_fields binary64 false 1022 t = clear b (omega arith) ∙ ap (λ (x : ℕ). of_fields binary64 false x (b % 2 ^ 52)) field
    ∙ ap (of_fields binary64 false 1022) rest in
    ap root e
    ∙ root-value (of_fields binary64 false 1022 t) ((2 ^ 52 + t) * 2 ^ 1021) (fields-mid false 1021 t (omega arith))
    (mul-pos (omega arith) (pow_pos 1021))
    ∙ ap (λ (x : ℕ). root_units (x * 2 ^ 1021 * 2 ^ 1074)) back
    ∙ ap (λ (x : ℕ). root_units (m * 2 ^ 1021 * x)) (pow-add 2 53 1021)
    ∙ ap root_units (regroup m (2 ^ 53) (2 ^ 1021))

pub root-below-one : (u s : Float) (m r : ℕ) → BelowOne u m → BelowOne s r → Nearest (m * 2 ^ 53) r → s ≡ root u
root-below-one u s m r bu bs near =
    bs.2
    ∙ bits-law r 1021 bs.0 (le_of_lt bs.1) (omega arith)
    ∙ sym (root-law (m * 2 ^ 53) 1021 r (omega arith) (omega arith) near)
    ∙ sym (root-units m bu.0 bu.1)
    ∙ ap root (sym bu.2)
