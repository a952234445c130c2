-- `find_fixes::decimals::value` meets its contract. By the definition. Assumes nothing.
use Rattle.std.proofs.Common.{◌≡◌, Bool, Option, Some, None, cond, sym, ap, ◌∙◌}
use mathlib.Core.Path.{ap₂}
use lib.Ieee.{Float, neg}
use Rattle.binary64.specs.Steps.{◌⊘◌}
use Rattle.find_fixes.specs.Decimals.{quotient, value_of}
use Rattle.find_fixes.proofs.decimals.value.Goals as goal

-- the size with its sign, from the two numbers
sized : (v x y x' y' : Float) (minus : Bool) → v ≡ cond minus (neg (x ⊘ y)) (x ⊘ y) → x ≡ x' → y ≡ y' → v ≡ cond minus (neg (x' ⊘ y')) (x' ⊘ y')
sized v x y x' y' minus e a b = e ∙ ap₂ (λ (x y : Float). cond minus (neg (x ⊘ y)) (x ⊘ y)) a b

pub returns-then-d : goal.returns-then-d
unfolding value_of
returns-then-d c =
    ap (λ (v : Float). Some v)
    (sized _ _ _ _ _ c.args.minus c.signed-value.ensures c.nearest_u64_to_f64.ensures c.nearest_u64_to_f64-2.ensures)
    ∙ ap (λ (b : Bool). cond {A = Option Float} b (Some (cond c.args.minus (neg (quotient c.args.d)) (quotient c.args.d))) None) (sym c.if-d.true)

pub returns : goal.returns
unfolding value_of
returns c =
    ap (λ (b : Bool). cond {A = Option Float} b (Some (cond c.args.minus (neg (quotient c.args.d)) (quotient c.args.d))) None) (sym c.if-d.false)
