-- What the definitions `root` and `half_away` give is what callers are promised: binary64's theorems, at the argument. Assumes nothing.
use mathlib.Core.Path.{◌≡◌, sym, ap, subst, ◌∙◌}
use mathlib.Core.Bool.{true}
use lib.Dec.{T}
use lib.Ieee.{Float, binary64, fits}
use Rattle.binary64.specs.Root.{root}
use Rattle.binary64.specs.Rounding.{half_away}
use Rattle.binary64.proofs.Meaning.{root-nearest, root-elsewhere, rounds-half-away, others-pass-through}
use Rattle.mlat_solver.specs.Meaning.{IsRoot, IsRounded}

-- as owning an f64 tells it
pub held : (x : Float) → fits binary64 x ≡ true → T (fits binary64 x)
held x f = subst T (sym f) tt

root-is-root : (x : Float) → T (fits binary64 x) → IsRoot x (root x)
root-is-root x f = record {
  nearest = λ a u p. (root-nearest x a f u p).0;
  zeros = root-elsewhere.zeros x;
  negatives = root-elsewhere.negatives x;
  infinities = (λ e. ap root e ∙ root-elsewhere.others.0, λ e. ap root e ∙ root-elsewhere.others.1);
  others = λ e. ap root e ∙ root-elsewhere.others.2;
}

pub is-root : (x r : Float) → fits binary64 x ≡ true → r ≡ root x → IsRoot x r
is-root x r f e = subst (IsRoot x) (sym e) (root-is-root x (held x f))

half-away-is-rounded : (x : Float) → T (fits binary64 x) → IsRounded x (half_away x)
half-away-is-rounded x f = record {
  finite = λ s a u. (rounds-half-away x s a f u).0;
  infinities = λ s e. ap half_away e ∙ others-pass-through.0 s;
  others = λ e. ap half_away e ∙ others-pass-through.1;
}

pub is-rounded : (x r : Float) → fits binary64 x ≡ true → r ≡ half_away x → IsRounded x r
is-rounded x r f e = subst (IsRounded x) (sym e) (half-away-is-rounded x (held x f))
