-- A turn of the run of damped steps: what is left of it after the turn gives what was left before it. Assumes nothing.
use mathlib.Core.Path.{◌≡◌, ap, ◌∙◌}
use mathlib.Core.List.{List}
use Prim.Native.Nat.{ℕ, suc, ◌+◌, ◌-◌, ◌<◌}
use native.Mathlib.Omega.{arith}
use lib.Ieee.{Float}
use Rattle.whitening.specs.declared.Equations.{Equations}
use Rattle.whitening.specs.Whitened.{Chosen}
use Rattle.whitening.specs.Normal.{evaluated}
use Rattle.damped.specs.declared.Lm.{Lm}
use Rattle.damped.specs.declared.Verdict.{Verdict}
use Rattle.damped.specs.declared.Stepped.{Stepped}
use Rattle.damped.specs.declared.Fit.{Fit}
use Rattle.damped.specs.Damped.{step, run, after, plain, started, levenberg_marquardt}

-- a turn that ends in the verdict v
pub turn : (P : Chosen) (n : ℕ) (s : Lm) (t : Stepped) (out : Fit) (v : Verdict) → n < 50 → run P (50 - n) s ≡ out → t ≡ step P s → t.verdict ≡ v
    → after v t.state (run P (50 - (n + 1)) t.state) ≡ out
unfolding run
turn P n s t out v h r e w = let d : 50 - n ≡ suc (50 - (n + 1)) = omega arith in rw (← w, e) (rw d at r)

-- with no step left
pub ended : (P : Chosen) (n : ℕ) (s : Lm) (out : Fit) → n ≡ 50 → run P (50 - n) s ≡ out → plain s ≡ out
unfolding run
ended P n s out h r = rw h at r

-- the run from a start
pub begun : (P : Chosen) (p : List Float) (e : Equations) (s : Lm) → e ≡ evaluated P p → s ≡ started p e → run P 50 s ≡ levenberg_marquardt P p
unfolding levenberg_marquardt
begun P p e s h g = ap (run P 50) (g ∙ ap (started p) h)
