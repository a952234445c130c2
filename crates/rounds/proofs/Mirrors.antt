-- A fix shows what `published` makes of an inverse, which is symmetric to the bit. Assumes nothing.
use Rattle.std.proofs.Common.{List, replicate, sym, subst, arith}
use lib.Ieee.{Float}
use Rattle.binary64.specs.Steps.{nought}
use Rattle.dense.specs.Inverse.{inverse}
use Rattle.dense.proofs.Symmetry.{inverse-symmetric}
use Rattle.limits.specs.Mirrored.{Mirrored}
use Rattle.limits.proofs.Mirrors.{published-mirrored}
use Rattle.record.specs.declared.content.Fix.{Fix}
use Rattle.rounds.specs.Solve.{setting_at, solve_problem}
use Rattle.rounds.specs.Demand.{Fixed, rounds, remaining}
use Rattle.rounds.specs.Mirrored.{covariance, FinishMirrored, FixMirrored}
use Rattle.rounds.proofs.Claim.{claim}
use Rattle.rounds.specs.Later.{covariance_by}
use Rattle.rounds.proofs.Exact.{exact}
use Rattle.rounds.proofs.Found.{finish-fix}

-- of every factor
covariance-mirrored : (l : List Float) → Mirrored (covariance_by l)
covariance-mirrored l = published-mirrored (inverse l 4 (replicate 16 nought)) (inverse-symmetric l 4 (replicate 16 nought) (omega arith))

pub finish-mirrored : FinishMirrored
finish-mirrored mask dof reference fit x e =
    let f = finish-fix mask dof reference fit x e in
    subst (λ (y : Fix). Mirrored (covariance y)) (sym f.2) (covariance-mirrored f.0)

pub fix-mirrored : FixMirrored
unfolding solve_problem
fix-mirrored P x e =
    let h : Fixed (rounds P) (remaining P) x = ((claim (setting_at P) (remaining P) (exact P)).fixed x).0 e in
    subst (λ (y : Fix). Mirrored (covariance y)) (sym h.shown.shows) (covariance-mirrored h.shown.m)
