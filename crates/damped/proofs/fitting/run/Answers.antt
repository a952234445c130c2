-- `damped::fitting::run` meets its contract. The invariant: what is left of the run from this state gives what the whole run gives, the place is the
-- state's, and the arrays have their room. Each turn and each end is one of the run (`turn`, `ended`). Assumes nothing.
use mathlib.Core.Path.{refl, ap, ◌∙◌}
use native.Mathlib.Omega.{arith}
use Rattle.damped.specs.declared.Verdict.TheVariants.{Accepted, Converged, Rejected, Stopped, Failed}
use Rattle.damped.specs.declared.Placed.{Placed}
use Rattle.damped.proofs.Turns.{turn, ended}
use Rattle.damped.proofs.Carried.{fitted-at, plain_at, unfitted-at}
use Rattle.damped.proofs.fitting.run.Goals as goal
use Rattle.damped.proofs.fitting.run.Goals.{in-Accepted, in-Rejected}

pub loop-n-init : goal.loop-n-init
loop-n-init c = (refl, c.requires.k_bound.1, c.requires.scratch)

pub step-moved-requires : goal.step-moved-requires
step-moved-requires c =
    let inv = c.loop-n.invariant in record {
      k_bound = (c.requires.k_bound.0, inv.1);
      scratch = inv.2;
    }

pub returns-in-Converged : goal.returns-in-Converged
returns-in-Converged c =
    let step = c.step-moved in
    let loop = c.loop-n in record {
      fit_value = c.fitted-fit.ensures ∙ turn _ loop.n _ _ _ Converged c.loop-n-test.true
          loop.invariant.0 step.ensures.stepped_value c.in-Converged.is;
      place_value = fitted-at c.args.altitude _ _ step.result.stepped.state step.ensures.place_value c.fitted-fit.ensures;
    }

pub returns-in-Stopped : goal.returns-in-Stopped
returns-in-Stopped c =
    let step = c.step-moved in
    let loop = c.loop-n in record {
      fit_value = c.plain-fit.ensures ∙ turn _ loop.n _ _ _ Stopped c.loop-n-test.true loop.invariant.0
          step.ensures.stepped_value c.in-Stopped.is;
      place_value = plain_at c.args.altitude _ _ _ step.ensures.place_value c.plain-fit.ensures;
    }

pub returns-in-Failed : goal.returns-in-Failed
returns-in-Failed c =
    let step = c.step-moved in
    let loop = c.loop-n in record {
      fit_value = ap (λ (x : Placed). x.fit) c.unfitted.ensures ∙ turn _ loop.n _ _ _ Failed c.loop-n-test.true
          loop.invariant.0 step.ensures.stepped_value c.in-Failed.is;
      place_value = unfitted-at c.args.altitude _ _ (ap (λ (x : Placed). x.fit) c.unfitted.ensures);
    }

pub loop-n-preserved : goal.loop-n-preserved
loop-n-preserved c =
    let step = c.step-moved in
    let loop = c.loop-n in
    let test = c.loop-n-test.true in (
      elim c.match-verdict.branch [
        | in-Accepted w ↦ turn _ loop.n _ _ _ Accepted test loop.invariant.0 step.ensures.stepped_value w.in-Accepted.is
        | in-Rejected w ↦ turn _ loop.n _ _ _ Rejected test loop.invariant.0 step.ensures.stepped_value w.in-Rejected.is
      ],
      step.ensures.place_value,
      step.ensures.scratch_2,
    )

pub returns : goal.returns
returns c =
    let loop = c.loop-n in record {
      fit_value = c.plain-fit-2.ensures ∙ ended _ loop.n _ _ (omega arith) loop.invariant.0;
      place_value = plain_at c.args.altitude _ _ _ loop.invariant.1 c.plain-fit-2.ensures;
    }
