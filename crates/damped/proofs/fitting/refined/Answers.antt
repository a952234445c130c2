-- `damped::fitting::refined` meets its contract. It is the run from the state at the start (`begun`). Assumes nothing.
use mathlib.Core.Path.{sym, ap, ◌∙◌}
use Rattle.whitening.specs.Held.{row_place}
use Rattle.damped.specs.declared.Lm.{Lm}
use Rattle.damped.proofs.Turns.{begun}
use Rattle.damped.proofs.fitting.refined.Goals as goal

pub evaluated-first-requires : goal.evaluated-first-requires
evaluated-first-requires c = record {
  k_bound = c.requires.k_bound;
  scratch = c.requires.scratch;
}

pub run-requires : goal.run-requires
run-requires c =
    let there = c.requires.k_bound.1 ∙ ap (λ (x : Lm). row_place c.args.altitude x.params) (sym c.started-state.ensures) in record {
      k_bound = (c.requires.k_bound.0, there);
      scratch = c.evaluated-first.ensures.scratch_2;
    }

pub returns : goal.returns
returns c =
    let last = c.run.ensures in record {
      fit_value = last.fit_value ∙ begun _ _ _ _ c.evaluated-first.ensures.value c.started-state.ensures;
      place_value = last.place_value;
    }
