-- `mlat_solver::displays::mlat_to_asterix` meets its contract: the three numbers are the value that the call takes. Assumes nothing.
use mathlib.Core.Path.{ap, ◌∙◌}
use Rattle.wire.specs.declared.Wire.{Wire}
use Rattle.asterix.specs.Items.{to_answer, to_output}
use Rattle.mlat_solver.proofs.displays.mlat_to_asterix.Goals as goal

pub returns : goal.returns
returns c =
    let made = c.whole.ensures in
    let out = c.args.out.now in record {
      answer = c.answer.ensures ∙ c.to_asterix.ensures.answer ∙ ap (λ (w : Wire). to_answer w out) made;
      output = c.to_asterix.ensures.output ∙ ap (λ (w : Wire). to_output w out) made;
    }
