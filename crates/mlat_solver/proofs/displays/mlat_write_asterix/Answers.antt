-- `mlat_solver::displays::mlat_write_asterix` meets its contract: the three numbers are the value that the call takes. Assumes nothing.
use mathlib.Core.Path.{ap, ◌∙◌}
use Rattle.asterix.specs.declared.Multiples.{Multiples}
use Rattle.asterix.specs.Items.{write_answer, write_output}
use Rattle.mlat_solver.proofs.displays.mlat_write_asterix.Goals as goal

pub returns : goal.returns
returns c =
    let made = c.three.ensures in
    let out = c.args.out.now in record {
      answer = c.answer.ensures ∙ c.write_asterix.ensures.answer ∙ ap (λ (m : Multiples). write_answer m out) made;
      output = c.write_asterix.ensures.output ∙ ap (λ (m : Multiples). write_output m out) made;
    }
