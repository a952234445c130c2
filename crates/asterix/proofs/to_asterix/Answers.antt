-- `asterix::to_asterix` meets its contract: a place beyond the globe is refused, and the rest is `write_asterix`. Assumes nothing.
use mathlib.Core.Path.{ap, ◌∙◌}
use Rattle.asterix.specs.declared.Multiples.{Multiples}
use Rattle.asterix.specs.Items.{write_answer, write_output}
use Rattle.asterix.proofs.Arms.{exports, refuses}
use Rattle.asterix.proofs.to_asterix.Goals as goal

pub returns-then-not-on_globe : goal.returns-then-not-on_globe
returns-then-not-on_globe c = let both = refuses _ _ c.on_globe.ensures (c.if-not-on_globe.true) in record { answer = both.0; output = both.1 }

pub returns : goal.returns
returns c =
    let out = c.args.out.now in
    let e = exports _ out c.on_globe.ensures (c.if-not-on_globe.false) in
    let m = c.of_wire.ensures in record {
      answer = c.write_asterix.ensures.answer ∙ ap (λ (x : Multiples). write_answer x out) m ∙ e.0;
      output = c.write_asterix.ensures.output ∙ ap (λ (x : Multiples). write_output x out) m ∙ e.1;
    }
