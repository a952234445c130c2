-- `record::fix` meets its contract: part after part is written (`parts`), and the transmit time comes back from its bits. Assumes nothing.
use borrow.Author.Rules.{rules}
use mathlib.Core.Path.{◌∙◌, ap}
use lib.IntN.{ℤ}
use mir.Syntax.{w64}
use mir.ValLaws.{to_z-of_z}
use Rattle.words.specs.Words.{put_i64}
use Rattle.record.proofs.Parts.{parts}
use Rattle.record.proofs.fix.Goals as goal

pub returns : goal.returns
returns c =
    let shown = c.args.shown in
    let back = to_z-of_z w64 shown.transmit_ps (record { sfits = search rules }) in
    parts _ _ shown _ _ _ _ _ _ _ _ _ _ _ _ _
    c.put_head.ensures
    c.put_u32.ensures
    c.put_three.ensures
    c.put_f64.ensures
    c.put_f64-2.ensures
    c.put_f64-3.ensures
    c.put_f64-4.ensures
    (c.put_i64.ensures ∙ ap (λ (x : ℤ). put_i64 c.put_f64-4.new.s 72 x) back)
    c.put_three-2.ensures
    c.put_three-3.ensures
    c.put_three-4.ensures
    c.put_f64-5.ensures
    c.put_foot.ensures
