-- `text::with_number` meets its contract. The digits are those of the definition (`spelt`), and 20 at the most (`few`). Assumes nothing.
use Prim.Native.Nat.{◌≤◌}
use mathlib.Core.Path.{ap, ◌∙◌}
use mathlib.Core.List.{List, ◌++◌}
use Prim.Native.Nat.{ℕ}
use native.Mathlib.Omega.{arith}
use Rattle.text.specs.Text.{text_of}
use Rattle.text.proofs.Pieces.{few, spelt}
use Rattle.text.proofs.with_number.Goals as goal

pub with-requires : goal.with-requires
with-requires c =
    let most : c.decimal-n.result ≤ 20 = few c.args.number _ (omega arith) c.decimal-n.ensures.len in
    let size = c.decimal-n.ensures.in_bounds.1 in
    (c.requires.0, omega arith)

pub returns : goal.returns
returns c =
    let most : c.decimal-n.result ≤ 20 = few c.args.number _ (omega arith)
    c.decimal-n.ensures.len in
    let size = c.decimal-n.ensures.in_bounds.1 in
    let text = text_of c.args.text in (
      c.with.ensures.0 ∙ ap (λ (d : List ℕ). text ++ d)
          (c.decimal-n.ensures.digits ∙ spelt _ _ 20 most c.decimal-n.ensures.len),
      c.with.ensures.1,
      omega arith,
    )
