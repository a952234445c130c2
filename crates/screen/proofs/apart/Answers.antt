-- `screen::apart` meets its contract: an i64 that stands in a slice comes back from its bits. Assumes nothing.
use borrow.Author.Rules.{rules}
use lib.IntN.{pos}
use lib.ListN.{get_or}
use mir.Syntax.{w64}
use mir.ValLaws.{to_z-of_z}
use Rattle.screen.proofs.apart.Goals as goal

pub returns : goal.returns
returns c =
    rw (
      to_z-of_z w64 (get_or c.args.values.now c.args.a (pos 0)) (record { sfits = search rules }),
      to_z-of_z w64 (get_or c.args.values.now c.args.b (pos 0)) (record { sfits = search rules }),
    )
    at c.abs_diff.ensures
