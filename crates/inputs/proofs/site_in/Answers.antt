-- `inputs::site_in` meets its contract: the three reads are those of the definition, and i64s come back from their bits (`to_z-of_z`). Assumes nothing.
use borrow.Author.Rules.{rules}
use lib.ListN.{get_or}
use lib.IntN.{pos}
use Prim.Native.Nat.{◌+◌, ◌*◌}
use mir.Syntax.{w64}
use mir.ValLaws.{to_z-of_z}
use Rattle.inputs.proofs.site_in.Goals as goal

pub returns : goal.returns
returns c =
    let mm = c.args.mm.now in
    let i = c.args.i in
    rw (
      to_z-of_z w64 (get_or mm (3 * i) (pos 0)) (record { sfits = search rules }),
      to_z-of_z w64 (get_or mm (3 * i + 1) (pos 0)) (record { sfits = search rules }),
      to_z-of_z w64 (get_or mm (3 * i + 2) (pos 0)) (record { sfits = search rules }),
    )
