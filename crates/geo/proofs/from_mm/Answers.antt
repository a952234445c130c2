-- `geo::from_mm` meets its contract: an element is an i64, so it comes back from its bits (`element`). Assumes nothing.
use Rattle.std.proofs.Common.{◌≡◌, get_or, ℤ, pos, ap, ◌∙◌, w64, SFits, to_z, of_z}
use borrow.Author.Rules.{sfits_of}
use lib.Ieee.{Float}
use mir.ValLaws.{to_z-of_z}
use Rattle.geo.specs.Geo.{metres, from_mm}
use Rattle.geo.proofs.from_mm.Goals as goal

-- what `metres` gives of the bits of x is that of x
element : (x : ℤ) {r : Float} → r ≡ metres (to_z w64 (of_z w64 x)) → SFits w64 x → r ≡ metres x
element x e h = e ∙ ap metres (to_z-of_z w64 x h)

pub returns : goal.returns
unfolding from_mm
returns c =
    let mm = c.args.mm in
    rw (
      element (get_or mm 0 (pos 0)) c.metres.ensures (sfits_of c.metres-arg-1.given),
      element (get_or mm 1 (pos 0)) c.metres-2.ensures (sfits_of c.metres-arg-2-1.given),
      element (get_or mm 2 (pos 0)) c.metres-3.ensures (sfits_of c.metres-arg-3-1.given),
    )
