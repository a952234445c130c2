-- `inputs::altitude_of` meets its contract: by whether it is there, and its kind. Assumes nothing.
use mathlib.Core.Path.{◌≡◌, ◌∙◌}
use mathlib.Core.Bool.{Bool, true}
use mathlib.Core.List.{List}
use Prim.Native.Nat.{ℕ}
use borrow.Author.Tests.{ne_eqb}
use lib.IntN.{ℤ}
use lib.Ieee.{Float}
use mir.Syntax.{w32}
use mir.ValLaws.{to_z-of_z}
use Rattle.problem.specs.declared.Altitude.TheVariants.{Barometric}
use Rattle.inputs.specs.Inputs.{if_there, kind_at, correction_at, metres_at, corrected, altitude_of}
use Rattle.inputs.proofs.Steps.{sized-there}
use Rattle.inputs.proofs.altitude_of.Goals as goal

barometric
    : (there : Bool) (a : List ℕ) {metres sum : Float} {kind : ℕ} {correction : ℤ} → there ≡ true → metres ≡ metres_at a → kind ≡ kind_at a → kind ≡ 1
    → correction ≡ correction_at a → sum ≡ corrected metres correction → Barometric sum ≡ altitude_of (if_there there a)
barometric there a t m k one c s = rw (t, s, m, c, ← k, one)

pub metres_at-metres-requires : goal.metres_at-metres-requires
metres_at-metres-requires c = sized-there 16 c.args.there c.args.altitude.now c.if-there.true c.requires

pub kind_at-requires : goal.kind_at-requires
kind_at-requires c = sized-there 16 c.args.there c.args.altitude.now c.if-there.true c.requires

pub correction_at-correction-requires : goal.correction_at-correction-requires
correction_at-correction-requires c = sized-there 16 c.args.there c.args.altitude.now c.if-there.true c.requires

pub returns-then-kind_at-eq1 : goal.returns-then-kind_at-eq1
returns-then-kind_at-eq1 c =
    barometric _ _ c.if-there.true c.metres_at-metres.ensures c.kind_at.ensures c.if-kind_at-eq1.true
    (to_z-of_z w32 c.correction_at-correction.result (record { sfits = c.correction_at-correction.type_inv }) ∙ c.correction_at-correction.ensures)
    c.corrected.ensures

pub returns-then-there : goal.returns-then-there
returns-then-there c = rw (
  c.if-there.true,
  ← c.metres_at-metres.ensures,
  ← c.kind_at.ensures,
  ne_eqb _ _ c.if-kind_at-eq1.false,
)
