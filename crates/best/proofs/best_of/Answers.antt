-- `best::best_of` meets its contract. The invariant: `top` is the choice among the first i fits. Assumes nothing.
use mathlib.Core.Path.{◌≡◌, sym, ◌∙◌}
use native.Mathlib.Omega.{arith}
use lib.ListN.{length}
use Rattle.sets.specs.Mask.{has}
use Rattle.best.specs.Held.{fits_of}
use Rattle.best.proofs.Passes.{choice_start, all-below, choice-skips, choice-takes, choice-leaves}
use Rattle.best.proofs.best_of.Goals.{then-has+then-replaces, else-has, else-has-via-then-has+else-replaces, else-has-via-else-has}
use Rattle.best.proofs.best_of.Goals as goal

pub loop-i-init : goal.loop-i-init
loop-i-init c = choice_start (has c.args.mask) (fits_of c.args.fits.now)

pub replaces-requires : goal.replaces-requires
replaces-requires c =
    let s = c.args in
    let at = c.loop-i in
    (omega arith, all-below (has s.mask) (fits_of s.fits.now) at.i (length s.fits.now) at.top (omega arith) at.invariant)

pub loop-i-preserved : goal.loop-i-preserved
loop-i-preserved c =
    let at = c.loop-i in
    let S = has c.args.mask in
    let fits = fits_of c.args.fits.now in
    let told = sym c.has.ensures in
    elim c.if-has.branch [
      | then-has+then-replaces w ↦
          rw w.top-is (choice-takes S fits at.i at.top at.invariant (told ∙ w.if-has.true) w.replaces.result w.replaces.ensures w.if-replaces.true)
      | else-has w ↦
          rw w.top-is
          (elim w.else-has.branch [
            | else-has-via-then-has+else-replaces v ↦
                choice-leaves S fits at.i at.top at.invariant (told ∙ v.if-has.true) v.replaces.result v.replaces.ensures v.if-replaces.false
            | else-has-via-else-has v ↦ choice-skips S fits at.i at.top at.invariant (told ∙ v.if-has.false)
          ])
    ]

pub returns : goal.returns
returns c =
    let s = c.args in
    let at = c.loop-i in
    let e : at.i ≡ length s.fits.now = omega arith in record {
      choice = rw e at at.invariant;
      below = all-below (has s.mask) (fits_of s.fits.now) at.i (length s.fits.now) at.top (omega arith) at.invariant;
    }
