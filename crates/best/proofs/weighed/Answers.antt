-- `best::weighed` meets its contract. The invariant: the mask has those of the first i fits that are weighed. A weighed fit joins (`mask-joins`), any
-- other changes nothing (`mask-stays`). Assumes nothing.
use mathlib.Core.Path.{◌≡◌, refl, sym, ap, ◌∙◌}
use mathlib.Core.List.{List}
use native.Mathlib.Omega.{arith}
use Prim.Native.Nat.{ℕ}
use lib.ListN.{length, take, length-map}
use Rattle.std.proofs.lemmas.List.{take_all}
use Rattle.sets.specs.Sets.{Subset, joined}
use Rattle.damped.specs.declared.Fit.{Fit}
use Rattle.damped.specs.declared.Placed.{Placed}
use Rattle.best.specs.Best.{fit_at, weighed}
use Rattle.best.specs.Held.{fits_of}
use Rattle.best.proofs.Passes.{fit-at, mask_start, mask-joins, mask-stays}
use Rattle.best.proofs.weighed.Goals.{then-weigh, else-weigh}
use Rattle.best.proofs.weighed.Goals as goal

pub loop-i-init : goal.loop-i-init
loop-i-init c = mask_start (weighed c.args.sites.now c.args.k) refl (fits_of c.args.fits.now)

pub loop-i-preserved : goal.loop-i-preserved
loop-i-preserved c =
    let s = c.args in
    let at = c.loop-i in
    let test = c.weigh in
    let p = weighed s.sites.now s.k in
    let fits = fits_of s.fits.now in
    let told = ap p (fit-at s.fits.now at.i) ∙ sym test.ensures in
    elim c.if-weigh.branch [
      | then-weigh w ↦
          rw w.mask-is (w.joined-mask.ensures.0 ∙ ap (λ (S : Subset). joined S at.i) at.invariant
          ∙ mask-joins p refl fits at.i (told ∙ w.if-weigh.true))
      | else-weigh w ↦ rw w.mask-is (at.invariant ∙ mask-stays p refl fits at.i (told ∙ w.if-weigh.false))
    ]

pub returns : goal.returns
returns c =
    let s = c.args in
    let fits = fits_of s.fits.now in
    let m : length fits ≡ length s.fits.now = length-map s.fits.now (λ (x : Placed). x.fit) in
    let all : take c.loop-i.i fits ≡ fits = take_all c.loop-i.i fits (omega arith) in
    c.loop-i.invariant ∙ ap {B = Subset} (λ (fs : List Fit) (i : ℕ). weighed s.sites.now s.k (fit_at fs i)) all
