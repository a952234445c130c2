-- `problem::gather_sites` meets its contract. The invariant: the first a sites stand in their places. Each index is below 32 by what is asked.
-- Assumes nothing.
use mathlib.Core.Path.{◌≡◌, refl, ap₂, ◌∙◌}
use native.Mathlib.Numerals.{add-one}
use native.Mathlib.Omega.{arith}
use Rattle.problem.specs.Gathered.{put_site, sites_to}
use Rattle.problem.proofs.gather_sites.Goals as goal

pub loop-a-init : goal.loop-a-init
unfolding sites_to
loop-a-init c = (omega arith, refl)

pub site-requires : goal.site-requires
site-requires c = c.requires.1 c.loop-a.a (omega arith)

pub loop-a-preserved : goal.loop-a-preserved
unfolding sites_to
loop-a-preserved c =
    let at = c.loop-a in
    (omega arith, rw add-one (c.put_site.ensures ∙ ap₂ (λ out site. put_site out at.a site) at.invariant.1 c.site.ensures))

pub returns : goal.returns
returns c =
    let e : c.loop-a.a ≡ c.args.k = omega arith in
    rw e at c.loop-a.invariant.1
