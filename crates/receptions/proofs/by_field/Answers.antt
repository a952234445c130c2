-- `receptions::by_field` meets its contract: each turn stores the next reception's fields and its bit (`fields-next`). Assumes nothing.
use Rattle.std.proofs.Common.{◌≡◌, refl, ap, ◌∙◌, arith, rules, w64, to_z-of_z}
use Rattle.sets.specs.Mask.{mask_of}
use Rattle.receptions.specs.declared.Reception.{Reception}
use Rattle.receptions.specs.Receptions.{fill_to, fields_of}
use Rattle.receptions.proofs.Unpacked.{last-next, bits-more, fields-next}
use Rattle.receptions.proofs.by_field.Goals as goal

pub loop-i-init : goal.loop-i-init
unfolding fields_of fill_to mask_of
loop-i-init g c = (omega arith, omega arith, λ f p. (c.blank_id-last.ensures, refl))

pub loop-i-preserved : goal.loop-i-preserved
loop-i-preserved g c =
    let i = c.loop-i.i in
    let r = c.at-r.result in (
      omega arith,
      bits-more c.ascends.result i c.loop-i.invariant.1 c.marked-ascending.ensures,
      λ f p.
          let q : r ≡ f i = p i r (omega arith) c.at-r.ensures in
          let held = c.loop-i.invariant.2 f p in (
            ap (λ (s : Reception). s.id) q ∙ last-next f i,
            rw (to_z-of_z {w = w64} {z = r.time} (record { sfits = search rules }), c.put_site.ensures)
                (fields-next f i held.1 q held.0 c.ascends.ensures c.marked-ascending.ensures),
          ),
    )

pub returns : goal.returns
returns g c f p =
    let e : c.loop-i.i ≡ c.args.n = omega arith in
    rw e at (c.loop-i.invariant.2 f p).1
