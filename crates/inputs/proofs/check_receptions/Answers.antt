-- `inputs::check_receptions` meets its contract: each turn adds the next reception's check out of the arrays (`passes-next`), the first that
-- refuses is the outcome (`refuses-first`), and it is that of the reception (`first-held`). Assumes nothing.
use Rattle.std.proofs.Common.{◌≡◌, refl, sym, ◌∙◌, arith, rules, Err, get_or, pos, w64, to_z-of_z}
use Rattle.inputs.specs.Faults.{first_to}
use Rattle.inputs.proofs.Held.{first-held, check_in}
use Rattle.inputs.proofs.Steps.{check-is, refuses-first, passes-next}
use Rattle.inputs.proofs.check_receptions.Goals as goal

pub loop-i-init : goal.loop-i-init
unfolding first_to
loop-i-init c = (omega arith, refl)

pub returns-in_err-check_reception : goal.returns-in_err-check_reception
returns-in_err-check_reception c = λ at held.
    let f = c.args.f in
    let i = c.loop-i.i in
    let e : c.from_residual.result ≡ Err c.in_err-check_reception.field-0.0 = search rules in
    e
    ∙ refuses-first (check_in f) i c.args.n c.loop-i.invariant.1
    (check-is f i (c.good_reception-good.ensures
    ∙ rw (to_z-of_z {w = w64} {z = get_or f.time i (pos 0)} (record { sfits = search rules }), c.site_in-site.ensures))
    c.has-above.ensures c.check_reception.ensures
    ∙ c.in_err-check_reception.was)
    (omega arith)
    ∙ first-held f c.args.n c.requires at held

pub loop-i-preserved : goal.loop-i-preserved
loop-i-preserved c =
    let f = c.args.f in
    let i = c.loop-i.i in (
      omega arith,
      passes-next (check_in f) i c.loop-i.invariant.1
          (check-is f i (c.good_reception-good.ensures
          ∙ rw (to_z-of_z {w = w64} {z = get_or f.time i (pos 0)} (record { sfits = search rules }), c.site_in-site.ensures))
          c.has-above.ensures c.check_reception.ensures
          ∙ c.in_ok-check_reception.was),
    )

pub returns : goal.returns
returns c = λ at held.
    let all : c.loop-i.i ≡ c.args.n = omega arith in
    sym (rw all at c.loop-i.invariant.1) ∙ first-held c.args.f c.args.n c.requires at held
