-- `inputs::check_inputs` meets its contract: in the order of the definition (`refuses-torn` to `refuses-uncovered`). Assumes nothing.
use Rattle.std.proofs.Common.{◌≡◌, ap, sym, ◌∙◌, rules, Bool, ℕ, Err}
use borrow.Author.Tests.{leb-true}
use Rattle.receptions.specs.declared.Reception.{Reception}
use Rattle.receptions.specs.Receptions.{no_reception}
use Rattle.inputs.specs.declared.Fault.TheVariants.{TornInput, TooMany}
use Rattle.inputs.specs.Faults.{unless}
use Rattle.inputs.specs.Inputs.{inputs_of}
use Rattle.inputs.proofs.Order.{good_of, covered-by, sized-altitude}
use Rattle.inputs.proofs.Order.{refuses-torn, refuses-many, refuses-reception, refuses-clock, refuses-altitude, refuses-uncovered}
use Rattle.inputs.proofs.check_inputs.Goals as goal

pub returns-in_err-unless : goal.returns-in_err-unless
returns-in_err-unless c = λ at held.
    let I = inputs_of c.args.whole c.args.n at c.args.g c.args.clock.now c.args.altitude.now c.args.reference.now in
    let torn = ap (λ (b : Bool). unless b TornInput) (sym (c.untorn.ensures c.args.n at c.args.clock.now)) ∙ sym c.unless.ensures in
    let refused : c.from_residual.result ≡ Err c.in_err-unless.field-0.0 = search rules in
    refused ∙ refuses-torn I c.in_err-unless.field-0.0 (torn ∙ c.in_err-unless.was)

pub returns-in_err-unless-2 : goal.returns-in_err-unless-2
returns-in_err-unless-2 c = λ at held.
    let I = inputs_of c.args.whole c.args.n at c.args.g c.args.clock.now c.args.altitude.now c.args.reference.now in
    let torn = ap (λ (b : Bool). unless b TornInput) (sym (c.untorn.ensures c.args.n at c.args.clock.now)) ∙ sym c.unless.ensures in
    let whole = torn ∙ c.in_ok-unless.was in
    let refused : c.from_residual-in_err-unless-2.result ≡ Err c.in_err-unless-2.field-0.0 = search rules in
    refused ∙ refuses-many I whole c.in_err-unless-2.field-0.0 (sym c.unless-2.ensures ∙ c.in_err-unless-2.was)

pub returns-in_err-check_receptions : goal.returns-in_err-check_receptions
returns-in_err-check_receptions c = λ at held.
    let I = inputs_of c.args.whole c.args.n at c.args.g c.args.clock.now c.args.altitude.now c.args.reference.now in
    let torn = ap (λ (b : Bool). unless b TornInput) (sym (c.untorn.ensures c.args.n at c.args.clock.now)) ∙ sym c.unless.ensures in
    let whole = torn ∙ c.in_ok-unless.was in
    let many = sym c.unless-2.ensures ∙ c.in_ok-unless-2.was in
    let few = leb-true _ _ (good_of _ TooMany many) in
    let refused : c.from_residual-in_err-check_receptions.result ≡ Err c.in_err-check_receptions.field-0.0 = search rules in
    refused ∙ refuses-reception I whole many c.in_err-check_receptions.field-0.0
    (sym (c.check_receptions.ensures at (held few)) ∙ c.in_err-check_receptions.was)

pub returns-in_err-check_clock : goal.returns-in_err-check_clock
returns-in_err-check_clock c = λ at held.
    let I = inputs_of c.args.whole c.args.n at c.args.g c.args.clock.now c.args.altitude.now c.args.reference.now in
    let torn = ap (λ (b : Bool). unless b TornInput) (sym (c.untorn.ensures c.args.n at c.args.clock.now)) ∙ sym c.unless.ensures in
    let whole = torn ∙ c.in_ok-unless.was in
    let many = sym c.unless-2.ensures ∙ c.in_ok-unless-2.was in
    let few = leb-true _ _ (good_of _ TooMany many) in
    let receptions = sym (c.check_receptions.ensures at (held few)) ∙ c.in_ok-check_receptions.was in
    let refused : c.from_residual-in_err-check_clock.result ≡ Err c.in_err-check_clock.field-0.0 = search rules in
    refused ∙ refuses-clock I whole many receptions c.in_err-check_clock.field-0.0 (sym c.check_clock.ensures ∙ c.in_err-check_clock.was)

pub returns-in_err-check_altitude : goal.returns-in_err-check_altitude
returns-in_err-check_altitude c = λ at held.
    let I = inputs_of c.args.whole c.args.n at c.args.g c.args.clock.now c.args.altitude.now c.args.reference.now in
    let torn = ap (λ (b : Bool). unless b TornInput) (sym (c.untorn.ensures c.args.n at c.args.clock.now)) ∙ sym c.unless.ensures in
    let whole = torn ∙ c.in_ok-unless.was in
    let many = sym c.unless-2.ensures ∙ c.in_ok-unless-2.was in
    let few = leb-true _ _ (good_of _ TooMany many) in
    let receptions = sym (c.check_receptions.ensures at (held few)) ∙ c.in_ok-check_receptions.was in
    let clock = sym c.check_clock.ensures ∙ c.in_ok-check_clock.was in
    let refused : c.from_residual-in_err-check_altitude.result ≡ Err c.in_err-check_altitude.field-0.0 = search rules in
    refused ∙ refuses-altitude I whole many receptions clock c.in_err-check_altitude.field-0.0
    (sym c.check_altitude.ensures ∙ c.in_err-check_altitude.was)

pub check_altitude-requires : goal.check_altitude-requires
check_altitude-requires c =
    let at : ℕ → Reception = λ (i : ℕ). no_reception in
    let I = inputs_of c.args.whole c.args.n at c.args.g c.args.clock.now c.args.altitude.now c.args.reference.now in
    let torn = ap (λ (b : Bool). unless b TornInput) (sym (c.untorn.ensures c.args.n at c.args.clock.now)) ∙ sym c.unless.ensures in
    sized-altitude I (torn ∙ c.in_ok-unless.was)

pub returns : goal.returns
returns c = λ at held.
    let I = inputs_of c.args.whole c.args.n at c.args.g c.args.clock.now c.args.altitude.now c.args.reference.now in
    let torn = ap (λ (b : Bool). unless b TornInput) (sym (c.untorn.ensures c.args.n at c.args.clock.now)) ∙ sym c.unless.ensures in
    let whole = torn ∙ c.in_ok-unless.was in
    let many = sym c.unless-2.ensures ∙ c.in_ok-unless-2.was in
    let few = leb-true _ _ (good_of _ TooMany many) in
    let receptions = sym (c.check_receptions.ensures at (held few)) ∙ c.in_ok-check_receptions.was in
    let clock = sym c.check_clock.ensures ∙ c.in_ok-check_clock.was in
    let altitude = sym c.check_altitude.ensures ∙ c.in_ok-check_altitude.was in
    c.unless-3.ensures ∙ covered-by c.args.g.clock c.args.clock.now ∙ refuses-uncovered I whole many receptions clock altitude
