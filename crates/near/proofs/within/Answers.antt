-- `near::within` meets its contract. Each return is an end of the definition; a file that is not turned
-- away is whole (`sound-file`). Assumes nothing.
use Rattle.std.proofs.Common.{ℕ, sym, ap, ◌∙◌, arith}
use Rattle.near.specs.Near.{query_refusal}
use Rattle.near.proofs.Refusing.{sound-file, answered-query, short, roomy, left, filled}
use Rattle.reader.proofs.Numbered.{not-zero, passed-on, passed-over}
use Rattle.near.proofs.within.Goals as goal

pub returns-then-places-n : goal.returns-then-places-n
returns-then-places-n c =
    let args = c.args in
    let both = λ (found : ℕ). left args.file.now args.point args.radius args.places.now 14 found (short _ _ _ _ c.if-places-n.true)
    (λ e. omega arith) in
    record { answer = (both 0).0; list = (both 0).1.0; count = λ (found : ℕ). (both found).1.1 }

pub returns-in_err-check_query : goal.returns-in_err-check_query
returns-in_err-check_query c =
    let args = c.args in
    let asked = c.in_err-check_query.ensures ∙ ap (query_refusal args.file.now) c.good_query.ensures in
    let both = λ (found : ℕ). left args.file.now args.point args.radius args.places.now _ found (roomy _ _ _ _ _ c.if-places-n.false asked)
    (not-zero _) in
    record {
      answer = passed-on _ _ c.from_residual.ensures.1 ∙ (both 0).0;
      list = (both 0).1.0;
      count = λ (found : ℕ). passed-over _ found c.from_residual.ensures.0 ∙ (both found).1.1;
    }

pub list-requires : goal.list-requires
list-requires c =
    let file = c.args.file.now in
    ((sound-file file (answered-query file _ (sym c.in_ok-check_query.ensures)).0).0, c.if-places-n.false)

pub returns : goal.returns
returns c =
    let args = c.args in
    let asked = c.in_ok-check_query.ensures ∙ ap (query_refusal args.file.now) c.good_query.ensures in
    let both = λ (found : ℕ). filled args.file.now args.point args.radius args.places.now _ _ found
    (roomy _ _ _ _ 0 c.if-places-n.false asked)
    c.list.ensures.0
    c.list.ensures.1 in
    record { answer = (both 0).0; list = (both 0).1.0; count = λ (found : ℕ). (both found).1.1 }
