-- `near::nearest` meets its contract. Each return is an end of the definition; a file that is not turned
-- away is whole (`sound-file`). Assumes nothing.
use Rattle.std.proofs.Common.{ℕ, sym, ◌∙◌}
use Rattle.near.specs.Near.{nearest_answer}
use Rattle.near.proofs.Refusing.{sound-file, answered-query, unmoved, moved}
use Rattle.reader.proofs.Numbered.{not-zero, passed-on, passed-over}
use Rattle.near.proofs.nearest.Goals as goal

pub returns-in_err-check_nearest : goal.returns-in_err-check_nearest
unfolding nearest_answer
returns-in_err-check_nearest c =
    let both = λ (found : ℕ). unmoved c.args.file.now c.args.point _ found c.in_err-check_nearest.ensures (not-zero _) in
    record {
      answer = passed-on _ _ c.from_residual.ensures.1 ∙ (both 0).0;
      place = λ (found : ℕ). passed-over _ found c.from_residual.ensures.0 ∙ (both found).1;
    }

pub find-requires : goal.find-requires
unfolding nearest_answer
find-requires c =
    let file = c.args.file.now in
    (sound-file file (answered-query file _ (sym c.in_ok-check_nearest.ensures)).0).0

pub returns : goal.returns
unfolding nearest_answer
returns c =
    let both = λ (found : ℕ). moved c.args.file.now c.args.point _ found c.in_ok-check_nearest.ensures c.find.ensures in
    record { answer = (both 0).0; place = λ (found : ℕ). (both found).1 }
