-- `mlat_solver::solve::mlat_solve_receptions` meets its contract: the fields are those of the caller's list (`few-held`). Assumes nothing.
use Rattle.receptions.specs.Receptions.{listed_at}
use Rattle.entry.proofs.Unpacked.{few-held}
use Rattle.mlat_solver.proofs.solve.mlat_solve_receptions.Goals as goal

pub solve_fields-requires : goal.solve_fields-requires
solve_fields-requires c =
    let at = listed_at c.args.receptions.now in
    (at, few-held at _ _ c.few.ensures c.of_list-f.ensures)

pub returns : goal.returns
returns c =
    let at = listed_at c.args.receptions.now in
    c.solve_fields.ensures at
    (few-held at _ _ c.few.ensures c.of_list-f.ensures)
