-- `best::norm::norm` meets its contract, call by call, by the columns that `whitened` gives. Assumes nothing.
use mathlib.Core.Path.{refl, ◌∙◌}
use Rattle.best.proofs.Judging.{norm-is}
use Rattle.best.proofs.norm.norm.Goals as goal

pub whitened-rows-requires : goal.whitened-rows-requires
whitened-rows-requires c = record {
  k_bound = (c.requires.0, c.row_place-row.ensures c.args.params c.requires.1);
  r_value = (refl, refl, refl, refl, refl);
}

pub returns : goal.returns
returns c = c.rounding_norm.ensures ∙ norm-is _ _ _ _ _ _ _ _ c.whitened-rows.ensures.d_after
