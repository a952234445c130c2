-- `record::store` meets its contract: the output's first 176 bytes are as many as the record has. Assumes nothing.
use Rattle.std.proofs.Common.{◌∙◌, rules, length-take-le}
use Rattle.record.proofs.store.Goals as goal

pub copy_from_slice-requires : goal.copy_from_slice-requires
copy_from_slice-requires c = length-take-le 176 c.args.out.now c.requires ∙ search rules
