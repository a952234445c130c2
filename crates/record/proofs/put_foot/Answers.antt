-- `record::put_foot` meets its contract: the rows are written in turn. Assumes nothing.
use Rattle.record.proofs.put_foot.Goals as goal

pub returns : goal.returns
returns c = rw (
  c.put_f64.ensures,
  c.metres.ensures,
  c.kind.ensures,
  c.put_u16.ensures,
)
