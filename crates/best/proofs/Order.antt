-- The order of floats, as binary64 has it. Assumes nothing.
pub use Rattle.binary64.proofs.Less.{lt-split, lt-asym, lt-right, le_left, lt_trans, le_of_not_lt, lt_of_not_le, le-lt}
