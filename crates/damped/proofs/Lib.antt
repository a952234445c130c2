-- The bits of the constants, the turns of a run, sums of squares, costs above a limit, the places beside fits, what a run keeps of its
-- parameters and its cost, and when its steps end.
pub mod Constants
pub mod Turns
pub mod Squares
pub mod Limit
pub mod Carried
pub mod Kept
pub mod Formatted
pub mod CostSign
pub mod Timed
pub mod Meaning
