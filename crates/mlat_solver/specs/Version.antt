-- A version as one number, as MLAT_VERSION of include/mlat_solver.h has it. Definitions only.
use Rattle.std.specs.Prelude.{ℕ, ◌+◌, ◌*◌}

-- a version of three numbers, the last two below 1,000: a later one is greater
abbrev pub version : ℕ → ℕ → ℕ → ℕ
version major minor patch = major * 1000000 + minor * 1000 + patch
