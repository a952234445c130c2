-- How the code holds a choice. Nothing that must be believed cites it. Definitions only.
use Rattle.std.proofs.Math.Option as maybe
use Rattle.std.proofs.Math.Option.{none, some}
use Rattle.std.specs.Prelude.{ℕ, Option, None, Some}

-- a choice as the language's own `Option`
abbrev pub option_of : maybe.Option ℕ → Option ℕ
option_of none = None
option_of (some i) = Some i
