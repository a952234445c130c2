-- What sine and cosine promise beyond their steps: document 02, Item 4. Statements only; proofs/Meaning.antt proves
-- all.
use Rattle.std.specs.Prelude.{◌≡◌, Float}
use Rattle.std.specs.Float.{nan}
use Rattle.binary64.specs.Steps.{one}
use Rattle.binary64.specs.Meaning.{IsBinary64}
use Rattle.binary64.specs.Within.{Within}
use Rattle.libm.specs.Trig.{limit, sin, cos}

-- "Sine and cosine of an angle within ±7 are proved to lie from -1 to 1, ends included." Nothing is clamped: no step of
-- fdlibm leads out of the range.
abbrev pub WithinOne : (Float → Float) → Type 0
WithinOne f = (x : Float) → IsBinary64 x → Within limit x → Within one (f x)

abbrev pub SineWithinOne : Type 0
SineWithinOne = WithinOne sin

abbrev pub CosineWithinOne : Type 0
CosineWithinOne = WithinOne cos

-- Document 01: "angles outside ±7 give not-a-number". So wherever there is a number, it lies from -1 to 1.
abbrev pub NoneBeyond : (Float → Float) → Type 0
NoneBeyond f = (x : Float) → IsBinary64 x → (Within limit x → ⊥) → f x ≡ nan

abbrev pub SineBeyond : Type 0
SineBeyond = NoneBeyond sin

abbrev pub CosineBeyond : Type 0
CosineBeyond = NoneBeyond cos
