-- No refusal has the number 0, which a call has that is answered, and each keeps its number on its way up. Assumes nothing.
use mathlib.Core.Path.{◌≡◌, refl, ap}
use mathlib.Core.Bool.{false≢true}
use native.Mathlib.Omega.{arith}
use Rattle.std.specs.Prelude.{Result, Ok, Err, IsOk, IsErr, IsErrAnd}
use Rattle.std.specs.Result.{result_unwrap_or}
use Rattle.refusals.specs.declared.Refusal.{Refusal}
use Rattle.refusals.specs.declared.Refusal.TheVariants.{TooFew, NoConvergence, OutOfRange, NoFixedPoint, Inconsistent, Singular, Uncovered, Ambiguous}
use Rattle.refusals.specs.declared.Refusal.TheVariants.{Uncertain, TooMany, Disorder, BadField, ClockSize, ShortOutput, TornInput, TornFile}
use Rattle.refusals.specs.declared.Refusal.TheVariants.{NoSuchPlace, MalformedRecord, BeyondTheWire, UnequalMirror, WrongSize, BadQuery}
use Rattle.refusals.specs.declared.Refusal.TheVariants.{BeyondTheItems, OverSix}
use Rattle.refusals.specs.Refusals.{number_of, answer_of}

pub not-zero : (why : Refusal) → number_of why ≡ 0 → ⊥
not-zero TooFew e = omega arith
not-zero NoConvergence e = omega arith
not-zero OutOfRange e = omega arith
not-zero NoFixedPoint e = omega arith
not-zero Inconsistent e = omega arith
not-zero Singular e = omega arith
not-zero Uncovered e = omega arith
not-zero Ambiguous e = omega arith
not-zero Uncertain e = omega arith
not-zero TooMany e = omega arith
not-zero Disorder e = omega arith
not-zero BadField e = omega arith
not-zero ClockSize e = omega arith
not-zero ShortOutput e = omega arith
not-zero TornInput e = omega arith
not-zero TornFile e = omega arith
not-zero NoSuchPlace e = omega arith
not-zero MalformedRecord e = omega arith
not-zero BeyondTheWire e = omega arith
not-zero UnequalMirror e = omega arith
not-zero WrongSize e = omega arith
not-zero BadQuery e = omega arith
not-zero BeyondTheItems e = omega arith
not-zero OverSix e = omega arith

-- a refusal that `?` passes on keeps its number
pub passed-on : {A : Type 0} (r : Result A Refusal) (why : Refusal) → IsErrAnd r (λ e. e ≡ why) → answer_of r ≡ number_of why
passed-on (Ok x) why h = absurd h
passed-on (Err e) why h = ap number_of h

-- and leaves what was found
pub passed-over : {A : Type 0} (r : Result A Refusal) (found : A) → IsErr r → result_unwrap_or r found ≡ found
passed-over (Err e) found h = refl
passed-over (Ok x) found h = absurd (false≢true h)

pub is-answered : {A : Type 0} (r : Result A Refusal) → answer_of r ≡ 0 → IsOk r
is-answered (Ok x) e = refl
is-answered (Err why) e = absurd (not-zero why e)
