-- Where a disorder or a bad field can be: what document 01's column 'Detail' says of both. Assumes nothing.
use Rattle.std.proofs.Common.{Ok, Err}
use Prim.Native.Nat.{ℕ, zero, suc, ◌+◌, ◌-◌, ◌*◌, ◌≤◌, ◌<◌}
use mathlib.Core.Path.{◌≡◌, refl, subst}
use mathlib.Core.Bool.{Bool, true, false}
use mathlib.Core.Logic.{◌⊎◌, inl, inr}
use mathlib.Core.List.{List}
use mathlib.Core.Option.{Option, none, some}
use native.Mathlib.Omega.{arith}
use borrow.Author.Tests.{leb-true}
use lib.Dec.{T, eqb, leb}
use lib.ListN.{length}
use Rattle.receptions.specs.declared.Reception.{Reception}
use Rattle.inputs.specs.declared.Fault.{Fault}
use Rattle.inputs.specs.declared.Fault.TheVariants.{TornInput, TooMany, Disorder, BadField, ClockSize, Uncovered}
use Rattle.inputs.specs.Domain.{good_reception, good_altitude}
use Rattle.inputs.specs.Faults.{Check, or_else, unless, first_to}
use Rattle.receptions.specs.Identities.{ascends}
use Rattle.inputs.specs.Inputs.{Inputs, untorn, check_reception, good_row_to, check_row, check_clock, check_altitude}
use Rattle.inputs.specs.Inputs.{kind_at, correction_at, metres_at, check_covered, check_inputs}

-- of a disorder "index", which is that of the later one; of a bad field "index; 100 + row for clock; 200 for altitude"
abbrev pub Located : Fault → Type 0
Located TornInput = T true
Located TooMany = T true
Located (Disorder i) = (1 ≤ i) × (i ≤ 31)
Located (BadField place) = (place ≤ 31) ⊎ (((100 ≤ place) × (place ≤ 131)) ⊎ (place ≡ 200))
Located ClockSize = T true
Located Uncovered = T true

abbrev Locates : Check → Type 0
Locates (Ok done) = T true
Locates (Err fault) = Located fault

or-locates : (x y : Check) → Locates x → Locates y → Locates (or_else x y)
or-locates (Ok done) y p q = q
or-locates (Err fault) y p q = p

unless-locates : (good : Bool) (fault : Fault) → Located fault → Locates (unless good fault)
unless-locates true fault l = tt
unless-locates false fault l = l

first-locates : (check : ℕ → Check) (k : ℕ) → ((i : ℕ) → i < k → Locates (check i)) → Locates (first_to check k)
unfolding first_to
first-locates check zero f = tt
first-locates check (suc k) f = or-locates (first_to check k) (check k) (first-locates check k (λ i h. f i (omega arith))) (f k (omega arith))

-- the first reception is later than none
reception-locates : (at : ℕ → Reception) (i : ℕ) → i < 32 → Locates (check_reception at i)
unfolding check_reception ascends
reception-locates at i h =
    or-locates (unless (good_reception (at i)) (BadField i)) (unless (ascends (λ k. (at k).id) i) (Disorder i))
    (unless-locates (good_reception (at i)) (BadField i) (inl (omega arith))) (later i h)
  where
    later : (j : ℕ) → j < 32 → Locates (unless (ascends (λ k. (at k).id) j) (Disorder j))
    later zero l = tt
    later (suc j) l = unless-locates (ascends (λ k. (at k).id) (suc j)) (Disorder (suc j)) (omega arith, omega arith)

row-locates : (clock : List ℕ) (n i : ℕ) → i < 32 → Locates (check_row clock n i)
row-locates clock n i h = unless-locates (good_row_to clock n i (n - i)) (BadField (100 + i)) (inr (inl (omega arith, omega arith)))

clock-locates : (clock : Option (List ℕ)) (n : ℕ) → n ≤ 32 → Locates (check_clock clock n)
clock-locates none n h = tt
clock-locates (some clock) n h =
    let sized = eqb (length clock) (8 * (n * n)) in
    or-locates (unless sized ClockSize) (first_to (check_row clock n) n) (unless-locates sized ClockSize tt)
    (first-locates (check_row clock n) n (λ i l. row-locates clock n i (omega arith)))

altitude-locates : (altitude : Option (List ℕ)) → Locates (check_altitude altitude)
altitude-locates none = tt
altitude-locates (some altitude) =
    unless-locates (good_altitude (kind_at altitude) (correction_at altitude) (metres_at altitude)) (BadField 200) (inr (inr refl))

covered-locates : (clock : Option (List ℕ)) → Locates (check_covered clock)
covered-locates none = tt
covered-locates (some clock) = tt

module _ (I : Inputs) where
  -- what comes after 15 and 10
  abbrev later : Check
  later =
      or_else (first_to (check_reception I.at) I.n)
      (or_else (check_clock I.clock I.n) (or_else (check_altitude I.altitude) (check_covered I.clock)))

  few-locate : (b : Bool) → leb I.n 32 ≡ b → Locates (or_else (unless b TooMany) later)
  few-locate false e = tt
  few-locate true e =
      let h : I.n ≤ 32 = leb-true I.n 32 e in
      or-locates (first_to (check_reception I.at) I.n) _
      (first-locates (check_reception I.at) I.n (λ i l. reception-locates I.at i (omega arith)))
      (or-locates (check_clock I.clock I.n) _ (clock-locates I.clock I.n h)
      (or-locates (check_altitude I.altitude) _ (altitude-locates I.altitude) (covered-locates I.clock)))

  inputs-locate : Locates (check_inputs I)
  unfolding check_inputs
  inputs-locate = or-locates (unless (untorn I) TornInput) _ (unless-locates (untorn I) TornInput tt) (few-locate (leb I.n 32) refl)

pub located : (I : Inputs) (fault : Fault) → check_inputs I ≡ Err fault → Located fault
located I fault e = subst Locates e (inputs-locate I)
