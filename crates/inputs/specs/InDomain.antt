-- What holds of every problem that was read: it is the problem of its inputs, in document 01's domain and document 02's
-- order. Statements only.
use Rattle.std.specs.Prelude.{◌≡◌, ◌↔◌, Bool, true, ℕ, ◌*◌, ◌<◌, ◌≤◌, pos, get_or}
use Rattle.dense.specs.Entries.{nth, at}
use Rattle.sets.specs.Sets.{most_receptions}
use Rattle.problem.specs.declared.Altitude.{Altitude}
use Rattle.problem.specs.declared.Altitude.TheVariants.{None, Barometric, Gnss}
use Rattle.problem.specs.declared.Problem.{Problem}
use Rattle.receptions.specs.declared.Reception.{Reception}
use Rattle.receptions.specs.Identities.{before}
use Rattle.inputs.specs.Domain.{good_time, good_coordinate, good_z, good_noise, good_entry, good_metres}
use Rattle.inputs.specs.Faults.{passed}
use Rattle.inputs.specs.Inputs.{Inputs, check_inputs, problem_of}

abbrev pub altitude_good : Altitude → Bool
altitude_good None = true
altitude_good (Barometric metres) = good_metres metres
altitude_good (Gnss metres) = good_metres metres

pub record InDomain (p : Problem) : Type 0 where
  pub most : p.n ≤ most_receptions
  pub times : (i : ℕ) → i < p.n → good_time (get_or p.time i (pos 0)) ≡ true
  pub sites : (k : ℕ) → k < 3 * p.n → good_coordinate (get_or p.site_mm k (pos 0)) ≡ true
  pub zs : (i : ℕ) → i < p.n → good_z (nth p.z i) ≡ true
  pub noises : (i : ℕ) → i < p.n → good_noise (nth p.noise_m2 i) ≡ true
  pub clock : (i j : ℕ) → i ≤ j → j < p.n → good_entry i j (at p.clock_m2 p.n i j) ≡ true
  -- as given: with its correction the altitude may be beyond the domain of metres
  pub altitude : altitude_good p.shown ≡ true

-- "identities strictly ascending": of any two of the first n receptions the earlier comes before the later
abbrev pub Ascending : (ℕ → Reception) → ℕ → Type 0
Ascending at n = (i j : ℕ) → i < j → j < n → before (at i).id (at j).id ≡ true

-- P is what was read of the inputs I
pub record Read (I : Inputs) (P : Problem) : Type 0 where
  pub problem : P ≡ problem_of I
  pub in_domain : InDomain P
  pub ascending : Ascending I.at I.n

-- "Ties everywhere follow the new order": of inputs that nothing turns away, the one of two receptions with the lower
-- place is the one with the lower identity, so "lowest index on ties" is lowest identity on ties
abbrev pub TiesFollowOrder : Type 0
TiesFollowOrder =
    (I : Inputs) → check_inputs I ≡ passed
    → (i j : ℕ) → i < I.n → j < I.n → (i < j) ↔ (before (I.at i).id (I.at j).id ≡ true)
