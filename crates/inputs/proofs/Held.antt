-- Arrays by field hold of their receptions what the checks and the problem need: two that fill them alike get the same. Assumes nothing.
use Prim.Native.Nat.{ℕ, zero, suc, ◌*◌, ◌/◌, ◌%◌, ◌<◌, ◌≤◌}
use mathlib.Core.Path.{◌≡◌, refl, ap, sym, ◌∙◌}
use mathlib.Core.Bool.{Bool, ◌&&◌}
use mathlib.Core.List.{List}
use native.Mathlib.Omega.{arith}
use lib.Dec.{eqb}
use lib.IntN.{ℤ, pos}
use lib.ListN.{get_or}
use lib.Ieee.{Float}
use Rattle.dense.specs.Entries.{nth}
use Rattle.geo.specs.Geo.{from_mm}
use Rattle.sets.specs.Mask.{has}
use Rattle.receptions.specs.declared.Reception.{Reception}
use Rattle.receptions.specs.declared.Fields.{Fields}
use Rattle.receptions.specs.Receptions.{fill_to, floats, fields_of}
use Rattle.receptions.specs.Held.{site_in}
use Rattle.receptions.proofs.Filling.{fill-same}
use Rattle.receptions.proofs.Unpacked.{ascending-held, time-held, z-held, noise-held, filler-held, site-held}
use Rattle.inputs.specs.declared.Given.{Given}
use Rattle.inputs.specs.declared.Fault.TheVariants.{Disorder, BadField}
use Rattle.inputs.specs.Faults.{Check, or_else, unless, first_to}
use Rattle.inputs.specs.Domain.{good_time, good_site, good_z, good_noise, good_reception}
use Rattle.inputs.specs.Inputs.{inputs_of, check_reception, untorn, check_inputs, metres_of}

-- the checks, out of the arrays
abbrev good_by : ℤ → List ℤ → Float → Float → ℕ → Bool
good_by time site z noise filler = good_time time && (good_site site && ((good_z z && good_noise noise) && eqb filler 0))

abbrev pub good_in : Fields → ℕ → Bool
good_in f i = good_by (get_or f.time i (pos 0)) (site_in f.site_mm i) (nth f.z i) (nth f.noise_m2 i) (get_or f.filler i 0)

abbrev pub check_in : Fields → ℕ → Check
check_in f i = or_else (unless (good_in f i) (BadField i)) (unless (has f.ascending i) (Disorder i))

-- the metres, out of them
abbrev pub metres_in : List ℤ → ℕ → List Float
metres_in sites n = fill_to (floats 96) (λ k. nth (from_mm (site_in sites (k / 3))) (k % 3)) (3 * n)

-- a site is read by its first three
metres-three : (x : List ℤ) → from_mm (site_in x 0) ≡ from_mm x
unfolding from_mm
metres-three x = refl

first-same : (c d : ℕ → Check) (k : ℕ) → ((i : ℕ) → i < k → c i ≡ d i) → first_to c k ≡ first_to d k
unfolding first_to
first-same c d zero h = refl
first-same c d (suc k) h = rw (first-same c d k (λ i l. h i (omega arith)), h k (omega arith))

module _ (f : Fields) (n : ℕ) (few : n ≤ 32) (at : ℕ → Reception) (e : f ≡ fields_of at n) where
  good-held : (i : ℕ) → i < n → good_in f i ≡ good_reception (at i)
  unfolding good_reception
  good-held i h =
      ap (λ (x : ℤ). good_by x (site_in f.site_mm i) (nth f.z i) (nth f.noise_m2 i) (get_or f.filler i 0)) (time-held at n i few h e)
      ∙ ap (λ (x : List ℤ). good_by (at i).time x (nth f.z i) (nth f.noise_m2 i) (get_or f.filler i 0)) (site-held at n i few h e)
      ∙ ap (λ (x : Float). good_by (at i).time (at i).site_mm x (nth f.noise_m2 i) (get_or f.filler i 0)) (z-held at n i few h e)
      ∙ ap (λ (x : Float). good_by (at i).time (at i).site_mm (at i).z x (get_or f.filler i 0)) (noise-held at n i few h e)
      ∙ ap (λ (x : ℕ). good_by (at i).time (at i).site_mm (at i).z (at i).noise_m2 x) (filler-held at n i few h e)

  check-held : (i : ℕ) → i < n → check_in f i ≡ check_reception at i
  unfolding check_reception
  check-held i h = rw (good-held i h, ascending-held at n i few h e)

  pub first-held : first_to (check_in f) n ≡ first_to (check_reception at) n
  first-held = first-same (check_in f) (check_reception at) n check-held

  pub metres-held : metres_in f.site_mm n ≡ metres_of at n
  metres-held =
      fill-same (floats 96) (λ k. nth (from_mm (site_in f.site_mm (k / 3))) (k % 3)) (λ k. nth (from_mm (at (k / 3)).site_mm) (k % 3)) (3 * n)
      (λ k l. ap (λ (m : List Float). nth m (k % 3)) (ap from_mm (site-held at n (k / 3) few (omega arith) e) ∙ metres-three (at (k / 3)).site_mm))

pub same_check
    : (f : Fields) (n : ℕ) → n ≤ 32 → (p q : ℕ → Reception) → f ≡ fields_of p n → f ≡ fields_of q n
    → (came : Bool) (g : Given) (clock altitude reference : List ℕ)
    → check_inputs (inputs_of came n p g clock altitude reference) ≡ check_inputs (inputs_of came n q g clock altitude reference)
unfolding check_inputs untorn
same_check f n few p q a b came g clock altitude reference = rw (sym (first-held f n few p a) ∙ first-held f n few q b)
