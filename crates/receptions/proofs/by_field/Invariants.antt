-- `receptions::by_field` meets its contract: each turn stores the next reception's fields and its bit (`fields-next`). Assumes nothing.
use Rattle.std.proofs.Common.{◌≡◌, ℕ, ◌^◌, ◌<◌, ◌≤◌}
use Rattle.receptions.specs.declared.Reception.{Reception}
use Rattle.receptions.specs.Receptions.{fields_of}
use Rattle.receptions.proofs.Unpacked.{last_of}
use Rattle.receptions.proofs.by_field.Given as goal

abbrev pub invariant-loop-i : goal.invariant-loop-i
invariant-loop-i g l =
    (l.i ≤ l.n)
    × (l.ascending < 2 ^ l.i)
    × ((f : ℕ → Reception)
    → ((i : ℕ) (r : Reception) → i < l.n → goal.F-post g l.at i r → r ≡ f i)
    → (l.last ≡ last_of f l.i)
    × (record {
      ascending = l.ascending;
      time = l.time;
      site_mm = l.site_mm;
      z = l.z;
      noise_m2 = l.noise_m2;
      filler = l.filler;
    } ≡ fields_of f l.i))
