-- The receptions of a solve: those of receptions.bin, those of a caller's list, and as arrays by field. Document 01,
-- 'The fix: 176 bytes' and 'Forms for parts of the code'; document 02, item 6. Definitions only.
use Rattle.std.specs.Prelude.{List, [], ◌∷◌, ℕ, zero, suc, ◌+◌, ◌*◌, ◌/◌, ◌%◌, ℤ, pos, get_or, set, replicate, take, drop, Float}
use Rattle.std.specs.Float.{nan}
use Rattle.binary64.specs.Steps.{nought}
use Rattle.sets.specs.Mask.{mask_of}
use Rattle.sets.specs.Sets.{most_receptions}
use Rattle.words.specs.Words.{u32_at, u64_at, i64_at, f64_at}
use Rattle.receptions.specs.declared.ObservationId.{ObservationId}
use Rattle.receptions.specs.declared.Reception.{Reception}
use Rattle.receptions.specs.declared.Fields.{Fields}
use Rattle.receptions.specs.Identities.{ascends}

-- "in place of the u64, which makes 132 bytes"
abbrev pub reception_bytes : ℕ
reception_bytes = 132

-- the 32 bytes from byte k on
unfoldable pub part_at : List ℕ → ℕ → List ℕ
part_at bytes k = take 32 (drop k bytes)

-- "the whole `ObservationId`: receiver 32 bytes, epoch u32, timestamp u64, message 32 bytes"
unfoldable pub id_at : List ℕ → ℕ → ObservationId
id_at bytes at =
    record {
      receiver = part_at bytes at;
      epoch = u32_at bytes (at + 32);
      timestamp = u64_at bytes (at + 36);
      message = part_at bytes (at + 44);
    }

-- the identity, then "time i64 ps, site three i64 mm, z f64 (metres of light), noise f64 (m²), eight zero bytes":
-- reception i
unfoldable pub reception_at : List ℕ → ℕ → Reception
reception_at bytes i =
    let at = reception_bytes * i in
    record {
      id = id_at bytes at;
      time = i64_at bytes (at + 76);
      site_mm = i64_at bytes (at + 84) ∷ i64_at bytes (at + 92) ∷ i64_at bytes (at + 100) ∷ [];
      z = f64_at bytes (at + 108);
      noise_m2 = f64_at bytes (at + 116);
      filler = u64_at bytes (at + 124);
    }

-- arrays of zeros
abbrev pub wholes : ℕ → List ℤ
wholes size = replicate size (pos 0)

abbrev pub floats : ℕ → List Float
floats size = replicate size nought

-- what stands behind a list, and is never read
abbrev pub no_id : ObservationId
no_id = record { receiver = []; epoch = 0; timestamp = 0; message = [] }

abbrev pub no_reception : Reception
no_reception = record { id = no_id; time = pos 0; site_mm = []; z = nan; noise_m2 = nan; filler = 0 }

-- "a thin entry takes the caller's own list of reception records": reception i
abbrev pub listed_at : List Reception → ℕ → Reception
listed_at receptions i = get_or receptions i no_reception

-- the array a with f 0 to f (k - 1) at its start
unfoldable pub fill_to : {A : Type 0} → List A → (ℕ → A) → ℕ → List A
fill_to a f zero = a
fill_to a f (suc k) = set (fill_to a f k) k (f k)

-- "unpacked into arrays by field": the first n receptions, three coordinates a site, and zeros past them. Of the
-- identities a bit each is kept: bit i is set where reception i's is above the one before
unfoldable pub fields_of : (ℕ → Reception) → ℕ → Fields
unfolding fill_to mask_of
fields_of at n =
    record {
      ascending = mask_of (ascends (λ i. (at i).id)) n;
      time = fill_to (wholes most_receptions) (λ i. (at i).time) n;
      site_mm = fill_to (wholes 96) (λ k. get_or (at (k / 3)).site_mm (k % 3) (pos 0)) (3 * n);
      z = fill_to (floats most_receptions) (λ i. (at i).z) n;
      noise_m2 = fill_to (floats most_receptions) (λ i. (at i).noise_m2) n;
      filler = fill_to (replicate most_receptions 0) (λ i. (at i).filler) n;
    }
