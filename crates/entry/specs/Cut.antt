-- What the program `solve` may leave unread: a file that is too long gets the reply of what it is cut to. A statement
-- only: proofs/Cut.antt proves it.
use Rattle.std.specs.Prelude.{ℕ, ◌+◌, ◌*◌, ◌-◌, ◌/◌, ◌%◌, ◌<◌, min, ◌≡◌, Bool, cond, List, eqb, ltb, length, take}
use Rattle.std.proofs.Math.Option.{Option, some}
use Rattle.receptions.specs.Receptions.{reception_bytes, reception_at}
use Rattle.inputs.specs.Inputs.{Inputs}
use Rattle.entry.specs.Reply.{given, reply}

-- the bytes of receptions.bin, clock.bin, altitude.bin and reference.bin, as `lent` has them
abbrev pub filed : List ℕ → Option (List ℕ) → Option (List ℕ) → Option (List ℕ) → Inputs
filed rs clock altitude reference = record {
  whole = eqb (length rs % reception_bytes) 0;
  n = length rs / reception_bytes;
  at = reception_at rs;
  clock = clock;
  altitude = altitude;
  reference = reference;
}

-- the bytes of 33 receptions, which are 4,356
abbrev pub one_too_many : ℕ
one_too_many = 33 * reception_bytes

-- How many of the n bytes that were read, of room for so many, stand for the file: all of them, but one fewer where
-- they fill the room and what follows is no whole number of receptions.
abbrev pub taken : ℕ → Bool → ℕ
taken n whole = cond (ltb n one_too_many) n (cond whole n (n - 1))

-- what is taken of a receptions.bin
abbrev pub cut_of : List ℕ → List ℕ
cut_of rs = take (taken (min (length rs) one_too_many) (eqb ((length rs - one_too_many) % reception_bytes) 0)) rs

-- the bits of the inputs that are there
abbrev pub present_bits : Bool → Bool → Bool → ℕ
present_bits clock altitude reference = cond clock 1 0 + cond altitude 2 0 + cond reference 4 0

pub record CutRepliesAlike : Type 0 where
  -- the bits are those that the solve reads
  pub bits :
      (clock altitude reference : Bool)
      → given (present_bits clock altitude reference)
      ≡ record { clock = clock; altitude = altitude; reference = reference }
  -- what is taken stands for every receptions.bin, torn, whole or too long
  pub receptions :
      (rs : List ℕ) (clock altitude reference : Option (List ℕ))
      → reply (filed rs clock altitude reference) ≡ reply (filed (cut_of rs) clock altitude reference)
  -- one byte too many for every longer clock.bin, altitude.bin and reference.bin
  pub clock :
      (rs c cut : List ℕ) (altitude reference : Option (List ℕ)) → 8_192 < length c → 8_192 < length cut
      → reply (filed rs (some c) altitude reference) ≡ reply (filed rs (some cut) altitude reference)
  pub altitude :
      (rs a cut : List ℕ) (clock reference : Option (List ℕ)) → 16 < length a → 16 < length cut
      → reply (filed rs clock (some a) reference) ≡ reply (filed rs clock (some cut) reference)
  pub reference :
      (rs r cut : List ℕ) (clock altitude : Option (List ℕ)) → 8 < length r → 8 < length cut
      → reply (filed rs clock altitude (some r)) ≡ reply (filed rs clock altitude (some cut))
