-- The reply to receptions as bytes is the reply to the list of these receptions. Document 01: "a thin entry takes the
-- caller's own list of reception records", in place of receptions.bin. Definitions and a statement only:
-- proofs/Listed.antt proves it.
use Rattle.std.specs.Prelude.{ℕ, ◌*◌, ◌%◌, ◌<◌, ◌≡◌, List, length}
use Rattle.receptions.specs.declared.Reception.{Reception}
use Rattle.receptions.specs.Receptions.{reception_bytes, reception_at, listed_at}
use Rattle.entry.specs.Reply.{lent, listed}
use Rattle.entry.specs.Unmoved.{SameReply}

-- the bytes hold these receptions: 132 bytes each, one after the other, and nothing more
pub record Hold (bytes : List ℕ) (receptions : List Reception) : Type 0 where
  pub sized : length bytes ≡ reception_bytes * length receptions
  pub each : (i : ℕ) → i < length receptions → reception_at bytes i ≡ listed_at receptions i

pub record ListRepliesAlike : Type 0 where
  -- a list of receptions and the bytes that hold them get one answer and one output, every byte of it
  pub same :
      (bytes : List ℕ) (receptions : List Reception) (clock altitude reference : List ℕ) (present : ℕ)
      → Hold bytes receptions
      → SameReply (lent bytes clock altitude reference present) (listed receptions clock altitude reference present)
  -- bytes that are not torn hold a list of receptions
  pub read :
      (bytes : List ℕ) → length bytes % reception_bytes ≡ 0
      → (receptions : List Reception) × Hold bytes receptions
