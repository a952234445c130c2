-- A file that is searched block by block: what is held after some blocks is the nearest of the bytes so far, and what
-- is printed of a block is what is printed of its places in the file. Definitions only.
use Rattle.std.specs.Prelude.{◌≡◌, ℕ, ◌+◌, ◌^◌, ◌<◌, cond, ◌&&◌, List, [], ◌++◌, length, ◌==◌, Float}
use Rattle.reader.specs.Read.{place_refusal}
use Rattle.near.specs.declared.Held.{Held}
use Rattle.near.specs.Near.{records, distance_at, within}
use Rattle.near.specs.Meaning.{Whole, Sound, GoodPoint}
use Rattle.near.specs.Parts.{nearest_in}
use Rattle.find_fixes.specs.declared.Best.{Best}
use Rattle.find_fixes.specs.Lines.{fix_line}

-- ---- the nearest

-- the fix that is held
abbrev pub held_in : Best → Held
held_in b = record { found = b.found; place = b.place; distance = b.distance }

-- the bytes `file` are whole records, `base` of them, and what is held is the nearest of them
pub record Searched (file : List ℕ) (point : List Float) (base : ℕ) (best : Best) : Type 0 where
  pub whole : Whole file
  pub before : records file ≡ base
  pub held : held_in best ≡ nearest_in file point

-- With a block more, `next` holds the nearest of all bytes so far, whatever they were, where the file's records are
-- sound and it is shorter than 2^64 bytes.
abbrev pub GoesOn : List ℕ → List Float → ℕ → Best → Best → Type 0
GoesOn block point base best next =
    (file : List ℕ) → Searched file point base best → Sound (file ++ block) → GoodPoint point
    → length (file ++ block) < 2 ^ 64 → held_in next ≡ nearest_in (file ++ block) point

-- ---- those within the radius

-- what is printed of place k of a file: the line of the fix there, by the place `name`, if the file has a record there
-- and that is a fix within the radius; else nothing
unfoldable pub line_at : List ℕ → List Float → Float → ℕ → ℕ → List ℕ
line_at file point radius k name =
    cond (place_refusal (length file) k == 0 && within file point radius k) (fix_line name (distance_at file point k))
    []

-- The line is that of place base + k of all bytes so far, whatever the `base` whole records before the block were.
abbrev pub LineInFile : List ℕ → List Float → Float → ℕ → ℕ → List ℕ → Type 0
LineInFile block point radius base k line =
    (file : List ℕ) → Whole file → records file ≡ base → base + k < 2 ^ 64
    → line ≡ line_at (file ++ block) point radius (base + k) (base + k)
