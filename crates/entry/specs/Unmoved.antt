-- Document 02, item 10, of what a caller lends: "take two valid problems alike except in z, noise and clock entries of
-- receptions that the screen removes: every byte of their records is equal." Statements only: proofs/Unmoved.antt
-- proves them.
use Rattle.std.specs.Prelude.{ℕ, ◌≤◌, ◌<◌, ◌≡◌, List, [], T, Float}
use Rattle.std.proofs.Math.Option.{get_or}
use Rattle.sets.specs.Sets.{Subset}
use Rattle.receptions.specs.declared.Reception.{Reception}
use Rattle.inputs.specs.Faults.{passed}
use Rattle.inputs.specs.Inputs.{Inputs, entry_at, check_inputs, problem_of}
use Rattle.rounds.specs.Unmoved as rounds
use Rattle.entry.specs.Reply.{lent, listed, reply, answer, output}

-- the receptions that the screen keeps
abbrev pub kept_of : Inputs → Subset
kept_of I = rounds.kept_of (problem_of I)

-- the entry of clock.bin in row i and column j
abbrev pub clock_at : Inputs → ℕ → ℕ → Float
clock_at I i j = entry_at (get_or I.clock []) I.n i j

-- both are valid, and alike but for those values; "Clock entries left of the diagonal may differ too." Identities
-- decide nothing once both ascend, so they may differ as well.
pub record AlikeInKept (I J : Inputs) : Type 0 where
  pub valid : check_inputs I ≡ passed
  pub valid_too : check_inputs J ≡ passed
  pub n : I.n ≡ J.n
  pub time : (i : ℕ) → i < I.n → (I.at i).time ≡ (J.at i).time
  pub site_mm : (i : ℕ) → i < I.n → (I.at i).site_mm ≡ (J.at i).site_mm
  pub altitude : I.altitude ≡ J.altitude
  pub reference : I.reference ≡ J.reference
  pub z : (i : ℕ) → T (kept_of I i) → (I.at i).z ≡ (J.at i).z
  pub noise : (i : ℕ) → T (kept_of I i) → (I.at i).noise_m2 ≡ (J.at i).noise_m2
  pub clock : (i j : ℕ) → i ≤ j → T (kept_of I i) → T (kept_of I j) → clock_at I i j ≡ clock_at J i j

-- the answer number and all 176 bytes are equal, and so is what a caller gets who lends `out`, however long it is
pub record SameReply (I J : Inputs) : Type 0 where
  pub replies : reply I ≡ reply J
  pub answers : (out : List ℕ) → answer I out ≡ answer J out
  pub outputs : (out : List ℕ) → output I out ≡ output J out

pub record RemovedUnread : Type 0 where
  -- of the bytes that `mlat_solve` is lent
  pub bytes :
      (rs rs' clock clock' altitude altitude' reference reference' : List ℕ) (present present' : ℕ)
      → AlikeInKept (lent rs clock altitude reference present) (lent rs' clock' altitude' reference' present')
      → SameReply (lent rs clock altitude reference present) (lent rs' clock' altitude' reference' present')
  -- of the list of structs that `mlat_solve_receptions` is lent
  pub list :
      (rs rs' : List Reception) (clock clock' altitude altitude' reference reference' : List ℕ) (present present' : ℕ)
      → AlikeInKept (listed rs clock altitude reference present) (listed rs' clock' altitude' reference' present')
      → SameReply (listed rs clock altitude reference present) (listed rs' clock' altitude' reference' present')
