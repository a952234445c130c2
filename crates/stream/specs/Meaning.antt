-- What reading a stream comes to, in words that know nothing of how it is read. Statements only: proofs/Meaning.antt,
-- proofs/Next.antt and proofs/Long.antt prove them.
use Rattle.std.specs.Prelude.{ℕ, zero, suc, ◌+◌, ◌/◌, ◌%◌, ◌<◌, ◌≤◌, ◌≡◌, ◌↔◌, Bool, true, false, List, [], ◌∷◌, ◌++◌, length, take, drop}
use Rattle.std.proofs.Math.Option.{Option, none, some, map, get_or}
use Rattle.inputs.specs.Inputs.{Inputs}
use Rattle.entry.specs.Cut.{present_bits, cut_of}
use Rattle.entry.specs.Reply.{lent, reply, answer, output}
use Rattle.stream.specs.declared.Head.{Head}
use Rattle.stream.specs.Frames.{absent, head_of, body_bytes, Parts, parts_of, asked}
use Rattle.stream.specs.Frames.{torn, whole, solved_next, output_next, next_answer, next_output, used_after, kept}

-- ---- how a problem is written

-- its length, or the mark of an absent input
abbrev pub mark_of : Option (List ℕ) → ℕ
mark_of none = absent
mark_of (some bytes) = length bytes

abbrev pub bytes_of : Option (List ℕ) → List ℕ
bytes_of x = get_or x []

-- n in w bytes, the lowest first
abbrev pub word : ℕ → ℕ → List ℕ
word zero n = []
word (suc w) n = n % 256 ∷ word w (n / 256)

abbrev pub marks_of : Parts → Head
marks_of p = record {
  receptions = mark_of p.receptions;
  clock = mark_of p.clock;
  altitude = mark_of p.altitude;
  reference = mark_of p.reference;
}

abbrev pub lengths_of : Head → List ℕ
lengths_of h = word 4 h.receptions ++ word 4 h.clock ++ word 4 h.altitude ++ word 4 h.reference

abbrev pub body_of : Parts → List ℕ
body_of p = bytes_of p.receptions ++ bytes_of p.clock ++ bytes_of p.altitude ++ bytes_of p.reference

abbrev pub written : Parts → List ℕ
written p = lengths_of (marks_of p) ++ body_of p

-- every length is below the mark
abbrev pub Short : Option (List ℕ) → Type 0
Short x = length (bytes_of x) < absent

pub record Writable (p : Parts) : Type 0 where
  pub receptions : Short p.receptions
  pub clock : Short p.clock
  pub altitude : Short p.altitude
  pub reference : Short p.reference

-- ---- reading it gives it back

-- what stands first in a stream, and what follows it
abbrev pub first_of : List ℕ → Parts
first_of s = parts_of (head_of s) (drop 16 s)

abbrev pub takes : List ℕ → ℕ
takes s = 16 + body_bytes (head_of s)

pub record ReadBack : Type 0 where
  -- the problem itself, whatever follows it, and just its bytes are taken
  pub first : (p : Parts) (more : List ℕ) → Writable p → first_of (written p ++ more) ≡ p
  pub bytes : (p : Parts) (more : List ℕ) → Writable p → takes (written p ++ more) ≡ length (written p)
  -- so it is solved
  pub answers :
      (p : Parts) (more out : List ℕ) → Writable p → solved_next (written p ++ more) out
      ≡ whole (length (written p)) p out
  pub outputs : (p : Parts) (more out : List ℕ) → Writable p → output_next (written p ++ more) out ≡ output (asked p) out
  -- and of a stream that ends within it nothing is
  pub ends :
      (p : Parts) (front more out : List ℕ) → Writable p → written p ≡ front ++ more → 0 < length more
      → (solved_next front out ≡ torn) × (output_next front out ≡ out)

-- ---- what a caller of `mlat_solve_next` gets

abbrev pub is_there : Option (List ℕ) → Bool
is_there none = false
is_there (some bytes) = true

-- what `mlat_solve` is asked by a caller who has the problem itself: its inputs, and the bits of those that are there
abbrev pub lent_by : Parts → Inputs
lent_by p =
    lent (bytes_of p.receptions) (bytes_of p.clock) (bytes_of p.altitude) (bytes_of p.reference)
    (present_bits (is_there p.clock) (is_there p.altitude) (is_there p.reference))

pub record NextSolved : Type 0 where
  -- to a problem, whatever follows it, the answer of `mlat_solve`
  pub answers :
      (p : Parts) (more out : List ℕ) → Writable p → next_answer (written p ++ more) out ≡ answer (lent_by p) out
  -- its output
  pub outputs :
      (p : Parts) (more out : List ℕ) → Writable p → next_output (written p ++ more) out ≡ output (lent_by p) out
  -- and how many bytes the problem has
  pub used :
      (p : Parts) (more out : List ℕ) (found : ℕ) → Writable p → 176 ≤ length out
      → used_after (written p ++ more) out found ≡ length (written p)
  -- 16 exactly where the stream ends before its first problem does
  pub ends_within : (s out : List ℕ) → 176 ≤ length out → (next_answer s out ≡ 16) ↔ (length s < takes s)
  -- as every start of a problem does
  pub ends :
      (p : Parts) (front more out : List ℕ) → Writable p → written p ≡ front ++ more → 0 < length more
      → 176 ≤ length out → next_answer front out ≡ 16
  -- and then all stays as found
  pub stays :
      (s out : List ℕ) (found : ℕ) → next_answer s out ≡ 16
      → (next_output s out ≡ out) × (used_after s out found ≡ found)

-- ---- problems one after another

abbrev pub AllWritable : List Parts → Type 0
AllWritable [] = Unit {0}
AllWritable (p ∷ ps) = Writable p × AllWritable ps

abbrev pub written_all : List Parts → List ℕ
written_all [] = []
written_all (p ∷ ps) = written p ++ written_all ps

-- the first k problems of a stream
abbrev pub read_all : ℕ → List ℕ → List Parts
read_all zero s = []
read_all (suc k) s = first_of s ∷ read_all k (drop (takes s) s)

abbrev pub OneAfterAnother : Type 0
OneAfterAnother = (ps : List Parts) → AllWritable ps → read_all (length ps) (written_all ps) ≡ ps

-- ---- inputs that are too long

-- what is kept of them
abbrev pub cut : Parts → Parts
cut p = record {
  receptions = map cut_of p.receptions;
  clock = map (take 8_193) p.clock;
  altitude = map (take 17) p.altitude;
  reference = map (take 9) p.reference;
}

pub record LongAlike : Type 0 where
  -- has the lengths that are told by the lengths of all
  pub lengths : (p : Parts) → Writable p → marks_of (cut p) ≡ kept (marks_of p)
  -- and gets the same reply
  pub replies : (p : Parts) → reply (asked (cut p)) ≡ reply (asked p)
