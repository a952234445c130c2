-- A stream of problems, one after the other, as docs/GUIDE.md ('Many problems at once') has it. A problem is 16 bytes,
-- the lengths of its receptions, clock covariance, altitude and reference, u32 each, little-endian, where 0xFFFFFFFF
-- marks an input that is absent; then the bytes of the inputs that are there, in this order. Definitions only.
use Rattle.std.specs.Prelude.{ℕ, ◌+◌, ◌-◌, ◌%◌, min, true, false, cond, List, [], eqb, leb, ltb, length, take, drop}
use Rattle.std.specs.Prelude as std
use Rattle.std.proofs.Math.Option.{Option, none, some, get_or}
use Rattle.refusals.specs.Refusals.{short_output, torn_file}
use Rattle.words.specs.Words.{u32_at}
use Rattle.receptions.specs.Receptions.{reception_bytes}
use Rattle.inputs.specs.Inputs.{Inputs}
use Rattle.record.specs.Record.{record_bytes}
use Rattle.entry.specs.Cut.{filed, one_too_many, taken}
use Rattle.entry.specs.Reply.{answer, output}
use Rattle.stream.specs.declared.Head.{Head}
use Rattle.stream.specs.declared.Solved.{Solved}

-- ---- the 16 bytes

abbrev pub absent : ℕ
absent = 4_294_967_295

abbrev pub head_of : List ℕ → Head
head_of s = record { receptions = u32_at s 0; clock = u32_at s 4; altitude = u32_at s 8; reference = u32_at s 12 }

-- how many bytes an input has, by its length or mark
abbrev pub size_of : ℕ → ℕ
size_of mark = cond (eqb mark absent) 0 mark

-- ---- the bytes after them: where the second input begins, the third and the fourth, and where the last ends

abbrev pub clock_from : Head → ℕ
clock_from h = size_of h.receptions

abbrev pub altitude_from : Head → ℕ
altitude_from h = clock_from h + size_of h.clock

abbrev pub reference_from : Head → ℕ
reference_from h = altitude_from h + size_of h.altitude

abbrev pub body_bytes : Head → ℕ
body_bytes h = reference_from h + size_of h.reference

-- the input with this length or mark, where it begins at a byte
abbrev pub input : ℕ → ℕ → List ℕ → Option (List ℕ)
input mark from body = cond (eqb mark absent) none (some (take mark (drop from body)))

-- ---- a problem of the stream

pub record Parts : Type 0 where
  pub receptions : Option (List ℕ)
  pub clock : Option (List ℕ)
  pub altitude : Option (List ℕ)
  pub reference : Option (List ℕ)

abbrev pub parts_of : Head → List ℕ → Parts
parts_of h body = record {
  receptions = input h.receptions 0 body;
  clock = input h.clock (clock_from h) body;
  altitude = input h.altitude (altitude_from h) body;
  reference = input h.reference (reference_from h) body;
}

-- what the solve is asked: absent receptions are empty ones
abbrev pub asked : Parts → Inputs
asked p = filed (get_or p.receptions []) p.clock p.altitude p.reference

-- ---- its solve

-- nothing, where the stream ends within the problem
abbrev pub torn : std.Option Solved
torn = std.None

-- the answer of the solve, and how many bytes of the stream the problem takes
abbrev pub whole : ℕ → Parts → List ℕ → std.Option Solved
whole used p out = std.Some (record { used = used; number = answer (asked p) out })

-- what becomes of a problem whose bytes after the lengths are at the start of `body`: nothing where they end before it
-- does
abbrev pub solved : Head → List ℕ → List ℕ → std.Option Solved
solved h body out = cond (leb (body_bytes h) (length body)) (whole (16 + body_bytes h) (parts_of h body) out) torn

abbrev pub output_after : Head → List ℕ → List ℕ → List ℕ
output_after h body out = cond (leb (body_bytes h) (length body)) (output (asked (parts_of h body)) out) out

-- the same of a stream: nothing where it ends before its first problem does
abbrev pub solved_next : List ℕ → List ℕ → std.Option Solved
solved_next s out = cond (leb 16 (length s)) (solved (head_of s) (drop 16 s) out) torn

abbrev pub output_next : List ℕ → List ℕ → List ℕ
output_next s out = cond (leb 16 (length s)) (output_after (head_of s) (drop 16 s) out) out

-- ---- what the caller gets who lends `out`, and a number for the bytes that the problem takes

abbrev pub number_in : std.Option Solved → ℕ
number_in std.None = torn_file
number_in (std.Some first) = first.number

abbrev pub used_in : std.Option Solved → ℕ → ℕ
used_in std.None found = found
used_in (std.Some first) found = first.used

-- 14 where under 176 bytes are lent, tested first; 16, a torn file, where the stream ends within its first problem;
-- otherwise the solve's answer
abbrev pub next_answer : List ℕ → List ℕ → ℕ
next_answer s out =
    cond (ltb (length out) record_bytes) short_output (number_in (solved_next s out))

-- for 14 and 16 output and number stay as found
abbrev pub next_output : List ℕ → List ℕ → List ℕ
next_output s out = cond (ltb (length out) record_bytes) out (output_next s out)

abbrev pub used_after : List ℕ → List ℕ → ℕ → ℕ
used_after s out found =
    cond (ltb (length out) record_bytes) found (used_in (solved_next s out) found)

-- ---- inputs that are too long: the length of what is kept of each

abbrev pub kept_receptions : ℕ → ℕ
kept_receptions mark =
    cond (eqb mark absent) mark (taken (min mark one_too_many) (eqb ((mark - one_too_many) % reception_bytes) 0))

abbrev pub kept_to : ℕ → ℕ → ℕ
kept_to most mark = cond (eqb mark absent) mark (min mark most)

-- one byte more than the longest that is taken
abbrev pub kept : Head → Head
kept h = record {
  receptions = kept_receptions h.receptions;
  clock = kept_to 8_193 h.clock;
  altitude = kept_to 17 h.altitude;
  reference = kept_to 9 h.reference;
}
