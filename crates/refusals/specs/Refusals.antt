-- Why a call gives nothing: one list for the whole repository, the number and the name of each refusal. Document 01,
-- 'When there is no fix', has 1 to 15, and document 02 16 to 24; 0 is a fix or a call that was answered. Definitions
-- only.
use Rattle.std.specs.Prelude.{ℕ, Result, Ok, Err}
use Rattle.refusals.specs.declared.Refusal.{Refusal}
use Rattle.refusals.specs.declared.Refusal.TheVariants.{TooFew, NoConvergence, OutOfRange, NoFixedPoint, Inconsistent}
use Rattle.refusals.specs.declared.Refusal.TheVariants.{Singular, Uncovered, Ambiguous, Uncertain, TooMany, Disorder}
use Rattle.refusals.specs.declared.Refusal.TheVariants.{BadField, ClockSize, ShortOutput, TornInput, TornFile}
use Rattle.refusals.specs.declared.Refusal.TheVariants.{NoSuchPlace, MalformedRecord, BeyondTheWire, UnequalMirror}
use Rattle.refusals.specs.declared.Refusal.TheVariants.{WrongSize, BadQuery, BeyondTheItems, OverSix}

-- ---- document 01

-- too few: fewer included than 4 (3 with altitude)
abbrev pub too_few : ℕ
too_few = 1

-- no convergence: no start converges
abbrev pub no_convergence : ℕ
no_convergence = 2

-- out of range: some converge, none plausible; or the transmit time leaves i64
abbrev pub out_of_range : ℕ
out_of_range = 3

-- no fixed point: 2s + 2 rounds all made a change
abbrev pub no_fixed_point : ℕ
no_fixed_point = 4

-- inconsistent: chi2 above `published_chi2_limit`
abbrev pub inconsistent : ℕ
inconsistent = 5

-- singular: a Cholesky fails, or a kept reception's normalised residual is not a number
abbrev pub singular : ℕ
singular = 6

-- uncovered: no clock covariance
abbrev pub uncovered : ℕ
uncovered = 7

-- ambiguous: `best_fit`'s rule
abbrev pub ambiguous : ℕ
ambiguous = 8

-- uncertain: a variance above 1,500², or the 3 × 3 Cholesky fails
abbrev pub uncertain : ℕ
uncertain = 9

-- too many: over 32 receptions
abbrev pub too_many : ℕ
too_many = 10

-- disorder: identity not above the one before
abbrev pub disorder : ℕ
disorder = 11

-- bad field: outside the domain, or a non-zero filler
abbrev pub bad_field : ℕ
bad_field = 12

-- clock size: `clock.bin` present, not 8n² bytes
abbrev pub clock_size : ℕ
clock_size = 13

-- short output: less is lent than is written
abbrev pub short_output : ℕ
short_output = 14

-- torn input: an input that is not whole entries
abbrev pub torn_input : ℕ
torn_input = 15

-- ---- document 02

-- torn file: a file that is not whole records, or a record of another length
abbrev pub torn_file : ℕ
torn_file = 16

-- no such place: the file ends before that place
abbrev pub no_such_place : ℕ
no_such_place = 17

-- malformed record: a record that the rules don't allow
abbrev pub malformed_record : ℕ
malformed_record = 18

-- beyond the wire: no fix, or a position outside the wire's limits
abbrev pub beyond_the_wire : ℕ
beyond_the_wire = 19

-- unequal mirror: mirrored covariance entries differ
abbrev pub unequal_mirror : ℕ
unequal_mirror = 20

-- wrong size: size or width over 32, or a length that does not match
abbrev pub wrong_size : ℕ
wrong_size = 21

-- bad query: radius or point not finite or too large, radius negative
abbrev pub bad_query : ℕ
bad_query = 22

-- beyond the items: a place or a height outside ASTERIX's items, or a length other than ten
abbrev pub beyond_the_items : ℕ
beyond_the_items = 23

-- over six: more than six receptions
abbrev pub over_six : ℕ
over_six = 24

-- ---- the number of each

abbrev pub number_of : Refusal → ℕ
number_of TooFew = too_few
number_of NoConvergence = no_convergence
number_of OutOfRange = out_of_range
number_of NoFixedPoint = no_fixed_point
number_of Inconsistent = inconsistent
number_of Singular = singular
number_of Uncovered = uncovered
number_of Ambiguous = ambiguous
number_of Uncertain = uncertain
number_of TooMany = too_many
number_of Disorder = disorder
number_of BadField = bad_field
number_of ClockSize = clock_size
number_of ShortOutput = short_output
number_of TornInput = torn_input
number_of TornFile = torn_file
number_of NoSuchPlace = no_such_place
number_of MalformedRecord = malformed_record
number_of BeyondTheWire = beyond_the_wire
number_of UnequalMirror = unequal_mirror
number_of WrongSize = wrong_size
number_of BadQuery = bad_query
number_of BeyondTheItems = beyond_the_items
number_of OverSix = over_six

-- a call's answer number
abbrev pub answer_of : {A : Type 0} → Result A Refusal → ℕ
answer_of (Ok _) = 0
answer_of (Err why) = number_of why
