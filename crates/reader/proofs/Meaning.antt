-- What reading and writing come to: each statement of specs/Meaning.antt but `TestsAreRules`. Assumes nothing.
use Prim.Native.Nat.{ℕ, ◌+◌, ◌*◌, ◌/◌, ◌%◌, ◌<◌, ◌≤◌}
use mathlib.Core.Path.{◌≡◌, refl, sym, ap, ◌∙◌}
use mathlib.Core.Bool.{Bool, true, false, cond, false≢true}
use mathlib.Core.List.{List}
use native.Mathlib.Omega.{arith}
use lib.Dec.{ltb}
use lib.ListN.{length, drop, length-drop}
use lib.Seq.{length-take-le, get_or-take, get_or-drop, take_at}
use borrow.Author.Tests.{eq-eqb, ne_eqb, le-ltb}
use Rattle.std.specs.Prelude.{Ok}
use Rattle.refusals.specs.Refusals.{answer_of}
use Rattle.record.specs.Record.{stored}
use Rattle.reader.specs.declared.content.Content.{Content}
use Rattle.reader.specs.Tests.{meets_rules}
use Rattle.reader.specs.Read.{place_refusal, read_of, content_at, bytes_of, readable, write_answer, write_output}
use Rattle.reader.specs.Meaning.{Held, PlacesOfRecords, OwnBytes, TakesApartExactly, TurnsAwayOthers}
use Rattle.reader.specs.Meaning.{WritesWhatWasRead, ReadsWhatWasWritten, RefusesWhatNoReadGives}
use Rattle.reader.proofs.Paragraph.{tests-are-rules}
use Rattle.reader.proofs.Places.{torn-file, no-such-place, placed, within-file, there}
use Rattle.reader.proofs.Round.{again}
use Rattle.reader.proofs.Nothing.{read-readable}
use Rattle.reader.proofs.Value.{value-back, bytes-sized, bytes-bytes}
use Rattle.reader.proofs.Reading.{accepted, taken-apart, what-is-read}
use Rattle.reader.proofs.Writing.{written}

-- ---- the record at a place

pub places-of-records : PlacesOfRecords
places-of-records size place = (whole, torn)
  where
    whole : (m : ℕ) → size ≡ 176 * m → (place < m → place_refusal size place ≡ 0) × (m ≤ place → place_refusal size place ≡ 17)
    whole m e =
        let r : size % 176 ≡ 0 = omega arith in
        let q : size / 176 ≡ m = omega arith in
        (λ l. sym (placed size place r (omega arith)), λ l. sym (no-such-place size place r (omega arith)))

    torn : ((m : ℕ) → size ≡ 176 * m → ⊥) → place_refusal size place ≡ 16
    torn n = sym (torn-file size place (λ z. n (size / 176) (omega arith)))

pub own-bytes : OwnBytes
own-bytes file place e =
    let fits : 176 * place + 176 ≤ length file = within-file (length file) place e in
    let part = there file place e in
    let rest = drop (176 * place) file in
    let long : 176 ≤ length rest = rw (length-drop (176 * place) file) (omega arith) in (
      rw (sym part) (length-take-le 176 rest long),
      λ j h. rw (sym part) (get_or-take 176 rest j 0 h ∙ get_or-drop (176 * place) file j 0),
    )

-- ---- reading

pub takes-apart-exactly : TakesApartExactly
takes-apart-exactly s b =
    let rules = tests-are-rules s b in
    (λ e. let t = accepted s e in (t.0, rules.0 t.1), λ l r. taken-apart s l (rules.1 r))

either : (b : Bool) → (b ≡ true → ⊥) → b ≡ false
either true n = absurd (n refl)
either false n = refl

pub turns-away-others : TurnsAwayOthers
unfolding read_of
turns-away-others s b = (
  λ n. rw (ne_eqb (length s) 176 n),
  λ l n. rw (eq-eqb (length s) 176 l, either (meets_rules s) (λ m. n ((tests-are-rules s b).0 m))),
)

-- ---- writing

pub writes-what-was-read : WritesWhatWasRead
writes-what-was-read s out v b e h =
    let t = accepted s (ap answer_of e) in
    let same : content_at s ≡ v = sym (what-is-read s v e) in
    let w = written v out (stored out (bytes_of v)) (bytes_of v) h (ap readable (sym same) ∙ read-readable s t.0 b t.1) refl refl in
    (sym w.0, sym w.1 ∙ ap (stored out) (ap bytes_of (sym same) ∙ again s t.0 b t.1))

-- a write that is not refused
allowed : (a b : Bool) → ◌≡◌ {A = ℕ} (cond a 14 (cond b 0 18)) 0 → (a ≡ false) × (b ≡ true)
allowed true b e = absurd (omega arith)
allowed false true e = (refl, refl)
allowed false false e = absurd (omega arith)

back : (v : Content) → Held v → readable v ≡ true → read_of (bytes_of v) ≡ Ok v
back v h r = let t = value-back v h r in taken-apart (bytes_of v) (bytes-sized v) t.0 ∙ ap Ok (sym t.1)

pub reads-what-was-written : ReadsWhatWasWritten
unfolding write_answer write_output
reads-what-was-written v out h e =
    let t = allowed (ltb (length out) 176) (readable v) e in
    rw (t.0, t.1) (ap read_of (take_at (bytes_of v) (drop 176 out) 176 (bytes-sized v)) ∙ back v h t.1)

module _ (v : Content) (out : List ℕ) (h : 176 ≤ length out) where
  answer-is : (b : Bool) → readable v ≡ b → write_answer v out ≡ cond b 0 18
  unfolding write_answer
  answer-is b e = rw (le-ltb (length out) 176 h, e)

  unreadable : (b : Bool) → readable v ≡ b → write_answer v out ≡ 18 → b ≡ false
  unreadable true e w = let n : ◌≡◌ {A = ℕ} 0 18 = sym (answer-is true e) ∙ w in absurd (omega arith)
  unreadable false e w = refl

  refused : (b : Bool) → readable v ≡ b → (b ≡ true → ⊥) → write_answer v out ≡ 18
  refused true e n = absurd (n refl)
  refused false e n = answer-is false e

pub refuses-what-no-read-gives : RefusesWhatNoReadGives
refuses-what-no-read-gives v out h l = (
  λ w s b e.
      let t = accepted s (ap answer_of e) in
      let same : content_at s ≡ v = sym (what-is-read s v e) in
      false≢true (sym (unreadable v out l (readable v) refl w) ∙ sym (ap readable same) ∙ read-readable s t.0 b t.1),
  λ n. refused v out l (readable v) refl (λ r. n (bytes_of v) (bytes-bytes v) (back v h r)),
)
