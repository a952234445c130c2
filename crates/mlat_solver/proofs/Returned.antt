-- What C reads and writes goes both ways, by reader's theorems: no word and no number is lost on the way to a content. Assumes nothing.
use Prim.Native.Nat.{ℕ, zero, suc, ◌+◌, ◌^◌, ◌<◌, ◌≤◌}
use mathlib.Core.Path.{◌≡◌, refl, sym, ap, subst, ◌∙◌}
use mathlib.Core.Bool.{Bool, true, false, cond, not, ◌&&◌, ◌||◌}
use mathlib.Core.List.{List, [], ◌∷◌}
use native.Mathlib.Omega.{arith}
use lib.Dec.{T, leb, ltb, eqb, lit<}
use lib.IntN.{ℤ}
use lib.ListN.{length, take, drop, get_or, drop_of_length-le}
use lib.Seq.{drop-cons, take_at}
use lib.Ieee.{Float, nan, binary64, fits, to_bits, of_bits}
use lib.Ieee.Bits.{of_bits-to_bits}
use borrow.Author.Tests.{eq-eqb, eqb-true, leb-true, le-ltb}
use Rattle.binary64.specs.Steps.{#, nought}
use Rattle.dense.specs.Entries.{nth}
use Rattle.problem.specs.declared.Altitude.{Altitude}
use Rattle.problem.specs.declared.Altitude.TheVariants.{None, Barometric, Gnss}
use Rattle.record.specs.Record.{kind, metres}
use Rattle.reader.specs.declared.content.Content.{Content}
use Rattle.reader.specs.Rules.{answer_at, detail_at, n_at}
use Rattle.reader.specs.Read.{fix_at, fixed, refused, read_of, content_at, bytes_of, readable, write_answer, write_output}
use Rattle.reader.specs.Meaning.{Bytes, Held, HeldThree}
use Rattle.reader.proofs.Tests.{all-3}
use Rattle.reader.proofs.Round.{kind-back, metres-back}
use Rattle.reader.proofs.Fixed.{altitude-back}
use Rattle.reader.proofs.Value.{bytes-sized, bytes-bytes}
use Rattle.std.specs.Prelude.{Ok}
use Rattle.reader.proofs.Reading.{what-is-read}
use Rattle.reader.proofs.Meaning.{writes-what-was-read, reads-what-was-written}
use Rattle.mlat_solver.specs.Records.{version_of, words_of, numbers_of, word, fix_of, content_of, whole, record_answer, record_output}
use Rattle.mlat_solver.specs.Records.{Lends, ReadFrom, RecordsWrittenAgain, RecordsReadAgain, RecordsRefused}

-- ---- what was read, as words and numbers and back

altitude-whole : (a : Altitude) → (leb (kind a) 2 && (not (eqb (kind a) 0) || eqb (to_bits binary64 (metres a)) 0)) ≡ true
unfolding to_bits of_bits
altitude-whole None = refl
altitude-whole (Barometric m) = refl
altitude-whole (Gnss m) = refl

read_whole : (v : Content) → whole (words_of v) (numbers_of v) ≡ true
unfolding whole words_of numbers_of
read_whole v = rw (eq-eqb (version_of v.answer) (version_of v.answer) refl) (altitude-whole v.altitude)

fix-again : (s : List ℕ) → content_of (words_of (fixed s)) (numbers_of (fixed s)) (fixed s).fix.transmit_ps ≡ fixed s
unfolding content_of fix_of words_of numbers_of fix_at
fix-again s = rw (← altitude-back (fixed s).altitude)

refusal-again : (a d n : ℕ) → eqb a 0 ≡ false → let v = refused a d n in content_of (words_of v) (numbers_of v) v.fix.transmit_ps ≡ v
unfolding content_of fix_of words_of numbers_of
refusal-again a d n e = rw e

content-again : (s : List ℕ) → let v = content_at s in content_of (words_of v) (numbers_of v) v.fix.transmit_ps ≡ v
unfolding content_at
content-again s = go (eqb (answer_at s) 0) refl
  where
    go
        : (b : Bool) → eqb (answer_at s) 0 ≡ b
        → let v = cond b (fixed s) (refused (answer_at s) (detail_at s) (n_at s)) in content_of (words_of v) (numbers_of v) v.fix.transmit_ps ≡ v
    go true e = fix-again s
    go false e = refusal-again (answer_at s) (detail_at s) (n_at s) e

-- the words and numbers that were read are the content's
module _ (s words : List ℕ) (numbers : List Float) (time : ℤ) (r : ReadFrom s words numbers time) where
  abbrev read : Content
  read = r.content

  read_again : content_of (words_of read) (numbers_of read) read.fix.transmit_ps ≡ read
  read_again =
      let e : read ≡ content_at s = what-is-read s read r.answered in
      subst (λ (c : Content). content_of (words_of c) (numbers_of c) c.fix.transmit_ps ≡ c) (sym e) (content-again s)

  content-is : content_of words numbers time ≡ read
  content-is =
      subst (λ (w : List ℕ). content_of w numbers time ≡ read) r.in_words
      (subst (λ (x : List Float). content_of (words_of read) x time ≡ read) r.in_numbers
      (subst (λ (p : ℤ). content_of (words_of read) (numbers_of read) p ≡ read) r.in_time read_again))

  whole_is : whole words numbers ≡ true
  whole_is =
      subst (λ (w : List ℕ). whole w numbers ≡ true) r.in_words
      (subst (λ (x : List Float). whole (words_of read) x ≡ true) r.in_numbers (read_whole read))

pub records-written-again : RecordsWrittenAgain
unfolding record_answer record_output
records-written-again s out words numbers time b r h =
    let w = writes-what-was-read s out r.content b r.answered h in
    let e = whole_is s words numbers time r in
    let c = content-is s words numbers time r in
    (rw (le-ltb (length out) 176 h, e, c) w.0, rw (e, c) w.1)

-- ---- words and numbers that can be written, as a content and back

module _ {A : Type 0} (l : List A) (d : A) where
  unfoldable entries : ℕ → ℕ → List A
  entries zero j = []
  entries (suc n) j = get_or l j d ∷ entries n (suc j)

  entries-are : (n j : ℕ) → length l ≡ j + n → entries n j ≡ drop j l
  unfolding entries
  entries-are zero j e = let h : length l ≤ j = omega arith in sym (drop_of_length-le l h)
  entries-are (suc n) j e = ap (λ (r : List A). get_or l j d ∷ r) (entries-are n (suc j) (omega arith)) ∙ sym (drop-cons l j d (omega arith))

module _ (words : List ℕ) (numbers : List Float) (time : ℤ) (l : Lends words numbers time) where
  abbrev k : ℕ
  k = word words 5

  abbrev m : Float
  m = nth numbers 17

  metres-fit : (x y : Bool) → T (fits binary64 (metres (cond x (Barometric m) (cond y (Gnss m) None))))
  unfolding fits of_bits
  metres-fit true y = l.floats 17 (lit< tt)
  metres-fit false true = l.floats 17 (lit< tt)
  metres-fit false false = tt

  dof-fits : (b : Bool) → cond b (word words 1) 0 < 2 ^ 32
  dof-fits true = l.small 1
  dof-fits false = lit< tt

  three : (a b c : ℕ) → a < 18 → b < 18 → c < 18 → HeldThree (nth numbers a ∷ nth numbers b ∷ nth numbers c ∷ [])
  three a b c i j h = record { size = refl; x = l.floats a i; y = l.floats b j; z = l.floats c h }

  held : Held (content_of words numbers time)
  unfolding content_of fix_of
  held = record {
    answer = l.small 0;
    detail = l.small 1;
    n = l.small 2;
    metres = metres-fit (eqb k 1) (eqb k 2);
    fix = record {
      mask = l.small 3;
      dof = dof-fits (eqb (word words 0) 0);
      ecef = three 0 1 2 (lit< tt) (lit< tt) (lit< tt);
      t = l.floats 3 (lit< tt);
      lat = l.floats 4 (lit< tt);
      lon = l.floats 5 (lit< tt);
      height = l.floats 6 (lit< tt);
      ps = l.signed;
      r0 = three 7 8 9 (lit< tt) (lit< tt) (lit< tt);
      r1 = three 10 11 12 (lit< tt) (lit< tt) (lit< tt);
      r2 = three 13 14 15 (lit< tt) (lit< tt) (lit< tt);
      chi2 = l.floats 16 (lit< tt);
    };
  }

  module _ (w : whole words numbers ≡ true) where
    tests : (eqb (word words 4) (version_of (word words 0)) ≡ true) × (leb k 2 ≡ true) × ((not (eqb k 0) || eqb (to_bits binary64 m) 0) ≡ true)
    unfolding whole
    tests = all-3 (eqb (word words 4) (version_of (word words 0))) (leb k 2) (not (eqb k 0) || eqb (to_bits binary64 m) 0) w

    no-metres : k ≡ 0 → m ≡ nought
    no-metres e =
        let z : to_bits binary64 m ≡ 0 = eqb-true (to_bits binary64 m) 0 (rw e at tests.2) in
        sym (of_bits-to_bits binary64 m (l.floats 17 (lit< tt))) ∙ ap # z

    words_back : words_of (content_of words numbers time) ≡ words
    unfolding words_of content_of fix_of entries
    words_back =
        last-two (sym (eqb-true (word words 4) (version_of (word words 0)) tests.0)) (kind-back k m (leb-true k 2 tests.1))
        ∙ entries-are words 0 6 0 l.six
      where
        last-two : {a b c d e f g h : ℕ} → e ≡ g → f ≡ h → a ∷ b ∷ c ∷ d ∷ e ∷ f ∷ [] ≡ a ∷ b ∷ c ∷ d ∷ g ∷ h ∷ []
        last-two p q = rw (p, q)

    numbers-back : numbers_of (content_of words numbers time) ≡ numbers
    unfolding numbers_of content_of fix_of entries
    numbers-back = ap front (metres-back k m (leb-true k 2 tests.1) no-metres) ∙ entries-are numbers nan 18 0 l.eighteen
      where
        front : Float → List Float
        front x =
            nth numbers 0 ∷ nth numbers 1 ∷ nth numbers 2 ∷ nth numbers 3 ∷ nth numbers 4 ∷ nth numbers 5 ∷ nth numbers 6 ∷ nth numbers 7
            ∷ nth numbers 8 ∷ nth numbers 9 ∷ nth numbers 10 ∷ nth numbers 11 ∷ nth numbers 12 ∷ nth numbers 13 ∷ nth numbers 14
            ∷ nth numbers 15 ∷ nth numbers 16 ∷ x ∷ []

-- a write that is not refused
allowed : (a b : Bool) (x : ℕ) → ◌≡◌ {A = ℕ} (cond a 14 (cond b x 18)) 0 → (b ≡ true) × (x ≡ 0)
allowed true b x e = absurd (omega arith)
allowed false true x e = (refl, e)
allowed false false x e = absurd (omega arith)

pub records-read-again : RecordsReadAgain
unfolding record_answer record_output content_of fix_of
records-read-again words numbers time out l e =
    let v = content_of words numbers time in
    let t = allowed (ltb (length out) 176) (whole words numbers) (write_answer v out) e in
    let q : read_of (take 176 (write_output v out)) ≡ Ok v = reads-what-was-written v out (held words numbers time l) t.1 in
    rw t.0 (record {
      content = v;
      answered = q;
      in_words = words_back words numbers time l t.0;
      in_numbers = numbers-back words numbers time l t.0;
      in_time = refl;
    })

-- the bytes that were written
written-bytes
    : (words : List ℕ) (numbers : List Float) (time : ℤ) (out : List ℕ) → record_answer words numbers time out ≡ 0
    → Bytes (take 176 (record_output words numbers time out))
unfolding record_answer record_output write_output
written-bytes words numbers time out e =
    let v = content_of words numbers time in
    let t = allowed (ltb (length out) 176) (whole words numbers) (write_answer v out) e in
    rw (t.0, t.1, take_at (bytes_of v) (drop 176 out) 176 (bytes-sized v)) (bytes-bytes v)

-- an output that is long enough gets 0 or 18
either-answer
    : (words : List ℕ) (numbers : List Float) (time : ℤ) (out : List ℕ) → 176 ≤ length out → (record_answer words numbers time out ≡ 0 → ⊥)
    → record_answer words numbers time out ≡ 18
unfolding record_answer write_answer
either-answer words numbers time out h =
    let e : ltb (length out) 176 ≡ false = le-ltb (length out) 176 h in
    rw e (go (whole words numbers) (readable (content_of words numbers time)))
  where
    go : (a b : Bool) → (◌≡◌ {A = ℕ} (cond a (cond b 0 18) 18) 0 → ⊥) → ◌≡◌ {A = ℕ} (cond a (cond b 0 18) 18) 18
    go true true n = absurd (n refl)
    go true false n = refl
    go false b n = refl

pub records-refused : RecordsRefused
records-refused words numbers time out l h = (
  λ e s b r. let n : ◌≡◌ {A = ℕ} 0 18 = sym (records-written-again s out words numbers time b r h).0 ∙ e in omega arith,
  λ n. either-answer words numbers time out h (λ e. n (take 176 (record_output words numbers time out))
      (written-bytes words numbers time out e)
      (records-read-again words numbers time out l e)),
)
