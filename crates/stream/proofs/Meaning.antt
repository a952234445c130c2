-- What is written is read back: the statements `ReadBack` and `OneAfterAnother` of specs/Meaning.antt. Assumes nothing.
use Prim.Native.Nat.{ℕ, ◌+◌, ◌^◌, ◌≤◌, ◌<◌}
use mathlib.Core.Path.{◌≡◌, refl, sym, ap, ap₂, ◌∙◌}
use mathlib.Core.Bool.{Bool, true, false, cond}
use mathlib.Core.List.{List, [], ◌∷◌, ◌++◌, append_assoc}
use mathlib.Core.Option.{Option, none, some}
use native.Mathlib.Omega.{arith}
use borrow.Author.Tests.{ne_eqb, le-leb, lt-leb, leb-true}
use lib.Dec.{eqb, leb}
use lib.ListN.{length, take, drop, length-append, length-drop, get_or-append}
use lib.Seq.{take-append_seam, drop_at, drop-append_seam}
use Rattle.words.specs.Words.{word_at, u32_at}
use Rattle.entry.specs.Reply.{output}
use Rattle.stream.specs.declared.Head.{Head}
use Rattle.stream.specs.Frames.{absent, head_of, size_of, clock_from, altitude_from, reference_from, body_bytes, input, Parts, parts_of}
use Rattle.stream.specs.Frames.{asked, torn, whole, solved_next, output_next}
use Rattle.stream.specs.Meaning.{mark_of, bytes_of, word, marks_of, lengths_of, body_of, written, Short, Writable, first_of, takes, ReadBack}
use Rattle.stream.specs.Meaning.{written_all, read_all, OneAfterAnother}

-- ---- the lengths

-- four bytes hold every u32
holds : (n : ℕ) (more : List ℕ) → n < 2 ^ 32 → u32_at (word 4 n ++ more) 0 ≡ n
unfolding u32_at word_at
holds n more l = omega arith

heads
    : (h : Head) (more : List ℕ) → h.receptions < 2 ^ 32 → h.clock < 2 ^ 32 → h.altitude < 2 ^ 32 → h.reference < 2 ^ 32
    → head_of (lengths_of h ++ more) ≡ h
unfolding u32_at word_at
heads h more r c a e =
    let w = holds h.receptions [] r in
    let x = holds h.clock [] c in
    let y = holds h.altitude [] a in
    let z = holds h.reference [] e in
    rw (w, x, y, z)

mark-fits : (x : Option (List ℕ)) → Short x → mark_of x < 2 ^ 32
mark-fits none s = omega arith
mark-fits (some b) s = omega arith

size_is : (x : Option (List ℕ)) → Short x → size_of (mark_of x) ≡ length (bytes_of x)
size_is none s = refl
size_is (some b) s = rw (ne_eqb (length b) absent (λ e. omega arith))

-- ---- the inputs

-- one that begins where the front ends
found
    : (x : Option (List ℕ)) (front back body : List ℕ) (from : ℕ) → Short x → length front ≡ from → body ≡ front ++ bytes_of x ++ back
    → input (mark_of x) from body ≡ x
found none front back body from s l e = refl
found (some b) front back body from s l e =
    let k : eqb (length b) absent ≡ false = ne_eqb (length b) absent (λ q. omega arith) in
    let at : drop from body ≡ b ++ back = ap (drop from) (e ∙ append_assoc front b back) ∙ drop_at front (b ++ back) from l in
    ap (λ (t : Bool). cond t none (some (take (length b) (drop from body)))) k
    ∙ ap some (ap (take (length b)) at ∙ take-append_seam b back)

module _ (p : Parts) (w : Writable p) (more : List ℕ) where
  abbrev rs : List ℕ
  rs = bytes_of p.receptions

  abbrev cs : List ℕ
  cs = bytes_of p.clock

  abbrev al : List ℕ
  al = bytes_of p.altitude

  abbrev re : List ℕ
  re = bytes_of p.reference

  -- the body, from an input on
  from-third : body_of p ++ more ≡ (rs ++ cs ++ al) ++ (re ++ more)
  from-third = append_assoc (rs ++ cs ++ al) re more

  from_second : body_of p ++ more ≡ (rs ++ cs) ++ (al ++ (re ++ more))
  from_second = from-third ∙ append_assoc (rs ++ cs) al (re ++ more)

  from_first : body_of p ++ more ≡ rs ++ (cs ++ (al ++ (re ++ more)))
  from_first = from_second ∙ append_assoc rs cs (al ++ (re ++ more))

  from-clock : length rs ≡ clock_from (marks_of p)
  from-clock = sym (size_is p.receptions w.receptions)

  from-altitude : length (rs ++ cs) ≡ altitude_from (marks_of p)
  from-altitude = length-append rs cs ∙ sym (ap₂ ◌+◌ (size_is p.receptions w.receptions) (size_is p.clock w.clock))

  from-reference : length (rs ++ cs ++ al) ≡ reference_from (marks_of p)
  from-reference = length-append (rs ++ cs) al ∙ ap₂ ◌+◌ from-altitude (sym (size_is p.altitude w.altitude))

  body-size : length (body_of p) ≡ body_bytes (marks_of p)
  body-size = length-append (rs ++ cs ++ al) re ∙ ap₂ ◌+◌ from-reference (sym (size_is p.reference w.reference))

  parts-back : parts_of (marks_of p) (body_of p ++ more) ≡ p
  parts-back =
      let r = found p.receptions [] _ (body_of p ++ more) 0 w.receptions refl from_first in
      let c = found p.clock rs _ (body_of p ++ more) _ w.clock from-clock from_second in
      let a = found p.altitude (rs ++ cs) _ (body_of p ++ more) _ w.altitude from-altitude from-third in
      let e = found p.reference (rs ++ cs ++ al) more (body_of p ++ more) _ w.reference from-reference refl in
      ap₂ (λ (x y : Option (List ℕ)). record {
        receptions = x;
        clock = y;
        altitude = input (mark_of p.altitude) (altitude_from (marks_of p)) (body_of p ++ more);
        reference = input (mark_of p.reference) (reference_from (marks_of p)) (body_of p ++ more);
      }) r c
      ∙ ap₂ (λ (x y : Option (List ℕ)). record { receptions = p.receptions; clock = p.clock; altitude = x; reference = y }) a e

  head-back : head_of (written p ++ more) ≡ marks_of p
  head-back =
      heads (marks_of p) (body_of p ++ more) (mark-fits p.receptions w.receptions) (mark-fits p.clock w.clock)
      (mark-fits p.altitude w.altitude) (mark-fits p.reference w.reference)

  first_back : first_of (written p ++ more) ≡ p
  first_back = ap (λ (h : Head). parts_of h (body_of p ++ more)) head-back ∙ parts-back

  written-size : length (written p) ≡ 16 + length (body_of p)
  written-size = length-append (lengths_of (marks_of p)) (body_of p)

  bytes_back : takes (written p ++ more) ≡ length (written p)
  bytes_back = ap (λ (h : Head). 16 + body_bytes h) head-back ∙ ap (λ (n : ℕ). 16 + n) (sym body-size) ∙ sym written-size

  long : leb 16 (length (written p ++ more)) ≡ true
  long = le-leb 16 (length (written p ++ more)) (omega (arith, length-append (written p) more, written-size))

  within : leb (body_bytes (head_of (written p ++ more))) (length (body_of p ++ more)) ≡ true
  within =
      le-leb (body_bytes (head_of (written p ++ more))) (length (body_of p ++ more))
      (rw (ap body_bytes head-back, ← body-size, length-append (body_of p) more) (omega arith))

  pub answers-back : (out : List ℕ) → solved_next (written p ++ more) out ≡ whole (length (written p)) p out
  answers-back out =
      rw (long, within) (ap₂ (λ (u : ℕ) (q : Parts). whole u q out) bytes_back first_back)

  pub outputs-back : (out : List ℕ) → output_next (written p ++ more) out ≡ output (asked p) out
  outputs-back out = rw (long, within) (ap (λ (q : Parts). output (asked q) out) first_back)

-- ---- a stream that ends early

same_word : (s more : List ℕ) (k : ℕ) → k + 4 ≤ length s → u32_at (s ++ more) k ≡ u32_at s k
unfolding u32_at word_at
same_word s more k l =
    rw (
      get_or-append s more 0 k (omega arith),
      get_or-append s more 0 (k + 1) (omega arith),
      get_or-append s more 0 (k + 1 + 1) (omega arith),
      get_or-append s more 0 (k + 1 + 1 + 1) (omega arith),
    )

same_head : (s more : List ℕ) → 16 ≤ length s → head_of (s ++ more) ≡ head_of s
same_head s more l =
    rw (
      same_word s more 0 (omega arith),
      same_word s more 4 (omega arith),
      same_word s more 8 (omega arith),
      same_word s more 12 (omega arith),
    )

pub torn-back
    : (p : Parts) (front more out : List ℕ) → Writable p → written p ≡ front ++ more → 0 < length more
    → (solved_next front out ≡ torn) × (output_next front out ≡ out)
torn-back p front more out w e l = go (leb 16 (length front)) refl
  where
    go : (b : Bool) → leb 16 (length front) ≡ b → (solved_next front out ≡ torn) × (output_next front out ≡ out)
    go false t = (rw t, rw t)
    go true t =
        let long : 16 ≤ length front = leb-true 16 (length front) t in
        let head : head_of front ≡ marks_of p =
        sym (same_head front more long) ∙ ap head_of (sym e)
        ∙ heads (marks_of p) (body_of p) (mark-fits p.receptions w.receptions) (mark-fits p.clock w.clock)
        (mark-fits p.altitude w.altitude) (mark-fits p.reference w.reference) in
        let size : body_bytes (head_of front) ≡ length (body_of p) = ap body_bytes head ∙ sym (body-size p w []) in
        let all : 16 + length (body_of p) ≡ length front + length more =
        sym (written-size p w []) ∙ ap length e ∙ length-append front more in
        let short : leb (body_bytes (head_of front)) (length (drop 16 front)) ≡ false =
        lt-leb (body_bytes (head_of front)) (length (drop 16 front)) (omega (arith, size, all, length-drop 16 front, l)) in
        (rw (t, short), rw (t, short))

pub read_back : ReadBack
read_back = record {
  first = λ p more w. first_back p w more;
  bytes = λ p more w. bytes_back p w more;
  answers = λ p more out w. answers-back p w more out;
  outputs = λ p more out w. outputs-back p w more out;
  ends = torn-back;
}

pub one-after-another : OneAfterAnother
one-after-another [] w = refl
one-after-another (p ∷ ps) (w, ws) =
    let rest : drop (takes (written p ++ written_all ps)) (written p ++ written_all ps) ≡ written_all ps =
    ap (λ (n : ℕ). drop n (written p ++ written_all ps)) (bytes_back p w (written_all ps)) ∙ drop-append_seam (written p) (written_all ps) in
    ap₂ ◌∷◌ (first_back p w (written_all ps)) (ap (read_all (length ps)) rest ∙ one-after-another ps ws)
