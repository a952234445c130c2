-- What was written is read again as the same value, of a fix and of a refusal. Assumes nothing.
use Prim.Native.Nat.{ℕ, zero, suc, ◌+◌, ◌%◌, ◌^◌, ◌<◌, ◌≤◌}
use mathlib.Core.Path.{◌≡◌, refl, sym, ap, ◌∙◌}
use mathlib.Core.Bool.{Bool, true, false, cond, ◌&&◌}
use mathlib.Core.List.{List, [], ◌∷◌}
use native.Mathlib.Omega.{arith}
use lib.Dec.{leb, eqb, lit<}
use lib.IntN.{pos}
use lib.ListN.{length, get_or, set, replicate, length-replicate}
use lib.Ieee.{Float}
use borrow.Author.Tests.{eqb-true, eqb-false}
use Rattle.binary64.specs.Steps.{nought}
use Rattle.words.specs.Words.{word_at, put_word, u32_at, u64_at, i64_at, f64_at, put_u32}
use Rattle.words.proofs.Back.{put-length}
use Rattle.problem.specs.declared.Altitude.{Altitude}
use Rattle.problem.specs.declared.Altitude.TheVariants.{None}
use Rattle.record.specs.declared.content.Fix.{Fix}
use Rattle.record.specs.Record.{blank_record, fix, refusal}
use Rattle.reader.specs.declared.content.Content.{Content}
use Rattle.reader.specs.Rules.{kind_at}
use Rattle.reader.specs.Tests.{zeros, good_n, meets_rules}
use Rattle.reader.specs.Read.{three_at, altitude_of, fix_at, no_three, no_fix, refused, content_at, bytes_of, alone, readable}
use Rattle.reader.specs.Meaning.{Bytes, Held}
use Rattle.reader.proofs.Tests.{both_true, zeros-at}
use Rattle.reader.proofs.Table.{Word, word, put_all, apart, Reads, reads, whole-read, later-read}
use Rattle.reader.proofs.Assembled.{fix-fields, content-fixed, content-refused}
use Rattle.reader.proofs.Round.{n-shown}
use Rattle.reader.proofs.Fixed.{table, fix-table, u32-back, answer-read, fix-read}

-- ---- bytes written over bytes

put-all-length : (ws : List Word) (r : List ℕ) → length (put_all r ws) ≡ length r
unfolding put_all
put-all-length [] r = refl
put-all-length (word w k x ∷ ws) r = put-all-length ws (put_word w r k x) ∙ put-length w r k x

set-bytes : (r : List ℕ) (k x : ℕ) → x < 256 → Bytes r → Bytes (set r k x)
set-bytes [] k x h b j = b j
set-bytes (y ∷ r) zero x h b zero = h
set-bytes (y ∷ r) zero x h b (suc j) = b (suc j)
set-bytes (y ∷ r) (suc k) x h b zero = b zero
set-bytes (y ∷ r) (suc k) x h b (suc j) = set-bytes r k x h (λ i. b (suc i)) j

put-bytes : (w : ℕ) (r : List ℕ) (k x : ℕ) → Bytes r → Bytes (put_word w r k x)
unfolding put_word
put-bytes zero r k x b = b
put-bytes (suc w) r k x b = put-bytes w (set r k (x % 256)) (k + 1) _ (set-bytes r k (x % 256) (omega arith) b)

put-all-bytes : (ws : List Word) (r : List ℕ) → Bytes r → Bytes (put_all r ws)
unfolding put_all
put-all-bytes [] r b = b
put-all-bytes (word w k x ∷ ws) r b = put-all-bytes ws (put_word w r k x) (put-bytes w r k x b)

pub zero-at : (n j : ℕ) → ◌≡◌ {A = ℕ} (get_or (replicate n 0) j 0) 0
zero-at zero j = refl
zero-at (suc n) zero = refl
zero-at (suc n) (suc j) = zero-at n j

blank-bytes : Bytes blank_record
blank-bytes j = let e : get_or blank_record j 0 ≡ 0 = zero-at 176 j in omega arith

blank-length : length blank_record ≡ 176
blank-length = length-replicate {A = ℕ} 176 0

-- ---- a refusal

unfoldable pub heads : ℕ → ℕ → ℕ → List Word
heads a d n = word 4 0 a ∷ word 4 4 d ∷ word 4 8 n ∷ []

pub refusal-table : (a d n : ℕ) → refusal a d n ≡ put_all blank_record (heads a d (cond (leb a 9) n 0))
unfolding refusal put_u32 put_all heads
refusal-table a d n = refl

same-refused : {a b c d e f : ℕ} → a ≡ d → b ≡ e → c ≡ f → refused a b c ≡ refused d e f
same-refused p q r = rw (p, q, r)

heads-apart : (a d n : ℕ) → apart 176 0 (heads a d n) ≡ true
unfolding heads apart
heads-apart a d n = refl

pub heads-read : (a d n : ℕ) → Reads (refusal a d n) (heads a d (cond (leb a 9) n 0))
heads-read a d n =
    let m = cond (leb a 9) n 0 in
    rw (refusal-table a d n) (reads 176 (heads a d m) blank_record 0 blank-length (heads-apart a d m))

module _ (a d n : ℕ) (ha : a < 2 ^ 32) (hd : d < 2 ^ 32) (hn : n < 2 ^ 32) (good : good_n a n ≡ true) where
  refusal-words : Reads (refusal a d n) (heads a d n)
  unfolding good_n
  refusal-words = rw (n-shown (leb a 9) n good) at (heads-read a d n)

  refusal-read : (a ≡ 0 → ⊥) → refused a d n ≡ content_at (refusal a d n)
  unfolding heads
  refusal-read z =
      let s = refusal a d n in
      let ea : a ≡ u32_at s 0 = u32-back s 0 a (whole-read refusal-words ha) in
      let ed : d ≡ u32_at s 4 = u32-back s 4 d (whole-read (later-read 1 refusal-words) hd) in
      let en : n ≡ u32_at s 8 = u32-back s 8 n (whole-read (later-read 2 refusal-words) hn) in
      same-refused ea ed en ∙ content-refused s (λ e. z (ea ∙ e))

-- ---- a fix that would be written as zero bytes is none

pub zero_word : (w : ℕ) (s : List ℕ) (k : ℕ) → ((j : ℕ) → k ≤ j → j < k + w → get_or s j 0 ≡ 0) → word_at w s k ≡ 0
unfolding word_at
zero_word zero s k z = refl
zero_word (suc w) s k z = rw (z k (omega arith) (omega arith), zero_word w s (k + 1) (λ j a b. z j (omega arith) (omega arith)))

module _ (s : List ℕ) (low : zeros s 0 160 ≡ true) where
  zero-byte : (j : ℕ) → j < 160 → get_or s j 0 ≡ 0
  zero-byte j h = let e : 0 + j ≡ j = omega arith in rw e at (zeros-at s 0 160 low j h)

  zero-u32 : (k : ℕ) → k + 4 ≤ 160 → 0 ≡ u32_at s k
  unfolding u32_at
  zero-u32 k h = rw (zero_word 4 s k (λ j a b. zero-byte j (omega arith)))

  zero-f64 : (k : ℕ) → k + 8 ≤ 160 → nought ≡ f64_at s k
  unfolding f64_at u64_at
  zero-f64 k h = rw (zero_word 8 s k (λ j a b. zero-byte j (omega arith)))

  zero-time : pos 0 ≡ i64_at s 72
  unfolding i64_at u64_at
  zero-time = rw (zero_word 8 s 72 (λ j a b. zero-byte j (omega arith)))

  zero-three : (k : ℕ) → k + 24 ≤ 160 → no_three ≡ three_at s k
  zero-three k h = rw (← zero-f64 k (omega arith), ← zero-f64 (k + 8) (omega arith), ← zero-f64 (k + 16) (omega arith))

  no-fix : no_fix ≡ fix_at s
  no-fix =
      fix-fields s (zero-u32 12 (omega arith)) (zero-u32 4 (omega arith))
      (zero-three 16 (omega arith))
      (zero-f64 40 (omega arith))
      (zero-f64 48 (omega arith))
      (zero-f64 56 (omega arith))
      (zero-f64 64 (omega arith))
      zero-time
      (zero-three 80 (omega arith))
      (zero-three 104 (omega arith))
      (zero-three 128 (omega arith))
      (zero-f64 152 (omega arith))

no-altitude : (s : List ℕ) (m : Float) → zeros s 161 15 ≡ true → altitude_of (kind_at s) m ≡ None
no-altitude s m high = let e : kind_at s ≡ 0 = zeros-at s 161 15 high 1 (omega arith) in rw e

-- ---- the value

same-content
    : {a b d e n : ℕ} {p q : Altitude} {f g : Fix} → a ≡ b → d ≡ e → p ≡ q → f ≡ g
    → ◌≡◌ {A = Content} (record { answer = a; detail = d; n = n; altitude = p; fix = f })
    (record { answer = b; detail = e; n = n; altitude = q; fix = g })
same-content i j k l = rw (i, j, k, l)

module _ (v : Content) (h : Held v) where
  alone-nothing : alone v ≡ true → (v.altitude ≡ None) × (v.fix ≡ no_fix)
  unfolding alone
  alone-nothing e =
      let r = fix 0 v.altitude v.fix in
      let t = both_true (zeros r 0 160) (zeros r 161 15) e in
      let q = fix-read 0 v.altitude v.fix (lit< tt) h.fix h.metres in (
        ap (λ (c : Content). c.altitude) q ∙ no-altitude r (f64_at r 168) t.1,
        ap (λ (c : Content). c.fix) q ∙ sym (no-fix r t.0),
      )

  by_answer
      : (b : Bool) → eqb v.answer 0 ≡ b → cond b (eqb v.detail v.fix.dof) (good_n v.answer v.n && alone v) ≡ true
      → v ≡ content_at (cond b (fix v.n v.altitude v.fix) (refusal v.answer v.detail v.n))
  by_answer true e g =
      let s = fix v.n v.altitude v.fix in
      same-content (eqb-true v.answer 0 e) (eqb-true v.detail v.fix.dof g) refl refl
      ∙ fix-read v.n v.altitude v.fix h.n h.fix h.metres
      ∙ content-fixed s (answer-read v.n v.altitude v.fix)
  by_answer false e g =
      let t = both_true (good_n v.answer v.n) (alone v) g in
      let u = alone-nothing t.1 in
      same-content refl refl u.0 u.1
      ∙ refusal-read v.answer v.detail v.n h.answer h.detail h.n t.0 (eqb-false v.answer 0 e)

  pub value-back : readable v ≡ true → (meets_rules (bytes_of v) ≡ true) × (v ≡ content_at (bytes_of v))
  unfolding readable bytes_of
  value-back e =
      let more = cond (eqb v.answer 0) (eqb v.detail v.fix.dof) (good_n v.answer v.n && alone v) in
      let t = both_true (meets_rules (bytes_of v)) more e in
      (t.0, by_answer (eqb v.answer 0) refl t.1)

-- ---- 176 bytes

module _ (n : ℕ) (alt : Altitude) (f : Fix) where
  pub fix-sized : length (fix n alt f) ≡ 176
  fix-sized = rw (fix-table n alt f) (put-all-length (table n alt f) blank_record ∙ blank-length)

  pub fix-bytes : Bytes (fix n alt f)
  fix-bytes = rw (fix-table n alt f) (put-all-bytes (table n alt f) blank_record blank-bytes)

module _ (a d n : ℕ) where
  pub refusal-sized : length (refusal a d n) ≡ 176
  refusal-sized = rw (refusal-table a d n) (put-all-length (heads a d (cond (leb a 9) n 0)) blank_record ∙ blank-length)

  pub refusal-bytes : Bytes (refusal a d n)
  refusal-bytes = rw (refusal-table a d n) (put-all-bytes (heads a d (cond (leb a 9) n 0)) blank_record blank-bytes)

module _ (v : Content) where
  sized : (b : Bool) → length (cond b (fix v.n v.altitude v.fix) (refusal v.answer v.detail v.n)) ≡ 176
  sized true = fix-sized v.n v.altitude v.fix
  sized false = refusal-sized v.answer v.detail v.n

  of-bytes : (b : Bool) → Bytes (cond b (fix v.n v.altitude v.fix) (refusal v.answer v.detail v.n))
  of-bytes true = fix-bytes v.n v.altitude v.fix
  of-bytes false = refusal-bytes v.answer v.detail v.n

  pub bytes-sized : length (bytes_of v) ≡ 176
  unfolding bytes_of
  bytes-sized = sized (eqb v.answer 0)

  pub bytes-bytes : Bytes (bytes_of v)
  unfolding bytes_of
  bytes-bytes = of-bytes (eqb v.answer 0)
