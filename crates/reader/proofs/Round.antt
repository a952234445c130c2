-- Writing a record that was read gives its bytes again. Assumes nothing.
use Prim.Native.Nat.{ℕ, zero, suc, ◌+◌, ◌≤◌}
use mathlib.Core.Path.{◌≡◌, refl, sym, ap, ◌∙◌}
use mathlib.Core.Bool.{Bool, true, false, cond}
use mathlib.Core.List.{List, append-nil}
use native.Mathlib.Omega.{arith}
use lib.Dec.{leb, eqb, lit<}
use lib.ListN.{length, get_or, set, length-replicate, get_or-replicate}
use lib.Seq.{take_all}
use lib.Ieee.{Float}
use borrow.Author.Tests.{eqb-true, leb-true}
use Rattle.binary64.specs.Steps.{nought, is_finite}
use Rattle.words.specs.Words.{word_at, u16_at, u32_at, u64_at, f64_at, put_u32, put_f64}
use Rattle.record.specs.Record.{put_three, written, head, foot, kind, metres, blank_record, fix, refusal}
use Rattle.record.proofs.Parts.{parts}
use Rattle.reader.specs.Rules.{answer_at, detail_at, n_at, mask_at, version_at, kind_at}
use Rattle.reader.specs.Tests.{good_answer, good_detail, good_mask, good_dof, zeros, good_n, good_floats, good_metres}
use Rattle.reader.specs.Tests.{good_fix, good_refusal, meets_rules}
use Rattle.reader.specs.Read.{three_at, altitude_of, fix_at, fixed, refused, content_at, bytes_of}
use Rattle.reader.proofs.Tests.{both_true, all-4, all-8, zeros-at, low-finite, high-finite, metres-finite}
use Rattle.reader.proofs.Copied.{Bytes, up_to, copy-byte, skip-byte, copy-u16, copy-u32, copy-i64, copy-f64}

-- ---- the altitude

pub kind-back : (k : ℕ) (m : Float) → k ≤ 2 → kind (altitude_of k m) ≡ k
kind-back zero m h = refl
kind-back (suc zero) m h = refl
kind-back (suc (suc zero)) m h = refl
kind-back (suc (suc (suc k))) m h = absurd (omega arith)

pub metres-back : (k : ℕ) (m : Float) → k ≤ 2 → (k ≡ 0 → m ≡ nought) → metres (altitude_of k m) ≡ m
metres-back zero m h z = sym (z refl)
metres-back (suc zero) m h z = refl
metres-back (suc (suc zero)) m h z = refl
metres-back (suc (suc (suc k))) m h z = absurd (omega arith)

-- where the kind is 0, the metres are zero bytes
zero-metres : (s : List ℕ) (k : ℕ) → good_metres k s ≡ true → k ≡ 0 → f64_at s 168 ≡ nought
unfolding good_metres f64_at u64_at word_at
zero-metres s k g e =
    let z : zeros s 168 8 ≡ true = rw e at g in
    let b0 : get_or s 168 0 ≡ 0 = zeros-at s 168 8 z 0 (lit< tt) in
    let b1 : get_or s 169 0 ≡ 0 = zeros-at s 168 8 z 1 (lit< tt) in
    let b2 : get_or s 170 0 ≡ 0 = zeros-at s 168 8 z 2 (lit< tt) in
    let b3 : get_or s 171 0 ≡ 0 = zeros-at s 168 8 z 3 (lit< tt) in
    let b4 : get_or s 172 0 ≡ 0 = zeros-at s 168 8 z 4 (lit< tt) in
    let b5 : get_or s 173 0 ≡ 0 = zeros-at s 168 8 z 5 (lit< tt) in
    let b6 : get_or s 174 0 ≡ 0 = zeros-at s 168 8 z 6 (lit< tt) in
    let b7 : get_or s 175 0 ≡ 0 = zeros-at s 168 8 z 7 (lit< tt) in
    rw (b0, b1, b2, b3, b4, b5, b6, b7)

-- n is shown where the definition of a refusal shows it
pub n-shown : (b : Bool) (n : ℕ) → leb n (cond b 32 0) ≡ true → cond b n 0 ≡ n
n-shown true n e = refl
n-shown false n e = let h : n ≤ 0 = leb-true n 0 e in omega arith

-- ---- the copy

module _ (s : List ℕ) (sized : length s ≡ 176) (bytes : Bytes s) where
  same : length s ≡ length blank_record
  same = sized ∙ sym (length-replicate {A = ℕ} 176 0)

  room : (k : ℕ) → k ≤ 176 → k ≤ length blank_record
  room k h = rw (length-replicate {A = ℕ} 176 0) h

  skip-zeros : (k count : ℕ) → k + count ≤ 176 → zeros s k count ≡ true → up_to s blank_record k ≡ up_to s blank_record (k + count)
  unfolding zeros
  skip-zeros k zero h e = let q : k + 0 ≡ k = omega arith in rw q
  skip-zeros k (suc c) h e =
      let t = both_true (zeros s k c) (eqb (get_or s (k + c) 0) 0) e in
      let q : k + c + 1 ≡ k + suc c = omega arith in
      skip-zeros k c (omega arith) t.0
      ∙ skip-byte s blank_record same (k + c) (room _ (omega arith)) (eqb-true _ _ t.1 ∙ sym (get_or-replicate {A = ℕ} 176 (k + c) 0 0 (omega arith)))
      ∙ rw q

  begin : blank_record ≡ up_to s blank_record 0
  unfolding up_to
  begin = refl

  end : up_to s blank_record 176 ≡ s
  unfolding up_to
  end = rw (take_all 176 s (omega arith), append-nil)

  u32 : (k : ℕ) → k + 4 ≤ 176 → put_u32 (up_to s blank_record k) k (u32_at s k) ≡ up_to s blank_record (k + 4)
  u32 k h = copy-u32 s blank_record same bytes k (room _ h)

  f64 : (k : ℕ) → k + 8 ≤ 176 → is_finite (f64_at s k) ≡ true → put_f64 (up_to s blank_record k) k (f64_at s k) ≡ up_to s blank_record (k + 8)
  f64 k h f = copy-f64 s blank_record same bytes k (room _ h) f

  head-copied
      : (answer detail n : ℕ) → answer ≡ u32_at s 0 → detail ≡ u32_at s 4 → n ≡ u32_at s 8
      → written blank_record (head answer detail n) ≡ up_to s blank_record 12
  head-copied answer detail n ea ed en =
      rw (ea, ed, en)
      (ap (λ (l : List ℕ). put_u32 (put_u32 (put_u32 l 0 (u32_at s 0)) 4 (u32_at s 4)) 8 (u32_at s 8)) begin
      ∙ ap (λ (l : List ℕ). put_u32 (put_u32 l 4 (u32_at s 4)) 8 (u32_at s 8)) (u32 0 (omega arith))
      ∙ ap (λ (l : List ℕ). put_u32 l 8 (u32_at s 8)) (u32 4 (omega arith))
      ∙ u32 8 (omega arith))

  three : (k : ℕ) → k + 24 ≤ 176 → is_finite (f64_at s k) ≡ true → is_finite (f64_at s (k + 8)) ≡ true → is_finite (f64_at s (k + 16)) ≡ true
      → put_three (up_to s blank_record k) k (three_at s k) ≡ up_to s blank_record (k + 24)
  three k h f g i =
      let p : k + 8 + 8 ≡ k + 16 = omega arith in
      let q : k + 16 + 8 ≡ k + 24 = omega arith in
      ap (λ (l : List ℕ). put_f64 (put_f64 l (k + 8) (f64_at s (k + 8))) (k + 16) (f64_at s (k + 16))) (f64 k (omega arith) f)
      ∙ ap (λ (l : List ℕ). put_f64 l (k + 16) (f64_at s (k + 16))) (f64 (k + 8) (omega arith) g ∙ rw p)
      ∙ f64 (k + 16) (omega arith) i
      ∙ rw q

  foot-copied
      : u16_at s 160 ≡ 8 → kind_at s ≤ 2 → zeros s 163 5 ≡ true → good_metres (kind_at s) s ≡ true → is_finite (f64_at s 168) ≡ true
      → written (up_to s blank_record 160) (foot (altitude_of (kind_at s) (f64_at s 168))) ≡ s
  foot-copied v k z m f =
      rw (sym v, kind-back (kind_at s) (f64_at s 168) k, metres-back (kind_at s) (f64_at s 168) k (zero-metres s (kind_at s) m))
      (ap (λ (l : List ℕ). put_f64 (set l 162 (get_or s 162 0)) 168 (f64_at s 168)) (copy-u16 s blank_record same bytes 160 (room _ (omega arith)))
      ∙ ap (λ (l : List ℕ). put_f64 l 168 (f64_at s 168)) (copy-byte s blank_record same 162 (room _ (omega arith)) ∙ skip-zeros 163 5 (omega arith) z)
      ∙ f64 168 (omega arith) f
      ∙ end)

  pub refusal-again : good_refusal s ≡ true → refusal (answer_at s) (detail_at s) (n_at s) ≡ s
  unfolding refusal good_refusal good_n
  refusal-again g =
      let shown = leb (n_at s) (cond (leb (answer_at s) 9) 32 0) in
      let r = all-4 (good_answer (answer_at s)) (good_detail (answer_at s) (detail_at s)) shown (zeros s 12 164) g in
      head-copied (answer_at s) (detail_at s) (cond (leb (answer_at s) 9) (n_at s) 0) refl refl (n-shown (leb (answer_at s) 9) (n_at s) r.2)
      ∙ skip-zeros 12 164 (omega arith) r.3
      ∙ end

  pub fix-again : answer_at s ≡ 0 → good_fix s ≡ true → fix (n_at s) (altitude_of (kind_at s) (f64_at s 168)) (fix_at s) ≡ s
  unfolding fix_at good_fix
  fix-again a g =
      let mask = good_mask (mask_at s) (n_at s) in
      let dof = good_dof (mask_at s) (kind_at s) (detail_at s) in
      let r = all-8 (leb (n_at s) 32) (eqb (version_at s) 8) (leb (kind_at s) 2) (good_floats s) mask dof (zeros s 163 5) (good_metres (kind_at s) s) g in
      let low = low-finite s g in
      let mid = high-finite s g in
      sym
      (parts (n_at s) (altitude_of (kind_at s) (f64_at s 168)) (fix_at s)
      (up_to s blank_record 12) (up_to s blank_record 16) (up_to s blank_record 40) (up_to s blank_record 48) (up_to s blank_record 56) (up_to s blank_record 64)
      (up_to s blank_record 72)
      (up_to s blank_record 80) (up_to s blank_record 104) (up_to s blank_record 128) (up_to s blank_record 152) (up_to s blank_record 160) s
      (sym (head-copied 0 (detail_at s) (n_at s) (sym a) refl refl))
      (sym (u32 12 (omega arith)))
      (sym (three 16 (omega arith) (low 0 (lit< tt)) (low 1 (lit< tt)) (low 2 (lit< tt))))
      (sym (f64 40 (omega arith) (low 3 (lit< tt))))
      (sym (f64 48 (omega arith) (low 4 (lit< tt))))
      (sym (f64 56 (omega arith) (low 5 (lit< tt))))
      (sym (f64 64 (omega arith) (low 6 (lit< tt))))
      (sym (copy-i64 s blank_record same bytes 72 (room _ (omega arith))))
      (sym (three 80 (omega arith) (mid 0 (lit< tt)) (mid 1 (lit< tt)) (mid 2 (lit< tt))))
      (sym (three 104 (omega arith) (mid 3 (lit< tt)) (mid 4 (lit< tt)) (mid 5 (lit< tt))))
      (sym (three 128 (omega arith) (mid 6 (lit< tt)) (mid 7 (lit< tt)) (mid 8 (lit< tt))))
      (sym (f64 152 (omega arith) (mid 9 (lit< tt))))
      (sym (foot-copied (eqb-true _ _ r.1) (leb-true _ _ r.2) r.6 r.7 (metres-finite s g))))

  by_answer
      : (b : Bool) → eqb (answer_at s) 0 ≡ b → cond b (good_fix s) (good_refusal s) ≡ true
      → bytes_of (cond b (fixed s) (refused (answer_at s) (detail_at s) (n_at s))) ≡ s
  unfolding bytes_of
  by_answer true e g = fix-again (eqb-true _ _ e) g
  by_answer false e g = rw e (refusal-again g)

  pub again : meets_rules s ≡ true → bytes_of (content_at s) ≡ s
  unfolding meets_rules content_at
  again g = by_answer (eqb (answer_at s) 0) refl g
