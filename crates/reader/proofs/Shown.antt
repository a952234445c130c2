-- A record whose numbers keep to the rules meets them: that of a refusal, and that of a fix whose floats are finite. And what
-- is written of equal entries of a covariance is equal to the bit, whatever they are. Assumes nothing.
use Prim.Native.Nat.{ℕ, ◌+◌, ◌*◌, ◌^◌, ◌<◌, ◌≤◌}
use mathlib.Core.Path.{◌≡◌, refl, sym, ap, subst, ◌∙◌}
use mathlib.Core.Bool.{Bool, true, false, cond}
use mathlib.Core.Logic.{◌⊎◌, inl, inr}
use mathlib.Core.List.{List}
use native.Mathlib.Omega.{arith}
use native.Mathlib.Nat.{lt_of_lt_of_le}
use borrow.Author.Tests.{leb-true, lt-leb}
use lib.Dec.{T, leb, eqb, lit<}
use lib.Pow.{pow_mono}
use lib.ListN.{drop}
use lib.Ieee.{Float, binary64, fits, of_bits, to_bits}
use Rattle.dense.specs.Entries.{nth}
use Rattle.sets.specs.Mask.{has}
use Rattle.sets.proofs.Counting.{count-le}
use Rattle.sets.proofs.Digits.{has-below}
use Rattle.words.specs.Words.{u16_at, u64_at, f64_at}
use Rattle.words.proofs.Back.{lowest, zero-bytes}
use Rattle.problem.specs.declared.Altitude.{Altitude}
use Rattle.problem.specs.declared.Altitude.TheVariants.{None, Barometric, Gnss}
use Rattle.record.specs.declared.content.Fix.{Fix}
use Rattle.record.specs.Record.{blank_record, kind, metres, fix, refusal}
use Rattle.reader.specs.Rules.{answer_at, detail_at, n_at, mask_at, version_at, kind_at, Zero, Finite, IsDof, DetailRule, Rules}
use Rattle.reader.proofs.Table.{Reads, first_read, whole-read, later-read, clear, stays}
use Rattle.reader.proofs.Fixed.{bits, front, table, fix-table, table-read, answer-read, u32-back, byte-back, f64-back, kind-lt}
use Rattle.reader.proofs.Value.{heads, refusal-table, heads-read, zero-at, zero_word}

-- ---- a refusal

-- n is shown up to 9
shown-few : (a n : ℕ) → (a ≤ 9 → n ≤ 32) → cond (leb a 9) n 0 ≤ 32
shown-few a n h = go (leb a 9) refl
  where
    go : (b : Bool) → leb a 9 ≡ b → cond b n 0 ≤ 32
    go true e = h (leb-true a 9 e)
    go false e = omega arith

shown-none : (a n : ℕ) → 9 < a → cond (leb a 9) n 0 ≡ 0
shown-none a n h = rw (lt-leb a 9 h)

answer_lt : (a : ℕ) → (a ≤ 13) ⊎ (a ≡ 15) → a < 2 ^ 32
answer_lt a (inl h) = omega arith
answer_lt a (inr e) = omega arith

module _ (a d n : ℕ) where
  abbrev m : ℕ
  m = cond (leb a 9) n 0

  clear-heads : clear 12 176 (heads a d m) ≡ true
  unfolding heads clear
  clear-heads = refl

  -- all bytes past n
  pub refusal-zero : Zero (refusal a d n) 12 176
  refusal-zero j h g = rw (refusal-table a d n) (stays (heads a d m) blank_record 12 176 j clear-heads h g ∙ zero-at 176 j)

  -- so every entry of the covariance
  pub refusal-u64 : (k : ℕ) → 12 ≤ k → k + 8 ≤ 176 → u64_at (refusal a d n) k ≡ 0
  unfolding u64_at
  refusal-u64 k h g = zero_word 8 (refusal a d n) k (λ j p q. refusal-zero j (omega arith) (omega arith))

  pub refusal-rules
      : (a ≡ 0 → ⊥) → (a ≤ 13) ⊎ (a ≡ 15) → d < 2 ^ 32 → DetailRule a d → (a ≤ 9 → n ≤ 32) → Rules (refusal a d n)
  unfolding heads
  refusal-rules z answers fits rule few =
      let s = refusal a d n in
      let r = heads-read a d n in
      let lm : m ≤ 32 = shown-few a n few in
      let ea : a ≡ answer_at s = u32-back s 0 a (whole-read r (answer_lt a answers)) in
      let ed : d ≡ detail_at s = u32-back s 4 d (whole-read (later-read 1 r) fits) in
      let en : m ≡ n_at s = u32-back s 8 m (whole-read (later-read 2 r) (omega arith)) in
      record {
        answer = subst (λ (x : ℕ). (x ≤ 13) ⊎ (x ≡ 15)) ea answers;
        n = subst (λ (x : ℕ). x ≤ 32) en lm;
        fix = λ e. absurd (z (ea ∙ e));
        refusal = λ e. record {
          detail = subst (λ (x : ℕ). DetailRule x (detail_at s)) ea (subst (λ (y : ℕ). DetailRule a y) ed rule);
          n = λ h. sym en ∙ shown-none a n (subst (λ (x : ℕ). 9 < x) (sym ea) h);
          unused = refusal-zero;
        };
      }

-- ---- a fix

kind-le : (alt : Altitude) → kind alt ≤ 2
kind-le None = omega arith
kind-le (Barometric x) = omega arith
kind-le (Gnss x) = omega arith

-- no altitude has zero bytes for its metres
none-bits : (alt : Altitude) → kind alt ≡ 0 → lowest 8 (bits (metres alt)) ≡ 0
unfolding lowest of_bits to_bits
none-bits None e = refl
none-bits (Barometric x) e = absurd (omega arith)
none-bits (Gnss x) e = absurd (omega arith)

bit_le : (b : Bool) → cond b 0 1 ≤ 1
bit_le true = omega arith
bit_le false = omega arith

module _ (n : ℕ) (alt : Altitude) (f : Fix) where
  abbrev s : List ℕ
  s = fix n alt f

  at : (i : ℕ) → Reads s (drop i (table n alt f))
  at i = later-read i (table-read n alt f)

  -- mirrored entries that are equal
  pub mirror-shown
      : nth f.r0 1 ≡ nth f.r1 0 → nth f.r0 2 ≡ nth f.r2 0 → nth f.r1 2 ≡ nth f.r2 1
      → (u64_at s 88 ≡ u64_at s 104) × (u64_at s 96 ≡ u64_at s 128) × (u64_at s 120 ≡ u64_at s 136)
  unfolding u64_at table front
  mirror-shown x y z = (
    first_read (at 13) ∙ ap (λ (v : Float). lowest 8 (bits v)) x ∙ sym (first_read (at 15)),
    first_read (at 14) ∙ ap (λ (v : Float). lowest 8 (bits v)) y ∙ sym (first_read (at 18)),
    first_read (at 17) ∙ ap (λ (v : Float). lowest 8 (bits v)) z ∙ sym (first_read (at 19)),
  )

  -- metres that an f64 holds
  pub metres-shown : T (fits binary64 (metres alt)) → metres alt ≡ f64_at s 168
  unfolding table front
  metres-shown h = f64-back s 168 (metres alt) (first_read (at 24)) h

  pub version-shown : version_at s ≡ 8
  unfolding u16_at table front
  version-shown = whole-read (at 22) (lit< tt)

  pub kind-shown : kind_at s ≡ kind alt
  unfolding table front
  kind-shown = byte-back s 162 (kind alt) (whole-read (at 23) (kind-lt alt))

  pub none-shown : kind_at s ≡ 0 → Zero s 168 176
  unfolding table front
  none-shown e = zero-bytes 8 s 168 (first_read (at 24) ∙ none-bits alt (sym kind-shown ∙ e))

  clear-filler : clear 163 168 (table n alt f) ≡ true
  unfolding table front clear
  clear-filler = refl

  pub filler-shown : Zero s 163 168
  filler-shown j h g = rw (fix-table n alt f) (stays (table n alt f) blank_record 163 168 j clear-filler h g ∙ zero-at 176 j)

  pub fix-rules
      : n ≤ 32 → f.mask < 2 ^ n → IsDof f.mask (kind alt) f.dof
      → ((i : ℕ) → i < 7 → Finite s (16 + 8 * i)) → ((i : ℕ) → i < 10 → Finite s (80 + 8 * i)) → Finite s 168 → Rules s
  unfolding table front
  fix-rules few mask dof places claims metres =
      let most : f.mask < 2 ^ 32 = lt_of_lt_of_le mask (pow_mono few) in
      let free : f.dof < 2 ^ 32 = omega (arith, count-le (has f.mask) 32, bit_le (eqb (kind alt) 0)) in
      let ed : f.dof ≡ detail_at s = u32-back s 4 f.dof (whole-read (at 1) free) in
      let en : n ≡ n_at s = u32-back s 8 n (whole-read (at 2) (omega arith)) in
      let em : f.mask ≡ mask_at s = u32-back s 12 f.mask (whole-read (at 3) most) in
      record {
        answer = inl (let e : answer_at s ≡ 0 = answer-read n alt f in omega arith);
        n = subst (λ (x : ℕ). x ≤ 32) en few;
        fix = λ e. record {
          version = version-shown;
          kind = subst (λ (x : ℕ). x ≤ 2) (sym kind-shown) (kind-le alt);
          places = places;
          claims = claims;
          metres = metres;
          mask = λ i t. subst (λ (x : ℕ). i < x) en (has-below n f.mask i mask (subst (λ (x : ℕ). T (has x i)) (sym em) t));
          dof = subst (λ (x : ℕ). IsDof x (kind_at s) (detail_at s)) em
              (subst (λ (x : ℕ). IsDof f.mask x (detail_at s)) (sym kind-shown) (subst (λ (x : ℕ). IsDof f.mask (kind alt) x) ed dof));
          filler = filler-shown;
          unused = none-shown;
        };
        refusal = λ z. absurd (z (answer-read n alt f));
      }
