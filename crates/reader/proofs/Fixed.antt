-- A fix that is written is read back: every field, from the record's table (`reads`). Assumes nothing.
use Prim.Native.Nat.{ℕ, ◌+◌, ◌%◌, ◌^◌, ◌<◌}
use mathlib.Core.Path.{◌≡◌, refl, sym, ap, ◌∙◌}
use mathlib.Core.Bool.{true}
use mathlib.Core.List.{List, [], ◌∷◌, ◌++◌}
use native.Mathlib.Omega.{arith}
use lib.Dec.{T, lit<}
use lib.IntN.{ℤ}
use lib.ListN.{length, drop, get_or, set, length-replicate}
use lib.Ieee.{Float, binary64, fits, to_bits}
use lib.Ieee.Bits.{of_bits-to_bits, to_bits-lt}
use mir.Syntax.{w64}
use mir.Val.{to_z, of_z, SFits}
use mir.ValLaws.{to_z-of_z, of_z_fits}
use Rattle.binary64.specs.Steps.{#}
use Rattle.dense.specs.Entries.{nth}
use Rattle.words.specs.Words.{word_at, put_word, u32_at, u64_at, i64_at, f64_at, put_u16, put_u32, put_u64, put_i64, put_f64}
use Rattle.words.proofs.Back.{lowest, lowest-whole}
use Rattle.problem.specs.declared.Altitude.{Altitude}
use Rattle.problem.specs.declared.Altitude.TheVariants.{None, Barometric, Gnss}
use Rattle.record.specs.declared.content.Fix.{Fix}
use Rattle.record.specs.Record.{written, foot, blank_record, kind, metres, fix}
use Rattle.reader.specs.declared.content.Content.{Content}
use Rattle.reader.specs.Read.{three_at, altitude_of, fixed}
use Rattle.reader.specs.Meaning.{HeldThree, HeldFix}
use Rattle.reader.proofs.Assembled.{fix-fields, content-fields}
use Rattle.reader.proofs.Table.{Word, word, put_all, apart, Reads, reads, first_read, whole-read, later-read}

abbrev pub bits : Float → ℕ
bits x = to_bits binary64 x

-- the table of a fix, but for its foot
unfoldable pub front : ℕ → Fix → List Word
front n f =
    word 4 0 0 ∷ word 4 4 f.dof ∷ word 4 8 n ∷ word 4 12 f.mask
    ∷ word 8 16 (bits (nth f.ecef 0)) ∷ word 8 24 (bits (nth f.ecef 1)) ∷ word 8 32 (bits (nth f.ecef 2))
    ∷ word 8 40 (bits f.t)
    ∷ word 8 48 (bits f.position.lat_deg) ∷ word 8 56 (bits f.position.lon_deg) ∷ word 8 64 (bits f.position.height_m)
    ∷ word 8 72 (of_z w64 f.transmit_ps)
    ∷ word 8 80 (bits (nth f.r0 0)) ∷ word 8 88 (bits (nth f.r0 1)) ∷ word 8 96 (bits (nth f.r0 2))
    ∷ word 8 104 (bits (nth f.r1 0)) ∷ word 8 112 (bits (nth f.r1 1)) ∷ word 8 120 (bits (nth f.r1 2))
    ∷ word 8 128 (bits (nth f.r2 0)) ∷ word 8 136 (bits (nth f.r2 1)) ∷ word 8 144 (bits (nth f.r2 2))
    ∷ word 8 152 (bits f.chi2) ∷ []

abbrev pub last : Altitude → List Word
last alt = word 2 160 8 ∷ word 1 162 (kind alt) ∷ word 8 168 (bits (metres alt)) ∷ []

unfoldable pub table : ℕ → Altitude → Fix → List Word
unfolding front
table n alt f = front n f ++ last alt

byte_put : (r : List ℕ) (k x : ℕ) → x < 256 → set r k x ≡ put_word 1 r k x
unfolding put_word
byte_put r k x h = let e : x % 256 ≡ x = omega arith in rw e

pub kind-lt : (alt : Altitude) → kind alt < 256
kind-lt None = lit< tt
kind-lt (Barometric m) = lit< tt
kind-lt (Gnss m) = lit< tt

pub altitude-back : (alt : Altitude) → alt ≡ altitude_of (kind alt) (metres alt)
altitude-back None = refl
altitude-back (Barometric m) = refl
altitude-back (Gnss m) = refl

foot-table : (r : List ℕ) (alt : Altitude) → written r (foot alt) ≡ put_all r (last alt)
unfolding put_all put_u16 put_u64 put_f64
foot-table r alt = ap (λ (l : List ℕ). put_word 8 l 168 (bits (metres alt))) (byte_put (put_word 2 r 160 8) 162 (kind alt) (kind-lt alt))

pub fix-table : (n : ℕ) (alt : Altitude) (f : Fix) → fix n alt f ≡ put_all blank_record (table n alt f)
unfolding fix table put_all put_u16 put_u32 put_u64 put_i64 put_f64
fix-table n alt f = foot-table (put_all blank_record (front n f)) alt

bits-lt : (x : Float) → T (fits binary64 x) → bits x < 256 ^ 8
bits-lt x h = to_bits-lt binary64 x h

pub f64-back : (s : List ℕ) (k : ℕ) (x : Float) → word_at 8 s k ≡ lowest 8 (bits x) → T (fits binary64 x) → x ≡ f64_at s k
unfolding f64_at u64_at
f64-back s k x e h = sym (ap # (e ∙ lowest-whole 8 (bits x) (bits-lt x h)) ∙ of_bits-to_bits binary64 x h)

three-list : (v : List Float) → length v ≡ 3 → nth v 0 ∷ nth v 1 ∷ nth v 2 ∷ [] ≡ v
three-list [] e = absurd (omega arith)
three-list (a ∷ []) e = absurd (omega arith)
three-list (a ∷ b ∷ []) e = absurd (omega arith)
three-list (a ∷ b ∷ c ∷ []) e = refl
three-list (a ∷ b ∷ c ∷ d ∷ v) e = absurd (omega arith)

three_back
    : (s : List ℕ) (k : ℕ) (v : List Float) → HeldThree v
    → word_at 8 s k ≡ lowest 8 (bits (nth v 0)) → word_at 8 s (k + 8) ≡ lowest 8 (bits (nth v 1))
    → word_at 8 s (k + 16) ≡ lowest 8 (bits (nth v 2))
    → v ≡ three_at s k
three_back s k v h x y z =
    sym (three-list v h.size) ∙ rw (f64-back s k (nth v 0) x h.x, f64-back s (k + 8) (nth v 1) y h.y, f64-back s (k + 16) (nth v 2) z h.z)

pub u32-back : (s : List ℕ) (k x : ℕ) → word_at 4 s k ≡ x → x ≡ u32_at s k
unfolding u32_at
u32-back s k x e = sym e

pub i64-back : (s : List ℕ) (k : ℕ) (x : ℤ) → word_at 8 s k ≡ of_z w64 x → SFits w64 x → x ≡ i64_at s k
unfolding i64_at u64_at
i64-back s k x e h = sym (ap (to_z w64) e ∙ to_z-of_z w64 x h)

pub byte-back : (s : List ℕ) (k x : ℕ) → word_at 1 s k ≡ x → get_or s k 0 ≡ x
unfolding word_at
byte-back s k x e = omega arith

-- every word of it lies apart, whatever the numbers are
module _ (n : ℕ) (alt : Altitude) (f : Fix) where
  table-apart : apart 176 0 (table n alt f) ≡ true
  unfolding table front apart
  table-apart = refl

  pub table-read : Reads (fix n alt f) (table n alt f)
  table-read = rw (fix-table n alt f) (reads 176 (table n alt f) blank_record 0 (length-replicate {A = ℕ} 176 0) table-apart)

  pub answer-read : u32_at (fix n alt f) 0 ≡ 0
  unfolding table front
  answer-read = sym (u32-back (fix n alt f) 0 0 (whole-read table-read (lit< tt)))

module _ (n : ℕ) (alt : Altitude) (f : Fix) (few : n < 2 ^ 32) (h : HeldFix f) (m : T (fits binary64 (metres alt))) where
  pub fix-read : ◌≡◌ {A = Content} (record { answer = 0; detail = f.dof; n = n; altitude = alt; fix = f }) (fixed (fix n alt f))
  unfolding table front
  fix-read =
      let s = fix n alt f in
      let at : (i : ℕ) → Reads s (drop i (table n alt f)) = λ i. later-read i (table-read n alt f) in
      let detail = u32-back s 4 f.dof (whole-read (at 1) h.dof) in
      content-fields s detail (u32-back s 8 n (whole-read (at 2) few))
      (sym (byte-back s 162 (kind alt) (whole-read (at 23) (kind-lt alt))))
      (f64-back s 168 (metres alt) (first_read (at 24)) m)
      (altitude-back alt)
      (fix-fields s (u32-back s 12 f.mask (whole-read (at 3) h.mask)) detail
      (three_back s 16 f.ecef h.ecef (first_read (at 4)) (first_read (at 5)) (first_read (at 6)))
      (f64-back s 40 f.t (first_read (at 7)) h.t)
      (f64-back s 48 f.position.lat_deg (first_read (at 8)) h.lat)
      (f64-back s 56 f.position.lon_deg (first_read (at 9)) h.lon)
      (f64-back s 64 f.position.height_m (first_read (at 10)) h.height)
      (i64-back s 72 f.transmit_ps (whole-read (at 11) (of_z_fits w64 _ h.ps).fits) h.ps)
      (three_back s 80 f.r0 h.r0 (first_read (at 12)) (first_read (at 13)) (first_read (at 14)))
      (three_back s 104 f.r1 h.r1 (first_read (at 15)) (first_read (at 16)) (first_read (at 17)))
      (three_back s 128 f.r2 h.r2 (first_read (at 18)) (first_read (at 19)) (first_read (at 20)))
      (f64-back s 152 f.chi2 (first_read (at 21)) h.chi2))
