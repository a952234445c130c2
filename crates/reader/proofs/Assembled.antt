-- The fields of a record, read one by one, make what it holds; the answers to the single rules make the answer to all. Assumes nothing.
use Prim.Native.Nat.{ℕ, ◌<◌, ◌≤◌}
use mathlib.Core.Path.{◌≡◌}
use mathlib.Core.Bool.{Bool, false, ◌&&◌}
use mathlib.Core.List.{List}
use native.Mathlib.Omega.{arith}
use lib.Dec.{leb, eqb}
use lib.IntN.{ℤ}
use lib.ListN.{get_or}
use lib.Ieee.{Float}
use borrow.Author.Tests.{le-leb, lt-leb, ne_eqb}
use Rattle.words.specs.Words.{u16_at, u32_at, i64_at, f64_at}
use Rattle.problem.specs.declared.Altitude.{Altitude}
use Rattle.record.specs.declared.content.Fix.{Fix}
use Rattle.reader.specs.declared.content.Content.{Content}
use Rattle.reader.specs.Tests.{zeros, good_answer, good_detail, good_n, good_mask, good_dof, good_floats, good_metres, good_fix, good_refusal}
use Rattle.reader.specs.Read.{three_at, altitude_of, fix_at, fixed, refused, content_at}

module _ (s : List ℕ) where
  pub fix-fields
      : {mask dof : ℕ} {ecef r0 r1 r2 : List Float} {t lat lon height chi2 : Float} {ps : ℤ}
      → mask ≡ u32_at s 12
      → dof ≡ u32_at s 4
      → ecef ≡ three_at s 16
      → t ≡ f64_at s 40
      → lat ≡ f64_at s 48
      → lon ≡ f64_at s 56
      → height ≡ f64_at s 64
      → ps ≡ i64_at s 72
      → r0 ≡ three_at s 80
      → r1 ≡ three_at s 104
      → r2 ≡ three_at s 128
      → chi2 ≡ f64_at s 152
      → ◌≡◌ {A = Fix} (record {
        mask = mask;
        dof = dof;
        ecef = ecef;
        t = t;
        position = record { lat_deg = lat; lon_deg = lon; height_m = height };
        transmit_ps = ps;
        r0 = r0;
        r1 = r1;
        r2 = r2;
        chi2 = chi2;
      }) (fix_at s)
  unfolding fix_at
  fix-fields a b c d e f g h i j k l = rw (a, b, c, d, e, f, g, h, i, j, k, l)

  pub content-fields
      : {detail n kind : ℕ} {altitude : Altitude} {metres : Float} {fix : Fix}
      → detail ≡ u32_at s 4
      → n ≡ u32_at s 8
      → kind ≡ get_or s 162 0
      → metres ≡ f64_at s 168
      → altitude ≡ altitude_of kind metres
      → fix ≡ fix_at s
      → ◌≡◌ {A = Content} (record { answer = 0; detail = detail; n = n; altitude = altitude; fix = fix }) (fixed s)
  content-fields a b c d e f = rw (e, a, b, c, d, f)

  -- the two cases of what a record holds
  pub content-fixed : u32_at s 0 ≡ 0 → fixed s ≡ content_at s
  unfolding content_at
  content-fixed e = rw e

  pub content-refused : (u32_at s 0 ≡ 0 → ⊥) → refused (u32_at s 0) (u32_at s 4) (u32_at s 8) ≡ content_at s
  unfolding content_at
  content-refused n = rw (ne_eqb (u32_at s 0) 0 n)

  pub many : {n : ℕ} → n ≡ u32_at s 8 → 32 < n → false ≡ good_fix s
  unfolding good_fix
  many {n} e h = let l : 32 < u32_at s 8 = omega arith in rw (lt-leb (u32_at s 8) 32 l)

  pub fix-rules
      : {n detail mask version : ℕ} {b1 b2 b3 b4 b5 b6 z gm m d fl : Bool}
      → n ≡ u32_at s 8
      → n ≤ 32
      → detail ≡ u32_at s 4
      → mask ≡ u32_at s 12
      → version ≡ u16_at s 160
      → z ≡ zeros s 163 5
      → gm ≡ good_metres (get_or s 162 0) s
      → b1 ≡ (z && gm)
      → m ≡ good_mask mask n
      → d ≡ good_dof mask (get_or s 162 0) detail
      → b2 ≡ (d && b1)
      → b3 ≡ (m && b2)
      → fl ≡ good_floats s
      → b4 ≡ (fl && b3)
      → b5 ≡ (leb (get_or s 162 0) 2 && b4)
      → b6 ≡ (eqb version 8 && b5)
      → b6 ≡ good_fix s
  unfolding good_fix
  fix-rules {n = n} en ln ed em ev ez eg e1 emk edf e2 e3 ef e4 e5 e6 =
      let l : u32_at s 8 ≤ 32 = omega arith in
      rw (e6, e5, e4, e3, e2, e1, ez, eg, emk, edf, ef, en, ed, em, ev, le-leb (u32_at s 8) 32 l)

  pub refusal-rules
      : {answer detail n : ℕ} {b1 b2 b3 z gn ga gd : Bool}
      → answer ≡ u32_at s 0
      → detail ≡ u32_at s 4
      → n ≡ u32_at s 8
      → gn ≡ good_n answer n
      → z ≡ zeros s 12 164
      → b1 ≡ (gn && z)
      → ga ≡ good_answer answer
      → gd ≡ good_detail answer detail
      → b2 ≡ (gd && b1)
      → b3 ≡ (ga && b2)
      → b3 ≡ good_refusal s
  unfolding good_refusal
  refusal-rules a d n gn z e1 ga gd e2 e3 = rw (e3, e2, e1, z, gn, ga, gd, a, d, n)
