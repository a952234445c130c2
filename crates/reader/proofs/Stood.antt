-- What stands at each place of a fix's record: its table, read word by word, and the bytes between the words. Assumes nothing.
use Prim.Native.Nat.{ℕ, zero, suc, ◌+◌, ◌*◌, ◌/◌, ◌%◌, ◌^◌, ◌<◌}
use mathlib.Core.Path.{◌≡◌, sym, ap, ◌∙◌}
use mathlib.Core.List.{List}
use native.Mathlib.Omega.{arith}
use native.Mathlib.Nat.{pow-suc, one-le-pow}
use lib.Arith.{mod-mul}
use lib.ListN.{drop}
use lib.Ieee.{Float, binary64}
use lib.Ieee.Bits.{of_bits-to_bits, to_bits-lt}
use mir.Syntax.{w64}
use mir.Val.{SFits}
use mir.ValLaws.{of_z_fits}
use Rattle.binary64.specs.Steps.{#}
use Rattle.dense.specs.Entries.{nth}
use Rattle.words.specs.Words.{word_at, u64_at, f64_at}
use Rattle.words.proofs.Back.{lowest}
use Rattle.problem.specs.declared.Altitude.{Altitude}
use Rattle.record.specs.declared.content.Fix.{Fix}
use Rattle.record.specs.Record as shown
use Rattle.reader.specs.Stands.{Shows, ShownIsRead, Stands, FixStands}
use Rattle.reader.proofs.Clause.{Clause}
use Rattle.reader.proofs.Table.{Reads, first_read, whole-read, later-read}
use Rattle.reader.proofs.Fixed.{bits, front, table, table-read, answer-read, u32-back, i64-back}
use Rattle.reader.proofs.Value.{fix-sized}
use Rattle.reader.proofs.Shown.{version-shown, kind-shown, filler-shown, none-shown}

-- w digits to the base 256 are the remainder by 256 ^ w
lowest-mod : (w x : ℕ) → lowest w x ≡ x % 256 ^ w
unfolding lowest
lowest-mod zero x = let e : x % 1 ≡ 0 = omega arith in sym e
lowest-mod (suc w) x =
    let m : x % (256 ^ w * 256) ≡ x / 256 % 256 ^ w * 256 + x % 256 =
    mod-mul x {m = 256 ^ w} {c = 256} (one-le-pow w 256 (omega arith)) (omega arith) in
    rw (lowest-mod w (x / 256), pow-suc 256 w, m) (omega arith)

shows : (s : List ℕ) (k : ℕ) (x : Float) → word_at 8 s k ≡ lowest 8 (bits x) → Shows s k x
unfolding u64_at
shows s k x e = e ∙ lowest-mod 8 (bits x)

pub shown-is-read : ShownIsRead
unfolding f64_at
shown-is-read s k x h e =
    let b : bits x < 2 ^ 64 = to_bits-lt binary64 x h in
    let w : bits x % 2 ^ 64 ≡ bits x = omega (arith, b) in
    ap # (e ∙ w) ∙ of_bits-to_bits binary64 x h

-- three numbers, one by one
three-shown
    : (s : List ℕ) (k : ℕ) (v : List Float) → Shows s k (nth v 0) → Shows s (k + 8) (nth v 1) → Shows s (k + 16) (nth v 2)
    → (j : ℕ) → j < 3 → Shows s (k + 8 * j) (nth v j)
three-shown s k v x y z zero h = let e : k + 8 * 0 ≡ k = omega arith in rw e x
three-shown s k v x y z (suc zero) h = y
three-shown s k v x y z (suc (suc zero)) h = z
three-shown s k v x y z (suc (suc (suc j))) h = absurd (omega (arith, h))

-- the record of a fix, clause by clause
module _ (n : ℕ) (alt : Altitude) (f : Fix) where
  abbrev s : List ℕ
  s = shown.fix n alt f

  abbrev Standing : Type 0
  Standing = Stands s n alt f

  at : (i : ℕ) → Reads s (drop i (table n alt f))
  at i = later-read i (table-read n alt f)

  stands-size : Clause (λ (h : Standing). h.size)
  stands-size = fix-sized n alt f

  stands-answer : Clause (λ (h : Standing). h.answer)
  stands-answer = answer-read n alt f

  stands-detail : f.dof < 2 ^ 32 → Clause (λ (h : Standing). h.detail)
  unfolding table front
  stands-detail few = sym (u32-back s 4 f.dof (whole-read (at 1) few))

  stands-considered : n < 2 ^ 32 → Clause (λ (h : Standing). h.considered)
  unfolding table front
  stands-considered few = sym (u32-back s 8 n (whole-read (at 2) few))

  stands-mask : f.mask < 2 ^ 32 → Clause (λ (h : Standing). h.mask)
  unfolding table front
  stands-mask few = sym (u32-back s 12 f.mask (whole-read (at 3) few))

  stands-ecef : Clause (λ (h : Standing). h.ecef)
  unfolding table front
  stands-ecef = three-shown s 16 f.ecef (shows s 16 _ (first_read (at 4))) (shows s 24 _ (first_read (at 5))) (shows s 32 _ (first_read (at 6)))

  stands-t : Clause (λ (h : Standing). h.t)
  unfolding table front
  stands-t = shows s 40 f.t (first_read (at 7))

  stands-lat : Clause (λ (h : Standing). h.lat)
  unfolding table front
  stands-lat = shows s 48 f.position.lat_deg (first_read (at 8))

  stands-lon : Clause (λ (h : Standing). h.lon)
  unfolding table front
  stands-lon = shows s 56 f.position.lon_deg (first_read (at 9))

  stands-height : Clause (λ (h : Standing). h.height)
  unfolding table front
  stands-height = shows s 64 f.position.height_m (first_read (at 10))

  stands-transmit : SFits w64 f.transmit_ps → Clause (λ (h : Standing). h.transmit)
  unfolding table front
  stands-transmit ps = sym (i64-back s 72 f.transmit_ps (whole-read (at 11) (of_z_fits w64 _ ps).fits) ps)

  stands-r0 : Clause (λ (h : Standing). h.r0)
  unfolding table front
  stands-r0 = three-shown s 80 f.r0 (shows s 80 _ (first_read (at 12))) (shows s 88 _ (first_read (at 13))) (shows s 96 _ (first_read (at 14)))

  stands-r1 : Clause (λ (h : Standing). h.r1)
  unfolding table front
  stands-r1 = three-shown s 104 f.r1 (shows s 104 _ (first_read (at 15))) (shows s 112 _ (first_read (at 16))) (shows s 120 _ (first_read (at 17)))

  stands-r2 : Clause (λ (h : Standing). h.r2)
  unfolding table front
  stands-r2 = three-shown s 128 f.r2 (shows s 128 _ (first_read (at 18))) (shows s 136 _ (first_read (at 19))) (shows s 144 _ (first_read (at 20)))

  stands-chi2 : Clause (λ (h : Standing). h.chi2)
  unfolding table front
  stands-chi2 = shows s 152 f.chi2 (first_read (at 21))

  stands-version : Clause (λ (h : Standing). h.version)
  stands-version = version-shown n alt f

  stands-kind : Clause (λ (h : Standing). h.kind)
  stands-kind = kind-shown n alt f

  stands-filler : Clause (λ (h : Standing). h.filler)
  stands-filler = filler-shown n alt f

  stands-metres : Clause (λ (h : Standing). h.metres)
  unfolding table front
  stands-metres = shows s 168 (shown.metres alt) (first_read (at 24))

  stands-none : Clause (λ (h : Standing). h.none)
  stands-none e = none-shown n alt f (kind-shown n alt f ∙ e)

pub fix-stands : FixStands
fix-stands n alt f few dof mask ps = record {
  size = stands-size n alt f;
  answer = stands-answer n alt f;
  detail = stands-detail n alt f dof;
  considered = stands-considered n alt f few;
  mask = stands-mask n alt f mask;
  ecef = stands-ecef n alt f;
  t = stands-t n alt f;
  lat = stands-lat n alt f;
  lon = stands-lon n alt f;
  height = stands-height n alt f;
  transmit = stands-transmit n alt f ps;
  r0 = stands-r0 n alt f;
  r1 = stands-r1 n alt f;
  r2 = stands-r2 n alt f;
  chi2 = stands-chi2 n alt f;
  version = stands-version n alt f;
  kind = stands-kind n alt f;
  filler = stands-filler n alt f;
  metres = stands-metres n alt f;
  none = stands-none n alt f;
}
