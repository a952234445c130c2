-- A fix record part by part: each is the one before with the next rows of the table. Assumes nothing.
use Prim.Native.Nat.{ℕ}
use mathlib.Core.Path.{◌≡◌}
use mathlib.Core.List.{List}
use Rattle.words.specs.Words.{put_u32, put_i64, put_f64}
use Rattle.problem.specs.declared.Altitude.{Altitude}
use Rattle.record.specs.declared.content.Fix.{Fix}
use Rattle.record.specs.Record.{put_three, written, head, foot, blank_record, fix}

pub parts
    : (n : ℕ) (altitude : Altitude) (f : Fix) (a b c d e g h i j k l o q : List ℕ)
    → a ≡ written blank_record (head 0 f.dof n)
    → b ≡ put_u32 a 12 f.mask
    → c ≡ put_three b 16 f.ecef
    → d ≡ put_f64 c 40 f.t
    → e ≡ put_f64 d 48 f.position.lat_deg
    → g ≡ put_f64 e 56 f.position.lon_deg
    → h ≡ put_f64 g 64 f.position.height_m
    → i ≡ put_i64 h 72 f.transmit_ps
    → j ≡ put_three i 80 f.r0
    → k ≡ put_three j 104 f.r1
    → l ≡ put_three k 128 f.r2
    → o ≡ put_f64 l 152 f.chi2
    → q ≡ written o (foot altitude)
    → q ≡ fix n altitude f
unfolding fix
parts n altitude f a b c d e g h i j k l o q pa pb pc pd pe pg ph pi pj pk pl po pq = rw (pq, po, pl, pk, pj, pi, ph, pg, pe, pd, pc, pb, pa)
