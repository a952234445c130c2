-- Rows written one after the other: no byte comes or goes, and an f64 written last is read back. Assumes nothing.
use Prim.Native.Nat.{ℕ, ◌+◌, ◌<◌, ◌≤◌, ◌^◌}
use mathlib.Core.Path.{◌≡◌, refl, ◌∙◌}
use mathlib.Core.List.{List, [], ◌∷◌, ◌++◌}
use lib.ListN.{length, length-set}
use lib.Ieee.{Float, binary64, to_bits}
use Rattle.words.specs.Words.{u64_at, put_u16, put_u32, put_u64, put_i64, put_f64}
use Rattle.words.proofs.Back.{put-length, read_back}
use Rattle.record.specs.Record.{Field, u8, u16, u32, i64, f64, three-f64, Row, from, written_at, written}

f64-length : (r : List ℕ) (k : ℕ) (x : Float) → length (put_f64 r k x) ≡ length r
unfolding put_f64 put_u64
f64-length r k x = put-length 8 r k (to_bits binary64 x)

row-length : (r : List ℕ) (k : ℕ) (x : Field) → length (written_at r k x) ≡ length r
unfolding put_u16 put_u32 put_i64 put_u64
row-length r k (u8 x) = length-set r k x
row-length r k (u16 x) = put-length 2 r k x
row-length r k (u32 x) = put-length 4 r k x
row-length r k (i64 x) = put-length 8 r k _
row-length r k (f64 x) = f64-length r k x
row-length r k (three-f64 v) = f64-length _ (k + 16) _ ∙ f64-length _ (k + 8) _ ∙ f64-length r k _

rows-length : (r : List ℕ) (rows : List Row) → length (written r rows) ≡ length r
rows-length r [] = refl
rows-length r (from k x ∷ rows) = rows-length (written_at r k x) rows ∙ row-length r k x

rows_last : (r : List ℕ) (rows : List Row) (k : ℕ) (x : Float) → written r (rows ++ from k (f64 x) ∷ []) ≡ put_f64 (written r rows) k x
rows_last r [] k x = refl
rows_last r (from j y ∷ rows) k x = rows_last (written_at r j y) rows k x

pub last-read
    : (r : List ℕ) (rows : List Row) (k : ℕ) (x : Float) (bits : ℕ) → k + 8 ≤ length r → bits < 2 ^ 64 → to_bits binary64 x ≡ bits
    → u64_at (written r (rows ++ from k (f64 x) ∷ [])) k ≡ bits
unfolding u64_at put_f64 put_u64
last-read r rows k x bits h l e = rw (rows_last r rows k x, e) (read_back 8 (written r rows) k bits (rw (rows-length r rows) h) l)
