-- Which values may be written, and the three ends of a write. Assumes nothing.
use Prim.Native.Nat.{ℕ, ◌<◌, ◌≤◌}
use mathlib.Core.Path.{◌≡◌}
use mathlib.Core.Bool.{Bool, true, false, ◌&&◌}
use mathlib.Core.List.{List}
use lib.Dec.{eqb, ltb}
use lib.ListN.{length}
use borrow.Author.Tests.{eq-eqb, ne_eqb, lt-ltb, le-ltb}
use Rattle.record.specs.Record.{stored}
use Rattle.reader.specs.declared.content.Content.{Content}
use Rattle.reader.specs.Tests.{good_n, meets_rules}
use Rattle.reader.specs.Read.{bytes_of, alone, readable, write_answer, write_output}

module _ (v : Content) (good : Bool) (told : good ≡ meets_rules (bytes_of v)) where
  pub fix-readable : {r : Bool} → v.answer ≡ 0 → r ≡ (good && eqb v.detail v.fix.dof) → r ≡ readable v
  unfolding readable
  fix-readable e t = rw (t, told, eq-eqb v.answer 0 e)

  pub refusal-readable
      : {r b n a : Bool} → (v.answer ≡ 0 → ⊥) → n ≡ good_n v.answer v.n → a ≡ alone v → b ≡ (n && a) → r ≡ (good && b) → r ≡ readable v
  unfolding readable
  refusal-readable e n a b t = rw (t, b, n, a, told, ne_eqb v.answer 0 e)

module _ (v : Content) (out : List ℕ) where
  pub short : length out < 176 → (14 ≡ write_answer v out) × (out ≡ write_output v out)
  unfolding write_output write_answer
  short h = let e : ltb (length out) 176 ≡ true = lt-ltb (length out) 176 h in (rw e, rw e)

  pub unread : 176 ≤ length out → readable v ≡ false → (18 ≡ write_answer v out) × (out ≡ write_output v out)
  unfolding write_output write_answer
  unread h r = let e : ltb (length out) 176 ≡ false = le-ltb (length out) 176 h in (rw (e, r), rw (e, r))

  pub written
      : (after b : List ℕ) → 176 ≤ length out → readable v ≡ true → after ≡ stored out b → b ≡ bytes_of v
      → (0 ≡ write_answer v out) × (after ≡ write_output v out)
  unfolding write_output write_answer
  written after b h r s p = let e : ltb (length out) 176 ≡ false = le-ltb (length out) 176 h in (rw (e, r), rw (e, r, s, p))
