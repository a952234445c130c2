-- `asterix::write_asterix` meets its contract: eight bytes, then two, are stored where the test passes (`ten-stored`); nothing else touches the
-- lent bytes. Assumes nothing.
use mathlib.Core.Path.{◌≡◌, sym, ap, ◌∙◌}
use native.Mathlib.Omega.{arith}
use Prim.Native.Nat.{ℕ}
use mathlib.Core.List.{List}
use Rattle.asterix.specs.Held.{put_four}
use lib.ListN.{length}
use mir.Syntax.{w32}
use mir.Val.{of_z}
use Rattle.asterix.proofs.Signs.{own_bits}
use Rattle.asterix.proofs.Arms.{four-length, ten-long, joined, ten-stored, answered, not_written}
use Rattle.asterix.proofs.write_asterix.Goals as goal

-- four bytes that are put keep the length
kept : (s t : List ℕ) (k x : ℕ) → t ≡ put_four s k x → length s ≡ 10 → length t ≡ 10
kept s t k x e h = ap length e ∙ four-length s k x ∙ h

pub put_four-requires : goal.put_four-requires
put_four-requires c = let h = ten-long _ _ (sym c.fitting.ensures ∙ c.if-not-fitting.false) in omega arith

pub put_four-requires-2 : goal.put_four-requires-2
put_four-requires-2 c =
    let h = kept _ _ _ _ c.put_four.ensures (ten-long _ _ (sym c.fitting.ensures ∙ c.if-not-fitting.false)) in omega arith

pub put_two-requires : goal.put_two-requires
put_two-requires c =
    let h = kept _ _ _ _ c.put_four-2.ensures
    (kept _ _ _ _ c.put_four.ensures (ten-long _ _ (sym c.fitting.ensures ∙ c.if-not-fitting.false))) in omega arith

pub returns-then-not-fitting : goal.returns-then-not-fitting
returns-then-not-fitting c = let both = not_written _ _ c.fitting.ensures c.if-not-fitting.true in record { answer = both.0; output = both.1 }

pub returns : goal.returns
returns c =
    let m = c.args.m in
    let out = c.args.out.now in
    let fit = c.fitting.ensures in record {
      answer = answered m out fit c.if-not-fitting.false;
      output = joined out (of_z w32 m.lat) (of_z w32 m.lon) (of_z w32 m.height)
          c.put_four.ensures
          (own_bits m.lat c.struct_told-1.given.0.1 c.bits.ensures)
          c.put_four-2.ensures
          (own_bits m.lon c.struct_told-2-1.given.1.0.1 c.bits-2.ensures)
          c.put_two.ensures
          (own_bits m.height c.struct_told-3-1.given.1.1.0.1 c.bits-3.ensures)
          ∙ ten-stored m out fit c.if-not-fitting.false;
    }
