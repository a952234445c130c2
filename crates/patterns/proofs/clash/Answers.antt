-- `patterns::clash` meets its contract: the later of the two says where the bit of the pair is. Assumes nothing.
use mathlib.Core.Path.{sym, ap, ◌∙◌}
use Prim.Native.Nat.{ℕ, ◌+◌}
use native.Mathlib.Omega.{arith}
use Rattle.sets.specs.Mask.{has}
use Rattle.patterns.proofs.Places.{pairs-six, clash-ordered, clash-turned, clash-alone}
use Rattle.patterns.proofs.clash.Goals as goal

pub overflow_add-pairs : goal.overflow_add-pairs
overflow_add-pairs c = omega (arith, c.pairs.ensures, pairs-six c.args.a (omega arith))

pub has-requires : goal.has-requires
has-requires c = omega (arith, c.pairs.ensures, pairs-six c.args.a (omega arith))

pub returns-then-b-a : goal.returns-then-b-a
returns-then-b-a c =
    let s = c.args in
    c.has.ensures ∙ ap (λ (k : ℕ). has s.pattern (k + s.b)) c.pairs.ensures
    ∙ sym (clash-ordered s.pattern s.a s.b c.if-b-a.true)

pub overflow_add-pairs-then-a-b : goal.overflow_add-pairs-then-a-b
overflow_add-pairs-then-a-b c = omega (arith, c.pairs-then-a-b.ensures, pairs-six c.args.b (omega arith))

pub has-requires-then-a-b : goal.has-requires-then-a-b
has-requires-then-a-b c = omega (arith, c.pairs-then-a-b.ensures, pairs-six c.args.b (omega arith))

pub returns-then-a-b : goal.returns-then-a-b
returns-then-a-b c =
    let s = c.args in
    c.has-then-a-b.ensures ∙ ap (λ (k : ℕ). has s.pattern (k + s.a)) c.pairs-then-a-b.ensures
    ∙ sym (clash-turned s.pattern s.b s.a c.if-a-b.true)

pub returns : goal.returns
returns c =
    let s = c.args in
    sym (clash-alone s.pattern s.a s.b c.if-b-a.false c.if-a-b.false)
