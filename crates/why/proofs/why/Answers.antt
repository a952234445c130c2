-- `why::why` meets its contract: 14 is tested first, and its arrays hold the receptions of its bytes (`few-held`). Assumes nothing.
use mathlib.Core.Path.{ap}
use Prim.Native.Nat.{◌/◌}
use native.Mathlib.Omega.{arith}
use borrow.Author.Tests.{lt-ltb, le-ltb}
use lib.ListN.{length}
use Rattle.receptions.specs.Receptions.{reception_bytes, reception_at}
use Rattle.entry.proofs.Unpacked.{few-within, few-held}
use Rattle.why.specs.declared.Verdict.{Verdict}
use Rattle.why.proofs.why.Goals as goal

pub returns-then-out-lt-STATES : goal.returns-then-out-lt-STATES
returns-then-out-lt-STATES c =
    let short = lt-ltb (length c.args.out.now) 640 c.if-out-lt-STATES.true in record {
      answer = rw c.number.ensures (rw short);
      states = rw short;
      detail = rw short;
    }

pub of_bytes-f-requires : goal.of_bytes-f-requires
of_bytes-f-requires c =
    let w = few-within (length c.args.receptions.now / reception_bytes) c.few.result c.few.ensures in
    (omega (arith, w.0), w.1)

pub asked-verdict-requires : goal.asked-verdict-requires
asked-verdict-requires c =
    let at = reception_at c.args.receptions.now in
    ((at, few-held at _ _ c.few.ensures c.of_bytes-f.ensures), c.if-out-lt-STATES.false)

pub returns : goal.returns
returns c =
    let a = c.args in
    let at = reception_at a.receptions.now in
    let enough = le-ltb (length a.out.now) 640 c.if-out-lt-STATES.false in
    let held = few-held at _ _ c.few.ensures c.of_bytes-f.ensures in
    let verdict = c.asked-verdict.ensures.verdict at held in
    let states = c.asked-verdict.ensures.states at held in record {
      answer = rw enough (ap (λ (v : Verdict). v.number) verdict);
      states = rw enough states;
      detail = rw enough (ap (λ (v : Verdict). v.detail) verdict);
    }
