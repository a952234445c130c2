-- `entry::solve_fields` meets its contract: by the promise's own laws (`Written`), of a short output and of one that is long enough. Assumes nothing.
use borrow.Author.Rules.{rules}
use mathlib.Core.Path.{◌≡◌}
use lib.ListN.{length}
use Prim.Native.Nat.{ℕ}
use Rattle.receptions.specs.declared.Reception.{Reception}
use Rattle.inputs.specs.Inputs.{Inputs, inputs_of}
use Rattle.entry.specs.Reply.{given}
use Rattle.entry.proofs.Written.{short-promise, whole-promise}
use Rattle.entry.proofs.solve_fields.Goals as goal

pub returns-then-out-lt-RECORD : goal.returns-then-out-lt-RECORD
returns-then-out-lt-RECORD c = λ at held.
    let lent : (ℕ → Reception) → Inputs =
    λ at. inputs_of c.args.whole c.args.n at (given c.args.present) c.args.clock.now c.args.altitude.now c.args.reference.now in
    rw c.number.ensures (short-promise (lent at) c.args.out.now c.if-out-lt-RECORD.true)

pub returns : goal.returns
returns c = λ at held.
    let lent : (ℕ → Reception) → Inputs =
    λ at. inputs_of c.args.whole c.args.n at (given c.args.present) c.args.clock.now c.args.altitude.now c.args.reference.now in
    let reply = c.reply_to-r in
    let store = c.store in
    let sized : length reply.result.bytes ≡ 176 = search rules in
    whole-promise (lent at) c.args.out.now c.if-out-lt-RECORD.false reply.result _
    (reply.ensures at held) sized store.ensures
