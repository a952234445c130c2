-- `reader::write` meets its contract. Each return is an end of the definition (`Writing`). Assumes nothing.
use mathlib.Core.Path.{sym, ◌∙◌}
use native.Mathlib.Omega.{arith}
use Rattle.reader.proofs.Writing.{short, unread, written}
use Rattle.reader.proofs.write.Goals as goal

pub returns-then-out-lt-SIZE : goal.returns-then-out-lt-SIZE
returns-then-out-lt-SIZE c = let both = short c.args.v c.args.out.now (omega arith) in record { answer = both.0; output = both.1 }

pub readable-requires : goal.readable-requires
readable-requires c = c.bytes_of-bytes.ensures

pub returns-then-not-readable : goal.returns-then-not-readable
returns-then-not-readable c = let both = unread c.args.v c.args.out.now c.if-out-lt-SIZE.false
    (sym c.readable.ensures ∙ c.if-not-readable.true) in record { answer = both.0; output = both.1 }

pub returns : goal.returns
returns c = let both = written c.args.v c.args.out.now _ _ c.if-out-lt-SIZE.false
    (sym c.readable.ensures ∙ c.if-not-readable.false)
    c.store.ensures
    c.bytes_of-bytes.ensures in record { answer = both.0; output = both.1 }
