-- `archive::from_archive` meets its contract. Each return is an end of the definition (`Moved`). Assumes nothing.
use Prim.Native.Nat.{ℕ}
use mathlib.Core.Path.{sym, ap, ◌∙◌}
use mathlib.Core.List.{List, ◌++◌}
use native.Mathlib.Omega.{arith}
use lib.ListN.{drop}
use Rattle.refusals.specs.Refusals.{answer_of}
use Rattle.reader.specs.Read.{read_of}
use Rattle.reader.proofs.Numbered.{not-zero, passed-on}
use Rattle.archive.proofs.Moved.{from-short, from-torn, from-read, from-left, from-stored}
use Rattle.archive.proofs.from_archive.Goals as goal

pub returns-then-out-lt-OLD : goal.returns-then-out-lt-OLD
returns-then-out-lt-OLD c =
    let both = from-left _ _ 14 (from-short c.args.bytes.now c.args.out.now (omega arith)) (λ e. omega arith) in
    record { answer = both.0; output = both.1 }

pub returns-then-bytes-ne-NEW : goal.returns-then-bytes-ne-NEW
returns-then-bytes-ne-NEW c =
    let both = from-left _ _ 16 (from-torn c.args.bytes.now c.args.out.now c.if-out-lt-OLD.false c.if-bytes-ne-NEW.true) (λ e. omega arith) in
    record { answer = both.0; output = both.1 }

pub returns-in_err-check : goal.returns-in_err-check
returns-in_err-check c =
    let both = from-left c.args.bytes.now c.args.out.now _
    (from-read c.args.bytes.now c.args.out.now c.if-out-lt-OLD.false c.if-bytes-ne-NEW.false
    ∙ ap (λ (s : List ℕ). answer_of (read_of s)) (sym c.old_form-old.ensures)
    ∙ ap answer_of c.in_err-check.ensures)
    (not-zero _) in
    record { answer = passed-on _ _ c.from_residual.ensures.1 ∙ both.0; output = both.1 }

pub returns : goal.returns
returns c =
    let e = from-read c.args.bytes.now c.args.out.now c.if-out-lt-OLD.false c.if-bytes-ne-NEW.false
    ∙ ap (λ (s : List ℕ). answer_of (read_of s)) (sym c.old_form-old.ensures)
    ∙ ap answer_of c.in_ok-check.ensures in record {
      answer = sym e;
      output = c.store.ensures ∙ ap (λ (s : List ℕ). s ++ drop 176 c.args.out.now) c.old_form-old.ensures ∙ sym (from-stored _ _ e);
    }
