-- `archive::to_archive` meets its contract. Each return is an end of the definition (`Moved`). Assumes nothing.
use borrow.Author.Rules.{rules}
use Prim.Native.Nat.{ℕ}
use mathlib.Core.Path.{◌≡◌, sym, ap, ◌∙◌}
use mathlib.Core.List.{List, ◌++◌}
use native.Mathlib.Omega.{arith}
use lib.ListN.{length, drop}
use Rattle.refusals.specs.Refusals.{answer_of}
use Rattle.reader.proofs.Numbered.{not-zero, passed-on}
use Rattle.reader.proofs.Reading.{accepted}
use Rattle.archive.proofs.Pasted.{over-front}
use Rattle.archive.proofs.Moved.{to-short, to-unread, to-unequal, to-moved, to-left, to-stored}
use Rattle.archive.proofs.to_archive.Goals as goal

pub returns-then-out-lt-NEW : goal.returns-then-out-lt-NEW
returns-then-out-lt-NEW c =
    let both = to-left _ _ 14 (to-short c.args.bytes.now c.args.out.now (omega arith)) (λ e. omega arith) in
    record { answer = both.0; output = both.1 }

pub returns-in_err-check : goal.returns-in_err-check
returns-in_err-check c =
    let s = c.args.bytes.now in
    let e = ap answer_of c.in_err-check.ensures in
    let both = to-left s c.args.out.now _ (to-unread s c.args.out.now c.if-out-lt-NEW.false (λ z. not-zero _ (sym e ∙ z)) ∙ e) (not-zero _) in
    record { answer = passed-on _ _ c.from_residual.ensures.1 ∙ both.0; output = both.1 }

pub equal_mirror-requires : goal.equal_mirror-requires
equal_mirror-requires c = (accepted _ (ap answer_of c.in_ok-check.ensures)).0

pub returns-then-not-equal_mirror : goal.returns-then-not-equal_mirror
returns-then-not-equal_mirror c = let both = to-left _ _ 20
    (to-unequal c.args.bytes.now c.args.out.now c.if-out-lt-NEW.false
    (ap answer_of c.in_ok-check.ensures)
    (sym c.equal_mirror.ensures ∙ c.if-not-equal_mirror.true))
    (λ e. omega arith) in record { answer = both.0; output = both.1 }

pub new_form-moved-requires : goal.new_form-moved-requires
new_form-moved-requires c = (accepted _ (ap answer_of c.in_ok-check.ensures)).0

pub returns : goal.returns
returns c =
    let out = c.args.out.now in
    let e = to-moved c.args.bytes.now out c.if-out-lt-NEW.false
    (ap answer_of c.in_ok-check.ensures)
    (sym c.equal_mirror.ensures ∙ c.if-not-equal_mirror.false) in
    let formed = c.new_form-moved.ensures in
    let sized : length c.new_form-moved.result ≡ 152 = search rules in
    let stored = c.copy.ensures ∙ over-front out c.new_form-moved.result 152 sized in record {
      answer = sym e;
      output = stored ∙ ap (λ (m : List ℕ). m ++ drop 152 out) formed ∙ sym (to-stored _ out e);
    }
