-- `archive::copy` meets its contract: the part that is written over has become the part that is copied (`pasted`). Assumes nothing.
use Rattle.std.proofs.Common.{◌≡◌, arith, ◌+◌, ◌-◌, ap, sym, ◌∙◌, take, drop}
use Rattle.archive.proofs.Pasted.{part_length, pasted}
use Rattle.archive.proofs.copy.Goals as goal

pub copy_from_slice-requires : goal.copy_from_slice-requires
copy_from_slice-requires c =
    let n : c.args.k + c.args.count - c.args.k ≡ c.args.count = omega arith in
    let m : c.args.at + c.args.count - c.args.at ≡ c.args.count = omega arith in
    rw (n, m) (part_length c.args.to.now c.args.k c.args.count c.requires.1 ∙ sym (part_length c.args.s.now c.args.at c.args.count c.requires.0))

pub returns : goal.returns
returns c =
    let n : c.args.k + c.args.count - c.args.k ≡ c.args.count = omega arith in
    let m : c.args.at + c.args.count - c.args.at ≡ c.args.count = omega arith in
    pasted c.args.to.now c.args.s.now _ c.args.k c.args.at c.args.count _ c.requires.0
    (c.copy_from_slice.ensures.after ∙ ap (λ i. take i (drop c.args.at c.args.s.now)) m) (sym n)
