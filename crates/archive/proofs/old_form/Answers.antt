-- `archive::old_form` meets its contract: part behind part (`Formed`). Assumes nothing.
use Prim.Native.Nat.{ℕ}
use lib.ListN.{replicate, length-replicate}
use Rattle.archive.proofs.Formed.{old-form}
use Rattle.archive.proofs.old_form.Goals as goal

pub returns : goal.returns
returns c =
    old-form c.args.a.now (replicate 176 0) _ _ _ _ _ _ _ _ c.requires (length-replicate {A = ℕ} 176 0)
    c.copy.ensures c.copy-2.ensures c.copy-3.ensures c.copy-4.ensures
    c.copy-5.ensures c.copy-6.ensures c.copy-7.ensures c.copy-8.ensures
