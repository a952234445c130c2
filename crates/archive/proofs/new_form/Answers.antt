-- `archive::new_form` meets its contract: part behind part (`Formed`). Assumes nothing.
use Prim.Native.Nat.{ℕ}
use lib.ListN.{replicate, length-replicate}
use Rattle.archive.proofs.Formed.{new-form}
use Rattle.archive.proofs.new_form.Goals as goal

pub returns : goal.returns
returns c =
    new-form c.args.s.now (replicate 152 0) _ _ _ _ _ c.requires (length-replicate {A = ℕ} 152 0)
    c.copy.ensures c.copy-2.ensures c.copy-3.ensures c.copy-4.ensures c.copy-5.ensures
