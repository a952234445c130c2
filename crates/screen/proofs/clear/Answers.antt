-- `screen::clear` meets its contract: the first n rows have no bit (`bare-all`). Assumes nothing.
use Rattle.std.proofs.Common.{rules, arith, ◌≡◌, ℕ, take}
use Rattle.std.specs.List.{All}
use Rattle.screen.proofs.Rows.{bare-all, bare-clear}
use Rattle.screen.proofs.clear.Goals as goal

pub returns : goal.returns
returns c =
    let rows = c.args.rows.now in
    λ t. let h : All (λ (x : ℕ). x ≡ 0) (take c.args.n rows) = search rules in
    bare-clear rows c.args.n (bare-all rows c.args.n (omega (arith, c.told-rows, c.requires)) h)
