-- `binary64::square_root::roots` meets its contract. Either the guesses are the roots (`filled`), or each root is taken, whatever was guessed
-- (`refilled`). Assumes nothing.
use native.Mathlib.Omega.{arith}
use mathlib.Core.Path.{◌≡◌, ◌∙◌}
use Rattle.binary64.proofs.Filled.{filled, refilled}
use Rattle.binary64.proofs.square_root.roots.Goals as goal

pub returns-then-wrong-gt0 : goal.returns-then-wrong-gt0
returns-then-wrong-gt0 c =
    let g = c.guesses in
    c.each.ensures ∙ refilled _ _ _ _ g.ensures.0 g.ensures.1

pub returns-else-wrong-gt0 : goal.returns-else-wrong-gt0
returns-else-wrong-gt0 c =
    let g = c.guesses in
    let none : c.wrong.result ≡ 0 = omega arith in
    filled _ _ _ _ g.ensures.0 (λ i h l. c.wrong.ensures none i h) g.ensures.1
