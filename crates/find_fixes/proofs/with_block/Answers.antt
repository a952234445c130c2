-- `find_fixes::with_block` meets its contract: the block's nearest is joined to the one that is held, and its refusal counts before the one so far.
-- Assumes nothing.
use Rattle.std.proofs.Common.{◌≡◌, ℕ, cond, eqb, List, sym, ap, ◌∙◌, ap₂}
use lib.Ieee.{Float}
use Rattle.near.specs.declared.Held.{Held}
use Rattle.near.specs.Parts.{nearest_in, joined}
use Rattle.near.proofs.Parts.{nearest-of-parts}
use Rattle.find_fixes.specs.declared.Best.{Best}
use Rattle.find_fixes.specs.Blocks.{held_in, GoesOn}
use Rattle.find_fixes.proofs.with_block.Goals as goal

-- what is joined to the nearest of the bytes before the block is the nearest of all (`nearest-of-parts`)
goes_on
    : (block : List ℕ) (point : List Float) (base : ℕ) (best next : Best) → held_in next ≡ joined (held_in best) base (nearest_in block point)
    → GoesOn block point base best next
goes_on block point base best next e file s sound good l =
    e
    ∙ ap₂ (λ (h : Held) (k : ℕ). joined h k (nearest_in block point)) s.held (sym s.before)
    ∙ nearest-of-parts file block point sound s.whole good l

pub returns : goal.returns
returns c =
    let args = c.args in
    let e = c.join-next.ensures ∙ ap₂ (λ (x y : Held). joined x args.base y) c.held.ensures c.nearest_in.ensures in record {
      nearest = e;
      whole = goes_on args.block.now args.point args.base args.best
          (record {
            found = c.join-next.result.found;
            place = c.join-next.result.place;
            distance = c.join-next.result.distance;
            refusal = c.worse-refusal.result;
          })
          e;
      refusal = c.worse-refusal.ensures ∙ ap (λ (r : ℕ). cond (eqb r 0) args.best.refusal r) (c.answer.ensures ∙ c.check_nearest.ensures);
    }
