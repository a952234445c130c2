-- `starts::lifted::ring_place` meets its contract: each callee ensures its part. Assumes nothing.
use Rattle.starts.specs.Lifted.{ring_place}
use Rattle.starts.proofs.lifted.ring_place.Goals as goal

pub returns : goal.returns
unfolding ring_place
returns c =
    rw (
      c.add.ensures,
      c.add-offset.ensures,
      c.scale-2.ensures,
      c.cos.ensures,
      c.scale.ensures,
      c.sin.ensures,
      c.bearing-turn.ensures,
    )
