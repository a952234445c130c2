-- `damped::Lm::step` meets its contract. Each call gives what the definition has in its place, and the test picks its case. The place is that of
-- `tried`, or the state's. Assumes nothing.
use Rattle.damped.specs.Damped.{step}
use Rattle.damped.proofs.Lm.step.Goals as goal

pub tried-requires : goal.tried-requires
tried-requires c = record {
  k_bound = c.requires.k_bound;
  scratch = c.requires.scratch;
}

pub returns-in_default : goal.returns-in_default
unfolding step
returns-in_default c = record {
  stepped_value = rw (← c.damped-m.ensures, ← c.descent.ensures, c.in_default.is);
  place_value = c.requires.k_bound.1;
  scratch_2 = c.requires.scratch;
}

pub returns : goal.returns
unfolding step
returns c = record {
  stepped_value = rw (
    ← c.damped-m.ensures,
    ← c.descent.ensures,
    c.in-Some.is,
    ← c.candidate-candidate.ensures,
    c.tried.ensures.stepped_value,
  );
  place_value = c.tried.ensures.place_value;
  scratch_2 = c.tried.ensures.scratch_2;
}
