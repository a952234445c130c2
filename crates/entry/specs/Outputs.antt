-- Document 01's whole outputs that no reception decides. A statement only: proofs/Outputs.antt proves it.
use Rattle.std.specs.Prelude.{◌≡◌, [], ◌∷◌, replicate}
use Rattle.entry.specs.Reply.{lent, reply}

pub record WholeOutputs : Type 0 where
  -- "all four absent gives byte 07 and 175 zero bytes"
  pub all_absent : reply (lent [] [] [] [] 0) ≡ record { number = 7; bytes = 7 ∷ replicate 175 0 }
  -- "With an empty `clock.bin` present it is byte 01 and 175 zero bytes."
  pub empty_clock : reply (lent [] [] [] [] 1) ≡ record { number = 1; bytes = 1 ∷ replicate 175 0 }
