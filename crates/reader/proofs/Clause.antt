-- A clause of a statement, by the field that has it. A law of this type proves what specs/ says there, whatever that is: a wrong clause is refused
-- at its own law.
abbrev pub Clause : {A B : Type 0} → (A → B) → Type 0
Clause {B = B} field = B
