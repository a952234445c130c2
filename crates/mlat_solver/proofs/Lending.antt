-- The lent memory after each end of a call on records. Assumes nothing.
use Prim.Native.Nat.{ℕ, ◌*◌, ◌<◌, ◌≤◌}
use mathlib.Core.Path.{◌≡◌, refl, sym, ◌∙◌}
use mathlib.Core.Bool.{Bool, true, false, cond}
use mathlib.Core.List.{List}
use lib.Dec.{ltb}
use lib.IntN.{ℤ}
use lib.ListN.{length}
use lib.Ieee.{Float}
use borrow.Author.Tests.{eq-eqb, ne_eqb, lt-ltb, le-ltb}
use Rattle.std.specs.Prelude.{Result, Ok, Err}
use Rattle.refusals.specs.declared.Refusal.{Refusal}
use Rattle.refusals.specs.Refusals.{number_of, answer_of}
use Rattle.reader.specs.declared.content.Content.{Content}
use Rattle.reader.specs.Read.{place_refusal, write_answer, write_output}
use Rattle.mlat_solver.specs.Records as held

both-same : (b : Bool) (out : List ℕ) {x : List ℕ} → out ≡ x → out ≡ cond b x out
both-same true out e = e
both-same false out e = refl

module _ (size place r : ℕ) (told : r ≡ place_refusal size place) where
  pub unplaced : (found : ℕ) → (r ≡ 0 → ⊥) → (r ≡ place_refusal size place) × (found ≡ held.placed_at size place found)
  unplaced found n = (told, rw (ne_eqb (place_refusal size place) 0 (λ e. n (told ∙ e))))

  pub placed : (found : ℕ) → r ≡ 0 → (0 ≡ place_refusal size place) × (176 * place ≡ held.placed_at size place found)
  placed found e = (sym e ∙ told, rw (eq-eqb (place_refusal size place) 0 (sym told ∙ e)))

-- what the call read
module _ (read : Result Content Refusal) (words : List ℕ) (numbers : List Float) (time : ℤ) where
  pub turned-away
      : (why : Refusal) → Err why ≡ read
      → (number_of why ≡ answer_of read)
      × ((words ≡ held.words_after read words) × ((numbers ≡ held.numbers_after read numbers) × (time ≡ held.time_after read time)))
  turned-away why e = rw (← e) (refl, (refl, (refl, refl)))

  pub taken-apart
      : (v : Content) {words' : List ℕ} {numbers' : List Float} {time' : ℤ} → Ok v ≡ read
      → words' ≡ held.words_of v → numbers' ≡ held.numbers_of v → time' ≡ v.fix.transmit_ps
      → (0 ≡ answer_of read)
      × ((words' ≡ held.words_after read words) × ((numbers' ≡ held.numbers_after read numbers) × (time' ≡ held.time_after read time)))
  taken-apart v e w x t = rw (← e) (refl, (w, (x, t)))

module _ (words : List ℕ) (numbers : List Float) (time : ℤ) (out : List ℕ) where
  pub short : length out < 176 → (14 ≡ held.record_answer words numbers time out) × (out ≡ held.record_output words numbers time out)
  unfolding held.record_answer held.record_output write_output write_answer
  short h = let e : ltb (length out) 176 ≡ true = lt-ltb (length out) 176 h in (rw e, both-same (held.whole words numbers) out (rw e))

  pub lost
      : 176 ≤ length out → held.whole words numbers ≡ false
      → (18 ≡ held.record_answer words numbers time out) × (out ≡ held.record_output words numbers time out)
  unfolding held.record_answer held.record_output
  lost h w = (rw (le-ltb (length out) 176 h, w), rw w)

  pub handed-on
      : (v : Content) (r : ℕ) (after : List ℕ) → 176 ≤ length out → held.whole words numbers ≡ true → v ≡ held.content_of words numbers time
      → (r ≡ write_answer v out) × (after ≡ write_output v out)
      → (r ≡ held.record_answer words numbers time out) × (after ≡ held.record_output words numbers time out)
  unfolding held.record_answer held.record_output
  handed-on v r after h w e t = (rw (le-ltb (length out) 176 h, w, ← e) t.0, rw (w, ← e) t.1)
