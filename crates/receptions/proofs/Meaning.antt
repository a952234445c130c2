-- What the order of identities means: the statements of specs/Meaning.antt. Assumes nothing.
use mathlib.Core.Path.{◌≡◌, ap, subst}
use mathlib.Core.Bool.{false}
use Rattle.receptions.specs.declared.ObservationId.{ObservationId}
use Rattle.receptions.specs.Identities.{compare_numbers, compare_bytes, compare, is_less, before}
use Rattle.receptions.specs.Meaning.{IdentitiesOrdered, EqualInEveryField, FourInTurn}
use Rattle.receptions.proofs.Ordered.{turn-said, turn-meant, numbers-lt, lt-numbers, numbers-ordered, bytes-ordered, message, timestamp, epoch}
use Rattle.receptions.proofs.Ordered.{is-less, not-before-self, before-through, neither-before}
use Rattle.receptions.proofs.Bytes.{less-said, less-meant}

pub identities-ordered : IdentitiesOrdered
identities-ordered = record { irreflexive = not-before-self; transitive = before-through; total = neither-before }

pub equal-in-every-field : EqualInEveryField
equal-in-every-field a b = (
  λ h. let e = neither-before a b h.0 h.1 in (
    ap (λ (x : ObservationId). x.receiver) e,
    ap (λ (x : ObservationId). x.epoch) e,
    ap (λ (x : ObservationId). x.timestamp) e,
    ap (λ (x : ObservationId). x.message) e,
  ),
  λ h. let e : a ≡ b = λ i. record { receiver = h.0 i; epoch = h.1 i; timestamp = h.2 i; message = h.3 i } in (
    subst (λ (x : ObservationId). before a x ≡ false) e (not-before-self a),
    subst (λ (x : ObservationId). before x a ≡ false) e (not-before-self a),
  ),
)

pub four-in-turn : FourInTurn
unfolding before compare
four-in-turn a b wa wb = (
  λ e. turn-said compare_bytes bytes-ordered a.receiver b.receiver (epoch a b) (less-said a.receiver b.receiver wa.0 wb.0)
      (turn-said compare_numbers numbers-ordered a.epoch b.epoch (timestamp a b) (numbers-lt a.epoch b.epoch)
      (turn-said compare_numbers numbers-ordered a.timestamp b.timestamp (message a b) (numbers-lt a.timestamp b.timestamp)
      (less-said a.message b.message wa.1 wb.1)))
      (is-less (compare a b) e),
  λ e. ap is_less
      (turn-meant compare_bytes bytes-ordered a.receiver b.receiver (epoch a b) (less-meant a.receiver b.receiver wa.0 wb.0)
      (turn-meant compare_numbers numbers-ordered a.epoch b.epoch (timestamp a b) (lt-numbers a.epoch b.epoch)
      (turn-meant compare_numbers numbers-ordered a.timestamp b.timestamp (message a b) (lt-numbers a.timestamp b.timestamp)
      (less-meant a.message b.message wa.1 wb.1)))
      e),
)
