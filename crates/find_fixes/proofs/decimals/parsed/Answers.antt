-- `find_fixes::decimals::parsed` meets its contract. Its tests are those of the definition. Assumes nothing.
use Rattle.std.proofs.Common.{◌≡◌, ℕ, ◌-◌, true, false, List, Option, length, take, drop, get_or, sym, ap, subst, ◌∙◌, eq-eqb, ne_eqb}
use Rattle.std.proofs.lemmas.List.{length-drop}
use Rattle.std.proofs.Math.Seq.{take-length}
use Rattle.find_fixes.specs.declared.decimals.Digits.{Digits}
use Rattle.find_fixes.specs.Decimals.{begun, digits_of, value_in, number_of}
use Rattle.find_fixes.proofs.decimals.parsed.Goals as goal

-- the bytes behind the first
behind : (s : List ℕ) → take (length s - 1) (drop 1 s) ≡ drop 1 s
behind s = subst (λ (n : ℕ). take n (drop 1 s) ≡ drop 1 s) (length-drop 1 s) (take-length (drop 1 s))

pub returns-then-text-eq0 : goal.returns-then-text-eq0
unfolding number_of
returns-then-text-eq0 c = rw (eq-eqb (length c.args.text.now) 0 c.if-text-eq0.true)

pub returns-in_err-digits_of : goal.returns-in_err-digits_of
unfolding number_of
returns-in_err-digits_of c =
    rw (
      ne_eqb (length c.args.text.now) 0 c.if-text-eq0.false,
      eq-eqb (get_or c.args.text.now 0 0) 45 c.if-text-eq45.true,
    )
    (c.from_residual.ensures ∙ ap (λ (d : Option Digits). value_in d true)
    (sym c.in_err-digits_of.was ∙ (c.digits_of.ensures ∙ ap (digits_of begun) (behind c.args.text.now))))

pub returns-then-text-eq45 : goal.returns-then-text-eq45
unfolding number_of
returns-then-text-eq45 c =
    rw (
      ne_eqb (length c.args.text.now) 0 c.if-text-eq0.false,
      eq-eqb (get_or c.args.text.now 0 0) 45 c.if-text-eq45.true,
    )
    (c.value.ensures ∙ ap (λ (d : Option Digits). value_in d true)
    (sym c.in_ok-digits_of.was ∙ (c.digits_of.ensures ∙ ap (digits_of begun) (behind c.args.text.now))))

pub returns-in_err-digits_of-2 : goal.returns-in_err-digits_of-2
unfolding number_of
returns-in_err-digits_of-2 c =
    rw (
      ne_eqb (length c.args.text.now) 0 c.if-text-eq0.false,
      ne_eqb (get_or c.args.text.now 0 0) 45 c.if-text-eq45.false,
    )
    (c.from_residual-in_err-digits_of-2.ensures
    ∙ ap (λ (d : Option Digits). value_in d false) (sym c.in_err-digits_of-2.was ∙ c.digits_of-2.ensures))

pub returns : goal.returns
unfolding number_of
returns c =
    rw (
      ne_eqb (length c.args.text.now) 0 c.if-text-eq0.false,
      ne_eqb (get_or c.args.text.now 0 0) 45 c.if-text-eq45.false,
    )
    (c.value-2.ensures ∙ ap (λ (d : Option Digits). value_in d false) (sym c.in_ok-digits_of-2.was ∙ c.digits_of-2.ensures))
