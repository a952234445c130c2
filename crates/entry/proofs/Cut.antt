-- A file that is too long gets the reply of what the program `solve` cuts it to: the statement of specs/Cut.antt. Assumes nothing.
use Rattle.std.proofs.Common.{Ok, Err}
use Prim.Native.Nat.{ℕ, ◌*◌, ◌-◌, ◌/◌, ◌%◌, ◌≤◌, ◌<◌, min}
use mathlib.Core.Path.{◌≡◌, refl, ap, ap₂, sym, ◌∙◌}
use mathlib.Core.Bool.{Bool, true, false, cond, ◌&&◌}
use mathlib.Core.List.{List}
use mathlib.Core.Option.{Option, some}
use native.Mathlib.Omega.{arith}
use borrow.Author.Tests.{eq-eqb, ne_eqb, lt-ltb, lt-leb, leb-true, ltb-true, ltb-false, eqb-true, eqb-false}
use lib.Dec.{eqb, leb, ltb}
use lib.ListN.{length, take}
use lib.Seq.{take_all, length-take-le}
use Rattle.sets.specs.Mask.{has}
use Rattle.dense.proofs.Places.{room}
use Rattle.receptions.specs.Receptions.{reception_bytes, reception_at}
use Rattle.inputs.specs.declared.Fault.{Fault}
use Rattle.inputs.specs.declared.Fault.TheVariants.{TornInput, TooMany, ClockSize}
use Rattle.inputs.specs.Faults.{Check, number_of, detail_of, or_else, unless, first_to}
use Rattle.inputs.specs.Inputs.{Inputs, sized, untorn, check_reception, check_clock, check_inputs}
use Rattle.entry.specs.Reply.{given, turned_away, replied, reply}
use Rattle.entry.specs.Cut.{filed, one_too_many, taken, cut_of, present_bits, CutRepliesAlike}
use Rattle.entry.proofs.Replies.{made, bare}

-- n is not written
without-n : (fault : Fault) (n : ℕ) → 9 < number_of fault → turned_away fault n ≡ turned_away fault 0
without-n fault n h = ap (made (number_of fault)) (bare (number_of fault) (detail_of fault) n 0 h)

-- ---- receptions
module _ (clock alt ref : Option (List ℕ)) where
  torn-reply : (rs : List ℕ) → (length rs % reception_bytes ≡ 0 → ⊥) → reply (filed rs clock alt ref) ≡ turned_away TornInput 0
  unfolding reply check_inputs untorn
  torn-reply rs h = rw (ne_eqb (length rs % reception_bytes) 0 h) (without-n TornInput (length rs / reception_bytes) (omega arith))

  many-reply
      : (rs : List ℕ) → length rs % reception_bytes ≡ 0 → 32 < length rs / reception_bytes
      → reply (filed rs clock alt ref) ≡ turned_away (cond (sized 16 alt && sized 8 ref) TooMany TornInput) 0
  unfolding reply check_inputs untorn
  many-reply rs h l = rw (eq-eqb (length rs % reception_bytes) 0 h, lt-leb (length rs / reception_bytes) 32 l) (go (sized 16 alt && sized 8 ref) _)
    where
      go : (b : Bool) (I : Inputs) → replied (or_else (unless b TornInput) (Err TooMany)) I ≡ turned_away (cond b TooMany TornInput) 0
      go true I = without-n TooMany I.n (omega arith)
      go false I = without-n TornInput I.n (omega arith)

  -- one byte less than 33 receptions stands for every torn length
  cut-torn
      : (rs cut : List ℕ) → (length rs % reception_bytes ≡ 0 → ⊥) → length cut ≡ one_too_many - 1
      → reply (filed rs clock alt ref) ≡ reply (filed cut clock alt ref)
  cut-torn rs cut h e = torn-reply rs h ∙ sym (torn-reply cut (λ q. omega arith))

  -- 33 receptions stand for every greater number
  cut-whole
      : (rs cut : List ℕ) → length rs % reception_bytes ≡ 0 → one_too_many ≤ length rs → length cut ≡ one_too_many
      → reply (filed rs clock alt ref) ≡ reply (filed cut clock alt ref)
  cut-whole rs cut h l e = many-reply rs h (omega arith) ∙ sym (many-reply cut (omega arith) (omega arith))

  -- so what is taken stands for all of it, whatever its length
  module _ (rs : List ℕ) where
    abbrev over : Bool
    over = eqb ((length rs - one_too_many) % reception_bytes) 0

    taking : (m : ℕ) → taken (min (length rs) one_too_many) over ≡ m → cut_of rs ≡ take m rs
    taking m e = ap (λ (k : ℕ). take k rs) e

    short : length rs < one_too_many → cut_of rs ≡ rs
    short l =
        let e : min (length rs) one_too_many ≡ length rs = omega arith in
        taking (length rs) (rw (e, lt-ltb (length rs) one_too_many l) refl) ∙ take_all (length rs) rs (omega arith)

    full : one_too_many ≤ length rs → (w : Bool) → over ≡ w → taken (min (length rs) one_too_many) over ≡ cond w one_too_many (one_too_many - 1)
    full l w f = let e : min (length rs) one_too_many ≡ one_too_many = omega arith in ap₂ (λ (k : ℕ) (x : Bool). taken k x) e f

    filled : one_too_many ≤ length rs → (w : Bool) → over ≡ w → reply (filed rs clock alt ref) ≡ reply (filed (cut_of rs) clock alt ref)
    filled l true f =
        let e : cut_of rs ≡ take one_too_many rs = taking one_too_many (full l true f) in
        let r : (length rs - one_too_many) % reception_bytes ≡ 0 = eqb-true ((length rs - one_too_many) % reception_bytes) 0 f in
        cut-whole rs (cut_of rs) (omega (arith, r, l)) l (ap length e ∙ length-take-le one_too_many rs l)
    filled l false f =
        let e : cut_of rs ≡ take (one_too_many - 1) rs = taking (one_too_many - 1) (full l false f) in
        cut-torn rs (cut_of rs) (λ q. eqb-false ((length rs - one_too_many) % reception_bytes) 0 f (omega (arith, q, l)))
        (ap length e ∙ length-take-le (one_too_many - 1) rs (omega (arith, l)))

    cut-receptions : reply (filed rs clock alt ref) ≡ reply (filed (cut_of rs) clock alt ref)
    cut-receptions = go (ltb (length rs) one_too_many) refl
      where
        go : (b : Bool) → ltb (length rs) one_too_many ≡ b → reply (filed rs clock alt ref) ≡ reply (filed (cut_of rs) clock alt ref)
        go true e = ap (λ (x : List ℕ). reply (filed x clock alt ref)) (sym (short (ltb-true (length rs) one_too_many e)))
        go false e = filled (ltb-false (length rs) one_too_many e) over refl

-- ---- the clock covariance
module _ (rs : List ℕ) (alt ref : Option (List ℕ)) where
  abbrev n : ℕ
  n = length rs / reception_bytes

  abbrev torn : Check
  torn = unless (eqb (length rs % reception_bytes) 0 && (sized 16 alt && sized 8 ref)) TornInput

  abbrev received : Check
  received = first_to (check_reception (reception_at rs)) n

  abbrev long : Check
  long = or_else torn (or_else (unless (leb n 32) TooMany) (or_else received (Err ClockSize)))

  clock-long : (b : List ℕ) → 8192 < length b → n ≤ 32 → check_clock (some b) n ≡ Err ClockSize
  clock-long b h l = rw (ne_eqb (length b) (8 * (n * n)) (λ e. omega (arith, room n l)))

  check-long : (b : List ℕ) → 8192 < length b → check_inputs (filed rs (some b) alt ref) ≡ long
  unfolding check_inputs untorn
  check-long b h = go (leb n 32) refl
    where
      go : (t : Bool) → leb n 32 ≡ t → check_inputs (filed rs (some b) alt ref) ≡ long
      go true e = rw (e, clock-long b h (leb-true n 32 e))
      go false e = rw e

  same : (x y z : Check) (I J : Inputs) → I.n ≡ J.n → replied (or_else x (or_else y (or_else z (Err ClockSize)))) I
      ≡ replied (or_else x (or_else y (or_else z (Err ClockSize)))) J
  same (Err f) y z I J e = ap (turned_away f) e
  same (Ok _) (Err f) z I J e = ap (turned_away f) e
  same (Ok _) (Ok _) (Err f) I J e = ap (turned_away f) e
  same (Ok _) (Ok _) (Ok _) I J e = ap (turned_away ClockSize) e

  -- 8,193 bytes stand for every greater length
  cut-clock : (b cut : List ℕ) → 8192 < length b → 8192 < length cut → reply (filed rs (some b) alt ref) ≡ reply (filed rs (some cut) alt ref)
  unfolding reply
  cut-clock b cut h k = rw (check-long b h, check-long cut k)
      (same torn (unless (leb n 32) TooMany) received (filed rs (some b) alt ref) (filed rs (some cut) alt ref) refl)

-- ---- the altitude and the reference: one byte too many stands for every greater length
module _ (rs : List ℕ) (clock : Option (List ℕ)) where
  torn-by : (alt ref : Option (List ℕ)) → sized 16 alt && sized 8 ref ≡ false → reply (filed rs clock alt ref) ≡ turned_away TornInput 0
  unfolding reply check_inputs untorn
  torn-by alt ref e = rw e (go (eqb (length rs % reception_bytes) 0) _)
    where
      go : (t : Bool) (later : Check) → replied (or_else (unless (t && false) TornInput) later) (filed rs clock alt ref) ≡ turned_away TornInput 0
      go true later = without-n TornInput (length rs / reception_bytes) (omega arith)
      go false later = without-n TornInput (length rs / reception_bytes) (omega arith)

  off : (t : Bool) → t && false ≡ false
  off true = refl
  off false = refl

  cut-altitude : (a cut : List ℕ) (ref : Option (List ℕ)) → 16 < length a → 16 < length cut → reply (filed rs clock (some a) ref)
      ≡ reply (filed rs clock (some cut) ref)
  cut-altitude a cut ref h k =
      torn-by (some a) ref (rw (ne_eqb (length a) 16 (λ e. omega arith)))
      ∙ sym (torn-by (some cut) ref (rw (ne_eqb (length cut) 16 (λ e. omega arith))))

  cut-reference : (r cut : List ℕ) (alt : Option (List ℕ)) → 8 < length r → 8 < length cut → reply (filed rs clock alt (some r))
      ≡ reply (filed rs clock alt (some cut))
  cut-reference r cut alt h k =
      torn-by alt (some r) (rw (ne_eqb (length r) 8 (λ e. omega arith)) (off (sized 16 alt)))
      ∙ sym (torn-by alt (some cut) (rw (ne_eqb (length cut) 8 (λ e. omega arith)) (off (sized 16 alt))))

-- ---- the statement
bits-read : (c a r : Bool) → given (present_bits c a r) ≡ record { clock = c; altitude = a; reference = r }
unfolding has
bits-read true true true = refl
bits-read true true false = refl
bits-read true false true = refl
bits-read true false false = refl
bits-read false true true = refl
bits-read false true false = refl
bits-read false false true = refl
bits-read false false false = refl

pub cut-replies-alike : CutRepliesAlike
cut-replies-alike = record {
  bits = bits-read;
  receptions = λ rs clock alt ref. cut-receptions clock alt ref rs;
  clock = λ rs c cut alt ref. cut-clock rs alt ref c cut;
  altitude = λ rs a cut clock ref. cut-altitude rs clock a cut ref;
  reference = λ rs r cut clock alt. cut-reference rs clock r cut alt;
}
