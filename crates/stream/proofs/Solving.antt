-- What `solve_body` lends to entry's solve are the inputs of the problem, so what it gets is the problem's answer. Assumes nothing.
use Rattle.std.specs.Prelude as std
use Prim.Native.Nat.{ℕ, ◌+◌, ◌-◌, ◌≤◌, ◌<◌}
use mathlib.Core.Path.{◌≡◌, refl, sym, ap, ap₂, ◌∙◌}
use mathlib.Core.Bool.{Bool, true, false, cond}
use mathlib.Core.List.{List, []}
use mathlib.Core.Option.{Option, get_or}
use native.Mathlib.Omega.{arith}
use borrow.Author.Tests.{le-leb, lt-leb, le-ltb, lt-ltb}
use lib.Dec.{eqb, leb, ltb}
use lib.ListN.{length, take, drop}
use Rattle.inputs.specs.declared.Given.{Given}
use Rattle.inputs.specs.Inputs.{Inputs, if_there}
use Rattle.entry.specs.Reply.{lent, answer, output}
use Rattle.entry.specs.Cut.{filed, present_bits}
use Rattle.entry.proofs.Cut.{cut-replies-alike}
use Rattle.stream.specs.declared.Head.{Head}
use Rattle.stream.specs.declared.Solved.{Solved}
use Rattle.stream.specs.Frames.{number_in, used_in, absent, head_of, size_of, clock_from, altitude_from, reference_from, body_bytes}
use Rattle.stream.specs.Frames.{input, parts_of, asked, torn, whole, solved, output_after, solved_next, output_next}
use Rattle.stream.specs.Frames.{next_answer, next_output, used_after}
use Rattle.stream.specs.Held.{there, present_of}

-- bytes that are lent, if they are there
placed : (mark from : ℕ) (body : List ℕ) → if_there (there mark) (take (size_of mark) (drop from body)) ≡ input mark from body
placed mark from body = go (eqb mark absent) refl
  where
    go : (b : Bool) → eqb mark absent ≡ b → if_there (there mark) (take (size_of mark) (drop from body)) ≡ input mark from body
    go true e = rw e
    go false e = rw e

-- absent receptions are empty ones
received : (mark : ℕ) (body : List ℕ) → take (size_of mark) body ≡ get_or (input mark 0 body) []
received mark body = go (eqb mark absent) refl
  where
    go : (b : Bool) → eqb mark absent ≡ b → take (size_of mark) body ≡ get_or (input mark 0 body) []
    go true e = rw e
    go false e = rw e

-- four inputs by bits are four inputs that are there or not
pub by_bits
    : (rs cs al re : List ℕ) (c a r : Bool) → lent rs cs al re (present_bits c a r) ≡ filed rs (if_there c cs) (if_there a al) (if_there r re)
by_bits rs cs al re c a r =
    ap (λ (g : Given). filed rs (if_there g.clock cs) (if_there g.altitude al) (if_there g.reference re)) (cut-replies-alike.bits c a r)

pub alike
    : (rs rs' : List ℕ) (c c' a a' r r' : Option (List ℕ)) → rs ≡ rs' → c ≡ c' → a ≡ a' → r ≡ r' → filed rs c a r ≡ filed rs' c' a' r'
alike rs rs' c c' a a' r r' e f g h =
    ap₂ (λ (x : List ℕ) (y : Option (List ℕ)). filed x y a r) e f ∙ ap₂ (λ (x y : Option (List ℕ)). filed rs' c' x y) g h

module _ (h : Head) (body out : List ℕ) where
  -- the ends that the code adds up
  module _ (a b c d p : ℕ) (ea : a ≡ size_of h.receptions) (eb : b ≡ size_of h.clock) (ec : c ≡ size_of h.altitude)
      (ed : d ≡ size_of h.reference) (ep : p ≡ present_of h) where
    abbrev lending : Inputs
    lending =
        lent (take a body) (take (a + b - a) (drop a body)) (take (a + b + c - (a + b)) (drop (a + b) body))
        (take (a + b + c + d - (a + b + c)) (drop (a + b + c) body)) p

    part : (mark from k j : ℕ) → k ≡ size_of mark → from ≡ j → if_there (there mark) (take k (drop from body)) ≡ input mark j body
    part mark from k j e f =
        ap₂ (λ (x y : ℕ). if_there (there mark) (take x (drop y body))) e f ∙ placed mark j body

    as-asked : lending ≡ asked (parts_of h body)
    as-asked =
        let x : a + b - a ≡ b = omega arith in
        let y : a + b + c - (a + b) ≡ c = omega arith in
        let z : a + b + c + d - (a + b + c) ≡ d = omega arith in
        ap (λ (q : ℕ). lent (take a body) (take (a + b - a) (drop a body)) (take (a + b + c - (a + b)) (drop (a + b) body))
        (take (a + b + c + d - (a + b + c)) (drop (a + b + c) body)) q) ep
        ∙ by_bits _ _ _ _ (there h.clock) (there h.altitude) (there h.reference)
        ∙ alike _ _ _ _ _ _ _ _
        (ap (λ (k : ℕ). take k body) ea ∙ received h.receptions body)
        (part h.clock a (a + b - a) (clock_from h) (x ∙ eb) ea)
        (part h.altitude (a + b) (a + b + c - (a + b)) (altitude_from h) (y ∙ ec) (ap₂ ◌+◌ ea eb))
        (part h.reference (a + b + c) (a + b + c + d - (a + b + c)) (reference_from h) (z ∙ ed) (ap₂ ◌+◌ (ap₂ ◌+◌ ea eb) ec))

    ends : a + b + c + d ≡ body_bytes h
    ends = ap₂ ◌+◌ (ap₂ ◌+◌ (ap₂ ◌+◌ ea eb) ec) ed

    pub body-solved
        : (n : ℕ) (after : List ℕ) → a + b + c + d ≤ length body → n ≡ answer lending out → after ≡ output lending out
        → (std.Some (record { used = 16 + (a + b + c + d); number = n }) ≡ solved h body out)
        × (after ≡ output_after h body out)
    body-solved n after l en eo =
        let t : leb (body_bytes h) (length body) ≡ true = le-leb (body_bytes h) (length body) (omega (arith, ends, l)) in
        let num : n ≡ answer (asked (parts_of h body)) out = en ∙ ap (λ (I : Inputs). answer I out) as-asked in
        let left : after ≡ output (asked (parts_of h body)) out = eo ∙ ap (λ (I : Inputs). output I out) as-asked in (
          ap₂ (λ (u m : ℕ). std.Some (record { used = 16 + u; number = m })) ends num
              ∙ sym (ap (λ (q : Bool). cond q (whole (16 + body_bytes h) (parts_of h body) out) torn) t),
          left ∙ sym (ap (λ (q : Bool). cond q (output (asked (parts_of h body)) out) out) t),
        )

    pub body-torn : length body < a + b + c + d → (torn ≡ solved h body out) × (out ≡ output_after h body out)
    body-torn l =
        let t : leb (body_bytes h) (length body) ≡ false = lt-leb (body_bytes h) (length body) (omega (arith, ends, l)) in (
          sym (ap (λ (q : Bool). cond q (whole (16 + body_bytes h) (parts_of h body) out) torn) t),
          sym (ap (λ (q : Bool). cond q (output (asked (parts_of h body)) out) out) t),
        )

module _ (s out : List ℕ) where
  pub next-torn : length s < 16 → (torn ≡ solved_next s out) × (out ≡ output_next s out)
  next-torn l =
      let t = lt-leb 16 (length s) l in (
        sym (ap (λ (q : Bool). cond q (solved (head_of s) (drop 16 s) out) torn) t),
        sym (ap (λ (q : Bool). cond q (output_after (head_of s) (drop 16 s) out) out) t),
      )

  pub next-solved
      : (h : Head) (body : List ℕ) (r : std.Option Solved) (after : List ℕ) → 16 ≤ length s → h ≡ head_of s → body ≡ drop 16 s
      → r ≡ solved h body out → after ≡ output_after h body out → (r ≡ solved_next s out) × (after ≡ output_next s out)
  next-solved h body r after l eh eb er eo =
      let t = le-leb 16 (length s) l in (
        er ∙ ap₂ (λ (x : Head) (y : List ℕ). solved x y out) eh eb
            ∙ sym (ap (λ (q : Bool). cond q (solved (head_of s) (drop 16 s) out) torn) t),
        eo ∙ ap₂ (λ (x : Head) (y : List ℕ). output_after x y out) eh eb
            ∙ sym (ap (λ (q : Bool). cond q (output_after (head_of s) (drop 16 s) out) out) t),
      )

  -- ---- for a caller who lends a number too
  module _ (found : ℕ) where
    pub answer-short : length out < 176 → (14 ≡ next_answer s out) × ((out ≡ next_output s out) × (found ≡ used_after s out found))
    answer-short l = let t = lt-ltb (length out) 176 l in (rw t, (rw t, rw t))

    module _ (r : std.Option Solved) (after : List ℕ) (l : 176 ≤ length out) (er : r ≡ solved_next s out) (eo : after ≡ output_next s out) where
      room : ltb (length out) 176 ≡ false
      room = le-ltb (length out) 176 l

      output-is : after ≡ next_output s out
      output-is = eo ∙ sym (ap (λ (q : Bool). cond q out (output_next s out)) room)

      answer-is : number_in r ≡ next_answer s out
      answer-is = ap number_in er ∙ sym (ap (λ (q : Bool). cond q 14 (number_in (solved_next s out))) room)

      used_is : used_in r found ≡ used_after s out found
      used_is = ap (λ (x : std.Option Solved). used_in x found) er ∙ sym (ap (λ (q : Bool). cond q found (used_in (solved_next s out) found)) room)

      pub answer-is_due : (number_in r ≡ next_answer s out) × ((after ≡ next_output s out) × (used_in r found ≡ used_after s out found))
      answer-is_due = (answer-is, (output-is, used_is))
