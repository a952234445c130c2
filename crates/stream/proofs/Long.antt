-- What is kept of inputs that are too long gets their reply: the statement `LongAlike` of specs/Meaning.antt, over entry's
-- `CutRepliesAlike`. Assumes nothing.
use Prim.Native.Nat.{ℕ, ◌+◌, ◌-◌, ◌%◌, ◌≤◌, ◌<◌, min}
use mathlib.Core.Path.{◌≡◌, refl, sym, ap, ap₂, ◌∙◌}
use mathlib.Core.Bool.{Bool, true, false, cond}
use mathlib.Core.List.{List, []}
use mathlib.Core.Option.{Option, none, some, map, get_or}
use native.Mathlib.Omega.{arith}
use borrow.Author.Tests.{ne_eqb, leb-true, leb-false}
use lib.Dec.{eqb, leb, ltb}
use lib.ListN.{length, take, length-take}
use lib.Seq.{take_all, length-take-le}
use Rattle.receptions.specs.Receptions.{reception_bytes}
use Rattle.entry.specs.declared.Reply.{Reply}
use Rattle.entry.specs.Reply.{reply}
use Rattle.entry.specs.Cut.{filed, one_too_many, taken, cut_of}
use Rattle.entry.proofs.Cut.{cut-replies-alike}
use Rattle.stream.specs.Frames.{absent, kept_receptions, kept_to, kept, Parts, asked}
use Rattle.stream.specs.Meaning.{mark_of, Short, Writable, marks_of, cut, LongAlike}

-- ---- lengths

taken-le : (n : ℕ) (w : Bool) → taken n w ≤ n
taken-le n w = go (ltb n one_too_many) w
  where
    go : (b w : Bool) → cond b n (cond w n (n - 1)) ≤ n
    go true w = omega arith
    go false true = omega arith
    go false false = omega arith

receptions-kept : (x : Option (List ℕ)) → Short x → mark_of (map cut_of x) ≡ kept_receptions (mark_of x)
receptions-kept none s = refl
receptions-kept (some b) s =
    let w = eqb ((length b - one_too_many) % reception_bytes) 0 in
    let l : taken (min (length b) one_too_many) w ≤ length b = omega (arith, taken-le (min (length b) one_too_many) w) in
    length-take-le (taken (min (length b) one_too_many) w) b l
    ∙ sym (ap (λ (t : Bool). cond t (length b) (taken (min (length b) one_too_many) w)) (ne_eqb (length b) absent (λ e. omega arith)))

kept-so : (most : ℕ) (x : Option (List ℕ)) → Short x → mark_of (map (take most) x) ≡ kept_to most (mark_of x)
kept-so most none s = refl
kept-so most (some b) s =
    let e : min most (length b) ≡ min (length b) most = omega arith in
    length-take most b ∙ e
    ∙ sym (ap (λ (t : Bool). cond t (length b) (min (length b) most)) (ne_eqb (length b) absent (λ q. omega arith)))

lengths-kept : (p : Parts) → Writable p → marks_of (cut p) ≡ kept (marks_of p)
lengths-kept p w =
    let r = receptions-kept p.receptions w.receptions in
    let c = kept-so 8193 p.clock w.clock in
    let a = kept-so 17 p.altitude w.altitude in
    let e = kept-so 9 p.reference w.reference in
    ap₂ (λ (x y : ℕ). record { receptions = x; clock = y; altitude = mark_of (cut p).altitude; reference = mark_of (cut p).reference }) r c
    ∙ ap₂ (λ (x y : ℕ). record { receptions = (kept (marks_of p)).receptions; clock = (kept (marks_of p)).clock; altitude = x; reference = y }) a e

-- ---- replies

-- a list that is cut a byte after the longest that is taken: it is not cut, or too long before and after
cut-or-not
    : (most : ℕ) (f : Option (List ℕ) → Reply) → ((b c : List ℕ) → most < length b → most < length c → f (some b) ≡ f (some c))
    → (x : Option (List ℕ)) → f (map (take (1 + most)) x) ≡ f x
cut-or-not most f h none = refl
cut-or-not most f h (some b) = go (leb (length b) (1 + most)) refl
  where
    go : (t : Bool) → leb (length b) (1 + most) ≡ t → f (some (take (1 + most) b)) ≡ f (some b)
    go true t = ap (λ (l : List ℕ). f (some l)) (take_all (1 + most) b (leb-true (length b) (1 + most) t))
    go false t =
        let l = leb-false (length b) (1 + most) t in
        h (take (1 + most) b) b (omega (arith, length-take-le (1 + most) b (omega arith))) (omega arith)

-- absent receptions are cut to none
cut-received : (x : Option (List ℕ)) → get_or (map cut_of x) [] ≡ cut_of (get_or x [])
cut-received none = refl
cut-received (some b) = refl

replies-alike : (p : Parts) → reply (asked (cut p)) ≡ reply (asked p)
replies-alike p =
    let rs = get_or p.receptions [] in
    let c = p.clock in
    let a = p.altitude in
    ap (λ (l : List ℕ). reply (filed l (cut p).clock (cut p).altitude (cut p).reference)) (cut-received p.receptions)
    ∙ sym (cut-replies-alike.receptions rs (cut p).clock (cut p).altitude (cut p).reference)
    ∙ cut-or-not 8192 (λ (x : Option (List ℕ)). reply (filed rs x (cut p).altitude (cut p).reference))
    (λ b d. cut-replies-alike.clock rs b d (cut p).altitude (cut p).reference) c
    ∙ cut-or-not 16 (λ (x : Option (List ℕ)). reply (filed rs c x (cut p).reference))
    (λ b d. cut-replies-alike.altitude rs b d c (cut p).reference) a
    ∙ cut-or-not 8 (λ (x : Option (List ℕ)). reply (filed rs c a x))
    (λ b d. cut-replies-alike.reference rs b d c a) p.reference

pub long-alike : LongAlike
long-alike = record { lengths = lengths-kept; replies = replies-alike }
