-- The `medium` of e_hypot.c: what it takes the root of is a sum of products that are not negative, for values and words from c up to 2 ^ 501, where a
-- word makes no more than its value. So the root lies from c on. Assumes nothing.
use Rattle.std.proofs.Common.{ℕ, ◌+◌, ◌<◌, ◌≤◌, Bool, ◌&&◌, T, List, [], ◌∷◌, inl, inr, arith}
use lib.Ieee.{Float, binary64, add, sub, mul, neg, le, lt, fits, of_bits}
use lib.Ieee.Fits.{and_l, and_r}
use Rattle.binary64.specs.Steps.{◌⊕◌, ◌⊖◌, ◌⊗◌, #, nought}
use Rattle.binary64.specs.Root.{root}
use Rattle.binary64.proofs.Interval.{In, le_total, neg-in}
use Rattle.binary64.proofs.Runs.{Step, plus, minus, times, range, check, check_sound}
use Rattle.binary64.proofs.Order.{choice-in, nought-is}
use Rattle.binary64.proofs.Own.{difference-above}
use Rattle.binary64.proofs.RootBounds.{roots, root_in}
use Rattle.libm.specs.Words.{word}
use Rattle.libm.specs.Hypotenuse.{medium}
use Rattle.libm.proofs.HighWords.{word-is, word_in}

-- the greatest finite value, and 2 ^ 512, whose square is above it
abbrev pub greatest : Float
greatest = # 0x7FEFFFFFFFFFFFFF

abbrev pub far : Float
far = word 0x5ff00000

-- ---- what the root is taken of: over t1, b, -b, a and t2, and over t1, y1, w * -w, y2, t2 and b
abbrev first-steps : List Step
first-steps = times 0 0 ∷ times 2 3 ∷ plus 5 2 ∷ times 7 0 ∷ minus 2 0 ∷ minus 4 0 ∷ []

abbrev second-steps : List Step
second-steps = times 0 1 ∷ times 1 4 ∷ times 6 7 ∷ plus 1 0 ∷ minus 6 0 ∷ minus 4 0 ∷ []

-- from lo * lo on, so that the root is from lo on
module _ (lo tl th bl bh al ah dl dh : Float) where
  abbrev pub first-ok : Bool
  first-ok = check (lo ⊗ lo) greatest first-steps (range tl th ∷ range bl bh ∷ range (neg bh) (neg bl) ∷ range al ah ∷ range dl dh ∷ [])

  pub first-in : (t b a d : Float) → T first-ok → In binary64 tl th t → In binary64 bl bh b → In binary64 al ah a → In binary64 dl dh d
      → In binary64 (lo ⊗ lo) greatest (t ⊗ t ⊖ (b ⊗ neg b ⊖ d ⊗ (a ⊕ t)))
  first-in t b a d c i j k l =
      check_sound (lo ⊗ lo) greatest first-steps (range tl th ∷ range bl bh ∷ range (neg bh) (neg bl) ∷ range al ah ∷ range dl dh ∷ [])
      (t ∷ b ∷ neg b ∷ a ∷ d ∷ []) (i, (j, (neg-in binary64 bl bh b j, (k, (l, tt))))) c

module _ (lo tl th yl yh sl sh zl zh dl dh bl bh : Float) where
  abbrev pub second-ok : Bool
  second-ok = check (lo ⊗ lo) greatest second-steps (range tl th ∷ range yl yh ∷ range sl sh ∷ range zl zh ∷ range dl dh ∷ range bl bh ∷ [])

  pub second-in : (t y s z d b : Float) → T second-ok → In binary64 tl th t → In binary64 yl yh y → In binary64 sl sh s → In binary64 zl zh z
      → In binary64 dl dh d → In binary64 bl bh b → In binary64 (lo ⊗ lo) greatest (t ⊗ y ⊖ (s ⊖ (t ⊗ z ⊕ d ⊗ b)))
  second-in t y s z d b c i j k l m n =
      check_sound (lo ⊗ lo) greatest second-steps (range tl th ∷ range yl yh ∷ range sl sh ∷ range zl zh ∷ range dl dh ∷ range bl bh ∷ [])
      (t ∷ y ∷ s ∷ z ∷ d ∷ b ∷ []) (i, (j, (k, (l, (m, (n, tt)))))) c

-- a difference that is not negative
pub rest_in : (al ah tl th hi a t : Float) → In binary64 al ah a → In binary64 tl th t → T (le t a)
    → T (check (neg hi) hi (minus 0 1 ∷ []) (range al ah ∷ range tl th ∷ [])) → In binary64 nought hi (a ⊖ t)
rest_in al ah tl th hi a t i j h c =
    let u = check_sound (neg hi) hi (minus 0 1 ∷ []) (range al ah ∷ range tl th ∷ []) (a ∷ t ∷ []) (i, (j, tt)) c in
    record { lo-is = nought-is; hi-is = u.hi-is; is = u.is; least = difference-above a t i.is j.is h; most = u.most }

-- w * -w, for a w within ±s
pub square-in : (s w : Float) → T (check (neg (s ⊗ s)) nought (times 0 1 ∷ []) (range nought s ∷ range (neg s) (neg nought) ∷ []))
    → T (check (neg (s ⊗ s)) nought (times 0 1 ∷ []) (range (neg s) nought ∷ range (neg nought) (neg (neg s)) ∷ []))
    → In binary64 (neg s) s w → In binary64 (neg (s ⊗ s)) nought (w ⊗ neg w)
square-in s w c d i = elim (le_total binary64 nought w nought-is i.is) [
  | inl h ↦
      let j : In binary64 nought s w = record { lo-is = nought-is; hi-is = i.hi-is; is = i.is; least = h; most = i.most } in
      check_sound (neg (s ⊗ s)) nought (times 0 1 ∷ []) (range nought s ∷ range (neg s) (neg nought) ∷ []) (w ∷ neg w ∷ [])
      (j, (neg-in binary64 nought s w j, tt)) c
  | inr h ↦
      let j : In binary64 (neg s) nought w = record { lo-is = i.lo-is; hi-is = nought-is; is = i.is; least = i.least; most = h } in
      check_sound (neg (s ⊗ s)) nought (times 0 1 ∷ []) (range (neg s) nought ∷ range (neg nought) (neg (neg s)) ∷ []) (w ∷ neg w ∷ [])
      (j, (neg-in binary64 (neg s) nought w j, tt)) d
]

-- ---- `medium`, for values and words from c up to 2 ^ 501
abbrev pub top : Float
top = word 0x5f400000

abbrev twice : Float
twice = word 0x5f500000

-- what the steps between ask of c
abbrev fine : ℕ → Bool
fine c =
    let C = word c in
    (first-ok C C top C top C top nought top && second-ok C C twice C top (neg (top ⊗ top)) nought nought top nought twice C top)
    && (roots C far (C ⊗ C) greatest
    && (check (neg top) top (minus 0 1 ∷ []) (range C top ∷ range C top ∷ [])
    && (check nought twice (plus 0 0 ∷ []) (range C top ∷ []) && check (neg twice) twice (minus 0 1 ∷ []) (range nought twice ∷ range C twice ∷ []))))

module _ (c : ℕ) (a b : Float) (ha hb : ℕ) where
  pub record Place : Type 0 where
    pub a_in : In binary64 (word c) top a
    pub b-in : In binary64 (word c) top b
    pub a_word : (c ≤ ha) × (ha ≤ 0x5f300000)
    pub b-word : (c ≤ hb) × (hb ≤ 0x5f300000)
    pub a-over : T (le (word ha) a)
    pub b-over : T (le (word hb) b)
    pub a-twice : T (le (word (ha + 0x00100000)) (a ⊕ a))

gap-square : (w : Float) → In binary64 (neg top) top w → In binary64 (neg (top ⊗ top)) nought (w ⊗ neg w)
unfolding of_bits neg mul le fits
gap-square w i = square-in top w tt tt i

pub medium-in : (c : ℕ) (a b : Float) (ha hb : ℕ) → c < 0x5f300000 → T (fine c) → Place c a b ha hb → In binary64 (word c) far (medium a b ha hb)
unfolding medium
medium-in c a b ha hb k t p =
    let C = word c in
    let f1 = first-ok C C top C top C top nought top in
    let f2 = second-ok C C twice C top (neg (top ⊗ top)) nought nought top nought twice C top in
    let g1 = roots C far (C ⊗ C) greatest in
    let g2 = check (neg top) top (minus 0 1 ∷ []) (range C top ∷ range C top ∷ []) in
    let g3 = check nought twice (plus 0 0 ∷ []) (range C top ∷ []) in
    let g4 = check (neg twice) twice (minus 0 1 ∷ []) (range nought twice ∷ range C twice ∷ []) in
    let u = and_l (f1 && f2) (g1 && (g2 && (g3 && g4))) t in
    let v = and_r (f1 && f2) (g1 && (g2 && (g3 && g4))) t in
    let w = and_r g1 (g2 && (g3 && g4)) v in
    let less = and_l g2 (g3 && g4) w in
    let z = and_r g2 (g3 && g4) w in
    let a_word = word_in c ha 0x5f400000 p.a_word.0 (omega arith) (omega arith) in
    let b-word = word_in c hb 0x5f400000 p.b-word.0 (omega arith) (omega arith) in
    let twice_word = word_in c (ha + 0x00100000) 0x5f500000 (omega arith) (omega arith) (omega arith) in
    let rooted : (x : Float) → In binary64 (C ⊗ C) greatest x → In binary64 C far (root x) =
    λ x i. root_in C far (C ⊗ C) greatest x a_word.lo-is (word-is 0x5ff00000 (omega arith)) (and_l g1 (g2 && (g3 && g4)) v) i in
    let gap = check_sound (neg top) top (minus 0 1 ∷ []) (range C top ∷ range C top ∷ []) (a ∷ b ∷ []) (p.a_in, (p.b-in, tt)) less in
    let t2 = rest_in C top C top top a (word ha) p.a_in a_word p.a-over less in
    let y2 = rest_in C top C top top b (word hb) p.b-in b-word p.b-over less in
    let sum = check_sound nought twice (plus 0 0 ∷ []) (range C top ∷ []) (a ∷ []) (p.a_in, tt) (and_l g3 g4 z) in
    let t2' = rest_in nought twice C twice twice (a ⊕ a) (word (ha + 0x00100000)) sum twice_word p.a-twice (and_r g3 g4 z) in
    choice-in C far (lt b (a ⊖ b)) _ _
    (λ _. rooted _ (first-in C C top C top C top nought top (word ha) b a (a ⊖ word ha) (and_l f1 f2 u) a_word p.b-in p.a_in t2))
    (λ _. rooted _
    (second-in C C twice C top (neg (top ⊗ top)) nought nought top nought twice C top (word (ha + 0x00100000)) (word hb) ((a ⊖ b) ⊗ neg (a ⊖ b))
    (b ⊖ word hb)
    ((a ⊕ a) ⊖ word (ha + 0x00100000)) b (and_r f1 f2 u) twice_word b-word (gap-square (a ⊖ b) gap) y2 t2' p.b-in))

pub fine-low : T (fine 0x20b00000)
unfolding of_bits neg add sub mul le fits
fine-low = tt

pub fine-mid : T (fine 0x25900000)
unfolding of_bits neg add sub mul le fits
fine-mid = tt
