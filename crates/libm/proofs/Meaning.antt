-- The statements of specs/Meaning.antt: up to pi / 4 a kernel takes x as it is, and beyond that the reduced angle, which lies within ±0.8 with a tail
-- within ±1e-9; and so far both kernels lie from -1 to 1. Assumes nothing.
use Rattle.std.proofs.Common.{◌≡◌, ◌%◌, Bool, true, false, cond, T, eqb, leb, refl, ap, ◌∙◌, arith, leb-false, leb-true}
use lib.Ieee.{Float, nan, inf, fin, binary64, round, neg, le, fits, of_bits, to_bits}
use lib.Ieee.Bits.{is_true}
use Rattle.binary64.specs.Steps.{nought, one, abs}
use Rattle.binary64.specs.Within.{Within}
use Rattle.binary64.proofs.Units.{Is}
use Rattle.binary64.proofs.Interval.{In, neg-in}
use Rattle.binary64.proofs.Order.{abs-in, in-abs, abs-abs, abs_is, within_in, in_within, weak, choice-in}
use Rattle.libm.specs.Words.{high, negative, signed, switch}
use Rattle.libm.specs.RemPio2.{rem_pio2}
use Rattle.libm.specs.Trig.{limit, quadrant, sin, cos}
use Rattle.libm.specs.Meaning.{SineWithinOne, CosineWithinOne, SineBeyond, CosineBeyond}
use Rattle.libm.specs.declared.rem_pio2.Reduced.{Reduced}
use Rattle.libm.proofs.HighWords.{word-is, high-below, high-above}
use Rattle.libm.proofs.KernelBounds.{wide, Unit-in, Wide-in, Bit-in, k_sin-in, k_cos-in}
use Rattle.libm.proofs.StageBounds.{ReducedIn}
use Rattle.libm.proofs.ReducedBounds.{edge, rem_pio2-in}

pub limit_is : Is binary64 limit
unfolding of_bits fits
limit_is = (tt, tt)

no-tail : Bit-in nought
unfolding of_bits round neg le fits
no-tail = record { lo-is = (tt, tt); hi-is = (tt, tt); is = (tt, tt); least = tt; most = tt }

pub neg-unit : (x : Float) → Unit-in x → Unit-in (neg x)
unfolding of_bits neg le fits
neg-unit x i = weak (neg one) one (neg one) (neg (neg one)) (neg x) (tt, tt) (tt, tt) tt tt (neg-in binary64 (neg one) one x i)

-- ---- the quadrants
switch-in : (y : Reduced) (a b c d : Float) → Unit-in a → Unit-in b → Unit-in c → Unit-in d → Unit-in (switch (y.n % 4) a b c d)
unfolding switch
switch-in y a b c d i j k l =
    let n = y.n % 4 in
    choice-in (neg one) one (eqb n 0) _ _ (λ _. i)
    (λ _. choice-in (neg one) one (eqb n 1) _ _ (λ _. j) (λ _. choice-in (neg one) one (eqb n 2) _ _ (λ _. k) (λ _. l)))

quadrant-in : (y : Reduced) → ReducedIn y → Unit-in (quadrant y).sin × Unit-in (quadrant y).cos
unfolding quadrant
quadrant-in y i =
    let s = k_sin-in y.y0 y.y1 1 i.0 i.1 in
    let c = k_cos-in y.y0 y.y1 i.0 i.1 in
    (switch-in y _ _ _ _ s c (neg-unit _ s) (neg-unit _ c), switch-in y _ _ _ _ c (neg-unit _ s) (neg-unit _ c) s)

signed-in : (x z : Float) → Unit-in z → Unit-in (signed x z)
unfolding signed
signed-in x z i = choice-in (neg one) one (negative x) _ _ (λ _. neg-unit z i) (λ _. i)

-- ---- the angle
-- up to the high word of pi / 4
small-in : (x : Float) → Is binary64 x → leb (high x) 0x3fe921fb ≡ true → Wide-in x
unfolding of_bits round neg le fits
small-in x p h =
    let l = leb-true (high x) 0x3fe921fb h in
    weak (neg wide) wide (neg edge) edge x (tt, tt) (tt, tt) tt tt
    (abs-in x edge p (word-is 0x3fe921fc (omega arith)) tt tt (high-below x p 0x3fe921fc (omega arith) (omega arith)))

large-in : (x : Float) → In binary64 (neg limit) limit x → leb (high x) 0x3fe921fb ≡ false → ReducedIn (rem_pio2 (abs x))
large-in x i h =
    let p = i.is in
    let l = leb-false (high x) 0x3fe921fb h in
    rem_pio2-in (abs x) (abs-abs x)
    (record {
      lo-is = word-is 0x3fe921fc (omega arith);
      hi-is = limit_is;
      is = abs_is x p;
      least =
          high-above x p 0x3fe921fc (omega arith) l;
      most = in-abs x limit i;
    })

held : (b : Bool) (x y : Float) → T b → Unit-in x → Unit-in (cond b x y)
held true x y t i = i
held false x y t i = absurd t

pub sin-in : (x : Float) → In binary64 (neg limit) limit x → Unit-in (sin x)
unfolding sin
sin-in x i =
    choice-in (neg one) one (leb (high x) 0x3fe921fb) _ _ (λ h. k_sin-in x nought 0 (small-in x i.is h) no-tail)
    (λ h. held (le (abs x) limit) _ _ (in-abs x limit i) (signed-in x _ (quadrant-in (rem_pio2 (abs x)) (large-in x i h)).0))

pub cos-in : (x : Float) → In binary64 (neg limit) limit x → Unit-in (cos x)
unfolding cos
cos-in x i =
    choice-in (neg one) one (leb (high x) 0x3fe921fb) _ _ (λ h. k_cos-in x nought (small-in x i.is h) no-tail)
    (λ h. held (le (abs x) limit) _ _ (in-abs x limit i) (quadrant-in (rem_pio2 (abs x)) (large-in x i h)).1)

-- ---- beyond ±7, where both tests fail
abbrev Far : Float → Type 0
Far x = (leb (high x) 0x3fe921fb ≡ false) × (le (abs x) limit ≡ false)

refuted : (b : Bool) → (T b → ⊥) → b ≡ false
refuted true h = absurd (h tt)
refuted false h = refl

wide-limit : (x : Float) → Wide-in x → Within limit x
unfolding of_bits round neg le fits
wide-limit x i = in_within x limit (weak (neg limit) limit (neg wide) wide x (tt, tt) (tt, tt) tt tt i)

abs-limit : (x : Float) → Is binary64 x → T (le (abs x) limit) → Within limit x
unfolding of_bits neg le fits
abs-limit x p h = in_within x limit (abs-in x limit p (tt, tt) tt tt h)

far-finite : (x : Float) → Is binary64 x → (Within limit x → ⊥) → Far x
far-finite x p n = (
  refuted (leb (high x) 0x3fe921fb) (λ t. n (wide-limit x (small-in x p (is_true _ t)))),
  refuted (le (abs x) limit) (λ t. n (abs-limit x p t)),
)

far : (x : Float) → T (fits binary64 x) → (Within limit x → ⊥) → Far x
unfolding high to_bits of_bits abs le
far nan f n = (refl, refl)
far (inf true) f n = (refl, refl)
far (inf false) f n = (refl, refl)
far (fin s m e) f n = far-finite (fin s m e) (f, tt) n

neither : (b c : Bool) (x y : Float) → b ≡ false → c ≡ false → cond b x (cond c y nan) ≡ nan
neither b c x y h k = ap (λ (d : Bool). cond d x (cond c y nan)) h ∙ ap (λ (d : Bool). cond d y nan) k

-- ---- the statements
pub sine-within-one : SineWithinOne
sine-within-one x f w = in_within (sin x) one (sin-in x (within_in x limit f limit_is w))

pub cosine-within-one : CosineWithinOne
cosine-within-one x f w = in_within (cos x) one (cos-in x (within_in x limit f limit_is w))

pub sine-beyond : SineBeyond
unfolding sin
sine-beyond x f n = let h = far x f n in neither (leb (high x) 0x3fe921fb) (le (abs x) limit) _ _ h.0 h.1

pub cosine-beyond : CosineBeyond
unfolding cos
cosine-beyond x f n = let h = far x f n in neither (leb (high x) 0x3fe921fb) (le (abs x) limit) _ _ h.0 h.1
