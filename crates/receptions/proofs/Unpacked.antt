-- Receptions in a list that is being filled and in arrays by field: one more, and what the arrays hold. Assumes nothing.
use Prim.Native.Nat.{ℕ, zero, suc, ◌+◌, ◌*◌, ◌/◌, ◌%◌, ◌^◌, ◌<◌, ◌≤◌}
use mathlib.Core.Path.{◌≡◌, refl, ◌∙◌, ap}
use mathlib.Core.Bool.{Bool, true, false, cond, ◌&&◌, ◌||◌}
use native.Mathlib.Omega.{arith}
use native.Mathlib.Nat.{pow-suc}
use native.Mathlib.Numerals.{add-one}
use borrow.Author.Tests.{lt-ltb}
use lib.Dec.{eqb, ltb, ltb→lt, eqb-suc-zero}
use lib.ListN.{get_or, set, replicate, length-replicate}
use lib.IntN.{pos}
use lib.Ieee.{nan}
use Rattle.sets.specs.Sets.{Subset}
use Rattle.sets.specs.Mask.{has, mask_of}
use Rattle.sets.proofs.Tests.{and_l}
use Rattle.sets.proofs.Masks.{mask-same, set-of-mask}
use Rattle.receptions.specs.declared.ObservationId.{ObservationId}
use Rattle.receptions.specs.declared.Reception.{Reception}
use Rattle.receptions.specs.declared.Fields.{Fields}
use Rattle.receptions.specs.Identities.{before, ascends}
use Rattle.receptions.specs.Receptions.{wholes, floats, fields_of}
use Rattle.receptions.specs.Held.{blank_id, site_in}
use Rattle.receptions.proofs.Filling.{fill-next, fill-three, fill-at}

-- ---- the bits of the identities' order

-- the identity before that of reception i, as the loops hold it
abbrev pub last_of : (ℕ → Reception) → ℕ → ObservationId
last_of at zero = blank_id
last_of at (suc i) = (at i).id

pub last-next : (at : ℕ → Reception) (i : ℕ) → (at i).id ≡ last_of at (i + 1)
last-next at i = rw add-one

above-is : (at : ℕ → Reception) (i : ℕ) → (eqb i 0 || before (last_of at i) (at i).id) ≡ ascends (λ k. (at k).id) i
unfolding ascends
above-is at zero = refl
above-is at (suc i) = rw (eqb-suc-zero i)

mask_next : (S : Subset) (i : ℕ) → cond (S i) 1 0 * 2 ^ i + mask_of S i ≡ mask_of S (i + 1)
unfolding mask_of
mask_next S i = rw add-one

-- bit i of those below n is set where S has i
mask-at : (S : Subset) (n i : ℕ) → i < n → has (mask_of S n) i ≡ S i
mask-at S n i h =
    let below : Subset = λ (j : ℕ). ltb j n && S j in
    ap (λ (m : ℕ). has m i) (mask-same S below n (λ j l. rw (lt-ltb j n l)))
    ∙ ap (λ (R : Subset). R i) (set-of-mask below n (λ j t. ltb→lt j n (and_l (ltb j n) (S j) t)))
    ∙ rw (lt-ltb i n h)

-- the bits with one more stay below the next power
pub bits-more : (above : Bool) (i : ℕ) {bits a : ℕ} → bits < 2 ^ i → a ≡ cond above 1 0 * 2 ^ i + bits → a < 2 ^ (i + 1)
bits-more true i h e = rw add-one (omega (arith, h, e, pow-suc 2 i))
bits-more false i h e = rw add-one (omega (arith, h, e, pow-suc 2 i))

-- ---- one reception more

-- the fields with those of r at place i, and the bits a
abbrev pub stored : Fields → ℕ → Reception → ℕ → Fields
stored f i r a =
    record {
      ascending = a;
      time = set f.time i r.time;
      site_mm = set (set (set f.site_mm (3 * i) (get_or r.site_mm 0 (pos 0))) (3 * i + 1) (get_or r.site_mm 1 (pos 0))) (3 * i + 2)
          (get_or r.site_mm 2 (pos 0));
      z = set f.z i r.z;
      noise_m2 = set f.noise_m2 i r.noise_m2;
      filler = set f.filler i r.filler;
    }

module _ (at : ℕ → Reception) (i : ℕ) {f : Fields} {r : Reception} (e : f ≡ fields_of at i) (q : r ≡ at i) where
  bits-next
      : {last : ObservationId} {above : Bool} {a : ℕ}
      → last ≡ last_of at i → above ≡ (eqb i 0 || before last r.id) → a ≡ cond above 1 0 * 2 ^ i + f.ascending
      → a ≡ mask_of (ascends (λ k. (at k).id)) (i + 1)
  unfolding fields_of
  bits-next l b m = m ∙ rw (b, l, q, above-is at i, e) (mask_next (ascends (λ k. (at k).id)) i)

  pub fields-next
      : {last : ObservationId} {above : Bool} {a : ℕ}
      → last ≡ last_of at i → above ≡ (eqb i 0 || before last r.id) → a ≡ cond above 1 0 * 2 ^ i + f.ascending
      → stored f i r a ≡ fields_of at (i + 1)
  unfolding fields_of
  fields-next {last} {above} {a} l b m =
      ap (stored f i r) (bits-next l b m)
      ∙ ap (λ g. stored g i r (mask_of (ascends (λ k. (at k).id)) (i + 1))) e
      ∙ ap (λ s. stored (fields_of at i) i s (mask_of (ascends (λ k. (at k).id)) (i + 1))) q
      ∙ rw (
        fill-next (wholes 32) (λ i. (at i).time) i,
        fill-three (wholes 96) (λ i a. get_or (at i).site_mm a (pos 0)) i,
        fill-next (floats 32) (λ i. (at i).z) i,
        fill-next (floats 32) (λ i. (at i).noise_m2) i,
        fill-next (replicate 32 0) (λ i. (at i).filler) i,
      )

-- ---- the same receptions have the same fields

-- ---- what the fields hold of reception i

module _ (at : ℕ → Reception) (n i : ℕ) (few : n ≤ 32) (h : i < n) {f : Fields} (e : f ≡ fields_of at n) where
  pub ascending-held : has f.ascending i ≡ ascends (λ k. (at k).id) i
  unfolding fields_of
  ascending-held = rw e (mask-at (ascends (λ k. (at k).id)) n i h)

  pub time-held : get_or f.time i (pos 0) ≡ (at i).time
  unfolding fields_of
  time-held = rw e (fill-at (wholes 32) (λ i. (at i).time) n i (pos 0) h (rw length-replicate (omega arith)))

  pub z-held : get_or f.z i nan ≡ (at i).z
  unfolding fields_of
  z-held = rw e (fill-at (floats 32) (λ i. (at i).z) n i nan h (rw length-replicate (omega arith)))

  pub noise-held : get_or f.noise_m2 i nan ≡ (at i).noise_m2
  unfolding fields_of
  noise-held = rw e (fill-at (floats 32) (λ i. (at i).noise_m2) n i nan h (rw length-replicate (omega arith)))

  pub filler-held : get_or f.filler i 0 ≡ (at i).filler
  unfolding fields_of
  filler-held = rw e (fill-at (replicate 32 0) (λ i. (at i).filler) n i 0 h (rw length-replicate (omega arith)))

  coordinate-held : (k a : ℕ) → k < 3 * n → k / 3 ≡ i → k % 3 ≡ a → get_or f.site_mm k (pos 0) ≡ get_or (at i).site_mm a (pos 0)
  unfolding fields_of
  coordinate-held k a l d m =
      rw (e, ← d, ← m) (fill-at (wholes 96) (λ k. get_or (at (k / 3)).site_mm (k % 3) (pos 0)) (3 * n) k (pos 0) l
      (rw length-replicate (omega arith)))

  -- as it is read: the first three
  pub site-held : site_in f.site_mm i ≡ site_in (at i).site_mm 0
  site-held =
      rw (
        coordinate-held (3 * i) 0 (omega arith) (omega arith) (omega arith),
        coordinate-held (3 * i + 1) 1 (omega arith) (omega arith) (omega arith),
        coordinate-held (3 * i + 2) 2 (omega arith) (omega arith) (omega arith),
      )
