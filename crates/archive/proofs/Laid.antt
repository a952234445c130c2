-- The two forms, part by part: what stands where in each, and that each is the other's. Assumes nothing.
use Prim.Native.Nat.{ℕ, ◌+◌, ◌*◌, ◌<◌, ◌≤◌}
use mathlib.Core.Path.{◌≡◌, refl, sym, ap, subst, ◌∙◌}
use mathlib.Core.List.{List, [], ◌∷◌, ◌++◌}
use native.Mathlib.Omega.{arith}
use lib.Dec.{lit<}
use lib.ListN.{length, get_or, length-append}
use lib.Seq.{take_all}
use Rattle.reader.specs.Meaning.{Bytes}
use Rattle.archive.specs.Forms.{part, entry, held, new_form, old_form}
use Rattle.archive.proofs.Pasted.{part_length, joined}
use Rattle.archive.proofs.Parts.{join, Eights, join-length, found, first_found, last_found}
use Rattle.archive.proofs.Parts.{bytes-part, bytes-append, AllBytes, bytes-join}

-- ---- the new form of a record of 176 bytes

module _ (s : List ℕ) (sized : length s ≡ 176) where
  abbrev six : List (List ℕ)
  six = entry s 0 0 ∷ entry s 0 1 ∷ entry s 0 2 ∷ entry s 1 1 ∷ entry s 1 2 ∷ entry s 2 2 ∷ []

  new-joined : new_form s ≡ join (part s 0 80) six ++ part s 152 24
  unfolding new_form
  new-joined = refl

  eight : (k : ℕ) → k + 8 ≤ 176 → length (part s k 8) ≡ 8
  eight k h = part_length s k 8 (omega arith)

  sixes : Eights six
  sixes = (
    eight 80 (omega arith),
    (
      eight 88 (omega arith),
      (
        eight 96 (omega arith),
        (eight 112 (omega arith), (eight 120 (omega arith), (eight 144 (omega arith), tt))),
      ),
    ),
  )

  head-size : length (part s 0 80) ≡ 80
  head-size = part_length s 0 80 (omega arith)

  last-size : length (part s 152 24) ≡ 24
  last-size = part_length s 152 24 (omega arith)

  front-size : length (join (part s 0 80) six) ≡ 128
  front-size = join-length (part s 0 80) six sixes ∙ rw head-size

  pub new-size : length (new_form s) ≡ 152
  new-size = ap length new-joined ∙ rw (length-append (join (part s 0 80) six) (part s 152 24), front-size, last-size)

  pub new-head : part (new_form s) 0 80 ≡ part s 0 80
  new-head = ap (λ (l : List ℕ). part l 0 80) new-joined ∙ first_found (part s 0 80) six (part s 152 24) 80 head-size

  pub new-held : (i : ℕ) → i < 6 → held (new_form s) i ≡ get_or six i []
  new-held i h =
      ap (λ (l : List ℕ). held l i) new-joined
      ∙ rw head-size at (found (part s 0 80) six (part s 152 24) i sixes h)

  pub new-last : part (new_form s) 128 24 ≡ part s 152 24
  new-last = ap (λ (l : List ℕ). part l 128 24) new-joined ∙ last_found (join (part s 0 80) six) (part s 152 24) 128 24 front-size last-size

-- ---- the old form of a record of 152 bytes

module _ (a : List ℕ) (sized : length a ≡ 152) where
  abbrev nine : List (List ℕ)
  nine = held a 0 ∷ held a 1 ∷ held a 2 ∷ held a 1 ∷ held a 3 ∷ held a 4 ∷ held a 2 ∷ held a 4 ∷ held a 5 ∷ []

  old-joined : old_form a ≡ join (part a 0 80) nine ++ part a 128 24
  unfolding old_form
  old-joined = refl

  kept : (k : ℕ) → k < 6 → length (held a k) ≡ 8
  kept k h = part_length a (80 + 8 * k) 8 (omega arith)

  nines : Eights nine
  nines = (
    kept 0 (lit< tt),
    (
      kept 1 (lit< tt),
      (
        kept 2 (lit< tt),
        (
          kept 1 (lit< tt),
          (
            kept 3 (lit< tt),
            (
              kept 4 (lit< tt),
              (kept 2 (lit< tt), (kept 4 (lit< tt), (kept 5 (lit< tt), tt))),
            ),
          ),
        ),
      ),
    ),
  )

  head-size₂ : length (part a 0 80) ≡ 80
  head-size₂ = part_length a 0 80 (omega arith)

  last-size₂ : length (part a 128 24) ≡ 24
  last-size₂ = part_length a 128 24 (omega arith)

  front-size₂ : length (join (part a 0 80) nine) ≡ 152
  front-size₂ = join-length (part a 0 80) nine nines ∙ rw head-size₂

  pub old-size : length (old_form a) ≡ 176
  old-size = ap length old-joined ∙ rw (length-append (join (part a 0 80) nine) (part a 128 24), front-size₂, last-size₂)

  pub old-bytes : Bytes a → Bytes (old_form a)
  old-bytes b =
      let h : (k : ℕ) → Bytes (held a k) = λ k. bytes-part a (80 + 8 * k) 8 b in
      let all : AllBytes nine = (h 0, (h 1, (h 2, (h 1, (h 3, (h 4, (h 2, (h 4, (h 5, tt))))))))) in
      subst Bytes (sym old-joined)
      (bytes-append (join (part a 0 80) nine) (part a 128 24) (bytes-join (part a 0 80) nine (bytes-part a 0 80 b) all) (bytes-part a 128 24 b))

  pub old-head : part (old_form a) 0 80 ≡ part a 0 80
  old-head = ap (λ (l : List ℕ). part l 0 80) old-joined ∙ first_found (part a 0 80) nine (part a 128 24) 80 head-size₂

  pub old-entry : (m : ℕ) → m < 9 → part (old_form a) (80 + 8 * m) 8 ≡ get_or nine m []
  old-entry m h =
      ap (λ (l : List ℕ). part l (80 + 8 * m) 8) old-joined
      ∙ rw head-size₂ at (found (part a 0 80) nine (part a 128 24) m nines h)

  pub old-last : part (old_form a) 152 24 ≡ part a 128 24
  old-last = ap (λ (l : List ℕ). part l 152 24) old-joined ∙ last_found (join (part a 0 80) nine) (part a 128 24) 152 24 front-size₂ last-size₂

-- ---- there and back

-- parts side by side, with eight bytes more at each step, up to the last 24
on : (s : List ℕ) (k : ℕ) → part s 0 k ++ part s k 8 ≡ part s 0 (k + 8)
on s k = let z : 0 + k ≡ k = omega arith in rw z at (joined s 0 k 8)

end : (s : List ℕ) (k : ℕ) → length s ≡ k + 24 → part s 0 k ++ part s k 24 ≡ s
end s k e = let z : 0 + k ≡ k = omega arith in (rw z at (joined s 0 k 24)) ∙ take_all (k + 24) s (omega arith)

pub new-again : (a : List ℕ) → length a ≡ 152 → new_form (old_form a) ≡ a
unfolding new_form
new-again a z =
    let o = old-entry a z in
    rw (old-head a z, o 0 (lit< tt), o 1 (lit< tt), o 2 (lit< tt), o 4 (lit< tt), o 5 (lit< tt), o 8 (lit< tt), old-last a z)
    (rw (on a 80, on a 88, on a 96, on a 104, on a 112, on a 120) (end a 128 z))

pub old-again
    : (s : List ℕ) → length s ≡ 176 → entry s 0 1 ≡ entry s 1 0 → entry s 0 2 ≡ entry s 2 0 → entry s 1 2 ≡ entry s 2 1
    → old_form (new_form s) ≡ s
unfolding old_form
old-again s z p q r =
    let h = new-held s z in
    rw (new-head s z, h 0 (lit< tt), h 1 (lit< tt), h 2 (lit< tt), h 3 (lit< tt), h 4 (lit< tt), h 5 (lit< tt), new-last s z)
    (rw (on s 80, on s 88, on s 96, p, on s 104, on s 112, on s 120, q, on s 128, r, on s 136, on s 144) (end s 152 z))
