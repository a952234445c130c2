-- Words written at places that ascend and lie apart are read back, each of them, for every such table, and the bytes between
-- them stay. Assumes nothing.
use Prim.Native.Nat.{ℕ, zero, suc, ◌+◌, ◌^◌, ◌<◌, ◌≤◌}
use mathlib.Core.Path.{◌≡◌, refl, ◌∙◌}
use mathlib.Core.Bool.{Bool, true, false, ◌&&◌, ◌||◌}
use mathlib.Core.Logic.{◌⊎◌, inl, inr}
use mathlib.Core.List.{List, [], ◌∷◌}
use native.Mathlib.Omega.{arith}
use borrow.Author.Tests.{leb-true}
use lib.Dec.{leb}
use lib.ListN.{length, drop, get_or}
use Rattle.words.specs.Words.{word_at, put_word}
use Rattle.words.proofs.Back.{lowest, lowest-whole, put-length, put_keeps, read-elsewhere, read-lowest}
use Rattle.reader.proofs.Tests.{both_true, all-3}

-- so many bytes, from a place on, hold a number
pub data Word : Type 0 where
  word : ℕ → ℕ → ℕ → Word

unfoldable pub put_all : List ℕ → List Word → List ℕ
put_all r [] = r
put_all r (word w k x ∷ ws) = put_all (put_word w r k x) ws

-- from byte e on, one past the other, within size bytes
unfoldable pub apart : ℕ → ℕ → List Word → Bool
apart size e [] = true
apart size e (word w k x ∷ ws) = leb e k && (leb (k + w) size && apart size (k + w) ws)

pub data Reads (s : List ℕ) : List Word → Type 0 where
  none : Reads s []
  more : {w k x : ℕ} {ws : List Word} → word_at w s k ≡ lowest w x → Reads s ws → Reads s (word w k x ∷ ws)

module _ (size e w k x : ℕ) (ws : List Word) (t : apart size e (word w k x ∷ ws) ≡ true) where
  follows : (e ≤ k) × (k + w ≤ size) × (apart size (k + w) ws ≡ true)
  unfolding apart
  follows =
      let q = all-3 (leb e k) (leb (k + w) size) (apart size (k + w) ws) t in
      (leb-true e k q.0, leb-true (k + w) size q.1, q.2)

keep : (size : ℕ) (ws : List Word) (r : List ℕ) (v j e : ℕ) → j + v ≤ e → apart size e ws ≡ true → word_at v (put_all r ws) j ≡ word_at v r j
unfolding put_all
keep size [] r v j e h t = refl
keep size (word w k x ∷ ws) r v j e h t =
    let f = follows size e w k x ws t in
    let a : e ≤ k = f.0 in
    keep size ws (put_word w r k x) v j (k + w) (omega arith) f.2 ∙ read-elsewhere v w r k x j (inl (omega arith))

pub reads : (size : ℕ) (ws : List Word) (r : List ℕ) (e : ℕ) → length r ≡ size → apart size e ws ≡ true → Reads (put_all r ws) ws
unfolding put_all
reads size [] r e l t = none
reads size (word w k x ∷ ws) r e l t =
    let f = follows size e w k x ws t in
    let b : k + w ≤ size = f.1 in
    more
    (keep size ws (put_word w r k x) w k (k + w) (omega arith) f.2 ∙ read-lowest w r k x (omega arith))
    (reads size ws (put_word w r k x) (k + w) (put-length w r k x ∙ l) f.2)

-- the first word, whatever number it was given, and a number that it holds
pub first_read : {s : List ℕ} {w k x : ℕ} {ws : List Word} → Reads s (word w k x ∷ ws) → word_at w s k ≡ lowest w x
first_read (more e r) = e

pub whole-read : {s : List ℕ} {w k x : ℕ} {ws : List Word} → Reads s (word w k x ∷ ws) → x < 256 ^ w → word_at w s k ≡ x
whole-read {w = w} {x = x} r h = first_read r ∙ lowest-whole w x h

-- the words from the i-th on
pub later-read : {s : List ℕ} (i : ℕ) {ws : List Word} → Reads s ws → Reads s (drop i ws)
later-read zero r = r
later-read (suc i) none = none
later-read (suc i) (more e r) = later-read i r

-- ---- the bytes between

-- no word lies on the bytes from a on and before b
unfoldable pub clear : ℕ → ℕ → List Word → Bool
clear a b [] = true
clear a b (word w k x ∷ ws) = (leb b k || leb (k + w) a) && clear a b ws

beside : (p q : Bool) → (p || q) ≡ true → (p ≡ true) ⊎ (q ≡ true)
beside true q e = inl refl
beside false q e = inr e

pub stays : (ws : List Word) (r : List ℕ) (a b j : ℕ) → clear a b ws ≡ true → a ≤ j → j < b → get_or (put_all r ws) j 0 ≡ get_or r j 0
unfolding put_all clear
stays [] r a b j t h g = refl
stays (word w k x ∷ ws) r a b j t h g =
    let q = both_true (leb b k || leb (k + w) a) (clear a b ws) t in
    stays ws (put_word w r k x) a b j q.1 h g ∙ put_keeps w r k x j (away (beside (leb b k) (leb (k + w) a) q.0))
  where
    away : (leb b k ≡ true) ⊎ (leb (k + w) a ≡ true) → (j < k) ⊎ (k + w ≤ j)
    away (inl e) = let l : b ≤ k = leb-true b k e in inl (omega arith)
    away (inr e) = let l : k + w ≤ a = leb-true (k + w) a e in inr (omega arith)
