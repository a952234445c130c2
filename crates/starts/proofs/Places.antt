-- What is packed is found again: as many as the list has, and the k-th is the k-th of the list. Assumes nothing.
use Rattle.std.proofs.Common.{◌≡◌, ℕ, zero, suc, ◌+◌, ◌*◌, ◌<◌, ◌≤◌, List, [], ◌∷◌, length, get_or, refl, ap, ◌∙◌, arith, length-set, lt-ltb}
use lib.Ieee.{Float}
use Rattle.dense.specs.Entries.{nth}
use Rattle.problem.specs.Problem.{four}
use Rattle.starts.specs.declared.Points.{Points}
use Rattle.starts.specs.Held.{empty, put_point, push, packed, point}
use Rattle.starts.proofs.Stores.{four-kept, four-read}

module _ (a : List Float) (k : ℕ) (p : List Float) where
  stored-length : length (put_point a k p) ≡ length a
  stored-length = simp length-set

  -- the start at k once it is stored, and one before it
  here : k < 18 → length a ≡ 72 → point (put_point a k p) k ≡ four (nth p)
  here h l = four-read a (4 * k) (nth p 0) (nth p 1) (nth p 2) (nth p 3) (omega arith)

  elsewhere : (j : ℕ) → j < k → point (put_point a k p) j ≡ point a j
  elsewhere j h = four-kept a (4 * k) (nth p 0) (nth p 1) (nth p 2) (nth p 3) (4 * j) (omega arith)

abbrev next : Points → List Float → Points
next s p = record { n = s.n + 1; at = put_point s.at s.n p }

pushed : (s : Points) (p : List Float) → s.n < 18 → push s p ≡ next s p
unfolding push
pushed s p h = rw (lt-ltb s.n 18 h)

-- what was there stays
stays : (s : Points) (ps : List (List Float)) (j : ℕ) → j < s.n → s.n + length ps ≤ 18 → point (packed s ps).at j ≡ point s.at j
unfolding packed
stays s [] j h m = refl
stays s (p ∷ ps) j h m =
    ap (λ (q : Points). point (packed q ps).at j) (pushed s p (omega arith)) ∙ stays (next s p) ps j (omega arith) (omega arith)
    ∙ elsewhere s.at s.n p j h

-- behind s
behind : (s : Points) (ps : List (List Float)) (k : ℕ) → length s.at ≡ 72 → s.n + length ps ≤ 18 → k < length ps
    → point (packed s ps).at (s.n + k) ≡ four (nth (get_or ps k []))
unfolding packed
behind s [] k l m h = absurd (omega arith)
behind s (p ∷ ps) zero l m h =
    let e : s.n + 0 ≡ s.n = omega arith in
    ap (λ (q : Points). point (packed q ps).at (s.n + 0)) (pushed s p (omega arith))
    ∙ rw e (stays (next s p) ps s.n (omega arith) (omega arith) ∙ here s.at s.n p (omega arith) l)
behind s (p ∷ ps) (suc k) l m h =
    let e : s.n + suc k ≡ s.n + 1 + k = omega arith in
    ap (λ (q : Points). point (packed q ps).at (s.n + suc k)) (pushed s p (omega arith))
    ∙ rw e (behind (next s p) ps k (stored-length s.at s.n p ∙ l) (omega arith) (omega arith))

counted : (s : Points) (ps : List (List Float)) → s.n + length ps ≤ 18 → (packed s ps).n ≡ s.n + length ps
unfolding packed
counted s [] m = omega arith
counted s (p ∷ ps) m =
    let e : s.n + 1 + length ps ≡ s.n + suc (length ps) = omega arith in
    ap (λ (q : Points). (packed q ps).n) (pushed s p (omega arith)) ∙ counted (next s p) ps (omega arith) ∙ e

-- of a list of at most 18: its length, and its k-th
module _ (ps : List (List Float)) (h : length ps ≤ 18) where
  pub packed-count : (packed empty ps).n ≡ length ps
  packed-count = let e : 0 + length ps ≡ length ps = omega arith in counted empty ps (omega arith) ∙ e

  pub packed-at : (k : ℕ) → k < length ps → point (packed empty ps).at k ≡ four (nth (get_or ps k []))
  packed-at k l = let e : k ≡ 0 + k = omega arith in ap (point (packed empty ps).at) e ∙ behind empty ps k refl (omega arith) l
