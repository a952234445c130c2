-- The states stand in input order, 20 bytes each, and no other byte changes: the statement of specs/Meaning.antt. A byte of a word is the same
-- wherever the word is written (`put-alike`). Assumes nothing.
use mathlib.Core.Path.{◌≡◌, refl, sym, ap, ◌∙◌}
use mathlib.Core.Logic.{◌⊎◌, inl, inr}
use mathlib.Core.List.{List}
use Prim.Native.Nat.{ℕ, zero, suc, ◌+◌, ◌-◌, ◌*◌, ◌/◌, ◌%◌, ◌≤◌, ◌<◌}
use native.Mathlib.Omega.{arith}
use lib.ListN.{length, get_or, set, replicate, length-set, length-replicate}
use lib.Seq.{get_or-set_same}
use lib.Ieee.{binary64, to_bits}
use Rattle.binary64.proofs.Nearer.{either}
use Rattle.sets.proofs.Tests.{lt-suc-cases}
use Rattle.words.specs.Words.{put_word, put_u32, put_u64, put_f64}
use Rattle.words.proofs.Back.{put-length, put_keeps}
use Rattle.record.specs.Record.{written}
use Rattle.reader.proofs.Clause.{Clause}
use Rattle.why.specs.declared.State.{State}
use Rattle.why.specs.States.{number_of, turn_in, clashes_in, residual_in, rows_at, states_to}
use Rattle.why.specs.Meaning.{bytes_of, Stands, StatesStandInOrder}
use Rattle.why.proofs.Writing.{states-length}

-- byte i of a word that is written into s from byte k on, and into t from byte l on
put-alike
    : (w : ℕ) (s t : List ℕ) (k l x i : ℕ) → i < w → k + w ≤ length s → l + w ≤ length t
    → get_or (put_word w s k x) (k + i) 0 ≡ get_or (put_word w t l x) (l + i) 0
unfolding put_word
put-alike zero s t k l x i h a b = absurd (omega arith)
put-alike (suc w) s t k l x zero h a b = first s k a ∙ sym (first t l b)
  where
    first : (r : List ℕ) (m : ℕ) → m + suc w ≤ length r → get_or (put_word w (set r m (x % 256)) (m + 1) (x / 256)) (m + 0) 0 ≡ x % 256
    first r m c =
        put_keeps w (set r m (x % 256)) (m + 1) (x / 256) (m + 0) (inl (omega arith))
        ∙ ap (λ (j : ℕ). get_or (set r m (x % 256)) j 0) (omega arith)
        ∙ get_or-set_same r m (x % 256) 0 (omega arith)
put-alike (suc w) s t k l x (suc i) h a b =
    ap (λ (j : ℕ). get_or (put_word w (set s k (x % 256)) (k + 1) (x / 256)) j 0) (omega arith)
    ∙ put-alike w (set s k (x % 256)) (set t l (x % 256)) (k + 1) (l + 1) (x / 256) i (omega arith)
    (rw length-set (omega arith)) (rw length-set (omega arith))
    ∙ ap (λ (j : ℕ). get_or (put_word w (set t l (x % 256)) (l + 1) (x / 256)) j 0) (omega arith)

-- four words, one after the other: of 4, 4, 4 and 8 bytes
abbrev put1 : List ℕ → ℕ → State → List ℕ
put1 s k t = put_word 4 s k (number_of t)

abbrev put2 : List ℕ → ℕ → State → List ℕ
put2 s k t = put_word 4 (put1 s k t) (k + 4) (turn_in t)

abbrev put3 : List ℕ → ℕ → State → List ℕ
put3 s k t = put_word 4 (put2 s k t) (k + 8) (clashes_in t)

abbrev put4 : List ℕ → ℕ → State → List ℕ
put4 s k t = put_word 8 (put3 s k t) (k + 12) (to_bits binary64 (residual_in t))

rows-put : (s : List ℕ) (k : ℕ) (t : State) → written s (rows_at k t) ≡ put4 s k t
unfolding put_u32 put_u64 put_f64
rows-put s k t = refl

module _ (s : List ℕ) (k : ℕ) (t : State) where
  size1 : length (put1 s k t) ≡ length s
  size1 = put-length 4 s k (number_of t)

  size2 : length (put2 s k t) ≡ length s
  size2 = put-length 4 (put1 s k t) (k + 4) (turn_in t) ∙ size1

  size3 : length (put3 s k t) ≡ length s
  size3 = put-length 4 (put2 s k t) (k + 8) (clashes_in t) ∙ size2

  -- which word a byte is of
  in1 : (i : ℕ) → i < 4 → get_or (put4 s k t) (k + i) 0 ≡ get_or (put1 s k t) (k + i) 0
  in1 i h =
      put_keeps 8 (put3 s k t) (k + 12) (to_bits binary64 (residual_in t)) (k + i) (inl (omega arith))
      ∙ put_keeps 4 (put2 s k t) (k + 8) (clashes_in t) (k + i) (inl (omega arith))
      ∙ put_keeps 4 (put1 s k t) (k + 4) (turn_in t) (k + i) (inl (omega arith))

  in2 : (i : ℕ) → i < 4 → get_or (put4 s k t) (k + 4 + i) 0 ≡ get_or (put2 s k t) (k + 4 + i) 0
  in2 i h =
      put_keeps 8 (put3 s k t) (k + 12) (to_bits binary64 (residual_in t)) (k + 4 + i) (inl (omega arith))
      ∙ put_keeps 4 (put2 s k t) (k + 8) (clashes_in t) (k + 4 + i) (inl (omega arith))

  in3 : (i : ℕ) → i < 4 → get_or (put4 s k t) (k + 8 + i) 0 ≡ get_or (put3 s k t) (k + 8 + i) 0
  in3 i h = put_keeps 8 (put3 s k t) (k + 12) (to_bits binary64 (residual_in t)) (k + 8 + i) (inl (omega arith))

  -- a byte outside the 20
  outside : (b : ℕ) → (b < k) ⊎ (k + 20 ≤ b) → get_or (put4 s k t) b 0 ≡ get_or s b 0
  outside b (inl h) =
      put_keeps 8 (put3 s k t) (k + 12) (to_bits binary64 (residual_in t)) b (inl (omega arith))
      ∙ put_keeps 4 (put2 s k t) (k + 8) (clashes_in t) b (inl (omega arith))
      ∙ put_keeps 4 (put1 s k t) (k + 4) (turn_in t) b (inl (omega arith))
      ∙ put_keeps 4 s k (number_of t) b (inl h)
  outside b (inr h) =
      put_keeps 8 (put3 s k t) (k + 12) (to_bits binary64 (residual_in t)) b (inr (omega arith))
      ∙ put_keeps 4 (put2 s k t) (k + 8) (clashes_in t) b (inr (omega arith))
      ∙ put_keeps 4 (put1 s k t) (k + 4) (turn_in t) b (inr (omega arith))
      ∙ put_keeps 4 s k (number_of t) b (inr (omega arith))

-- the 20 bytes are the same wherever the state is written
module _ (s r : List ℕ) (k l : ℕ) (t : State) (a : k + 20 ≤ length s) (b : l + 20 ≤ length r) where
  part1 : (i : ℕ) → i < 4 → get_or (put4 s k t) (k + i) 0 ≡ get_or (put4 r l t) (l + i) 0
  part1 i h = in1 s k t i h ∙ put-alike 4 s r k l (number_of t) i h (omega arith) (omega arith) ∙ sym (in1 r l t i h)

  part2 : (i : ℕ) → i < 4 → get_or (put4 s k t) (k + 4 + i) 0 ≡ get_or (put4 r l t) (l + 4 + i) 0
  part2 i h =
      in2 s k t i h
      ∙ put-alike 4 (put1 s k t) (put1 r l t) (k + 4) (l + 4) (turn_in t) i h (omega (arith, size1 s k t)) (omega (arith, size1 r l t))
      ∙ sym (in2 r l t i h)

  part3 : (i : ℕ) → i < 4 → get_or (put4 s k t) (k + 8 + i) 0 ≡ get_or (put4 r l t) (l + 8 + i) 0
  part3 i h =
      in3 s k t i h
      ∙ put-alike 4 (put2 s k t) (put2 r l t) (k + 8) (l + 8) (clashes_in t) i h (omega (arith, size2 s k t)) (omega (arith, size2 r l t))
      ∙ sym (in3 r l t i h)

  part4 : (i : ℕ) → i < 8 → get_or (put4 s k t) (k + 12 + i) 0 ≡ get_or (put4 r l t) (l + 12 + i) 0
  part4 i h =
      put-alike 8 (put3 s k t) (put3 r l t) (k + 12) (l + 12) (to_bits binary64 (residual_in t)) i h
      (omega (arith, size3 s k t)) (omega (arith, size3 r l t))

  moved : (m i : ℕ) → m ≤ i → get_or (put4 s k t) (k + m + (i - m)) 0 ≡ get_or (put4 r l t) (l + m + (i - m)) 0
      → get_or (put4 s k t) (k + i) 0 ≡ get_or (put4 r l t) (l + i) 0
  moved m i h e = ap (λ (j : ℕ). get_or (put4 s k t) j 0) (omega arith) ∙ e ∙ ap (λ (j : ℕ). get_or (put4 r l t) j 0) (omega arith)

  twenty : (i : ℕ) → i < 20 → get_or (put4 s k t) (k + i) 0 ≡ get_or (put4 r l t) (l + i) 0
  twenty i h = go (either 4 i) (either 8 i) (either 12 i)
    where
      go : (4 ≤ i) ⊎ (i < 4) → (8 ≤ i) ⊎ (i < 8) → (12 ≤ i) ⊎ (i < 12) → get_or (put4 s k t) (k + i) 0 ≡ get_or (put4 r l t) (l + i) 0
      go (inr p) q o = part1 i p
      go (inl p) (inr q) o = moved 4 i p (part2 (i - 4) (omega arith))
      go (inl p) (inl q) (inr o) = moved 8 i q (part3 (i - 8) (omega arith))
      go (inl p) (inl q) (inl o) = moved 12 i o (part4 (i - 12) (omega arith))

module _ (out : List ℕ) (state : ℕ → State) where
  past : (k : ℕ) (b : ℕ) → 20 * k ≤ b → get_or (states_to out state k) b 0 ≡ get_or out b 0
  unfolding states_to
  past zero b h = refl
  past (suc k) b h =
      ap (λ (l : List ℕ). get_or l b 0) (rows-put (states_to out state k) (20 * k) (state k))
      ∙ outside (states_to out state k) (20 * k) (state k) b (inr (omega arith))
      ∙ past k b (omega arith)

  told : (k : ℕ) → 20 * k ≤ length out → (j i : ℕ) → j < k → i < 20 → get_or (states_to out state k) (20 * j + i) 0 ≡ get_or (bytes_of (state j)) i 0
  unfolding states_to
  told zero l j i h g = absurd (omega arith)
  told (suc k) l j i h g =
      ap (λ (x : List ℕ). get_or x (20 * j + i) 0) (rows-put (states_to out state k) (20 * k) (state k))
      ∙ go (lt-suc-cases j k h) (λ e. told k (omega arith) j i e g)
    where
      before : List ℕ
      before = states_to out state k

      room : 20 * k + 20 ≤ length before
      room = omega (arith, states-length out state k)

      go : (j ≡ k) ⊎ (j < k) → (j < k → get_or before (20 * j + i) 0 ≡ get_or (bytes_of (state j)) i 0)
          → get_or (put4 before (20 * k) (state k)) (20 * j + i) 0 ≡ get_or (bytes_of (state j)) i 0
      go (inl e) earlier =
          ap (λ (m : ℕ). get_or (put4 before (20 * k) (state k)) (20 * m + i) 0) e
          ∙ twenty before (replicate 20 0) (20 * k) 0 (state k) room (rw (length-replicate {A = ℕ} 20 0) (omega arith)) i g
          ∙ ap (λ (m : ℕ). get_or (put4 (replicate 20 0) 0 (state k)) m 0) (omega arith)
          ∙ ap (λ (x : List ℕ). get_or x i 0) (sym (rows-put (replicate 20 0) 0 (state k)))
          ∙ ap (λ (m : ℕ). get_or (bytes_of (state m)) i 0) (sym e)
      go (inr e) earlier = outside before (20 * k) (state k) (20 * j + i) (inl (omega arith)) ∙ earlier e

-- ---- clause by clause
module _ (out : List ℕ) (state : ℕ → State) (k : ℕ) where
  abbrev InOrder : Type 0
  InOrder = Stands out state k (states_to out state k)

  stand-sized : Clause (λ (s : InOrder). s.sized)
  stand-sized = states-length out state k

  stand-told : 20 * k ≤ length out → Clause (λ (s : InOrder). s.told)
  stand-told l = told out state k l

  stand-past : Clause (λ (s : InOrder). s.past)
  stand-past = past out state k

pub states-stand-in-order : StatesStandInOrder
states-stand-in-order out state k l =
    record { sized = stand-sized out state k; told = stand-told out state k l; past = stand-past out state k }
