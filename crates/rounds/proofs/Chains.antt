-- Every chain of changes is followed by the computation, and the computation comes to what demand 3 calls an ending, a settled round, or a change in
-- every round. Assumes nothing.
use Rattle.std.proofs.Common.{◌≡◌, ℕ, zero, suc, ◌+◌, ◌<◌, T, sym, refl, ap, ◌∙◌, subst, inl, inr, arith}
use mathlib.Core.Option.{Option, some}
use Rattle.sets.specs.Sets.{Subset}
use Rattle.rounds.specs.declared.answer.Refusal.{Refusal}
use Rattle.rounds.specs.Setting.{Answer, refused, no_fixed_point, Setting, kept}
use Rattle.rounds.specs.Rounds.{Step, ends, changes, settles, round, closed, answer_after, rounds_to}
use Rattle.rounds.specs.Demand.{Change, removal, return, Settled, Ends, Chain, start, then}
use Rattle.rounds.proofs.Choices.{out-kept, Within}
use Rattle.rounds.proofs.Steps.{Says, round-says, says-round}

module _ {Q F X : Type 0} (P : Setting Q F X) where
  pub all-kept : Within P (kept P)
  all-kept j t = t

  -- ---- only kept receptions are ever included
  pub change-within : {S S' : Subset} {p : Option Q} {f : F} → Change P S p S' f → Within P S → Within P S'
  change-within (removal i h w g) W j t = W j ((g j).0 t).0
  change-within {S} (return i h a l g) W j t = elim ((g j).0 t)
      [ inl u ↦ W j u | inr e ↦ subst (λ (x : ℕ). T (kept P x)) (sym e) (out-kept P S i l.0.candidate) ]

  pub chain-within : {E S : Subset} {p q : Option Q} {k : ℕ} → Chain P k S p E q → Within P S → Within P E
  chain-within start W = W
  chain-within (then c s) W = chain-within s (change-within c W)

  -- ---- the computation follows a chain
  after-round : (k : ℕ) (S : Subset) (p : Option Q) (x : Step F) → Within P S → Says P S p x → rounds_to P (suc k) S p
      ≡ answer_after P (λ R q. rounds_to P k R q) S x
  unfolding rounds_to
  after-round k S p x W h = ap (answer_after P (λ R q. rounds_to P k R q) S) (says-round P S p W x h)

  pub after-chain : {E S : Subset} {p q : Option Q} {k : ℕ} → Chain P k S p E q → Within P S → (m d : ℕ) → m ≡ k + d → rounds_to P m S p
      ≡ rounds_to P d E q
  after-chain {E} {q = q} start W m d e = ap (λ (x : ℕ). rounds_to P x E q) (omega (arith, e))
  after-chain (then c s) W zero d e = absurd (omega (arith, e))
  after-chain {S = S} {p = p} (then {S' = R} {f = f} c s) W (suc m) d e = after-round m S p (changes R f) W c
      ∙ after-chain s (change-within c W) m d (omega (arith, e))

  pub after-settled : (S : Subset) (p : Option Q) (f : F) (k : ℕ) → Within P S → Settled P S p f → rounds_to P (suc k) S p ≡ closed (P.later S f)
  after-settled S p f k W h = after-round k S p (settles f) W h

  pub after-end : (S : Subset) (p : Option Q) (e : Refusal) (k : ℕ) → Within P S → Ends P S p e → rounds_to P (suc k) S p ≡ refused e
  after-end S p e k W h = after-round k S p (ends e) W h

  -- ---- what m rounds from S come to, by their answer a
  pub data Run (m : ℕ) (S : Subset) (p : Option Q) (a : Answer X) : Type 0 where
    ended : {E : Subset} {q : Option Q} (k : ℕ) (e : Refusal) → k < m → Chain P k S p E q → Ends P E q e → a ≡ refused e → Run m S p a
    settled : {E : Subset} {q : Option Q} (k : ℕ) (f : F) → k < m → Chain P k S p E q → Settled P E q f → a ≡ closed (P.later E f) → Run m S p a
    never : {E : Subset} {q : Option Q} → Chain P m S p E q → a ≡ no_fixed_point → Run m S p a

  one_more : {S S' : Subset} {p : Option Q} {f : F} (m : ℕ) (a : Answer X) → Change P S p S' f → Run m S' (some (P.params f)) a → Run (suc m) S p a
  one_more m a c (ended k e l s x q) = ended (suc k) e (omega arith) (then c s) x q
  one_more m a c (settled k f l s x q) = settled (suc k) f (omega arith) (then c s) x q
  one_more m a c (never s q) = never (then c s) q

  pub run : (m : ℕ) (S : Subset) (p : Option Q) → Within P S → Run m S p (rounds_to P m S p)
  unfolding rounds_to
  run zero S p W = never start refl
  run (suc m) S p W = go (round P S p) (round-says P S p W) (λ R q v. run m R q v)
    where
      go : (x : Step F) → Says P S p x → ((R : Subset) (q : Option Q) → Within P R → Run m R q (rounds_to P m R q))
          → Run (suc m) S p (answer_after P (λ R q. rounds_to P m R q) S x)
      go (ends e) h rec = ended 0 e (omega arith) start h refl
      go (changes R f) h rec = one_more m (rounds_to P m R (some (P.params f))) h (rec R (some (P.params f)) (change-within h W))
      go (settles f) h rec = settled 0 f (omega arith) start h refl
