-- What is taken apart, and what is not. Assumes nothing.
use Prim.Native.Nat.{ℕ}
use mathlib.Core.Path.{◌≡◌, refl, sym, ap, ◌∙◌}
use mathlib.Core.Bool.{Bool, true, false, cond}
use mathlib.Core.List.{List}
use native.Mathlib.Omega.{arith}
use lib.Dec.{eqb}
use lib.ListN.{length}
use borrow.Author.Tests.{eq-eqb, eqb-true}
use Rattle.std.specs.Prelude.{Result, Ok, Err}
use Rattle.std.specs.Result.{result_unwrap_or}
use Rattle.refusals.specs.declared.Refusal.{Refusal}
use Rattle.refusals.specs.declared.Refusal.TheVariants.{TornFile, MalformedRecord}
use Rattle.refusals.specs.Refusals.{answer_of}
use Rattle.reader.specs.declared.content.Content.{Content}
use Rattle.reader.specs.Tests.{meets_rules}
use Rattle.reader.specs.Read.{read_of, content_at}

-- only the first of three readings is no refusal
first
    : (a b : Bool) (v : Content) → answer_of (cond a (cond b (Ok v) (Err MalformedRecord)) (Err TornFile)) ≡ 0
    → (a ≡ true) × (b ≡ true)
first true true v e = (refl, refl)
first true false v e = absurd (omega arith)
first false b v e = absurd (omega arith)

pub accepted : (s : List ℕ) → answer_of (read_of s) ≡ 0 → (length s ≡ 176) × (meets_rules s ≡ true)
unfolding read_of
accepted s e = let t = first (eqb (length s) 176) (meets_rules s) (content_at s) e in (eqb-true _ _ t.0, t.1)

pub taken-apart : (s : List ℕ) → length s ≡ 176 → meets_rules s ≡ true → read_of s ≡ Ok (content_at s)
unfolding read_of
taken-apart s l m = rw (eq-eqb (length s) 176 l, m)

-- what was read is what stands there
pub same-read : {v w : Content} → ◌≡◌ {A = Result Content Refusal} (Ok v) (Ok w) → v ≡ w
same-read {v = v} e = ap (λ (r : Result Content Refusal). result_unwrap_or r v) e

pub what-is-read : (s : List ℕ) (v : Content) → read_of s ≡ Ok v → v ≡ content_at s
what-is-read s v e = let t = accepted s (ap answer_of e) in same-read (sym e ∙ taken-apart s t.0 t.1)
