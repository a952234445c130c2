-- The digits of a text, byte by byte. Assumes nothing.
use Rattle.std.proofs.Common.{◌≡◌, ℕ, ◌+◌, ◌<◌, List, Option, Some, None, length, get_or, drop, sym, ap, ◌∙◌, add-one, drop-cons}
use lib.Seq.{drop-length}
use Rattle.find_fixes.specs.declared.decimals.Digits.{Digits}
use Rattle.find_fixes.specs.Decimals.{next, then_digits, digits_of}

-- what the digits d and the bytes from i on come to, by what the byte there makes of d
stepped
    : (s : List ℕ) (i : ℕ) (d : Digits) (all : Option Digits) → i < length s → digits_of d (drop i s) ≡ all
    → then_digits (λ n. digits_of n (drop (i + 1) s)) (next d (get_or s i 0)) ≡ all
unfolding digits_of
stepped s i d all h inv = rw (add-one i) (ap (digits_of d) (sym (drop-cons s i 0 h)) ∙ inv)

pub further
    : (s : List ℕ) (i : ℕ) (d more : Digits) (all : Option Digits) → i < length s → next d (get_or s i 0) ≡ Some more
    → digits_of d (drop i s) ≡ all → digits_of more (drop (i + 1) s) ≡ all
further s i d more all h e inv = sym (ap (then_digits (λ n. digits_of n (drop (i + 1) s))) e) ∙ stepped s i d all h inv

pub spoilt
    : (s : List ℕ) (i : ℕ) (d : Digits) (all : Option Digits) → i < length s → next d (get_or s i 0) ≡ None
    → digits_of d (drop i s) ≡ all → None ≡ all
spoilt s i d all h e inv = sym (ap (then_digits (λ n. digits_of n (drop (i + 1) s))) e) ∙ stepped s i d all h inv

pub ended : (s : List ℕ) (i : ℕ) (d : Digits) (all : Option Digits) → i ≡ length s → digits_of d (drop i s) ≡ all → Some d ≡ all
unfolding digits_of
ended s i d all e inv = rw (e, drop-length s) at inv
