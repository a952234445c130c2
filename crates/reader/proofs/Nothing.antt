-- What was read can be written: nothing stands beside a refusal. Assumes nothing.
use Prim.Native.Nat.{ℕ}
use mathlib.Core.Path.{◌≡◌, refl, ap, ◌∙◌}
use mathlib.Core.Bool.{Bool, true, false, cond}
use mathlib.Core.List.{List}
use lib.Dec.{eqb}
use lib.ListN.{length}
use lib.Ieee.{of_bits, to_bits}
use borrow.Author.Tests.{eq-eqb}
use Rattle.words.specs.Words.{put_word, put_u16, put_u32, put_u64, put_i64, put_f64}
use Rattle.problem.specs.declared.Altitude.TheVariants.{None}
use Rattle.record.specs.Record.{fix}
use Rattle.reader.specs.Rules.{answer_at, detail_at, n_at}
use Rattle.reader.specs.Tests.{zeros, good_answer, good_detail, good_n, good_fix, good_refusal, meets_rules}
use Rattle.reader.specs.Read.{fix_at, no_fix, fixed, refused, content_at, bytes_of, alone, readable}
use Rattle.reader.proofs.Copied.{Bytes}
use Rattle.reader.proofs.Tests.{both_hold, all-4}
use Rattle.reader.proofs.Round.{again}

-- the bytes of no fix, worked out
nothing_written : (zeros (fix 0 None no_fix) 0 160 ≡ true) × (zeros (fix 0 None no_fix) 161 15 ≡ true)
unfolding zeros fix put_u16 put_u32 put_u64 put_i64 put_f64 put_word of_bits to_bits
nothing_written = (refl, refl)

pub refused-alone : (answer detail n : ℕ) → alone (refused answer detail n) ≡ true
unfolding alone
refused-alone answer detail n = rw (nothing_written.0, nothing_written.1)

module _ (s : List ℕ) (sized : length s ≡ 176) (bytes : Bytes s) where
  by_answer
      : (b : Bool) → eqb (answer_at s) 0 ≡ b → cond b (good_fix s) (good_refusal s) ≡ true
      → meets_rules (bytes_of (cond b (fixed s) (refused (answer_at s) (detail_at s) (n_at s)))) ≡ true
      → readable (cond b (fixed s) (refused (answer_at s) (detail_at s) (n_at s))) ≡ true
  unfolding readable fix_at good_refusal
  by_answer true e g m = both_hold (meets_rules (bytes_of (fixed s))) (eqb (detail_at s) (detail_at s)) m (eq-eqb (detail_at s) (detail_at s) refl)
  by_answer false e g m =
      let r = all-4 (good_answer (answer_at s)) (good_detail (answer_at s) (detail_at s)) (good_n (answer_at s) (n_at s)) (zeros s 12 164) g in
      rw (m, e, r.2, refused-alone (answer_at s) (detail_at s) (n_at s))

  pub read-readable : meets_rules s ≡ true → readable (content_at s) ≡ true
  unfolding content_at meets_rules
  read-readable g = by_answer (eqb (answer_at s) 0) refl g (ap meets_rules (again s sized bytes g) ∙ g)
