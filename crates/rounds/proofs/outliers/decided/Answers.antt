-- `rounds::outliers::decided` meets its contract. What is held is the choice (`worst-some` and its like, of Looks.antt).
-- Assumes nothing.
use Rattle.std.proofs.Common.{◌≡◌, ℕ, ◌^◌, ◌<◌, subst, lt_of_lt_of_le, lt_of_le_of_lt, arith}
use Rattle.dense.specs.Entries.{nth}
use Rattle.sets.specs.Mask.{has}
use Rattle.std.specs.Prelude.{Result, Ok}
use Rattle.rounds.specs.declared.answer.Refusal.{Refusal}
use Rattle.rounds.specs.declared.outliers.Turn.{Turn}
use Rattle.rounds.specs.declared.outliers.Turn.TheVariants.{Changes}
use Rattle.rounds.specs.Rounds.{decided}
use Rattle.rounds.proofs.Looks as looks
use Rattle.rounds.proofs.outliers.decided.Goals as goal

-- the mask of a change is the one that it holds
kept-below : (a b n : ℕ) → ◌≡◌ {A = Result Turn Refusal} (Ok (Changes a)) (Ok (Changes b)) → a < 2 ^ n → b < 2 ^ n
kept-below a b n e h = let q : a ≡ b = cc in subst (λ (m : ℕ). m < 2 ^ n) q h

pub returns-then-unnumbered : goal.returns-then-unnumbered
unfolding decided
returns-then-unnumbered c = (λ f. rw (← c.unnumbered.ensures, c.if-unnumbered.true), λ m e. absurd (let z : ◌≡◌ {A = ℕ} 0 1 = cc in omega arith))

pub without-requires : goal.without-requires
without-requires c =
    let l = c.looked-chosen in
    lt_of_lt_of_le (looks.worst-below (has c.args.kept) (has c.args.included) (nth c.args.z.now) c.args.n l.result l.ensures _ c.in-Some.is)
    c.requires.0

pub returns-in-Some : goal.returns-in-Some
unfolding decided
returns-in-Some c =
    let l = c.looked-chosen in
    let u = c.unnumbered in
    let out = looks.worst-some (has c.args.kept) (has c.args.included) (nth c.args.z.now) c.args.n l.result l.ensures _ c.in-Some.is in (
      λ f. rw (← u.ensures, c.if-unnumbered.false, out, c.without.ensures.0),
      λ m e. kept-below c.without.result m c.args.n e (lt_of_le_of_lt c.without.ensures.1 c.requires.1),
    )

pub joined-requires : goal.joined-requires
joined-requires c =
    let l = c.looked-chosen in
    lt_of_lt_of_le (looks.least-below (has c.args.kept) (has c.args.included) (nth c.args.z.now) c.args.n l.result l.ensures _ c.in-Some-least.is)
    c.requires.0

pub returns-in-Some-least : goal.returns-in-Some-least
unfolding decided
returns-in-Some-least c =
    let l = c.looked-chosen in
    let u = c.unnumbered in
    let K = has c.args.kept in
    let S = has c.args.included in
    let z = nth c.args.z.now in
    let out = looks.worst-none K S z c.args.n l.result l.ensures c.in_default.is in
    let back = looks.least-some K S z c.args.n l.result l.ensures _ c.in-Some-least.is in
    let below = looks.least-below K S z c.args.n l.result l.ensures _ c.in-Some-least.is in (
      λ f. rw (← u.ensures, c.if-unnumbered.false, out, back, c.joined.ensures.0),
      λ m e. kept-below c.joined.result m c.args.n e (c.joined.ensures.1 c.args.n below c.requires.1),
    )

pub returns : goal.returns
unfolding decided
returns c =
    let l = c.looked-chosen in
    let u = c.unnumbered in
    let K = has c.args.kept in
    let S = has c.args.included in
    let z = nth c.args.z.now in
    let out = looks.worst-none K S z c.args.n l.result l.ensures c.in_default.is in
    let back = looks.least-none K S z c.args.n l.result l.ensures c.in_default-least.is in (
      λ f. rw (← u.ensures, c.if-unnumbered.false, out, back),
      λ m e. absurd (let z : ◌≡◌ {A = ℕ} 0 1 = cc in omega arith),
    )
