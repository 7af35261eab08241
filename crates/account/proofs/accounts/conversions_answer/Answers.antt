use Rattle.std.proofs.lemmas.Result.{err_from_is_err_and}
use Prim.Native.Nat.{ℕ, ◌+◌}
use native.Mathlib.Omega.{arith}
use mathlib.Core.Path.{◌≡◌, sym, ap, ap₂, subst, subst⁻¹, ◌∙◌}
use mathlib.Core.List.{List}
use lib.ListN.{length}
use Rattle.record.specs.Layout.{Record}
use Rattle.account.specs.Accepted.{Each}
use Rattle.account.specs.Answers.{number_of}
use Rattle.account.specs.Checked.{first_rate_fault}
use Rattle.account.specs.Conversions.{Row}
use Rattle.account.specs.Parts.{rates_of}
use Rattle.account.specs.code.Rates.{RatesOf}
use Rattle.account.specs.Records.{records, record_count}
use Rattle.account.specs.Joined.{account_of}
use Rattle.account.specs.Check.{most_contracts}
use Rattle.account.specs.PartNumbers.{row_part}
use Rattle.account.proofs.AcceptedOnly.{refused_some}
use Rattle.account.proofs.JoinedLaws.{parts_of}
use Rattle.account.proofs.RateLaws.{rows_on_from, turn_start, turn_next, turn_stop, turn_end, rows_before, before_next, before_few, before_counted}
use Rattle.account.proofs.RateLaws.{rows_known}
use Rattle.account.proofs.Standing.{row_part_lem, rate_part_lem}
use Rattle.account.proofs.Walk.{length_cut}
use Rattle.account.proofs.accounts.conversions_answer.Goals as goal
use Rattle.account.proofs.accounts.conversions_answer.Goals.{After-record_count-k, After-rows_answer}

-- the account, and what the rows of a contract answer
module _ (c : After-rows_answer) where
  abbrev all : List Record
  all = account_of c.args.morning.now c.args.noon.now

  answered : c.rows_answer.result ≡ first_rate_fault c.loop-c.k (rates_of all) (parts_of all (row_part + c.loop-c.c))
  answered =
      let l = c.loop-c in
      c.rows_answer.ensures (rates_of all)
      (subst (λ (rs : List Record). RatesOf rs c.rates_of-t.result) (c.placed_part.ensures.are ∙ rate_part_lem all) c.rates_of-t.ensures) c.requires.1.ranges.rates
      ∙ ap (first_rate_fault l.k (rates_of all)) (c.placed_part-rows.ensures.are ∙ row_part_lem l.c (omega (arith, c.loop-c-test.true)) all)

-- how many rows the contract has, and that they stay within the account
module _ (c : After-record_count-k) where
  abbrev morning : List Record
  morning = records c.args.morning.now

  abbrev noon : List Record
  noon = records c.args.noon.now

  counted : c.record_count-k.result ≡ length (parts_of (all (goal.at.overflow_add-k c).After-rows_answer) (row_part + c.loop-c.c))
  counted =
      let rows = c.placed_part-rows in
      c.record_count-k.ensures ∙ sym (length_cut (record_count rows.result.now) rows.result.now)
      ∙ ap length (rows.ensures.are ∙ row_part_lem c.loop-c.c (omega (arith, c.loop-c-test.true)) (all (goal.at.overflow_add-k c).After-rows_answer))

  next : c.loop-c.k + c.record_count-k.result ≡ rows_before morning noon (c.loop-c.c + 1)
  next =
      let l = c.loop-c in
      ap₂ ◌+◌ l.invariant.1 counted ∙ sym (before_next morning noon l.c)

pub placed_part-requires : goal.placed_part-requires
placed_part-requires c = c.requires.0

pub before_rows-k-requires : goal.before_rows-k-requires
before_rows-k-requires c =
    c.requires.0.sizes

pub loop-c-init : goal.loop-c-init
loop-c-init c =
    let m = records c.args.morning.now in
    let n = records c.args.noon.now in
    let k = c.before_rows-k.ensures ∙ before_counted m n c.args.account.counts c.requires.0.sizes c.requires.0.counts in
    (turn_start m n ∙ ap (λ (x : ℕ). rows_on_from m n x 0) (sym k), k)

pub placed_part-rows-requires : goal.placed_part-rows-requires
placed_part-rows-requires c =
    c.requires.0

pub rows_answer-requires : goal.rows_answer-requires
rows_answer-requires c =
    let a = account_of c.args.morning.now c.args.noon.now in
    let l = c.loop-c in
    let few = before_few (records c.args.morning.now) (records c.args.noon.now) l.c (omega arith) in
    let h = c.loop-c-test.true in (
      subst⁻¹ (Each Row) (c.placed_part-rows.ensures.are ∙ row_part_lem l.c (omega arith) a) (rows_known a c.requires.1 l.c (omega arith)),
      (
        record { rates = rates_of a; held = subst (λ (rs : List Record). RatesOf rs c.rates_of-t.result) (c.placed_part.ensures.are ∙ rate_part_lem a) c.rates_of-t.ensures; within = c.requires.1.ranges.rates },
        omega (arith, l.invariant.1, few, c.requires.1.limits.all),
      ),
    )

pub returns-in_err-rows_answer : goal.returns-in_err-rows_answer
returns-in_err-rows_answer c =
    let l = c.loop-c in
    let p = err_from_is_err_and c.from_residual.result c.from_residual.ensures.1 in
    let e = sym c.in_err-rows_answer.was ∙ answered (goal.at.returns-in_err-rows_answer c).After-rows_answer in
    rw (p.1, p.2)
    (e
    ∙ sym (l.invariant.0
    ∙ turn_stop (records c.args.morning.now) (records c.args.noon.now) l.k l.c c.loop-c-test.true (refused_some e)))

pub overflow_add-k : goal.overflow_add-k
overflow_add-k c =
    omega (
      arith,
      next c,
      before_few (morning c) (noon c) (c.loop-c.c + 1) (omega (arith, c.loop-c-test.true)),
      c.requires.1.limits.all,
    )

pub loop-c-preserved : goal.loop-c-preserved
loop-c-preserved c =
    let l = c.loop-c in
    let m = morning c in
    let n = noon c in
    let a = answered (goal.at.loop-c-preserved c).After-rows_answer in (
      l.invariant.0
          ∙ turn_next m n l.k l.c c.loop-c-test.true (ap number_of (sym a ∙ c.in_ok-rows_answer.was))
          ∙ ap (λ (x : ℕ). rows_on_from m n (l.k + x) (l.c + 1)) (sym (counted c)),
      next c,
    )

pub returns : goal.returns
returns c =
    let l = c.loop-c in
    let m = records c.args.morning.now in
    let n = records c.args.noon.now in
    let e : l.c ≡ most_contracts = omega (arith, c.loop-c-test.false) in
    sym (l.invariant.0 ∙ ap (rows_on_from m n l.k) e ∙ turn_end m n l.k)
