use mathlib.Core.Path.{◌≡◌, sym, ◌∙◌}
use Prim.Native.Nat.{◌≤◌}
use native.Mathlib.Omega.{arith}
use lib.ListN.{length, length-map}
use Rattle.account.specs.Check.{most_contracts}
use Rattle.account.specs.code.Lent.{account_in}
use Rattle.account.specs.Joined.{account_of}
use Rattle.account.specs.Parts.{contracts_of}
use Rattle.margin.proofs.StandLaws.{few_contracts}
use Rattle.margin.proofs.WalkedLaws.{walked_start, walked_next, walked_all}
use Rattle.margin.proofs.everything.place_over.Goals as goal
use Rattle.margin.proofs.everything.place_over.Goals.{After-contract_total-count}

-- as many contracts as are listed, at most sixteen
counted : (c : After-contract_total-count) →
    c.contract_total-count.result ≡ length (contracts_of (account_of c.args.morning.now c.args.noon.now))
counted c =
    c.contract_total-count.ensures ∙ c.requires.0.places.contracts

few : (c : After-contract_total-count) → c.contract_total-count.result ≤ most_contracts
few c =
    omega (arith, c.contract_total-count.ensures, few_contracts c.args.morning.now c.args.noon.now (account_in c.args.account.now) c.requires.0)

pub loop-i-init : goal.loop-i-init
loop-i-init c =
    walked_start c.requires.1.1

pub contract_over-line-requires : goal.contract_over-line-requires
contract_over-line-requires c =
    (c.requires.0, (omega (arith, c.loop-i-test.true, c.contract_total-count.ensures), c.rates_over-rates.ensures))

pub place_line-margin-requires : goal.place_line-margin-requires
place_line-margin-requires c =
    let l = c.loop-i in
    let is = l.invariant.table in
    let taken = c.loop-i-test.true in
    let h = few (goal.at.place_line-margin-requires c).After-contract_total-count in (
      omega (arith, taken),
      (
        omega (arith, taken, c.requires.1.0, c.contract_total-count.ensures, is.same),
        (
          c.contract_over-line.ensures.line.within,
          (
            (is.tiered.tiers, sym (length-map l.nets _) ∙ is.tiered.nets),
            (is.put.units_at, (is.put.prices_at, is.put.nets_at)),
          ),
        ),
      ),
    )

pub overflow_add-total : goal.overflow_add-total
overflow_add-total c =
    let h = few (goal.at.overflow_add-total c).After-contract_total-count in
    let small = c.loop-i.invariant.small in
    let margin = c.place_line-margin.ensures.margin.1 in
    omega (arith, c.loop-i-test.true)

pub loop-i-preserved : goal.loop-i-preserved
loop-i-preserved c =
    let r = c.place_line-margin in
    walked_next c.requires.0.lawful (counted (goal.at.loop-i-preserved c).After-contract_total-count) (few (goal.at.loop-i-preserved c).After-contract_total-count) c.loop-i.invariant
    c.loop-i-test.true (omega (arith, c.requires.1.0, c.contract_total-count.ensures))
    c.contract_over-line.ensures c.books-1.given c.uses-1.given r.ensures.placed c.figures-1.given
    r.ensures.margin

pub overflow_mul-count : goal.overflow_mul-count
overflow_mul-count c =
    let h = few (goal.at.overflow_mul-count c).After-contract_total-count in
    omega arith

pub put-requires : goal.put-requires
put-requires c =
    let l = c.loop-i in
    let h = few (goal.at.put-requires c).After-contract_total-count in
    let small = l.invariant.small in
    let within = l.invariant.table.within in
    (omega (arith, c.requires.1.0, c.contract_total-count.ensures, l.invariant.table.same), omega arith)

pub shape_of-figures : goal.shape_of-figures
shape_of-figures c =
    c.figures-2-1.given ∙ c.loop-i.invariant.table.same

pub shape_of-books : goal.shape_of-books
shape_of-books c =
    c.loop-i.invariant.book.same

pub shape_of-uses : goal.shape_of-uses
shape_of-uses c =
    c.loop-i.invariant.paid.same

pub returns : goal.returns
returns c =
    walked_all c.requires.0.lawful (counted (goal.at.returns c).After-contract_total-count) (few (goal.at.returns c).After-contract_total-count) c.loop-i.invariant
    (omega (arith, c.loop-i-test.false)) c.put.ensures
