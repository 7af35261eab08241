use mathlib.Core.Path.{◌≡◌, sym, ap, ◌∙◌}
use mathlib.Core.Bool.{Bool, true, false}
use mathlib.Core.List.{List, []}
use Prim.Native.Nat.{ℕ, ◌≤◌, ◌<◌}
use native.Mathlib.Omega.{arith}
use lib.IntN.{ℤ}
use lib.ListN.{length, get_or, length-map}
use Rattle.record.specs.Layout.{Record, contract, most_contract}
use Rattle.account.specs.Check.{most_contracts}
use Rattle.account.specs.code.Lent.{account_in}
use Rattle.account.specs.Joined.{account_of}
use Rattle.account.specs.Parts.{contracts_of}
use Rattle.margin.specs.Places.{lent_place, question_of, width_of}
use Rattle.margin.specs.Questions.{after_over}
use Rattle.margin.specs.code.Beside.{Besides}
use Rattle.margin.specs.code.Positions.{no_position}
use Rattle.margin.proofs.BesideLaws.{fits, line_is, contract_beside}
use Rattle.margin.proofs.StandLaws.{few_contracts, number_at, listed_at, own_number}
use Rattle.margin.proofs.WalkedLaws.{WalkedTo, walked_start, walked_next, walked_all}
use Rattle.margin.proofs.everything.place_from.Goals as goal
use Rattle.margin.proofs.everything.place_from.Goals.{After-contract_number-c, After-contract_total-count, At-loop-i}

-- as many contracts as are listed, at most sixteen
counted : (c : After-contract_total-count) →
    (whole : List Record) → Besides (account_of c.args.morning.now c.args.noon.now) whole → c.contract_total-count.result ≡ length (contracts_of whole)
counted c whole b =
    c.contract_total-count.ensures ∙ c.requires.0.places.contracts ∙ sym (ap length b.contracts)

few : (c : After-contract_total-count) → c.contract_total-count.result ≤ most_contracts
few c =
    omega (arith, c.contract_total-count.ensures, few_contracts c.args.morning.now c.args.noon.now (account_in c.args.account.now) c.requires.0)

-- what is known of one of the accounts when a turn begins
known : (c : At-loop-i) →
    WalkedTo c.requires.1.0.whole c.contract_total-count.result c.args.figures.now c.args.books.now c.args.uses.now c.loop-i.i
    c.loop-i.figures c.loop-i.books c.loop-i.uses c.loop-i.tiers c.loop-i.nets c.loop-i.units c.loop-i.prices c.loop-i.sizes c.loop-i.total
known c =
    let x = c.requires.1.0 in
    c.loop-i.invariant x.whole x.told

within : (c : After-contract_number-c) → c.loop-i.i < (account_in c.args.account.now).contracts
within c = omega (arith, c.loop-i-test.true, c.contract_total-count.ensures)

number : (c : After-contract_number-c) →
    c.contract_number-c.result ≡ contract (get_or (contracts_of (account_of c.args.morning.now c.args.noon.now)) c.loop-i.i [])
number c =
    number_at c.args.morning.now c.args.noon.now (account_in c.args.account.now) c.requires.0 c.loop-i.i (within c)
    c.contract_number-c.result c.contract_number-c.ensures

small : (c : After-contract_number-c) → c.contract_number-c.result ≤ most_contract
small c =
    let m = c.args.morning.now in
    let n = c.args.noon.now in
    omega (
      arith,
      number c,
      own_number (account_of m n) c.requires.0.lawful c.loop-i.i
          (listed_at m n (account_in c.args.account.now) c.requires.0 c.loop-i.i (within c)),
    )

pub loop-i-init : goal.loop-i-init
loop-i-init c =
    λ whole t. walked_start c.requires.1.1.1

pub offset_bounds-positions-c : goal.offset_bounds-positions-c
offset_bounds-positions-c c = let h = small c in omega arith

pub bounds-positions-c : goal.bounds-positions-c
bounds-positions-c c = let h = small c in omega arith

pub contract_from-line-requires : goal.contract_from-line-requires
contract_from-line-requires c =
    let x = c.requires.1.0 in
    let k = c.contract_number-c.result in
    let h = small (goal.at.contract_from-line-requires c).After-contract_number-c in (
      c.requires.0,
      (
        h,
        fits (account_of c.args.morning.now c.args.noon.now) x.whole x.told.beside k (get_or c.args.positions.at k no_position)
            (x.told.positions.each k h),
      ),
    )

pub place_line-margin-requires : goal.place_line-margin-requires
place_line-margin-requires c =
    let is = (known (goal.at.place_line-margin-requires c).At-loop-i).table in
    let l = c.loop-i in
    let taken = c.loop-i-test.true in
    let h = few (goal.at.place_line-margin-requires c).After-contract_total-count in (
      omega (arith, taken),
      (
        omega (arith, taken, c.requires.1.1.0, c.contract_total-count.ensures, is.same),
        (
          c.contract_from-line.ensures.line.within,
          (
            (is.tiered.tiers, sym (length-map l.nets _) ∙ is.tiered.nets),
            (is.put.units_at, (is.put.prices_at, is.put.nets_at)),
          ),
        ),
      ),
    )

pub overflow_add-total : goal.overflow_add-total
overflow_add-total c =
    let h = few (goal.at.overflow_add-total c).After-contract_total-count in
    let small = (known (goal.at.overflow_add-total c).At-loop-i).small in
    let margin = c.place_line-margin.ensures.margin.1 in
    omega (arith, c.loop-i-test.true)

pub loop-i-preserved : goal.loop-i-preserved
loop-i-preserved c =
    let a = account_of c.args.morning.now c.args.noon.now in
    let l = c.loop-i in
    let k = c.contract_number-c.result in
    let p = get_or c.args.positions.at k no_position in
    let r = c.place_line-margin in
    let its = c.contract_from-line in
    let taken = c.loop-i-test.true in
    λ whole t.
    let b = t.beside in
    let all = counted (goal.at.loop-i-preserved c).After-contract_total-count whole b in
    let listed : l.i < length (contracts_of whole) = omega (arith, taken, all) in
    let here : k ≡ contract (get_or (contracts_of whole) l.i []) =
    number (goal.at.loop-i-preserved c).After-contract_number-c ∙ ap (λ (rs : List Record). contract (get_or rs l.i [])) (sym b.contracts) in
    let at = t.positions.each k (small (goal.at.loop-i-preserved c).After-contract_number-c) in
    let lent = its.ensures.lent whole (contract_beside a whole b k p at l.i listed here _ t.positions.records_are (small (goal.at.loop-i-preserved c).After-contract_number-c)) in
    let placed : Bool → List ℤ → ℕ → List ℤ = λ paid out q. lent_place (width_of paid) q (after_over whole (question_of paid q)) out in
    walked_next b.lawful all (few (goal.at.loop-i-preserved c).After-contract_total-count) (l.invariant whole t) taken
    (omega (arith, c.requires.1.1.0, c.contract_total-count.ensures))
    (record {
      line = line_is a whole b k p at l.i listed here its.result its.ensures.line;
      book = lent.0 ∙ ap (placed false l.books) here;
      paid = lent.1 ∙ ap (placed true l.uses) here;
    })
    c.books-1.given c.uses-1.given r.ensures.placed c.figures-1.given r.ensures.margin

pub overflow_mul-count : goal.overflow_mul-count
overflow_mul-count c =
    let h = few (goal.at.overflow_mul-count c).After-contract_total-count in
    omega arith

pub put-requires : goal.put-requires
put-requires c =
    let is = known (goal.at.put-requires c).At-loop-i in
    let h = few (goal.at.put-requires c).After-contract_total-count in
    let small = is.small in
    let within = is.table.within in
    (omega (arith, c.requires.1.1.0, c.contract_total-count.ensures, is.table.same), omega arith)

pub shape_of-figures : goal.shape_of-figures
shape_of-figures c =
    c.figures-2-1.given ∙ (known (goal.at.shape_of-figures c).At-loop-i).table.same

pub shape_of-books : goal.shape_of-books
shape_of-books c =
    (known (goal.at.shape_of-books c).At-loop-i).book.same

pub shape_of-uses : goal.shape_of-uses
shape_of-uses c =
    (known (goal.at.shape_of-uses c).At-loop-i).paid.same

pub returns : goal.returns
returns c =
    λ whole t.
    walked_all t.beside.lawful (counted (goal.at.returns c).After-contract_total-count whole t.beside) (few (goal.at.returns c).After-contract_total-count) (c.loop-i.invariant whole t)
    (omega (arith, c.loop-i-test.false)) c.put.ensures
