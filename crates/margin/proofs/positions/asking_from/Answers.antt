-- Question 16 asks about the table, any other about the contract.
-- Assumes nothing.
use mathlib.Core.Path.{sym, subst}
use mathlib.Core.Bool.{Bool, cond}
use mathlib.Core.List.{List, map}
use Prim.Native.Nat.{◌≤◌}
use native.Mathlib.Omega.{arith}
use borrow.Author.Tests.{eq-eqb, ne_eqb}
use lib.ListN.{get_or}
use Rattle.record.specs.Layout.{Record, most_contract}
use Rattle.account.specs.Joined.{account_of}
use Rattle.account.specs.Parts.{entries_of}
use Rattle.formulas.specs.Contract.{contracts, parts_of, as_tier, contract_steps, opens_of, table_steps}
use Rattle.margin.specs.code.Positions.{no_position, PositionsTell}
use Rattle.margin.specs.code.Beside.{TiersOver}
use Rattle.margin.specs.code.Asking.{Asks}
use Rattle.margin.specs.Books.{table_question}
use Rattle.margin.proofs.AskedLaws.{asked_small}
use Rattle.margin.proofs.BesideLaws.{entries_beside, fits_book, asks_beside}
use Rattle.margin.proofs.positions.asking_from.Goals as goal
use Rattle.margin.proofs.positions.asking_from.Goals.{After-part, Else-question-eq-TABLE}

-- the contracts are those of every account that the positions tell of, and so are the entries
over : (c : After-part) →
    (whole : List Record) → PositionsTell (account_of c.args.morning.now c.args.noon.now) c.args.positions whole
    → TiersOver c.part.result.now c.tiers_from-tiers.result whole
over c whole t =
    record {
      lawful = t.beside.lawful;
      part = entries_beside (account_of c.args.morning.now c.args.noon.now) whole t.beside c.part.result.now c.part.ensures;
      is = c.tiers_from-tiers.ensures whole t;
    }

-- the question is a contract's number
small : (c : Else-question-eq-TABLE) → c.args.question ≤ most_contract
small c =
    asked_small (account_of c.args.morning.now c.args.noon.now) c.requires.0.lawful c.args.question c.requires.1.1 c.if-question-eq-TABLE.false

pub tiers_from-tiers-requires : goal.tiers_from-tiers-requires
tiers_from-tiers-requires c =
    (c.requires.0, c.requires.1.0)

pub table_asking-requires : goal.table_asking-requires
table_asking-requires c =
    let x = c.requires.1.0 in
    record { whole = x.whole; over = over c x.whole x.told }

pub returns-then-question-eq-TABLE : goal.returns-then-question-eq-TABLE
returns-then-question-eq-TABLE c =
    let q = c.args.question in
    λ whole t.
    subst
    (λ (b : Bool). Asks (cond b (table_steps (entries_of whole)) (contract_steps (parts_of whole q)))
    (cond b (map as_tier (contracts whole)) (opens_of (parts_of whole q))) c.table_asking.result)
    (sym (eq-eqb q table_question c.if-question-eq-TABLE.true)) (c.table_asking.ensures whole (over (goal.at.returns-then-question-eq-TABLE c).After-part whole t))

pub offset_bounds-positions-question : goal.offset_bounds-positions-question
offset_bounds-positions-question c = omega (arith, small c)

pub bounds-positions-question : goal.bounds-positions-question
bounds-positions-question c = omega (arith, small c)

pub asking_with-requires : goal.asking_with-requires
asking_with-requires c =
    let x = c.requires.1.0 in
    let q = c.args.question in
    let h = small (goal.at.asking_with-requires c).Else-question-eq-TABLE in (
      c.requires.0,
      (
        h,
        fits_book (account_of c.args.morning.now c.args.noon.now) x.whole x.told.beside q (get_or c.args.positions.at q no_position)
            (x.told.positions.each q h),
      ),
    )

pub returns-else-question-eq-TABLE : goal.returns-else-question-eq-TABLE
returns-else-question-eq-TABLE c =
    let q = c.args.question in
    λ whole t.
    subst
    (λ (b : Bool). Asks (cond b (table_steps (entries_of whole)) (contract_steps (parts_of whole q)))
    (cond b (map as_tier (contracts whole)) (opens_of (parts_of whole q))) c.asking_with.result)
    (sym (ne_eqb q table_question c.if-question-eq-TABLE.false))
    (asks_beside (account_of c.args.morning.now c.args.noon.now) whole t.beside q (get_or c.args.positions.at q no_position)
    (t.positions.each q (small (goal.at.returns-else-question-eq-TABLE c).Else-question-eq-TABLE)) c.asking_with.result c.asking_with.ensures)
