-- Question 16 asks about the table, any other about the contract.
-- Assumes nothing.
use mathlib.Core.Path.{sym, subst}
use mathlib.Core.Bool.{Bool, cond}
use mathlib.Core.List.{map}
use borrow.Author.Tests.{eq-eqb, ne_eqb}
use Rattle.account.specs.Joined.{account_of}
use Rattle.account.specs.Parts.{entries_of}
use Rattle.formulas.specs.Contract.{contracts, parts_of, as_tier, contract_steps, opens_of, table_steps}
use Rattle.margin.specs.code.Asking.{Asks}
use Rattle.margin.specs.code.Beside.{TiersOver}
use Rattle.margin.specs.Books.{table_question}
use Rattle.margin.proofs.AskedLaws.{asked_small}
use Rattle.margin.proofs.over.asking_over.Goals as goal
use Rattle.margin.proofs.over.asking_over.Goals.{After-part}

-- the contracts and the entries are the account's
over : (c : After-part) →
    TiersOver c.part.result.now c.tiers_over-tiers.result (account_of c.args.morning.now c.args.noon.now)
over c =
    record { lawful = c.requires.0.lawful; part = c.part.ensures; is = c.tiers_over-tiers.ensures }

pub table_asking-requires : goal.table_asking-requires
table_asking-requires c = record { whole = _; over = over c }

pub returns-then-question-eq-TABLE : goal.returns-then-question-eq-TABLE
returns-then-question-eq-TABLE c =
    let a = account_of c.args.morning.now c.args.noon.now in
    let q = c.args.question in
    subst
    (λ (t : Bool). Asks (cond t (table_steps (entries_of a)) (contract_steps (parts_of a q))) (cond t (map as_tier (contracts a)) (opens_of (parts_of a q)))
    c.table_asking.result)
    (sym (eq-eqb q table_question c.if-question-eq-TABLE.true)) (c.table_asking.ensures a (over (goal.at.returns-then-question-eq-TABLE c).After-part))

pub asking_of-requires : goal.asking_of-requires
asking_of-requires c =
    (c.requires.0, asked_small (account_of c.args.morning.now c.args.noon.now) c.requires.0.lawful c.args.question c.requires.1 c.if-question-eq-TABLE.false)

pub returns-else-question-eq-TABLE : goal.returns-else-question-eq-TABLE
returns-else-question-eq-TABLE c =
    let a = account_of c.args.morning.now c.args.noon.now in
    let q = c.args.question in
    subst
    (λ (t : Bool). Asks (cond t (table_steps (entries_of a)) (contract_steps (parts_of a q))) (cond t (map as_tier (contracts a)) (opens_of (parts_of a q)))
    c.asking_of.result)
    (sym (ne_eqb q table_question c.if-question-eq-TABLE.false)) c.asking_of.ensures
