-- The account knows how many contracts, prompts and spreads there are.
-- Assumes nothing.
use mathlib.Core.Path.{sym, subst₂}
use Prim.Native.Nat.{◌≤◌}
use native.Mathlib.Omega.{arith}
use Rattle.record.specs.Layout.{most_contract}
use Rattle.account.specs.code.Lent.{account_in}
use Rattle.account.specs.Joined.{account_of}
use Rattle.margin.specs.code.Asked.{SizesOf}
use Rattle.margin.proofs.AskedLaws.{asked_small}
use Rattle.margin.proofs.NeedLaws.{table_sizes, contract_sizes}
use Rattle.margin.proofs.asking.sizes_over.Goals as goal
use Rattle.margin.proofs.asking.sizes_over.Goals.{Else-question-eq-TABLE}

-- the question is a contract's number
small : (c : Else-question-eq-TABLE) → c.args.question ≤ most_contract
small c =
    asked_small (account_of c.args.morning.now c.args.noon.now) c.requires.0.lawful c.args.question c.requires.1 c.if-question-eq-TABLE.false

pub returns-then-question-eq-TABLE : goal.returns-then-question-eq-TABLE
returns-then-question-eq-TABLE c =
    subst₂ (SizesOf (account_of c.args.morning.now c.args.noon.now) c.args.question) (sym c.contract_total.ensures)
    (sym c.part_total.ensures)
    (table_sizes c.args.morning.now c.args.noon.now (account_in c.args.account.now) c.requires.0 c.args.question c.requires.1
    c.if-question-eq-TABLE.true)

pub overflow_add-question : goal.overflow_add-question
overflow_add-question c = omega (arith, small c)

pub overflow_add-question-2 : goal.overflow_add-question-2
overflow_add-question-2 c = omega (arith, small (goal.at.overflow_add-question-2 c).Else-question-eq-TABLE)

pub returns : goal.returns
returns c =
    subst₂ (SizesOf (account_of c.args.morning.now c.args.noon.now) c.args.question) (sym c.part_total-2.ensures)
    (sym c.part_total-3.ensures)
    (contract_sizes c.args.morning.now c.args.noon.now (account_in c.args.account.now) c.requires.0 c.args.question c.requires.1
    c.if-question-eq-TABLE.false)
