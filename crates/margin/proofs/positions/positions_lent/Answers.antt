use mathlib.Core.Path.{◌≡◌, ◌∙◌}
use mathlib.Core.List.{[]}
use lib.ListN.{get_or}
use Prim.Native.Nat.{◌≤◌, ◌<◌}
use native.Mathlib.Omega.{arith}
use Rattle.record.specs.Layout.{contract, most_contract}
use Rattle.account.specs.Parts.{contracts_of}
use Rattle.account.specs.code.Lent.{account_in}
use Rattle.account.specs.Joined.{account_of}
use Rattle.account.specs.Check.{most_contracts}
use Rattle.margin.proofs.PositionsLaws.{placed_none, placed_next, placed_all}
use Rattle.margin.proofs.StandLaws.{few_contracts, number_at, listed_at, own_number}
use Rattle.margin.proofs.positions.positions_lent.Goals as goal
use Rattle.margin.proofs.positions.positions_lent.Goals.{After-contract_number-c, After-contract_total-i-end}

-- an account has at most sixteen contracts
few : (c : After-contract_total-i-end) → c.contract_total-i-end.result ≤ most_contracts
few c =
    omega (arith, c.contract_total-i-end.ensures, few_contracts c.args.morning.now c.args.noon.now (account_in c.args.account.now) c.requires)

-- the turn's contract is listed, and has this number
within : (c : After-contract_number-c) → c.loop-i.i < (account_in c.args.account.now).contracts
within c =
    omega (arith, c.loop-i-test.true, c.contract_total-i-end.ensures)

number : (c : After-contract_number-c) →
    c.contract_number-c.result ≡ contract (get_or (contracts_of (account_of c.args.morning.now c.args.noon.now)) c.loop-i.i [])
number c =
    number_at c.args.morning.now c.args.noon.now (account_in c.args.account.now) c.requires c.loop-i.i (within c)
    c.contract_number-c.result c.contract_number-c.ensures

small : (c : After-contract_number-c) → c.contract_number-c.result ≤ most_contract
small c =
    let m = c.args.morning.now in
    let n = c.args.noon.now in
    omega (
      arith,
      number c,
      own_number (account_of m n) c.requires.lawful c.loop-i.i
          (listed_at m n (account_in c.args.account.now) c.requires c.loop-i.i (within c)),
    )

pub loop-i-init : goal.loop-i-init
loop-i-init c =
    placed_none (account_of c.args.morning.now c.args.noon.now) c.flat-at.result c.flat-at.ensures

pub position_in-requires : goal.position_in-requires
position_in-requires c =
    (c.requires, (small c, c.rates_over-rates.ensures))

pub offset_bounds-at-c : goal.offset_bounds-at-c
offset_bounds-at-c c = let h = small (goal.at.offset_bounds-at-c c).After-contract_number-c in omega arith

pub bounds-at-c : goal.bounds-at-c
bounds-at-c c = let h = small (goal.at.bounds-at-c c).After-contract_number-c in omega arith

pub loop-i-preserved : goal.loop-i-preserved
loop-i-preserved c =
    let l = c.loop-i in
    let k = c.contract_number-c in
    placed_next (account_of c.args.morning.now c.args.noon.now) l.i l.at k.result c.position_in.result l.invariant
    (small (goal.at.loop-i-preserved c).After-contract_number-c) (number (goal.at.loop-i-preserved c).After-contract_number-c) c.position_in.ensures

pub returns : goal.returns
returns c =
    let l = c.loop-i in
    placed_all (account_of c.args.morning.now c.args.noon.now) c.requires.lawful l.i _
    (omega (
      arith,
      c.loop-i-test.false,
      c.contract_total-i-end.ensures,
      c.requires.places.contracts,
    )) l.invariant (c.record_total.ensures ∙ c.requires.places.all)
