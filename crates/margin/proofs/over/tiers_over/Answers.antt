use mathlib.Core.Path.{refl}
use Prim.Native.Nat.{◌≤◌}
use native.Mathlib.Omega.{arith}
use Rattle.account.specs.code.Lent.{account_in}
use Rattle.account.specs.Joined.{account_of}
use Rattle.account.specs.Check.{most_contracts}
use Rattle.margin.proofs.StandLaws.{few_contracts}
use Rattle.margin.proofs.TierLaws.{tiers_none, tiers_next, tiers_all}
use Rattle.margin.proofs.over.tiers_over.Goals as goal
use Rattle.margin.proofs.over.tiers_over.Goals.{After-contract_total-count}

-- an account has at most sixteen contracts
few : (c : After-contract_total-count) → c.contract_total-count.result ≤ most_contracts
few c =
    omega (arith, c.contract_total-count.ensures, few_contracts c.args.morning.now c.args.noon.now (account_in c.args.account.now) c.requires)

pub loop-i-init : goal.loop-i-init
loop-i-init c =
    (tiers_none (account_of c.args.morning.now c.args.noon.now) _ _ refl refl, omega arith)

pub tier_at-one-requires : goal.tier_at-one-requires
tier_at-one-requires c =
    (c.requires, omega (arith, c.loop-i-test.true, c.contract_total-count.ensures))

pub bounds-tiers-i : goal.bounds-tiers-i
bounds-tiers-i c =
    let h = few (goal.at.bounds-tiers-i c).After-contract_total-count in omega arith

pub offset_bounds-nets-i : goal.offset_bounds-nets-i
offset_bounds-nets-i c =
    let h = few (goal.at.offset_bounds-nets-i c).After-contract_total-count in omega arith

pub bounds-nets-i : goal.bounds-nets-i
bounds-nets-i c =
    let h = few (goal.at.bounds-nets-i c).After-contract_total-count in omega arith

pub loop-i-preserved : goal.loop-i-preserved
loop-i-preserved c =
    let l = c.loop-i in
    let t = c.tier_at-one in
    let h = few (goal.at.loop-i-preserved c).After-contract_total-count in
    let e = c.requires.places.contracts in
    let n = c.contract_total-count.ensures in (
      tiers_next (account_of c.args.morning.now c.args.noon.now) l.i l.tiers l.nets t.result.contract t.result.net
          l.invariant.0 (omega arith) (omega arith) t.ensures,
      omega arith,
    )

pub returns : goal.returns
returns c =
    let l = c.loop-i in
    let h = few (goal.at.returns c).After-contract_total-count in
    let e = c.requires.places.contracts in
    let n = c.contract_total-count.ensures in
    tiers_all (account_of c.args.morning.now c.args.noon.now) l.i _ l.invariant.0 (omega arith) (omega arith) (omega arith)
