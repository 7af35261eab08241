use mathlib.Core.Path.{◌≡◌, refl, sym, ap, ◌∙◌, subst⁻¹}
use mathlib.Core.List.{List, []}
use lib.ListN.{length, get_or}
use Prim.Native.Nat.{ℕ, ◌≤◌, ◌<◌}
use native.Mathlib.Omega.{arith}
use Rattle.record.specs.Layout.{Record, contract, most_contract}
use Rattle.account.specs.Parts.{contracts_of}
use Rattle.account.specs.code.Lent.{account_in}
use Rattle.account.specs.Joined.{account_of}
use Rattle.account.specs.Check.{most_contracts}
use Rattle.margin.specs.code.Beside.{Besides}
use Rattle.formulas.specs.Contract.{parts_in}
use Rattle.margin.specs.code.Lined.{TierIs}
use Rattle.margin.specs.code.Positions.{no_position}
use Rattle.margin.proofs.BesideLaws.{tier_sizes, tier_is}
use Rattle.margin.proofs.StandLaws.{few_contracts, number_at, listed_at, own_number}
use Rattle.margin.proofs.TierLaws.{tiers_none, tiers_next, tiers_all}
use Rattle.margin.proofs.positions.tiers_from.Goals as goal
use Rattle.margin.proofs.positions.tiers_from.Goals.{After-contract_number-c, After-contract_total-count}

-- an account has at most sixteen contracts
few : (c : After-contract_total-count) → c.contract_total-count.result ≤ most_contracts
few c =
    omega (arith, c.contract_total-count.ensures, few_contracts c.args.morning.now c.args.noon.now (account_in c.args.account.now) c.requires.0)

-- the turn's contract is listed, and has this number
within : (c : After-contract_number-c) → c.loop-i.i < (account_in c.args.account.now).contracts
within c =
    omega (arith, c.loop-i-test.true, c.contract_total-count.ensures)

number : (c : After-contract_number-c) →
    c.contract_number-c.result ≡ contract (get_or (contracts_of (account_of c.args.morning.now c.args.noon.now)) c.loop-i.i [])
number c =
    number_at c.args.morning.now c.args.noon.now (account_in c.args.account.now) c.requires.0 c.loop-i.i (within c)
    c.contract_number-c.result c.contract_number-c.ensures

small : (c : After-contract_number-c) → c.contract_number-c.result ≤ most_contract
small c =
    let m = c.args.morning.now in
    let n = c.args.noon.now in
    omega (
      arith,
      number c,
      own_number (account_of m n) c.requires.0.lawful c.loop-i.i
          (listed_at m n (account_in c.args.account.now) c.requires.0 c.loop-i.i (within c)),
    )

-- and is so in every account beside
listed : (c : After-contract_number-c) →
    (whole : List Record) → Besides (account_of c.args.morning.now c.args.noon.now) whole → c.loop-i.i < length (contracts_of whole)
listed c whole b =
    omega (arith, within c, ap length b.contracts, c.requires.0.places.contracts)

number_in : (c : After-contract_number-c) →
    (whole : List Record) → Besides (account_of c.args.morning.now c.args.noon.now) whole
    → c.contract_number-c.result ≡ contract (get_or (contracts_of whole) c.loop-i.i [])
number_in c whole b = number c ∙ ap (λ (rs : List Record). contract (get_or rs c.loop-i.i [])) (sym b.contracts)

pub loop-i-init : goal.loop-i-init
loop-i-init c = (λ whole t. tiers_none whole _ _ refl refl, omega arith)

pub offset_bounds-positions-c : goal.offset_bounds-positions-c
offset_bounds-positions-c c = let h = small c in omega arith

pub bounds-positions-c : goal.bounds-positions-c
bounds-positions-c c = let h = small c in omega arith

pub tier_with-one-requires : goal.tier_with-one-requires
tier_with-one-requires c =
    let x = c.requires.1 in
    let k = c.contract_number-c.result in
    let h = small (goal.at.tier_with-one-requires c).After-contract_number-c in (
      h,
      tier_sizes (account_of c.args.morning.now c.args.noon.now) x.whole x.told.beside k (get_or c.args.positions.at k no_position)
          (x.told.positions.each k h),
    )

pub bounds-tiers-i : goal.bounds-tiers-i
bounds-tiers-i c =
    let h = few (goal.at.bounds-tiers-i c).After-contract_total-count in
    omega (arith, c.loop-i-test.true)

pub offset_bounds-nets-i : goal.offset_bounds-nets-i
offset_bounds-nets-i c =
    let h = few (goal.at.offset_bounds-nets-i c).After-contract_total-count in
    omega (arith, c.loop-i-test.true)

pub bounds-nets-i : goal.bounds-nets-i
bounds-nets-i c =
    let h = few (goal.at.bounds-nets-i c).After-contract_total-count in
    omega (arith, c.loop-i-test.true)

pub loop-i-preserved : goal.loop-i-preserved
loop-i-preserved c =
    let l = c.loop-i in
    let k = c.contract_number-c.result in
    let r = c.tier_with-one in
    let h = few (goal.at.loop-i-preserved c).After-contract_total-count in (
      λ whole t.
          tiers_next whole l.i l.tiers l.nets r.result.contract r.result.net (l.invariant.0 whole t)
          (omega (arith, c.loop-i-test.true)) (listed (goal.at.loop-i-preserved c).After-contract_number-c whole t.beside)
          (subst⁻¹ (λ (m : ℕ). TierIs (parts_in whole (get_or (contracts_of whole) l.i [])) m r.result.net.0) r.ensures.0
          (tier_is (account_of c.args.morning.now c.args.noon.now) whole t.beside k (get_or c.args.positions.at k no_position)
          (t.positions.each k (small (goal.at.loop-i-preserved c).After-contract_number-c)) l.i (listed (goal.at.loop-i-preserved c).After-contract_number-c whole t.beside) (number_in (goal.at.loop-i-preserved c).After-contract_number-c whole t.beside) r.result.net.0 (small (goal.at.loop-i-preserved c).After-contract_number-c)
          r.ensures.1)),
      omega (arith, c.loop-i-test.true),
    )

pub returns : goal.returns
returns c =
    let l = c.loop-i in
    let h = few (goal.at.returns c).After-contract_total-count in
    let e = c.requires.0.places.contracts in
    let n = c.contract_total-count.ensures in
    λ whole t.
    let same = ap length t.beside.contracts in
    tiers_all whole l.i _ (l.invariant.0 whole t) (omega (arith, c.loop-i-test.false, l.invariant.1)) (omega (arith, c.loop-i-test.false, l.invariant.1))
    (omega (arith, l.invariant.1))
