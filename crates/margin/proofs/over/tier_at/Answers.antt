-- The i-th contract as a tier: its number, and what its rows' deltas come to.
-- Assumes nothing.
use Prim.Native.Nat.{◌≤◌}
use mathlib.Core.Path.{◌≡◌, subst, subst⁻¹}
use mathlib.Core.List.{List, []}
use native.Mathlib.Omega.{arith}
use lib.Dec.{lit≤}
use lib.ListN.{get_or}
use Rattle.record.specs.Layout.{Record, most_contract}
use Rattle.account.specs.Parts.{contracts_of, rows_of}
use Rattle.account.specs.code.Lent.{account_in}
use Rattle.account.specs.Joined.{account_of}
use Rattle.account.specs.Records.{records}
use Rattle.formulas.specs.Bounds.{most_delta}
use Rattle.formulas.specs.code.Position.{RowsFit, Sized, rows_net}
use Rattle.margin.proofs.AcceptLaws.{none_within, contract_within}
use Rattle.margin.proofs.StandLaws.{number_at, listed_at, own_number, of_contract_lem}
use Rattle.margin.proofs.TierLaws.{rows_tier}
use Rattle.margin.proofs.over.tier_at.Goals as goal
use Rattle.margin.proofs.over.tier_at.Goals.{After-contract_number-c, After-rows_part-rows}

-- the contract's number
small : (c : After-contract_number-c) → c.contract_number-c.result ≤ most_contract
small c =
    let m = c.args.morning.now in
    let n = c.args.noon.now in
    omega (
      arith,
      number_at m n (account_in c.args.account.now) c.requires.0 c.args.i c.requires.1 c.contract_number-c.result c.contract_number-c.ensures,
      own_number (account_of m n) c.requires.0.lawful c.args.i (listed_at m n (account_in c.args.account.now) c.requires.0 c.args.i c.requires.1),
    )

-- its rows
module _ (c : After-rows_part-rows) where
  abbrev whole : List Record
  whole = account_of c.args.morning.now c.args.noon.now

  rows_are : records c.rows_part-rows.result.now ≡ rows_of c.contract_number-c.result whole
  rows_are =
      let n = c.contract_number-c.result in
      let h = small (goal.at.rows_net-requires c).After-contract_number-c in
      let st = c.requires.0 in
      of_contract_lem whole st.lawful n h 3 (lit≤ tt) c.rows_part-rows.result.now
      (c.rows_part-rows.ensures (account_in c.args.account.now) n st h c.whereabouts_of-w.ensures)

pub whereabouts_of-w-requires : goal.whereabouts_of-w-requires
whereabouts_of-w-requires c = small c

pub rows_net-requires : goal.rows_net-requires
rows_net-requires c =
    subst⁻¹ RowsFit (rows_are c) (contract_within (whole c) c.requires.0.lawful [] c.contract_number-c.result none_within).rows_within

pub overflow_cast-result : goal.overflow_cast-result
overflow_cast-result c =
    omega (arith, small (goal.at.overflow_cast-result c).After-contract_number-c)

pub returns : goal.returns
returns c =
    let m = c.args.morning.now in
    let n = c.args.noon.now in
    let k = c.contract_number-c in
    rows_tier (account_of m n) c.requires.0.lawful k.result (get_or (contracts_of (account_of m n)) c.args.i []) c.rows_net.result.0
    (number_at m n (account_in c.args.account.now) c.requires.0 c.args.i c.requires.1 k.result k.ensures) (small (goal.at.returns c).After-contract_number-c)
    (subst (λ (rows : List Record). Sized most_delta (rows_net rows) c.rows_net.result.0) (rows_are (goal.at.returns c).After-rows_part-rows) c.rows_net.ensures)
