-- A contract's parts are the account's, and the numbers that are lent are those of the position.
-- Assumes nothing.
use mathlib.Core.Path.{◌≡◌, subst, subst⁻¹}
use mathlib.Core.List.{List}
use Rattle.record.specs.Layout.{Record}
use Rattle.account.specs.Records.{records}
use Rattle.account.specs.code.Lent.{account_in}
use Rattle.account.specs.Joined.{account_of}
use Rattle.formulas.specs.code.Position.{position_in}
use Rattle.formulas.specs.code.Promised.{LineOf, PositionFit, contract_with}
use Rattle.formulas.specs.declared.rows.Position.{Position}
use Rattle.formulas.proofs.LentLaws.{position_lent}
use Rattle.margin.specs.code.Beside.{own_of}
use Rattle.margin.specs.code.Positions.{ContractIn}
use Rattle.margin.proofs.StandLaws.{own_by, parts_read, parts_told}
use Rattle.margin.proofs.everything.contract_from.Goals as goal
use Rattle.margin.proofs.everything.contract_from.Goals.{After-plain-nets}

lent : (c : After-plain-nets) →
    position_in c.args.p.totals.0 c.plain-nets.result c.args.p.shorts ≡ c.args.p
lent c =
    position_lent c.args.p c.plain-nets.result c.plain-nets.ensures

pub contract_in-requires : goal.contract_in-requires
contract_in-requires c =
    let a = account_of c.args.morning.now c.args.noon.now in
    let st = c.requires.0 in
    let j = account_in c.args.account.now in
    let n = c.args.c in
    let h = c.requires.1.0 in
    let w = c.whereabouts_of-w.ensures in
    let own = c.own_part-own in
    let ps = c.prompts_part-prompts in
    let ss = c.spreads_part-spreads in (
      h,
      subst⁻¹ (λ (q : Position). PositionFit own.result.now (records ps.result.now) (records ss.result.now) q) (lent (goal.at.contract_in-requires c).After-plain-nets)
          (subst⁻¹ (λ (o : Record). PositionFit o (records ps.result.now) (records ss.result.now) c.args.p)
          (own_by a st.lawful n h own.result.now (own.ensures j n st h w))
          (parts_read a st.lawful n h ps.result.now ss.result.now (ps.ensures j n st h w) (ss.ensures j n st h w)
          (λ (xs ys : List Record). PositionFit (own_of n a) xs ys c.args.p) c.requires.1.1)),
    )

pub returns : goal.returns
returns c =
    let a = account_of c.args.morning.now c.args.noon.now in
    let st = c.requires.0 in
    let j = account_in c.args.account.now in
    let n = c.args.c in
    let h = c.requires.1.0 in
    let w = c.whereabouts_of-w.ensures in
    let own = c.own_part-own in
    let ps = c.prompts_part-prompts in
    let ss = c.spreads_part-spreads in
    let l = c.contract_in in record {
      line = parts_told a st.lawful n h ps.result.now ss.result.now (ps.ensures j n st h w) (ss.ensures j n st h w)
          (λ (xs ys : List Record). LineOf (contract_with (own_of n a) xs ys c.args.p) l.result)
          (subst (λ (o : Record). LineOf (contract_with o (records ps.result.now) (records ss.result.now) c.args.p) l.result)
          (own_by a st.lawful n h own.result.now (own.ensures j n st h w))
          (subst (λ (q : Position). LineOf (contract_with own.result.now (records ps.result.now) (records ss.result.now) q) l.result)
          (lent (goal.at.returns c).After-plain-nets) l.ensures.line));
      lent = λ whole is.
          l.ensures.lent whole
          (subst⁻¹ (λ (q : Position). ContractIn whole c.args.count n (records ps.result.now) (records ss.result.now) q) (lent (goal.at.returns c).After-plain-nets)
          (parts_read a st.lawful n h ps.result.now ss.result.now (ps.ensures j n st h w) (ss.ensures j n st h w)
          (λ (xs ys : List Record). ContractIn whole c.args.count n xs ys c.args.p) is));
    }
