-- A contract's book and uses in their places, and its line, by what its rows come to.
-- Assumes nothing.
use mathlib.Core.Path.{◌≡◌, refl, ap, ◌∙◌, subst⁻¹}
use mathlib.Core.Bool.{Bool, true, false}
use mathlib.Core.List.{List, []}
use Prim.Native.Nat.{ℕ, ◌≤◌}
use native.Mathlib.Omega.{arith}
use lib.IntN.{ℤ}
use lib.ListN.{get_or}
use Rattle.record.specs.Layout.{contract, most_contract}
use Rattle.account.specs.Parts.{contracts_of, rates_of}
use Rattle.account.specs.Records.{records}
use Rattle.account.specs.code.Lent.{account_in}
use Rattle.account.specs.Joined.{account_of}
use Rattle.formulas.specs.code.Position.{position_in}
use Rattle.margin.specs.Places.{lent_place, question_of, width_of}
use Rattle.margin.specs.code.Positions.{ContractIn}
use Rattle.margin.specs.Questions.{after_over}
use Rattle.margin.proofs.BesideLaws.{position_room, fit_here, line_here, contract_in}
use Rattle.margin.proofs.StandLaws.{number_at, listed_at, own_number}
use Rattle.margin.proofs.everything.contract_over.Goals as goal
use Rattle.margin.proofs.everything.contract_over.Goals.{After-contract_number-c}

-- the contract's number
number : (c : After-contract_number-c) →
    c.contract_number-c.result ≡ contract (get_or (contracts_of (account_of c.args.morning.now c.args.noon.now)) c.args.i [])
number c =
    number_at c.args.morning.now c.args.noon.now (account_in c.args.account.now) c.requires.0
    c.args.i c.requires.1.0 c.contract_number-c.result c.contract_number-c.ensures

small : (c : After-contract_number-c) → c.contract_number-c.result ≤ most_contract
small c =
    let m = c.args.morning.now in
    let n = c.args.noon.now in
    let h = listed_at m n (account_in c.args.account.now) c.requires.0 c.args.i c.requires.1.0 in
    omega (arith, number c, own_number (account_of m n) c.requires.0.lawful c.args.i h)

pub whereabouts_of-w-requires : goal.whereabouts_of-w-requires
whereabouts_of-w-requires c = small c

pub put_position-shorts-requires : goal.put_position-shorts-requires
put_position-shorts-requires c =
    let st = c.requires.0 in
    let j = account_in c.args.account.now in
    let n = c.contract_number-c.result in
    let w = c.whereabouts_of-w.ensures in
    let rs = c.rows_part-rows in
    let ps = c.prompts_part-prompts in
    let own = c.own_part-own in
    let fits = position_room (account_of c.args.morning.now c.args.noon.now) st.lawful n (small (goal.at.put_position-shorts-requires c).After-contract_number-c)
    own.result.now ps.result.now rs.result.now
    (own.ensures j n st (small (goal.at.put_position-shorts-requires c).After-contract_number-c) w) (ps.ensures j n st (small (goal.at.put_position-shorts-requires c).After-contract_number-c) w) (rs.ensures j n st (small (goal.at.put_position-shorts-requires c).After-contract_number-c) w)
    c.args.rates c.requires.1.1 c.unit.result c.unit.ensures.0 in
    (fits.0, (fits.1.0, (fits.1.1.0, (fits.1.1.1, (refl, refl)))))

pub contract_in-requires : goal.contract_in-requires
contract_in-requires c =
    let a = account_of c.args.morning.now c.args.noon.now in
    let st = c.requires.0 in
    let j = account_in c.args.account.now in
    let n = c.contract_number-c.result in
    let w = c.whereabouts_of-w.ensures in
    let r = c.put_position-shorts in
    let p = position_in r.new.totals r.new.nets r.result in
    let u = c.unit in
    let ss = c.spreads_part-spreads in
    let rs = c.rows_part-rows in
    let ps = c.prompts_part-prompts in
    let own = c.own_part-own in (
      small (goal.at.contract_in-requires c).After-contract_number-c,
      fit_here a st.lawful n (small (goal.at.contract_in-requires c).After-contract_number-c) own.result.now ps.result.now rs.result.now
          (own.ensures j n st (small (goal.at.contract_in-requires c).After-contract_number-c) w) (ps.ensures j n st (small (goal.at.contract_in-requires c).After-contract_number-c) w) (rs.ensures j n st (small (goal.at.contract_in-requires c).After-contract_number-c) w)
          c.args.rates c.requires.1.1 u.result u.ensures.0 p (r.ensures.is (rates_of a) c.requires.1.1) r.ensures.most
          ss.result.now (ss.ensures j n st (small (goal.at.contract_in-requires c).After-contract_number-c) w),
    )

pub returns : goal.returns
returns c =
    let a = account_of c.args.morning.now c.args.noon.now in
    let st = c.requires.0 in
    let j = account_in c.args.account.now in
    let n = c.contract_number-c.result in
    let w = c.whereabouts_of-w.ensures in
    let r = c.put_position-shorts in
    let p = position_in r.new.totals r.new.nets r.result in
    let u = c.unit in
    let ss = c.spreads_part-spreads in
    let rs = c.rows_part-rows in
    let ps = c.prompts_part-prompts in
    let own = c.own_part-own in
    let its = c.contract_in in
    let listed = listed_at c.args.morning.now c.args.noon.now j st c.args.i c.requires.1.0 in
    let placed : Bool → List ℤ → ℕ → List ℤ = λ paid l q. lent_place (width_of paid) q (after_over a (question_of paid q)) l in
    let lent =
    its.ensures.lent a
    (subst⁻¹ (λ (x : ℕ). ContractIn a x n (records ps.result.now) (records ss.result.now) p)
    (c.record_total.ensures ∙ st.places.all)
    (contract_in a st.lawful n (small (goal.at.returns c).After-contract_number-c) own.result.now ps.result.now rs.result.now
    (own.ensures j n st (small (goal.at.returns c).After-contract_number-c) w) (ps.ensures j n st (small (goal.at.returns c).After-contract_number-c) w) (rs.ensures j n st (small (goal.at.returns c).After-contract_number-c) w)
    c.args.rates c.requires.1.1 u.result u.ensures.0 p (r.ensures.is (rates_of a) c.requires.1.1) r.ensures.most
    ss.result.now (ss.ensures j n st (small (goal.at.returns c).After-contract_number-c) w)
    c.args.i listed (number (goal.at.returns c).After-contract_number-c)))
    in
    record {
      line =
          line_here a st.lawful n (small (goal.at.returns c).After-contract_number-c) own.result.now ps.result.now rs.result.now
          (own.ensures j n st (small (goal.at.returns c).After-contract_number-c) w) (ps.ensures j n st (small (goal.at.returns c).After-contract_number-c) w) (rs.ensures j n st (small (goal.at.returns c).After-contract_number-c) w)
          c.args.rates c.requires.1.1 u.result u.ensures.0 p (r.ensures.is (rates_of a) c.requires.1.1) r.ensures.most
          ss.result.now (ss.ensures j n st (small (goal.at.returns c).After-contract_number-c) w)
          c.args.i listed (number (goal.at.returns c).After-contract_number-c) its.result its.ensures.line;
      book = lent.0 ∙ ap (placed false c.args.books.now) (number (goal.at.returns c).After-contract_number-c);
      paid = lent.1 ∙ ap (placed true c.args.uses.now) (number (goal.at.returns c).After-contract_number-c);
    }
