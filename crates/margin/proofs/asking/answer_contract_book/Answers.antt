-- A contract's book by its records in the files: too few numbers lent, or written at the front.
-- Assumes nothing.
use Rattle.std.specs.Prelude.{ℕ, Err}
use mathlib.Core.List.{[], map}
use mathlib.Core.Path.{◌≡◌, refl, sym, ap, ◌∙◌}
use Prim.Native.Nat.{◌+◌, ◌*◌}
use native.Mathlib.Omega.{arith}
use lib.ListN.{length}
use Rattle.account.specs.code.Lent.{account_in}
use Rattle.account.specs.Joined.{account_of}
use Rattle.account.specs.Records.{records, record_count}
use Rattle.account.specs.declared.answers.Refusal.TheVariants.{TooFewNumbers}
use Rattle.spread.specs.Accepted.{prompt_places}
use Rattle.spread.specs.Steps.{steps}
use Rattle.spread.proofs.Lent.{deltas_again}
use Rattle.formulas.specs.Deltas.{opens_with, interprompt}
use Rattle.formulas.specs.code.Promised.{BookRoom}
use Rattle.margin.specs.Books.{book}
use Rattle.margin.specs.code.Asked.{BookIs}
use Rattle.margin.specs.declared.asking.Question.TheVariants.{Book}
use Rattle.margin.proofs.AnswerLaws.{book-written}
use Rattle.margin.proofs.BesideLaws.{book_few, book-length, nets_room, nets_book}
use Rattle.margin.proofs.QuestionLaws.{asked_few, refused_with}
use Rattle.margin.proofs.StandLaws.{rows_room, prompts_few, rows_placed}
use Rattle.margin.proofs.asking.answer_contract_book.Goals as goal
use Rattle.margin.proofs.asking.answer_contract_book.Goals.{After-put_net_deltas, After-spreads_part-spreads}

-- as many numbers as are counted
many : (c : After-spreads_part-spreads) →
    length (book (account_of c.args.morning.now c.args.noon.now) c.args.c)
    ≡ 3 * record_count c.prompts_part-prompts.result.now + 2 * record_count c.spreads_part-spreads.result.now + 1
many c =
    let st = c.requires.0 in
    let j = account_in c.args.account.now in
    let n = c.args.c in
    let h = c.requires.1.0 in
    let w = c.whereabouts_of-w.ensures in
    let ps = c.prompts_part-prompts in
    let ss = c.spreads_part-spreads in
    book-length (account_of c.args.morning.now c.args.noon.now) st.lawful n h ps.result.now ss.result.now
    (ps.ensures j n st h w) (ss.ensures j n st h w) c.requires.1.1

-- the net deltas, one for each place of a prompt
nets-long : (c : After-put_net_deltas) → length c.put_net_deltas.new.nets ≡ prompt_places
nets-long c = ap length (sym (deltas_again c.put_net_deltas.new.nets)) ∙ (c.put_net_deltas.ensures [] 1).places

-- the spread steps accept the contract's prompts and spreads
room : (c : After-put_net_deltas) →
    BookRoom (records c.prompts_part-prompts.result.now) c.put_net_deltas.new.nets (records c.spreads_part-spreads.result.now)
room c =
    let st = c.requires.0 in
    let j = account_in c.args.account.now in
    let n = c.args.c in
    let h = c.requires.1.0 in
    let w = c.whereabouts_of-w.ensures in
    let ps = c.prompts_part-prompts in
    let ss = c.spreads_part-spreads in
    let rs = c.rows_part-rows in
    nets_room (account_of c.args.morning.now c.args.noon.now) st.lawful n h ps.result.now ss.result.now
    (ps.ensures j n st h w) (ss.ensures j n st h w) rs.result.now (rs.ensures j n st h w) c.put_net_deltas.new.nets (c.put_net_deltas.ensures [] 1)

-- and their book is the one that is asked for
is-book : (c : After-put_net_deltas) →
    BookIs (account_of c.args.morning.now c.args.noon.now) c.args.c
    (steps (map interprompt (records c.spreads_part-spreads.result.now)))
    (opens_with (records c.prompts_part-prompts.result.now) c.put_net_deltas.new.nets)
is-book c =
    let st = c.requires.0 in
    let j = account_in c.args.account.now in
    let n = c.args.c in
    let h = c.requires.1.0 in
    let w = c.whereabouts_of-w.ensures in
    let ps = c.prompts_part-prompts in
    let ss = c.spreads_part-spreads in
    let rs = c.rows_part-rows in
    nets_book (account_of c.args.morning.now c.args.noon.now) st.lawful n h ps.result.now ss.result.now
    (ps.ensures j n st h w) (ss.ensures j n st h w) rs.result.now (rs.ensures j n st h w) c.put_net_deltas.new.nets (c.put_net_deltas.ensures [] 1)
    c.requires.1.1

pub contract_count-requires : goal.contract_count-requires
contract_count-requires c =
    let st = c.requires.0 in
    let j = account_in c.args.account.now in
    let n = c.args.c in
    let h = c.requires.1.0 in
    let w = c.whereabouts_of-w.ensures in
    let ps = c.prompts_part-prompts in
    let ss = c.spreads_part-spreads in
    book_few (account_of c.args.morning.now c.args.noon.now) st.lawful n h ps.result.now ss.result.now
    (ps.ensures j n st h w) (ss.ensures j n st h w)

pub returns-then-out-contract_count : goal.returns-then-out-contract_count
returns-then-out-contract_count c =
    let a = account_of c.args.morning.now c.args.noon.now in
    let n = c.args.c in
    let out = c.args.out.now in
    refused_with (Err (TooFewNumbers c.record_total.result)) _ (book a n) out
    (asked_few a (Book n) (length out) c.requires.1.1
    (omega (arith, many (goal.at.returns-then-out-contract_count c).After-spreads_part-spreads, c.contract_count.ensures, c.if-out-contract_count.true))
    ∙ ap (λ (n : ℕ). Err (TooFewNumbers n)) (sym (c.record_total.ensures ∙ c.requires.0.places.all))) (λ e. omega arith)

pub put_net_deltas-requires : goal.put_net_deltas-requires
put_net_deltas-requires c =
    let a = account_of c.args.morning.now c.args.noon.now in
    let st = c.requires.0 in
    let j = account_in c.args.account.now in
    let n = c.args.c in
    let h = c.requires.1.0 in
    let w = c.whereabouts_of-w.ensures in
    let ps = c.prompts_part-prompts in
    let rs = c.rows_part-rows in
    let ep = ps.ensures j n st h w in
    let er = rs.ensures j n st h w in (
      (
        prompts_few a st.lawful n h ps.result.now rs.result.now ep er,
        rows_placed a st.lawful n h ps.result.now rs.result.now ep er,
      ),
      ((rows_room a st.lawful n h ps.result.now rs.result.now ep er).rows_within, refl),
    )

pub run_contract-requires : goal.run_contract-requires
run_contract-requires c =
    (omega (arith, c.contract_count.ensures, c.if-out-contract_count.false), (nets-long (goal.at.run_contract-requires c).After-put_net_deltas, room (goal.at.run_contract-requires c).After-put_net_deltas))

pub returns : goal.returns
returns c =
    let is = is-book (goal.at.returns c).After-put_net_deltas in
    book-written (account_of c.args.morning.now c.args.noon.now) c.args.c _ _ c.args.out.now c.run_contract.new.out is
    (omega (arith, ap length is.is, many (goal.at.returns c).After-spreads_part-spreads, c.contract_count.ensures, c.if-out-contract_count.false))
    c.run_contract.ensures
