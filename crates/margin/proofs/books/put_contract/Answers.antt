-- The numbers of a contract's book and its touches, as they are written.
-- Assumes nothing.
use mathlib.Core.Path.{ap, ◌∙◌}
use native.Mathlib.Omega.{arith}
use lib.Seq.{sets}
use Rattle.margin.proofs.AnswerLaws.{contract_lent, contract-signed, contract-numbers}
use Rattle.margin.proofs.books.put_contract.Goals as goal

pub put_numbers-requires : goal.put_numbers-requires
put_numbers-requires c =
    let prompts = c.args.prompts.now in
    let spreads = c.args.spreads.now in
    let nets = c.args.nets.now in
    let room = c.requires.1.1.0 in
    let is = c.requires.1.1.1.0 in (
      contract_lent prompts spreads nets c.requires.1.0 room c.args.first.now c.args.second.now c.args.used.now c.args.unused.now is,
      (
        contract-signed prompts spreads nets c.requires.1.0 room c.args.first.now c.args.second.now c.args.used.now c.args.unused.now is,
        (
          c.requires.1.1.1.1.1,
          omega (arith, c.requires.0),
        ),
      ),
    )

pub returns : goal.returns
returns c =
    c.put_numbers.ensures
    ∙ ap (sets c.args.out.now 0)
    (contract-numbers c.args.prompts.now c.args.spreads.now c.args.nets.now c.requires.1.0 c.requires.1.1.0
    c.args.first.now c.args.second.now c.args.used.now c.args.unused.now c.requires.1.1.1.0
    c.args.touched c.requires.1.1.1.1.0)
