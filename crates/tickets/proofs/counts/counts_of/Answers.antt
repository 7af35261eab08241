-- The parts of the account, counted.
-- Assumes nothing.
use mathlib.Core.Path.{refl, ap₂}
use Prim.Native.Nat.{ℕ, ◌+◌}
use native.Mathlib.Omega.{arith}
use Rattle.tickets.proofs.CountLaws.{totals_few, contracts_few, prompts_few, counts_start}
use Rattle.tickets.proofs.counts.counts_of.Goals as goal

pub sum_of-requires : goal.sum_of-requires
sum_of-requires c = (
  omega arith,
  totals_few c.args.file.now c.args.account c.requires.1 2 (omega arith) c.totals_of-prompts.result
      c.totals_of-prompts.ensures,
)

pub overflow_add-above : goal.overflow_add-above
overflow_add-above c =
    omega (
      arith,
      c.sum_of.ensures,
      c.contract_total.ensures,
      contracts_few c.args.file.now c.args.account c.requires.1,
      prompts_few c.args.file.now c.args.account c.requires.1 c.totals_of-prompts.result
          c.totals_of-prompts.ensures,
    )

pub returns : goal.returns
returns c =
    counts_start c.args.file.now c.args.account c.requires.1 _ c.totals_of-prompts.result refl refl
    c.totals_of-prompts.ensures
    (ap₂ (λ (x y : ℕ). x + y) c.contract_total.ensures c.sum_of.ensures) c.totals_of.ensures
