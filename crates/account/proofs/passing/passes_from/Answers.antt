-- `account::passing::passes_from` meets its contract. Assumes nothing.
use Prim.Native.Nat.{ℕ}
use mathlib.Core.Path.{◌≡◌, sym, ◌∙◌}
use Rattle.account.specs.code.Passing.{Begins}
use Rattle.account.proofs.Runs.{contract_run, begins_read}
use Rattle.account.proofs.passing.passes_from.Goals as goal
use Rattle.account.proofs.passing.passes_from.Goals.{Else-not-may_run}

-- record k's contract and kind read: a run of its kind may begin
module _ (c : Else-not-may_run) where
  begins : (n : ℕ) → c.kind-n.result ≡ n
      → Begins n c.args.file.now c.args.counts.now c.args.k c.contract-c.result
  begins n e =
      let contract = c.contract-c in
      begins_read n c.kind-n.result contract.result c.requires.0 c.requires.1 c.if-k-eq0.false
      c.whole_at-r.ensures c.whole_at.ensures c.kind-n.ensures.0 contract.ensures.0 contract.ensures.1
      (sym c.may_run.ensures ∙ c.if-not-may_run.false) e

pub returns-then-contract_passes : goal.returns-then-contract_passes
returns-then-contract_passes c =
    contract_run c.args.file.now c.args.first.now c.args.counts.now c.args.k c.requires.0
    c.whole_before.ensures c.whole_at-r.ensures (sym c.contract_passes.ensures ∙ c.if-contract_passes.true)

pub prompts_from-requires : goal.prompts_from-requires
prompts_from-requires c = begins (goal.at.prompts_from-requires c).Else-not-may_run 2 c.in-2.is

pub rows_from-requires : goal.rows_from-requires
rows_from-requires c = begins (goal.at.rows_from-requires c).Else-not-may_run 3 c.in-3.is

pub spreads_from-requires : goal.spreads_from-requires
spreads_from-requires c =
    begins (goal.at.spreads_from-requires c).Else-not-may_run 4 c.in-4.is
