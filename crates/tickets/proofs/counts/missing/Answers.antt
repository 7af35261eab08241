-- The contract's own record and its prompts, by the parts of the account.
-- Assumes nothing.
use mathlib.Core.Path.{ap, ap₂, ◌∙◌}
use Prim.Native.Nat.{ℕ}
use native.Mathlib.Omega.{arith}
use mathlib.Core.List.{List}
use lib.Dec.{eqb}
use lib.ListN.{get_or}
use Rattle.record.specs.Layout.{Record, contract}
use Rattle.record.proofs.Tests.{both}
use Rattle.account.specs.PartNumbers.{part, part_records}
use Rattle.account.specs.code.Notes.{no_day}
use Rattle.account.specs.Joined.{account_of}
use Rattle.account.proofs.Standing.{contract-part}
use Rattle.tickets.proofs.counts.missing.Goals as goal

pub returns : goal.returns
returns c =
    let account = account_of c.args.file.now c.args.none.now in
    let number = contract c.args.row.now in
    let e = c.contract-c.ensures.0 in
    both
    (ap (λ (n : ℕ). eqb n 0) (c.part_total.ensures ∙ ap (λ (n : ℕ). get_or c.args.account.counts (part 1 n) 0) e))
    (c.no_day.ensures
    ∙ ap₂ (λ (rs : List Record) (d : ℕ). no_day rs d)
    (c.part-prompts.ensures.are ∙ ap (λ (n : ℕ). part_records (part 2 n) account) e ∙ contract-part 2 number (omega arith) c.requires.1 account)
    c.day.ensures.0)
