-- `account::fault::fault_at` meets its contract. Assumes nothing.
use Prim.Native.Nat.{ℕ}
use mathlib.Core.Path.{◌≡◌, sym, ap, ◌∙◌}
use mathlib.Core.List.{List}
use borrow.Author.Tests.{eqb-true}
use Rattle.record.specs.Layout.{Record, contract}
use Rattle.account.specs.code.Notes.{fault_by, fault_at, part_at, prompts_noted, before_at}
use Rattle.account.specs.Records.{records, record_at}
use Rattle.account.specs.PartNumbers.{part}
use Rattle.account.proofs.fault.fault_at.Goals as goal

-- what was read stands in the definition's place
joined :
    (file first counts : List ℕ) (k : ℕ) {r b ps : List ℕ} {d : ℕ}
    → r ≡ record_at file k → d ≡ contract r → ps ≡ part_at file first counts (part 2 d) → b ≡ before_at file k
    → fault_by counts (records ps) b r ≡ fault_at file first counts k
joined file first counts k {r} {b} {ps} {d} hr hd hs hb =
    let prompts : records ps ≡ prompts_noted file first counts (contract r) =
    ap records (hs ∙ ap (λ (x : ℕ). part_at file first counts (part 2 x)) hd) in
    ap (λ (p : List Record). fault_by counts p b r) prompts
    ∙ ap (λ (x : Record). fault_by counts (prompts_noted file first counts (contract r)) x r) hb
    ∙ ap (λ (x : Record). fault_by counts (prompts_noted file first counts (contract x)) (before_at file k) x) hr

pub returns-then-faultless : goal.returns-then-faultless
returns-then-faultless c =
    sym (eqb-true _ 0 (sym c.faultless.ensures ∙ c.if-faultless.true))
    ∙ joined c.args.file.now c.args.first.now c.args.counts.now c.args.k c.whole_at-r.ensures c.contract.ensures.0
    c.part_at-prompts.ensures c.whole_before-before.ensures

pub returns : goal.returns
returns c =
    c.fault.ensures
    ∙ joined c.args.file.now c.args.first.now c.args.counts.now c.args.k c.whole_at-r.ensures c.contract.ensures.0
    c.part_at-prompts.ensures c.whole_before-before.ensures
