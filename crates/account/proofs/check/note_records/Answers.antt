use Prim.Native.Nat.{ℕ, ◌≤◌, ◌<◌}
use mathlib.Core.Path.{◌≡◌, sym, ap, subst⁻¹, ◌∙◌}
use mathlib.Core.List.{List}
use native.Mathlib.Omega.{arith}
use lib.ListN.{length, replicate}
use borrow.Author.Tests.{ltb-false}
use Rattle.exact.proofs.Tests.{one_at_most}
use Rattle.account.specs.Answers.{number_of, refusal}
use Rattle.account.specs.PartNumbers.{parts}
use Rattle.account.specs.Check.{most_records}
use Rattle.account.specs.Conversions.{other_row}
use Rattle.account.specs.Parts.{of_kind}
use Rattle.account.specs.Records.{record_at, record_count}
use Rattle.account.proofs.AcceptedOnly.{noted_refused}
use Rattle.account.proofs.Going.{Going, going_start, going_stops, owned_small, notable, going_over, met_start, met_over, going_tallied}
use Rattle.account.proofs.Verdict.{length-fine, fault_named}
use Rattle.account.proofs.check.note_records.Goals as goal

pub loop-k-init : goal.loop-k-init
loop-k-init c =
    let file = c.args.file.now in (
      subst⁻¹ (λ (first : List ℕ). Going file first c.args.counts.now 0 0) c.requires.1.0
          (subst⁻¹ (λ (counts : List ℕ). Going file (replicate parts 0) counts 0 0) c.requires.1.1 (going_start file)),
      met_start file,
    )

pub go_on-requires : goal.go_on-requires
go_on-requires c =
    let file = c.args.file.now in
    let loop = c.loop-k in
    let more : loop.k < record_count file = omega arith in
    let short : length file ≤ 61440 = ltb-false 61440 (length file) (length-fine file c.requires.0).0 in
    let few : record_count file ≤ most_records = omega arith in
    notable loop.invariant.0 more few

pub returns-in-Err : goal.returns-in-Err
returns-in-Err c =
    let file = c.args.file.now in
    let loop = c.loop-k in
    let more : loop.k < record_count file = omega arith in
    let fine = length-fine file c.requires.0 in
    let n = c.in-Err.number in
    let fault = c.in-Err.ensures in
    let some : (number_of (refusal n loop.k) ≡ 0 → ⊥) = λ z. fault.1 (sym (fault_named file loop.first loop.counts loop.k n loop.k fault.0 fault.1) ∙ z) in
    rw (c.and.ensures, c.refusal_of.ensures)
    (noted_refused file _ _ (refusal n loop.k) _ some (going_stops loop.invariant.0 more n fault.0 fault.1 fine.0 fine.1))

pub overflow_add-contracts : goal.overflow_add-contracts
overflow_add-contracts c =
    let file = c.args.file.now in
    let loop = c.loop-k in
    let more : loop.k < record_count file = omega arith in
    let goes = c.in-Ok.ensures in
    omega (arith, owned_small loop.invariant.0 more, one_at_most (of_kind 1 (record_at file loop.k)), goes.own)

pub loop-k-smaller : goal.loop-k-smaller
loop-k-smaller c =
    let goes = c.in-Ok.ensures in
    let l = goes.later.low in
    omega arith

pub loop-k-preserved : goal.loop-k-preserved
loop-k-preserved c =
    let file = c.args.file.now in
    let loop = c.loop-k in
    let more : loop.k < record_count file = omega arith in
    let goes = c.in-Ok.ensures in
    let met = c.is_other_row-converts in (
      going_over loop.invariant.0 more goes,
      met_over loop.invariant.1 goes met.result (met.ensures ∙ ap other_row c.whole_at.ensures),
    )

pub returns : goal.returns
returns c =
    let file = c.args.file.now in
    let loop = c.loop-k in
    let done : record_count file ≤ loop.k = omega arith in
    let fine = length-fine file c.requires.0 in
    going_tallied loop.invariant.0 done loop.invariant.1 fine.0 fine.1
