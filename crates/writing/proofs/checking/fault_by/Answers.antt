-- The fault, by what is held.
-- Assumes nothing.
use Prim.Native.Nat.{ℕ, ◌*◌}
use mathlib.Core.Path.{sym, ap, ◌∙◌}
use native.Mathlib.Omega.{arith}
use lib.ListN.{take}
use lib.Seq.{length-take-le}
use Rattle.record.specs.Bytes.{record_bytes}
use Rattle.account.specs.code.Notes.{fault_by}
use Rattle.account.specs.Records.{records}
use Rattle.writing.proofs.checking.fault_by.Goals as goal

pub slice_bounds-fault-end : goal.slice_bounds-fault-end
slice_bounds-fault-end c =
    sym (length-take-le (c.noted-size.result * record_bytes) c.args.prompts.now (omega
    (arith, c.noted-size.ensures, c.requires.1.0, c.requires.1.1)))

pub returns : goal.returns
returns c =
    let a = c.args in
    let same = c.noted-size.ensures in
    c.fault.ensures ∙ ap (λ (n : ℕ). fault_by a.counts.now (records (take (n * record_bytes) a.prompts.now)) a.before.now a.r.now) same
