-- The table of what is put together.
-- Assumes nothing.
use Prim.Native.Nat.{ℕ, ◌*◌}
use mathlib.Core.Path.{ap, subst, ◌∙◌}
use mathlib.Core.List.{List}
use lib.ListN.{take}
use Rattle.record.specs.Bytes.{record_bytes}
use Rattle.account.specs.code.Rates.{RatesOf}
use Rattle.account.specs.Records.{records}
use Rattle.writing.proofs.Placed.{front_filled}
use Rattle.writing.proofs.checking.rates_in.Goals as goal

pub returns : goal.returns
returns c =
    let a = c.args in
    subst (λ (bytes : List ℕ). RatesOf (records bytes) c.rates_of.result)
    (ap (take (a.n * record_bytes)) c.fill.ensures ∙ front_filled a.entries.now a.k a.n _ c.requires.1.1) c.rates_of.ensures
