-- The account's rates: the table of its records of rates.
-- Assumes nothing.
use mathlib.Core.Path.{subst}
use mathlib.Core.List.{List}
use Rattle.record.specs.Layout.{Record}
use Rattle.account.specs.code.Rates.{RatesOf}
use Rattle.margin.proofs.over.rates_over.Goals as goal

pub returns : goal.returns
returns c = subst (λ (rs : List Record). RatesOf rs c.rates_of.result) c.part.ensures.are c.rates_of.ensures
