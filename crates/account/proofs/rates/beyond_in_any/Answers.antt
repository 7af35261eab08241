-- `beyond_in_any`: scenario by scenario.
-- Assumes nothing.
use native.Mathlib.Omega.{arith}
use lib.Dec.{ltb}
use lib.IntN.{nat_abs, ◌*ℤ◌}
use Prim.Native.Nat.{◌+◌, ◌≤◌}
use Rattle.std.proofs.Common.{rules, tests}
use Rattle.std.proofs.lemmas.Iterator.{serves_from_Range, YieldsList-from_range}
use Rattle.std.proofs.lemmas.Iterator.Search.{any_from_yields_List}
use Rattle.record.specs.Layout.{loss, scenario_count, hundred_thousand}
use Rattle.account.specs.Products.{converted_at, most_conversion}
use Rattle.account.proofs.rates.beyond_in_any.Goals as goal

pub any-requires-clause-callable : goal.any-requires-clause-callable
any-requires-clause-callable c =
    serves_from_Range (λ s q k. search (rules, tests))
    (λ s low high.
    let few : nat_abs (loss c.args.row.now (s + 1)) ≤ hundred_thousand =
    c.requires.1.0.losses (s + 1) (record { least = omega arith; most = omega arith }) in
    search rules)

pub returns : goal.returns
returns c =
    let a = c.args in
    any_from_yields_List (λ s. ltb most_conversion (nat_abs (converted_at a.f.raised a.f.lowered (a.each *ℤ loss a.row.now (s + 1))))) _ _ _
    c.any.ensures.ran (YieldsList-from_range 0 scenario_count scenario_count (cc) (omega arith)) (λ s b q k. search (rules, tests))
