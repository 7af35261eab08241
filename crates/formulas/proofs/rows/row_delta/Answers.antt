-- `row_delta`: at most 100,000 × 10,000.
-- Assumes nothing.
use Rattle.std.proofs.Common.{arith, refl, SFits, w64, ◌*ℤ◌}
use Rattle.record.specs.Layout.{lots, delta, hundred_thousand}
use Rattle.formulas.proofs.Calls.{handed}
use Rattle.formulas.proofs.SignedCalls.{times_fits, times_is, sized_back}
use Rattle.formulas.proofs.rows.row_delta.Goals as goal
use Rattle.formulas.proofs.rows.row_delta.Goals.{After-delta}

fits : (c : After-delta) → SFits w64 (handed c.lots.result *ℤ handed c.delta.result)
fits c =
    times_fits c.lots.result c.delta.result (lots c.args.row.now) (delta c.args.row.now) hundred_thousand 10000
    (record { sfits = c.lots.type_inv }) (record { sfits = c.delta.type_inv })
    c.lots.ensures c.delta.ensures c.requires.lots_within c.requires.delta_within (omega arith)

pub overflow_mul-result : goal.overflow_mul-result
overflow_mul-result c = fits c

pub returns : goal.returns
returns c =
    sized_back (handed c.lots.result *ℤ handed c.delta.result) (fits c)
    (times_is c.lots.result c.delta.result (lots c.args.row.now) (delta c.args.row.now) hundred_thousand 10000
    (record { sfits = c.lots.type_inv }) (record { sfits = c.delta.type_inv })
    c.lots.ensures c.delta.ensures c.requires.lots_within c.requires.delta_within _ refl)
