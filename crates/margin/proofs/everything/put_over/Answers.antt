-- The contracts first, then the figures and the table in its two places.
-- Assumes nothing.
use mathlib.Core.Path.{◌∙◌}
use Prim.Native.Nat.{◌≤◌}
use native.Mathlib.Omega.{arith}
use lib.ListN.{length}
use Rattle.account.specs.Joined.{account_of}
use Rattle.margin.specs.Figures.{figures}
use Rattle.margin.specs.code.Lent.{TabledBy}
use Rattle.margin.proofs.QuestionLaws.{figures-length}
use Rattle.margin.proofs.WalkedLaws.{walked_tabled, walked_everything}
use Rattle.margin.proofs.everything.put_over.Goals as goal
use Rattle.margin.proofs.everything.put_over.Goals.{After-record_total, Start}

-- the figures have room
room : (s : Start) → length (figures (account_of s.args.morning.now s.args.noon.now)) ≤ length s.args.figures.now
room s = omega (arith, figures-length (account_of s.args.morning.now s.args.noon.now), s.requires.1, s.requires.0.places.contracts)

-- the account's contracts are in their places
tabled : (c : After-record_total) →
    let ends = c.place_over.new in
    TabledBy c.part.result.now c.contract_total.result c.record_total.result ends.figures ends.tiers
    ends.nets ends.units ends.prices ends.sizes
    (account_of c.args.morning.now c.args.noon.now)
tabled c =
    walked_tabled (room c.before.before.before.before.before.before.before.before.before.before.before.before.before.before.before.before.before.before) c.figures-1.given c.place_over.ensures c.requires.0.lawful
    (c.contract_total.ensures ∙ c.requires.0.places.contracts) (c.record_total.ensures ∙ c.requires.0.places.all) c.part.ensures

pub table_over-requires : goal.table_over-requires
table_over-requires c = (
  omega (arith, c.requires.1, c.contract_total.ensures, c.figures-1.given),
  record { whole = _; is = tabled (goal.at.table_over-requires c).After-record_total },
)

pub returns : goal.returns
returns c =
    walked_everything (room (goal.at.returns c).Start) c.figures-1.given c.place_over.ensures
    c.books-1.given c.uses-1.given (c.table_over.ensures _ (tabled (goal.at.returns c).After-record_total))
