-- The contracts first, then the figures and the table in its two places, for every account that the positions tell of.
-- Assumes nothing.
use mathlib.Core.Path.{sym, ap, ◌∙◌}
use mathlib.Core.List.{List}
use Prim.Native.Nat.{◌≤◌}
use native.Mathlib.Omega.{arith}
use lib.ListN.{length}
use Rattle.record.specs.Layout.{Record}
use Rattle.account.specs.Joined.{account_of}
use Rattle.margin.specs.Figures.{figures}
use Rattle.margin.specs.code.Lent.{TabledBy}
use Rattle.margin.specs.code.Positions.{PositionsTell}
use Rattle.margin.proofs.BesideLaws.{entries_beside}
use Rattle.margin.proofs.QuestionLaws.{figures-length}
use Rattle.margin.proofs.WalkedLaws.{walked_tabled, walked_everything}
use borrow.Author.Rules.{rules}
use Rattle.margin.proofs.everything.put_from.Goals as goal
use Rattle.margin.proofs.everything.put_from.Goals.{After-contract_total, Start}

-- an account that they tell of
abbrev Told : Start → List Record → Type 0
Told s whole = PositionsTell (account_of s.args.morning.now s.args.noon.now) s.args.positions whole

-- the figures have room
room : (s : Start) (whole : List Record) → Told s whole → length (figures whole) ≤ length s.args.figures.now
room s whole t = omega (arith, figures-length whole, s.requires.1.1, ap length t.beside.contracts, s.requires.0.places.contracts)

-- the contracts of such an account are in their places
tabled : (c : After-contract_total) →
    let ends = c.place_from.new in
    (whole : List Record) → Told c.before.before.before.before.before.before.before.before.before.before.before.before.before.before.before.before.before whole
    → TabledBy c.part.result.now c.contract_total.result c.args.positions.records ends.figures ends.tiers
    ends.nets ends.units ends.prices ends.sizes whole
tabled c whole t =
    let bytes = c.part.result.now in
    walked_tabled (room c.before.before.before.before.before.before.before.before.before.before.before.before.before.before.before.before.before whole t) c.figures-1.given (c.place_from.ensures whole t) t.beside.lawful
    (c.contract_total.ensures ∙ c.requires.0.places.contracts ∙ sym (ap length t.beside.contracts)) t.positions.records_are
    (entries_beside (account_of c.args.morning.now c.args.noon.now) whole t.beside bytes c.part.ensures)

pub place_from-requires : goal.place_from-requires
place_from-requires c =
    (c.requires.0, (c.requires.1.0, (c.requires.1.1, search rules)))

pub table_over-requires : goal.table_over-requires
table_over-requires c =
    let x = c.requires.1.0 in (
      omega (arith, c.requires.1.1, c.contract_total.ensures, c.figures-1.given),
      record { whole = x.whole; is = tabled (goal.at.table_over-requires c).After-contract_total x.whole x.told },
    )

pub returns : goal.returns
returns c =
    λ whole t.
    walked_everything (room (goal.at.returns c).Start whole t) c.figures-1.given (c.place_from.ensures whole t)
    c.books-1.given c.uses-1.given (c.table_over.ensures whole (tabled (goal.at.returns c).After-contract_total whole t))
