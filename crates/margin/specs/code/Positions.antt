-- What the rows of each contract come to, worked out once for an account, so that its figures and books go by positions and not by
-- rows. The account need not stand in the files: tickets may have been put among its rows.
-- Assumes nothing.
use Rattle.std.specs.Prelude.{ℕ, ◌≤◌, ◌≡◌, true, List, [], length, get_or}
use Rattle.record.specs.Layout.{Record, most_contract}
use Rattle.account.specs.Check.{most_contracts}
use Rattle.account.specs.Lawful.{Lawful}
use Rattle.account.specs.Parts.{prompts_of, spreads_of, rates_of}
use Rattle.margin.specs.declared.positions.Positions.{Positions}
use Rattle.formulas.specs.declared.rows.Position.{Position}
use Rattle.margin.specs.code.Beside.{unit_of, Besides}
use Rattle.margin.specs.Books.{answered}
use Rattle.margin.specs.code.Lined.{PositionAt}

abbrev pub no_position : Position
no_position = record { totals = record { 0 = [] }; nets = []; shorts = 0 }

-- how many records the account has, and what the rows of each contract number come to, at its rates and in the contract's unit
pub record PositionsOf (whole : List Record) (ps : Positions) : Type 0 where
  pub records_are : ps.records ≡ length whole
  pub places : length ps.at ≡ most_contracts
  pub each : (c : ℕ) → c ≤ most_contract → PositionAt (rates_of whole) (unit_of c whole) whole c (get_or ps.at c no_position)

-- an account that positions tell of, beside the records that stand in the files
pub record PositionsTell (standing : List Record) (ps : Positions) (whole : List Record) : Type 0 where
  pub beside : Besides standing whole
  pub positions : PositionsOf whole ps

-- there is one
pub record Known (standing : List Record) (ps : Positions) : Type 0 where
  pub whole : List Record
  pub told : PositionsTell standing ps whole

-- an account that answers contract c, whose prompts and interprompt spreads are these
pub record ContractIn (whole : List Record) (records c : ℕ) (prompts spreads : List Record) (p : Position) : Type 0 where
  pub lawful : Lawful whole
  pub asked_is : answered whole c ≡ true
  pub records_are : records ≡ length whole
  pub prompts_are : prompts ≡ prompts_of c whole
  pub spreads_are : spreads ≡ spreads_of c whole
  pub at : PositionAt (rates_of whole) (unit_of c whole) whole c p
