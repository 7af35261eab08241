-- Without entries the figures stand already, the table's book is the net deltas, and nobody paid in it. Else the steps of the table are run once: their
-- numbers give the credits of the figures, and the table's book.
-- Assumes nothing.
use mathlib.Core.Path.{◌≡◌, refl, sym, ap, ◌∙◌}
use mathlib.Core.Bool.{true}
use mathlib.Core.List.{List}
use native.Mathlib.Omega.{arith}
use lib.ListN.{length}
use Rattle.record.specs.Layout.{Record}
use Rattle.account.specs.Parts.{contracts_of}
use Rattle.spread.specs.Accepted.{sound}
use Rattle.spread.specs.code.Lent.{prompts_in}
use Rattle.spread.specs.declared.Prompts.{Prompts}
use Rattle.formulas.specs.code.Table.{TiersFrom}
use Rattle.formulas.proofs.RecordLaws.{count_is}
use Rattle.margin.specs.code.Beside.{TiersOver}
use Rattle.margin.specs.code.Lent.{TabledBy}
use Rattle.margin.specs.code.Tabled.{lines_for, all_for, CreditedIn}
use Rattle.margin.proofs.AccountLaws.{lined_tiers, run_book}
use Rattle.margin.proofs.StandLaws.{entries_fit}
use Rattle.margin.proofs.TabledLaws.{tabled_tiers, tabled_sound, tabled_formed, tabled_nets}
use Prim.Native.Nat.{ℕ, ◌/◌}
use Rattle.record.specs.Bytes.{record_bytes}
use Rattle.account.specs.Records.{cut}
use Rattle.formulas.specs.Bounds.{longest_uses}
use Rattle.margin.specs.Books.{table_question}
use Rattle.margin.specs.Questions.{after_over}
use Rattle.margin.specs.declared.asking.Question.TheVariants.{Uses}
use Rattle.margin.proofs.LentLaws.{lent_same, no_uses}
use Rattle.margin.proofs.everything.table_over.Goals as goal
use Rattle.margin.proofs.everything.table_over.Goals.{After-intercontract_table-table, After-put_book, Start}

-- an account over whose contracts the walk has gone
abbrev Is : Start → List Record → Type 0
Is s whole =
    TabledBy s.args.entries.now s.args.count s.args.records s.args.figures.now s.args.tiers.now s.args.nets.now
    s.args.units.now s.args.prices.now s.args.sizes.now whole

abbrev tiers : After-intercontract_table-table → Prompts
tiers c = prompts_in c.args.count c.args.tiers.now c.args.nets.now

module _ (t : After-intercontract_table-table) (whole : List Record) (is : Is t.before.before.before.before whole) where
  tiered : TiersFrom (length (contracts_of whole)) (lines_for whole) (tiers t)
  tiered =
      tabled_tiers whole is.lawful t.args.figures.now t.args.tiers.now t.args.nets.now t.args.units.now
      t.args.prices.now t.args.sizes.now is.tabled _ is.count_is _ is.part t.intercontract_table-table.result
      t.intercontract_table-table.ensures

  -- the steps accept them
  accepted : sound (tiers t) t.intercontract_table-table.result ≡ true
  accepted =
      tabled_sound whole is.lawful t.args.figures.now t.args.tiers.now t.args.nets.now t.args.units.now
      t.args.prices.now t.args.sizes.now is.tabled _ is.count_is _ is.part t.intercontract_table-table.result
      t.intercontract_table-table.ensures

  over : TiersOver t.args.entries.now (tiers t) whole
  over = record { lawful = is.lawful; part = is.part; is = lined_tiers whole (all_for whole) is.tabled.lines (tiers t) tiered }

-- there is one
accepted-one : (t : After-intercontract_table-table) → sound (tiers t) t.intercontract_table-table.result ≡ true
accepted-one t = let x = t.requires.1 in accepted t x.whole x.is

-- the numbers that they formed
formed : (c : After-put_book) →
    (whole : List Record) → Is c.before.before.before.before.before.before.before.before.before whole → CreditedIn whole c.args.count c.args.entries.now c.args.units.now c.args.prices.now
    c.args.sizes.now c.put_book.new.first c.put_book.new.second c.args.figures.now
formed c whole is =
    let ends = c.put_book.new in
    tabled_formed whole is.lawful c.args.figures.now c.args.tiers.now c.args.nets.now c.args.units.now
    c.args.prices.now c.args.sizes.now is.tabled _ is.count_is _ is.part c.intercontract_table-table.result
    c.intercontract_table-table.ensures ends.first ends.second ends.used ends.unused c.put_book.ensures

pub lend_unspread-requires : goal.lend_unspread-requires
lend_unspread-requires c =
    let x = c.requires.1.is in
    (omega (arith, x.count_is, x.tabled.lines.few), x.tabled.nets_places)

pub returns-then-entries-lt-RECORD_BYTES : goal.returns-then-entries-lt-RECORD_BYTES
returns-then-entries-lt-RECORD_BYTES c =
    let bytes = c.args.entries.now in
    let no-records : length bytes / record_bytes ≡ 0 = omega (arith, c.if-entries-lt-RECORD_BYTES.true) in
    λ whole is.
    let none = sym is.part.are ∙ ap (λ (n : ℕ). cut n bytes) no-records in
    record {
      figures-after = is.uncredited none;
      book =
          c.lend_unspread.ensures whole
          (record { lawful = is.lawful; none = none; nets_are = tabled_nets whole _ _ _ _ _ _ is.tabled _ is.count_is });
      paid = lent_same longest_uses table_question (after_over whole (Uses table_question)) _ (no_uses whole none);
    }

pub intercontract_table-table-requires : goal.intercontract_table-table-requires
intercontract_table-table-requires c =
    let x = c.requires.1 in
    let e = c.args.entries.now in
    omega (arith, (entries_fit x.whole x.is.lawful e x.is.part).few, count_is e)

pub put_book-requires : goal.put_book-requires
put_book-requires c =
    (accepted-one (goal.at.put_book-requires c).After-intercontract_table-table, ((refl, refl), (refl, refl)))

pub put_formed-requires : goal.put_formed-requires
put_formed-requires c =
    let x = c.requires.1 in
    (record { whole = x.whole; is = formed (goal.at.put_formed-requires c).After-put_book x.whole x.is }, c.requires.0)

pub lend_table_book-requires : goal.lend_table_book-requires
lend_table_book-requires c =
    let i = c.requires.1.is.tabled in
    (accepted-one (goal.at.lend_table_book-requires c).After-intercontract_table-table, ((i.tiers_places, i.nets_places), c.put_book.ensures))

pub lend_table_uses-requires : goal.lend_table_uses-requires
lend_table_uses-requires c =
    let x = c.requires.1 in
    record { whole = x.whole; over = over (goal.at.lend_table_uses-requires c).After-intercontract_table-table x.whole x.is }

pub returns : goal.returns
returns c =
    λ whole is.
    record {
      figures-after = c.put_formed.ensures whole (formed (goal.at.returns c).After-put_book whole is);
      book =
          c.lend_table_book.ensures whole
          (run_book whole is.lawful (all_for whole) is.tabled.lines _ is.part (tiers (goal.at.returns c).After-intercontract_table-table) c.intercontract_table-table.result (tiered (goal.at.returns c).After-intercontract_table-table whole is)
          c.intercontract_table-table.ensures);
      paid = c.lend_table_uses.ensures whole (over (goal.at.returns c).After-intercontract_table-table whole is) is.records_are;
    }
