-- The table's place is written where all places are lent, and else none is.
-- Assumes nothing.
use mathlib.Core.Path.{refl, subst⁻¹}
use mathlib.Core.List.{List}
use Prim.Native.Nat.{◌*◌}
use native.Mathlib.Omega.{arith}
use Rattle.record.specs.Layout.{Record}
use Rattle.spread.specs.code.Lent.{prompts_in}
use Rattle.spread.specs.declared.Delta.{Delta}
use Rattle.formulas.specs.Bounds.{longest_uses}
use Rattle.margin.specs.Books.{table_question}
use Rattle.margin.specs.Questions.{after_over}
use Rattle.margin.specs.code.Beside.{TiersOver}
use Rattle.margin.specs.declared.asking.Question.TheVariants.{Uses}
use Rattle.margin.proofs.LentLaws.{lent_few, lent_enough}
use Rattle.margin.proofs.PlaceLaws.{put-place}
use Rattle.margin.proofs.everything.lend_table_uses.Goals as goal
use Rattle.margin.proofs.everything.lend_table_uses.Goals.{After-deltas_from}

-- the contracts as they are handed on
handed : (c : After-deltas_from) →
    (whole : List Record) → TiersOver c.args.entries.now (prompts_in c.args.count c.args.tiers.now c.args.nets.now) whole
    → TiersOver c.args.entries.now (record { count = c.args.count; tier = c.args.tiers.now; net = c.deltas_from.result }) whole
handed c whole =
    subst⁻¹ (λ (ds : List Delta). TiersOver c.args.entries.now (record { count = c.args.count; tier = c.args.tiers.now; net = ds }) whole)
    c.deltas_from.ensures

pub returns-then-out-lt-ALL_USES : goal.returns-then-out-lt-ALL_USES
returns-then-out-lt-ALL_USES c =
    let o = c.args.out.now in
    λ whole over n. lent_few longest_uses table_question (after_over whole (Uses table_question)) o (omega (arith, c.if-out-lt-ALL_USES.true))

pub table_asking-asking-requires : goal.table_asking-asking-requires
table_asking-asking-requires c =
    let x = c.requires in
    record { whole = x.whole; over = handed c x.whole x.over }

pub answer_uses-requires : goal.answer_uses-requires
answer_uses-requires c =
    let x = c.requires in
    (c.table_asking-asking.ensures x.whole (handed (goal.at.answer_uses-requires c).After-deltas_from x.whole x.over)).accepted

pub returns : goal.returns
returns c =
    let o = c.args.out.now in
    let r = c.answer_uses in
    λ whole over n.
    lent_enough longest_uses table_question (after_over whole (Uses table_question)) o _ (omega (arith, c.if-out-lt-ALL_USES.false))
    (put-place longest_uses (longest_uses * table_question) o r.new.out (after_over whole (Uses table_question))
    (r.ensures whole table_question
    (record {
      lawful = over.lawful;
      asked_is = refl;
      records_are = n;
      asks = c.table_asking-asking.ensures whole (handed (goal.at.returns c).After-deltas_from whole over);
    })).1)
