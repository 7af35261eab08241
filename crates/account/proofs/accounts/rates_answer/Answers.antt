-- The file's own account where a row is in another currency: no noon file supplies anything.
-- Assumes nothing.
use mathlib.Core.Path.{refl, ◌∙◌}
use Rattle.account.proofs.Alone.{few_listed, no_rates_asked, rated_alone, rates_alone}
use Rattle.account.proofs.accounts.rates_answer.Goals as goal

pub in_one_file-account-requires : goal.in_one_file-account-requires
in_one_file-account-requires c =
    few_listed c.args.file.now c.args.contracts c.args.first.now c.args.counts.now c.requires

pub conversions_answer-requires : goal.conversions_answer-requires
conversions_answer-requires c =
    rated_alone c.args.file.now c.args.contracts c.args.first.now c.args.counts.now c.requires
    c.record_count.result c.in_one_file-account.result c.record_count.ensures c.in_one_file-account.ensures _ refl

pub returns-then-converts : goal.returns-then-converts
returns-then-converts c =
    c.conversions_answer.ensures
    ∙ rates_alone c.args.file.now c.args.contracts c.args.first.now c.args.counts.now c.requires
    c.record_count.result c.in_one_file-account.result c.record_count.ensures c.in_one_file-account.ensures _ refl

pub returns : goal.returns
returns c =
    no_rates_asked c.args.file.now c.args.contracts c.args.first.now c.args.counts.now c.requires
    c.if-converts.false
