-- Everything that a pair of files is asked for: its refusal three times, or what the joined account answers.
-- Assumes nothing.
use mathlib.Core.Path.{◌≡◌, sym, ◌∙◌}
use mathlib.Core.Bool.{true, false}
use Rattle.account.proofs.AcceptedOnly.{err_some, err_none}
use Rattle.account.specs.Answers.{number_of}
use Rattle.margin.specs.declared.asking.Question.TheVariants.{Figures}
use Rattle.questions.proofs.NoonLaws.{pair_stands, answer_refused, answer_accepted, all_refused, all_accepted}
use Rattle.questions.proofs.noon.ask_all.Goals as goal
use Rattle.questions.proofs.noon.ask_all.Goals.{Else-is_err}

-- nothing is refused
clear : (c : Else-is_err) → number_of c.check_pair-checked.result.verdict.answer ≡ 0
clear c = err_none _ (sym c.is_err.ensures.value ∙ c.if-is_err.false)

pub returns-then-is_err : goal.returns-then-is_err
returns-then-is_err c =
    let m = c.args.morning.now in
    let n = c.args.noon.now in
    let k = c.check_pair-checked in
    let f = answer_refused m n k.result k.ensures (err_some _ (sym c.is_err.ensures.value ∙ c.if-is_err.true)) Figures c.args.figures.now in
    let b = all_refused m n k.result k.ensures (err_some _ (sym c.is_err.ensures.value ∙ c.if-is_err.true)) false c.args.books.now in
    let u = all_refused m n k.result k.ensures (err_some _ (sym c.is_err.ensures.value ∙ c.if-is_err.true)) true c.args.uses.now in
    record { figures_answer_lem = f.0; figures-after = f.1; books_answer_lem = b.0; books_after_lem = b.1; uses_answer_lem = u.0; uses-after = u.1 }

pub everything_over-all-requires : goal.everything_over-all-requires
everything_over-all-requires c =
    let k = c.check_pair-checked in
    pair_stands c.args.morning.now c.args.noon.now k.result k.ensures (clear (goal.at.everything_over-all-requires c).Else-is_err)

pub returns : goal.returns
returns c =
    let m = c.args.morning.now in
    let n = c.args.noon.now in
    let k = c.check_pair-checked in
    let z = clear (goal.at.returns c).Else-is_err in
    let r = c.everything_over-all in
    let x = r.ensures in
    let f = answer_accepted m n k.result k.ensures z Figures c.args.figures.now _ r.result.figures
    c.of_joined.result c.of_joined.ensures (x.figures_answer_lem, x.lent.figures-after) in
    let b = all_accepted m n k.result k.ensures z false c.args.books.now _ r.result.books c.of_joined-2.result
    c.of_joined-2.ensures (x.books_answer_lem, x.lent.books_after_lem) in
    let u = all_accepted m n k.result k.ensures z true c.args.uses.now _ r.result.uses c.of_joined-3.result c.of_joined-3.ensures
    (x.uses_answer_lem, x.lent.uses-after) in
    record { figures_answer_lem = f.0; figures-after = f.1; books_answer_lem = b.0; books_after_lem = b.1; uses_answer_lem = u.0; uses-after = u.1 }
