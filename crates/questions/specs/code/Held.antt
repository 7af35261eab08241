-- "One accepted file is held while several questions are put to it, without checking it again; only the check hands out
-- such a held file, and that it came from there is the one thing a question may rest on."
-- Assumes nothing.
use Rattle.std.specs.Prelude.{◌≡◌, List, ℕ, ℤ, length, true, false}
use Rattle.account.specs.code.Standing.{CheckedBy}
use Rattle.questions.specs.declared.held.Asked.{Asked}
use Rattle.questions.specs.declared.held.Held.{Held}
use Rattle.questions.specs.Questions.{figures_answer, after_figures, books_answer, books_after, all_uses_answer, all_uses_after}
use Rattle.questions.specs.declared.noon.AskedPair.{AskedPair}
use Rattle.questions.specs.Noon.{joined_figures, after_joined_figures, joined_all, after_joined_all}

-- what the view carries is what the check hands out of the bytes it views
abbrev pub FromCheck : Held → Type 0
FromCheck h = CheckedBy h.file.now h.checked

-- a file asked for everything: three answers, and the three lent memories afterwards
pub record AllAnswered (file : List ℕ) (figures books uses : List ℤ) (r : Asked) (figures' books' uses' : List ℤ) : Type 0 where
  pub figures_answer_lem : r.figures ≡ figures_answer file (length figures)
  pub figures-after : figures' ≡ after_figures file figures
  pub books_answer_lem : r.books ≡ books_answer file (length books)
  pub books_after_lem : books' ≡ books_after file books
  pub uses_answer_lem : r.uses ≡ all_uses_answer file (length uses)
  pub uses-after : uses' ≡ all_uses_after file uses

-- a pair of files asked for everything: three verdicts, and the three lent memories afterwards
pub record PairAllAnswered (morning noon : List ℕ) (figures books uses : List ℤ) (r : AskedPair) (figures' books' uses' : List ℤ) : Type 0 where
  pub figures_answer_lem : r.figures ≡ joined_figures morning noon (length figures)
  pub figures-after : figures' ≡ after_joined_figures morning noon figures
  pub books_answer_lem : r.books ≡ joined_all false morning noon (length books)
  pub books_after_lem : books' ≡ after_joined_all false morning noon books
  pub uses_answer_lem : r.uses ≡ joined_all true morning noon (length uses)
  pub uses-after : uses' ≡ after_joined_all true morning noon uses
