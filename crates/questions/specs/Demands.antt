-- The three demands, as claims about the definitions, each under its words; proofs/Demands.antt proves them of any bytes. The code
-- meets them where `check` (account), `answer` (src/plain.rt) and `held_answer` (src/held.rt) promise these definitions.
-- Assumes nothing.
use Rattle.std.specs.Prelude.{ℕ, ◌≤◌, ◌<◌, ◌≡◌, true, false, List, [], ◌∷◌, ◌++◌, map, ℤ, pos, length, drop, Ok}
use Rattle.account.specs.Answers.{number_of, record_of}
use Rattle.record.specs.Layout.{Record, most_contract}
use Rattle.account.specs.Checked.{checked}
use Rattle.exact.specs.Iff.{Iff}
use Rattle.account.specs.Claims.{Claims}
use Rattle.account.specs.Orders.{Later}
use Rattle.account.specs.Parts.{prompts_of, entries_of}
use Rattle.account.specs.Records.{records, record_count}
use Rattle.account.specs.Answers.{Answer}
use Rattle.spread.specs.Demand.{Demand3, FirstWords}
use Rattle.spread.specs.Steps.{Open, Taker, numbers, used_of, unused_of}
use Rattle.spread.specs.Touches.{touches}
use Rattle.spread.specs.Uses.{uses_of, WhoPaid}
use Rattle.margin.specs.declared.asking.Question.{Question}
use Rattle.margin.specs.Books.{threes, answered, book, table_question}
use Rattle.formulas.specs.Contract.{contracts, parts_of, contract_net, as_tier, contract_steps, opens_of, table_steps}
use Rattle.margin.specs.Figures.{figures}
use Rattle.margin.specs.Questions.{numbers_for, answers, answer_over, afterwards}
use Rattle.margin.specs.Reckoned.{Reckoned, Printed}
use Rattle.margin.specs.Skipped.{NoneSkipped}
use Rattle.margin.specs.Uses.{uses}
use Rattle.questions.specs.Questions.{answer_to, after_to, figures_answer}

-- ---- 1. "Every input gets an answer: figures, or one refusal number with the record at fault. A refusal comes exactly when its
-- condition is the first in document 01's order to hold, and lent memory then stays untouched. .. no accepted line is skipped."

-- a question put to an account with so many numbers lent for its answer: "then 11, then 10", both naming the record count
pub record Asking (account : List Record) (question : Question) (lent : ℕ) : Type 0 where
  pub eleven : Iff (number_of (answer_over account question lent) ≡ 11) (answers account question ≡ false)
  pub ten : Iff (number_of (answer_over account question lent) ≡ 10)
      ((answers account question ≡ true) × (lent < length (numbers_for account question)))
  pub accepted : Iff (number_of (answer_over account question lent) ≡ 0)
      ((answers account question ≡ true) × (length (numbers_for account question) ≤ lent))
  pub named : 1 ≤ number_of (answer_over account question lent) → record_of (answer_over account question lent) ≡ length account

-- put to a file
pub record FileAsked (file : List ℕ) (question : Question) (lent : ℕ) : Type 0 where
  pub refused : (number_of (checked file) ≡ 0 → ⊥) → answer_to file question lent ≡ checked file
  pub eleven : Iff (number_of (answer_to file question lent) ≡ 11) ((checked file ≡ Ok tt) × (answers (records file) question ≡ false))
  pub ten : Iff (number_of (answer_to file question lent) ≡ 10)
      ((checked file ≡ Ok tt) × ((answers (records file) question ≡ true) × (lent < length (numbers_for (records file) question))))
  pub accepted : Iff (number_of (answer_to file question lent) ≡ 0)
      ((checked file ≡ Ok tt) × ((answers (records file) question ≡ true) × (length (numbers_for (records file) question) ≤ lent)))
  pub named : 10 ≤ number_of (answer_to file question lent) → number_of (answer_to file question lent) ≤ 11
      → record_of (answer_to file question lent) ≡ record_count file

-- the figures, which ask no question that could be another
pub record FiguresAsked (file : List ℕ) (lent : ℕ) : Type 0 where
  pub refused : (number_of (checked file) ≡ 0 → ⊥) → figures_answer file lent ≡ checked file
  pub ten : Iff (number_of (figures_answer file lent) ≡ 10) ((checked file ≡ Ok tt) × (lent < length (figures (records file))))
  pub accepted : Iff (number_of (figures_answer file lent) ≡ 0) ((checked file ≡ Ok tt) × (length (figures (records file)) ≤ lent))
  pub named : 10 ≤ number_of (figures_answer file lent) → number_of (figures_answer file lent) ≤ 11 → record_of (figures_answer file lent) ≡ record_count file

-- "lent memory then stays untouched"; "Success writes the answer at the front and nothing after it."
pub record Lent (a : Answer) (answer lent after : List ℤ) : Type 0 where
  pub untouched : (number_of a ≡ 0 → ⊥) → after ≡ lent
  pub written : number_of a ≡ 0 → after ≡ answer ++ drop (length answer) lent

pub record Demand1 (file : List ℕ) : Type 0 where
  -- 1 to 9, 14 and 15
  pub check : Claims file
  -- 10 and 11, of the figures, a book or who paid in it
  pub question : (question : Question) (lent : ℕ) → FileAsked file question lent
  pub figures : (lent : ℕ) → FiguresAsked file lent
  -- lent memory
  pub after : (question : Question) (lent : List ℤ)
      → Lent (answer_to file question (length lent)) (numbers_for (records file) question) lent (after_to file question lent)
  pub untouched : (a : Answer) (answer lent : List ℤ) → (number_of a ≡ 0 → ⊥) → afterwards a answer lent ≡ lent
  -- "no accepted line is skipped"
  pub skipped : checked file ≡ Ok tt → NoneSkipped (records file)

-- ---- 2. "Every figure equals SPAN as published .., under 01's rounding and tie rules": what is published is said by the definitions
-- of Scanning, Deltas, Charges, Pairs, Credit, Margin, Contract, Figures and Books; the reckoned examples fix them.

pub record Demand2 : Type 0 where
  pub reckoned : Reckoned
  pub printed : Printed
  -- "An empty file is an accepted account with total 0."
  pub empty_accepted : checked [] ≡ Ok tt
  pub empty_total : figures (records []) ≡ pos 0 ∷ []

-- ---- 3. "For each accepted account and each spread table"

-- a book holds what the steps form, use and leave, and how often they touch a prompt; its uses what each takes; and demand 3 holds of
-- these
pub record Holds (written taken nets : List ℤ) (ss : List (List Taker)) (ps : List Open) : Type 0 where
  pub writes : written ≡ (threes nets (used_of ss ps) (unused_of ss ps) ++ map pos (numbers ss ps)) ++ (pos (touches ss ps) ∷ [])
  pub takes : taken ≡ uses_of ss ps
  pub demand : Demand3 ss ps
  pub paid : WhoPaid ss ps

pub record Demanded (account : List Record) : Type 0 where
  pub interprompt : (c : ℕ) → answered account c ≡ true → (c ≡ table_question → ⊥)
      → Holds (book account c) (uses account c) (parts_of account c).nets (contract_steps (parts_of account c)) (opens_of (parts_of account c))
  -- interprompt ratios are whole: there the demand also holds in its first words
  pub first_words : (c : ℕ) → FirstWords (contract_steps (parts_of account c)) (opens_of (parts_of account c))
  pub intercontract : Holds (book account table_question) (uses account table_question) (map contract_net (contracts account))
      (table_steps (entries_of account)) (map as_tier (contracts account))
  -- "earlier dates": the prompts of a contract stand by their days
  pub dates : (c : ℕ) → c ≤ most_contract → Later (prompts_of c account)
