-- What everything asked at once leaves in lent memory, contract by contract.
-- Assumes nothing.
use Rattle.std.specs.Prelude.{ℕ, ◌*◌, ◌≡◌, true, false, cond, List, [], ltb, ℤ, length, get_or, Ok, Err}
use Rattle.std.proofs.lemmas.List.Edits.{sets}
use Rattle.record.specs.Layout.{Record, contract}
use Rattle.account.specs.Lawful.{Lawful}
use Rattle.account.specs.PartNumbers.{entry_part}
use Rattle.account.specs.Parts.{contracts_of, entries_of}
use Rattle.account.specs.code.Standing.{PartOf}
use Rattle.account.specs.Answers.{Answer}
use Rattle.account.specs.declared.answers.Refusal.TheVariants.{TooFewNumbers}
use Rattle.margin.specs.declared.everything.Everything.{Everything}
use Rattle.margin.specs.declared.asking.Question.TheVariants.{Figures, Book, Uses}
use Rattle.formulas.specs.declared.line.Line.{Line}
use Rattle.margin.specs.Books.{table_question}
use Rattle.margin.specs.Figures as shown
use Rattle.formulas.specs.Bounds.{longest_book, longest_uses}
use Rattle.formulas.specs.Contract.{parts_in}
use Rattle.formulas.specs.code.Promised.{LineOf}
use Rattle.margin.specs.Questions.{answer_over, after_over}
use Rattle.margin.specs.code.Tabled.{TabledIn, TabledOver}
use Rattle.margin.specs.Places.{questions, lent_place, lent_each, all_over, after_all_over}

-- the line of the i-th contract, and its book and its uses in their places
pub record ContractLent (account : List Record) (i : ℕ) (l : Line) (books uses books' uses' : List ℤ) : Type 0 where
  pub line : LineOf (parts_in account (get_or (contracts_of account) i [])) l
  pub book :
      let c = contract (get_or (contracts_of account) i []) in
      books' ≡ lent_place longest_book c (after_over account (Book c)) books
  pub paid :
      let c = contract (get_or (contracts_of account) i []) in
      uses' ≡ lent_place longest_uses c (after_over account (Uses c)) uses

-- what a walk over the contracts leaves: their lines from the front and the total behind them, which without intercontract spreads are the figures; what
-- the intercontract table needs of them; and their books and uses in their places
pub record ContractsWalked (account : List Record) (figures books uses figures' books' uses' : List ℤ) (tiers' : List ℕ) (nets' : List ℤ)
    (units' prices' sizes' : List ℕ) : Type 0 where
  pub table : TabledOver account figures figures' tiers' nets' units' prices' sizes'
  pub uncredited : entries_of account ≡ [] → figures' ≡ sets figures 0 (shown.figures account)
  pub book : books' ≡ lent_each longest_book (λ q. after_over account (Book q)) table_question books
  pub paid : uses' ≡ lent_each longest_uses (λ q. after_over account (Uses q)) table_question uses

-- an account of so many contracts and records with these intercontract spreads, over whose contracts such a walk has gone
pub record TabledBy (entries : List ℕ) (count records : ℕ) (figures : List ℤ) (tiers : List ℕ) (nets : List ℤ) (units prices sizes : List ℕ)
    (whole : List Record) : Type 0 where
  pub lawful : Lawful whole
  pub count_is : count ≡ length (contracts_of whole)
  pub records_are : records ≡ length whole
  pub part : PartOf whole entry_part entries
  pub tabled : TabledIn whole figures tiers nets units prices sizes
  pub uncredited : entries_of whole ≡ [] → figures ≡ sets figures 0 (shown.figures whole)

-- there is one
pub record TabledKnown (entries : List ℕ) (count records : ℕ) (figures : List ℤ) (tiers : List ℕ) (nets : List ℤ) (units prices sizes : List ℕ) : Type 0 where
  pub whole : List Record
  pub is : TabledBy entries count records figures tiers nets units prices sizes whole

-- the figures, and the book and uses of the intercontract table in their places
pub record TableLent (account : List Record) (figures books uses figures' books' uses' : List ℤ) : Type 0 where
  pub figures-after : figures' ≡ sets figures 0 (shown.figures account)
  pub book : books' ≡ lent_place longest_book table_question (after_over account (Book table_question)) books
  pub paid : uses' ≡ lent_place longest_uses table_question (after_over account (Uses table_question)) uses

-- what is answered where so many numbers are needed and so many lent
abbrev pub lent_answer : ℕ → ℕ → ℕ → Answer
lent_answer records needed lent = cond (ltb lent needed) (Err (TooFewNumbers records)) (Ok tt)

-- and everything, where so many are needed for the figures
pub record LentAnswers (records needed figures books uses : ℕ) (r : Everything) : Type 0 where
  pub of_figures : r.figures ≡ lent_answer records needed figures
  pub of_books : r.books ≡ lent_answer records (longest_book * questions) books
  pub of_uses : r.uses ≡ lent_answer records (longest_uses * questions) uses

-- the figures, and the books and uses of all questions, in lent memory
pub record EverythingLent (account : List Record) (figures books uses figures' books' uses' : List ℤ) : Type 0 where
  pub figures-after : figures' ≡ after_over account Figures figures
  pub books_after_lem : books' ≡ after_all_over false account books
  pub uses-after : uses' ≡ after_all_over true account uses

-- and what is answered
pub record EverythingOf (account : List Record) (figures books uses : List ℤ) (r : Everything) (figures' books' uses' : List ℤ) : Type 0 where
  pub lent : EverythingLent account figures books uses figures' books' uses'
  pub figures_answer_lem : r.figures ≡ answer_over account Figures (length figures)
  pub books_answer_lem : r.books ≡ all_over false account (length books)
  pub uses_answer_lem : r.uses ≡ all_over true account (length uses)
