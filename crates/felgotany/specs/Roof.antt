-- All that is promised, under one roof: the three demands over one file and over a pair of files, the table of reckoned examples, the
-- exactness of the check, that no accepted line is skipped, that nothing still open could have been paired, how often a prompt is
-- touched, the table of paired scenarios, what holds of a run of accounts, of the committee's figures of it, of tickets, of a file of
-- entries and of the order screen's calls, and that no promise leaves a choice. proofs/Roof.antt proves it of any bytes.
-- Assumes nothing.
use Rattle.std.specs.Prelude.{ℕ, ◌≡◌, Bool, true, List, ℤ, length, Result, Ok}
use Rattle.std.specs.Borrow.{Bor}
use Rattle.exact.specs.Fractions.{Fractions}
use Rattle.exact.specs.Largest.{IsLargest}
use Rattle.exact.specs.Units.{Units}
use Rattle.exact.specs.declared.largest.NumberedTotal.{NumberedTotal as Largest}
use Rattle.record.specs.Layout.{Record}
use Rattle.spread.specs.code.Book.{Booked, CountedBook}
use Rattle.spread.specs.code.Step.{Stepped}
use Rattle.spread.specs.declared.Prompts.{Prompts}
use Rattle.spread.specs.declared.Spread.{Spread}
use Rattle.spread.specs.declared.Table.{Table}
use Rattle.spread.specs.declared.book.Book.{Book}
use Rattle.spread.specs.declared.stepwise.Step.{Step}
use Rattle.spread.specs.declared.touches.Counted.{Counted}
use Rattle.account.specs.Checked.{checked}
use Rattle.account.specs.Claims.{Claims}
use Rattle.account.specs.code.Determined.{Determined}
use Rattle.account.specs.Noon.{clear, of_joined, ◌then◌, joined_verdict}
use Rattle.account.specs.PairClaims.{PairClaims}
use Rattle.account.specs.code.Rates.{RatesOf}
use Rattle.account.specs.Records.{records, record_count}
use Rattle.account.specs.Joined.{account_of}
use Rattle.account.specs.Answers.{Answer}
use Rattle.account.specs.declared.noon.Place.{Place}
use Rattle.account.specs.declared.noon.Verdict.{Verdict}
use Rattle.account.specs.declared.rates.Rates.{Rates}
use Rattle.questions.specs.Demands.{Demand1, Demand2, Demanded}
use Rattle.questions.specs.code.Held.{FromCheck}
use Rattle.questions.specs.Noon.{joined_answer, joined_need, after_joined, joined_all, after_joined_all}
use Rattle.questions.specs.PairDemands.{PairDemand1}
use Rattle.lists.specs.Claims as lists
use Rattle.lists.specs.declared.JudgedPair.{JudgedPair}
use Rattle.questions.specs.Questions.{answer_to, after_to, need_to, all_to, after_all_to, Needed}
use Rattle.formulas.specs.Pairs.{PairTable}
use Rattle.margin.specs.Places.{EachPlace, question_of, width_of}
use Rattle.margin.specs.Questions.{if_accepted, asked}
use Rattle.margin.specs.Reckoned.{Reckoned, Printed}
use Rattle.margin.specs.Skipped.{NoneSkipped}
use Rattle.margin.specs.Touched.{TouchesCounted}
use Rattle.margin.specs.Unpaired.{NothingOpen}
use Rattle.account.specs.declared.answers.Refusal.{Refusal}
use Rattle.formulas.specs.declared.amount.Amount.{Amount}
use Rattle.margin.specs.declared.lists.Judged.{Judged}
use Rattle.margin.specs.declared.asking.Question.{Question}
use Rattle.questions.specs.declared.held.Asked.{Asked}
use Rattle.questions.specs.declared.held.Held.{Held}
use Rattle.questions.specs.declared.noon.AskedPair.{AskedPair}
use Rattle.questions.specs.declared.noon.Call.{Call}
use Rattle.runs.specs.Claims.{Claims as RunClaims}
use Rattle.committee.specs.Claims.{Claims as CommitteeClaims}
use Rattle.statements.specs.Apart.{CanBeMet, NotTheMargin}
use Rattle.statements.specs.Statements.{Statements}
use Rattle.tickets.specs.Claims.{Claims as TicketClaims}
use Rattle.tickets.specs.code.KeptClaims.{KeptClaims}
use Rattle.tickets.specs.declared.ask.Asked.{Asked as AskedTicket}
use Rattle.writing.specs.Claims.{Claims as WritingClaims}
use Rattle.screen.specs.Claims.{Claims as ScreenClaims}
use Rattle.screen.specs.declared.Limited.{Limited}
use Rattle.felgotany.specs.code.Outcomes.{TellsAdded, TellsTotal, TellsLimit, TellsAsked, TellsWritten, Tells, TellsOf, TellsCall, TellsPlace, TellsList}
use Rattle.felgotany.specs.code.Outcomes.{TellsPairList}
use Rattle.felgotany.specs.declared.AddOutcome.{AddOutcome}
use Rattle.felgotany.specs.declared.LimitOutcome.{LimitOutcome}
use Rattle.felgotany.specs.declared.TicketOutcome.{TicketOutcome}
use Rattle.felgotany.specs.declared.TotalOutcome.{TotalOutcome}
use Rattle.felgotany.specs.declared.WriteOutcome.{WriteOutcome}
use Rattle.felgotany.specs.declared.CallOutcome.{CallOutcome}
use Rattle.felgotany.specs.declared.ListOutcome.{ListOutcome}
use Rattle.felgotany.specs.declared.Outcome.{Outcome}
use Rattle.felgotany.specs.declared.Outcomes.{Outcomes}
use Rattle.felgotany.specs.declared.PairListOutcome.{PairListOutcome}
use Rattle.felgotany.specs.declared.PairOutcome.{PairOutcome}
use Rattle.felgotany.specs.declared.PairOutcomes.{PairOutcomes}
use Rattle.felgotany.specs.declared.PromptPlace.{PromptPlace}

-- ---- one file

pub record OneFile (file : List ℕ) : Type 0 where
  -- "Every input gets an answer ..", with the exactness of the check, and lent memory
  pub demand1 : Demand1 file
  -- "each refusal is given exactly when": the table of document 01
  pub exact : Claims file
  -- "For each accepted account and each spread table"
  pub demand3 : checked file ≡ Ok tt → Demanded (records file)
  pub skipped : checked file ≡ Ok tt → NoneSkipped (records file)
  pub unpaired : checked file ≡ Ok tt → NothingOpen (records file)
  -- 2026-11: the number at the end of each delta book is the count of the takes, and within its bound
  pub touched : checked file ≡ Ok tt → TouchesCounted (records file)
  -- as many numbers as a question needs are enough, and fewer are 10
  pub needed : (question : Question)
      → Needed (if_accepted (checked file) (asked (records file) question)) (record_count file) (answer_to file question) (need_to file question)
  -- all questions at once: in the place of each stands what it writes there by itself
  pub places : (paid : Bool) (lent : List ℤ) → all_to paid file (length lent) ≡ Ok tt
      → EachPlace (width_of paid) (λ q. after_to file (question_of paid q)) lent (after_all_to paid file lent)

-- ---- a pair of files, request 2026-01

pub record TwoFiles (morning noon : List ℕ) : Type 0 where
  pub demand1 : PairDemand1 morning noon
  pub exact : PairClaims morning noon
  -- "Demands 2 and 3 read over the joined account"
  pub demand3 : clear (joined_verdict morning noon) ≡ true → Demanded (account_of morning noon)
  pub skipped : clear (joined_verdict morning noon) ≡ true → NoneSkipped (account_of morning noon)
  pub unpaired : clear (joined_verdict morning noon) ≡ true → NothingOpen (account_of morning noon)
  pub touched : clear (joined_verdict morning noon) ≡ true → TouchesCounted (account_of morning noon)
  pub needed : (question : Question)
      → Needed (joined_verdict morning noon then of_joined (asked (account_of morning noon) question)).answer (length (account_of morning noon))
      (λ lent. (joined_answer morning noon question lent).answer) (joined_need morning noon question)
  pub places : (paid : Bool) (lent : List ℤ) → joined_all paid morning noon (length lent) ≡ of_joined (Ok tt)
      → EachPlace (width_of paid) (λ q. after_joined morning noon (question_of paid q)) lent (after_joined_all paid morning noon lent)

-- ---- a list of spreads that others send, request 2026-10

pub record SentLists : Type 0 where
  pub one_file : (file : List ℕ) (question sent : ℕ) (xs us : List ℤ) → lists.Claims file question sent xs us
  pub two_files : (morning noon : List ℕ) (question sent : ℕ) (xs us : List ℤ) → lists.PairClaims morning noon question sent xs us

-- ---- "Two outcomes satisfying it are shown identical"

-- a promise that is an equation for the result, with one for the lent numbers where some are lent
pub record Equations : Type 1 where
  pub result : {A : Type 0} (x r s : A) → r ≡ x → s ≡ x → r ≡ s
  pub outcome : {A B : Type 0} (x r s : A) (y after after' : B) → (r ≡ x) × (after ≡ y) → (s ≡ x) × (after' ≡ y) → (r ≡ s) × (after ≡ after')

-- promises that are records of equations
pub record OneOutcome : Type 0 where
  -- numbers
  pub largest : (totals : List ℤ) (r s : Largest) → IsLargest totals r.value r.number → IsLargest totals s.value s.number → r ≡ s
  -- the spread steps
  pub booked : (p : Prompts) (t : Table) (r s : Book) → Booked p t r → Booked p t s → r ≡ s
  pub counted : (p : Prompts) (t : Table) (r s : Counted) → CountedBook p t r → CountedBook p t s → r ≡ s
  pub stepped : (p : Prompts) (s : Spread) (second : Bool) (r q : Step) → Stepped p s second r → Stepped p s second q → r ≡ q
  -- the check, of one file and of two
  pub check : Determined
  -- the table of rates
  pub table : (rates : List Record) (r s : Rates) → RatesOf rates r → RatesOf rates s → r ≡ s
  -- the held file
  pub view : (file : Bor (List ℕ)) (h k : Held) → (h.file ≡ file) × FromCheck h → (k.file ≡ file) × FromCheck k → h ≡ k
  pub asked : (a b c : Answer) (r s : Asked) → (r.figures ≡ a) × ((r.books ≡ b) × (r.uses ≡ c))
      → (s.figures ≡ a) × ((s.books ≡ b) × (s.uses ≡ c)) → r ≡ s
  pub asked_of_pair : (a b c : Verdict) (r s : AskedPair) → (r.figures ≡ a) × ((r.books ≡ b) × (r.uses ≡ c))
      → (s.figures ≡ a) × ((s.books ≡ b) × (s.uses ≡ c)) → r ≡ s
  -- what C is told
  pub told : (a : Answer) (r s : Outcome) → Tells a r → Tells a s → r ≡ s
  pub all_told_lem : (a b c : Answer) (r s : Outcomes) → Tells a r.figures × (Tells b r.books × Tells c r.uses)
      → Tells a s.figures × (Tells b s.books × Tells c s.uses) → r ≡ s
  pub told_of : (v : Verdict) (r s : PairOutcome) → TellsOf v r → TellsOf v s → r ≡ s
  pub all_told_of : (a b c : Verdict) (r s : PairOutcomes) → TellsOf a r.figures × (TellsOf b r.books × TellsOf c r.uses)
      → TellsOf a s.figures × (TellsOf b s.books × TellsOf c s.uses) → r ≡ s
  pub called : (c : Call) (r s : CallOutcome) → TellsCall c r → TellsCall c s → r ≡ s
  pub placed : (p : Place) (r s : PromptPlace) → TellsPlace p r → TellsPlace p s → r ≡ s
  pub list_told : (j : Result Judged Refusal) (r s : ListOutcome) → TellsList j r → TellsList j s → r ≡ s
  pub ticket_told : (a : AskedTicket) (r s : TicketOutcome) → TellsAsked a r → TellsAsked a s → r ≡ s
  pub write_told : (entries lent after : List ℕ) (r s : WriteOutcome)
      → TellsWritten entries lent r after → TellsWritten entries lent s after → r ≡ s
  pub add_told : (a : Result ℕ Refusal) (r s : AddOutcome) → TellsAdded a r → TellsAdded a s → r ≡ s
  pub total_told : (t : Result Amount Refusal) (r s : TotalOutcome) → TellsTotal t r → TellsTotal t s → r ≡ s
  pub limit_told : (l : Result Limited Refusal) (r s : LimitOutcome) → TellsLimit l r → TellsLimit l s → r ≡ s
  pub pair_list_told : (j : JudgedPair) (r s : PairListOutcome) → TellsPairList j r → TellsPairList j s → r ≡ s

-- ---- all of it

pub record Roof : Type 1 where
  pub one_file : (file : List ℕ) → OneFile file
  pub two_files : (morning noon : List ℕ) → TwoFiles morning noon
  -- "Take a run of accounts, each with its length", requests 2026-08 and 2026-12
  pub run : (bytes lengths : List ℕ) (figures : List ℤ) (outcomes : List ℕ) → RunClaims bytes lengths figures outcomes
  pub committee : (bytes lengths : List ℕ) (lent : List ℤ) → CommitteeClaims bytes lengths lent
  pub sent_lists : SentLists
  -- "The figures equal those of the file with that row put last among its contract's rows", request 2026-07
  pub ticket : (file : List ℕ) (ticket : Record) → TicketClaims file ticket
  pub kept : KeptClaims
  -- "From entered contracts, prompts, rows, spreads and currency rates, write the account file", request 2026-06
  pub writing : WritingClaims
  -- "The screen lends bytes, says how many hold the account file with its tickets", request 2026-14
  pub screen : (lent : List ℕ) (named : ℕ) (ticket : Record) (limit : ℤ) → ScreenClaims lent named ticket limit
  -- "Every figure equals SPAN as published", and P1 to P10 "as a single table under one claim"
  pub demand2 : Demand2
  pub reckoned : Reckoned
  pub printed : Printed
  pub pair_table : PairTable
  -- 2026-05: "rounded to a hundredth, halves away from zero", for every rate
  pub fractions : Fractions
  -- 2026-09: "The rounding is to be proved once for all units."
  pub units : Units
  -- 2026-13: "Two things clients ask us to state."
  pub statements : Statements
  pub can_be_met : CanBeMet
  pub not_the_margin : NotTheMargin
  pub equations : Equations
  pub one_outcome : OneOutcome
