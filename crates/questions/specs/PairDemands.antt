-- Demand 1 over a pair of files, after request 2026-01, as claims about the definitions of Noon.antt; proofs/PairDemands.antt proves them
-- of any bytes. Demands 2 and 3 over the joined account are those of Demands.antt, which speak of any account.
-- Assumes nothing.
use Rattle.std.specs.Prelude.{ℕ, ◌≤◌, ◌<◌, ◌≡◌, true, false, ◌||◌, List, ℤ, pos, nat_abs, length}
use Rattle.account.specs.Answers.{number_of, record_of}
use Rattle.exact.specs.Iff.{Iff}
use Rattle.account.specs.Noon.{clear, joined_verdict}
use Rattle.account.specs.PairClaims.{PairClaims}
use Rattle.account.specs.Joined.{account_of}
use Rattle.account.specs.declared.noon.Verdict.{Verdict}
use Rattle.margin.specs.declared.asking.Question.{Question}
use Rattle.margin.specs.Figures.{figures}
use Rattle.margin.specs.Questions.{numbers_for, answers}
use Rattle.questions.specs.Demands.{Lent}
use Rattle.questions.specs.Noon.{joined_answer, joined_figures, after_joined, requirement, cover_call, most_amount, beyond_amount, call_verdict, joined_call}

-- a refusal of the joined account, "naming the joined record count"
pub record NamesAll (morning noon : List ℕ) (v : Verdict) : Type 0 where
  pub of : v.file ≡ 0
  pub place : record_of v.answer ≡ length (account_of morning noon)

-- "11 and 10 as in 01": a question with so many numbers lent for its answer
pub record PairQuestion (morning noon : List ℕ) (question : Question) (lent : ℕ) : Type 0 where
  pub refused : clear (joined_verdict morning noon) ≡ false → joined_answer morning noon question lent ≡ joined_verdict morning noon
  pub eleven : Iff (number_of (joined_answer morning noon question lent).answer ≡ 11)
      ((clear (joined_verdict morning noon) ≡ true) × (answers (account_of morning noon) question ≡ false))
  pub ten : Iff (number_of (joined_answer morning noon question lent).answer ≡ 10)
      ((clear (joined_verdict morning noon) ≡ true)
      × ((answers (account_of morning noon) question ≡ true) × (lent < length (numbers_for (account_of morning noon) question))))
  pub accepted : Iff (number_of (joined_answer morning noon question lent).answer ≡ 0)
      ((clear (joined_verdict morning noon) ≡ true)
      × ((answers (account_of morning noon) question ≡ true) × (length (numbers_for (account_of morning noon) question) ≤ lent)))
  pub named : clear (joined_verdict morning noon) ≡ true → 1 ≤ number_of (joined_answer morning noon question lent).answer
      → NamesAll morning noon (joined_answer morning noon question lent)

-- the figures ask no question that could be another
pub record PairFigures (morning noon : List ℕ) (lent : ℕ) : Type 0 where
  pub refused : clear (joined_verdict morning noon) ≡ false → joined_figures morning noon lent ≡ joined_verdict morning noon
  pub ten : Iff (number_of (joined_figures morning noon lent).answer ≡ 10)
      ((clear (joined_verdict morning noon) ≡ true) × (lent < length (figures (account_of morning noon))))
  pub accepted : Iff (number_of (joined_figures morning noon lent).answer ≡ 0)
      ((clear (joined_verdict morning noon) ≡ true) × (length (figures (account_of morning noon)) ≤ lent))
  pub named : clear (joined_verdict morning noon) ≡ true → 1 ≤ number_of (joined_figures morning noon lent).answer
      → NamesAll morning noon (joined_figures morning noon lent)

-- "The three amounts, in hundredths, are 0..1,000,000,000,000,000."
pub record InRange (z : ℤ) : Type 0 where
  pub size : ℕ
  pub is : z ≡ pos size
  pub most : size ≤ most_amount

-- "21, an amount outside its range"
pub record PairCall (morning noon : List ℕ) (last threshold collateral : ℤ) : Type 0 where
  pub refused : clear (joined_verdict morning noon) ≡ false → call_verdict morning noon last threshold collateral ≡ joined_verdict morning noon
  pub twenty_one : Iff (number_of (call_verdict morning noon last threshold collateral).answer ≡ 21)
      ((clear (joined_verdict morning noon) ≡ true) × ((beyond_amount last || beyond_amount threshold) || beyond_amount collateral ≡ true))
  pub accepted : Iff (number_of (call_verdict morning noon last threshold collateral).answer ≡ 0)
      ((clear (joined_verdict morning noon) ≡ true) × ((beyond_amount last || beyond_amount threshold) || beyond_amount collateral ≡ false))
  pub named : clear (joined_verdict morning noon) ≡ true → 1 ≤ number_of (call_verdict morning noon last threshold collateral).answer
      → NamesAll morning noon (call_verdict morning noon last threshold collateral)
  -- a refusal calls for nothing
  pub nothing : (number_of (call_verdict morning noon last threshold collateral).answer ≡ 0 → ⊥)
      → (joined_call morning noon last threshold collateral).amount.0 ≡ 0
  pub called : number_of (call_verdict morning noon last threshold collateral).answer ≡ 0
      → (joined_call morning noon last threshold collateral).amount.0
      ≡ cover_call (requirement (account_of morning noon)) (nat_abs last) (nat_abs threshold) (nat_abs collateral)

pub record PairDemand1 (morning noon : List ℕ) : Type 0 where
  -- 1 to 9 of each file, 12 and 13
  pub check : PairClaims morning noon
  -- 21
  pub call : (last threshold collateral : ℤ) → PairCall morning noon last threshold collateral
  pub amounts : (z : ℤ) → Iff (beyond_amount z ≡ false) (InRange z)
  -- 11 and 10, of the figures, a book or who paid in it
  pub question : (question : Question) (lent : ℕ) → PairQuestion morning noon question lent
  pub figures : (lent : ℕ) → PairFigures morning noon lent
  -- lent memory
  pub after : (question : Question) (lent : List ℤ)
      → Lent (joined_answer morning noon question (length lent)).answer (numbers_for (account_of morning noon) question) lent
      (after_joined morning noon question lent)
