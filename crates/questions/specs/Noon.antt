-- Request 2026-01, "Noon against the morning": the questions over the joined account, and the call.
-- Assumes nothing.
use Rattle.std.specs.Prelude.{ℕ, ◌+◌, ◌-◌, Bool, ◌&&◌, ◌||◌, cond, List, ltb, ℤ, pos, nat_abs, length, Ok, Err}
use Rattle.std.specs.Int.Signed.{lt_z}
use Rattle.record.specs.Layout.{Record}
use Rattle.account.specs.Noon.{of_joined, clear, ◌then◌, joined_verdict}
use Rattle.account.specs.Joined.{account_of}
use Rattle.account.specs.Answers.{Answer}
use Rattle.account.specs.declared.answers.Refusal.TheVariants.{AmountOutside}
use Rattle.account.specs.declared.noon.Verdict.{Verdict}
use Rattle.questions.specs.declared.noon.Call.{Call}
use Rattle.margin.specs.declared.asking.Question.{Question}
use Rattle.margin.specs.declared.asking.Question.TheVariants.{Figures, Book, Uses}
use Rattle.margin.specs.Figures.{account_total}
use Rattle.margin.specs.Places.{all_over, after_all_over}
use Rattle.margin.specs.Questions.{numbers_for, answer_over, afterwards, need_over}

-- "Demands 2 and 3 read over the joined account"; "naming the joined record count, .. 11 and 10 as in 01"
abbrev pub joined_answer : List ℕ → List ℕ → Question → ℕ → Verdict
joined_answer morning noon question lent = joined_verdict morning noon then of_joined (answer_over (account_of morning noon) question lent)

-- the lent numbers afterwards
abbrev pub after_joined : List ℕ → List ℕ → Question → List ℤ → List ℤ
after_joined morning noon question lent =
    afterwards (joined_answer morning noon question (length lent)).answer (numbers_for (account_of morning noon) question) lent

-- how many numbers the answer has, 0 for a pair that is refused and where the question is not answered
abbrev pub joined_need : List ℕ → List ℕ → Question → ℕ
joined_need morning noon question = cond (clear (joined_verdict morning noon)) (need_over (account_of morning noon) question) 0

-- the questions by their names
abbrev pub joined_figures : List ℕ → List ℕ → ℕ → Verdict
joined_figures morning noon = joined_answer morning noon Figures

abbrev pub after_joined_figures : List ℕ → List ℕ → List ℤ → List ℤ
after_joined_figures morning noon = after_joined morning noon Figures

abbrev pub joined_book : List ℕ → List ℕ → ℕ → ℕ → Verdict
joined_book morning noon question = joined_answer morning noon (Book question)

abbrev pub after_joined_book : List ℕ → List ℕ → ℕ → List ℤ → List ℤ
after_joined_book morning noon question = after_joined morning noon (Book question)

abbrev pub joined_uses : List ℕ → List ℕ → ℕ → ℕ → Verdict
joined_uses morning noon question = joined_answer morning noon (Uses question)

abbrev pub after_joined_uses : List ℕ → List ℕ → ℕ → List ℤ → List ℤ
after_joined_uses morning noon question = after_joined morning noon (Uses question)

-- the books of all questions, or who paid for what in them, each in its place
abbrev pub joined_all : Bool → List ℕ → List ℕ → ℕ → Verdict
joined_all paid morning noon lent = joined_verdict morning noon then of_joined (all_over paid (account_of morning noon) lent)

abbrev pub after_joined_all : Bool → List ℕ → List ℕ → List ℤ → List ℤ
after_joined_all paid morning noon lent =
    cond (clear (joined_verdict morning noon)) (after_all_over paid (account_of morning noon) lent) lent

-- the requirement: the total of the joined account's margins
abbrev pub requirement : List Record → ℕ
requirement = account_total

-- "none unless the requirement exceeds the last cover call plus the threshold and also the revalued collateral; otherwise
-- requirement minus collateral"
abbrev pub cover_call : ℕ → ℕ → ℕ → ℕ → ℕ
cover_call required last threshold collateral =
    cond (ltb (last + threshold) required && ltb collateral required) (required - collateral) 0

-- 21: "The three amounts, in hundredths, are 0..1,000,000,000,000,000."
abbrev pub most_amount : ℕ
most_amount = 1000000000000000

abbrev pub beyond_amount : ℤ → Bool
beyond_amount z = lt_z z (pos 0) || lt_z (pos most_amount) z

abbrev pub amounts_within : ℕ → ℤ → ℤ → ℤ → Answer
amounts_within n last threshold collateral =
    cond ((beyond_amount last || beyond_amount threshold) || beyond_amount collateral) (Err (AmountOutside n)) (Ok tt)

abbrev pub call_verdict : List ℕ → List ℕ → ℤ → ℤ → ℤ → Verdict
call_verdict morning noon last threshold collateral =
    joined_verdict morning noon then of_joined (amounts_within (length (account_of morning noon)) last threshold collateral)

abbrev pub joined_call : List ℕ → List ℕ → ℤ → ℤ → ℤ → Call
joined_call morning noon last threshold collateral =
    record {
      verdict = call_verdict morning noon last threshold collateral;
      amount =
          record {
            0 =
                cond (clear (call_verdict morning noon last threshold collateral))
                (cover_call (requirement (account_of morning noon)) (nat_abs last) (nat_abs threshold) (nat_abs collateral)) 0;
          };
    }
