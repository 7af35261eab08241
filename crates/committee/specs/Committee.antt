-- Request 2026-12, 'Figures for the risk committee': one list of numbers over a run of accounts, from the figures of each.
-- Assumes nothing.
use Rattle.std.specs.Prelude.{ℕ, zero, suc, ◌+◌, ◌*◌, ◌/◌, ◌%◌, max, Bool, cond, not, ◌&&◌, List, [], ◌∷◌, ◌++◌, map, eqb, ltb, ℤ, pos, length, get_or, drop, Ok, Err}
use Rattle.exact.specs.Lists.{one_if, count, sum}
use Rattle.exact.specs.Signed.{or_zero}
use Rattle.record.specs.Bytes.{count_from}
use Rattle.account.specs.Answers.{number_of}
use Rattle.account.specs.Answers.{Answer}
use Rattle.account.specs.declared.answers.Refusal.TheVariants.{TooFewNumbers, LengthsDiffer, TooManyAccounts}
use Rattle.formulas.specs.Margin.{risk}
use Rattle.formulas.specs.Bounds.{figures_each}
use Rattle.runs.specs.Runs.{accounts_of}
use Rattle.committee.specs.Answered.{Answered, answered_account}

-- ---- the figures of one account

-- a number of them, none of which is negative
abbrev pub number_at : List ℤ → ℕ → ℕ
number_at numbers k = or_zero (get_or numbers k (pos 0))

-- "for each contract in file order eight numbers .., then the total"
abbrev pub contracts_in : List ℤ → ℕ
contracts_in numbers = length numbers / figures_each

abbrev pub scanning_at : List ℤ → ℕ → ℕ
scanning_at numbers i = number_at numbers (figures_each * i + 2)

abbrev pub interprompt_at : List ℤ → ℕ → ℕ
interprompt_at numbers i = number_at numbers (figures_each * i + 3)

abbrev pub prompt_at : List ℤ → ℕ → ℕ
prompt_at numbers i = number_at numbers (figures_each * i + 4)

abbrev pub credit_at : List ℤ → ℕ → ℕ
credit_at numbers i = number_at numbers (figures_each * i + 5)

abbrev pub minimum_at : List ℤ → ℕ → ℕ
minimum_at numbers i = number_at numbers (figures_each * i + 6)

abbrev pub margin_at : List ℤ → ℕ → ℕ
margin_at numbers i = number_at numbers (figures_each * i + 7)

abbrev pub total_number : List ℤ → ℕ
total_number numbers = number_at numbers (figures_each * contracts_in numbers)

-- the first n contracts together
abbrev pub over_contracts : ℕ → (ℕ → ℕ) → ℕ
over_contracts zero f = 0
over_contracts (suc n) f = over_contracts n f + f n

-- an account "had credit": a credit above 0 in some contract
abbrev pub has_credit : List ℤ → ℕ → Bool
has_credit numbers i = ltb 0 (credit_at numbers i)

abbrev pub had_credit : List ℤ → Bool
had_credit numbers = ltb 0 (over_contracts (contracts_in numbers) (λ i. one_if (has_credit numbers i)))

-- "how many contracts had a short option minimum above the risk it is compared with"; 01: "the larger of that minimum and (scanning +
-- interprompt + prompt - credits, not below 0)"
abbrev pub is_above : List ℤ → ℕ → Bool
is_above numbers i =
    ltb (risk (scanning_at numbers i) (interprompt_at numbers i) (prompt_at numbers i) (credit_at numbers i)) (minimum_at numbers i)

abbrev pub above_risk : List ℤ → ℕ
above_risk numbers = over_contracts (contracts_in numbers) (λ i. one_if (is_above numbers i))

-- ---- the accounts of a run

abbrev pub is_accepted : Answered → Bool
is_accepted a = eqb a.refusal 0

-- "accepted and refused counts"
abbrev pub accepted_count : List Answered → ℕ
accepted_count = count is_accepted

abbrev pub refused_count : List Answered → ℕ
refused_count = count (λ a. not (is_accepted a))

-- "refusals for each number 1 to 15"
abbrev pub refusal_count : List Answered → ℕ → ℕ
refusal_count run n = count (λ a. eqb a.refusal n) run

abbrev pub refusal_counts : List Answered → List ℕ
refusal_counts run = map (refusal_count run) (count_from 1 15)

-- "Refused accounts enter no sum"
abbrev pub over_accepted : (List ℤ → ℕ) → Answered → ℕ
over_accepted f a = cond (is_accepted a) (f a.numbers) 0

abbrev pub summed : (List ℤ → ℕ) → List Answered → ℕ
summed f run = sum (map (over_accepted f) run)

-- "margin summed"
abbrev pub margin_summed : List Answered → ℕ
margin_summed = summed total_number

-- "the largest margin"
abbrev pub largest_margin : List Answered → ℕ
largest_margin [] = 0
largest_margin (a ∷ run) = max (over_accepted total_number a) (largest_margin run)

-- ".. with the lowest place (from 0) holding it": a refused account holds none, and is a place like another
abbrev pub holds : ℕ → Answered → Bool
holds margin a = is_accepted a && eqb (total_number a.numbers) margin

abbrev pub lowest_place : (Answered → Bool) → List Answered → ℕ
lowest_place p [] = 0
lowest_place p (a ∷ run) = cond (p a) 0 (suc (lowest_place p run))

-- "with none accepted, largest, place, mean and remainder are 0"
abbrev pub unless_none : List Answered → ℕ → ℕ
unless_none run n = cond (eqb (accepted_count run) 0) 0 n

abbrev pub largest_place : List Answered → ℕ
largest_place run = unless_none run (lowest_place (holds (largest_margin run)) run)

-- "how many accounts had credit"
abbrev pub credit_count : List Answered → ℕ
credit_count = summed (λ numbers. one_if (had_credit numbers))

-- "how many contracts had a short option minimum above the risk it is compared with"
abbrev pub above_count : List Answered → ℕ
above_count = summed above_risk

-- "the mean margin as whole hundredths and a remainder"
abbrev pub mean_margin : List Answered → ℕ
mean_margin run = unless_none run (margin_summed run / accepted_count run)

abbrev pub mean_remainder : List Answered → ℕ
mean_remainder run = unless_none run (margin_summed run % accepted_count run)

-- "Over a run of accounts give: accepted and refused counts, refusals for each number 1 to 15, margin summed, the largest margin with the
-- lowest place .., how many accounts had credit, how many contracts .., and the mean margin as whole hundredths and a remainder."
abbrev pub committee_numbers : ℕ
committee_numbers = 24

abbrev pub committee : List Answered → List ℕ
committee run =
    accepted_count run
    ∷ refused_count run
    ∷ (refusal_counts run
    ++ (margin_summed run
    ∷ largest_margin run
    ∷ largest_place run
    ∷ credit_count run
    ∷ above_count run
    ∷ mean_margin run
    ∷ mean_remainder run
    ∷ []))

-- ---- what is answered

-- "At most 100 accounts."
abbrev pub most_accounts : ℕ
most_accounts = 100

-- "Refusals: as 2026-08, 10 being for this answer; 19, more than 100 accounts, first."
abbrev pub committee_answer : List ℕ → List ℕ → ℕ → Answer
committee_answer bytes lengths lent =
    cond (ltb most_accounts (length lengths)) (Err TooManyAccounts)
    (cond (not (eqb (sum lengths) (length bytes))) (Err LengthsDiffer)
    (cond (ltb lent committee_numbers) (Err (TooFewNumbers 0)) (Ok tt)))

abbrev pub answered_run : List ℕ → List ℕ → List Answered
answered_run bytes lengths = map answered_account (accounts_of lengths bytes)

-- the numbers at the front of those lent, and nothing after them; a run that is refused writes nothing
abbrev pub after_committee : List ℕ → List ℕ → List ℤ → List ℤ
after_committee bytes lengths lent =
    cond (eqb (number_of (committee_answer bytes lengths (length lent))) 0)
    (map pos (committee (answered_run bytes lengths)) ++ drop committee_numbers lent)
    lent
