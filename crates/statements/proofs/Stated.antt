-- The two statements, proved.
-- Assumes nothing.
use Rattle.std.specs.Prelude.{Ok, Err}
use Prim.Native.Nat.{ℕ, ◌+◌}
use mathlib.Core.Path.{◌≡◌, refl, sym, ap, ap₂, ◌∙◌}
use mathlib.Core.Bool.{Bool, false, cond, ◌||◌}
use mathlib.Core.List.{List, [], ◌∷◌, map, map-append}
use lib.Dec.{eqb, ltb}
use lib.IntN.{ℤ, pos, ◌+ℤ◌}
use lib.ListN.{length}
use Rattle.exact.specs.Lists.{any, keep, count, sum, sum_ℤ}
use Rattle.exact.proofs.Lists.{length-keep, map_same, sum_ℤ_append}
use Rattle.record.specs.Layout.{Record, contract, day, unit}
use Rattle.account.specs.Parts.{of_kind, of_contract, contracts_of, prompts_of, rows_of, spreads_of, entries_of, rates_of}
use Rattle.account.specs.Whole.{parts_by, Whole}
use Rattle.account.specs.Answers.{Answer}
use Rattle.account.specs.declared.answers.Refusal.TheVariants.{TooFewNumbers, NoSuchQuestion}
use Rattle.account.proofs.Whole.{whole_file, whole_pair}
use Rattle.margin.specs.Books.{asks, contract_book, of_each, of_question, table_book, table_question}
use Rattle.formulas.specs.Contract.{Contract, contract_from, contracts, parts_in}
use Rattle.formulas.specs.Deltas.{row_delta, of_day, net_delta, net_deltas}
use Rattle.margin.specs.Figures.{figures_over}
use Rattle.formulas.specs.Margin.{short_options, short_lots}
use Rattle.margin.specs.Questions.{if_accepted, numbers_for, answers, answer_over, afterwards, after_over}
use Rattle.formulas.specs.Scanning.{product, total, totals, scenarios}
use Rattle.margin.specs.Uses.{contract_uses, table_uses}
use Rattle.margin.specs.declared.asking.Question.{Question}
use Rattle.margin.specs.declared.asking.Question.TheVariants.{Figures, Book, Uses}
use Rattle.statements.specs.Statements.{Rearranged, other_records, SameButOrder, AnswerAlike, AskedAlike, RowsOfBoth, AtMostTheSum, Statements}
use Rattle.statements.proofs.Orders.{sum_ℤ_order, sum_order, length_order, kept_sum, among_others, other_kind, other_contract}
use Rattle.statements.proofs.Risks.{largest_within}

-- ---- what a contract's rows come to does not depend on their order

module _ {xs ys : List Record} (d : Rearranged xs ys) where
  same_totals : (rates : List Record) (u : ℕ) → totals rates u xs ≡ totals rates u ys
  same_totals rates u = map_same (total rates u xs) (total rates u ys) (λ s. sum_ℤ_order (product rates u s) d) scenarios

  same_net : (prompt : Record) → net_delta xs prompt ≡ net_delta ys prompt
  same_net prompt =
      kept_sum row_delta (of_day (day prompt)) xs
      ∙ sum_ℤ_order (λ r. cond (of_day (day prompt) r) (row_delta r) (pos 0)) d
      ∙ sym (kept_sum row_delta (of_day (day prompt)) ys)

  same_nets : (prompts : List Record) → net_deltas prompts xs ≡ net_deltas prompts ys
  same_nets prompts = map_same (net_delta xs) (net_delta ys) same_net prompts

  same_contract : (rates : List Record) (own : Record) (prompts spreads : List Record)
      → contract_from rates own prompts xs spreads ≡ contract_from rates own prompts ys spreads
  same_contract rates own prompts spreads =
      ap (λ (ts : List ℤ). made ts (net_deltas prompts xs) (short_lots xs)) (same_totals rates (unit own))
      ∙ ap₂ (made (totals rates (unit own) ys)) (same_nets prompts) (sum_order short_options d)
    where
      made : List ℤ → List ℤ → ℕ → Contract
      made ts ns short = record { own = own; prompts = prompts; spreads = spreads; totals = ts; nets = ns; shorts = short }

-- ---- the parts that rows do not enter

module _ (a b : List Record) (e : other_records a ≡ other_records b) where
  same_kind : (n : ℕ) → eqb n 3 ≡ false → keep (of_kind n) a ≡ keep (of_kind n) b
  same_kind n d =
      among_others (of_kind n) (other_kind n d) a
      ∙ ap (keep (of_kind n)) e
      ∙ sym (among_others (of_kind n) (other_kind n d) b)

  same_part : (n c : ℕ) → eqb n 3 ≡ false → keep (of_contract n c) a ≡ keep (of_contract n c) b
  same_part n c d =
      among_others (of_contract n c) (other_contract n c d) a
      ∙ ap (keep (of_contract n c)) e
      ∙ sym (among_others (of_contract n c) (other_contract n c d) b)

  same_rates : rates_of a ≡ rates_of b
  same_rates = same_kind 6 refl

  -- the records of a contract but its rows
  same_others : (own : Record) (rows : List Record)
      → contract_from (rates_of a) own (prompts_of (contract own) a) rows (spreads_of (contract own) a)
      ≡ contract_from (rates_of b) own (prompts_of (contract own) b) rows (spreads_of (contract own) b)
  same_others own rows =
      ap₂ (λ (ps ss : List Record). contract_from (rates_of a) own ps rows ss)
      (same_part 2 (contract own) refl) (same_part 4 (contract own) refl)
      ∙ ap (λ (rates : List Record). contract_from rates own (prompts_of (contract own) b) rows (spreads_of (contract own) b)) same_rates

-- ---- first

module _ {a b : List Record} (s : SameButOrder a b) where
  alike-parts : (own : Record) → parts_in a own ≡ parts_in b own
  alike-parts own =
      same_contract (s.rows (contract own)) (rates_of a) own (prompts_of (contract own) a) (spreads_of (contract own) a)
      ∙ same_others a b s.others own (rows_of (contract own) b)

  alike-contracts : contracts_of a ≡ contracts_of b
  alike-contracts = same_kind a b s.others 1 refl

  alike_entries : entries_of a ≡ entries_of b
  alike_entries = same_kind a b s.others 5 refl

  all_alike : contracts a ≡ contracts b
  all_alike = map_same (parts_in a) (parts_in b) alike-parts (contracts_of a) ∙ ap (map (parts_in b)) alike-contracts

  questions-alike : (question : ℕ)
      → map (parts_in a) (keep (asks question) (contracts_of a)) ≡ map (parts_in b) (keep (asks question) (contracts_of b))
  questions-alike question =
      map_same (parts_in a) (parts_in b) alike-parts (keep (asks question) (contracts_of a))
      ∙ ap (λ (owns : List Record). map (parts_in b) (keep (asks question) owns)) alike-contracts

  module _ (ofContract' : Contract → List ℤ) (ofTable : List Record → List Contract → List ℤ) where
    question_alike : (question : ℕ) → of_question ofContract' ofTable a question ≡ of_question ofContract' ofTable b question
    question_alike question =
        ap₂ (λ (x y : List ℤ). cond (eqb question table_question) x y)
        (ap₂ ofTable alike_entries all_alike) (ap (of_each ofContract') (questions-alike question))

  pub answer_alike : AnswerAlike a b
  answer_alike =
      record {
        figures = ap (map pos) (ap₂ figures_over alike_entries all_alike);
        questions = λ question. ap (λ (owns : List Record). eqb question table_question || any (asks question) owns) alike-contracts;
        books = question_alike contract_book table_book;
        uses = question_alike contract_uses table_uses;
      }

-- ---- second

module _ {a b both : List Record} (s : RowsOfBoth a b both) where
  rows_add : (rates : List Record) (u c scenario : ℕ)
      → total rates u (rows_of c both) scenario ≡ total rates u (rows_of c a) scenario +ℤ total rates u (rows_of c b) scenario
  rows_add rates u c scenario =
      sum_ℤ_order (product rates u scenario) (s.rows c)
      ∙ ap sum_ℤ (map-append (product rates u scenario) (rows_of c a) (rows_of c b))
      ∙ sum_ℤ_append (map (product rates u scenario) (rows_of c a)) (map (product rates u scenario) (rows_of c b))

  -- at the same rates
  totals_add : (u c scenario : ℕ)
      → total (rates_of both) u (rows_of c both) scenario
      ≡ total (rates_of a) u (rows_of c a) scenario +ℤ total (rates_of b) u (rows_of c b) scenario
  totals_add u c scenario =
      rows_add (rates_of both) u c scenario
      ∙ ap₂ (λ (r q : List Record). total r u (rows_of c a) scenario +ℤ total q u (rows_of c b) scenario)
      (sym (same_rates a both s.first)) (sym (same_rates b both s.second))

  at_most_the_sum : AtMostTheSum a b both
  at_most_the_sum =
      record {
        scanning = λ own.
            largest_within (total (rates_of a) (unit own) (rows_of (contract own) a)) (total (rates_of b) (unit own) (rows_of (contract own) b))
            (total (rates_of both) (unit own) (rows_of (contract own) both)) (totals_add (unit own) (contract own)) scenarios;
      }

-- ---- asked alike: accounts that are the same but for the order of rows have as many records, which 10 and 11 name

module _ {a b : List Record} (s : SameButOrder a b) where
  as_many : (p : Record → Bool) → keep p a ≡ keep p b → count p a ≡ count p b
  as_many p e = sym (length-keep p a) ∙ ap length e ∙ length-keep p b

  of_kind_lem : (n : ℕ) → eqb n 3 ≡ false → count (of_kind n) a ≡ count (of_kind n) b
  of_kind_lem n d = as_many (of_kind n) (same_kind a b s.others n d)

  of_contract_lem : (n c : ℕ) → eqb n 3 ≡ false → count (of_contract n c) a ≡ count (of_contract n c) b
  of_contract_lem n c d = as_many (of_contract n c) (same_part a b s.others n c d)

  of_rows_lem : (c : ℕ) → count (of_contract 3 c) a ≡ count (of_contract 3 c) b
  of_rows_lem c = sym (length-keep (of_contract 3 c) a) ∙ length_order (s.rows c) ∙ length-keep (of_contract 3 c) b

  same_counts_lem : (owns : List Record) → sum (map (λ part. count part a) (parts_by owns)) ≡ sum (map (λ part. count part b) (parts_by owns))
  same_counts_lem [] = ap₂ ◌+◌ (of_kind_lem 5 refl) (ap₂ ◌+◌ (of_kind_lem 6 refl) refl)
  same_counts_lem (own ∷ owns) =
      ap₂ ◌+◌ (of_contract_lem 1 (contract own) refl)
      (ap₂ ◌+◌ (of_contract_lem 2 (contract own) refl)
      (ap₂ ◌+◌ (of_rows_lem (contract own)) (ap₂ ◌+◌ (of_contract_lem 4 (contract own) refl) (same_counts_lem owns))))

  same_length : Whole a → Whole b → length a ≡ length b
  same_length wa wb =
      wa.together
      ∙ same_counts_lem (contracts_of a)
      ∙ ap (λ (owns : List Record). sum (map (λ part. count part b) (parts_by owns))) (alike-contracts s)
      ∙ sym wb.together

  same_numbers : (question : Question) → numbers_for a question ≡ numbers_for b question
  same_numbers Figures = (answer_alike s).figures
  same_numbers (Book question) = (answer_alike s).books question
  same_numbers (Uses question) = (answer_alike s).uses question

  same_asked : (question : Question) → answers a question ≡ answers b question
  same_asked Figures = refl
  same_asked (Book question) = (answer_alike s).questions question
  same_asked (Uses question) = (answer_alike s).questions question

  asked-alike : Whole a → Whole b → AskedAlike a b
  asked-alike wa wb = record { answer = answer; after = after }
    where
      said : Bool → ℕ → List ℤ → ℕ → Answer
      said t many numbers lent =
          if_accepted (cond t (Ok tt) (Err (NoSuchQuestion many))) (cond (ltb lent (length numbers)) (Err (TooFewNumbers many)) (Ok tt))

      answer : (question : Question) (lent : ℕ) → answer_over a question lent ≡ answer_over b question lent
      answer question lent =
          ap₂ (λ (t : Bool) (many : ℕ). said t many (numbers_for a question) lent) (same_asked question) (same_length wa wb)
          ∙ ap (λ (numbers : List ℤ). said (answers b question) (length b) numbers lent) (same_numbers question)

      after : (question : Question) (lent : List ℤ) → after_over a question lent ≡ after_over b question lent
      after question lent = ap₂ (λ (x : Answer) (numbers : List ℤ). afterwards x numbers lent) (answer question (length lent)) (same_numbers question)

pub statements : Statements
statements =
    record {
      order = λ a b s. answer_alike s;
      files = λ file other ok fine s. asked-alike s (whole_file file ok) (whole_file other fine);
      pairs = λ morning noon morning' noon' ok fine s. asked-alike s (whole_pair morning noon ok) (whole_pair morning' noon' fine);
      together = λ a b both s. at_most_the_sum s;
    }
