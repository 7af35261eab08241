-- A walk over an account's contracts: what it has done and what is still to do are the whole.
-- Assumes nothing.
use mathlib.Core.Path.{◌≡◌, refl, sym, ◌∙◌, ap, ap₂, subst}
use mathlib.Core.Bool.{true, false}
use mathlib.Core.List.{List, [], map}
use Prim.Native.Nat.{ℕ, ◌+◌, ◌*◌, ◌≤◌, ◌<◌, zero-le}
use native.Mathlib.Nat.{add-mul}
use native.Mathlib.Omega.{arith}
use lib.IntN.{ℤ, pos}
use lib.ListN.{length, set}
use lib.Seq.{sets}
use Rattle.record.specs.Layout.{Record}
use Rattle.account.specs.Check.{most_contracts}
use Rattle.account.specs.Lawful.{Lawful}
use Rattle.account.specs.PartNumbers.{entry_part}
use Rattle.account.specs.Parts.{contracts_of, entries_of}
use Rattle.account.specs.code.Standing.{PartOf}
use Rattle.formulas.specs.declared.line.Line.{Line}
use Rattle.formulas.specs.Bounds.{most_risk, figures_each, longest_book, longest_uses}
use Rattle.formulas.specs.code.Lines.{eight_of, margin_with}
use Rattle.formulas.proofs.SumLaws as sums
use Rattle.margin.specs.declared.everything.Everything.{Everything}
use Rattle.margin.specs.Figures as shown
use Rattle.margin.specs.Places.{questions}
use Rattle.margin.specs.code.Lent.{ContractLent, ContractsWalked, TabledBy, TableLent, lent_answer, LentAnswers, EverythingLent, EverythingOf}
use Rattle.margin.specs.code.Tabled.{Placed, TableCleared}
use Rattle.margin.proofs.FigureLaws.{eights_left, total_left, eights_next, total_next, eights-done, total-done, figures-written}
use Rattle.margin.proofs.LentLaws.{LentTo, lent_none, lent_next, lent_all, then_table}
use Rattle.margin.proofs.NumberLaws.{ToWrite, start, next, finish}
use Rattle.margin.proofs.QuestionLaws.{figures-length, figures_front, figures_refused}
use Rattle.margin.proofs.TabledLaws.{TabledTo, tabled_start, tabled_next, tabled_all, sets_same, sets_stand}

-- the first i of n contracts are in their places; without intercontract spreads their eight numbers and the sum of their margins are the figures'
pub record WalkedTo (account : List Record) (n : ℕ) (figures₀ books₀ uses₀ : List ℤ) (i : ℕ) (figures books uses : List ℤ) (tiers : List ℕ) (nets : List ℤ)
    (units prices sizes : List ℕ) (total : ℕ) : Type 0 where
  pub table : TabledTo account n i figures₀ figures tiers nets units prices sizes
  pub book : LentTo account false i books₀ books
  pub paid : LentTo account true i uses₀ uses
  pub small : total ≤ i * (3 * most_risk)
  pub written : entries_of account ≡ [] → ToWrite n (eights_left account) (sets figures₀ 0 (eights_left account 0)) i (i * figures_each) figures
  pub summed : entries_of account ≡ [] → sums.ToGo n (3 * most_risk) (total_left account) i total

module _ {account : List Record} {n : ℕ} {figures₀ books₀ uses₀ : List ℤ} where
  pub walked_start : {tiers : List ℕ} {nets : List ℤ} {units prices sizes : List ℕ} → TableCleared tiers nets units prices sizes
      → WalkedTo account n figures₀ books₀ uses₀ 0 figures₀ books₀ uses₀ tiers nets units prices sizes 0
  walked_start {tiers} {nets} {units} {prices} {sizes} clear =
      record {
        table = tabled_start account n figures₀ tiers nets units prices sizes clear;
        book = lent_none account false books₀;
        paid = lent_none account true uses₀;
        small = zero-le;
        written = λ none. start n (eights_left account) 0 0 figures₀ refl;
        summed = λ none. sums.start n (3 * most_risk) (total_left account);
      }

  module _ (law : Lawful account) (all : n ≡ length (contracts_of account)) (few : n ≤ most_contracts) {i : ℕ} {figures books uses : List ℤ}
      {tiers : List ℕ} {nets : List ℤ} {units prices sizes : List ℕ} {total : ℕ}
      (is : WalkedTo account n figures₀ books₀ uses₀ i figures books uses tiers nets units prices sizes total) where
    -- one contract more
    pub walked_next : {l : Line} {m : ℕ} {figures' books' uses' : List ℤ} {tiers' : List ℕ} {nets' : List ℤ} {units' prices' sizes' : List ℕ}
        → i < n → n * figures_each ≤ length figures₀ → ContractLent account i l books uses books' uses' → length books' ≡ length books → length uses' ≡ length uses
        → Placed i l figures tiers nets units prices sizes figures' tiers' nets' units' prices' sizes' → length figures' ≡ length figures
        → (m ≡ margin_with l 0) × (m ≤ 3 * most_risk)
        → WalkedTo account n figures₀ books₀ uses₀ (i + 1) figures' books' uses' tiers' nets' units' prices' sizes' (total + m)
    walked_next {l} {m} {figures'} {books'} {uses'} {tiers'} {nets'} {units'} {prices'} {sizes'} turn room lent books-same uses_same placed figures-same margin =
        let listed : i < length (contracts_of account) = omega arith in
        record {
          table =
              tabled_next account law n i figures₀ figures tiers nets units prices sizes all few turn l figures' tiers' nets' units' prices' sizes'
              is.table room lent.line placed figures-same;
          book = lent_next account law false i books₀ books books' is.book listed books-same lent.book;
          paid = lent_next account law true i uses₀ uses uses' is.paid listed uses_same lent.paid;
          small = omega (arith, is.small, margin.1, add-mul i 1 (3 * most_risk));
          written =
              λ none.
              next i (i * figures_each) ((i + 1) * figures_each) figures figures' (map pos (eight_of l 0)) (is.written none) turn
              (eights_next account none i listed l lent.line) placed.written (omega arith);
          summed =
              λ none.
              sums.next i total m (is.summed none) turn
              (total_next account none i listed l lent.line ∙ ap (λ (x : ℕ). x + total_left account (i + 1)) (sym margin.0)) margin.1;
        }

    -- and all of them, the total being put behind them
    pub walked_all : {figures' : List ℤ} → n ≤ i → figures' ≡ set figures (n * figures_each) (pos total)
        → ContractsWalked account figures₀ books₀ uses₀ figures' books uses tiers nets units prices sizes
    walked_all {figures'} last put =
        let end : i ≡ length (contracts_of account) = omega (arith, is.table.within) in
        let same : n ≡ i = omega (arith, is.table.within) in
        record {
          table =
              tabled_all account n i total figures₀ figures figures' tiers nets units prices sizes all few last is.table put;
          uncredited =
              λ none.
              figures-written account n all figures₀ figures figures' total
              (finish i (i * figures_each) figures (is.written none) last (eights-done account n all)) put
              (sums.finish i total (is.summed none) last (subst (λ (k : ℕ). total_left account k ≡ 0) same (total-done account n all)));
          book = lent_all account law false i books₀ books is.book end;
          paid = lent_all account law true i uses₀ uses is.paid end;
        }

-- ---- then the table

module _ {whole : List Record} {figures₀ books₀ uses₀ figures books uses : List ℤ} {tiers : List ℕ} {nets : List ℤ} {units prices sizes : List ℕ}
    (room : length (shown.figures whole) ≤ length figures₀) (same : length figures ≡ length figures₀)
    (walked : ContractsWalked whole figures₀ books₀ uses₀ figures books uses tiers nets units prices sizes) where
  pub walked_tabled : {entries : List ℕ} {count n : ℕ} → Lawful whole → count ≡ length (contracts_of whole) → n ≡ length whole → PartOf whole entry_part entries
      → TabledBy entries count n figures tiers nets units prices sizes whole
  walked_tabled law counted records_are part =
      record {
        lawful = law;
        count_is = counted;
        records_are = records_are;
        part = part;
        tabled = walked.table.tabled;
        uncredited = λ none. sets_stand (shown.figures whole) figures₀ figures room same (walked.uncredited none);
      }

  -- everything is lent
  pub walked_everything : {figures' books' uses' : List ℤ} → length books ≡ length books₀ → length uses ≡ length uses₀
      → TableLent whole figures books uses figures' books' uses' → EverythingLent whole figures₀ books₀ uses₀ figures' books' uses'
  walked_everything {figures'} {books'} {uses'} books-same uses_same t =
      let many = figures-length whole in
      record {
        figures-after =
            t.figures-after
            ∙ sets_same (shown.figures whole) figures₀ figures (length (contracts_of whole) * figures_each + 1) same room (omega arith) walked.table.beyond
            ∙ sym (figures_front whole figures₀ room);
        books_after_lem = then_table whole false books₀ books books' books-same walked.book t.book;
        uses-after = then_table whole true uses₀ uses uses' uses_same walked.paid t.paid;
      }

-- where too few numbers are lent for the figures they go elsewhere, and those lent stay as they are
pub unlent_everything : {whole : List Record} {figures unlent books uses unlent' books' uses' : List ℤ} → length figures < length (shown.figures whole)
    → EverythingLent whole unlent books uses unlent' books' uses' → EverythingLent whole figures books uses figures books' uses'
unlent_everything {whole} {figures} few i =
    record {
      figures-after = (figures_refused whole figures _ refl few).1;
      books_after_lem = i.books_after_lem;
      uses-after = i.uses-after;
    }

-- what is answered, by how many numbers are needed and lent
pub answered_everything : {whole : List Record} {records needed : ℕ} {figures books uses figures' books' uses' : List ℤ} {r : Everything}
    → records ≡ length whole → needed ≡ length (shown.figures whole) → LentAnswers records needed (length figures) (length books) (length uses) r
    → EverythingLent whole figures books uses figures' books' uses' → EverythingOf whole figures books uses r figures' books' uses'
answered_everything {whole} {records} {needed} {figures} {books} {uses} n k a l =
    record {
      lent = l;
      figures_answer_lem = a.of_figures ∙ ap₂ (λ (m i : ℕ). lent_answer m i (length figures)) n k;
      books_answer_lem = a.of_books ∙ ap (λ (m : ℕ). lent_answer m (longest_book * questions) (length books)) n;
      uses_answer_lem = a.of_uses ∙ ap (λ (m : ℕ). lent_answer m (longest_uses * questions) (length uses)) n;
    }
