-- The three demands: 1 of any bytes, 2 of the definitions, 3 of every accepted account, whose spreads and entries are ones that
-- the spread steps accept.
-- Assumes nothing.
use Rattle.std.specs.Prelude.{Ok}
use Prim.Native.Nat.{ℕ, zero, suc, ◌≤◌}
use native.Mathlib.Omega.{arith}
use mathlib.Core.Path.{◌≡◌, refl, sym, ap, ◌∙◌}
use mathlib.Core.Bool.{true}
use mathlib.Core.List.{List, [], map}
use mathlib.Core.Logic.{⊎_elim}
use lib.ListN.{length, get_or}
use Rattle.record.specs.Layout.{Record}
use Rattle.account.specs.Answers.{number_of, record_of}
use Rattle.account.specs.Checked.{checked}
use Rattle.exact.specs.Iff.{Iff}
use Rattle.account.specs.Lawful.{Lawful}
use Rattle.account.specs.Noon.{clear, joined_verdict}
use Rattle.account.specs.Joined.{account_of}
use Rattle.account.specs.Parts.{entries_of, spreads_of}
use Rattle.account.specs.Records.{records, record_count}
use Rattle.account.specs.Answers.{Answer}
use Rattle.account.proofs.Claimed.{claimed}
use Rattle.account.proofs.Alone.{lawful}
use Rattle.account.proofs.NoonLaws.{accepted_only, pair_lawful}
use Rattle.account.proofs.Walk.{length_cut}
use Rattle.spread.specs.Accepted.{every, sound_spread}
use Rattle.spread.specs.Demand.{sound_steps}
use Rattle.spread.proofs.Demand3.{demand3}
use Rattle.spread.proofs.Soundness.{steps-sound}
use Rattle.spread.proofs.Stepping.{who_paid}
use Rattle.margin.specs.declared.asking.Question.{Question}
use Rattle.margin.specs.declared.asking.Question.TheVariants.{Figures}
use Rattle.margin.specs.Books.{table_question}
use Rattle.formulas.specs.Contract.{contracts, parts_of, as_tier, contract_steps, opens_of, table_steps}
use Rattle.formulas.specs.Deltas.{interprompt, intercontract}
use Rattle.margin.specs.Questions.{numbers_for, answer_over}
use Rattle.margin.specs.Uses.{contract_uses, table_uses}
use Rattle.margin.proofs.AcceptLaws.{none_within, contract_within, entries_within}
use Rattle.margin.proofs.AskedLaws.{one_book, table_book_lem, contract-asked, table_asked}
use Rattle.formulas.proofs.LineLaws.{spreads_sound, interprompt-whole}
use Rattle.margin.proofs.QuestionLaws.{if_refused, if_accepted_lem, after_refused}
use Rattle.margin.proofs.Reckoned.{reckoned, printed}
use Rattle.margin.proofs.Skipped.{file_skips_none}
use Rattle.formulas.proofs.TableLaws.{entry_accepted}
use Rattle.questions.specs.Demands.{FileAsked, FiguresAsked, Demand1, Demand2, Demanded}
use Rattle.questions.specs.Questions.{answer_to}
use Rattle.questions.proofs.AskingLaws.{asking, lent_after}

-- ---- 1

module _ (file : List ℕ) (question : Question) (lent : ℕ) where
  abbrev next : Answer
  next = answer_over (records file) question lent

  -- a number that a refused file does not give is given exactly where the file is accepted and its account gives it
  gives : (n : ℕ) → ((number_of (checked file) ≡ 0 → ⊥) → number_of (checked file) ≡ n → ⊥)
      → Iff (number_of (answer_to file question lent) ≡ n) ((checked file ≡ Ok tt) × (number_of next ≡ n))
  gives n other =
      record {
        forth = λ e. go (number_of (checked file)) refl e;
        back = λ (ok, e). ap number_of (if_accepted_lem (checked file) next ok) ∙ e;
      }
    where
      go : (k : ℕ) → number_of (checked file) ≡ k → number_of (answer_to file question lent) ≡ n → (checked file ≡ Ok tt) × (number_of next ≡ n)
      go zero z e =
          let ok = accepted_only (checked file) z in
          (ok, ap number_of (sym (if_accepted_lem (checked file) next ok)) ∙ e)
      go (suc k) z e =
          let h : number_of (checked file) ≡ 0 → ⊥ = λ y. let m : suc k ≡ 0 = sym z ∙ y in omega arith in
          absurd (other h (ap number_of (sym (if_refused (checked file) next h)) ∙ e))

  -- a refused file gives neither 10 nor 11
  neither : 10 ≤ number_of (checked file) → number_of (checked file) ≤ 11 → ⊥
  neither l h =
      ⊎_elim (λ m. omega (arith, l, m)) (λ m. omega (arith, h, m.0)) (claimed file).exactly.numbers

  late : (n : ℕ) → 10 ≤ n → n ≤ 11 → (number_of (checked file) ≡ 0 → ⊥) → number_of (checked file) ≡ n → ⊥
  late n l m h e = neither (omega (arith, e, l)) (omega (arith, e, m))

  file_asked : FileAsked file question lent
  file_asked =
      let over = asking (records file) question lent in
      let a = gives 11 (late 11 (omega arith) (omega arith)) in
      let b = gives 10 (late 10 (omega arith) (omega arith)) in
      let c = gives 0 (λ h. h) in
      record {
        refused = if_refused (checked file) next;
        eleven = record { forth = λ e. let x = a.forth e in (x.0, over.eleven.forth x.1); back = λ (ok, h). a.back (ok, over.eleven.back h) };
        ten = record { forth = λ e. let x = b.forth e in (x.0, over.ten.forth x.1); back = λ (ok, h). b.back (ok, over.ten.back h) };
        accepted = record { forth = λ e. let x = c.forth e in (x.0, over.accepted.forth x.1); back = λ (ok, h). c.back (ok, over.accepted.back h) };
        named = λ l m. name (number_of (checked file)) refl l m;
      }
    where
      name : (k : ℕ) → number_of (checked file) ≡ k → 10 ≤ number_of (answer_to file question lent) → number_of (answer_to file question lent) ≤ 11
          → record_of (answer_to file question lent) ≡ record_count file
      name zero z l m =
          let is = if_accepted_lem (checked file) next (accepted_only (checked file) z) in
          ap record_of is ∙ (asking (records file) question lent).named (omega (arith, l, ap number_of is)) ∙ length_cut (record_count file) file
      name (suc k) z l m =
          let h : number_of (checked file) ≡ 0 → ⊥ = λ y. let n : suc k ≡ 0 = sym z ∙ y in omega arith in
          let e = ap number_of (if_refused (checked file) next h) in
          absurd (neither (omega (arith, l, e)) (omega (arith, m, e)))

figures-asked : (file : List ℕ) (lent : ℕ) → FiguresAsked file lent
figures-asked file lent =
    let asked = file_asked file Figures lent in
    record {
      refused = asked.refused;
      ten = record { forth = λ e. let x = asked.ten.forth e in (x.0, x.1.1); back = λ (ok, h). asked.ten.back (ok, (refl, h)) };
      accepted = record { forth = λ e. let x = asked.accepted.forth e in (x.0, x.1.1); back = λ (ok, h). asked.accepted.back (ok, (refl, h)) };
      named = asked.named;
    }

pub demand1 : (file : List ℕ) → Demand1 file
demand1 file =
    record {
      check = claimed file;
      question = file_asked file;
      figures = figures-asked file;
      after = λ question lent. lent_after (answer_to file question (length lent)) (numbers_for (records file) question) lent;
      untouched = after_refused;
      skipped = file_skips_none file;
    }

-- ---- 2

pub demand2 : Demand2
demand2 = record { reckoned = reckoned; printed = printed; empty_accepted = refl; empty_total = refl }

-- ---- 3

module _ (account : List Record) (law : Lawful account) where
  interprompt-steps : (c : ℕ) → sound_steps (contract_steps (parts_of account c)) ≡ true
  interprompt-steps c =
      let w = contract_within account law [] c none_within in
      steps-sound (map interprompt (spreads_of c account)) (spreads_sound interprompt (spreads_of c account) (λ k h. (w.each_spread k h).sound))

  pub demanded : Demanded account
  demanded =
      record {
        interprompt =
            λ c a n.
            record {
              writes = one_book account law c a n;
              takes = contract-asked account law contract_uses table_uses (λ own. refl) c a n;
              demand = demand3 (contract_steps (parts_of account c)) (opens_of (parts_of account c)) (interprompt-steps c);
              paid = who_paid (contract_steps (parts_of account c)) (opens_of (parts_of account c)) (interprompt-steps c);
            };
        first_words =
            λ c.
            (demand3 (contract_steps (parts_of account c)) (opens_of (parts_of account c)) (interprompt-steps c)).first_words
            (interprompt-whole (spreads_of c account));
        intercontract =
            let w = entries_within account law in
            let sound : every sound_spread (map intercontract (entries_of account)) ≡ true =
            spreads_sound intercontract (entries_of account) (λ k h. entry_accepted (get_or (entries_of account) k []) (w.each k h))
            in
            record {
              writes = table_book_lem account law table_question refl;
              takes = table_asked account law contract_uses table_uses (λ own. refl) table_question refl;
              demand = demand3 (table_steps (entries_of account)) (map as_tier (contracts account)) (steps-sound (map intercontract (entries_of account)) sound);
              paid = who_paid (table_steps (entries_of account)) (map as_tier (contracts account)) (steps-sound (map intercontract (entries_of account)) sound);
            };
        dates = law.orders.prompts;
      }

-- of an accepted file, and of a pair of files that is not refused
pub demanded_file : (file : List ℕ) → checked file ≡ Ok tt → Demanded (records file)
demanded_file file ok = demanded (records file) (lawful file ok)

pub demanded_joined : (morning noon : List ℕ) → clear (joined_verdict morning noon) ≡ true → Demanded (account_of morning noon)
demanded_joined morning noon c = demanded (account_of morning noon) (pair_lawful morning noon c)
