-- The claims about a list that is sent for an account: its steps are ones that the judging accepts.
-- Assumes nothing.
use Rattle.std.specs.Prelude.{Result, Err}
use Prim.Native.Nat.{ℕ}
use native.Mathlib.Omega.{arith}
use mathlib.Core.Bool.{Bool, true, false, cond}
use mathlib.Core.List.{List, [], map}
use mathlib.Core.Path.{◌≡◌, refl, sym, ap, ◌∙◌}
use borrow.Author.Tests.{eqb-true}
use lib.Dec.{eqb}
use lib.IntN.{ℤ}
use lib.ListN.{length, get_or}
use Rattle.record.specs.Layout.{Record}
use Rattle.account.specs.Answers.{Answer, and_then, number_of}
use Rattle.account.specs.declared.noon.Verdict.{Verdict as PairVerdict}
use Rattle.account.specs.declared.answers.Refusal.{Refusal}
use Rattle.account.specs.Checked.{checked}
use Rattle.account.specs.Lawful.{Lawful}
use Rattle.account.specs.Noon.{joined_verdict}
use Rattle.account.specs.Parts.{spreads_of, entries_of}
use Rattle.account.specs.Records.{records}
use Rattle.account.specs.Joined.{account_of}
use Rattle.account.specs.declared.answers.Refusal.TheVariants.{NoSuchQuestion, OtherCounts}
use Rattle.account.proofs.Alone.{lawful}
use Rattle.account.proofs.NoonLaws.{pair_lawful, joined_accepted}
use Rattle.judging.specs.Claims as judging
use Rattle.judging.specs.Judged.{judged_list}
use Rattle.judging.specs.declared.Verdict.{Verdict}
use Rattle.judging.specs.declared.Verdict.TheVariants as verdict
use Rattle.judging.proofs.Claims.{claims}
use Rattle.spread.specs.Demand.{sound_steps}
use Rattle.spread.proofs.Soundness.{steps-sound}
use Rattle.margin.specs.Books.{answered, table_question}
use Rattle.formulas.specs.Contract.{parts_of, contract_steps, table_steps}
use Rattle.formulas.specs.Deltas.{interprompt, intercontract}
use Rattle.margin.specs.Lists.{said_of, judged_over}
use Rattle.margin.specs.Uses.{steps_for, opens_for}
use Rattle.margin.specs.declared.lists.Judged.{Judged}
use Rattle.margin.proofs.AcceptLaws.{none_within, contract_within, entries_within}
use Rattle.formulas.proofs.LineLaws.{spreads_sound}
use Rattle.margin.proofs.QuestionLaws.{accepted_only}
use Rattle.formulas.proofs.TableLaws.{entry_accepted}
use Rattle.lists.specs.Claims.{OfAccount, Claims, PairClaims}
use Rattle.lists.specs.Lists.{judged_to, of_pair, joined_judged}

-- the steps of every question of a lawful account are sound
sound-steps : (account : List Record) → Lawful account → (question : ℕ) → sound_steps (steps_for account question) ≡ true
sound-steps account law question = go (eqb question table_question)
  where
    go : (t : Bool) → sound_steps (cond t (table_steps (entries_of account)) (contract_steps (parts_of account question))) ≡ true
    go true =
        let w = entries_within account law in
        steps-sound (map intercontract (entries_of account))
        (spreads_sound intercontract (entries_of account) (λ k h. entry_accepted (get_or (entries_of account) k []) (w.each k h)))
    go false =
        let w = contract_within account law [] question none_within in
        steps-sound (map interprompt (spreads_of question account)) (spreads_sound interprompt (spreads_of question account) (λ k h. (w.each_spread k h).sound))

-- only a list of other counts is refused with 18
said_other : (v : Verdict) → said_of v ≡ Err OtherCounts → v ≡ verdict.OtherCounts
said_other verdict.Right e = absurd (let z : ◌≡◌ {A = ℕ} 0 1 = cc in omega arith)
said_other (verdict.MoreThanFormed j) e = absurd (let z : ◌≡◌ {A = ℕ} 0 1 = cc in omega arith)
said_other (verdict.LessThanFormed j) e = absurd (let z : ◌≡◌ {A = ℕ} 0 1 = cc in omega arith)
said_other (verdict.WrongUse j) e = absurd (let z : ◌≡◌ {A = ℕ} 0 1 = cc in omega arith)
said_other verdict.OtherCounts e = refl

module _ (account : List Record) (law : Lawful account) (question sent : ℕ) (xs us : List ℤ) where
  abbrev given : Verdict
  given = judged_list (steps_for account question) (opens_for account question) sent xs us

  of_account : (said : Result Judged Refusal) → said ≡ judged_over account question sent xs us → OfAccount account question sent xs us said
  of_account said is =
      record {
        eleven = λ e. is ∙ ap (λ (t : Bool). cond t (said_of given) (Err (NoSuchQuestion (length account)))) e;
        eighteen =
            λ e.
            record {
              forth = λ r. truth.counts.forth (said_other given (sym (judged e) ∙ r));
              back = λ d. judged e ∙ ap said_of (truth.counts.back d);
            };
        judged = judged;
        truth = λ e. truth;
      }
    where
      judged : answered account question ≡ true → said ≡ said_of given
      judged e = is ∙ ap (λ (t : Bool). cond t (said_of given) (Err (NoSuchQuestion (length account)))) e

      truth : judging.Claims (steps_for account question) (opens_for account question) sent xs us
      truth = claims (steps_for account question) (opens_for account question) (sound-steps account law question) sent xs us

pub list_claims : (file : List ℕ) (question sent : ℕ) (xs us : List ℤ) → Claims file question sent xs us
list_claims file question sent xs us =
    record {
      refused = λ r e. ap of e;
      asked =
          λ e.
          let ok = accepted_only (checked file) (eqb-true (number_of (checked file)) 0 e) in
          of_account (records file) (lawful file ok) question sent xs us (judged_to file question sent xs us) (ap of ok);
    }
  where
    of : Answer → Result Judged Refusal
    of a = and_then a (judged_over (records file) question sent xs us)

pub pair_claims : (morning noon : List ℕ) (question sent : ℕ) (xs us : List ℤ) → PairClaims morning noon question sent xs us
pair_claims morning noon question sent xs us =
    record {
      refused = λ r e. ap (λ (a : Answer). of_pair (joined_verdict morning noon).file (of a)) e;
      file = λ e. ap (λ (v : PairVerdict). v.file) (joined_accepted morning noon e);
      asked =
          λ e.
          of_account (account_of morning noon) (pair_lawful morning noon e) question sent xs us
          (joined_judged morning noon question sent xs us).judged
          (ap (λ (v : PairVerdict). of v.answer) (joined_accepted morning noon e));
    }
  where
    of : Answer → Result Judged Refusal
    of a = and_then a (judged_over (account_of morning noon) question sent xs us)
