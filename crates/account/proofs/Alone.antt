-- An account that stands in one file, joined with an empty noon file, of which the check hands out nothing.
-- Assumes nothing.
use Rattle.std.specs.Prelude.{Ok}
use Prim.Native.Nat.{ℕ, ◌%◌, ◌≤◌, ◌<◌}
use native.Mathlib.Omega.{arith}
use mathlib.Core.Path.{◌≡◌, refl, sym, ap, ◌∙◌, subst, subst⁻¹}
use mathlib.Core.Bool.{Bool, true, false, not, ◌&&◌, cond}
use mathlib.Core.List.{List, []}
use lib.Dec.{eqb, ltb}
use borrow.Author.Tests.{ne_eqb, eqb-true, eqb-false}
use lib.ListN.{length, get_or, replicate, length-replicate, get_or-replicate}
use Rattle.exact.specs.Lists.{any, sum}
use Rattle.account.specs.Answers.{number_of}
use Rattle.account.specs.Check.{records_checked, most_contracts}
use Rattle.account.specs.Checked.{rates_checked, checked}
use Rattle.account.specs.Conversions.{other_row}
use Rattle.account.specs.Lawful.{Recorded, Lawful}
use Rattle.account.specs.Answers.{Answer}
use Rattle.account.specs.PartNumbers.{parts, entry_part, part}
use Rattle.account.specs.Parts.{rates_of}
use Rattle.account.specs.Records.{records, record_count}
use Rattle.account.specs.code.Standing.{lists, listed_in, from_noon, either_note, Filled, Flagged, JoinedBy, AloneBy, Places, Stands, CheckedBy}
use Rattle.account.specs.Joined.{account_of}
use Rattle.account.specs.code.Surveyed.{Surveyed, Tallied}
use Rattle.account.specs.declared.check.Survey.{Survey}
use Rattle.account.specs.declared.accounts.Account.{Account}
use Rattle.account.proofs.Going.{same_survey, tallied_as, unconverted}
use Rattle.account.proofs.AcceptedOnly.{accepted_only}
use Rattle.account.proofs.RateLaws.{lawful_of, no_other_row}
use Rattle.account.proofs.Lawful.{recorded}
use Rattle.account.proofs.Places.{alone, alone_recorded, listed_few, records_are, places}
use Rattle.account.proofs.Walk.{length_cut}

abbrev zeros : List ℕ
zeros = replicate parts 0

nothing : Survey
nothing = record { answer = Ok tt; contracts = 0; first = zeros; counts = zeros; converts = false }

nothing_surveyed : Surveyed [] nothing
unfolding nothing
nothing_surveyed =
    record {
      answer = refl;
      contracts = refl;
      firsts = length-replicate {A = ℕ} parts 0;
      first = λ v h. get_or-replicate {A = ℕ} parts v 0 0 h;
      sizes = length-replicate {A = ℕ} parts 0;
      counts = λ v h. get_or-replicate {A = ℕ} parts v 0 0 h;
      converts = refl;
    }

-- an empty file lists nothing and supplies nothing
none-listed : (c : ℕ) → c < most_contracts → lists zeros c ≡ false
none-listed c h = ap (λ (n : ℕ). not (eqb n 0)) (get_or-replicate {A = ℕ} parts (part 1 c) 0 0 (omega arith))

none_supplied : (v : ℕ) → from_noon zeros v ≡ false
none_supplied v = ap (λ (t : Bool). ltb v entry_part && t) (none-listed (v % most_contracts) (omega arith)) ∙ go (ltb v entry_part)
  where
    go : (t : Bool) → t && false ≡ false
    go true = refl
    go false = refl

noted : (xs : List ℕ) → length xs ≡ parts → Filled parts (either_note xs zeros zeros) xs
noted xs l = record { long = l; each = λ v h. sym (ap (λ (t : Bool). cond t (get_or zeros v 0) (get_or xs v 0)) (none_supplied v)) }

module _ (file : List ℕ) (s : Survey) (k : ℕ) (j : Account) (sv : Surveyed file s) (by : AloneBy s.first s.counts k j) where
  -- the same with the records added up from the parts
  added : Account
  added = record { records = sum j.counts; contracts = j.contracts; numbers = j.numbers; noon = j.noon; first = j.first; counts = j.counts }

  added_by : JoinedBy s nothing added
  unfolding nothing added
  added_by =
      record {
        first = subst⁻¹ (λ (xs : List ℕ). Filled parts (either_note s.first zeros zeros) xs) by.first (noted s.first sv.firsts);
        counts = subst⁻¹ (λ (xs : List ℕ). Filled parts (either_note s.counts zeros zeros) xs) by.counts (noted s.counts sv.sizes);
        noon =
            subst⁻¹ (λ (xs : List Bool). Flagged zeros xs) by.noon
            (record { long = length-replicate most_contracts false; each = λ c h. get_or-replicate most_contracts c false false h ∙ sym (none-listed c h) });
        numbers = by.numbers;
        records = refl;
      }

  module _ (ok : records_checked file ≡ Ok tt) (e : k ≡ record_count file) where
    all_added : j.records ≡ sum j.counts
    unfolding added
    all_added =
        by.records_are
        ∙ e
        ∙ sym (length_cut (record_count file) file)
        ∙ ap length (sym (alone file [] refl ok))
        ∙ sym (records_are file [] s nothing added sv nothing_surveyed ok refl added_by)

    joined_by : JoinedBy s nothing j
    unfolding nothing added
    joined_by = record { first = added_by.first; counts = added_by.counts; noon = added_by.noon; numbers = by.numbers; records = all_added }

    pub alone_places : (none : List ℕ) → none ≡ [] → Places file none j
    alone_places none z =
        subst⁻¹ (λ (x : List ℕ). Places file x j) z
        (places file [] s nothing j sv nothing_surveyed ok refl joined_by (alone_recorded file [] refl ok))

-- a file whose records are accepted: the rates decide
pub records_decide : (file : List ℕ) → records_checked file ≡ Ok tt → checked file ≡ rates_checked (records file)
records_decide file ok = ap (λ (a : Answer). cond (eqb (number_of a) 0) (rates_checked (records file)) a) ok

pub records_refused : (file : List ℕ) → (number_of (records_checked file) ≡ 0 → ⊥) → checked file ≡ records_checked file
records_refused file h = ap (λ (t : Bool). cond t (rates_checked (records file)) (records_checked file)) (ne_eqb (number_of (records_checked file)) 0 h)

-- the verdict, by that on the records
module _ (file : List ℕ) (a : Answer) (e : a ≡ records_checked file) where
  pub refused_there : (number_of a ≡ 0 → ⊥) → a ≡ checked file
  refused_there d = e ∙ sym (records_refused file (λ z. d (ap number_of e ∙ z)))

  -- no row is in another currency
  none_other : number_of a ≡ 0 → any other_row (records file) ≡ false → a ≡ checked file
  none_other z none =
      let ok = accepted_only (records_checked file) (ap number_of (sym e) ∙ z) in
      e ∙ ok ∙ sym (records_decide file ok ∙ no_other_row (rates_of (records file)) 0 (records file) none)

-- what an accepted file passed
pub record Passes (file : List ℕ) : Type 0 where
  pub recorded : records_checked file ≡ Ok tt
  pub rated : rates_checked (records file) ≡ Ok tt

pub passes : (file : List ℕ) → checked file ≡ Ok tt → Passes file
passes file ok = go (eqb (number_of (records_checked file)) 0) refl
  where
    go : (t : Bool) → eqb (number_of (records_checked file)) 0 ≡ t → Passes file
    go true e =
        let r = accepted_only (records_checked file) (eqb-true (number_of (records_checked file)) 0 e) in
        record { recorded = r; rated = sym (records_decide file r) ∙ ok }
    go false e =
        let d = eqb-false (number_of (records_checked file)) 0 e in
        absurd (d (ap number_of (sym (records_refused file d) ∙ ok)))

pub lawful : (file : List ℕ) → checked file ≡ Ok tt → Lawful (records file)
lawful file ok = let p = passes file ok in lawful_of (records file) (recorded file p.recorded) p.rated

-- what the check of a file hands out
module _ (file : List ℕ) (s : Survey) (j : Account) (sv : Surveyed file s) (by : AloneBy s.first s.counts (record_count file) j) where
  alone_stands : checked file ≡ Ok tt → (none : List ℕ) → none ≡ [] → Stands file none j
  alone_stands ok none z =
      let p = passes file ok in
      record {
        lawful = subst⁻¹ Lawful (alone file none z p.recorded) (lawful file ok);
        places = alone_places file s (record_count file) j sv by p.recorded refl none z;
      }

  checked_alone : checked file ≡ Ok tt → CheckedBy file (Ok j)
  checked_alone ok =
      record {
        answer_is = sym ok;
        accepted =
            record {
              alone_by = λ s' sv'. subst (λ (x : Survey). AloneBy x.first x.counts (record_count file) j) (same_survey file s s' sv sv') by;
              stands = alone_stands ok;
            };
      }

-- the records are accepted: the rates are looked at, by what is noted
pub tallied_accepted :
    {file first counts : List ℕ} {a : Answer} {contracts : ℕ} {converts : Bool} → Tallied file a contracts converts first counts
    → number_of a ≡ 0 → Tallied file (Ok tt) contracts converts first counts
tallied_accepted {file} {first} {counts} {a} t z = tallied_as (sym (accepted_only a z)) t

module _ (file : List ℕ) (contracts : ℕ) {converts : Bool} (first counts : List ℕ) (t : Tallied file (Ok tt) contracts converts first counts) where
  abbrev its : Survey
  its = record { answer = Ok tt; contracts = contracts; first = first; counts = counts; converts = converts }

  sv : Surveyed file its
  sv = t.accepted refl

  ok : records_checked file ≡ Ok tt
  ok = sym t.answer_is

  pub few_listed : length (listed_in counts) ≤ contracts
  few_listed = listed_few file its sv ok

  pub no_rates_asked : converts ≡ false → Ok tt ≡ checked file
  no_rates_asked e = none_other file (Ok tt) t.answer_is refl (unconverted file its sv ok e)

  module _ (n : ℕ) (j : Account) (e : n ≡ record_count file) (by : AloneBy first counts n j) where
    pub rated_alone : (none : List ℕ) → none ≡ [] → Places file none j × Recorded (account_of file none)
    rated_alone none z = (alone_places file its n j sv by ok e none z, alone_recorded file none z ok)

    pub rates_alone : (none : List ℕ) → none ≡ [] → rates_checked (account_of file none) ≡ checked file
    rates_alone none z = ap rates_checked (alone file none z ok) ∙ sym (records_decide file ok)

    pub checked_noted : checked file ≡ Ok tt → CheckedBy file (Ok j)
    checked_noted = checked_alone file its j sv (subst (λ (k : ℕ). AloneBy first counts k j) e by)
