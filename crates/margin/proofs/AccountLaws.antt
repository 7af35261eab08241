-- The lines of an account's contracts, the intercontract table over them, credits and figures.
-- Assumes nothing.
use Prim.Native.Nat.{ℕ, suc, ◌+◌, ◌*◌, ◌≤◌, ◌<◌, zero-le, suc-le-suc}
use native.Mathlib.Nat.{le_trans, le_of_suc-le-suc, not-suc-le-zero, mul-le-mul_right}
use native.Mathlib.Omega.{arith}
use mathlib.Core.Path.{◌≡◌, refl, sym, ap, ap₂, ◌∙◌, subst, subst⁻¹}
use mathlib.Core.Bool.{true}
use mathlib.Core.List.{List, [], ◌∷◌, map, map-map}
use lib.IntN.{ℤ, pos, nat_abs}
use lib.ListN.{length, get_or, take, length-map}
use lib.Seq.{get_or-take, length-take-le}
use Rattle.exact.proofs.Lists.{get_d_map}
use Rattle.record.specs.Layout.{Record, contract, unit, percent}
use Rattle.account.specs.Parts.{contracts_of, entries_of}
use Rattle.account.specs.Records.{records}
use Rattle.account.specs.Lawful.{Lawful}
use Rattle.account.specs.PartNumbers.{entry_part}
use Rattle.account.specs.code.Standing.{PartOf}
use Rattle.spread.specs.code.Book.{by_place, delta_entry}
use Rattle.spread.specs.Steps.{Open, steps, numbers, used_of, unused_of}
use Rattle.spread.specs.declared.Prompts.{Prompts}
use Rattle.spread.specs.declared.Spreads.{Spreads}
use Rattle.spread.specs.declared.Table.{Table}
use Rattle.spread.specs.declared.book.Book.{Book}
use Rattle.spread.specs.Accepted as given
use Rattle.spread.specs.Accepted.{prompt_places, spread_places}
use Rattle.formulas.specs.declared.amount.Amount.{Amount}
use Rattle.formulas.specs.declared.line.Line.{Line}
use Rattle.formulas.specs.Bounds.{most_delta, most_formed}
use Rattle.formulas.specs.Contract.{Contract, contracts, parts_in, as_tier, contract_net, credit_of}
use Rattle.formulas.specs.Credit.{credit, credits_by, entry_use, unused_by, twice_price_risk}
use Rattle.formulas.specs.Deltas.{intercontract}
use Rattle.margin.specs.Figures.{figures, figures_over}
use Rattle.formulas.specs.code.Lines.{no_line, figures_from}
use Rattle.formulas.specs.code.Promised.{BookOf, FormedOf, LineOf}
use Rattle.margin.specs.Books.{book_by, table_question}
use Rattle.margin.specs.code.Asked.{BookIs}
use Rattle.margin.specs.code.Lined.{Lines, LinesOf, TiersIn}
use Rattle.margin.proofs.AnswerLaws.{book_by-steps}
use Rattle.formulas.specs.code.Sums.{interleaved, deltas_in, spreads_at}
use Rattle.formulas.specs.code.Tables.{TableOf}
use Rattle.formulas.specs.code.Table.{tier_of, TiersFrom, TableRoom, LinesRise, CreditsRoom, CreditsOf, earns}
use Rattle.margin.proofs.AcceptLaws.{numbers_rise}
use Rattle.formulas.proofs.BookLaws.{first_at_lem, second_at, over_arrays}
use Rattle.formulas.proofs.CreditLaws.{credits_by_lem}
use Rattle.margin.proofs.FigureLaws.{Lined, Apart, Credited, tiers_are, tiers_sound, tier_sizes, unused_is, entry_use_within, figures_are}
use Rattle.formulas.proofs.LineLaws.{numbers-length}
use Rattle.margin.proofs.StandLaws.{entries_part, entries_fit}
use Rattle.formulas.proofs.StepBounds.{number_within}

-- ---- from places to lists

lined_from : (ks : List Contract) (d : Contract) (ls : List Line) → length ks ≤ length ls
    → ((i : ℕ) → i < length ks → LineOf (get_or ks i d) (get_or ls i no_line)) → Lined ks (take (length ks) ls)
lined_from [] d ls h e = tt
lined_from (k ∷ ks) d [] h e = absurd (not-suc-le-zero h)
lined_from (k ∷ ks) d (l ∷ ls) h e = (e 0 (suc-le-suc zero-le), lined_from ks d ls (le_of_suc-le-suc h) (λ i m. e (suc i) (suc-le-suc m)))

apart_from : (ls : List Line) → ((i j : ℕ) → i < j → j < length ls → get_or (map (λ l. l.contract) ls) i 0 < get_or (map (λ l. l.contract) ls) j 0) → Apart ls
apart_from [] h = tt
apart_from (l ∷ ls) h = (
  λ k m e. let a = h 0 (suc k) (suc-le-suc zero-le) (suc-le-suc m) in omega arith,
  apart_from ls
      (λ i j k m. h (suc i) (suc j) (suc-le-suc k) (suc-le-suc m)),
)

credited_from : (es : List Record) (table : List Open) (ks : List Contract) (d : Contract) (cs : List Amount) → length ks ≤ length cs
    → ((i : ℕ) → i < length ks → (get_or cs i (record { 0 = 0 })).0 ≡ credit_of es table (get_or ks i d)) → Credited es table ks (take (length ks) cs)
credited_from es table [] d cs h e = tt
credited_from es table (k ∷ ks) d [] h e = absurd (not-suc-le-zero h)
credited_from es table (k ∷ ks) d (c ∷ cs) h e =
    (e 0 (suc-le-suc zero-le), credited_from es table ks d cs (le_of_suc-le-suc h) (λ i m. e (suc i) (suc-le-suc m)))

-- each contract has its line
module _ (account : List Record) (all : Lines) (is : LinesOf account all) where
  pub its_line : (i : ℕ) → i < all.count → LineOf (get_or (contracts account) i (parts_in account [])) (get_or all.line i no_line)
  its_line i h =
      subst⁻¹ (λ (k : Contract). LineOf k (get_or all.line i no_line))
      (get_d_map (parts_in account) (contracts_of account) i [] (parts_in account []) (omega (arith, is.count_is))) (is.each i h)

  pub all_lined : Lined (contracts account) (take all.count all.line)
  all_lined =
      let e : length (contracts account) ≡ all.count = length-map (contracts_of account) (parts_in account) ∙ sym is.count_is in
      subst (λ (m : ℕ). Lined (contracts account) (take m all.line)) e
      (lined_from (contracts account) (parts_in account []) all.line (omega (arith, e, is.few, is.places)) (λ i h. its_line i (omega (arith, e))))

  -- the contracts as tiers, by their lines
  pub lined_tiers : (p : Prompts) → TiersFrom all.count all.line p → TiersIn account p
  lined_tiers p tiers =
      let ks = contracts account in
      let ls = take all.count all.line in
      let same = tiers_are ks ls all_lined in
      record {
        count_is = tiers.count_is ∙ is.count_is;
        few = omega (arith, tiers.count_is, is.few);
        opens_are = tiers.opens_are ∙ same;
        nets_are =
            ap (λ (n : ℕ). take n (deltas_in p.net)) tiers.count_is
            ∙ tiers.nets_are
            ∙ sym (map-map (λ q. q.unused) tier_of ls)
            ∙ ap (map (λ q. q.unused)) same
            ∙ map-map (λ q. q.unused) as_tier ks;
        tiers_sound = subst (λ (ps : List Open). given.every given.sound_prompt ps ≡ true) same (tiers_sound ks ls all_lined);
      }

module _ (account : List Record) (law : Lawful account) (all : Lines) (is : LinesOf account all) (part : List ℕ) (ep : PartOf account entry_part part) where
  abbrev n : ℕ
  n = all.count

  abbrev ls : List Line
  ls = take all.count all.line

  abbrev ks : List Contract
  ks = contracts account

  abbrev kd : Contract
  kd = parts_in account []

  pub ks_length : length ks ≡ n
  ks_length = length-map (contracts_of account) (parts_in account) ∙ sym is.count_is

  ls_length : length ls ≡ n
  ls_length = length-take-le n all.line (omega (arith, is.few, is.places))

  line_at : (i : ℕ) → i < n → LineOf (get_or ks i kd) (get_or all.line i no_line)
  line_at = its_line account all is

  pub lined : Lined ks ls
  lined = all_lined account all is

  number_at : (i : ℕ) → i < n → get_or (map (λ l. l.contract) ls) i 0 ≡ contract (get_or (contracts_of account) i [])
  number_at i h =
      get_d_map (λ l. l.contract) ls i no_line 0 (omega (arith, ls_length))
      ∙ ap (λ (l : Line). l.contract) (get_or-take n all.line i no_line h)
      ∙ (is.each i h).contract_is

  apart : Apart ls
  apart =
      apart_from ls
      (λ i j k m.
      let a : j < n = omega (arith, ls_length) in
      let b : i < n = omega arith in
      let c = numbers_rise account law i j k (omega (arith, is.count_is)) in
      let e = number_at i b in
      let f = number_at j a in
      omega arith)

  rising : LinesRise n all.line
  rising =
      record {
        few = is.few;
        numbers = λ i h. (is.each i h).within.contract_within;
        rise =
            λ i j k m.
            let b : i < n = omega arith in
            let c = numbers_rise account law i j k (omega (arith, is.count_is)) in
            omega (arith, (is.each i b).contract_is, (is.each j m).contract_is);
      }

  pub table_room : TableRoom n all.line (records part)
  table_room =
      record {
        few = is.few;
        tiers_sound = tiers_sound ks ls lined;
        entries_within = entries_fit account law part ep;
      }

  -- a book of the table that formed these numbers
  abbrev pub book_of : List Spreads → List Spreads → Book
  book_of firsts seconds =
      record {
        accepted = true;
        first = firsts;
        second = seconds;
        used = by_place prompt_places (delta_entry (used_of (steps (map intercontract (records part))) (map tier_of ls)));
        unused = by_place prompt_places (delta_entry (unused_of (steps (map intercontract (records part))) (map tier_of ls)));
      }

  pub book-formed : (firsts seconds : List Spreads) → FormedOf (steps (map intercontract (records part))) (map tier_of ls) firsts seconds
      → BookOf (steps (map intercontract (records part))) (map tier_of ls) (book_of firsts seconds)
  book-formed firsts seconds is =
      record { first_is = is.first_is; second_is = is.second_is; used_is = refl; unused_is = refl }

  -- where its steps are run, it is the question's book
  pub run_book : (p : Prompts) (t : Table) → TiersFrom n all.line p → TableOf intercontract part t
      → BookIs account table_question (given.steps_of t) (given.open_of p)
  run_book p t tiers table =
      record {
        asked_is = refl;
        is =
            book_by-steps account law table_question refl
            ∙ ap₂ book_by
            (ap (λ (es : List Record). steps (map intercontract es)) (sym (entries_part account law part ep)) ∙ sym (ap steps table.spreads_are))
            (sym (tiers.opens_are ∙ tiers_are ks ls lined));
      }

  module _ (b : Book) (bk : BookOf (steps (map intercontract (records part))) (map tier_of ls) b) where
    abbrev ns : List ℕ
    ns = numbers (steps (map intercontract (records part))) (map tier_of ls)

    formed_most : (j : ℕ) → get_or ns j 0 ≤ most_formed
    formed_most j =
        let t = tier_sizes ks ls lined in
        let m = mul-le-mul_right most_delta is.few in
        le_trans (number_within (steps (map intercontract (records part))) (map tier_of ls) j) (omega (arith, ap (λ (x : ℕ). x * most_delta) ls_length))

    line_here : (i : ℕ) → i < n → get_or ls i no_line ≡ get_or all.line i no_line
    line_here i h = get_or-take n all.line i no_line h

    use_most : (i : ℕ) → i < n → (k : ℕ) → k < length (records part) → entry_use (get_or all.line i no_line).contract (get_or (records part) k [])
        (spreads_at b.first k) (spreads_at b.second k) ≤ nat_abs (get_or all.line i no_line).net.0
    use_most i h k m =
        let l : k < spread_places = omega (arith, (entries_fit account law part ep).few) in
        let c = (get_or all.line i no_line).contract in
        let u = entry_use_within c (records part) (map tier_of ls) (entries_fit account law part ep) k m in
        let v : unused_by c (map tier_of ls) ≡ nat_abs (get_or all.line i no_line).net.0 =
        subst (λ (x : Line). unused_by x.contract (map tier_of ls) ≡ nat_abs x.net.0) (line_here i h)
        (unused_is ls no_line apart i (omega (arith, ls_length)))
        in
        let w = ap₂ (λ (x y : ℕ). entry_use c (get_or (records part) k []) x y) (first_at_lem bk k l) (second_at bk k l) in
        omega arith

    pub credits-room : CreditsRoom n all.line (records part) b.first b.second
    credits-room =
        record {
          rising = rising;
          each =
              λ i h.
              record {
                most = (entries_fit account law part ep).few;
                each =
                    λ k m.
                    let l : k < spread_places = omega (arith, (entries_fit account law part ep).few) in
                    record {
                      unit_within = (line_at i h).unit_within;
                      price_within = (line_at i h).price_within;
                      net_within = (line_at i h).net_within;
                      percent_within = ((entries_fit account law part ep).each k m).percent_within;
                      first_within = subst⁻¹ (λ (x : ℕ). x ≤ most_formed) (first_at_lem bk k l) (formed_most (2 * k));
                      second_within = subst⁻¹ (λ (x : ℕ). x ≤ most_formed) (second_at bk k l) (formed_most (2 * k + 1));
                      use_within = use_most i h k m;
                    };
              };
        }

    module _ (cs : List Amount) (earned : CreditsOf n all.line (records part) b.first b.second cs) where
      -- what a line earns is its contract's credit
      earns-credit : (i : ℕ) → i < n → earns (get_or all.line i no_line) (records part) b.first b.second ≡ credit_of (records part)
          (map as_tier ks) (get_or ks i kd)
      earns-credit i h =
          let l = get_or all.line i no_line in
          let k = get_or ks i kd in
          let li = line_at i h in
          ap₂ (λ (u c : ℕ). credits_by u c l.twice_price (nat_abs l.net.0) (records part) (interleaved b.first b.second)) li.unit_is
          li.contract_is
          ∙ ap₂ (λ (t : ℕ) (z : ℤ). credits_by (unit k.own) (contract k.own) t (nat_abs z) (records part) (interleaved b.first b.second))
          li.price_is li.net_is
          ∙ ap₂ (λ (x y : List Spreads). credits_by (unit k.own) (contract k.own) (twice_price_risk k.totals) (nat_abs (contract_net k))
          (records part) (interleaved x y)) bk.first_is bk.second_is
          ∙ over_arrays
          (λ e x y. credit (unit k.own) (twice_price_risk k.totals) (entry_use (contract k.own) e x y) (percent e) (nat_abs (contract_net k)))
          (records part) ns spread_places (numbers-length intercontract (records part) (map tier_of ls)) (entries_fit account law part ep).few
          ∙ ap (λ (ps : List Open). credits_by (unit k.own) (contract k.own) (twice_price_risk k.totals) (nat_abs (contract_net k)) (records part)
          (numbers (steps (map intercontract (records part))) ps)) (tiers_are ks ls lined)
          ∙ sym (credits_by_lem (unit k.own) (contract k.own) (twice_price_risk k.totals) (nat_abs (contract_net k)) (records part) (map as_tier ks)
          (entries_fit account law part ep))

      credited : Credited (records part) (map as_tier ks) ks (take n cs)
      credited =
          subst (λ (m : ℕ). Credited (records part) (map as_tier ks) ks (take m cs)) ks_length
          (credited_from (records part) (map as_tier ks) ks kd cs (omega (arith, ks_length, is.few, earned.places))
          (λ i h. let l : i < n = omega (arith, ks_length) in earned.each i l ∙ earns-credit i l))

      pub answer_is : map pos (figures_from ls (take n cs)) ≡ figures account
      answer_is =
          ap (map pos) (figures_are (records part) ks ls (take n cs) lined credited)
          ∙ ap (λ (x : List Record). map pos (figures_over x ks)) (entries_part account law part ep)

-- the book of a table without spreads goes by the contracts
pub unspread_book : (account : List Record) → Lawful account → entries_of account ≡ [] → BookIs account table_question [] (map as_tier (contracts account))
unspread_book account law none =
    record {
      asked_is = refl;
      is =
          book_by-steps account law table_question refl
          ∙ ap (λ (es : List Record). book_by (steps (map intercontract es)) (map as_tier (contracts account))) none;
    }
