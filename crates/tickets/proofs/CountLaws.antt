-- What a ticket is told, by the counts of the account with the tickets put in so far; and the counts with one ticket more or less.
-- Assumes nothing.
use Rattle.std.specs.Prelude.{Ok, Err}
use Prim.Native.Nat.{ℕ, zero, suc, ◌+◌, ◌-◌, ◌≤◌, ◌<◌}
use mathlib.Core.Path.{◌≡◌, refl, sym, ap, ap₂, ◌∙◌, subst, subst⁻¹}
use mathlib.Core.Bool.{Bool, true, false, not, ◌&&◌, ◌||◌, cond, and-false}
use mathlib.Core.List.{List, [], ◌∷◌, ◌++◌}
use lib.Dec.{eqb, leb}
use lib.ListN.{length, get_or, set, take, length-append, length-set}
use lib.Seq.{get_or-set_same, get_or-set_other}
use native.Mathlib.Omega.{arith}
use native.Mathlib.Numerals.{add-one}
use borrow.Author.Tests.{eq-eqb, ne_eqb, eqb-true, eqb-false, leb-true, leb-false, le-leb, lt-leb}
use Rattle.record.specs.Bytes.{record_bytes}
use Rattle.exact.specs.Lists.{keep, any, one_if, count, sum}
use Rattle.exact.proofs.Lists.{count_le, length-keep}
use Rattle.record.specs.Layout.{Record, kind, contract, day, most_contract}
use Rattle.record.specs.Ranges.{unused_byte, field_outside}
use Rattle.record.proofs.Tests.{both}
use Rattle.record.specs.Within.{RowWithin, RateWithin}
use Rattle.record.proofs.Within.{contract_known, row_within}
use Rattle.account.specs.Accepted.{Each}
use Rattle.account.specs.Answers.{number_of, refusal}
use Rattle.account.specs.Check.{the_one_before, unlisted, out_of_order, over_limit, first_of, ◌when◌, or_else, most_records, most_contracts, most_rows}
use Rattle.account.specs.Checked.{rate_refusals, rate_fault_of, checked}
use Rattle.account.specs.Conversions.{row_answer}
use Rattle.account.specs.PartNumbers.{part, rate_part}
use Rattle.account.specs.code.Notes.{no_contract, no_day}
use Rattle.account.specs.Parts.{of_kind, of_contract, contracts_of, prompts_of, rows_of, rates_of}
use Rattle.account.specs.Products.{has_rate, conversion_beyond}
use Rattle.account.specs.code.Rates.{RatesOf}
use Rattle.account.specs.declared.rates.Rates.{Rates}
use Rattle.account.specs.Records.{records, record_count}
use Rattle.account.specs.code.Standing.{Stands, PartOf, Filled, CheckedBy}
use Rattle.account.specs.Joined.{account_of}
use Rattle.account.specs.declared.accounts.Account.{Account}
use Rattle.account.specs.Answers.{Answer}
use Rattle.account.specs.declared.answers.Refusal.TheVariants.{TooLong, CutRecord, UnknownKind}
use Rattle.account.proofs.Alone.{lawful}
use Rattle.account.proofs.Lists.{any_keep, none_counted}
use Rattle.account.proofs.Noted.{part_is}
use Rattle.account.proofs.Passed.{Passed, passed, Known, known_of}
use Rattle.account.proofs.Places.{alone}
use Rattle.account.proofs.Walk.{length_cut}
use Rattle.tickets.specs.Claims.{TicketRow, OneRowMore}
use Rattle.tickets.specs.code.Counts.{CountsOf, SmallCounts, row_fault_by, OneMore, OneLess}
use Rattle.tickets.specs.Ticket.{place, with_ticket, with_tickets, ahead, row_fault, ticket_checked}
use Rattle.tickets.specs.declared.counts.Counts.{Counts}
use Rattle.tickets.proofs.Claims.{shaped, one_row_more, none_told}
use Rattle.tickets.proofs.Counting.{sum_to, sum-places, place_by_lem, known_all, kind-places, fault_by_lem}
use Rattle.tickets.proofs.Inserted.{row_known}
use Rattle.tickets.proofs.Placed as placed
use Rattle.tickets.proofs.Placed.{plain, five_none}
use Rattle.tickets.proofs.Taken.{tickets_last, taken_row, accepted_with, SameParts, same_with, length_all, taken_more, taken_less, taken_last}

four_within : (a b c e : Bool) → first_of (5 when a ∷ 6 when b ∷ 7 when c ∷ 9 when e ∷ []) ≡ 0 → b ≡ false
four_within true b c e h = absurd (omega arith)
four_within false true c e h = absurd (omega arith)
four_within false false c e h = refl

two_none : (a b : Bool) (k : ℕ) → number_of (or_else (first_of (14 when a ∷ 15 when b ∷ [])) k (Ok tt)) ≡ 0 → first_of (14 when a ∷ 15 when b ∷ []) ≡ 0
two_none true b k h = absurd (omega arith)
two_none false true k h = absurd (omega arith)
two_none false false k h = refl

sum_alike : (f g : ℕ → ℕ) → ((k : ℕ) → f k ≡ g k) → (n : ℕ) → sum_to f n ≡ sum_to g n
sum_alike f g e zero = refl
sum_alike f g e (suc n) = ap₂ (λ (a b : ℕ). a + b) (sum_alike f g e n) (e n)

-- ---- an account that stands in one file
module _ (file : List ℕ) (account : Account) (by : CheckedBy file (Ok account)) where
  pub file_ok : checked file ≡ Ok tt
  file_ok = sym by.answer_is

  pub stands_in : (none : List ℕ) → none ≡ [] → Stands file none account
  stands_in none e = by.accepted.stands none e

  same : account_of file [] ≡ records file
  same = alone file [] refl (plain file file_ok).recorded

  pub records_in : account.records ≡ length (records file)
  records_in = (stands_in [] refl).places.all ∙ ap length same

  pub count_in : (n c : ℕ) → n ≤ 4 → c ≤ most_contract → get_or account.counts (part n c) 0 ≡ count (of_contract n c) (records file)
  count_in n c hn hc =
      (stands_in [] refl).places.counts (part n c) (omega arith)
      ∙ ap₂ (λ (p : Record → Bool) (rs : List Record). count p rs) (part_is n c hn hc) same

  pub contracts_in_lem : account.contracts ≡ count (of_kind 1) (records file)
  contracts_in_lem =
      (stands_in [] refl).places.contracts ∙ ap (λ (rs : List Record). length (contracts_of rs)) same
      ∙ length-keep (of_kind 1) (records file)

  pub known_in : Each Known (records file)
  known_in = known_all 0 [] (records file) (plain file file_ok).clean

-- ---- with tickets
module _ (file : List ℕ) (ts : List Record) (k : Counts) (co : CountsOf file ts k) where
  abbrev G : List ℕ
  G = with_tickets file ts

  ok : checked file ≡ Ok tt
  ok = file_ok file k.account co.from_check

  pub with_ok : checked G ≡ Ok tt
  with_ok = accepted_with file ts ok co.taken

  parts : SameParts (records file) (records G)
  parts = same_with file ts ok co.taken

  pub many_with : record_count G ≡ k.account.records + k.tickets
  many_with =
      omega (
        arith,
        length_cut (record_count G) G,
        length_all file ts ok co.taken,
        records_in file k.account co.from_check,
        co.many,
      )

  few : record_count G ≤ most_records
  few = (plain G with_ok).few

  pub many_few : k.account.records + k.tickets ≤ most_records
  many_few = omega (arith, many_with, few)

  contracts_same : count (of_kind 1) (records G) ≡ count (of_kind 1) (records file)
  contracts_same =
      sym (length-keep (of_kind 1) (records G)) ∙ ap length parts.contracts ∙ length-keep (of_kind 1) (records file)

  prompts_same : count (of_kind 2) (records G) ≡ count (of_kind 2) (records file)
  prompts_same =
      kind-places 2 (records G) (known_all 0 [] (records G) (plain G with_ok).clean)
      ∙ sum_alike (λ c. count (of_contract 2 c) (records G)) (λ c. count (of_contract 2 c) (records file))
      (λ c. sym (length-keep (of_contract 2 c) (records G)) ∙ ap length (parts.prompts c) ∙ length-keep (of_contract 2 c) (records file)) most_contracts
      ∙ sym (kind-places 2 (records file) (known_in file k.account co.from_check))

  pub place_is : (t : Record) → place t (records G) ≡ k.above + sum (take (contract t + 1) k.rows)
  place_is t =
      omega (arith, place_by_lem t (records G) k.rows co.rows_are, contracts_same, prompts_same, co.above_is)
      ∙ ap (λ (n : ℕ). k.above + sum (take n k.rows)) (sym (add-one (contract t)))

  pub small : SmallCounts k
  small =
      record {
        above_few = above_most;
        places = co.places;
        rows_few = λ c. omega (arith, co.rows_are c, count_le (of_contract 3 c) (records G), length_cut (record_count G) G, few);
        tickets_few = omega (arith, many_with, few);
      }
    where
      above_most : k.above ≤ most_records
      above_most =
          omega (
            arith,
            place_by_lem [] (records G) k.rows co.rows_are,
            contracts_same,
            prompts_same,
            co.above_is,
            count_le
                (λ r. of_kind 1 r || (of_kind 2 r || (of_kind 3 r && leb (contract r) (contract [])))) (records G),
            length_cut (record_count G) G,
            few,
          )

  -- ---- what is missing
  contract_missing : (c : ℕ) → c ≤ most_contract → no_contract k.account.counts c ≡ not (any (of_contract 1 c) (records G))
  contract_missing c h =
      ap (λ (n : ℕ). eqb n 0) (count_in file k.account co.from_check 1 c (omega arith) h)
      ∙ none_counted (of_contract 1 c) (records file)
      ∙ ap not
      (sym (any_keep (of_kind 1) (λ r. eqb (contract r) c) (records file))
      ∙ ap (any (λ r. eqb (contract r) c)) (sym parts.contracts)
      ∙ any_keep (of_kind 1) (λ r. eqb (contract r) c) (records G))

  day_missing : (none : List ℕ) → none ≡ [] → (c d : ℕ) → no_day (prompts_of c (account_of file none)) d ≡ no_day (prompts_of c (records G)) d
  day_missing none e c d =
      ap (λ (rs : List Record). no_day rs d) (ap (prompts_of c) (alone file none e (plain file ok).recorded) ∙ sym (parts.prompts c))

  module _ (t : Record) where
    alike : (m m' : Bool) (n : ℕ) → (field_outside t ≡ false → m ≡ m') → row_fault_by m n t ≡ row_fault_by m' n t
    alike m m' n e = go (field_outside t) refl
      where
        go : (b : Bool) → field_outside t ≡ b → row_fault_by m n t ≡ row_fault_by m' n t
        go false f = ap (λ (x : Bool). row_fault_by x n t) (e f)
        go true f =
            let six : (x : Bool) → row_fault_by x n t ≡ first_of (5 when unused_byte t ∷ 6 when true ∷ []) =
            λ x. ap (λ (b : Bool). first_of (5 when unused_byte t ∷ 6 when b ∷ 7 when x ∷ 9 when leb most_rows n ∷ [])) f in
            six m ∙ sym (six m')

    abbrev by_parts : List ℕ → ℕ
    by_parts none =
        row_fault_by (no_contract k.account.counts (contract t) || no_day (prompts_of (contract t) (account_of file none)) (day t))
        (get_or k.rows (contract t) 0) t

    pub by_counts_lem :
        (none : List ℕ) (n m x : ℕ)
        → n ≡ row_fault_by (no_contract k.account.counts (contract t) || no_day (prompts_of (contract t) (account_of file none)) (day t)) m t
        → m ≡ get_or k.rows x 0 → x ≡ contract t → n ≡ by_parts none
    by_counts_lem none n m x e f i =
        e
        ∙ ap (λ (j : ℕ). row_fault_by (no_contract k.account.counts (contract t) || no_day (prompts_of (contract t) (account_of file none)) (day t)) j t)
        (f ∙ ap (λ (j : ℕ). get_or k.rows j 0) i)

    abbrev rates : List Record
    rates = rates_of (records G)

    parts_fault :
        (none : List ℕ) → none ≡ [] → TicketRow t
        → by_parts none
        ≡ row_fault_by (not (any (of_contract 1 (contract t)) (records G)) || no_day (prompts_of (contract t) (records G)) (day t))
        (count (of_contract 3 (contract t)) (records G)) t
    parts_fault none e r =
        let c = contract t in
        alike (no_contract k.account.counts c || no_day (prompts_of c (account_of file none)) (day t))
        (not (any (of_contract 1 c) (records G)) || no_day (prompts_of c (records G)) (day t)) (get_or k.rows c 0)
        (λ f. both (contract_missing c (contract_known t (row_known t r.row) f)) (day_missing none e c (day t)))
        ∙ ap (λ (n : ℕ). row_fault_by (not (any (of_contract 1 c) (records G)) || no_day (prompts_of c (records G)) (day t)) n t) (co.rows_are c)

    -- 5 to 9 by the parts of the account, then 14 and 15
    fault_is : (none : List ℕ) → none ≡ [] → TicketRow t → row_fault G t ≡ cond (eqb (by_parts none) 0) (rate_fault_of rates t) (by_parts none)
    fault_is none e r =
        fault_by_lem G with_ok t r ∙ ap (λ (n : ℕ). cond (eqb n 0) (rate_fault_of rates t) n) (sym (parts_fault none e r))

    -- ---- what the ticket is told
    pub tell_2 : (length t ≡ record_bytes → ⊥) → Err CutRecord ≡ ticket_checked G t
    tell_2 d = sym (shaped G t false (eqb (kind t) 3) (eqb (row_fault G t) 0) (leb most_records (record_count G)) (ne_eqb (length t) record_bytes d) refl refl refl)

    pub tell_3 : (p : ℕ) → p ≡ k.above + sum (take (contract t + 1) k.rows) → length t ≡ record_bytes → (kind t ≡ 3 → ⊥) → (Err (UnknownKind p)) ≡ ticket_checked G t
    tell_3 p e w d =
        ap (λ (n : ℕ). Err (UnknownKind n)) (e ∙ sym (place_is t))
        ∙ sym (shaped G t true false (eqb (row_fault G t) 0) (leb most_records (record_count G)) (eq-eqb (length t) record_bytes w) (ne_eqb (kind t) 3 d) refl refl)

    module _ (none : List ℕ) (nothing : none ≡ []) (w : length t ≡ record_bytes) (row : kind t ≡ 3) where
      is_row : TicketRow t
      is_row = record { whole = w; row = row }

      pub tell_row :
          (p n : ℕ) → p ≡ k.above + sum (take (contract t + 1) k.rows) → n ≡ by_parts none → (n ≡ 0 → ⊥)
          → refusal n p ≡ ticket_checked G t
      tell_row p n e f nz =
          let same-n : row_fault G t ≡ n =
          fault_is none nothing is_row
          ∙ ap (λ (b : Bool). cond b (rate_fault_of rates t) (by_parts none)) (ne_eqb (by_parts none) 0 (λ z. nz (f ∙ z))) ∙ sym f in
          ap₂ refusal (sym same-n) (e ∙ sym (place_is t))
          ∙ sym (shaped G t true true false (leb most_records (record_count G)) (eq-eqb (length t) record_bytes w) (eq-eqb (kind t) 3 row)
          (ne_eqb (row_fault G t) 0 (λ z. nz (sym same-n ∙ z))) refl)

      module _ (n : ℕ) (f : n ≡ by_parts none) (z : n ≡ 0) where
        pub row_within_here : RowWithin t
        row_within_here =
            row_within t row
            (four_within (unused_byte t) (field_outside t)
            (no_contract k.account.counts (contract t) || no_day (prompts_of (contract t) (account_of file none)) (day t))
            (leb most_rows (get_or k.rows (contract t) 0)) (sym f ∙ z))

        by_rates : row_fault G t ≡ rate_fault_of rates t
        by_rates =
            fault_is none nothing is_row ∙ ap (λ (b : Bool). cond b (rate_fault_of rates t) (by_parts none)) (eq-eqb (by_parts none) 0 (sym f ∙ z))

        pub tell_rate :
            (p : ℕ) → p ≡ k.above + sum (take (contract t + 1) k.rows) → (a : Answer) → a ≡ row_answer rates p t → (number_of a ≡ 0 → ⊥)
            → a ≡ ticket_checked G t
        tell_rate p e a i nz =
            let m = rate_fault_of rates t in
            let some : m ≡ 0 → ⊥ = λ x. nz (ap number_of i ∙ ap (λ (j : ℕ). number_of (or_else j p (Ok tt))) x) in
            i ∙ ap (λ (b : Bool). cond b (Ok tt) (refusal m p)) (ne_eqb m 0 some)
            ∙ ap₂ refusal (sym by_rates) (e ∙ sym (place_is t))
            ∙ sym (shaped G t true true false (leb most_records (record_count G)) (eq-eqb (length t) record_bytes w) (eq-eqb (kind t) 3 row)
            (ne_eqb (row_fault G t) 0 (λ x. some (sym by_rates ∙ x))) refl)

        module _ (p : ℕ) (a : Answer) (i : a ≡ row_answer rates p t) (none_told : number_of a ≡ 0) where
          no_fault : row_fault G t ≡ 0
          no_fault =
              by_rates ∙ two_none (of_kind 3 t && not (has_rate rates t)) (of_kind 3 t && conversion_beyond rates t) p (sym (ap number_of i) ∙ none_told)

          pub tell_1 : most_records ≤ k.account.records + k.tickets → Err TooLong ≡ ticket_checked G t
          tell_1 h =
              sym (shaped G t true true true true (eq-eqb (length t) record_bytes w) (eq-eqb (kind t) 3 row)
              (eq-eqb (row_fault G t) 0 no_fault) (le-leb most_records (record_count G) (omega (arith, many_with))))

          pub tell_0 : k.account.records + k.tickets < most_records → Ok tt ≡ ticket_checked G t
          tell_0 h =
              sym (shaped G t true true true false (eq-eqb (length t) record_bytes w) (eq-eqb (kind t) 3 row)
              (eq-eqb (row_fault G t) 0 no_fault) (lt-leb most_records (record_count G) (omega (arith, many_with))))

  -- ---- the rates that the code reads
  pub rates_read : (none : List ℕ) → none ≡ [] → (bytes : List ℕ) → PartOf (account_of file none) rate_part bytes → records bytes ≡ rates_of (records G)
  rates_read none e bytes is =
      is.are ∙ ap (keep (of_kind 6)) (alone file none e (plain file ok).recorded) ∙ sym parts.rates

  pub rates_fit : Each RateWithin (rates_of (records G))
  rates_fit = (lawful G with_ok).ranges.rates

  pub told_by :
      (t : Record) (none : List ℕ) → none ≡ [] → (bytes : List ℕ) → PartOf (account_of file none) rate_part bytes → (table : Rates)
      → RatesOf (records bytes) table
      → (p : ℕ) (a : Answer) → ((rates : List Record) → RatesOf rates table → Each RateWithin rates → a ≡ row_answer rates p t)
      → a ≡ row_answer (rates_of (records G)) p t
  told_by t none e bytes is table held p a told =
      told (rates_of (records G)) (subst (λ (rs : List Record). RatesOf rs table) (rates_read none e bytes is) held) rates_fit

-- ---- the counts of a file without tickets
get_d_past : (xs : List ℕ) (c : ℕ) → length xs ≤ c → get_or xs c 0 ≡ 0
get_d_past [] c h = refl
get_d_past (x ∷ xs) zero h = absurd (omega arith)
get_d_past (x ∷ xs) (suc c) h = get_d_past xs c (omega arith)

none-beyond : (n c : ℕ) (rs : List Record) → most_contract < c → Each Known rs → count (of_contract n c) rs ≡ 0
none-beyond n c [] h e = refl
none-beyond n c (r ∷ rs) h e =
    let m = e.0.contracts in
    let z : of_contract n c r ≡ false = ap (λ (b : Bool). of_kind n r && b) (ne_eqb (contract r) c (λ i. omega arith)) ∙ and-false (of_kind n r) in
    ap₂ (λ (b : Bool) (i : ℕ). one_if b + i) z (none-beyond n c rs h e.1)

module _ (file : List ℕ) (account : Account) (by : CheckedBy file (Ok account)) where
  -- how many records of a kind each contract has
  totals_are : (n : ℕ) → n ≤ 4 → (xs : List ℕ) → Filled most_contracts (λ c. get_or account.counts (part n c) 0) xs → (c : ℕ)
      → get_or xs c 0 ≡ count (of_contract n c) (records file)
  totals_are n h xs filled c = go (leb most_contracts c) refl
    where
      go : (b : Bool) → leb most_contracts c ≡ b → get_or xs c 0 ≡ count (of_contract n c) (records file)
      go true e =
          let l = leb-true most_contracts c e in
          get_d_past xs c (omega (arith, filled.long)) ∙ sym (none-beyond n c (records file) (omega arith) (known_in file account by))
      go false e =
          let l = leb-false most_contracts c e in
          filled.each c l ∙ count_in file account by n c h (omega arith)

  pub totals_few : (n : ℕ) → n ≤ 4 → (xs : List ℕ) → Filled most_contracts (λ c. get_or account.counts (part n c) 0) xs → (c : ℕ) → get_or xs c 0 ≤ most_records
  totals_few n h xs filled c =
      omega (
        arith,
        totals_are n h xs filled c,
        count_le (of_contract n c) (records file),
        length_cut (record_count file) file,
        (plain file
            (file_ok file account by)).few,
      )

  pub contracts_few : account.contracts ≤ most_records
  contracts_few =
      omega (
        arith,
        contracts_in_lem file account by,
        count_le (of_kind 1) (records file),
        length_cut (record_count file) file,
        (plain file
            (file_ok file account by)).few,
      )

  pub prompts_few : (xs : List ℕ) → Filled most_contracts (λ c. get_or account.counts (part 2 c) 0) xs → sum (take most_contracts xs) ≤ most_records
  prompts_few xs filled =
      omega (
        arith,
        sum-places xs (λ c. count (of_contract 2 c) (records file)) (totals_are 2 (omega arith) xs filled) most_contracts,
        kind-places 2 (records file) (known_in file account by),
        count_le (of_kind 2) (records file),
        length_cut (record_count file) file,
        (plain file (file_ok file account by)).few,
      )

  pub counts_start :
      (k : Counts) (prompts : List ℕ) → k.account ≡ account → k.tickets ≡ 0
      → Filled most_contracts (λ c. get_or account.counts (part 2 c) 0) prompts → k.above ≡ account.contracts + sum (take most_contracts prompts)
      → Filled most_contracts (λ c. get_or account.counts (part 3 c) 0) k.rows → CountsOf file [] k
  counts_start k prompts a z filled e rows =
      record {
        from_check = subst⁻¹ (λ (x : Account). CheckedBy file (Ok x)) a by;
        taken = λ n h. absurd (omega arith);
        many = z;
        above_is =
            e
            ∙ ap₂ (λ (x y : ℕ). x + y) (contracts_in_lem file account by)
            (sum-places prompts (λ c. count (of_contract 2 c) (records file)) (totals_are 2 (omega arith) prompts filled) most_contracts
            ∙ sym (kind-places 2 (records file) (known_in file account by)));
        places = rows.long;
        rows_are = totals_are 3 (omega arith) k.rows rows;
      }

-- ---- one ticket more
pub taken_passed : (file : List ℕ) (t : Record) → checked file ≡ Ok tt → ticket_checked file t ≡ Ok tt → Passed (ahead file t) t
taken_passed file t ok h =
    let r = taken_row file t h in
    let es = ahead file t in
    passed es t
    (placed.fault_is file ok t r.whole r.row
    ∙ five_none (unused_byte t) (field_outside t) (unlisted es t) (out_of_order (the_one_before es) t) (over_limit es t)
    (rate_refusals (rates_of (records file)) t) (none_told file t h))

count_rows : (c : ℕ) (rs : List Record) → count (of_contract 3 c) rs ≡ length (rows_of c rs)
count_rows c rs = sym (length-keep (of_contract 3 c) rs)

module _ (file : List ℕ) (ts : List Record) (t : Record) where
  abbrev F : List ℕ
  F = with_tickets file ts

  last_records : records (with_tickets file (ts ++ t ∷ [])) ≡ records (with_ticket F t)
  last_records = ap records (tickets_last file ts t)

  module _ (ok : checked F ≡ Ok tt) (h : ticket_checked F t ≡ Ok tt) where
    one : OneRowMore t (records F) (records (with_ticket F t))
    one = one_row_more F t ok (taken_row F t h)

    pub low : contract t ≤ most_contract
    low = (known_of t (taken_passed F t ok h)).contracts

    pub rows_one : count (of_contract 3 (contract t)) (records (with_tickets file (ts ++ t ∷ []))) ≡ count (of_contract 3 (contract t)) (records F) + 1
    rows_one =
        ap (count (of_contract 3 (contract t))) last_records ∙ count_rows (contract t) (records (with_ticket F t)) ∙ ap length one.rows
        ∙ length-append (rows_of (contract t) (records F)) (t ∷ [])
        ∙ ap (λ (n : ℕ). n + 1) (sym (count_rows (contract t) (records F)))

    pub rows_other : (c : ℕ) → (contract t ≡ c → ⊥) → count (of_contract 3 c) (records (with_tickets file (ts ++ t ∷ []))) ≡ count (of_contract 3 c) (records F)
    rows_other c d =
        ap (count (of_contract 3 c)) last_records ∙ count_rows c (records (with_ticket F t)) ∙ ap length (one.other_rows c d)
        ∙ sym (count_rows c (records F))

pub counts_more :
    (file : List ℕ) (ts : List Record) (t : Record) (k m : Counts) → CountsOf file ts k → ticket_checked (with_tickets file ts) t ≡ Ok tt
    → OneMore (contract t) k m → CountsOf file (ts ++ t ∷ []) m
counts_more file ts t k m co h more =
    record {
      from_check = subst⁻¹ (λ (x : Account). CheckedBy file (Ok x)) more.account_is co.from_check;
      taken = taken_more file ts t co.taken h;
      many = more.tickets_are ∙ ap (λ (n : ℕ). n + 1) co.many ∙ sym (length-append ts (t ∷ []));
      above_is = more.above_is ∙ co.above_is;
      places = ap length more.rows_are ∙ length-set k.rows (contract t) _ ∙ co.places;
      rows_are = λ c. ap (λ (xs : List ℕ). get_or xs c 0) more.rows_are ∙ go c (eqb (contract t) c) refl;
    }
  where
    fine : checked (with_tickets file ts) ≡ Ok tt
    fine = with_ok file ts k co

    go :
        (c : ℕ) (b : Bool) → eqb (contract t) c ≡ b
        → get_or (set k.rows (contract t) (get_or k.rows (contract t) 0 + 1)) c 0 ≡ count (of_contract 3 c) (records (with_tickets file (ts ++ t ∷ [])))
    go c true e =
        let i = eqb-true (contract t) c e in
        subst (λ (d : ℕ). get_or (set k.rows (contract t) (get_or k.rows (contract t) 0 + 1)) d 0 ≡ count (of_contract 3 d)
        (records (with_tickets file (ts ++ t ∷ [])))) i
        (get_or-set_same k.rows (contract t) (get_or k.rows (contract t) 0 + 1) 0 (omega (arith, co.places, low file ts t fine h))
        ∙ ap (λ (n : ℕ). n + 1) (co.rows_are (contract t)) ∙ sym (rows_one file ts t fine h))
    go c false e =
        let d = eqb-false (contract t) c e in
        get_or-set_other k.rows (contract t) c (get_or k.rows (contract t) 0 + 1) 0 (λ i. d (sym i)) ∙ co.rows_are c
        ∙ sym (rows_other file ts t fine h c d)

-- ---- one ticket less
module _ (file : List ℕ) (ts : List Record) (t : Record) (k : Counts) (co : CountsOf file (ts ++ t ∷ []) k) where
  pub taken_here : ticket_checked (with_tickets file ts) t ≡ Ok tt
  taken_here = taken_last file ts t co.taken

  pub before_ok : checked (with_tickets file ts) ≡ Ok tt
  before_ok = accepted_with file ts (file_ok file k.account co.from_check) (taken_less file ts t co.taken)

  pub some_rows : 1 ≤ get_or k.rows (contract t) 0
  some_rows = omega (arith, co.rows_are (contract t), rows_one file ts t before_ok taken_here)

  pub some_tickets : 1 ≤ k.tickets
  some_tickets = omega (arith, co.many, length-append ts (t ∷ []))

  pub known_low : contract t ≤ most_contract
  known_low = low file ts t before_ok taken_here

  pub counts_less : (m : Counts) → OneLess (contract t) k m → CountsOf file ts m
  counts_less m less =
      record {
        from_check = subst⁻¹ (λ (x : Account). CheckedBy file (Ok x)) less.account_is co.from_check;
        taken = taken_less file ts t co.taken;
        many = less.tickets_are ∙ omega (arith, co.many, length-append ts (t ∷ []));
        above_is = less.above_is ∙ co.above_is;
        places = ap length less.rows_are ∙ length-set k.rows (contract t) _ ∙ co.places;
        rows_are = λ c. ap (λ (xs : List ℕ). get_or xs c 0) less.rows_are ∙ go c (eqb (contract t) c) refl;
      }
    where
      go :
          (c : ℕ) (b : Bool) → eqb (contract t) c ≡ b
          → get_or (set k.rows (contract t) (get_or k.rows (contract t) 0 - 1)) c 0 ≡ count (of_contract 3 c) (records (with_tickets file ts))
      go c true e =
          let i = eqb-true (contract t) c e in
          subst (λ (d : ℕ). get_or (set k.rows (contract t) (get_or k.rows (contract t) 0 - 1)) d 0 ≡ count (of_contract 3 d)
          (records (with_tickets file ts))) i
          (get_or-set_same k.rows (contract t) (get_or k.rows (contract t) 0 - 1) 0 (omega (arith, co.places, known_low))
          ∙ omega (arith, co.rows_are (contract t), rows_one file ts t before_ok taken_here))
      go c false e =
          let d = eqb-false (contract t) c e in
          get_or-set_other k.rows (contract t) c (get_or k.rows (contract t) 0 - 1) 0 (λ i. d (sym i)) ∙ co.rows_are c
          ∙ rows_other file ts t before_ok taken_here c d
