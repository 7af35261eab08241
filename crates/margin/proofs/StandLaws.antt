-- The parts of an account, as the code has them, are the account's own records, and a contract's are within their ranges.
-- Assumes nothing.
use Prim.Native.Nat.{ℕ, zero, suc, ◌+◌, ◌*◌, ◌≤◌, ◌<◌}
use native.Mathlib.Nat.{le_of_suc-le-suc, not-suc-le-zero}
use native.Mathlib.Omega.{arith}
use mathlib.Core.Path.{◌≡◌, refl, sym, ap, ◌∙◌, subst, subst⁻¹}
use mathlib.Core.Bool.{Bool, true, false, ◌&&◌}
use mathlib.Core.List.{List, [], ◌∷◌}
use lib.Dec.{lit≤}
use lib.ListN.{length, get_or}
use Rattle.record.specs.Bytes.{record_bytes}
use Rattle.exact.specs.Lists.{cons_if, keep, count, one_if}
use Rattle.record.specs.Layout.{Record, contract, most_contract}
use Rattle.account.specs.Lawful.{Lawful}
use Rattle.account.specs.PartNumbers.{part, entry_part}
use Rattle.account.specs.Parts.{of_kind, of_contract, contracts_of, prompts_of, rows_of, spreads_of, entries_of}
use Rattle.account.specs.Records.{records, record_count}
use Rattle.account.specs.code.Standing.{PartOf, Stands}
use Rattle.account.specs.Joined.{account_of}
use Rattle.account.specs.declared.accounts.Account.{Account}
use Rattle.account.specs.declared.rates.Rates.{Rates}
use Rattle.account.proofs.Days.{none_kept}
use Rattle.account.proofs.Every.{length_kept}
use Rattle.account.proofs.Standing.{contract-part, one_record}
use Rattle.account.specs.Check.{most_contracts, most_prompts, most_rows}
use Rattle.spread.specs.declared.Delta.{Delta}
use Rattle.formulas.specs.declared.rows.Position.{Position}
use Rattle.margin.specs.code.Beside.{own_of}
use Rattle.margin.specs.Books.{asks}
use Rattle.formulas.specs.Contract.{parts_of}
use Rattle.margin.specs.code.Lined.{PositionAt}
use Rattle.formulas.specs.code.Position.{RatedBy, PositionOf, Bounded, OneDay, with_nets}
use Rattle.formulas.specs.code.Promised.{BookFit, contract_with}
use Rattle.formulas.specs.code.Within.{ContractFit, EntriesFit}
use Rattle.margin.proofs.AcceptLaws.{none_within, contract_within, own_within, entries_within, each_unrated}
use Rattle.formulas.proofs.PositionBounds.{Rated, bounded, wider}
use Rattle.formulas.proofs.RecordLaws.{count_is}
use Rattle.formulas.proofs.ContractLaws.{contract_with_lem}

-- ---- the one record of a contract's own part

keep-keep : (p q : Record → Bool) (xs : List Record) → keep q (keep p xs) ≡ keep (λ x. p x && q x) xs
keep-keep p q [] = refl
keep-keep p q (x ∷ xs) = go (p x) (keep-keep p q xs)
  where
    go : (t : Bool) → keep q (keep p xs) ≡ keep (λ y. p y && q y) xs → keep q (cons_if t x (keep p xs)) ≡ cons_if (t && q x) x (keep (λ y. p y && q y) xs)
    go true h = ap (cons_if (q x) x) h
    go false h = h

pub kept_at : (p : Record → Bool) (xs : List Record) (i : ℕ) → i < length xs → p (get_or xs i []) ≡ true → count p xs ≤ 1 → keep p xs ≡ get_or xs i [] ∷ []
kept_at p [] i h e few = absurd (not-suc-le-zero h)
kept_at p (x ∷ xs) zero h e few =
    ap (λ (t : Bool). cons_if t x (keep p xs)) e
    ∙ ap (λ (ys : List Record). x ∷ ys) (none_kept p xs (omega (arith, ap (λ (t : Bool). one_if t + count p xs) e, few)))
kept_at p (x ∷ xs) (suc i) h e few = go (p x) refl few (λ k. kept_at p xs i (le_of_suc-le-suc h) e k)
  where
    go : (t : Bool) → p x ≡ t → one_if t + count p xs ≤ 1 → (count p xs ≤ 1 → keep p xs ≡ get_or xs i [] ∷ []) → cons_if (p x) x (keep p xs) ≡ get_or xs i [] ∷ []
    go true f k rest = absurd (omega (arith, k, ap length (rest (omega arith)), length_kept p xs))
    go false f k rest = ap (λ (t : Bool). cons_if t x (keep p xs)) f ∙ rest (omega arith)

-- ---- what the account says of itself

module _ (morning noon : List ℕ) (a : Account) (st : Stands morning noon a) where
  pub few_contracts : a.contracts ≤ most_contracts
  few_contracts = omega (arith, st.places.contracts, st.lawful.limits.contracts)

  pub number_at : (i : ℕ) → i < a.contracts → (c : ℕ) → c ≡ get_or a.numbers i 0 → c ≡ contract (get_or (contracts_of (account_of morning noon)) i [])
  number_at i h c e = e ∙ st.places.number i h

  pub listed_at : (i : ℕ) → i < a.contracts → i < length (contracts_of (account_of morning noon))
  listed_at i h = omega (arith, st.places.contracts)

  pub no_entries : get_or a.counts entry_part 0 ≡ 0 → entries_of (account_of morning noon) ≡ []
  no_entries z = none_kept (of_kind 5) (account_of morning noon) (sym (st.places.counts entry_part (omega arith)) ∙ z)

module _ (account : List Record) (law : Lawful account) where
  -- ---- the intercontract spreads
  module _ (bytes : List ℕ) (ep : PartOf account entry_part bytes) where
    pub entries_part : records bytes ≡ entries_of account
    entries_part = ep.are

    pub entries_fit : EntriesFit (records bytes)
    entries_fit = subst⁻¹ EntriesFit entries_part (entries_within account law)

  -- ---- a contract's parts by its number
  module _ (c : ℕ) (h : c ≤ most_contract) where
    pub of_contract_lem : (k : ℕ) → k ≤ 4 → (bytes : List ℕ) → PartOf account (part k c) bytes → records bytes ≡ keep (of_contract k c) account
    of_contract_lem k hk bytes is = is.are ∙ contract-part k c hk h account

    -- its own record
    module _ (own : List ℕ) (eo : PartOf account (part 1 c) own) where
      own_long : length own ≡ length (keep (of_contract 1 c) account) * record_bytes
      own_long = eo.whole ∙ ap (λ (rs : List Record). length rs * record_bytes) (contract-part 1 c (omega arith) h account)

      pub own_by : own ≡ own_of c account
      own_by =
          go (keep (of_contract 1 c) account) refl (omega (arith, length_kept (of_contract 1 c) account, law.named.once c))
          ∙ ap (λ (rs : List Record). get_or rs 0 []) (sym (keep-keep (of_kind 1) (asks c) account))
        where
          nil : (bytes : List ℕ) → length bytes ≡ 0 → bytes ≡ []
          nil [] e = refl
          nil (x ∷ bytes) e = absurd (omega arith)

          go : (xs : List Record) → keep (of_contract 1 c) account ≡ xs → length xs ≤ 1 → own ≡ get_or (keep (of_contract 1 c) account) 0 []
          go [] e few =
              nil own (own_long ∙ ap (λ (rs : List Record). length rs * record_bytes) e) ∙ ap (λ (rs : List Record). get_or rs 0 []) (sym e)
          go (x ∷ []) e few =
              one_record own x (of_contract_lem 1 (omega arith) own eo ∙ e) (own_long ∙ ap (λ (rs : List Record). length rs * record_bytes) e)
              ∙ ap (λ (rs : List Record). get_or rs 0 []) (sym e)
          go (x ∷ y ∷ xs) e few = absurd (omega arith)

    -- what its rows come to
    module _ (prompts rows : List ℕ) (ep : PartOf account (part 2 c) prompts) (er : PartOf account (part 3 c) rows) where
      pub rows_room : ContractFit [] (prompts_of c account) (records rows) (spreads_of c account)
      rows_room = rw (of_contract_lem 3 (omega arith) rows er) (contract_within account law [] c none_within)

      pub prompts_few : record_count prompts ≤ most_prompts
      prompts_few = omega (arith, count_is prompts, ap length (of_contract_lem 2 (omega arith) prompts ep), law.limits.prompts c)

      pub rows_placed : OneDay (records prompts) (records rows)
      rows_placed = subst⁻¹ (λ (ps : List Record). OneDay ps (records rows)) (of_contract_lem 2 (omega arith) prompts ep) rows_room.one_day

      pub rows_rated_by : (t : Rates) → RatedBy t (rows_of c account) → RatedBy t (records rows)
      rows_rated_by t = subst⁻¹ (RatedBy t) (of_contract_lem 3 (omega arith) rows er)

      pub position_is : (rates : List Record) (u : ℕ) (p : Position) → PositionOf rates u (records prompts) (records rows) p → Bounded most_rows p
          → PositionAt rates u account c p
      position_is rates u p is most =
          record {
            is = subst (λ (rs : List Record). PositionOf rates u (prompts_of c account) rs p) (of_contract_lem 3 (omega arith) rows er)
                (subst (λ (ps : List Record). PositionOf rates u ps (records rows) p) (of_contract_lem 2 (omega arith) prompts ep) is);
            most = most;
          }

      -- the same of its net deltas alone
      pub nets_here : (nets : List Delta) → PositionOf [] 1 (records prompts) (records rows) (with_nets [] 1 (records rows) nets)
          → PositionAt [] 1 account c (with_nets [] 1 (rows_of c account) nets)
      nets_here nets is =
          let same = of_contract_lem 3 (omega arith) rows er in
          let fit = rows_room.rows_within in
          let p = with_nets [] 1 (records rows) nets in
          let rated : Rated [] (records rows) = subst⁻¹ (Rated []) same (each_unrated account law c) in
          subst (λ (its : List Record). PositionAt [] 1 account c (with_nets [] 1 its nets)) same
          (position_is [] 1 p is
          (wider (length (records rows)) most_rows p (omega (arith, fit.few)) (bounded [] 1 (lit≤ tt) (records prompts) (records rows) p fit rated is)))

    -- its prompts and interprompt spreads
    module _ (prompts spreads : List ℕ) (ep : PartOf account (part 2 c) prompts) (es : PartOf account (part 4 c) spreads)
        (P : List Record → List Record → Type 0) where
      pub parts_read : P (prompts_of c account) (spreads_of c account) → P (records prompts) (records spreads)
      parts_read x =
          subst⁻¹ (λ (ps : List Record). P ps (records spreads)) (of_contract_lem 2 (omega arith) prompts ep)
          (subst⁻¹ (λ (ss : List Record). P (prompts_of c account) ss) (of_contract_lem 4 (omega arith) spreads es) x)

      pub parts_told : P (records prompts) (records spreads) → P (prompts_of c account) (spreads_of c account)
      parts_told x =
          subst (λ (ps : List Record). P ps (spreads_of c account)) (of_contract_lem 2 (omega arith) prompts ep)
          (subst (λ (ss : List Record). P (records prompts) ss) (of_contract_lem 4 (omega arith) spreads es) x)

    -- a contract without a record of its own
    module _ (p : Position) (at : PositionAt [] 1 account c p) where
      pub book_fits : BookFit (prompts_of c account) (spreads_of c account) p
      book_fits =
          record
          { own = []; fits = record { rates = []; rows = rows_of c account; fit = contract_within account law [] c none_within; is = at.is; most = at.most } }

      pub by_number : contract_with [] (prompts_of c account) (spreads_of c account) p ≡ parts_of account c
      by_number = sym (contract_with_lem [] [] (prompts_of c account) (rows_of c account) (spreads_of c account) p at.is)

  -- the number of a contract of the account
  pub own_number : (i : ℕ) → i < length (contracts_of account) → contract (get_or (contracts_of account) i []) ≤ most_contract
  own_number i here = (own_within account law i here).contracts
