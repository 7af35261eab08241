-- An account that but for its rows stands in the files: its lines, its tiers and what is asked about, by what each contract's rows
-- come to.
-- Assumes nothing.
use Prim.Native.Nat.{ℕ, ◌+◌, ◌*◌, ◌≤◌, ◌<◌}
use native.Mathlib.Omega.{arith}
use mathlib.Core.Path.{◌≡◌, refl, sym, ap, ap₂, ◌∙◌, subst, subst⁻¹}
use mathlib.Core.Bool.{Bool, true, false, cond, ◌||◌}
use mathlib.Core.List.{List, [], ◌∷◌, map}
use borrow.Author.Tests.{eq-eqb, ne_eqb}
use lib.IntN.{ℤ, nat_abs}
use lib.ListN.{length, get_or, take}
use lib.Dec.{eqb}
use Rattle.record.specs.Bytes.{record_bytes}
use Rattle.exact.specs.Lists.{any, cons_if, keep, sum, sum_ℤ}
use Rattle.exact.proofs.Lists.{any_at}
use Rattle.record.specs.Layout.{Record, contract, unit, most_unit, most_contract}
use Rattle.record.specs.Within as ranges
use Rattle.account.specs.Accepted.{Each}
use Rattle.account.specs.Lawful.{Lawful}
use Rattle.account.specs.PartNumbers.{part, entry_part}
use Rattle.account.specs.Parts.{of_kind, contracts_of, prompts_of, rows_of, spreads_of, entries_of, rates_of}
use Rattle.account.specs.code.Rates.{RatesOf}
use Rattle.account.specs.Records.{records, record_count}
use Rattle.account.specs.code.Standing.{PartOf, Stands}
use Rattle.account.specs.Joined.{account_of}
use Rattle.account.specs.declared.accounts.Account.{Account}
use Rattle.account.specs.declared.rates.Rates.{Rates}
use Rattle.account.specs.Check.{most_prompts, most_rows, most_spreads}
use Rattle.formulas.specs.declared.line.Line.{Line}
use Rattle.formulas.specs.declared.rows.Position.{Position}
use Rattle.margin.specs.declared.uses.Asking.{Asking}
use Rattle.margin.specs.code.Beside.{own_of, unit_of, Besides}
use Rattle.margin.specs.Books.{book, book_by, asks, answered, table_question}
use Rattle.spread.specs.Steps.{Open, steps}
use Rattle.spread.specs.code.Lent.{deltas_from}
use Rattle.formulas.specs.Bounds.{most_delta}
use Rattle.formulas.specs.Deltas.{opens_with, interprompt, net_deltas}
use Rattle.formulas.specs.Contract.{Contract, contracts, contract_from, parts_in, parts_of, as_tier, contract_steps, opens_of, table_steps}
use Rattle.margin.specs.code.Lined.{PositionAt, TierIs}
use Rattle.formulas.specs.code.Position.{PositionOf, position_in, with_nets, Bounded, RowsFit, RatedBy, OneDay}
use Rattle.margin.specs.code.Positions.{ContractIn}
use Rattle.formulas.specs.code.Promised.{LineOf, PositionFit, BookFit, BookRoom, contract_with}
use Rattle.margin.specs.code.Asked.{AskedBy, BookIs}
use Rattle.formulas.specs.code.Sums.{deltas_in}
use Rattle.margin.specs.code.Asking.{Asks}
use Rattle.margin.proofs.AcceptLaws.{none_within, contract_within, rows_rated}
use Rattle.margin.proofs.AnswerLaws.{book_by-steps}
use Rattle.margin.proofs.AskedLaws.{count-keep, contract-length, one_book}
use Rattle.margin.proofs.StandLaws.{kept_at, of_contract_lem, own_by, rows_room, prompts_few, rows_placed, rows_rated_by, position_is}
use Rattle.margin.proofs.StandLaws.{nets_here, parts_read, parts_told, book_fits}
use Rattle.formulas.proofs.ContractLaws.{contract_with_lem, book-room}
use Rattle.formulas.proofs.RecordLaws.{count_is}
use Rattle.spread.proofs.Lent.{deltas_again}
use Rattle.formulas.proofs.LineLaws.{opens_first}
use Rattle.margin.proofs.TierLaws as tiers

-- ---- the own record of a contract

first_within : (q : Record → Bool) (xs : List Record) → Each ranges.ContractWithin xs → ranges.ContractWithin (get_or (keep q xs) 0 [])
first_within q [] e = none_within
first_within q (x ∷ xs) e = go (q x) (first_within q xs e.1)
  where
    go : (t : Bool) → ranges.ContractWithin (get_or (keep q xs) 0 []) → ranges.ContractWithin (get_or (cons_if t x (keep q xs)) 0 [])
    go true rest = e.0
    go false rest = rest

module _ (whole : List Record) (law : Lawful whole) where
  pub own_fit : (c : ℕ) → ranges.ContractWithin (own_of c whole)
  own_fit c = first_within (asks c) (contracts_of whole) law.ranges.contracts

  pub own_here : (i : ℕ) → i < length (contracts_of whole) → own_of (contract (get_or (contracts_of whole) i [])) whole ≡ get_or (contracts_of whole) i []
  own_here i h =
      let c = contract (get_or (contracts_of whole) i []) in
      ap (λ (rs : List Record). get_or rs 0 [])
      (kept_at (asks c) (contracts_of whole) i h (eq-eqb c c refl) (omega (arith, count-keep (of_kind 1) (asks c) whole, law.named.once c)))

-- ---- beside the records that stand in the files

-- that account itself
pub alone : (morning noon : List ℕ) (a : Account) → Stands morning noon a → Besides (account_of morning noon) (account_of morning noon)
alone morning noon a st = record { lawful = st.lawful; contracts = refl; prompts = λ c. refl; spreads = λ c. refl; entries = refl; rates = refl }

module _ (standing whole : List Record) (b : Besides standing whole) where
  pub entries_beside : (bytes : List ℕ) → PartOf standing entry_part bytes → PartOf whole entry_part bytes
  entries_beside bytes ep =
      record { are = ep.are ∙ sym b.entries; whole = ep.whole ∙ ap (λ (rs : List Record). length rs * record_bytes) (sym b.entries) }

  -- the same questions are answered
  pub answered_beside : (q : ℕ) → answered whole q ≡ answered standing q
  answered_beside q = ap (λ (rs : List Record). eqb q table_question || any (asks q) rs) b.contracts

  own_same : (c : ℕ) → own_of c whole ≡ own_of c standing
  own_same c = ap (λ (rs : List Record). get_or (keep (asks c) rs) 0 []) b.contracts

  -- the parts of a contract, one account's for the other's
  parts_beside : (c : ℕ) (P : Record → List Record → List Record → Type 0) → P (own_of c whole) (prompts_of c whole) (spreads_of c whole)
      → P (own_of c standing) (prompts_of c standing) (spreads_of c standing)
  parts_beside c P x =
      subst (λ (o : Record). P o (prompts_of c standing) (spreads_of c standing)) (own_same c)
      (subst (λ (ps : List Record). P (own_of c whole) ps (spreads_of c standing)) (b.prompts c)
      (subst (λ (ss : List Record). P (own_of c whole) (prompts_of c whole) ss) (b.spreads c) x))

  module _ (c : ℕ) (p : Position) (at : PositionAt (rates_of whole) (unit_of c whole) whole c p) where
    abbrev k : Contract
    k = contract_from (rates_of whole) (own_of c whole) (prompts_of c whole) (rows_of c whole) (spreads_of c whole)

    pub fits : PositionFit (own_of c standing) (prompts_of c standing) (spreads_of c standing) p
    fits =
        parts_beside c (λ own ps ss. PositionFit own ps ss p)
        (record {
          rates = rates_of whole;
          rows = rows_of c whole;
          fit = contract_within whole b.lawful (own_of c whole) c
              (own_fit whole b.lawful c);
          is = at.is;
          most = at.most;
        })

    pub fits_book : BookFit (prompts_of c standing) (spreads_of c standing) p
    fits_book = record { own = own_of c standing; fits = fits }

    contract_is : contract_with (own_of c standing) (prompts_of c standing) (spreads_of c standing) p ≡ k
    contract_is =
        parts_beside c (λ own ps ss. contract_with own ps ss p ≡ k)
        (sym (contract_with_lem (rates_of whole) (own_of c whole) (prompts_of c whole) (rows_of c whole) (spreads_of c whole) p at.is))

    -- what is asked about
    pub asks_beside : (a : Asking)
        → Asks (contract_steps (contract_with [] (prompts_of c standing) (spreads_of c standing) p))
        (opens_of (contract_with [] (prompts_of c standing) (spreads_of c standing) p)) a
        → Asks (contract_steps (parts_of whole c)) (opens_of (parts_of whole c)) a
    asks_beside a = subst (λ (x : Contract). Asks (contract_steps x) (opens_of x) a) contract_is

    -- the i-th contract
    module _ (i : ℕ) (listed : i < length (contracts_of whole)) (number : c ≡ contract (get_or (contracts_of whole) i [])) where
      abbrev its : Record
      its = get_or (contracts_of whole) i []

      pub line_is : (l : Line) → LineOf (contract_with (own_of c standing) (prompts_of c standing) (spreads_of c standing) p) l → LineOf (parts_in whole its) l
      line_is l =
          subst (λ (x : Contract). LineOf x l)
          (contract_is
          ∙ ap (λ (n : ℕ). contract_from (rates_of whole) (own_of n whole) (prompts_of n whole) (rows_of n whole) (spreads_of n whole)) number
          ∙ ap (λ (r : Record). contract_from (rates_of whole) r (prompts_of (contract its) whole) (rows_of (contract its) whole)
          (spreads_of (contract its) whole)) (own_here whole b.lawful i listed))

      pub tier_is : (z : ℤ) → c ≤ most_contract → z ≡ sum_ℤ (deltas_in p.nets) → TierIs (parts_in whole its) c z
      tier_is z few e = tiers.tier_is whole b.lawful (rates_of whole) (own_of c whole) (own_fit whole b.lawful c) c p at its z number few e

      -- it is answered
      pub contract_beside : (count : ℕ) → count ≡ length whole → c ≤ most_contract → ContractIn whole count c (prompts_of c standing) (spreads_of c standing) p
      contract_beside count n few =
          record {
            lawful = b.lawful;
            asked_is =
                ap (λ (t : Bool). t || any (asks c) (contracts_of whole)) (ne_eqb c table_question (λ e. omega (arith, few, e)))
                ∙ any_at (asks c) (contracts_of whole) i [] listed (eq-eqb (contract its) c (sym number));
            records_are = n;
            prompts_are = sym (b.prompts c);
            spreads_are = sym (b.spreads c);
            at = at;
          }

    pub tier_sizes : sum (map nat_abs (deltas_in p.nets)) ≤ most_delta
    tier_sizes = tiers.tier_sizes whole b.lawful (rates_of whole) (own_of c whole) (own_fit whole b.lawful c) c p at

-- ---- a contract that is answered by itself

pub asked_by_lem : (whole : List Record) (records c : ℕ) (prompts spreads : List Record) (p : Position) (a : Asking) → c ≤ most_contract
    → ContractIn whole records c prompts spreads p
    → Asks (contract_steps (contract_with [] prompts spreads p)) (opens_of (contract_with [] prompts spreads p)) a → AskedBy whole c records a
asked_by_lem whole records c prompts spreads p a few is x =
    let itself : Besides whole whole = record {
      lawful = is.lawful;
      contracts = refl;
      prompts = λ c. refl;
      spreads = λ c. refl;
      entries = refl;
      rates = refl;
    }
    in
    let about : List Record → List Record → Type 0 = λ ps ss. Asks (contract_steps (contract_with [] ps ss p)) (opens_of (contract_with [] ps ss p)) a in
    record {
      lawful = is.lawful;
      asked_is = is.asked_is;
      records_are = is.records_are;
      asks =
          subst
          (λ (b : Bool). Asks (cond b (table_steps (entries_of whole)) (contract_steps (parts_of whole c)))
          (cond b (map as_tier (contracts whole)) (opens_of (parts_of whole c))) a)
          (sym (ne_eqb c table_question (λ e. omega (arith, few, e))))
          (asks_beside whole whole itself c p is.at a
          (subst (λ (ss : List Record). about (prompts_of c whole) ss) is.spreads_are
          (subst (λ (ps : List Record). about ps spreads) is.prompts_are x)));
    }

-- its book goes by the net deltas that are lent
book_of_lem : (whole : List Record) → Lawful whole → (c : ℕ) → c ≤ most_contract → answered whole c ≡ true → (prompts spreads : List Record) (nets : List ℤ)
    → prompts ≡ prompts_of c whole → spreads ≡ spreads_of c whole
    → take (length (prompts_of c whole)) (deltas_in (deltas_from nets)) ≡ net_deltas (prompts_of c whole) (rows_of c whole)
    → BookIs whole c (steps (map interprompt spreads)) (opens_with prompts nets)
book_of_lem whole law c few asked prompts spreads nets ep es en =
    let apart = ne_eqb c table_question (λ e. omega (arith, few, e)) in
    let same = opens_first (prompts_of c whole) nets
    ∙ ap (λ (zs : List ℤ). opens_with (prompts_of c whole) (take (length (prompts_of c whole)) zs)) (sym (deltas_again nets))
    ∙ ap (opens_with (prompts_of c whole)) en in
    record {
      asked_is = asked;
      is =
          book_by-steps whole law c asked
          ∙ ap (λ (b : Bool). book_by (cond b (table_steps (entries_of whole)) (contract_steps (parts_of whole c)))
          (cond b (map as_tier (contracts whole)) (opens_of (parts_of whole c)))) apart
          ∙ ap₂ (λ (ss : List Record) (os : List Open). book_by (steps (map interprompt ss)) os) (sym es)
          (sym (ap (λ (rs : List Record). opens_with rs nets) ep ∙ same));
    }

pub book_is : (whole : List Record) (records c : ℕ) (prompts spreads : List Record) (totals nets : List ℤ) (shorts : ℕ) → c ≤ most_contract
    → ContractIn whole records c prompts spreads (position_in totals nets shorts) → BookIs whole c (steps (map interprompt spreads)) (opens_with prompts nets)
book_is whole records c prompts spreads totals nets shorts few is =
    book_of_lem whole is.lawful c few is.asked_is prompts spreads nets is.prompts_are is.spreads_are is.at.is.nets_are

-- ---- a contract's book by the parts that it has in the files

module _ (account : List Record) (law : Lawful account) (c : ℕ) (few : c ≤ most_contract) (prompts spreads : List ℕ)
    (ep : PartOf account (part 2 c) prompts) (es : PartOf account (part 4 c) spreads) where
  prompts_are : records prompts ≡ prompts_of c account
  prompts_are = of_contract_lem account law c few 2 (omega arith) prompts ep

  spreads_are : records spreads ≡ spreads_of c account
  spreads_are = of_contract_lem account law c few 4 (omega arith) spreads es

  pub book_few : (record_count prompts ≤ most_prompts) × (record_count spreads ≤ most_spreads)
  book_few = (
    omega (arith, count_is prompts, ap length prompts_are, law.limits.prompts c),
    omega (arith, count_is spreads, ap length spreads_are, law.limits.spreads c),
  )

  pub book-length : answered account c ≡ true → length (book account c) ≡ 3 * record_count prompts + 2 * record_count spreads + 1
  book-length asked =
      ap length (one_book account law c asked (λ e. omega (arith, few, e)))
      ∙ contract-length [] [] (prompts_of c account) (rows_of c account) (spreads_of c account)
      ∙ ap₂ (λ (x y : ℕ). 3 * x + 2 * y + 1) (sym (ap length prompts_are) ∙ count_is prompts) (sym (ap length spreads_are) ∙ count_is spreads)

  -- by net deltas that are lent
  module _ (rows : List ℕ) (er : PartOf account (part 3 c) rows) (nets : List ℤ)
      (is : PositionOf [] 1 (records prompts) (records rows) (with_nets [] 1 (records rows) (deltas_from nets))) where
    its_nets : PositionAt [] 1 account c (with_nets [] 1 (rows_of c account) (deltas_from nets))
    its_nets = nets_here account law c few prompts rows ep er (deltas_from nets) is

    -- the spread steps accept it
    pub nets_room : BookRoom (records prompts) nets (records spreads)
    nets_room =
        let fit = book_fits account law c few (with_nets [] 1 (rows_of c account) (deltas_from nets)) its_nets in
        let w = fit.fits in
        parts_read account law c few prompts spreads ep es (λ (ps ss : List Record). BookRoom ps nets ss)
        (subst (λ (zs : List ℤ). BookRoom (prompts_of c account) zs (spreads_of c account)) (deltas_again nets)
        (book-room w.rates fit.own (prompts_of c account) w.rows (spreads_of c account) w.fit _ w.is w.most))

    pub nets_book : answered account c ≡ true → BookIs account c (steps (map interprompt (records spreads))) (opens_with (records prompts) nets)
    nets_book asked = book_of_lem account law c few asked (records prompts) (records spreads) nets prompts_are spreads_are its_nets.is.nets_are

-- ---- a contract by the parts that it has in the files

module _ (account : List Record) (law : Lawful account) (c : ℕ) (few : c ≤ most_contract) (own prompts rows : List ℕ)
    (eo : PartOf account (part 1 c) own) (ep : PartOf account (part 2 c) prompts) (er : PartOf account (part 3 c) rows) (rates : Rates)
    (held : RatesOf (rates_of account) rates) (u : ℕ) (eu : u ≡ unit own) where
  itself : Besides account account
  itself = record { lawful = law; contracts = refl; prompts = λ c. refl; spreads = λ c. refl; entries = refl; rates = refl }

  its_unit : u ≡ unit_of c account
  its_unit = eu ∙ ap unit (own_by account law c few own eo)

  -- what its rows come to can be worked out
  pub position_room : (u ≤ most_unit) × (((record_count prompts ≤ most_prompts) × OneDay (records prompts) (records rows))
      × (RowsFit (records rows) × RatedBy rates (records rows)))
  position_room = (
    omega (arith, its_unit, (own_fit account law c).units.most),
    (
      (prompts_few account law c few prompts rows ep er, rows_placed account law c few prompts rows ep er),
      (
        (rows_room account law c few prompts rows ep er).rows_within,
        rows_rated_by account law c few prompts rows ep er rates (rows_rated account law c rates held),
      ),
    ),
  )

  module _ (p : Position) (is : PositionOf (rates_of account) u (records prompts) (records rows) p) (most : Bounded most_rows p) where
    pub position_here : PositionAt (rates_of account) (unit_of c account) account c p
    position_here =
        subst (λ (n : ℕ). PositionAt (rates_of account) n account c p) its_unit
        (position_is account law c few prompts rows ep er (rates_of account) u p is most)

    module _ (spreads : List ℕ) (es : PartOf account (part 4 c) spreads) where
      pub fit_here : PositionFit own (records prompts) (records spreads) p
      fit_here =
          subst⁻¹ (λ (o : Record). PositionFit o (records prompts) (records spreads) p) (own_by account law c few own eo)
          (parts_read account law c few prompts spreads ep es (λ (xs ys : List Record). PositionFit (own_of c account) xs ys p)
          (fits account account itself c p position_here))

      pub line_here : (i : ℕ) → i < length (contracts_of account) → c ≡ contract (get_or (contracts_of account) i []) → (l : Line)
          → LineOf (contract_with own (records prompts) (records spreads) p) l → LineOf (parts_in account (get_or (contracts_of account) i [])) l
      line_here i listed number l x =
          line_is account account itself c p position_here i listed number l
          (parts_told account law c few prompts spreads ep es (λ (xs ys : List Record). LineOf (contract_with (own_of c account) xs ys p) l)
          (subst (λ (o : Record). LineOf (contract_with o (records prompts) (records spreads) p) l) (own_by account law c few own eo) x))

      -- a listed contract answers
      pub contract_in : (i : ℕ) → i < length (contracts_of account) → c ≡ contract (get_or (contracts_of account) i [])
          → ContractIn account (length account) c (records prompts) (records spreads) p
      contract_in i listed number =
          parts_read account law c few prompts spreads ep es (λ (xs ys : List Record). ContractIn account (length account) c xs ys p)
          (contract_beside account account itself c p position_here i listed number (length account) refl few)
