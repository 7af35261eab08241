-- A kept account tells of the file with its tickets put in; and its positions with one row more and one less.
-- Assumes nothing.
use Rattle.std.specs.Prelude.{Ok}
use Prim.Native.Nat.{ℕ, suc, ◌+◌, ◌-◌, ◌≤◌, ◌<◌}
use mathlib.Core.Path.{◌≡◌, refl, sym, ap, ◌∙◌, subst, subst⁻¹}
use mathlib.Core.Bool.{Bool, true, false}
use mathlib.Core.List.{List, [], ◌∷◌, ◌++◌}
use native.Mathlib.Omega.{arith}
use borrow.Author.Tests.{eqb-true, eqb-false}
use lib.Dec.{eqb}
use lib.ListN.{length, get_or, set, length-append, length-set}
use lib.Seq.{take_all, get_or-set_same, get_or-set_other, get_or-append_seam}
use Rattle.account.specs.Check.{most_records, most_contracts, most_prompts, most_rows}
use Rattle.record.specs.Bytes.{record_bytes}
use Rattle.record.specs.Layout.{Record, contract, day, unit, most_contract, most_unit}
use Rattle.account.specs.Checked.{checked}
use Rattle.account.specs.Lawful.{Lawful}
use Rattle.account.specs.PartNumbers.{part, rate_part}
use Rattle.account.specs.Parts.{contracts_of, on_day, prompts_of, rows_of, spreads_of, entries_of, rates_of}
use Rattle.account.specs.code.Rates.{RatesOf}
use Rattle.account.specs.Records.{records, record_count, record_at, cut}
use Rattle.account.specs.code.Standing.{Stands, PartOf}
use Rattle.account.specs.Joined.{account_of}
use Rattle.account.specs.declared.accounts.Account.{Account}
use Rattle.account.specs.declared.rates.Rates.{Rates}
use Rattle.account.proofs.Earlier.{cut_more}
use Rattle.account.proofs.Alone.{lawful}
use Rattle.account.proofs.Places.{alone}
use Rattle.margin.specs.code.Beside.{unit_of, Besides}
use Rattle.margin.specs.code.Lined.{PositionAt}
use Rattle.exact.specs.Lists.{count, keep}
use Rattle.margin.specs.Books.{asks}
use Rattle.formulas.specs.code.Position.{RowFit, RowRated, RowsFit, RowsPlaced, OneDay, RatedBy, DaysOf, PositionOf, Bounded, WithRows, HasRows}
use Rattle.margin.specs.code.Positions.{no_position, PositionsOf, PositionsTell, Known}
use Rattle.margin.specs.declared.positions.Positions.{Positions}
use Rattle.formulas.specs.declared.rows.Days.{Days}
use Rattle.formulas.specs.declared.rows.Position.{Position}
use Rattle.margin.proofs.AcceptLaws.{none_within, contract_within, its_rated}
use Rattle.margin.proofs.BesideLaws.{own_fit}
use Rattle.formulas.proofs.PlacedLaws.{rows_placed}
use Rattle.formulas.proofs.PositionBounds.{Rated, bounded, wider}
use Rattle.formulas.proofs.RecordLaws.{count_is}
use Rattle.margin.proofs.StandLaws.{of_contract_lem, own_by}
use Rattle.tickets.specs.Claims.{OneRowMore}
use Rattle.tickets.specs.code.Kept.{KeptBy}
use Rattle.tickets.specs.Ticket.{with_tickets, ticket_checked}
use Rattle.tickets.specs.declared.kept.Kept.{Kept}
use Rattle.tickets.proofs.BeforeLaws.{came_to, came_to_is, added_again}
use Rattle.tickets.proofs.Claims.{one_row_more}
use Rattle.tickets.proofs.CountLaws.{file_ok, stands_in, with_ok, before_ok, taken_here, low}
use Rattle.tickets.proofs.Placed.{plain}
use Rattle.tickets.proofs.Taken.{tickets_last, taken_row, taken_one, taken_less, same_with}

-- ---- what is answered
module _ (file : List ℕ) (ts : List Record) (k : Kept) (kb : KeptBy file ts k) where
  pub stands_kept : (none : List ℕ) → none ≡ [] → Stands file none k.counts.account
  stands_kept = stands_in file k.counts.account kb.counts.from_check

  pub lawful_kept : Lawful (records (with_tickets file ts))
  lawful_kept = lawful (with_tickets file ts) (with_ok file ts k.counts kb.counts)

  pub told_kept : (none : List ℕ) → none ≡ [] → PositionsTell (account_of file none) k.positions (records (with_tickets file ts))
  told_kept none e =
      let ok = file_ok file k.counts.account kb.counts.from_check in
      let back = sym (alone file none e (plain file ok).recorded) in
      let p = same_with file ts ok kb.counts.taken in
      record {
        beside =
            record {
              lawful = lawful_kept;
              contracts = p.contracts ∙ ap contracts_of back;
              prompts = λ c. p.prompts c ∙ ap (prompts_of c) back;
              spreads = λ c. p.spreads c ∙ ap (spreads_of c) back;
              entries = p.entries ∙ ap entries_of back;
              rates = p.rates ∙ ap rates_of back;
            };
        positions = kb.positions;
      }

  pub known_kept : (none : List ℕ) → none ≡ [] → Known (account_of file none) k.positions
  known_kept none e = record { whole = records (with_tickets file ts); told = told_kept none e }

  -- an account has at most most_records records
  pub few_kept : k.positions.records ≤ most_records
  few_kept = omega (arith, kb.positions.records_are, lawful_kept.limits.all)

-- the account before the latest ticket
pub beside_less :
    (file : List ℕ) (ts : List Record) (t : Record) (k : Kept) → KeptBy file (ts ++ t ∷ []) k → (none : List ℕ) → none ≡ []
    → Besides (account_of file none) (records (with_tickets file ts))
beside_less file ts t k kb none e =
    let ok = file_ok file k.counts.account kb.counts.from_check in
    let back = sym (alone file none e (plain file ok).recorded) in
    let p = same_with file ts ok (taken_less file ts t kb.counts.taken) in
    record {
      lawful = lawful (with_tickets file ts) (before_ok file ts t k.counts kb.counts);
      contracts = p.contracts ∙ ap contracts_of back;
      prompts = λ c. p.prompts c ∙ ap (prompts_of c) back;
      spreads = λ c. p.spreads c ∙ ap (spreads_of c) back;
      entries = p.entries ∙ ap entries_of back;
      rates = p.rates ∙ ap rates_of back;
    }

-- ---- one record by itself
pub records_one : (t : Record) → length t ≡ record_bytes → records t ≡ t ∷ []
records_one t w =
    let e : record_count t ≡ 1 = omega (arith, w) in
    ap (λ (n : ℕ). cut n t) e ∙ ap (λ (r : Record). r ∷ []) (take_all record_bytes t (omega (arith, w)))

-- ---- one row more
pub same_position :
    {g h : List Record} {u v : ℕ} {ps qs rs ss : List Record} (p : Position) → g ≡ h → u ≡ v → ps ≡ qs → rs ≡ ss → PositionOf h v qs ss p
    → PositionOf g u ps rs p
same_position {g} {h} {u} {v} {ps} {qs} {rs} {ss} p d e f i is =
    subst⁻¹ (λ (xs : List Record). PositionOf xs u ps rs p) d
    (subst⁻¹ (λ (x : ℕ). PositionOf h x ps rs p) e
    (subst⁻¹ (λ (xs : List Record). PositionOf h v xs rs p) f (subst⁻¹ (λ (xs : List Record). PositionOf h v qs xs p) i is)))

module _ (t : Record) (whole more : List Record) (one : OneRowMore t whole more) (law : Lawful whole) (law' : Lawful more) where
  abbrev c : ℕ
  c = contract t

  abbrev held : List Record
  held = rates_of whole

  pub unit_same : (d : ℕ) → unit_of d more ≡ unit_of d whole
  unit_same d = ap (λ (rs : List Record). unit (get_or (keep (asks d) rs) 0 [])) one.contracts

  -- the row is within its ranges, it has its rate, and its contract has room for it
  rows_fit : RowsFit (rows_of c whole)
  rows_fit = (contract_within whole law [] c none_within).rows_within

  rows_fit' : RowsFit (rows_of c whole ++ t ∷ [])
  rows_fit' = subst RowsFit one.rows (contract_within more law' [] c none_within).rows_within

  rated' : Rated held (rows_of c whole ++ t ∷ [])
  rated' = subst (λ (rs : List Record). Rated held rs) one.rows
      (subst (λ (rs : List Record). Rated rs (rows_of c more)) one.rates (its_rated more law' c))

  long : length (rows_of c whole ++ t ∷ []) ≡ length (rows_of c whole) + 1
  long = length-append (rows_of c whole) (t ∷ [])

  -- what holds of every row holds of the last
  of_last :
      (P : Record → Type 0) → ((k : ℕ) → k < length (rows_of c whole ++ t ∷ []) → P (get_or (rows_of c whole ++ t ∷ []) k [])) → (k : ℕ)
      → k < length (t ∷ []) → P (get_or (t ∷ []) k [])
  of_last P every k h =
      let z : 0 ≡ k = omega arith in
      subst (λ (n : ℕ). P (get_or (t ∷ []) n [])) z
      (subst P (get_or-append_seam (rows_of c whole) t [] []) (every (length (rows_of c whole)) (omega (arith, long))))

  pub row_fits : RowsFit (t ∷ [])
  row_fits = record { few = omega arith; each = of_last RowFit rows_fit'.each }

  pub row_rated_by : (table : Rates) → RatesOf held table → RatedBy table (t ∷ [])
  row_rated_by table is = record { rates = held; held = is; each = of_last (RowRated held) rated' }

  -- it is of the day of one prompt
  pub row_placed : OneDay (prompts_of c whole) (t ∷ [])
  row_placed =
      of_last (λ r. count (on_day (day r)) (prompts_of c whole) ≡ 1)
      (subst (OneDay (prompts_of c whole)) one.rows
      (subst (λ (ps : List Record). OneDay ps (rows_of c more)) (one.prompts c) (contract_within more law' [] c none_within).one_day))

  pub unit_within : unit_of c whole ≤ most_unit
  unit_within = (own_fit whole law c).units.most

  pub prompts_few : length (prompts_of c whole) ≤ most_prompts
  prompts_few = law.limits.prompts c

  pub room : (p : Position) → PositionOf held (unit_of c whole) (prompts_of c whole) (rows_of c whole) p → Bounded (most_rows - 1) p
  room p is =
      wider (length (rows_of c whole)) (most_rows - 1) p (omega (arith, rows_fit'.few, long))
      (bounded held (unit_of c whole) unit_within (prompts_of c whole) (rows_of c whole) p rows_fit (its_rated whole law c) is)

  most_of : (p : Position) → PositionOf held (unit_of c whole) (prompts_of c whole) (rows_of c whole) p → Bounded most_rows p
  most_of p is = wider (most_rows - 1) most_rows p (omega arith) (room p is)

  -- of the contract, and of another
  pub at_more :
      (q : Position) → PositionOf held (unit_of c whole) (prompts_of c whole) (rows_of c whole ++ t ∷ []) q → Bounded most_rows q
      → PositionAt (rates_of more) (unit_of c more) more c q
  at_more q is most = record { is = same_position q one.rates (unit_same c) (one.prompts c) one.rows is; most = most }

  pub is_more :
      (q : Position) → PositionAt (rates_of more) (unit_of c more) more c q
      → PositionOf held (unit_of c whole) (prompts_of c whole) (rows_of c whole ++ t ∷ []) q
  is_more q at = same_position q (sym one.rates) (sym (unit_same c)) (sym (one.prompts c)) (sym one.rows) at.is

  other_more :
      (d : ℕ) → (c ≡ d → ⊥) → (p : Position) → PositionAt held (unit_of d whole) whole d p → PositionAt (rates_of more) (unit_of d more) more d p
  other_more d n p at = record { is = same_position p one.rates (unit_same d) (one.prompts d) (one.other_rows d n) at.is; most = at.most }

  other_less :
      (d : ℕ) → (c ≡ d → ⊥) → (p : Position) → PositionAt (rates_of more) (unit_of d more) more d p → PositionAt held (unit_of d whole) whole d p
  other_less d n p at =
      record { is = same_position p (sym one.rates) (sym (unit_same d)) (sym (one.prompts d)) (sym (one.other_rows d n)) at.is; most = at.most }

  module _ (low : c ≤ most_contract) (ps r : Positions) (q : Position) (set_is : r.at ≡ set ps.at c q) where
    placed : (many : length ps.at ≡ most_contracts) → length r.at ≡ most_contracts
    placed many = ap length set_is ∙ length-set ps.at c q ∙ many

    here : length ps.at ≡ most_contracts → get_or r.at c no_position ≡ q
    here many = ap (λ (xs : List Position). get_or xs c no_position) set_is ∙ get_or-set_same ps.at c q no_position (omega (arith, many))

    there : (d : ℕ) → (c ≡ d → ⊥) → get_or r.at d no_position ≡ get_or ps.at d no_position
    there d n = ap (λ (xs : List Position). get_or xs d no_position) set_is ∙ get_or-set_other ps.at c d q no_position (λ e. n (sym e))

    pub positions_more :
        PositionsOf whole ps → PositionOf held (unit_of c whole) (prompts_of c whole) (rows_of c whole ++ t ∷ []) q → Bounded most_rows q
        → r.records ≡ ps.records + 1 → PositionsOf more r
    positions_more of is most n =
        record {
          records_are = n ∙ ap (λ (i : ℕ). i + 1) of.records_are ∙ omega (arith, one.length_is);
          places = placed of.places;
          each = λ d h. go d h (eqb c d) refl;
        }
      where
        go : (d : ℕ) → d ≤ most_contract → (b : Bool) → eqb c d ≡ b → PositionAt (rates_of more) (unit_of d more) more d (get_or r.at d no_position)
        go d h true e =
            subst (λ (i : ℕ). PositionAt (rates_of more) (unit_of i more) more i (get_or r.at i no_position)) (eqb-true c d e)
            (subst⁻¹ (PositionAt (rates_of more) (unit_of c more) more c) (here of.places) (at_more q is most))
        go d h false e =
            let n = eqb-false c d e in
            subst⁻¹ (PositionAt (rates_of more) (unit_of d more) more d) (there d n) (other_more d n (get_or ps.at d no_position) (of.each d h))

    pub positions_less :
        PositionsOf more ps → PositionOf held (unit_of c whole) (prompts_of c whole) (rows_of c whole) q → r.records ≡ ps.records - 1
        → PositionsOf whole r
    positions_less of is n =
        record {
          records_are = n ∙ omega (arith, of.records_are, one.length_is);
          places = placed of.places;
          each = λ d h. go d h (eqb c d) refl;
        }
      where
        go : (d : ℕ) → d ≤ most_contract → (b : Bool) → eqb c d ≡ b → PositionAt held (unit_of d whole) whole d (get_or r.at d no_position)
        go d h true e =
            subst (λ (i : ℕ). PositionAt held (unit_of i whole) whole i (get_or r.at i no_position)) (eqb-true c d e)
            (subst⁻¹ (PositionAt held (unit_of c whole) whole c) (here of.places) (record { is = is; most = most_of q is }))
        go d h false e =
            let n = eqb-false c d e in
            subst⁻¹ (PositionAt held (unit_of d whole) whole d) (there d n) (other_less d n (get_or ps.at d no_position) (of.each d h))

  -- ---- what the rows came to before
  module _ (p : Position) (at : PositionAt (rates_of more) (unit_of c more) more c p) (days : Days) (known : DaysOf (prompts_of c whole) days) where
    abbrev u : ℕ
    u = unit_of c whole

    abbrev b : Position
    b = came_to held u (prompts_of c whole) (rows_of c whole) prompts_few

    b_is : PositionOf held u (prompts_of c whole) (rows_of c whole) b
    b_is = came_to_is held u (prompts_of c whole) (rows_of c whole) prompts_few

    added_last : WithRows held u days b (t ∷ []) p
    added_last = added_again held u (prompts_of c whole) (rows_of c whole) (t ∷ []) days b p known b_is (is_more p at)

    pub has_row : (table : Rates) → RatesOf held table → HasRows table u days (t ∷ []) p
    has_row table is = record { rates = held; held = is; before = b; added = added_last }

    pub before_is : (q : Position) → ((x : Position) → WithRows held u days x (t ∷ []) p → q ≡ x) → PositionOf held u (prompts_of c whole) (rows_of c whole) q
    before_is q e = subst⁻¹ (PositionOf held u (prompts_of c whole) (rows_of c whole)) (e b added_last) b_is

-- ---- a ticket that is accepted
module _ (file : List ℕ) (ts : List Record) (t : Record) (ok : checked (with_tickets file ts) ≡ Ok tt)
    (h : ticket_checked (with_tickets file ts) t ≡ Ok tt) where
  pub one_kept : OneRowMore t (records (with_tickets file ts)) (records (with_tickets file (ts ++ t ∷ [])))
  one_kept =
      subst⁻¹ (λ (b : List ℕ). OneRowMore t (records (with_tickets file ts)) (records b)) (tickets_last file ts t)
      (one_row_more (with_tickets file ts) t ok (taken_row (with_tickets file ts) t h))

  pub law_before : Lawful (records (with_tickets file ts))
  law_before = lawful (with_tickets file ts) ok

  pub law_after : Lawful (records (with_tickets file (ts ++ t ∷ [])))
  law_after =
      lawful (with_tickets file (ts ++ t ∷ []))
      (subst⁻¹ (λ (b : List ℕ). checked b ≡ Ok tt) (tickets_last file ts t) (taken_one (with_tickets file ts) t ok h))

  pub low_kept : contract t ≤ most_contract
  low_kept = low file ts t ok h

  pub records_kept : records t ≡ t ∷ []
  records_kept = records_one t (taken_row (with_tickets file ts) t h).whole

-- ---- the parts that the code reads
module _ (standing whole : List Record) (b : Besides standing whole) (law : Lawful standing) (c : ℕ) (low : c ≤ most_contract) where
  pub unit_read : (own : List ℕ) → PartOf standing (part 1 c) own → unit own ≡ unit_of c whole
  unit_read own is =
      ap unit (own_by standing law c low own is) ∙ ap (λ (rs : List Record). unit (get_or (keep (asks c) rs) 0 [])) (sym b.contracts)

  pub prompts_read : (bytes : List ℕ) → PartOf standing (part 2 c) bytes → records bytes ≡ prompts_of c whole
  prompts_read bytes is = of_contract_lem standing law c low 2 (omega arith) bytes is ∙ sym (b.prompts c)

  pub prompts_count : (bytes : List ℕ) → PartOf standing (part 2 c) bytes → record_count bytes ≤ most_prompts
  prompts_count bytes is = omega (arith, count_is bytes, ap length (of_contract_lem standing law c low 2 (omega arith) bytes is), law.limits.prompts c)

-- ---- the row's contract, as the code reads it
module _ (file : List ℕ) (account : Account) (none : List ℕ) (st : Stands file none account) (ts : List Record) (t : Record)
    (ok : checked (with_tickets file ts) ≡ Ok tt) (h : ticket_checked (with_tickets file ts) t ≡ Ok tt)
    (b : Besides (account_of file none) (records (with_tickets file ts))) where
  abbrev standing : List Record
  standing = account_of file none

  abbrev whole : List Record
  whole = records (with_tickets file ts)

  abbrev more : List Record
  more = records (with_tickets file (ts ++ t ∷ []))

  abbrev n : ℕ
  n = contract t

  one : OneRowMore t whole more
  one = one_kept file ts t ok h

  law : Lawful whole
  law = law_before file ts t ok h

  law' : Lawful more
  law' = law_after file ts t ok h

  small : n ≤ most_contract
  small = low_kept file ts t ok h

  only : records t ≡ t ∷ []
  only = records_kept file ts t ok h

  pub days_asked : (prompts : List ℕ) → PartOf standing (part 2 n) prompts → record_count prompts ≤ most_prompts
  days_asked = prompts_count standing whole b st.lawful n small

  module _ (own prompts rates : List ℕ) (eo : PartOf standing (part 1 n) own) (ep : PartOf standing (part 2 n) prompts) (er : PartOf standing rate_part rates)
      (table : Rates) (held : RatesOf (records rates) table) (days : Days) (known : DaysOf (records prompts) days) (u : ℕ) (read : u ≡ unit own) where
    unit_is : u ≡ unit_of n whole
    unit_is = read ∙ unit_read standing whole b st.lawful n small own eo

    days_are : DaysOf (prompts_of n whole) days
    days_are = subst (λ (ps : List Record). DaysOf ps days) (prompts_read standing whole b st.lawful n small prompts ep) known

    rates_are : RatesOf (rates_of whole) table
    rates_are = subst (λ (rs : List Record). RatesOf rs table) (er.are ∙ sym b.rates) held

    unit_few : u ≤ most_unit
    unit_few = omega (arith, unit_is, unit_within t whole more one law law')

    fits : RowsFit (records t)
    fits = subst⁻¹ RowsFit only (row_fits t whole more one law law')

    rated : RatedBy table (records t)
    rated = subst⁻¹ (RatedBy table) only (row_rated_by t whole more one law law' table rates_are)

    at_places : RowsPlaced days.count days.day (records t)
    at_places = subst⁻¹ (RowsPlaced days.count days.day) only
        (rows_placed (prompts_of n whole) (t ∷ []) days days_are (row_placed t whole more one law law'))

    -- one row more
    module _ (ps : Positions) (of : PositionsOf whole ps) where
      abbrev p : Position
      p = get_or ps.at n no_position

      at_unit : PositionOf (rates_of whole) u (prompts_of n whole) (rows_of n whole) p
      at_unit = same_position p refl unit_is refl refl (of.each n small).is

      pub more_asks : (u ≤ most_unit) × (((days.count ≤ most_prompts) × RowsPlaced days.count days.day (records t))
          × (RowsFit (records t) × (RatedBy table (records t) × Bounded (most_rows - length (records t)) p)))
      more_asks = (
        unit_few,
        (
          (known.few, at_places),
          (fits, (rated, subst⁻¹ (λ (rs : List Record). Bounded (most_rows - length rs) p) only (room t whole more one law law' p (of.each n small).is))),
        ),
      )

      pub row_added :
          (q : Position)
          → ((held prompts earlier : List Record) → RatesOf held table → DaysOf prompts days → PositionOf held u prompts earlier p
          → PositionOf held u prompts (earlier ++ records t) q)
          → Bounded most_rows q → PositionsOf more (record { records = ps.records + 1; at = set ps.at n q })
      row_added q added most =
          positions_more t whole more one law law' small ps (record { records = ps.records + 1; at = set ps.at n q }) q refl of
          (same_position q refl (sym unit_is) refl (ap (λ (rs : List Record). rows_of n whole ++ rs) (sym only))
          (added (rates_of whole) (prompts_of n whole) (rows_of n whole) rates_are days_are at_unit))
          most refl

    -- and one less
    module _ (ps : Positions) (of : PositionsOf more ps) where
      abbrev p' : Position
      p' = get_or ps.at n no_position

      pub less-asks : (u ≤ most_unit)
          × (((days.count ≤ most_prompts) × RowsPlaced days.count days.day (records t))
          × (RowsFit (records t) × (RatedBy table (records t) × (Bounded most_rows p' × HasRows table u days (records t) p'))))
      less-asks = (
        unit_few,
        (
          (known.few, at_places),
          (
            fits,
            (
              rated,
              (
                (of.each n small).most,
                subst⁻¹ (λ (rs : List Record). HasRows table u days rs p') only
                    (subst⁻¹ (λ (x : ℕ). HasRows table x days (t ∷ []) p') unit_is
                    (has_row t whole more one law law' p' (of.each n small) days days_are table rates_are)),
              ),
            ),
          ),
        ),
      )

      pub row_taken :
          (q : Position) → ((held : List Record) (before : Position) → RatesOf held table → WithRows held u days before (records t) p' → q ≡ before)
          → PositionsOf whole (record { records = ps.records - 1; at = set ps.at n q })
      row_taken q back =
          positions_less t whole more one law law' small ps (record { records = ps.records - 1; at = set ps.at n q }) q refl of
          (before_is t whole more one law law' p' (of.each n small) days days_are q
          (λ x w.
          back (rates_of whole) x rates_are
          (subst⁻¹ (λ (rs : List Record). WithRows (rates_of whole) u days x rs p') only
          (subst⁻¹ (λ (y : ℕ). WithRows (rates_of whole) y days x (t ∷ []) p') unit_is w))))
          refl

-- ---- the latest ticket
pub some_kept : (file : List ℕ) (ts : List Record) (t : Record) (k : Kept) → KeptBy file (ts ++ t ∷ []) k → 1 ≤ k.positions.records
some_kept file ts t k kb =
    let one = one_kept file ts t (before_ok file ts t k.counts kb.counts) (taken_here file ts t k.counts kb.counts) in
    omega (arith, kb.positions.records_are, one.length_is)

pub cut_last : (n : ℕ) (bytes : List ℕ) → (n ≡ 0 → ⊥) → cut n bytes ≡ cut (n - 1) bytes ++ record_at bytes (n - 1) ∷ []
cut_last n bytes nz =
    let e : n ≡ suc (n - 1) = omega (arith, nz) in
    ap (λ (i : ℕ). cut i bytes) e ∙ cut_more (n - 1) bytes
