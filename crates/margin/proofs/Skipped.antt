-- No accepted line is skipped: rows counted contract by contract, and lists gone through side by side.
-- Assumes nothing.
use Rattle.std.specs.Prelude.{Ok}
use Prim.Native.Nat.{ℕ, zero, suc, ◌+◌, ◌-◌, ◌*◌, ◌≤◌}
use native.Mathlib.Omega.{arith}
use mathlib.Core.Path.{◌≡◌, refl, sym, ap, ap₂, ◌∙◌}
use mathlib.Core.Bool.{Bool, true, false, cond, ◌&&◌}
use mathlib.Core.List.{List, [], ◌∷◌, map, map-map}
use borrow.Author.Tests.{eq-eqb, ne_eqb, eqb-true, eqb-false}
use lib.Dec.{eqb}
use lib.IntN.{ℤ, pos, nat_abs, ◌+ℤ◌, +ℤ_idl, +ℤ_idr}
use lib.ListN.{length, get_or, length-map}
use Rattle.spread.proofs.Lengths.{used_length, unused_length}
use Rattle.exact.specs.Lists.{cons_if, one_if, sum, sum_ℤ}
use Rattle.exact.proofs.Lists.{map_same, sum_ℤ-map_add}
use Rattle.exact.proofs.Tests.{eqb_turned}
use Rattle.record.specs.Layout.{Record, kind, contract, unit, rate_per_spread, spread_rate_of, outright_rate_of, scenario_count}
use Rattle.account.specs.Accepted.{Each}
use Rattle.account.specs.Checked.{checked}
use Rattle.account.specs.Lawful.{Recorded, Lawful}
use Rattle.account.specs.Noon.{clear, joined_verdict}
use Rattle.account.specs.Parts.{of_kind, of_contract, contracts_of, prompts_of, rows_of, entries_of, rates_of}
use Rattle.account.specs.Records.{records}
use Rattle.account.specs.Joined.{account_of}
use Rattle.account.specs.Whole.{Whole}
use Rattle.account.proofs.Alone.{lawful}
use Rattle.account.proofs.NoonLaws.{pair_lawful}
use Rattle.account.proofs.Whole.{KindWithin, owners, owned_once, file_kinds, pair_kinds, whole_file, whole_pair}
use Rattle.formulas.specs.declared.amount.Amount.{Amount}
use Rattle.formulas.specs.declared.line.Line.{Line}
use Rattle.formulas.specs.Charges.{over_steps, spread_charge, prompt_charge, prompt_charges}
use Rattle.formulas.specs.Contract.{Contract, contract_from, contracts, parts_in, contract_net, as_tier, table_steps, contract_steps, opens_of, step_numbers}
use Rattle.formulas.specs.Contract.{used_deltas, unused_deltas}
use Rattle.formulas.specs.Credit.{total_of}
use Rattle.formulas.specs.Deltas.{row_delta, net_deltas, interprompt, intercontract}
use Rattle.formulas.specs.code.Lines.{eights_from}
use Rattle.formulas.specs.Margin.{short_options, short_lots}
use Rattle.formulas.specs.Scanning.{product, total, totals}
use Rattle.margin.specs.Skipped.{all_rows, owner_of, RowsOnce, over_places, NothingOver, TableOver, NoneSkipped}
use Rattle.margin.proofs.AskedLaws.{contract-length, table_length}
use Rattle.formulas.proofs.LineLaws.{opens_length, numbers-length}
use Rattle.formulas.proofs.NetLaws.{all_rows_lem}
use Rattle.formulas.proofs.PositionLaws.{totals_at}
use Rattle.formulas.specs.Bounds.{figures_each}
use Rattle.margin.proofs.QuestionLaws.{figures-length}

-- ---- what the rows come to, contract by contract and all together

-- of what a row comes to, given its contract's own record
module _ (f : Record → Record → ℤ) where
  abbrev of_rows : List Record → Record → ℤ
  of_rows xs own = sum_ℤ (map (f own) (rows_of (contract own) xs))

  -- what a record gives to a contract's rows
  abbrev share : Record → Record → ℤ
  share x own = cond (of_contract 3 (contract own) x) (f own x) (pos 0)

  first_share : (x : Record) (xs : List Record) (own : Record) → of_rows (x ∷ xs) own ≡ share x own +ℤ of_rows xs own
  first_share x xs own = go (of_contract 3 (contract own) x)
    where
      go : (t : Bool) → sum_ℤ (map (f own) (cons_if t x (rows_of (contract own) xs))) ≡ cond t (f own x) (pos 0) +ℤ of_rows xs own
      go true = refl
      go false = sym (+ℤ_idl (of_rows xs own))

  module _ (x : Record) where
    -- a row, at a contract
    own_share : kind x ≡ 3 → (own : Record) → share x own ≡ cond (eqb (contract own) (contract x)) (f own x) (pos 0)
    own_share e own =
        ap (λ (t : Bool). cond (t && eqb (contract x) (contract own)) (f own x) (pos 0)) (eq-eqb (kind x) 3 e)
        ∙ ap (λ (t : Bool). cond t (f own x) (pos 0)) (eqb_turned (contract x) (contract own))

    none_shared : kind x ≡ 3 → (owns : List Record) → owners x owns ≡ 0 → sum_ℤ (map (share x) owns) ≡ pos 0
    none_shared k [] e = refl
    none_shared k (own ∷ owns) e =
        ap (λ (z : ℤ). z +ℤ sum_ℤ (map (share x) owns)) (own_share k own) ∙ go (eqb (contract own) (contract x)) (none_shared k owns) e
      where
        go : (t : Bool) → (owners x owns ≡ 0 → sum_ℤ (map (share x) owns) ≡ pos 0) → one_if t + owners x owns ≡ 0
            → cond t (f own x) (pos 0) +ℤ sum_ℤ (map (share x) owns) ≡ pos 0
        go true rest z = absurd (omega arith)
        go false rest z = +ℤ_idl (sum_ℤ (map (share x) owns)) ∙ rest (omega arith)

    once_shared : kind x ≡ 3 → (owns : List Record) → owners x owns ≡ 1 → sum_ℤ (map (share x) owns) ≡ f (owner_of owns x) x
    once_shared k [] e = absurd (omega arith)
    once_shared k (own ∷ owns) e =
        ap (λ (z : ℤ). z +ℤ sum_ℤ (map (share x) owns)) (own_share k own) ∙ go (eqb (contract own) (contract x)) (once_shared k owns) e
      where
        go : (t : Bool) → (owners x owns ≡ 1 → sum_ℤ (map (share x) owns) ≡ f (owner_of owns x) x) → one_if t + owners x owns ≡ 1
            → cond t (f own x) (pos 0) +ℤ sum_ℤ (map (share x) owns) ≡ f (cond t own (owner_of owns x)) x
        go true rest z = ap (λ (y : ℤ). f own x +ℤ y) (none_shared k owns (omega arith)) ∙ +ℤ_idr (f own x)
        go false rest z = +ℤ_idl (sum_ℤ (map (share x) owns)) ∙ rest (omega arith)

    -- a record of another kind
    no_row : (kind x ≡ 3 → ⊥) → (owns : List Record) → sum_ℤ (map (share x) owns) ≡ pos 0
    no_row d [] = refl
    no_row d (own ∷ owns) =
        ap (λ (t : Bool). cond (t && eqb (contract x) (contract own)) (f own x) (pos 0) +ℤ sum_ℤ (map (share x) owns)) (ne_eqb (kind x) 3 d)
        ∙ +ℤ_idl (sum_ℤ (map (share x) owns))
        ∙ no_row d owns

  module _ (owns : List Record) where
    -- what a row comes to, by the contract that it names
    abbrev owned : Record → ℤ
    owned x = f (owner_of owns x) x

    nothing_shared : (owns : List Record) → sum_ℤ (map (of_rows []) owns) ≡ pos 0
    nothing_shared [] = refl
    nothing_shared (own ∷ owns) = ap (λ (z : ℤ). pos 0 +ℤ z) (nothing_shared owns)

    pub all_shared : (xs : List Record) → Each (λ r. kind r ≤ 4 → owners r owns ≡ 1) xs → sum_ℤ (map (of_rows xs) owns) ≡ sum_ℤ (map owned (all_rows xs))
    all_shared [] h = nothing_shared owns
    all_shared (x ∷ xs) h =
        ap sum_ℤ (map_same (of_rows (x ∷ xs)) (λ own. share x own +ℤ of_rows xs own) (first_share x xs) owns)
        ∙ sum_ℤ-map_add (share x) (of_rows xs) owns
        ∙ go (of_kind 3 x) refl (all_shared xs h.1)
      where
        go : (t : Bool) → of_kind 3 x ≡ t → sum_ℤ (map (of_rows xs) owns) ≡ sum_ℤ (map owned (all_rows xs))
            → sum_ℤ (map (share x) owns) +ℤ sum_ℤ (map (of_rows xs) owns) ≡ sum_ℤ (map owned (cons_if t x (all_rows xs)))
        go true e rest =
            let k = eqb-true (kind x) 3 e in
            ap₂ ◌+ℤ◌ (once_shared x k owns (h.0 (omega (arith, k)))) rest
        go false e rest =
            ap₂ ◌+ℤ◌ (no_row x (eqb-false (kind x) 3 e) owns) rest ∙ +ℤ_idl (sum_ℤ (map owned (all_rows xs)))

-- sums of naturals, signed
pos_sum : (xs : List ℕ) → sum_ℤ (map pos xs) ≡ pos (sum xs)
pos_sum [] = refl
pos_sum (x ∷ xs) = ap (λ (z : ℤ). pos x +ℤ z) (pos_sum xs)

sum-pos : (xs ys : List ℕ) → sum_ℤ (map pos xs) ≡ sum_ℤ (map pos ys) → sum xs ≡ sum ys
sum-pos xs ys e = ap nat_abs (sym (pos_sum xs) ∙ e ∙ pos_sum ys)

short_rows : (rows : List Record) → sum_ℤ (map (λ r. pos (short_options r)) rows) ≡ pos (short_lots rows)
short_rows rows = ap sum_ℤ (sym (map-map pos short_options rows)) ∙ pos_sum (map short_options rows)

-- ---- the sixteen totals

total_at : (rates : List Record) (unit : ℕ) (rows : List Record) (scenario : ℕ) → 1 ≤ scenario → scenario ≤ scenario_count
    → total_of (totals rates unit rows) scenario ≡ total rates unit rows scenario
total_at rates unit rows scenario l h =
    let e : scenario - 1 + 1 ≡ scenario = omega arith in
    totals_at rates unit rows (scenario - 1) (omega arith) ∙ ap (total rates unit rows) e

module _ (account : List Record) (law : Lawful account) (within : Each KindWithin account) where
  abbrev owns : List Record
  owns = contracts_of account

  by_records : Recorded account
  by_records = record { ranges = law.ranges; limits = law.limits; one_prompt = law.one_prompt; named = law.named; orders = law.orders }

  together : (f : Record → Record → ℤ) → sum_ℤ (map (of_rows f account) owns) ≡ sum_ℤ (map (λ x. f (owner_of owns x) x) (all_rows account))
  together f = all_shared f owns account (owned_once account by_records within)

  -- over the contracts as over their own records
  over_owns : (g : Contract → ℤ) (f : Record → Record → ℤ) → ((own : Record) → g (parts_in account own) ≡ of_rows f account own)
      → sum_ℤ (map g (contracts account)) ≡ sum_ℤ (map (λ x. f (owner_of owns x) x) (all_rows account))
  over_owns g f e =
      ap sum_ℤ (map-map g (parts_in account) owns ∙ map_same (λ own. g (parts_in account own)) (of_rows f account) e owns) ∙ together f

  rows_once : RowsOnce account
  rows_once =
      record {
        totals =
            λ scenario l h.
            over_owns (λ k. total_of k.totals scenario) (λ own. product (rates_of account) (unit own) scenario)
            (λ own. total_at (rates_of account) (unit own) (rows_of (contract own) account) scenario l h);
        nets =
            over_owns contract_net (λ own. row_delta)
            (λ own. all_rows_lem (prompts_of (contract own) account) (rows_of (contract own) account) (law.one_prompt (contract own)));
        prompts = λ c h. all_rows_lem (prompts_of c account) (rows_of c account) (law.one_prompt c);
        shorts =
            sum-pos (map (λ k. k.shorts) (contracts account)) (map short_options (all_rows account))
            (ap sum_ℤ (map-map pos (λ k. k.shorts) (contracts account))
            ∙ over_owns (λ k. pos k.shorts) (λ own r. pos (short_options r)) (λ own. sym (short_rows (rows_of (contract own) account)))
            ∙ ap sum_ℤ (sym (map-map pos short_options (all_rows account))));
      }

-- ---- lists side by side

places_same : (n : ℕ) (f g : ℕ → ℕ) → ((i : ℕ) → f i ≡ g i) → over_places n f ≡ over_places n g
places_same zero f g e = refl
places_same (suc n) f g e = ap₂ ◌+◌ (e 0) (places_same n (λ i. f (suc i)) (λ i. g (suc i)) (λ i. e (suc i)))

over_steps_lem : (amount : Record → ℕ → ℕ → ℕ) (rs : List Record) (ns : List ℕ) → length ns ≡ 2 * length rs
    → over_steps amount rs ns ≡ over_places (length rs) (λ i. amount (get_or rs i []) (get_or ns (2 * i) 0) (get_or ns (2 * i + 1) 0))
over_steps_lem amount [] ns e = refl
over_steps_lem amount (r ∷ rs) [] e = absurd (omega arith)
over_steps_lem amount (r ∷ rs) (a ∷ []) e = absurd (omega arith)
over_steps_lem amount (r ∷ rs) (a ∷ b ∷ ns) e =
    ap (λ (n : ℕ). amount r a b + n)
    (over_steps_lem amount rs ns (omega arith)
    ∙ places_same (length rs) (λ i. amount (get_or rs i []) (get_or ns (2 * i) 0) (get_or ns (2 * i + 1) 0))
    (λ i. amount (get_or rs i []) (get_or (a ∷ b ∷ ns) (2 * suc i) 0) (get_or (a ∷ b ∷ ns) (2 * suc i + 1) 0))
    (λ i.
    let p : suc (suc (2 * i)) ≡ 2 * suc i = omega arith in
    let q : suc (suc (2 * i + 1)) ≡ 2 * suc i + 1 = omega arith in
    ap₂ (λ (j k : ℕ). amount (get_or rs i []) (get_or (a ∷ b ∷ ns) j 0) (get_or (a ∷ b ∷ ns) k 0)) p q))

over_prompts : (unit : ℕ) (ps : List Record) (used unused : List ℤ) → length used ≡ length ps → length unused ≡ length ps
    → prompt_charges unit ps used unused
    ≡ over_places (length ps) (λ i. prompt_charge unit (spread_rate_of (get_or ps i [])) (outright_rate_of (get_or ps i [])) (get_or used i (pos 0)) (get_or unused i (pos 0)))
over_prompts unit [] used unused e g = refl
over_prompts unit (p ∷ ps) [] unused e g = absurd (omega arith)
over_prompts unit (p ∷ ps) (u ∷ used) [] e g = absurd (omega arith)
over_prompts unit (p ∷ ps) (u ∷ used) (n ∷ unused) e g =
    ap (λ (x : ℕ). prompt_charge unit (spread_rate_of p) (outright_rate_of p) u n + x) (over_prompts unit ps used unused (omega arith) (omega arith))

nothing_over : (rates : List Record) (own : Record) (prompts rows spreads : List Record) → NothingOver (contract_from rates own prompts rows spreads)
nothing_over rates own prompts rows spreads =
    let k = contract_from rates own prompts rows spreads in
    let nets : length (net_deltas prompts rows) ≡ length prompts = length-map prompts _ in
    let opened : length (opens_of k) ≡ length prompts = opens_length prompts (net_deltas prompts rows) nets in
    let used : length (used_deltas k) ≡ length prompts = used_length (contract_steps k) (opens_of k) ∙ opened in
    let unused : length (unused_deltas k) ≡ length prompts = unused_length (contract_steps k) (opens_of k) ∙ opened in
    let formed : length (step_numbers k) ≡ 2 * length spreads = numbers-length interprompt spreads (opens_of k) in
    record {
      nets = nets;
      opened = opened;
      used = used;
      unused = unused;
      formed = formed;
      book = contract-length rates own prompts rows spreads;
      interprompt = over_steps_lem (λ s. spread_charge (unit own) (rate_per_spread s)) spreads (step_numbers k) formed;
      prompt = over_prompts (unit own) prompts (used_deltas k) (unused_deltas k) used unused;
    }

table_over : (entries : List Record) (ks : List Contract) → TableOver entries ks
table_over entries ks =
    let ps = map as_tier ks in
    let many : length ps ≡ length ks = length-map ks as_tier in
    record {
      used = used_length (table_steps entries) ps ∙ many;
      unused = unused_length (table_steps entries) ps ∙ many;
      formed = numbers-length intercontract entries ps;
      book = table_length entries ks;
    }

lines_over : (ls : List Line) (credits : List Amount) → length credits ≡ length ls → length (eights_from ls credits) ≡ figures_each * length ls
lines_over [] credits e = refl
lines_over (l ∷ ls) [] e = absurd (omega arith)
lines_over (l ∷ ls) (c ∷ credits) e = let h = lines_over ls credits (omega arith) in omega arith

none_skipped : (account : List Record) → Lawful account → Each KindWithin account → Whole account → NoneSkipped account
none_skipped account law within whole =
    record {
      whole = whole;
      rows = rows_once account law within;
      contract = nothing_over;
      table = table_over (entries_of account) (contracts account);
      figures = figures-length account;
      lines = lines_over;
    }

-- of an accepted file, and of a pair of files that is not refused
pub file_skips_none : (file : List ℕ) → checked file ≡ Ok tt → NoneSkipped (records file)
file_skips_none file ok = none_skipped (records file) (lawful file ok) (file_kinds file ok) (whole_file file ok)

pub pair_skips_none : (morning noon : List ℕ) → clear (joined_verdict morning noon) ≡ true → NoneSkipped (account_of morning noon)
pair_skips_none morning noon c =
    none_skipped (account_of morning noon) (pair_lawful morning noon c) (pair_kinds morning noon) (whole_pair morning noon c)
