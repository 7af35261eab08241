-- The contracts of an account as tiers, and the book of the intercontract table over them.
-- Assumes nothing.
use Prim.Native.Nat.{ℕ, suc, ◌+◌, ◌*◌, ◌≤◌, ◌<◌, zero-le, suc-le-suc}
use native.Mathlib.Nat.{le_trans, not-suc-le-zero}
use native.Mathlib.Decide.{ℕ_discrete}
use native.Mathlib.Omega.{arith}
use mathlib.Core.Path.{◌≡◌, refl, sym, ap, ◌∙◌, subst, subst⁻¹}
use mathlib.Core.Bool.{true}
use mathlib.Core.List.{List, [], ◌∷◌, map}
use borrow.Author.Tests.{lt-ltb, le-leb, leb-true}
use lib.Dec.{leb, ltb}
use lib.IntN.{ℤ, nat_abs}
use lib.ListN.{length, get_or, take, set, length-map}
use lib.Seq.{take_all}
use Rattle.exact.specs.Lists.{sum, sum_ℤ}
use Rattle.exact.proofs.Lists.{get_d_map, abs_sum}
use Rattle.record.specs.Layout.{Record, contract, unit, most_contract}
use Rattle.record.specs.Within as ranges
use Rattle.account.specs.Parts.{contracts_of, prompts_of, rows_of, spreads_of}
use Rattle.account.specs.Records.{records, record_count}
use Rattle.account.specs.Lawful.{Lawful}
use Rattle.account.specs.PartNumbers.{entry_part}
use Rattle.account.specs.code.Standing.{PartOf}
use Rattle.account.specs.Check.{most_contracts, most_entries}
use Rattle.spread.specs.Accepted as given
use Rattle.spread.specs.Accepted.{every, sound_prompt, tier_count, prompt_places}
use Rattle.spread.specs.Steps.{Open}
use Rattle.spread.specs.declared.Delta.{Delta}
use Rattle.spread.specs.declared.Prompts.{Prompts}
use Rattle.spread.specs.declared.Table.{Table}
use Rattle.spread.proofs.Both.{and_left, and_right, and_both}
use Rattle.formulas.specs.declared.line.Line.{Line}
use Rattle.formulas.specs.declared.rows.Position.{Position}
use Rattle.formulas.specs.Bounds.{most_delta}
use Rattle.formulas.specs.Contract.{Contract, contracts, parts_in, as_tier, contract_net}
use Rattle.formulas.specs.Deltas.{net_deltas, intercontract}
use Rattle.formulas.specs.code.Lines.{no_line}
use Rattle.margin.specs.code.Lined.{TierIs, TiersIn, PositionAt}
use Rattle.formulas.specs.code.Position.{Sized, rows_net}
use Rattle.formulas.specs.code.Sums.{deltas_in}
use Rattle.formulas.specs.code.Table.{tier_of}
use Rattle.formulas.specs.code.Tables.{TableOf}
use Rattle.margin.proofs.AcceptLaws.{contract_within}
use Rattle.formulas.proofs.BookLaws.{handed_sound}
use Rattle.formulas.proofs.ContractLaws.{net_is, net_sizes}
use Rattle.formulas.proofs.LineLaws.{spreads_sound}
use Rattle.formulas.proofs.NetLaws.{all_rows_lem}
use Rattle.formulas.proofs.RecordLaws.{count_is}
use Rattle.margin.proofs.StandLaws.{entries_fit}
use Rattle.formulas.proofs.StepBounds.{sizes}
use Rattle.formulas.proofs.TableLaws.{Tiered, tiered_next, tiered_all, entry_accepted}

-- a contract's number and net delta, by what its rows come to
module _ (account : List Record) (law : Lawful account) (rates : List Record) (own : Record) (w : ranges.ContractWithin own) (c : ℕ) (q : Position)
    (at : PositionAt rates (unit own) account c q) where
  pub tier_sizes : sum (map nat_abs (deltas_in q.nets)) ≤ most_delta
  tier_sizes =
      net_sizes rates own (prompts_of c account) (rows_of c account) (spreads_of c account) (contract_within account law own c w) q at.is at.most

  pub tier_is : (its : Record) (z : ℤ) → c ≡ contract its → c ≤ most_contract → z ≡ sum_ℤ (deltas_in q.nets) → TierIs (parts_in account its) c z
  tier_is its z ec few ez =
      record {
        number_is = ec;
        net_is =
            ez
            ∙ net_is rates own (prompts_of c account) (rows_of c account) (spreads_of c account) (contract_within account law own c w) q at.is at.most
            ∙ ap (λ (n : ℕ). sum_ℤ (net_deltas (prompts_of n account) (rows_of n account))) ec;
        number_within = few;
        net_within = subst⁻¹ (λ (x : ℤ). nat_abs x ≤ most_delta) ez (le_trans (abs_sum (deltas_in q.nets)) tier_sizes);
      }

-- by its rows: each counts at one prompt
pub rows_tier : (account : List Record) → Lawful account → (c : ℕ) (its : Record) (z : ℤ) → c ≡ contract its → c ≤ most_contract
    → Sized most_delta (rows_net (rows_of c account)) z → TierIs (parts_in account its) c z
rows_tier account law c its z ec few is =
    record {
      number_is = ec;
      net_is =
          is.is
          ∙ sym (all_rows_lem (prompts_of c account) (rows_of c account) (law.one_prompt c))
          ∙ ap (λ (n : ℕ). sum_ℤ (net_deltas (prompts_of n account) (rows_of n account))) ec;
      number_within = few;
      net_within = is.size;
    }

-- a line with a contract's number and net delta alone
abbrev pub lean : Contract → Line
lean k = record {
  contract = contract k.own;
  unit = 1;
  active = 0;
  scanning = record { 0 = 0 };
  interprompt = record { 0 = 0 };
  prompt =
      record { 0 = 0 };
  minimum = record { 0 = 0 };
  twice_price = 0;
  net = record { 0 = contract_net k };
}

lean_tiers : (ks : List Contract) → map tier_of (map lean ks) ≡ map as_tier ks
lean_tiers [] = refl
lean_tiers (k ∷ ks) = ap (λ (ps : List Open). as_tier k ∷ ps) (lean_tiers ks)

lean_nets : (ks : List Contract) → map (λ l. l.net.0) (map lean ks) ≡ map contract_net ks
lean_nets [] = refl
lean_nets (k ∷ ks) = ap (λ (zs : List ℤ). contract_net k ∷ zs) (lean_nets ks)

lean_tier : (k : Contract) (t : ℕ) (d : Delta) → TierIs k t d.0 → record { tier = t; unused = d.0 } ≡ tier_of (lean k)
lean_tier k t d is = λ i. record { tier = is.number_is i; unused = is.net_is i }

tier-sound : (k : Contract) (t : ℕ) (z : ℤ) → TierIs k t z → sound_prompt (as_tier k) ≡ true
tier-sound k t z is =
    let h : contract k.own < tier_count = omega (arith, is.number_is, is.number_within) in
    and_both (ltb (contract k.own) tier_count) (leb (nat_abs (contract_net k)) most_delta) (lt-ltb (contract k.own) tier_count h)
    (le-leb (nat_abs (contract_net k)) most_delta (subst (λ (x : ℤ). nat_abs x ≤ most_delta) is.net_is is.net_within))

all_sound : (ks : List Contract) (d : Contract) → ((i : ℕ) → i < length ks → sound_prompt (as_tier (get_or ks i d)) ≡ true)
    → every sound_prompt (map as_tier ks) ≡ true
all_sound [] d h = refl
all_sound (k ∷ ks) d h =
    and_both (sound_prompt (as_tier k)) (every sound_prompt (map as_tier ks)) (h 0 (suc-le-suc zero-le)) (all_sound ks d (λ i l. h (suc i) (suc-le-suc l)))

pub sound_sizes : (ps : List Open) → every sound_prompt ps ≡ true → sizes ps ≤ length ps * most_delta
sound_sizes [] e = zero-le
sound_sizes (p ∷ ps) e =
    let a = leb-true (nat_abs p.unused) most_delta
    (and_right (ltb p.tier tier_count) (leb (nat_abs p.unused) most_delta) (and_left (sound_prompt p) (every sound_prompt ps) e)) in
    let r = sound_sizes ps (and_right (sound_prompt p) (every sound_prompt ps) e) in
    omega arith

-- ---- tiers, filled place by place

pub record TieredTo (account : List Record) (i : ℕ) (ts : List ℕ) (ds : List Delta) : Type 0 where
  pub tiered : Tiered (map lean (contracts account)) i ts ds
  pub sound : (j : ℕ) → j < i → sound_prompt (as_tier (get_or (contracts account) j (parts_in account []))) ≡ true

module _ (account : List Record) where
  abbrev ks : List Contract
  ks = contracts account

  abbrev kd : Contract
  kd = parts_in account []

  ks_length : length ks ≡ length (contracts_of account)
  ks_length = length-map (contracts_of account) (parts_in account)

  pub tiers_none : (ts : List ℕ) (ds : List Delta) → length ts ≡ prompt_places → length ds ≡ prompt_places → TieredTo account 0 ts ds
  tiers_none ts ds lt ln = record { tiered = record { tiers = lt; nets = ln; so_far = refl }; sound = λ j h. absurd (not-suc-le-zero h) }

  pub tiers_next : (i : ℕ) (ts : List ℕ) (ds : List Delta) (t : ℕ) (d : Delta) → TieredTo account i ts ds → i < most_contracts → i < length (contracts_of account)
      → TierIs (parts_in account (get_or (contracts_of account) i [])) t d.0 → TieredTo account (i + 1) (set ts i t) (set ds i d)
  tiers_next i ts ds t d is few h tier =
      let here : TierIs (get_or ks i kd) t d.0 = subst⁻¹ (λ (k : Contract). TierIs k t d.0)
      (get_d_map (parts_in account) (contracts_of account) i [] kd h) tier in
      let l : i < length ks = omega (arith, ks_length) in
      record {
        tiered =
            tiered_next (map lean ks) i ts ds t d is.tiered (omega arith) (rw length-map l)
            (lean_tier (get_or ks i kd) t d here ∙ sym (ap tier_of (get_d_map lean ks i kd no_line l)));
        sound = λ j m. go j m here (ℕ_discrete j i);
      }
    where
      go : (j : ℕ) → j < i + 1 → TierIs (get_or ks i kd) t d.0 → Dec (j ≡ i) → sound_prompt (as_tier (get_or ks j kd)) ≡ true
      go j m here (yes q) = subst⁻¹ (λ (n : ℕ). sound_prompt (as_tier (get_or ks n kd)) ≡ true) q (tier-sound (get_or ks i kd) t d.0 here)
      go j m here (no q) = is.sound j (omega (arith, q))

  pub tiers_all : (i : ℕ) (p : Prompts) → TieredTo account i p.tier p.net → p.count ≡ i → i ≡ length (contracts_of account) → i ≤ most_contracts
      → TiersIn account p
  tiers_all i p is c e few =
      let from = tiered_all (map lean ks) i i p is.tiered refl c in
      let n : length (map lean ks) ≤ i = rw length-map (omega (arith, ks_length)) in
      record {
        count_is = c ∙ e;
        few = omega arith;
        opens_are = from.opens_are ∙ ap (map tier_of) (take_all i (map lean ks) n) ∙ lean_tiers ks;
        nets_are = ap (λ (m : ℕ). take m (deltas_in p.net)) c ∙ from.nets_are ∙ ap (map (λ l. l.net.0)) (take_all i (map lean ks) n) ∙ lean_nets ks;
        tiers_sound = all_sound ks kd (λ j h. is.sound j (omega (arith, ks_length)));
      }

-- ---- the table

module _ (account : List Record) (law : Lawful account) (p : Prompts) (is : TiersIn account p) (part : List ℕ) (ep : PartOf account entry_part part) where
  pub entries_few : record_count part ≤ most_entries
  entries_few = omega (arith, (entries_fit account law part ep).few, count_is part)

  pub ps_length : length (map as_tier (contracts account)) ≡ p.count
  ps_length = length-map (contracts account) as_tier ∙ length-map (contracts_of account) (parts_in account) ∙ sym is.count_is

  -- the steps accept the contracts and the entries
  pub tiers_accepted : (t : Table) → TableOf intercontract part t → given.sound p t ≡ true
  tiers_accepted t table =
      handed_sound p t (map as_tier (contracts account)) (map intercontract (records part)) is.opens_are table.spreads_are
      (omega (arith, is.few)) (omega (arith, table.count_is, entries_few)) is.tiers_sound
      (spreads_sound intercontract (records part) (λ k h. entry_accepted (get_or (records part) k []) ((entries_fit account law part ep).each k h)))
