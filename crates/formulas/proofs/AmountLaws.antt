-- Products of the formulas stay within 64 bits, and charges within their bounds.
-- Assumes nothing.
use mathlib.Core.Path.{◌≡◌, refl, sym, ap, ◌∙◌}
use mathlib.Core.Bool.{Bool, true, false, cond}
use Prim.Native.Nat.{ℕ, ◌+◌, ◌*◌, ◌/◌, ◌%◌, ◌≤◌, ◌<◌}
use native.Mathlib.Nat.{mul-le-mul, mul-le-mul_left, mul_assoc, mul_right_comm, mul_left_comm, add-mul, zero-mul, div-add-mod', div-mul-le_self, mod-lt}
use native.Mathlib.Nat.{le-mul_of_pos_right}
use native.Mathlib.Omega.{arith}
use lib.Dec.{eqb}
use borrow.Author.Tests.{eqb-true}
use Rattle.exact.specs.Rounding.{half_up, half_up_to}
use Rattle.exact.proofs.HalfUp.{half_zero, half_whole, half_within, half_twice}
use Rattle.exact.proofs.UnitLaws.{up_above, up_none}
use Rattle.formulas.specs.Bounds.{most_delta, most_rate, most_charge, most_risk, most_credit}
use Rattle.formulas.specs.Charges.{charged}
use Rattle.formulas.specs.Credit.{to_unit, from_unit, unit_price_risk, credit_at, credit}
use Rattle.record.specs.Layout.{most_unit}

-- deltas times a rate
pub delta_rate : (d rate : ℕ) → d ≤ most_delta → rate ≤ most_rate → d * rate ≤ 1280000000000000000
delta_rate d rate hd hr = mul-le-mul hd hr

pub spreads_rate : (first second rate : ℕ) → first ≤ most_delta → second ≤ most_delta → rate ≤ most_rate → (first + second) * rate ≤ 2560000000000000000
spreads_rate first second rate h k hr = let s : first + second ≤ 256000000000 = omega arith in mul-le-mul s hr

-- a charge of less than its bound
pub charged_within : (unit n : ℕ) → unit ≤ most_unit → n ≤ 2560000000000000000 → charged unit n ≤ most_charge
charged_within unit n hu h = omega (arith, up_above unit 10000 n)

-- the unit price risk, from a quotient and a remainder
pub record UnitParts (twice net whole part : ℕ) : Type 0 where
  pub is : whole * to_unit + part ≡ unit_price_risk twice net
  pub whole_within : whole * net ≤ twice
  pub part_within : part ≤ to_unit

pub unit-parts : (twice net part : ℕ) → 0 < net → part ≡ half_up (twice % net * to_unit) net → UnitParts twice net (twice / net) part
unit-parts twice net part h e =
    let split : twice / net * net + twice % net ≡ twice = div-add-mod' twice net in
    let whole : twice * to_unit ≡ twice / net * to_unit * net + twice % net * to_unit = omega (arith, split, mul_right_comm (twice / net) to_unit net) in
    record {
      is = sym (ap (λ (x : ℕ). half_up x net) whole ∙ half_whole (twice / net * to_unit) (twice % net * to_unit) net h ∙ omega (arith, e));
      whole_within = omega (arith, split);
      part_within = omega (arith, e, half_within to_unit (twice % net * to_unit) net (omega (arith, mod-lt twice h)));
    }

-- no net delta, no unit price risk, and no credit
pub unit-none : (twice : ℕ) → unit_price_risk twice 0 ≡ 0
unit-none twice = half_zero (twice * to_unit)

credit-none : (unit used percent : ℕ) → credit_at unit 0 used percent ≡ 0
credit-none unit used percent =
    ap (λ (x : ℕ). half_up_to x from_unit unit) (ap (λ (x : ℕ). x * percent) (zero-mul used) ∙ zero-mul percent) ∙ up_none unit from_unit

-- rounding at most doubles the unit price risk: the credit is at most twice the price risk, and half a unit
pub credit_within : (unit twice used percent net : ℕ) → used ≤ net → percent ≤ 100
    → 2 * credit_at unit (unit_price_risk twice net) used percent ≤ 2 * twice + unit
credit_within unit twice used percent net hu hp =
    let risk = unit_price_risk twice net in
    let all : risk * used ≤ risk * net = mul-le-mul_left risk hu in
    let share : risk * used * percent ≤ risk * net * 100 = mul-le-mul all hp in
    omega (arith, share, half_twice (twice * to_unit) net, up_above unit from_unit (risk * used * percent))

-- beyond the price risk it goes by at most 640.00 and half a unit: half a ten-thousandth for each of 12,800,000 lots
pub credit-beyond : (unit twice used percent net : ℕ) → used ≤ net → net ≤ most_delta → percent ≤ 100
    → 2 * credit_at unit (unit_price_risk twice net) used percent ≤ twice + 128000 + unit
credit-beyond unit twice used percent net hu hn hp =
    let risk = unit_price_risk twice net in
    let all : risk * used ≤ risk * net = mul-le-mul_left risk hu in
    let share : risk * used * percent ≤ risk * net * 100 = mul-le-mul all hp in
    let rounded = div-mul-le_self (2 * (twice * to_unit) + net) (2 * net) in
    omega (arith, share, rounded, up_above unit from_unit (risk * used * percent), mul_left_comm risk 2 net)

-- the credit without its test for a net delta of 0
credit_at_lem : (unit twice used percent net : ℕ) → credit unit twice used percent net ≡ credit_at unit (unit_price_risk twice net) used percent
credit_at_lem unit twice used percent net = go (eqb net 0) refl
  where
    go : (t : Bool) → eqb net 0 ≡ t → cond t 0 (credit_at unit (unit_price_risk twice net) used percent) ≡ credit_at unit (unit_price_risk twice net) used percent
    go true e =
        let none = ap (unit_price_risk twice) (eqb-true net 0 e) ∙ unit-none twice in
        sym (ap (λ (u : ℕ). credit_at unit u used percent) none ∙ credit-none unit used percent)
    go false e = refl

-- the wholes in units, and what is left of them
parted : (unit whole part used percent q r : ℕ) → q * (200 * unit) + r ≡ whole * used
    → (whole * to_unit + part) * used * percent ≡ q * percent * (from_unit * unit) + (r * percent * to_unit + part * (used * percent))
parted unit whole part used percent q r e =
    let in-units : (whole * to_unit + part) * used ≡ q * (from_unit * unit) + (r * to_unit + part * used) =
    omega (arith, e, add-mul (whole * to_unit) part used, mul_right_comm whole to_unit used, mul_left_comm q 200 unit, mul_left_comm q from_unit unit)
    in
    ap (λ (x : ℕ). x * percent) in-units
    ∙ add-mul (q * (from_unit * unit)) (r * to_unit + part * used) percent
    ∙ omega (
      arith,
      mul_right_comm q (from_unit * unit) percent,
      add-mul (r * to_unit)
          (part * used) percent,
      mul_right_comm r to_unit percent,
      mul_assoc part used percent,
    )

-- the credit, from the wholes and the part of the unit price risk
pub record CreditParts (unit twice used percent net whole part : ℕ) : Type 0 where
  pub is : (whole * used / (200 * unit) * percent + half_up (whole * used % (200 * unit) * percent * to_unit + part * (used * percent))
      (from_unit * unit)) * unit ≡ credit unit twice used percent net
  pub within : credit unit twice used percent net ≤ most_credit
  pub halves_within : whole * used ≤ twice
  pub wholes_within : whole * used / (200 * unit) * percent ≤ twice
  pub rest_within : whole * used % (200 * unit) * percent ≤ 20000000
  pub share_within : used * percent ≤ 12800000000000
  pub part_within : part * (used * percent) ≤ 6400000000000000000

pub credit-parts : (unit twice used percent net whole part : ℕ) → 1 ≤ unit → unit ≤ most_unit → used ≤ net → net ≤ most_delta → percent ≤ 100
    → twice ≤ 4 * most_risk
    → whole * to_unit + part ≡ unit_price_risk twice net → whole * net ≤ twice → part ≤ to_unit → CreditParts unit twice used percent net whole part
credit-parts unit twice used percent net whole part h1 h2 hu hn hp ht e hw hq =
    let halves = whole * used in
    let q = whole * used / (200 * unit) in
    let r = whole * used % (200 * unit) in
    let split : q * (200 * unit) + r ≡ halves = div-add-mod' halves (200 * unit) in
    let at = credit_at_lem unit twice used percent net in
    let small : used * percent ≤ net * 100 = mul-le-mul hu hp in
    let few-shares : used * percent ≤ 12800000000000 = omega (arith, small) in
    let below : r < 200 * unit = mod-lt halves (omega arith) in
    let rest : r ≤ 200000 = omega arith in
    let few : halves ≤ whole * net = mul-le-mul_left whole hu in
    let most : q * percent ≤ q * 100 = mul-le-mul_left q hp in
    let whole-units : q ≤ q * unit = le-mul_of_pos_right q h1 in
    let apart = ap (λ (u : ℕ). u * used * percent) (sym e) ∙ parted unit whole part used percent q r split in
    record {
      is =
          sym
          (at
          ∙ ap (λ (x : ℕ). half_up_to x from_unit unit) apart
          ∙ ap (λ (x : ℕ). x * unit) (half_whole (q * percent) (r * percent * to_unit + part * (used * percent)) (from_unit * unit) (omega arith)));
      within = omega (arith, at, credit_within unit twice used percent net hu hp);
      halves_within = omega (arith, few, hw);
      wholes_within = omega (arith, few, hw, most, split, whole-units, mul_left_comm q 200 unit);
      rest_within = mul-le-mul rest hp;
      share_within = few-shares;
      part_within = mul-le-mul hq few-shares;
    }
