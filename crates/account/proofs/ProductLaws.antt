-- Laws of conversion: the table of rates one rate at a time, how large its factors are, and what a row that passes 14 and 15 comes to.
-- Assumes nothing.
use Prim.Native.Nat.{ℕ, zero, suc, ◌+◌, ◌-◌, ◌*◌, ◌≤◌, ◌<◌, zero-le}
use mathlib.Core.Path.{◌≡◌, refl, sym, ap, ◌∙◌, subst}
use mathlib.Core.Bool.{Bool, true, false, not, ◌&&◌, ◌||◌, cond, true≢false}
use mathlib.Core.List.{List, [], ◌∷◌}
use native.Mathlib.Nat.{mul-le-mul, mul-pos, mul-zero}
use native.Mathlib.Omega.{arith}
use lib.Dec.{eqb}
use lib.IntN.{ℤ, pos, nat_abs, ◌*ℤ◌}
use lib.ListN.{length, get_or, set, replicate, get_or-replicate}
use lib.Seq.{get_or-set_same, get_or-set_other, ext_get_or}
use borrow.Author.Tests.{eqb-true, eqb-false, ne_eqb, ltb-false}
use Rattle.exact.specs.Lists.{any}
use Rattle.exact.specs.Signed.{negative}
use Rattle.exact.proofs.FractionLaws.{fraction_within}
use Rattle.exact.proofs.SignedCalls.{abs_times}
use Rattle.record.specs.Bytes.{count_from}
use Rattle.record.specs.Layout.{Record, lots, value, loss, currency, most_currency, rate_currency, adjustment, scenario_count, hundred_thousand}
use Rattle.record.specs.Within.{Between, RowWithin, RateWithin}
use Rattle.account.specs.Accepted.{Each}
use Rattle.account.specs.Products.{in_own, of_currency, rate_for, raised, lowered, most_factor, hundred_million, converted, in_hundredths, has_rate, most_per_tick}
use Rattle.account.specs.Products.{most_conversion, beyond_in, conversion_beyond, Convertible}
use Rattle.account.specs.code.Rates.{RatesOf}
use Rattle.account.specs.declared.rates.Rates.{Rates}

-- ---- the table, one rate at a time

-- what the table holds of each currency, by what it keeps of a rate
abbrev pub Held : (Record → ℕ) → List Record → List ℕ → Type 0
Held f rates xs = (c : ℕ) → c ≤ most_currency → get_or xs c 0 ≡ f (rate_for rates c)

module _ (f : Record → ℕ) where
  pub held_none : f [] ≡ 0 → Held f [] (replicate (most_currency + 1) 0)
  held_none e c h = get_or-replicate (most_currency + 1) c 0 0 (omega arith) ∙ sym e

  pub held_more : (rate : Record) (rates : List Record) (xs : List ℕ) (x : ℕ) → length xs ≡ most_currency + 1 → rate_currency rate ≤ most_currency
      → x ≡ f rate → Held f rates xs → Held f (rate ∷ rates) (set xs (rate_currency rate) x)
  held_more rate rates xs x long small e held c h = go (eqb (rate_currency rate) c) refl
    where
      go : (t : Bool) → eqb (rate_currency rate) c ≡ t → get_or (set xs (rate_currency rate) x) c 0 ≡ f (cond t rate (rate_for rates c))
      go true q =
          ap (λ (k : ℕ). get_or (set xs (rate_currency rate) x) k 0) (sym (eqb-true _ _ q))
          ∙ get_or-set_same xs (rate_currency rate) x 0 (omega arith) ∙ e
      go false q = get_or-set_other xs (rate_currency rate) c x 0 (λ k. eqb-false _ _ q (sym k)) ∙ held c h

  pub held_past : (rate : Record) (rates : List Record) (xs : List ℕ) → most_currency < rate_currency rate → Held f rates xs → Held f (rate ∷ rates) xs
  held_past rate rates xs large held c h =
      held c h ∙ ap (λ (t : Bool). f (cond t rate (rate_for rates c))) (sym (ne_eqb (rate_currency rate) c (λ e. omega arith)))

-- ---- how large the factors are

pub record FactorsWithin (rate : Record) : Type 0 where
  pub up : raised rate ≤ most_factor
  pub down : lowered rate ≤ most_factor

rate_factors : (rate : Record) → RateWithin rate → FactorsWithin rate
rate_factors rate w =
    let more : 100 + adjustment rate ≤ 150 = omega (arith, w.adjustments) in
    let less : 100 - adjustment rate ≤ 150 = omega arith in
    record { up = mul-le-mul w.spot_rates.most more; down = mul-le-mul w.spot_rates.most less }

pub factors_within : (rates : List Record) (c : ℕ) → Each RateWithin rates → FactorsWithin (rate_for rates c)
factors_within [] c each = record { up = zero-le; down = zero-le }
factors_within (rate ∷ rates) c each = go (eqb (rate_currency rate) c) (factors_within rates c each.1)
  where
    go : (t : Bool) → FactorsWithin (rate_for rates c) → FactorsWithin (cond t rate (rate_for rates c))
    go true others = rate_factors rate each.0
    go false others = others

-- a currency has a rate exactly where its factor is not 0
pub rate_known : (rates : List Record) (c : ℕ) → Each RateWithin rates → not (eqb (raised (rate_for rates c)) 0) ≡ any (of_currency c) rates
rate_known [] c each = refl
rate_known (rate ∷ rates) c each = go (eqb (rate_currency rate) c) (rate_known rates c each.1)
  where
    go : (t : Bool) → not (eqb (raised (rate_for rates c)) 0) ≡ any (of_currency c) rates
        → not (eqb (raised (cond t rate (rate_for rates c))) 0) ≡ t || any (of_currency c) rates
    go true others =
        let some : 0 < raised rate = mul-pos (omega (arith, each.0.spot_rates.least)) (omega arith) in
        ap not (ne_eqb (raised rate) 0 (λ e. omega arith))
    go false others = others

-- ---- a row that passes 14 and 15

pub own_within : (row : Record) (s : ℕ) → RowWithin row → Between 1 s scenario_count → nat_abs (in_own s row) ≤ most_conversion
own_within row s w b =
    abs_times (lots row *ℤ pos (value row)) (loss row s) {m = most_per_tick} {n = hundred_thousand}
    (abs_times (lots row) (pos (value row)) {m = hundred_thousand} {n = 10000} w.lotss w.values.most) (w.losses s b)

-- what none of n numbers from m on does
none_does : (p : ℕ → Bool) (m n : ℕ) → any p (count_from m n) ≡ false → (k : ℕ) → m ≤ k → k < m + n → p k ≡ false
none_does p m zero h k a b = absurd (omega arith)
none_does p m (suc n) h k a b = go (p m) refl (eqb m k) refl h (λ g x y. none_does p (m + 1) n g k x y)
  where
    go : (t : Bool) → p m ≡ t → (q : Bool) → eqb m k ≡ q → t || any p (count_from (m + 1) n) ≡ false
        → (any p (count_from (m + 1) n) ≡ false → m + 1 ≤ k → k < m + 1 + n → p k ≡ false) → p k ≡ false
    go true e q f g later = absurd (true≢false g)
    go false e true f g later = subst (λ (i : ℕ). p i ≡ false) (eqb-true m k f) e
    go false e false f g later = let apart : m ≡ k → ⊥ = eqb-false m k f in later g (omega arith) (omega arith)

pub convertible : (rates : List Record) (row : Record) → RowWithin row → has_rate rates row ≡ true → conversion_beyond rates row ≡ false → Convertible rates row
convertible rates row w rated none = record { rated = rated; within = λ s b. go s b (eqb (currency row) 0) refl none }
  where
    go : (s : ℕ) → Between 1 s scenario_count → (t : Bool) → eqb (currency row) 0 ≡ t → not t && any (beyond_in rates row) (count_from 1 scenario_count) ≡ false
        → nat_abs (in_hundredths rates s row) ≤ most_conversion
    go s b true e h = rw e (own_within row s w b)
    go s b false e h =
        ltb-false most_conversion (nat_abs (in_hundredths rates s row)) (none_does (beyond_in rates row) 1 scenario_count h s b.least (omega (arith, b.most)))

-- at no rates another currency comes to nothing
unrated : (z : ℤ) → nat_abs (converted [] z) ≤ 0
unrated z = fraction_within 0 z (cond (negative z) 0 0) hundred_million (none (negative z))
  where
    none : (t : Bool) → nat_abs z * cond t 0 0 ≤ 0 * hundred_million
    none true = omega (arith, mul-zero (nat_abs z))
    none false = omega (arith, mul-zero (nat_abs z))

pub unrated_within : (row : Record) (s : ℕ) → RowWithin row → Between 1 s scenario_count → nat_abs (in_hundredths [] s row) ≤ most_conversion
unrated_within row s w b = go (eqb (currency row) 0)
  where
    go : (t : Bool) → nat_abs (cond t (in_own s row) (converted [] (in_own s row))) ≤ most_conversion
    go true = own_within row s w b
    go false = omega (arith, unrated (in_own s row))

-- ---- one table

one_list : (f : Record → ℕ) (rates : List Record) (xs ys : List ℕ) → length xs ≡ most_currency + 1 → length ys ≡ most_currency + 1 → Held f rates xs
    → Held f rates ys → xs ≡ ys
one_list f rates xs ys ex ey hx hy = ext_get_or 0 xs ys (ex ∙ sym ey) (λ c h. hx c (omega arith) ∙ sym (hy c (omega arith)))

-- two tables of the same rates are the same
pub one_table : (rates : List Record) (r s : Rates) → RatesOf rates r → RatesOf rates s → r ≡ s
one_table rates r s a b =
    let up = one_list raised rates r.raised s.raised a.raised-places b.raised-places a.raised_are b.raised_are in
    let down = one_list lowered rates r.lowered s.lowered a.lowered-places b.lowered-places a.lowered_are b.lowered_are in
    λ i. record { raised = up i; lowered = down i }
