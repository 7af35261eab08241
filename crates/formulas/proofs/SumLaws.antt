-- Charges and credits, added up place by place: what is done and what is still to do are the whole.
-- Assumes nothing.
use Prim.Native.Nat.{ℕ, ◌+◌, ◌*◌, ◌≤◌, ◌<◌, zero-le}
use native.Mathlib.Nat.{zero-add, zero-mul, mul-zero, add-mul, mul-le-mul}
use native.Mathlib.Numerals.{add-one}
use native.Mathlib.Omega.{arith}
use mathlib.Core.Path.{◌≡◌, refl, sym, ap, ap₂, ◌∙◌}
use mathlib.Core.Bool.{Bool, true, false, cond}
use mathlib.Core.List.{List, []}
use lib.IntN.{ℤ, pos}
use lib.ListN.{length, get_or, drop, drop_of_length-le}
use lib.Seq.{drop-cons}
use Rattle.exact.specs.Rounding.{half_up, half_up_to}
use Rattle.exact.proofs.UnitLaws.{up_none}
use lib.Dec.{eqb}
use Rattle.record.specs.Layout.{Record, contract, second_contract, first_ratio, second_ratio, tenths, rate_per_spread, spread_rate_of, outright_rate_of, percent}
use borrow.Author.Tests.{eq-eqb, ne_eqb}
use Rattle.spread.specs.declared.Spreads.{Spreads}
use Rattle.formulas.specs.Bounds.{most_formed}
use Rattle.formulas.specs.Charges.{spread_charge, interprompt_charge, prompt_charge, prompt_charges}
use Rattle.formulas.specs.Credit.{from_unit, unit_price_risk, credit_at, credit, both_take, entry_use, credits_by}
use Rattle.formulas.specs.code.Sums.{interleaved, spreads_at}

-- a sum over n places: `rest i` is what the places from i on come to, each at most `most`
pub record ToGo (n most : ℕ) (rest : ℕ → ℕ) (i sum : ℕ) : Type 0 where
  pub all : sum + rest i ≡ rest 0
  pub small : sum ≤ i * most
  pub within : i ≤ n

pub start : (n most : ℕ) (rest : ℕ → ℕ) → ToGo n most rest 0 0
start n most rest = record { all = zero-add (rest 0); small = zero-le; within = zero-le }

pub next : {n most : ℕ} {rest : ℕ → ℕ} (i sum c : ℕ) → ToGo n most rest i sum → i < n → rest i ≡ c + rest (i + 1) → c ≤ most
    → ToGo n most rest (i + 1) (sum + c)
next {n} {most} {rest} i sum c t h e m =
    let a = t.all in
    let b = t.small in
    record { all = omega arith; small = omega (arith, add-mul i 1 most); within = omega arith }

pub finish : {n most : ℕ} {rest : ℕ → ℕ} (i sum : ℕ) → ToGo n most rest i sum → n ≤ i → rest i ≡ 0 → sum ≡ rest 0
finish i sum t h e = let a = t.all in omega arith

-- the interprompt charge
module _ (unit : ℕ) (rs : List Record) (firsts seconds : List Spreads) where
  abbrev pub charge_at : ℕ → ℕ
  charge_at i = spread_charge unit (rate_per_spread (get_or rs i [])) (spreads_at firsts i) (spreads_at seconds i)

  abbrev pub charge_from : ℕ → ℕ
  charge_from i = interprompt_charge unit (drop i rs) (interleaved (drop i firsts) (drop i seconds))

  pub charge_step : length rs ≤ length firsts → length rs ≤ length seconds → (i : ℕ) → i < length rs → charge_from i ≡ charge_at i + charge_from (i + 1)
  charge_step hf hs i h =
      let f : i < length firsts = omega arith in
      let s : i < length seconds = omega arith in
      rw (add-one i, drop-cons rs i [], drop-cons firsts i (record { 0 = 0 }), drop-cons seconds i (record { 0 = 0 }))

  pub charge_none : (i : ℕ) → length rs ≤ i → charge_from i ≡ 0
  charge_none i h = rw (drop_of_length-le rs h)

-- the prompt date charges
module _ (unit : ℕ) (rs : List Record) (used unused : List ℤ) where
  abbrev pub prompt_at : ℕ → ℕ
  prompt_at i = prompt_charge unit (spread_rate_of (get_or rs i [])) (outright_rate_of (get_or rs i [])) (get_or used i (pos 0)) (get_or unused i (pos 0))

  abbrev pub prompt_from : ℕ → ℕ
  prompt_from i = prompt_charges unit (drop i rs) (drop i used) (drop i unused)

  pub prompt_step : length rs ≤ length used → length rs ≤ length unused → (i : ℕ) → i < length rs → prompt_from i ≡ prompt_at i + prompt_from (i + 1)
  prompt_step hu hn i h =
      let u : i < length used = omega arith in
      let n : i < length unused = omega arith in
      rw (add-one i, drop-cons rs i [], drop-cons used i (pos 0), drop-cons unused i (pos 0))

  pub prompt_none : (i : ℕ) → length rs ≤ i → prompt_from i ≡ 0
  prompt_none i h = rw (drop_of_length-le rs h)

-- a contract's credits
module _ (unit c twice net : ℕ) (rs : List Record) (firsts seconds : List Spreads) where
  abbrev pub credit_here : ℕ → ℕ
  credit_here i = credit unit twice (entry_use c (get_or rs i []) (spreads_at firsts i) (spreads_at seconds i)) (percent (get_or rs i [])) net

  abbrev pub credit_from : ℕ → ℕ
  credit_from i = credits_by unit c twice net (drop i rs) (interleaved (drop i firsts) (drop i seconds))

  pub credit_step : length rs ≤ length firsts → length rs ≤ length seconds → (i : ℕ) → i < length rs → credit_from i ≡ credit_here i + credit_from (i + 1)
  credit_step hf hs i h =
      let f : i < length firsts = omega arith in
      let s : i < length seconds = omega arith in
      rw (add-one i, drop-cons rs i [], drop-cons firsts i (record { 0 = 0 }), drop-cons seconds i (record { 0 = 0 }))

  pub credit-none : (i : ℕ) → length rs ≤ i → credit_from i ≡ 0
  credit-none i h = rw (drop_of_length-le rs h)

-- nothing used, nothing earned
pub nothing_used : (unit twice used percent net : ℕ) → used ≡ 0 → 0 ≡ credit unit twice used percent net
nothing_used unit twice used percent net e = go (eqb net 0)
  where
    none : credit_at unit (unit_price_risk twice net) used percent ≡ 0
    none =
        ap (λ (u : ℕ). credit_at unit (unit_price_risk twice net) u percent) e
        ∙ ap (λ (x : ℕ). half_up_to x from_unit unit) (ap (λ (x : ℕ). x * percent) (mul-zero (unit_price_risk twice net)) ∙ zero-mul percent)
        ∙ up_none unit from_unit

    go : (b : Bool) → 0 ≡ cond b 0 (credit_at unit (unit_price_risk twice net) used percent)
    go true = refl
    go false = sym none

-- what an entry uses, by the contract that it is asked for
module _ (c : ℕ) (e : Record) (f s k : ℕ) (ek : k ≡ contract e) where
  pub use_first : (t : Bool) (r : ℕ) → c ≡ k → t ≡ tenths e → r ≡ first_ratio e → both_take t r f s ≡ entry_use c e f s
  use_first t r h et er = rw (eq-eqb c (contract e) (h ∙ ek)) (ap₂ (λ (b : Bool) (x : ℕ). both_take b x f s) et er)

  pub use_second : (l : ℕ) (t : Bool) (r : ℕ) → l ≡ second_contract e → (c ≡ k → ⊥) → c ≡ l → t ≡ tenths e → r ≡ second_ratio e
      → both_take t r f s ≡ entry_use c e f s
  use_second l t r el h g et er =
      rw (ne_eqb c (contract e) (λ x. h (x ∙ sym ek)), eq-eqb c (second_contract e) (g ∙ el)) (ap₂ (λ (b : Bool) (x : ℕ). both_take b x f s) et er)

  pub use_none : (l : ℕ) → l ≡ second_contract e → (c ≡ k → ⊥) → (c ≡ l → ⊥) → ◌≡◌ {A = ℕ} 0 (entry_use c e f s)
  use_none l el h g =
      rw (ne_eqb c (contract e) (λ x. h (x ∙ sym ek)), ne_eqb c (second_contract e) (λ x. g (x ∙ sym el)))

-- what a step takes of a contract fits
pub step_product : (number ratio : ℕ) → number ≤ most_formed → ratio < 65536 → number * ratio ≤ 65536 * most_formed
step_product number ratio h g =
    let k : ratio ≤ 65536 = omega arith in
    let p : number * ratio ≤ most_formed * 65536 = mul-le-mul h k in
    omega arith

pub rounded_small : (n r most : ℕ) → n ≤ most → r ≡ half_up n 10 → r ≤ most
rounded_small n r most h e = omega arith
