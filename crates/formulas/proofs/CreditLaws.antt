-- What an entry uses of a contract, from the numbers of its two steps; and a contract's credits, from all numbers.
-- Assumes nothing.
use Prim.Native.Nat.{ℕ, suc, ◌+◌, ◌-◌, ◌≤◌, zero-le, suc-le-suc}
use native.Mathlib.Omega.{arith}
use mathlib.Core.Path.{◌≡◌, refl, sym, ap, ap₂, ◌∙◌}
use mathlib.Core.Bool.{Bool, true, false, cond}
use mathlib.Core.List.{List, [], ◌∷◌, map}
use borrow.Author.Tests.{lt-ltb, eqb-true}
use lib.Dec.{eqb}
use Rattle.record.specs.Layout.{Record, contract, second_contract, percent, first_ratio, second_ratio, tenths}
use Rattle.spread.specs.Steps.{Market, long, short, Open, Taker, taker, first_market, second_market, legs_in, pool, use_of, formed, after, steps, numbers}
use Rattle.spread.specs.Demand.{total_use, sound_steps}
use Rattle.spread.proofs.Demand3.{demand3}
use Rattle.spread.proofs.Spending.{left_spend, pool-spend}
use Rattle.formulas.specs.Deltas.{intercontract}
use Rattle.formulas.specs.code.Within.{EntryFit, EntriesFit}
use Rattle.formulas.specs.Credit.{credit, credits, credits_by, unused_by, used_by_entry, after_entry, entry_use}

abbrev entry_steps : Record → List (List Taker)
entry_steps e = steps (intercontract e ∷ [])

entry_sound : (e : Record) → EntryFit e → sound_steps (entry_steps e) ≡ true
entry_sound e w = rw (lt-ltb 0 (first_ratio e) w.first_ratio_lem, lt-ltb 0 (second_ratio e) w.second_ratio_lem)

-- the numbers of the entry's two steps
abbrev first_step : Record → List Taker
first_step e = map (taker (tenths e) first_market) (legs_in (intercontract e))

abbrev second_step : Record → List Taker
second_step e = map (taker (tenths e) second_market) (legs_in (intercontract e))

abbrev pub first_number : Record → List Open → ℕ
first_number e ps = formed (first_step e) ps

abbrev pub second_number : Record → List Open → ℕ
second_number e ps = formed (second_step e) (after (first_step e) (first_number e ps) ps)

-- what the two steps take from a contract, long and short
abbrev taken : Market → ℕ → Record → List Open → ℕ
taken m c e ps = total_use m c (entry_steps e) (numbers (entry_steps e) ps)

pool_left : (m : Market) (c : ℕ) (e : Record) (ps : List Open) → pool m c (after_entry e ps) ≡ pool m c ps - taken m c e ps
pool_left m c e ps =
    ap (pool m c) (left_spend (entry_steps e) ps)
    ∙ pool-spend (λ n t. total_use n t (entry_steps e) (numbers (entry_steps e) ps)) m c ps

used_taken : (c : ℕ) (e : Record) (ps : List Open) → EntryFit e → used_by_entry e c ps ≡ taken long c e ps + taken short c e ps
used_taken c e ps w =
    let d = demand3 (entry_steps e) ps (entry_sound e w) in
    let l = d.enough (numbers (entry_steps e) ps) d.first.is_one long c in
    let s = d.enough (numbers (entry_steps e) ps) d.first.is_one short c in
    let pl = pool_left long c e ps in
    let ps' = pool_left short c e ps in
    omega arith

-- what the first and the second step take of the first contract, nr and mr, and of the second, nq and mq
split : (a b : Bool) (nr mr nq mq : ℕ) → (a ≡ true → b ≡ true → ⊥)
    → (cond a nr 0 + (0 + 0) + (0 + (cond b mq 0 + 0) + 0)) + (0 + (cond b nq 0 + 0) + (cond a mr 0 + (0 + 0) + 0))
    ≡ cond a (nr + mr) (cond b (nq + mq) 0)
split true true nr mr nq mq h = absurd (h refl refl)
split true false nr mr nq mq h = omega arith
split false true nr mr nq mq h = omega arith
split false false nr mr nq mq h = refl

pub used_in_lem : (c : ℕ) (e : Record) (ps : List Open) → EntryFit e
    → used_by_entry e c ps ≡ entry_use c e (first_number e ps) (second_number e ps)
used_in_lem c e ps w =
    used_taken c e ps w
    ∙ split (eqb c (contract e)) (eqb c (second_contract e)) (use_of (tenths e) (first_number e ps) (first_ratio e))
    (use_of (tenths e) (second_number e ps) (first_ratio e))
    (use_of (tenths e) (first_number e ps) (second_ratio e)) (use_of (tenths e) (second_number e ps) (second_ratio e))
    (λ a b. w.apart (sym (eqb-true c (contract e) a) ∙ eqb-true c (second_contract e) b))

-- of a contract's entry no more is used than the contract has
pub used_within : (c : ℕ) (e : Record) (ps : List Open) → used_by_entry e c ps ≤ unused_by c ps
used_within c e ps = omega arith

pub left_within : (c : ℕ) (e : Record) (ps : List Open) → EntryFit e → unused_by c (after_entry e ps) ≤ unused_by c ps
left_within c e ps w =
    let pl = pool_left long c e ps in
    let ps' = pool_left short c e ps in
    omega arith

pub rest_within : (e : Record) (es : List Record) → EntriesFit (e ∷ es) → EntriesFit es
rest_within e es w = record { few = omega (arith, w.few); each = λ k h. w.each (suc k) (suc-le-suc h) }

pub credits_by_lem : (unit c twice net : ℕ) (es : List Record) (ps : List Open) → EntriesFit es
    → credits unit c twice net es ps ≡ credits_by unit c twice net es (numbers (steps (map intercontract es)) ps)
credits_by_lem unit c twice net [] ps w = refl
credits_by_lem unit c twice net (e ∷ es) ps w =
    ap₂ ◌+◌ (ap (λ (u : ℕ). credit unit twice u (percent e) net) (used_in_lem c e ps (w.each 0 (suc-le-suc zero-le))))
    (credits_by_lem unit c twice net es (after_entry e ps) (rest_within e es w))
