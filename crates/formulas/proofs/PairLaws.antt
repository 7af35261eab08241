-- The table of paired scenarios is its own inverse, and fixes 15 and 16.
-- Assumes nothing.
use mathlib.Core.Path.{◌≡◌, refl, ap, sym, ◌∙◌}
use mathlib.Core.Bool.{Bool, true, false}
use Prim.Native.Nat.{ℕ, zero, suc, ◌-◌, ◌≤◌, ◌<◌}
use native.Mathlib.Nat.{not-suc-le-zero}
use native.Mathlib.Omega.{arith}
use borrow.Author.Tests.{ltb-true, ltb-false}
use lib.Dec.{eqb, ltb, eqb→eq}
use lib.ListN.{get_or, get_or-eq_default}
use Rattle.record.specs.Layout.{scenario_count}
use Rattle.exact.proofs.Table.{at}
use Rattle.formulas.specs.Pairs.{pairs, pair_of, PairTable}

-- the table is read one place below the scenario's number
pub pair_at : (s : ℕ) → 0 < s → pair_of s ≡ get_or pairs (s - 1) 0
pair_at zero h = absurd (not-suc-le-zero h)
pair_at (suc n) h = let e : suc n - 1 ≡ n = omega arith in ap (λ (k : ℕ). get_or pairs k 0) (sym e)

pub no_pair : (s : ℕ) → scenario_count ≤ s - 1 → pair_of s ≡ 0
no_pair s h = pair_at s (omega arith) ∙ get_or-eq_default pairs 0 h

-- the pair of the pair of the scenario at a place is that scenario
returned : ℕ → ℕ → Bool
returned k pair = eqb (pair_of pair) (suc k)

pub own_inverse : (s : ℕ) → 1 ≤ s → s ≤ scenario_count → pair_of (pair_of s) ≡ s
unfolding returned
own_inverse zero l h = absurd (not-suc-le-zero l)
own_inverse (suc n) l h = eqb→eq (pair_of (pair_of (suc n))) (suc n) (at returned pairs tt n h)

pub fixes_15 : pair_of 15 ≡ 15
fixes_15 = refl

pub fixes_16 : pair_of 16 ≡ 16
fixes_16 = refl

-- a scenario's pair is a scenario: what is none has no pair to come back by
paired : (s : ℕ) → 1 ≤ s → s ≤ scenario_count → (1 ≤ pair_of s) × (pair_of s ≤ scenario_count)
paired s l h = go (pair_of s) refl (ltb scenario_count (pair_of s)) refl
  where
    go : (p : ℕ) → pair_of s ≡ p → (t : Bool) → ltb scenario_count (pair_of s) ≡ t → (1 ≤ pair_of s) × (pair_of s ≤ scenario_count)
    go zero e t f = let z : 0 ≡ s = sym (ap pair_of e) ∙ own_inverse s l h in absurd (omega (arith, z, l))
    go (suc p) e true f =
        let z : 0 ≡ s = sym (no_pair (pair_of s) (omega (arith, ltb-true scenario_count (pair_of s) f))) ∙ own_inverse s l h in
        absurd (omega (arith, z, l))
    go (suc p) e false f = (omega (arith, e), ltb-false scenario_count (pair_of s) f)

pub pair_table_lem : PairTable
pair_table_lem =
    record {
      entries = refl;
      paired = paired;
      inverse = own_inverse;
      fixes_15 = fixes_15;
      fixes_16 = fixes_16;
      none = refl;
      beyond = λ s h. no_pair s (omega arith);
    }
