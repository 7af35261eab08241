-- What the check of the records leaves of a file, and that an account's contract numbers are the listed ones, in rising order.
-- Assumes nothing.
use Rattle.std.specs.Prelude.{Ok}
use Prim.Native.Nat.{ℕ, zero, suc, ◌+◌, ◌≤◌, ◌<◌}
use mathlib.Core.Path.{◌≡◌, refl, sym, ap, subst, ◌∙◌}
use mathlib.Core.Bool.{Bool, true, false, ◌||◌}
use mathlib.Core.List.{List, [], ◌∷◌, map}
use lib.Dec.{eqb}
use native.Mathlib.Omega.{arith}
use borrow.Author.Tests.{ne_eqb, eqb-true, eqb-false}
use Rattle.exact.specs.Lists.{cons_if, keep, any}
use Rattle.record.specs.Bytes.{count_from}
use Rattle.record.specs.Layout.{Record, contract}
use Rattle.account.specs.Accepted.{Each, listed}
use Rattle.account.specs.Check.{records_checked, most_contracts}
use Rattle.account.specs.Lawful.{Recorded}
use Rattle.account.specs.Orders.{Rising}
use Rattle.account.specs.Parts.{of_kind, contracts_of}
use Rattle.account.specs.Records.{records}
use Rattle.account.proofs.Accepted.{accepts}
use Rattle.account.proofs.Every.{every_weaker}
use Rattle.account.proofs.Lists.{any_keep}
use Rattle.account.proofs.Orders.{orders}

pub recorded : (file : List ℕ) → records_checked file ≡ Ok tt → Recorded (records file)
recorded file ok =
    let a = accepts file ok in
    record {
      ranges = a.ranges;
      limits = a.limits;
      one_prompt = a.one_prompt;
      named = a.named;
      orders = orders file ok;
    }

-- ---- contract numbers that rise, the first of them a or above
abbrev From : ℕ → List Record → Type 0
From a [] = Unit
From a (r ∷ rs) = (a ≤ contract r) × From (contract r + 1) rs

rising_from : (a : ℕ) (r : Record) (rs : List Record) → a ≤ contract r → Rising (r ∷ rs) → From a (r ∷ rs)
rising_from a r [] h up = (h, tt)
rising_from a r (s ∷ rs) h up =
    (h, rising_from (contract r + 1) s rs (omega (arith, up 0 (omega arith))) (λ k l. up (suc k) (omega arith)))

all_from : (rs : List Record) → Rising rs → From 0 rs
all_from [] up = tt
all_from (r ∷ rs) up = rising_from 0 r rs (omega arith) up

abbrev has : List Record → ℕ → Bool
has rs c = any (λ r. eqb (contract r) c) rs

same_kept :
    (p q : ℕ → Bool) (a n : ℕ) → ((c : ℕ) → a ≤ c → p c ≡ q c) → keep p (count_from a n) ≡ keep q (count_from a n)
same_kept p q a zero f = refl
same_kept p q a (suc n) f = rw (f a (omega arith), same_kept p q (a + 1) n (λ c h. f c (omega arith)))

none_kept : (a n : ℕ) → keep (λ c. false) (count_from a n) ≡ []
none_kept a zero = refl
none_kept a (suc n) = none_kept (a + 1) n

has_none : (c a : ℕ) (rs : List Record) → c < a → From a rs → has rs c ≡ false
has_none c a [] h up = refl
has_none c a (r ∷ rs) h up =
    let l = up.0 in
    rw (ne_eqb (contract r) c (λ e. omega arith)) (has_none c (contract r + 1) rs (omega arith) up.1)

numbers_kept :
    (n a : ℕ) (rs : List Record) → From a rs → Each (λ r. contract r < a + n) rs
    → map contract rs ≡ keep (has rs) (count_from a n)
numbers_kept n a [] up most = sym (none_kept a n)
numbers_kept zero a (r ∷ rs) up most = absurd (omega (arith, up.0, most.0))
numbers_kept (suc n) a (r ∷ rs) up most =
    go (eqb (contract r) a) refl (λ f. numbers_kept n (a + 1) rs f (every_weaker rs (λ x l. omega arith) most.1))
    (λ f. numbers_kept n (a + 1) (r ∷ rs) f (every_weaker (r ∷ rs) (λ x l. omega arith) most))
  where
    go :
        (t : Bool) → eqb (contract r) a ≡ t
        → (From (a + 1) rs → map contract rs ≡ keep (has rs) (count_from (a + 1) n))
        → (From (a + 1) (r ∷ rs) → map contract (r ∷ rs) ≡ keep (has (r ∷ rs)) (count_from (a + 1) n))
        → map contract (r ∷ rs) ≡ keep (has (r ∷ rs)) (count_from a (suc n))
    go true e here there =
        let i = eqb-true (contract r) a e in
        let above : (c : ℕ) → a + 1 ≤ c → has (r ∷ rs) c ≡ has rs c =
        λ c h. ap (λ (b : Bool). b || has rs c) (ne_eqb (contract r) c (λ j. omega arith)) in
        ap (λ (x : ℕ). x ∷ map contract rs) i
        ∙ ap (λ (l : List ℕ). a ∷ l)
        (here (subst (λ (x : ℕ). From (x + 1) rs) i up.1)
        ∙ sym (same_kept (has (r ∷ rs)) (has rs) (a + 1) n above))
        ∙ ap (λ (b : Bool). cons_if (b || has rs a) a (keep (has (r ∷ rs)) (count_from (a + 1) n))) (sym e)
    go false e here there =
        let d = eqb-false (contract r) a e in
        let l = up.0 in
        let f : From (a + 1) (r ∷ rs) = (omega arith, up.1) in
        there f
        ∙ ap (λ (b : Bool). cons_if b a (keep (has (r ∷ rs)) (count_from (a + 1) n)))
        (sym (has_none a (a + 1) (r ∷ rs) (omega arith) f))

-- an account's contract numbers are the listed ones, in rising order
pub numbered :
    (rs : List Record) → Recorded rs
    → map contract (contracts_of rs) ≡ keep (λ c. listed c rs) (count_from 0 most_contracts)
numbered rs law =
    numbers_kept most_contracts 0 (contracts_of rs) (all_from (contracts_of rs) law.orders.contracts)
    (every_weaker (contracts_of rs) (λ r w. omega (arith, w.contracts)) law.ranges.contracts)
    ∙ same_kept (has (contracts_of rs)) (λ c. listed c rs) 0 most_contracts (λ c h. any_keep (of_kind 1) (λ r. eqb (contract r) c) rs)
