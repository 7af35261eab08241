-- The records of a part of the file, one after the other.
-- Assumes nothing.
use mathlib.Core.Path.{◌≡◌, refl, sym, ap, ap₂, ◌∙◌, subst, subst⁻¹}
use mathlib.Core.List.{List, [], ◌∷◌, ◌++◌, map}
use Prim.Native.Nat.{ℕ, ◌+◌, ◌-◌, ◌*◌, ◌≤◌, ◌<◌, zero-le}
use native.Mathlib.Nat.{le_refl}
use native.Mathlib.Numerals.{add-one}
use native.Mathlib.Omega.{arith}
use lib.ListN.{length, get_or, take, drop, set, length-map, length-set}
use lib.Seq.{take-suc, take-suc-set, take_all}
use Rattle.record.specs.Bytes.{record_bytes}
use Rattle.exact.proofs.Lists.{get_d_map}
use Rattle.record.specs.Layout.{Record}
use Rattle.account.specs.Records.{records, record_at, record_count}
use Rattle.account.proofs.Orders.{cut_at}
pub use Rattle.account.proofs.Walk.{length_cut}

pub record_here : (f : List ℕ) (k : ℕ) → k < record_count f → get_or (records f) k [] ≡ record_at f k
record_here f k h = cut_at (record_count f) k f h

-- the part that the code lends
pub lent_record : (f : List ℕ) (k : ℕ) → take (k * record_bytes + record_bytes - k * record_bytes) (drop (k * record_bytes) f) ≡ record_at f k
lent_record f k = let e : k * record_bytes + record_bytes - k * record_bytes ≡ record_bytes = omega arith in ap (λ (n : ℕ). take n (drop (k * record_bytes) f)) e

-- a table that is made of the records of a part, place by place
module _ {A : Type 0} (g : Record → A) (f : List ℕ) where
  pub record Filled (k : ℕ) (table : List A) : Type 0 where
    pub room : record_count f ≤ length table
    pub within : k ≤ record_count f
    pub so_far : take k table ≡ take k (map g (records f))

  pub start : (table : List A) → record_count f ≤ length table → Filled 0 table
  start table h = record { room = h; within = zero-le; so_far = refl }

  pub next : (k : ℕ) (table : List A) (a : A) (r : Record) → Filled k table → k < record_count f → get_or (records f) k [] ≡ r → a ≡ g r → Filled (k + 1) (set table k a)
  next k table a r filled h is e =
      record {
        room = rw (length-set) filled.room;
        within = omega arith;
        so_far =
            ap (λ (n : ℕ). take n (set table k a)) (add-one k)
            ∙ take-suc-set table k a (omega (arith, filled.room))
            ∙ ap₂ (λ (xs : List A) (x : A). xs ++ (x ∷ [])) filled.so_far
            (e ∙ ap g (sym is) ∙ sym (get_d_map g (records f) k [] (g []) (rw (length_cut) h)))
            ∙ sym (take-suc (map g (records f)) k (g []) (rw (length-map, length_cut) h))
            ∙ ap (λ (n : ℕ). take n (map g (records f))) (sym (add-one k));
      }

  pub finish : (k : ℕ) (table : List A) → Filled k table → record_count f ≤ k → take (record_count f) table ≡ map g (records f)
  finish k table filled h =
      let e : k ≡ record_count f = omega (arith, filled.within) in
      subst (λ (n : ℕ). take n table ≡ take n (map g (records f))) e filled.so_far
      ∙ take_all (record_count f) (map g (records f)) (rw (length-map, length_cut) (le_refl (record_count f)))

-- the part that the code lends is the record at that place
pub lent_at : (f : List ℕ) (k : ℕ) → k < record_count f
    → take (k * record_bytes + record_bytes - k * record_bytes) (drop (k * record_bytes) f) ≡ get_or (records f) k []
lent_at f k h = lent_record f k ∙ sym (record_here f k h)

pub below_records : (f : List ℕ) (k : ℕ) → k < record_count f → k < length (records f)
below_records f k h = subst⁻¹ (λ (n : ℕ). k < n) (length_cut (record_count f) f) h

pub record_at_lem : (f : List ℕ) (k : ℕ) → k < record_count f
    → get_or (records f) k [] ≡ take (k * record_bytes + record_bytes - k * record_bytes) (drop (k * record_bytes) f)
record_at_lem f k h = sym (lent_at f k h)

pub count_is : (f : List ℕ) → length (records f) ≡ record_count f
count_is f = length_cut (record_count f) f
