-- Sums of raised losses: a row adds to them what it adds to the totals, there is room for them, and what they come to in the end.
-- Assumes nothing.
use mathlib.Core.Path.{◌≡◌, refl, sym, ◌∙◌, ap, ap₂}
use mathlib.Core.Bool.{false}
use mathlib.Core.List.{List, [], ◌∷◌}
use Prim.Native.Nat.{ℕ, zero, suc, ◌+◌, ◌-◌, ◌*◌, ◌^◌, ◌%◌, ◌≤◌, ◌<◌}
use native.Mathlib.Nat.{not-suc-le-zero, mul-le-mul}
use native.Mathlib.Omega.{arith}
use lib.IntN.{ℤ, pos, negsuc, neg_ℤ, nat_abs, ◌+ℤ◌, ◌-ℤ◌, ◌*ℤ◌, +ℤ_idr, +ℤ_assoc, +ℤ_comm, +ℤ-neg_ℤ_cancel, neg_ℤ-+ℤ, *ℤ-zero}
use lib.ListN.{length, get_or, replicate, length-replicate, get_or-replicate, get_or-eq_default}
use lib.Seq.{ext_get_or}
use Rattle.exact.specs.Signed.{negative}
use Rattle.exact.proofs.Integers.{abs_add, abs_neg, natural_size, sub_naturals, sums_cross, times_add}
use Rattle.record.specs.Layout.{Record, loss, hundred_thousand, scenario_count}
use Rattle.formulas.specs.Bounds.{most_product}
use Rattle.formulas.specs.code.Position.{RowFit, AtMost, Added}
use Rattle.formulas.specs.code.Raised.{SumsRoom, signed_loss, raised_loss, raised_products, most_raised, unraised_at, settled_from, settled}
use Rattle.formulas.specs.code.Raised.{loss_bits, turn_of, raise_of, turned_bits, raised_by}
use Rattle.formulas.proofs.AddedLaws.{at_most_wider, at_most_added}
use Rattle.account.specs.Products.{most_per_tick}

-- ---- a loss that is raised

-- a size taken off
less_is : (n m : ℕ) → n ≤ m → neg_ℤ (pos n) +ℤ pos m ≡ pos (m - n)
less_is n m h = +ℤ_comm (neg_ℤ (pos n)) (pos m) ∙ sub_naturals m n h

pub raised_natural : (l : ℤ) (m : ℕ) → nat_abs l ≤ m → negative (l +ℤ pos m) ≡ false
raised_natural (pos n) m h = refl
raised_natural (negsuc n) m h = ap negative (less_is (suc n) m h)

raised_is : (l : ℤ) (m : ℕ) → nat_abs l ≤ m → pos (nat_abs (l +ℤ pos m)) ≡ l +ℤ pos m
raised_is l m h = natural_size (l +ℤ pos m) (raised_natural l m h)

-- a loss with the sign of lots × value is as large, and gives the product with their size
signed_size : (each l : ℤ) → nat_abs (signed_loss each l) ≡ nat_abs l
signed_size (pos n) l = refl
signed_size (negsuc n) l = abs_neg l

signed_product : (each l : ℤ) → pos (nat_abs each) *ℤ signed_loss each l ≡ each *ℤ l
signed_product (pos n) l = refl
signed_product (negsuc n) (pos zero) = *ℤ-zero (pos (suc n)) ∙ sym (*ℤ-zero (negsuc n))
signed_product (negsuc n) (pos (suc m)) = refl
signed_product (negsuc n) (negsuc m) = refl

module _ (each : ℤ) (row : Record) (k : ℕ) (h : k < scenario_count) (w : RowFit row) where
  abbrev signed : ℤ
  signed = signed_loss each (loss row (k + 1))

  signed_most : nat_abs signed ≤ hundred_thousand
  signed_most = omega (arith, signed_size each (loss row (k + 1)), w.loss_within (k + 1) (omega arith) (omega arith))

  pub loss_most : raised_loss each row k ≤ 2 * hundred_thousand
  loss_most = omega (arith, abs_add signed (pos hundred_thousand), signed_most)

  -- a product with its loss raised is that much more
  product-raised : raised_products each row k ≡ each *ℤ loss row (k + 1) +ℤ pos (nat_abs each * hundred_thousand)
  product-raised =
      let size = pos (nat_abs each) in
      ap (λ (z : ℤ). size *ℤ z) (raised_is signed hundred_thousand signed_most)
      ∙ times_add size signed (pos hundred_thousand)
      ∙ ap (λ (z : ℤ). z +ℤ pos (nat_abs each * hundred_thousand)) (signed_product each (loss row (k + 1)))

-- ---- by the 32 bits of a loss

pub bits_are : (l : ℤ) → nat_abs l ≤ hundred_thousand → nat_abs (l +ℤ pos (2 ^ 32)) % 2 ^ 32 ≡ loss_bits l
bits_are (pos n) h = omega arith
bits_are (negsuc n) h = omega (arith, ap nat_abs (less_is (suc n) (2 ^ 32) (omega arith)))

pub raised_bits : (each l : ℤ) → nat_abs l ≤ hundred_thousand → (turned_bits (loss_bits l) (turn_of each) + raise_of each) % 2 ^ 32 ≡ raised_by each l
raised_bits (pos e) (pos n) h = omega arith
raised_bits (pos e) (negsuc n) h = omega (arith, ap nat_abs (less_is (suc n) hundred_thousand h))
raised_bits (negsuc e) (pos n) h = omega (arith, ap nat_abs (less_is n hundred_thousand h))
raised_bits (negsuc e) (negsuc n) h = omega arith

pub raise_most : (each : ℤ) → raise_of each ≤ hundred_thousand + 1
raise_most (pos n) = omega arith
raise_most (negsuc n) = omega arith

-- ---- one row more

swap_last : (a b c : ℤ) → a +ℤ b +ℤ c ≡ a +ℤ c +ℤ b
swap_last a b c = +ℤ_assoc a b c ∙ ap (λ (z : ℤ). a +ℤ z) (+ℤ_comm b c) ∙ sym (+ℤ_assoc a c b)

unraised_next : (each : ℤ) (e : ℕ) (row : Record) (xs ys : List ℤ) (k : ℕ) → k < scenario_count → RowFit row
    → Added scenario_count (raised_products each row) xs ys → unraised_at ys (e + nat_abs each) k ≡ unraised_at xs e k +ℤ each *ℤ loss row (k + 1)
unraised_next each e row xs ys k h w a =
    let p = each *ℤ loss row (k + 1) in
    let s = get_or xs k (pos 0) in
    let more = pos (nat_abs each * hundred_thousand) in
    let sofar = pos (e * hundred_thousand) in
    let together : (e + nat_abs each) * hundred_thousand ≡ e * hundred_thousand + nat_abs each * hundred_thousand = omega arith in
    ap₂ ◌-ℤ◌ (a.added k h ∙ ap (λ (z : ℤ). s +ℤ z) (product-raised each row k h w)) (ap pos together)
    ∙ ap (λ (z : ℤ). s +ℤ (p +ℤ more) +ℤ z) (neg_ℤ-+ℤ sofar more)
    ∙ sums_cross s (p +ℤ more) (neg_ℤ sofar) (neg_ℤ more)
    ∙ ap (λ (z : ℤ). s -ℤ sofar +ℤ z) (+ℤ-neg_ℤ_cancel p more)

-- ---- the totals with what stands in the sums

pub settled-length : (j : ℕ) (ts : List ℤ) (sums : List ℤ) (e : ℕ) → length (settled_from j ts sums e) ≡ length ts
settled-length j [] sums e = refl
settled-length j (t ∷ ts) sums e = ap suc (settled-length (j + 1) ts sums e)

settled_at : (j : ℕ) (ts : List ℤ) (sums : List ℤ) (e : ℕ) (k : ℕ) → k < length ts
    → get_or (settled_from j ts sums e) k (pos 0) ≡ get_or ts k (pos 0) +ℤ unraised_at sums e (j + k)
settled_at j [] sums e k h = absurd (not-suc-le-zero h)
settled_at j (t ∷ ts) sums e zero h =
    let q : j ≡ j + 0 = omega arith in
    ap (λ (i : ℕ). t +ℤ unraised_at sums e i) q
settled_at j (t ∷ ts) sums e (suc k) h =
    let q : j + 1 + k ≡ j + suc k = omega arith in
    settled_at (j + 1) ts sums e k (omega arith) ∙ ap (λ (i : ℕ). get_or ts k (pos 0) +ℤ unraised_at sums e i) q

module _ (ts : List ℤ) (sums : List ℤ) (e : ℕ) (sixteen : length ts ≡ scenario_count) where
  here : (k : ℕ) → k < scenario_count → get_or (settled ts sums e) k (pos 0) ≡ get_or ts k (pos 0) +ℤ unraised_at sums e k
  here k h =
      let q : 0 + k ≡ k = omega arith in
      settled_at 0 ts sums e k (omega arith) ∙ ap (λ (i : ℕ). get_or ts k (pos 0) +ℤ unraised_at sums e i) q

  past : (k : ℕ) → scenario_count ≤ k → get_or (settled ts sums e) k (pos 0) ≡ pos 0
  past k h = get_or-eq_default (settled ts sums e) (pos 0) (omega (arith, settled-length 0 ts sums e))

  pub settled_is : (us : List ℤ) → Added scenario_count (unraised_at sums e) ts us → us ≡ settled ts sums e
  settled_is us a =
      ext_get_or (pos 0) us (settled ts sums e) (a.as_many ∙ sym (settled-length 0 ts sums e))
      (λ k h. let l : k < scenario_count = omega (arith, a.as_many) in a.added k l ∙ sym (here k l))

-- a row in the totals
pub totals-added : (ts us : List ℤ) (sums : List ℤ) (e : ℕ) (more : ℕ → ℤ) → length ts ≡ scenario_count → Added scenario_count more ts us
    → Added scenario_count more (settled ts sums e) (settled us sums e)
totals-added ts us sums e more sixteen a =
    let many = a.as_many ∙ sixteen in
    record {
      as_many = settled-length 0 us sums e ∙ a.as_many ∙ sym (settled-length 0 ts sums e);
      added = λ k h.
          here us sums e many k h
          ∙ ap (λ (z : ℤ). z +ℤ unraised_at sums e k) (a.added k h)
          ∙ swap_last (get_or ts k (pos 0)) (more k) (unraised_at sums e k)
          ∙ sym (ap (λ (z : ℤ). z +ℤ more k) (here ts sums e sixteen k h));
      others = λ k h. past us sums e many k h ∙ sym (past ts sums e sixteen k h);
    }

-- a row in the sums
pub sums_added : (ts : List ℤ) (xs ys : List ℤ) (e : ℕ) (each : ℤ) (row : Record) → length ts ≡ scenario_count → RowFit row
    → Added scenario_count (raised_products each row) xs ys
    → Added scenario_count (λ k. each *ℤ loss row (k + 1)) (settled ts xs e) (settled ts ys (e + nat_abs each))
sums_added ts xs ys e each row sixteen w a =
    record {
      as_many = settled-length 0 ts ys (e + nat_abs each) ∙ sym (settled-length 0 ts xs e);
      added = λ k h.
          here ts ys (e + nat_abs each) sixteen k h
          ∙ ap (λ (z : ℤ). get_or ts k (pos 0) +ℤ z) (unraised_next each e row xs ys k h w a)
          ∙ sym (+ℤ_assoc (get_or ts k (pos 0)) (unraised_at xs e k) (each *ℤ loss row (k + 1)))
          ∙ sym (ap (λ (z : ℤ). z +ℤ each *ℤ loss row (k + 1)) (here ts xs e sixteen k h));
      others = λ k h. past ts ys (e + nat_abs each) sixteen k h ∙ sym (past ts xs e sixteen k h);
    }

-- no rows
pub none-settled : (ts : List ℤ) → length ts ≡ scenario_count → ts ≡ settled ts (replicate scenario_count (pos 0)) 0
none-settled ts sixteen =
    settled_is ts (replicate scenario_count (pos 0)) 0 sixteen ts
    (record {
      as_many = refl;
      added = λ k h. sym (+ℤ_idr (get_or ts k (pos 0)))
          ∙ sym (ap (λ (z : ℤ). get_or ts k (pos 0) +ℤ (z -ℤ pos (0 * hundred_thousand))) (get_or-replicate scenario_count k (pos 0) (pos 0) h));
      others = λ k h. refl;
    })

-- ---- room

pub none-room : (n : ℕ) (ts : List ℤ) → AtMost scenario_count (n * most_product) ts → SumsRoom n ts (replicate scenario_count (pos 0)) 0
none-room n ts m =
    record {
      totals_most = m;
      sums_most =
          record {
            as_many = length-replicate scenario_count (pos 0);
            size = λ k h. omega (arith, ap nat_abs (get_or-replicate scenario_count k (pos 0) (pos 0) h));
          };
      sizes_most = omega arith;
    }

pub wider_room : (m n : ℕ) (ts sums : List ℤ) (e : ℕ) → m ≤ n → SumsRoom m ts sums e → SumsRoom n ts sums e
wider_room m n ts sums e h r =
    record {
      totals_most = at_most_wider scenario_count (m * most_product) (n * most_product) ts (omega arith) r.totals_most;
      sums_most = at_most_wider scenario_count (m * most_raised) (n * most_raised) sums (omega arith) r.sums_most;
      sizes_most = omega (arith, r.sizes_most);
    }

pub totals-room : (n : ℕ) (ts us sums : List ℤ) (e : ℕ) (more : ℕ → ℤ) → SumsRoom n ts sums e → Added scenario_count more ts us
    → ((k : ℕ) → k < scenario_count → nat_abs (more k) ≤ most_product) → SumsRoom (n + 1) us sums e
totals-room n ts us sums e more r a h =
    record {
      totals_most = at_most_wider scenario_count (n * most_product + most_product) ((n + 1) * most_product) us (omega arith)
          (at_most_added scenario_count scenario_count (n * most_product) most_product more ts us r.totals_most a h);
      sums_most = (wider_room n (n + 1) ts sums e (omega arith) r).sums_most;
      sizes_most = omega (arith, r.sizes_most);
    }

pub sums_room : (n : ℕ) (ts xs ys : List ℤ) (e : ℕ) (each : ℤ) (row : Record) → SumsRoom n ts xs e → RowFit row → nat_abs each ≤ most_per_tick
    → Added scenario_count (raised_products each row) xs ys → SumsRoom (n + 1) ts ys (e + nat_abs each)
sums_room n ts xs ys e each row r w small a =
    record {
      totals_most = (wider_room n (n + 1) ts xs e (omega arith) r).totals_most;
      sums_most = at_most_wider scenario_count (n * most_raised + most_raised) ((n + 1) * most_raised) ys (omega arith)
          (at_most_added scenario_count scenario_count (n * most_raised) most_raised (raised_products each row) xs ys r.sums_most a
          (λ k h. mul-le-mul small (loss_most each row k h w)));
      sizes_most = omega (arith, r.sizes_most);
    }
