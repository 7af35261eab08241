-- Refusals 14 and 15: the first row with a fault, list by list and part by part, and what an account without one has.
-- Assumes nothing.
use Rattle.std.specs.Prelude.{Ok, Err}
use Prim.Native.Nat.{ℕ, suc, ◌+◌, ◌-◌, ◌*◌, ◌/◌, ◌%◌, ◌≤◌, ◌<◌}
use native.Mathlib.Omega.{arith}
use native.Mathlib.Nat.{zero-add}
use mathlib.Core.Path.{◌≡◌, refl, sym, ap, ap₂, subst⁻¹, ◌∙◌}
use mathlib.Core.Bool.{Bool, true, false, not, ◌&&◌, ◌||◌, cond}
use mathlib.Core.List.{List, [], ◌∷◌, ◌++◌, append-nil}
use borrow.Author.Tests.{eq-eqb, ne_eqb, eqb-true}
use lib.Dec.{eqb}
use lib.ListN.{length, get_or, take, drop, length-append}
use lib.Seq.{get_or-take, length-take-le}
use Rattle.exact.specs.Lists.{any, keep, count, sum}
use Rattle.record.specs.Bytes.{count_from, record_bytes}
use Rattle.record.specs.Layout.{Record, kind, currency, scenario_count}
use Rattle.record.specs.Within.{RowWithin}
use Rattle.record.proofs.Within.{never, neither}
use Rattle.account.specs.Accepted.{Each}
use Rattle.account.specs.Answers.{number_of}
use Rattle.account.specs.Check.{or_else, most_contracts}
use Rattle.account.specs.Checked.{rate_fault_of, first_rate_fault, rates_checked}
use Rattle.account.specs.Conversions.{other_row, row_answer, Row}
use Rattle.account.specs.Joined.{in_turn, joined}
use Rattle.account.specs.Lawful.{Recorded, Lawful}
use Rattle.account.specs.PartNumbers.{in_part, entry_part, rate_part, parts, row_part, part}
use Rattle.account.specs.Parts.{of_kind, of_contract, rows_of, rates_of}
use Rattle.account.specs.Products.{of_currency, has_rate, beyond_in, conversion_beyond, Convertible}
use Rattle.account.specs.Records.{cut, record_at, records, record_count}
use Rattle.account.specs.Answers.{Answer}
use Rattle.account.specs.declared.answers.Refusal.TheVariants.{NoRate, ConversionBeyond}
use Rattle.account.proofs.Every.{every_weaker, every_of_kept, length_kept}
use Rattle.account.proofs.JoinedLaws.{every_turn, none_turn, turn_join, parts_of, joined_turn}
use Rattle.account.proofs.Lists.{every_both, kept_pass}
use Rattle.account.proofs.Named.{kind_of}
use Rattle.account.proofs.Noted.{part_is}
use Rattle.account.proofs.Places.{none_low}
use Rattle.account.proofs.ProductLaws.{convertible}
use Rattle.account.proofs.Walk.{cut_on}

-- ---- one record: the two refusals, as two tests
abbrev two : Bool → Bool → ℕ
two a b = cond a 14 (cond b 15 0)

-- no fault where the answer is none
module _ (k : ℕ) (later : Answer) where
  faultless : (a b : Bool) → number_of (or_else (two a b) k later) ≡ 0 → two a b ≡ 0
  faultless true b e = absurd (omega arith)
  faultless false true e = absurd (omega arith)
  faultless false false e = refl

-- a fault answers, whatever comes later
some_fault : (k : ℕ) (x y : Answer) (a b : Bool) → (number_of (or_else (two a b) k x) ≡ 0 → number_of x ≡ 0 → ⊥) → (number_of x ≡ 0)
    → or_else (two a b) k y ≡ or_else (two a b) k x
some_fault k x y true b h z = refl
some_fault k x y false true h z = refl
some_fault k x y false false h z = absurd (h z z)

module _ (rates : List Record) where
  abbrev no_rate : Record → Bool
  no_rate r = of_kind 3 r && not (has_rate rates r)

  abbrev beyond : Record → Bool
  beyond r = of_kind 3 r && conversion_beyond rates r

  pub fault_on : (k : ℕ) (r : Record) (rs : List Record) → rate_fault_of rates r ≡ 0 → first_rate_fault k rates (r ∷ rs) ≡ first_rate_fault (k + 1) rates rs
  fault_on k r rs e = ap (λ (n : ℕ). or_else n k (first_rate_fault (k + 1) rates rs)) e

  -- ---- lists one after the other
  pub pass : (k : ℕ) (xs ys : List Record) → number_of (first_rate_fault k rates xs) ≡ 0
      → first_rate_fault k rates (xs ++ ys) ≡ first_rate_fault (k + length xs) rates ys
  pass k [] ys e =
      let z : k ≡ k + 0 = omega arith in
      ap (λ (n : ℕ). first_rate_fault n rates ys) z
  pass k (r ∷ xs) ys e =
      let none = faultless k (first_rate_fault (k + 1) rates xs) (no_rate r) (beyond r) e in
      let z : k + 1 + length xs ≡ k + suc (length xs) = omega arith in
      fault_on k r (xs ++ ys) none
      ∙ pass (k + 1) xs ys (ap number_of (sym (fault_on k r xs none)) ∙ e)
      ∙ ap (λ (n : ℕ). first_rate_fault n rates ys) z

  pub stop : (k : ℕ) (xs ys : List Record) → (number_of (first_rate_fault k rates xs) ≡ 0 → ⊥)
      → first_rate_fault k rates (xs ++ ys) ≡ first_rate_fault k rates xs
  stop k [] ys h = absurd (h refl)
  stop k (r ∷ xs) ys h = go (no_rate r) (beyond r) h (stop (k + 1) xs ys)
    where
      go : (a b : Bool) → (number_of (or_else (two a b) k (first_rate_fault (k + 1) rates xs)) ≡ 0 → ⊥)
          → ((number_of (first_rate_fault (k + 1) rates xs) ≡ 0 → ⊥) → first_rate_fault (k + 1) rates (xs ++ ys) ≡ first_rate_fault (k + 1) rates xs)
          → or_else (two a b) k (first_rate_fault (k + 1) rates (xs ++ ys)) ≡ or_else (two a b) k (first_rate_fault (k + 1) rates xs)
      go true b h rest = refl
      go false true h rest = refl
      go false false h rest = rest h

  pub no_rows : (k : ℕ) (xs : List Record) → Each (λ r. kind r ≡ 3 → ⊥) xs → first_rate_fault k rates xs ≡ Ok tt
  no_rows k [] h = refl
  no_rows k (r ∷ xs) h = rw (ne_eqb (kind r) 3 h.0) (no_rows (k + 1) xs h.1)

  -- no row in another currency
  not_other : (r : Record) → other_row r ≡ false → rate_fault_of rates r ≡ 0
  not_other r = none (of_kind 3 r) (eqb (currency r) 0)
    where
      none : (i e : Bool) → not e && i ≡ false
          → two (i && not (e || any (of_currency (currency r)) rates)) (i && (not e && any (beyond_in rates r) (count_from 1 scenario_count))) ≡ 0
      none true true h = refl
      none false true h = refl
      none false false h = refl
      none true false h = absurd (never (sym h))

  pub no_other_row : (k : ℕ) (xs : List Record) → any other_row xs ≡ false → first_rate_fault k rates xs ≡ Ok tt
  no_other_row k [] h = refl
  no_other_row k (r ∷ xs) h =
      let t = neither (other_row r) (any other_row xs) h in
      fault_on k r xs (not_other r t.0) ∙ no_other_row (k + 1) xs t.1

  -- what no fault says of each row
  pub each_row : (k : ℕ) (xs : List Record) → first_rate_fault k rates xs ≡ Ok tt
      → Each (λ r. kind r ≡ 3 → (has_rate rates r ≡ true) × (conversion_beyond rates r ≡ false)) xs
  each_row k [] e = tt
  each_row k (r ∷ xs) e =
      let none = faultless k (first_rate_fault (k + 1) rates xs) (no_rate r) (beyond r) (ap number_of e) in
      (λ i. rated (of_kind 3 r) (has_rate rates r) (conversion_beyond rates r) (eq-eqb (kind r) 3 i) none, each_row (k + 1) xs (sym (fault_on k r xs none) ∙ e))
    where
      rated : (i a b : Bool) → i ≡ true → two (i && not a) (i && b) ≡ 0 → (a ≡ true) × (b ≡ false)
      rated true true true i e = absurd (omega arith)
      rated true true false i e = (refl, refl)
      rated true false b i e = absurd (omega arith)
      rated false a b i e = absurd (never i)

  -- ---- one row, by its tests
  module _ (k : ℕ) (r : Record) (is : kind r ≡ 3) where
    row_is : (a b : Bool) → has_rate rates r ≡ a → conversion_beyond rates r ≡ b → row_answer rates k r ≡ or_else (two (not a) b) k (Ok tt)
    row_is a b e f = rw (eq-eqb (kind r) 3 is, e, f)

    pub row_none : has_rate rates r ≡ true → conversion_beyond rates r ≡ false → Ok tt ≡ row_answer rates k r
    row_none e f = sym (row_is true false e f)

    pub row_beyond : has_rate rates r ≡ true → conversion_beyond rates r ≡ true → (Err (ConversionBeyond k)) ≡ row_answer rates k r
    row_beyond e f = sym (row_is true true e f)

    pub row_unrated : has_rate rates r ≡ false → (Err (NoRate k)) ≡ row_answer rates k r
    row_unrated e = sym (row_is false (conversion_beyond rates r) e refl)

  -- ---- the rows of a part, from row i on
  module _ (k : ℕ) (rows : List ℕ) where
    abbrev pub rows_from : ℕ → Answer
    rows_from i = first_rate_fault (k + i) rates (cut (record_count rows - i) (drop (i * record_bytes) rows))

    pub rows_start : first_rate_fault k rates (records rows) ≡ rows_from 0
    rows_start =
        let a : k ≡ k + 0 = omega arith in
        let b : record_count rows ≡ record_count rows - 0 = omega arith in
        ap₂ (λ (n m : ℕ). first_rate_fault n rates (cut m rows)) a b

    step : (i : ℕ) → i < record_count rows
        → rows_from i ≡ or_else (rate_fault_of rates (record_at rows i)) (k + i) (rows_from (i + 1))
    step i h =
        let e : k + i + 1 ≡ k + (i + 1) = omega arith in
        ap (first_rate_fault (k + i) rates) (cut_on rows (record_count rows) i h)
        ∙ ap (λ (n : ℕ). or_else (rate_fault_of rates (record_at rows i)) (k + i)
        (first_rate_fault n rates (cut (record_count rows - (i + 1)) (drop ((i + 1) * record_bytes) rows)))) e

    pub rows_next : (i : ℕ) → i < record_count rows → number_of (row_answer rates (k + i) (record_at rows i)) ≡ 0 → rows_from i ≡ rows_from (i + 1)
    rows_next i h e =
        let r = record_at rows i in
        step i h ∙ ap (λ (n : ℕ). or_else n (k + i) (rows_from (i + 1))) (faultless (k + i) (Ok tt) (no_rate r) (beyond r) e)

    pub rows_stop : (i : ℕ) → i < record_count rows → (number_of (row_answer rates (k + i) (record_at rows i)) ≡ 0 → ⊥)
        → rows_from i ≡ row_answer rates (k + i) (record_at rows i)
    rows_stop i h d =
        let r = record_at rows i in
        step i h ∙ some_fault (k + i) (Ok tt) (rows_from (i + 1)) (no_rate r) (beyond r) (λ e z. d e) refl

    pub rows_end : (i : ℕ) → record_count rows ≤ i → rows_from i ≡ Ok tt
    rows_end i h =
        let e : record_count rows - i ≡ 0 = omega arith in
        ap (λ (n : ℕ). first_rate_fault (k + i) rates (cut n (drop (i * record_bytes) rows))) e

-- ---- an account part by part
pub conversions_hold : (rs : List Record) → Recorded rs → rates_checked rs ≡ Ok tt → (c : ℕ) → Each (Convertible (rates_of rs)) (rows_of c rs)
conversions_hold rs known e c =
    every_weaker (rows_of c rs)
    (λ r f. let t = f.1.1 (kind_of 3 c r f.1.0).0 in convertible (rates_of rs) r f.0 t.0 t.1)
    (every_both RowWithin
    (λ r. (of_contract 3 c r ≡ true) × (kind r ≡ 3 → (has_rate (rates_of rs) r ≡ true) × (conversion_beyond (rates_of rs) r ≡ false))) (rows_of c rs)
    (known.ranges.rows c)
    (every_both (λ r. of_contract 3 c r ≡ true) (λ r. kind r ≡ 3 → (has_rate (rates_of rs) r ≡ true) × (conversion_beyond (rates_of rs) r ≡ false)) (rows_of c rs)
    (kept_pass (of_contract 3 c) rs)
    (every_of_kept (λ r. kind r ≡ 3 → (has_rate (rates_of rs) r ≡ true) × (conversion_beyond (rates_of rs) r ≡ false)) (of_contract 3 c) rs
    (each_row (rates_of rs) 0 rs e))))

pub lawful_of : (rs : List Record) → Recorded rs → rates_checked rs ≡ Ok tt → Lawful rs
lawful_of rs r e =
    record {
      ranges = r.ranges;
      limits = r.limits;
      one_prompt = r.one_prompt;
      named = r.named;
      orders = r.orders;
      conversions = conversions_hold rs r e;
    }

-- ---- the parts in the order of their numbers
in_kind : (v : ℕ) (r : Record) → in_part v r ≡ true → kind r ≡ 3 → v / most_contracts ≡ 3
in_kind v r e k = go (eqb v entry_part) (eqb v rate_part) e
  where
    go : (a b : Bool) → cond a (of_kind 5 r) (cond b (of_kind 6 r) (of_contract (v / most_contracts) (v % most_contracts) r)) ≡ true → v / most_contracts ≡ 3
    go true b t = let i = eqb-true (kind r) 5 t in absurd (omega arith)
    go false true t = let i = eqb-true (kind r) 6 t in absurd (omega arith)
    go false false t = sym (kind_of (v / most_contracts) (v % most_contracts) r t).0 ∙ k

-- lengths in turn
sum_turn : (f : ℕ → List Record) (xs : List ℕ) (a : ℕ) → ((v : ℕ) → v < length xs → get_or xs v 0 ≡ length (f (a + v))) → sum xs ≡ length (in_turn f a (length xs))
sum_turn f [] a h = refl
sum_turn f (x ∷ xs) a h =
    let z : a + 0 ≡ a = omega arith in
    let first : x ≡ length (f a) = h 0 (omega arith) ∙ ap (λ (v : ℕ). length (f v)) z in
    let rest = sum_turn f xs (a + 1) (λ v l. let d : a + suc v ≡ a + 1 + v = omega arith in h (suc v) (omega arith) ∙ ap (λ (v : ℕ). length (f v)) d) in
    omega (arith, first, rest, length-append (f a) (in_turn f (a + 1) (length xs)))

module _ (m n : List Record) where
  abbrev account : List Record
  account = joined m n

  abbrev rates : List Record
  rates = rates_of account

  abbrev turn : ℕ → ℕ → List Record
  turn = in_turn (parts_of account)

  -- the records before part v, and those from it on
  split : (v w : ℕ) → v + w ≡ parts → turn 0 v ++ turn v w ≡ account
  split v w e =
      let z : v ≡ 0 + v = omega arith in
      ap (λ (x : ℕ). turn 0 v ++ turn x w) z ∙ turn_join (parts_of account) 0 v w ∙ ap (turn 0) e
      ∙ sym (turn_join (parts_of account) 0 most_contracts 66)
      ∙ ap (λ (rs : List Record). rs ++ turn most_contracts 66) (none_turn (parts_of account) 0 most_contracts (λ x l h. none_low x h m n))
      ∙ sym (joined_turn m n)

  unrowed : (a w : ℕ) → ((v : ℕ) → a ≤ v → v < a + w → v / most_contracts ≡ 3 → ⊥) → Each (λ r. kind r ≡ 3 → ⊥) (turn a w)
  unrowed a w h =
      every_turn (parts_of account) (λ r. kind r ≡ 3 → ⊥) a w
      (λ v l u. every_weaker (parts_of account v) (λ r e k. h v l u (in_kind v r e k)) (kept_pass (in_part v) account))

  -- from contract c's rows on, the first of which is record k
  abbrev pub rows_on_from : ℕ → ℕ → Answer
  rows_on_from k c = first_rate_fault k rates (turn (row_part + c) (34 - c))

  pub turn_start : rates_checked account ≡ rows_on_from (length (turn 0 row_part)) 0
  turn_start =
      ap (first_rate_fault 0 rates) (sym (split row_part 34 refl))
      ∙ pass rates 0 (turn 0 row_part) (turn row_part 34) (ap number_of (no_rows rates 0 (turn 0 row_part) (unrowed 0 row_part (λ v l h e. omega arith))))
      ∙ ap (λ (k : ℕ). first_rate_fault k rates (turn row_part 34)) (zero-add (length (turn 0 row_part)))

  one_on : (c : ℕ) → c < most_contracts → turn (row_part + c) (34 - c) ≡ parts_of account (row_part + c) ++ turn (row_part + (c + 1)) (34 - (c + 1))
  one_on c h =
      let e : 34 - c ≡ suc (34 - (c + 1)) = omega arith in
      let d : row_part + c + 1 ≡ row_part + (c + 1) = omega arith in
      ap (turn (row_part + c)) e ∙ ap (λ (v : ℕ). parts_of account (row_part + c) ++ turn v (34 - (c + 1))) d

  module _ (k c : ℕ) (h : c < most_contracts) where
    pub turn_next : number_of (first_rate_fault k rates (parts_of account (row_part + c))) ≡ 0
        → rows_on_from k c ≡ rows_on_from (k + length (parts_of account (row_part + c))) (c + 1)
    turn_next e =
        ap (first_rate_fault k rates) (one_on c h)
        ∙ pass rates k (parts_of account (row_part + c)) (turn (row_part + (c + 1)) (34 - (c + 1))) e

    pub turn_stop : (number_of (first_rate_fault k rates (parts_of account (row_part + c))) ≡ 0 → ⊥)
        → rows_on_from k c ≡ first_rate_fault k rates (parts_of account (row_part + c))
    turn_stop d =
        ap (first_rate_fault k rates) (one_on c h)
        ∙ stop rates k (parts_of account (row_part + c)) (turn (row_part + (c + 1)) (34 - (c + 1))) d

  pub turn_end : (k : ℕ) → rows_on_from k most_contracts ≡ Ok tt
  turn_end k = no_rows rates k (turn (part 4 0) 18) (unrowed (part 4 0) 18 (λ v l h e. omega arith))

  -- how many records stand before contract c's rows
  abbrev pub rows_before : ℕ → ℕ
  rows_before c = length (turn 0 (row_part + c))

  pub before_next : (c : ℕ) → rows_before (c + 1) ≡ rows_before c + length (parts_of account (row_part + c))
  before_next c =
      let z : 0 + (row_part + c) ≡ row_part + c = omega arith in
      let e : row_part + c + 1 ≡ row_part + (c + 1) = omega arith in
      let last : turn (0 + (row_part + c)) 1 ≡ parts_of account (row_part + c) = ap (λ (v : ℕ). turn v 1) z ∙ append-nil (parts_of account (row_part + c)) in
      omega (
        arith,
        ap (λ (v : ℕ). length (turn 0 v)) e,
        ap length (turn_join (parts_of account) 0 (row_part + c) 1),
        length-append (turn 0 (row_part + c)) (turn (0 + (row_part + c)) 1),
        ap length last,
      )

  pub before_few : (c : ℕ) → c ≤ most_contracts → rows_before c ≤ length account
  before_few c h =
      let e : row_part + c + (34 - c) ≡ parts = omega arith in
      omega (arith, ap length (split (row_part + c) (34 - c) e), length-append (turn 0 (row_part + c)) (turn (row_part + c) (34 - c)))

  pub before_counted : (counts : List ℕ) → length counts ≡ parts → ((v : ℕ) → v < parts → get_or counts v 0 ≡ count (in_part v) account)
      → sum (take row_part counts) ≡ rows_before 0
  before_counted counts l are =
      let long : length (take row_part counts) ≡ row_part = length-take-le row_part counts (omega arith) in
      sum_turn (parts_of account) (take row_part counts) 0
      (λ v h.
      let z : v ≡ 0 + v = omega arith in
      get_or-take row_part counts v 0 (omega arith) ∙ are v (omega arith) ∙ sym (length_kept (in_part v) account) ∙ ap (λ (x : ℕ). length (parts_of account x)) z)
      ∙ ap (λ (w : ℕ). length (turn 0 w)) long

-- the rows of contract c, within their ranges
pub rows_known : (rs : List Record) → Recorded rs → (c : ℕ) → c < most_contracts → Each Row (parts_of rs (row_part + c))
rows_known rs known c h =
    subst⁻¹ (λ (p : Record → Bool). Each Row (keep p rs)) (part_is 3 c (omega arith) (omega arith))
    (every_weaker (rows_of c rs) (λ r f. record { is_row = (kind_of 3 c r f.0).0; within = f.1 })
    (every_both (λ r. of_contract 3 c r ≡ true) RowWithin (rows_of c rs) (kept_pass (of_contract 3 c) rs) (known.ranges.rows c)))
