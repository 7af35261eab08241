-- The run of all steps, spread after spread: the numbers of the steps still to come are those of the run from the cells left.
-- Assumes nothing.
use Prim.Native.Nat.{ℕ, suc, ◌+◌, ◌-◌, ◌*◌, ◌≤◌, ◌<◌}
use native.Mathlib.Numerals.{add-one}
use native.Mathlib.Omega.{arith}
use mathlib.Core.Bool.{Bool, true, false, cond}
use mathlib.Core.List.{List, ◌∷◌}
use mathlib.Core.Path.{◌≡◌, refl, sym, ◌∙◌, ap, ap₂, subst, subst⁻¹}
use lib.ListN.{length, get_or, set, drop, replicate, drop_of_length-le, get_or-map}
use lib.Seq.{drop-cons, get_or-take, length-take-le}
use borrow.Author.Tests.{le-ltb, lt-ltb}
use Rattle.spread.specs.Accepted.{table_spreads, spread_places}
use Rattle.spread.specs.code.Book.{spreads_entry, Run}
use Rattle.spread.specs.Steps.{step_of, steps}
use Rattle.spread.specs.code.Cells.{numbers_over, left_in, Taken}
use Rattle.spread.specs.code.Lent.{spreads_from}
use Rattle.spread.specs.declared.Spread.{Spread}
use Rattle.spread.specs.declared.Spreads.{Spreads}
use Rattle.spread.specs.declared.Table.{Table}
use Rattle.spread.proofs.Filling.{Filled, filled_none, filled_next, filled_all}
use Rattle.spread.proofs.Lent.{map-set}
use Rattle.spread.proofs.Nothing.{Written}

abbrev pub no_spreads : Spreads
no_spreads = record { 0 = 0 }

abbrev first_of : List ℕ → List Spread → ℕ → Spreads
first_of cells ss k = spreads_entry (numbers_over (steps ss) cells) (2 * k)

abbrev second_of : List ℕ → List Spread → ℕ → Spreads
second_of cells ss k = spreads_entry (numbers_over (steps ss) cells) (2 * k + 1)

-- i spreads are done, and the cells are as they leave them
pub record Running (cells : List ℕ) (ss : List Spread) (i : ℕ) (now : List ℕ) (first second : List Spreads) : Type 0 where
  pub place : i ≤ length ss
  pub firsts : Filled spread_places no_spreads (first_of cells ss) i first
  pub seconds : Filled spread_places no_spreads (second_of cells ss) i second
  pub to_go : (j : ℕ) → get_or (numbers_over (steps ss) cells) (2 * i + j) 0 ≡ get_or (numbers_over (steps (drop i ss)) now) j 0
  pub leaves : left_in (steps ss) cells ≡ left_in (steps (drop i ss)) now

pub running_none : (cells : List ℕ) (ss : List Spread) → Running cells ss 0 cells (replicate spread_places no_spreads) (replicate spread_places no_spreads)
running_none cells ss =
    record {
      place = omega arith;
      firsts = filled_none spread_places no_spreads (first_of cells ss);
      seconds = filled_none spread_places no_spreads (second_of cells ss);
      to_go = λ j. ap (λ (k : ℕ). get_or (numbers_over (steps ss) cells) k 0) (omega arith);
      leaves = refl;
    }

-- the two steps of a spread
pair_left : (s : Spread) (ss : List Spread) (now l₁ l₂ : List ℕ) (n₁ n₂ : ℕ) → Taken (step_of false s) now l₁ n₁ → Taken (step_of true s) l₁ l₂ n₂
    → left_in (steps (s ∷ ss)) now ≡ left_in (steps ss) l₂
pair_left s ss now l₁ l₂ n₁ n₂ a b =
    ap (λ (l : List ℕ). left_in (step_of true s ∷ steps ss) l) (sym a.leaves) ∙ ap (left_in (steps ss)) (sym b.leaves)

pair_numbers : (s : Spread) (ss : List Spread) (now l₁ l₂ : List ℕ) (n₁ n₂ : ℕ) → Taken (step_of false s) now l₁ n₁ → Taken (step_of true s) l₁ l₂ n₂
    → numbers_over (steps (s ∷ ss)) now ≡ n₁ ∷ n₂ ∷ numbers_over (steps ss) l₂
pair_numbers s ss now l₁ l₂ n₁ n₂ a b =
    ap₂ (λ (n : ℕ) (l : List ℕ). n ∷ numbers_over (step_of true s ∷ steps ss) l) (sym a.formed) (sym a.leaves)
    ∙ ap₂ (λ (n : ℕ) (l : List ℕ). n₁ ∷ n ∷ numbers_over (steps ss) l) (sym b.formed) (sym b.leaves)

pub running_next : (cells : List ℕ) (ss : List Spread) (i : ℕ) (now l₁ l₂ : List ℕ) (first second : List Spreads) (d : Spread) (n₁ n₂ : Spreads)
    → i < length ss → i < spread_places
    → Taken (step_of false (get_or ss i d)) now l₁ n₁.0
    → Taken (step_of true (get_or ss i d)) l₁ l₂ n₂.0
    → Running cells ss i now first second
    → Running cells ss (i + 1) l₂ (set first i n₁) (set second i n₂)
running_next cells ss i now l₁ l₂ first second d n₁ n₂ h g a b r =
    record {
      place = omega arith;
      firsts = filled_next spread_places no_spreads (first_of cells ss) i first n₁ r.firsts g (ap (λ (n : ℕ). record { 0 = n }) own);
      seconds = filled_next spread_places no_spreads (second_of cells ss) i second n₂ r.seconds g (ap (λ (n : ℕ). record { 0 = n }) reverse);
      to_go = λ j. ap (λ (k : ℕ). get_or (numbers_over (steps ss) cells) k 0) (shift j) ∙ at (suc (suc j))
          ∙ ap (λ (k : ℕ). get_or (numbers_over (steps (drop k ss)) l₂) j 0) (sym (add-one i));
      leaves =
          r.leaves
          ∙ ap (λ (l : List Spread). left_in (steps l) now) (drop-cons ss i d h)
          ∙ pair_left (get_or ss i d) (drop (suc i) ss) now l₁ l₂ n₁.0 n₂.0 a b
          ∙ ap (λ (k : ℕ). left_in (steps (drop k ss)) l₂) (sym (add-one i));
    }
  where
    at : (j : ℕ) → get_or (numbers_over (steps ss) cells) (2 * i + j) 0 ≡ get_or (n₁.0 ∷ n₂.0 ∷ numbers_over (steps (drop (suc i) ss)) l₂) j 0
    at j =
        r.to_go j
        ∙ ap (λ (l : List Spread). get_or (numbers_over (steps l) now) j 0) (drop-cons ss i d h)
        ∙ ap (λ (l : List ℕ). get_or l j 0) (pair_numbers (get_or ss i d) (drop (suc i) ss) now l₁ l₂ n₁.0 n₂.0 a b)

    own : n₁.0 ≡ get_or (numbers_over (steps ss) cells) (2 * i) 0
    own = sym (at 0) ∙ ap (λ (k : ℕ). get_or (numbers_over (steps ss) cells) k 0) (omega arith)

    reverse : n₂.0 ≡ get_or (numbers_over (steps ss) cells) (2 * i + 1) 0
    reverse = sym (at 1)

    shift : (j : ℕ) → 2 * (i + 1) + j ≡ 2 * i + suc (suc j)
    shift j = omega arith

pub running_all : (cells : List ℕ) (ss : List Spread) (i : ℕ) (now : List ℕ) (first second : List Spreads) → length ss ≤ i
    → Running cells ss i now first second → Run cells ss now first second
running_all cells ss i now first second h r =
    record {
      firsts = filled_all spread_places no_spreads (first_of cells ss) i first r.firsts
          (λ k g. ap (λ (n : ℕ). record { 0 = n }) (beyond (2 * k) (omega arith)));
      seconds = filled_all spread_places no_spreads (second_of cells ss) i second r.seconds
          (λ k g. ap (λ (n : ℕ). record { 0 = n }) (beyond (2 * k + 1) (omega arith)));
      leaves = sym (r.leaves ∙ ap (λ (l : List Spread). left_in (steps l) now) (drop_of_length-le ss h));
    }
  where
    beyond : (k : ℕ) → 2 * i ≤ k → get_or (numbers_over (steps ss) cells) k 0 ≡ 0
    beyond k g =
        ap (λ (j : ℕ). get_or (numbers_over (steps ss) cells) j 0) (split k g)
        ∙ r.to_go (k - 2 * i)
        ∙ ap (λ (l : List Spread). get_or (numbers_over (steps l) now) (k - 2 * i) 0) (drop_of_length-le ss h)
      where
        split : (k : ℕ) → 2 * i ≤ k → k ≡ 2 * i + (k - 2 * i)
        split k g = omega arith

-- the same of the spreads of a table whose array has 32 places

pub table_length : (t : Table) → length t.spread ≡ spread_places → t.count ≤ spread_places → length (table_spreads t) ≡ t.count
table_length t l h = length-take-le t.count t.spread (omega arith)

-- a turn of the code, on lent numbers

pub none_yet : (f : ℕ → Spreads) (i : ℕ) (ns : List ℕ) → Filled spread_places no_spreads f i (spreads_from ns) → get_or ns i 0 ≡ 0
none_yet f i ns r =
    ap (λ (s : Spreads). s.0)
    (sym (get_or-map (λ n. record { 0 = n }) ns i 0) ∙ r.each i ∙ ap (λ (b : Bool). cond b (f i) no_spreads) (le-ltb i i (omega arith)))

-- the number of a spread that is done
pub just_formed : (f : ℕ → Spreads) (i : ℕ) (ns : List ℕ) → Filled spread_places no_spreads f (i + 1) (spreads_from ns) → get_or ns i 0 ≡ (f i).0
just_formed f i ns r =
    ap (λ (s : Spreads). s.0)
    (sym (get_or-map (λ n. record { 0 = n }) ns i 0) ∙ r.each i ∙ ap (λ (b : Bool). cond b (f i) no_spreads) (lt-ltb i (i + 1) (omega arith)))

pub table_next : (t : Table) (cells : List ℕ) (i : ℕ) (now l₁ l₂ first second more-first more-second : List ℕ) (d : Spread)
    → length t.spread ≡ spread_places → t.count ≤ spread_places → i < t.count
    → Written (step_of false (get_or t.spread i d)) now l₁ i first more-first
    → Written (step_of true (get_or t.spread i d)) l₁ l₂ i second more-second
    → Running cells (table_spreads t) i now (spreads_from first) (spreads_from second)
    → Running cells (table_spreads t) (i + 1) l₂ (spreads_from more-first) (spreads_from more-second)
table_next t cells i now l₁ l₂ first second more-first more-second d l m h a b r =
    let e = get_or-take t.count t.spread i d h in
    let n = table_length t l m in
    subst⁻¹ (λ (ns : List Spreads). Running cells (table_spreads t) (i + 1) l₂ ns (spreads_from more-second)) (with_one first more-first a.number a.written)
    (subst⁻¹ (λ (ns : List Spreads). Running cells (table_spreads t) (i + 1) l₂ (set (spreads_from first) i (record { 0 = a.number })) ns)
    (with_one second more-second b.number b.written)
    (running_next cells (table_spreads t) i now l₁ l₂ (spreads_from first) (spreads_from second) d (record { 0 = a.number }) (record { 0 = b.number })
    (omega arith) (omega arith)
    (subst (λ (s : Spread). Taken (step_of false s) now l₁ a.number) (sym e) a.taken)
    (subst (λ (s : Spread). Taken (step_of true s) l₁ l₂ b.number) (sym e) b.taken) r))
  where
    with_one : (ns more : List ℕ) (n : ℕ) → more ≡ set ns i n → spreads_from more ≡ set (spreads_from ns) i (record { 0 = n })
    with_one ns more n f = ap spreads_from f ∙ map-set (λ n. record { 0 = n }) ns i n
