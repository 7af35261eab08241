-- The takes of a table's steps, spread after spread, with the numbers that the book formed.
-- Assumes nothing.
use Prim.Native.Nat.{ℕ, zero, suc, ◌+◌, ◌*◌, ◌≤◌, ◌<◌}
use native.Mathlib.Nat.{zero-add}
use native.Mathlib.Numerals.{add-one}
use native.Mathlib.Omega.{arith}
use mathlib.Core.Bool.{Bool, true, false, cond}
use mathlib.Core.List.{List, [], ◌∷◌, map}
use mathlib.Core.Path.{◌≡◌, sym, ◌∙◌, ap, subst}
use lib.ListN.{length, get_or, drop, drop_of_length-le, get_or-map}
use lib.Seq.{drop-cons, get_or-take, take_all}
use Rattle.spread.specs.Accepted.{open_of, table_spreads, steps_of, sound_prompts, sound, prompt_places, spread_places}
use Rattle.spread.specs.code.Book.{spreads_entry, numbers_of}
use Rattle.spread.specs.Steps.{step_of, Market, Open, Taker, pool, room_for, formed, after, numbers, steps}
use Rattle.spread.specs.code.Cells.{most_pool, most_number}
use Rattle.spread.specs.code.Lent.{spreads_from}
use Rattle.spread.specs.code.Passing.{sizes_after, step_touches_in, StepTaken, FormedBy, Laid}
use Rattle.spread.specs.Touches.{step_touches, touches}
use Rattle.spread.specs.declared.Prompts.{Prompts}
use Rattle.spread.specs.declared.Spread.{Spread}
use Rattle.spread.specs.declared.Spreads.{Spreads}
use Rattle.spread.specs.declared.Table.{Table}
use Rattle.spread.proofs.Bounds.{least_first, room_most}
use Rattle.spread.proofs.Every.{open_length}
use Rattle.spread.proofs.Filling.{entries_at}
use Rattle.spread.proofs.Gathering.{few, all_sound, pool_most}
use Rattle.spread.proofs.Passing.{step_same}
use Rattle.spread.proofs.Running.{no_spreads, table_length}
use Rattle.spread.proofs.Spending.{pool-after}

-- the numbers formed are those of the prompts, by spread
abbrev pub Formed : List Spread → List Open → List ℕ → List ℕ → Type 0
Formed ss ps first second = (k : ℕ) → k < spread_places
    → (get_or first k 0 ≡ get_or (numbers (steps ss) ps) (2 * k) 0) × (get_or second k 0 ≡ get_or (numbers (steps ss) ps) (2 * k + 1) 0)

pub formed_by : (p : Prompts) (t : Table) (first second : List ℕ) → sound p t ≡ true → FormedBy p t (spreads_from first) (spreads_from second)
    → Formed (table_spreads t) (open_of p) first second
formed_by p t first second e h k l =
    let all : numbers_of p t ≡ numbers (steps_of t) (open_of p) = ap (λ (b : Bool). cond b (numbers (steps_of t) (open_of p)) []) e in (
      own first
          ∙ ap (λ (xs : List Spreads). (get_or xs k no_spreads).0) h.firsts
          ∙ ap (λ (s : Spreads). s.0) (entries_at spread_places (λ j. spreads_entry (numbers_of p t) (2 * j)) k no_spreads l)
          ∙ ap (λ (ns : List ℕ). get_or ns (2 * k) 0) all,
      own second
          ∙ ap (λ (xs : List Spreads). (get_or xs k no_spreads).0) h.seconds
          ∙ ap (λ (s : Spreads). s.0) (entries_at spread_places (λ j. spreads_entry (numbers_of p t) (2 * j + 1)) k no_spreads l)
          ∙ ap (λ (ns : List ℕ). get_or ns (2 * k + 1) 0) all,
    )
  where
    own : (ns : List ℕ) → get_or ns k 0 ≡ (get_or (spreads_from ns) k no_spreads).0
    own ns = sym (ap (λ (s : Spreads). s.0) (get_or-map (λ n. record { 0 = n }) ns k 0))

-- no number outgrows what a step can form

numbers_most : (ss : List (List Taker)) (ps : List Open) → ((m : Market) (t : ℕ) → pool m t ps ≤ most_pool) → (k : ℕ) → get_or (numbers ss ps) k 0 ≤ most_number
numbers_most [] ps h k = omega arith
numbers_most (s ∷ ss) ps h zero = formed_small s
  where
    formed_small : (ks : List Taker) → formed ks ps ≤ most_number
    formed_small [] = omega arith
    formed_small (k ∷ ks) =
        let a = least_first (room_for ps k) (map (room_for ps) ks) in
        let b = room_most k.tenths (pool k.market k.tier ps) k.ratio (h k.market k.tier) in
        omega arith
numbers_most (s ∷ ss) ps h (suc k) =
    numbers_most ss (after s (formed s ps) ps) (λ m t. let a = pool-after m t s (formed s ps) ps in let b = h m t in omega arith) k

pub numbers_small : (p : Prompts) (t : Table) → length p.tier ≡ prompt_places → length p.net ≡ prompt_places → sound_prompts p ≡ true → (k : ℕ)
    → get_or (numbers (steps_of t) (open_of p)) k 0 ≤ most_number
numbers_small p t lt ln e = numbers_most (steps_of t) (open_of p) small
  where
    small : (m : Market) (u : ℕ) → pool m u (open_of p) ≤ most_pool
    small m u =
        let n = open_length p lt ln (few p e) in
        let a = ap (pool m u) (take_all prompt_places (open_of p) (omega (arith, n, few p e))) in
        omega (arith, a, pool_most m u prompt_places (open_of p) (all_sound p e))

-- i spreads are done: the prompts as they leave them, and the takes to come

pub record Counting (ss : List Spread) (ps : List Open) (i : ℕ) (cs xs : List ℕ) (so_far : ℕ) : Type 0 where
  pub now : List Open
  pub laid : Laid now cs xs
  pub counted : touches (steps ss) ps ≡ so_far + touches (steps (drop i ss)) now
  pub to_go : (j : ℕ) → get_or (numbers (steps ss) ps) (2 * i + j) 0 ≡ get_or (numbers (steps (drop i ss)) now) j 0

pub counting_none : (ss : List Spread) (ps : List Open) (cs xs : List ℕ) → Laid ps cs xs → Counting ss ps 0 cs xs 0
counting_none ss ps cs xs h =
    record {
      now = ps;
      laid = h;
      counted = sym (zero-add (touches (steps ss) ps));
      to_go = λ j. ap (λ (k : ℕ). get_or (numbers (steps ss) ps) k 0) (omega arith);
    }

pub counting_next : (ss : List Spread) (ps : List Open) (i : ℕ) (cs xs ys zs a₁ a₂ : List ℕ) (so_far n₁ n₂ t₁ t₂ : ℕ) (d : Spread) → i < length ss
    → n₁ ≡ get_or (numbers (steps ss) ps) (2 * i) 0
    → n₂ ≡ get_or (numbers (steps ss) ps) (2 * i + 1) 0
    → StepTaken (step_of false (get_or ss i d)) n₁ cs xs ys a₁ t₁
    → StepTaken (step_of true (get_or ss i d)) n₂ cs ys zs a₂ t₂
    → Counting ss ps i cs xs so_far
    → Counting ss ps (i + 1) cs zs (so_far + (t₁ + t₂))
counting_next ss ps i cs xs ys zs a₁ a₂ so_far n₁ n₂ t₁ t₂ d h e₁ e₂ s₁ s₂ r =
    record {
      now = last;
      laid = subst (Laid last cs) (sym s₂.sizes) two.1;
      counted =
          r.counted
          ∙ ap (λ (l : List Spread). so_far + touches (steps l) q) (drop-cons ss i d h)
          ∙ regroup so_far (s₁.touched ∙ sym one.0 ∙ ap (λ (n : ℕ). step_touches first n q) formed₁) (s₂.touched ∙ sym two.0
          ∙ ap (λ (n : ℕ). step_touches second n mid) formed₂) (touches (steps (drop (suc i) ss)) last)
          ∙ ap (λ (k : ℕ). so_far + (t₁ + t₂) + touches (steps (drop k ss)) last) (sym (add-one i));
      to_go = λ j. ap (λ (k : ℕ). get_or (numbers (steps ss) ps) k 0) (shift j) ∙ at (suc (suc j))
          ∙ ap (λ (k : ℕ). get_or (numbers (steps (drop k ss)) last) j 0) (sym (add-one i));
    }
  where
    q : List Open
    q = r.now

    first : List Taker
    first = step_of false (get_or ss i d)

    second : List Taker
    second = step_of true (get_or ss i d)

    mid : List Open
    mid = after first (formed first q) q

    last : List Open
    last = after second (formed second mid) mid

    at : (j : ℕ) → get_or (numbers (steps ss) ps) (2 * i + j) 0 ≡ get_or (formed first q ∷ formed second mid ∷ numbers (steps (drop (suc i) ss)) last) j 0
    at j = r.to_go j ∙ ap (λ (l : List Spread). get_or (numbers (steps l) q) j 0) (drop-cons ss i d h)

    formed₁ : n₁ ≡ formed first q
    formed₁ = e₁ ∙ ap (λ (k : ℕ). get_or (numbers (steps ss) ps) k 0) (plus_none (2 * i)) ∙ at 0
      where
        plus_none : (k : ℕ) → k ≡ k + 0
        plus_none k = omega arith

    formed₂ : n₂ ≡ formed second mid
    formed₂ = e₂ ∙ at 1

    one : (step_touches first n₁ q ≡ step_touches_in first n₁ cs xs) × Laid (after first n₁ q) cs (sizes_after first n₁ cs xs)
    one = step_same first n₁ q cs xs r.laid

    mid_laid : Laid mid cs ys
    mid_laid =
        subst (λ (n : ℕ). Laid (after first n q) cs ys) formed₁ (subst (Laid (after first n₁ q) cs) (sym s₁.sizes) one.1)

    step₂ : (step_touches second n₂ mid ≡ step_touches_in second n₂ cs ys) × Laid (after second n₂ mid) cs (sizes_after second n₂ cs ys)
    step₂ = step_same second n₂ mid cs ys mid_laid

    two : (step_touches second n₂ mid ≡ step_touches_in second n₂ cs ys) × Laid last cs (sizes_after second n₂ cs ys)
    two = (step₂.0, subst (λ (n : ℕ). Laid (after second n mid) cs (sizes_after second n₂ cs ys)) formed₂ step₂.1)

    regroup : (a : ℕ) {b c b' c' : ℕ} → b ≡ b' → c ≡ c' → (x : ℕ) → a + (b' + (c' + x)) ≡ a + (b + c) + x
    regroup a e f x = omega arith

    shift : (j : ℕ) → 2 * (i + 1) + j ≡ 2 * i + suc (suc j)
    shift j = omega arith

pub counting_all : (ss : List Spread) (ps : List Open) (i : ℕ) (cs xs : List ℕ) (so_far : ℕ) → length ss ≤ i → Counting ss ps i cs xs so_far
    → so_far ≡ touches (steps ss) ps
counting_all ss ps i cs xs so_far h r =
    sym (r.counted ∙ ap (λ (l : List Spread). so_far + touches (steps l) r.now) (drop_of_length-le ss h) ∙ none so_far)
  where
    none : (n : ℕ) → n + 0 ≡ n
    none n = omega arith

-- the same of a table whose array has 32 places
pub table_counting : (t : Table) (ps : List Open) (i : ℕ) (cs xs ys zs a₁ a₂ : List ℕ) (so_far n₁ n₂ t₁ t₂ : ℕ) (d : Spread)
    → length t.spread ≡ spread_places → t.count ≤ spread_places → i < t.count
    → n₁ ≡ get_or (numbers (steps_of t) ps) (2 * i) 0
    → n₂ ≡ get_or (numbers (steps_of t) ps) (2 * i + 1) 0
    → StepTaken (step_of false (get_or t.spread i d)) n₁ cs xs ys a₁ t₁
    → StepTaken (step_of true (get_or t.spread i d)) n₂ cs ys zs a₂ t₂
    → Counting (table_spreads t) ps i cs xs so_far
    → Counting (table_spreads t) ps (i + 1) cs zs (so_far + (t₁ + t₂))
table_counting t ps i cs xs ys zs a₁ a₂ so_far n₁ n₂ t₁ t₂ d l m h e₁ e₂ s₁ s₂ r =
    let e = get_or-take t.count t.spread i d h in
    let n = table_length t l m in
    counting_next (table_spreads t) ps i cs xs ys zs a₁ a₂ so_far n₁ n₂ t₁ t₂ d (omega arith) e₁ e₂
    (subst (λ (s : Spread). StepTaken (step_of false s) n₁ cs xs ys a₁ t₁) (sym e) s₁)
    (subst (λ (s : Spread). StepTaken (step_of true s) n₂ cs ys zs a₂ t₂) (sym e) s₂) r
