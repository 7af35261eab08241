-- Numbers written one after the other: what is written and what is still to write are the whole.
-- Assumes nothing.
use mathlib.Core.Path.{◌≡◌, refl, sym, ◌∙◌, ap, subst, subst⁻¹}
use mathlib.Core.List.{List, [], ◌∷◌, ◌++◌, map, map-append}
use Prim.Native.Nat.{ℕ, suc, ◌+◌, ◌*◌, ◌≤◌, ◌<◌, zero-le}
use native.Mathlib.Nat.{add-suc, suc-add, add-zero, zero-add}
use native.Mathlib.Numerals.{add-one}
use native.Mathlib.Omega.{arith}
use lib.ListN.{length, get_or, take, drop, set, length-append, length-map}
use lib.Seq.{sets, sets-eq, length-take-le, slice, slice-cons, slice_empty}
use lib.IntN.{ℤ, pos, +ℤ_invr}
use Rattle.spread.specs.declared.Spreads.{Spreads}
use Rattle.formulas.specs.declared.amount.Amount.{Amount}
use Rattle.formulas.specs.declared.line.Line.{Line}
use Rattle.margin.specs.Books.{threes, book_by}
use Rattle.formulas.specs.code.Lines.{margin_with, eight_of, eights_from, total_from, figures_from, no_line}
use Rattle.margin.specs.code.Numbers.{amount_at}
use Rattle.formulas.specs.code.Sums.{interleaved}
use Rattle.formulas.proofs.LentLaws.{spread_from}
use Rattle.spread.specs.code.Lent.{spreads_from}
use Rattle.formulas.specs.Bounds.{figures_each}
use Rattle.spread.specs.Steps.{Open, minus}

module _ {ℓ} {A : Type ℓ} where
  -- stores at `at + n`, `at + (n + 1)` and so on, as the code makes them
  abbrev stores_from : List A → ℕ → ℕ → List A → List A
  stores_from l at n [] = l
  stores_from l at n (a ∷ vs) = stores_from (set l (at + n) a) at (suc n) vs

  abbrev stores : List A → ℕ → List A → List A
  stores l at [] = l
  stores l at (a ∷ vs) = stores_from (set l at a) at 1 vs

  from-sets : (l : List A) (at n : ℕ) (vs : List A) → stores_from l at n vs ≡ sets l (at + n) vs
  from-sets l at n [] = refl
  from-sets l at n (a ∷ vs) =
      from-sets (set l (at + n) a) at (suc n) vs ∙ ap (λ (k : ℕ). sets (set l (at + n) a) k vs) (add-suc at n)

  pub stores_sets : (l : List A) (at : ℕ) (vs : List A) → stores l at vs ≡ sets l at vs
  stores_sets l at [] = refl
  stores_sets l at (a ∷ vs) =
      from-sets (set l at a) at 1 vs ∙ ap (λ (k : ℕ). sets (set l at a) k vs) (add-one at)

  pub sets_append : (l : List A) (at : ℕ) (vs ws : List A) → sets l at (vs ++ ws) ≡ sets (sets l at vs) (at + length vs) ws
  sets_append l at [] ws = ap (λ (k : ℕ). sets l k ws) (sym (add-zero at))
  sets_append l at (a ∷ vs) ws =
      sets_append (set l at a) (suc at) vs ws
      ∙ ap (λ (k : ℕ). sets (sets (set l at a) (suc at) vs) k ws) (suc-add at (length vs) ∙ sym (add-suc at (length vs)))

  -- at the front: the list written, then what was there
  pub sets_front : (vs l : List A) → length vs ≤ length l → sets l 0 vs ≡ vs ++ drop (length vs) l
  sets_front vs l h = sets-eq vs l 0 (omega arith) ∙ ap (λ (k : ℕ). vs ++ drop k l) (zero-add (length vs))

  -- n groups, written from the first: `rest i` is what is written from group i on, at the place `at`
  pub record ToWrite (n : ℕ) (rest : ℕ → List A) (all : List A) (i at : ℕ) (out : List A) : Type ℓ where
    pub whole : sets out at (rest i) ≡ all
    pub within : i ≤ n

  pub start : (n : ℕ) (rest : ℕ → List A) (at at' : ℕ) (out : List A) → at' ≡ at → ToWrite n rest (sets out at (rest 0)) 0 at' out
  start n rest at at' out e = record { whole = ap (λ (k : ℕ). sets out k (rest 0)) e; within = zero-le }

  pub next : {n : ℕ} {rest : ℕ → List A} {all : List A} (i at at' : ℕ) (out out' vs : List A) → ToWrite n rest all i at out → i < n
      → rest i ≡ vs ++ rest (i + 1) → out' ≡ sets out at vs → at' ≡ at + length vs → ToWrite n rest all (i + 1) at' out'
  next {n} {rest} {all} i at at' out out' vs t h e o p =
      record {
        whole =
            ap (λ (l : List A). sets l at' (rest (i + 1))) o
            ∙ ap (λ (k : ℕ). sets (sets out at vs) k (rest (i + 1))) p
            ∙ sym (sets_append out at vs (rest (i + 1)))
            ∙ ap (sets out at) (sym e)
            ∙ t.whole;
        within = omega arith;
      }

  pub finish : {n : ℕ} {rest : ℕ → List A} {all : List A} (i at : ℕ) (out : List A) → ToWrite n rest all i at out → n ≤ i → rest n ≡ [] → out ≡ all
  finish {n} {rest} {all} i at out t h e =
      let same : n ≡ i = omega (arith, t.within) in
      ap (sets out at) (sym (subst (λ (k : ℕ). rest k ≡ []) same e)) ∙ t.whole

-- one number more after those at the front
pub one_more_lem : (xs : List ℕ) (x n total : ℕ) (out front all : List ℤ) → length xs ≡ n → front ≡ sets out 0 (map pos xs) → all ≡ set front n (pos total)
    → total ≡ x → all ≡ sets out 0 (map pos (xs ++ (x ∷ [])))
one_more_lem xs x n total out front all l e f t =
    let at : 0 + length (map pos xs) ≡ n = zero-add (length (map pos xs)) ∙ length-map xs pos ∙ l in
    f
    ∙ ap (λ (ys : List ℤ). set ys n (pos total)) e
    ∙ ap (λ (k : ℕ). set (sets out 0 (map pos xs)) k (pos total)) (sym at)
    ∙ sym (sets_append out 0 (map pos xs) (pos total ∷ []))
    ∙ ap (λ (k : ℕ). sets out 0 (map pos xs ++ (pos k ∷ []))) t
    ∙ ap (sets out 0) (sym (map-append pos xs (x ∷ [])))

-- eight numbers for each line, then the total of the margins
length-eights : (ls : List Line) (cs : List Amount) → length ls ≤ length cs → length (eights_from ls cs) ≡ figures_each * length ls
length-eights [] cs h = refl
length-eights (l ∷ ls) [] h = omega arith
length-eights (l ∷ ls) (c ∷ cs) h = omega (arith, length-eights ls cs (omega arith))

module _ (count : ℕ) (lines : List Line) (credits : List Amount) where
  -- from line i on
  abbrev pub eights_on : ℕ → List ℤ
  eights_on i = map pos (eights_from (slice i count lines) (slice i count credits))

  abbrev pub total_on : ℕ → ℕ
  total_on i = total_from (slice i count lines) (slice i count credits)

  pub eights-none : eights_on count ≡ []
  eights-none = rw (slice_empty count lines)

  pub total-none : total_on count ≡ 0
  total-none = rw (slice_empty count lines)

  module _ (hl : count ≤ length lines) (hc : count ≤ length credits) where
    pub eights_step : (i : ℕ) → i < count → eights_on i ≡ map pos (eight_of (get_or lines i no_line) (amount_at credits i)) ++ eights_on (i + 1)
    eights_step i h = rw (add-one i, slice-cons i count lines no_line h hl, slice-cons i count credits (record { 0 = 0 }) h hc)

    pub total_step : (i : ℕ) → i < count → total_on i ≡ margin_with (get_or lines i no_line) (amount_at credits i) + total_on (i + 1)
    total_step i h = rw (add-one i, slice-cons i count lines no_line h hl, slice-cons i count credits (record { 0 = 0 }) h hc)

    eights-length : length (eights_from (take count lines) (take count credits)) ≡ count * figures_each
    eights-length =
        let n = length-take-le count lines hl in
        let m = length-eights (take count lines) (take count credits) (rw (n, length-take-le count credits hc) (omega arith)) in
        omega arith

    -- the total after the last line
    pub figures-listed : (out lines-in all : List ℤ) (total : ℕ) → lines-in ≡ sets out 0 (eights_on 0) → all ≡ set lines-in (count * figures_each) (pos total)
        → total ≡ total_on 0 → all ≡ sets out 0 (map pos (figures_from (take count lines) (take count credits)))
    figures-listed out lines-in all total =
        one_more_lem (eights_from (take count lines) (take count credits)) (total_on 0) (count * figures_each) total out lines-in all eights-length

-- prompts first, then spreads, and one number more at the end
pub book-listed : (prompts spreads : ℕ) (out with-prompts with-spreads all threes twos : List ℤ) (last : ℤ) → length threes ≡ 3 * prompts
    → length twos ≡ 2 * spreads → with-prompts ≡ sets out 0 threes → with-spreads ≡ sets with-prompts (prompts * 3) twos
    → all ≡ set with-spreads (prompts * 3 + spreads * 2) last
    → all ≡ sets out 0 ((threes ++ twos) ++ (last ∷ []))
book-listed prompts spreads out with-prompts with-spreads all threes twos last lt ls e f g =
    let at : 0 + length threes ≡ prompts * 3 = omega arith in
    let end : 0 + length (threes ++ twos) ≡ prompts * 3 + spreads * 2 = omega (arith, length-append threes twos) in
    g
    ∙ ap (λ (l : List ℤ). set l (prompts * 3 + spreads * 2) last)
    (f
    ∙ ap (λ (l : List ℤ). sets l (prompts * 3) twos) e
    ∙ ap (λ (n : ℕ). sets (sets out 0 threes) n twos) (sym at)
    ∙ sym (sets_append out 0 threes twos))
    ∙ ap (λ (n : ℕ). set (sets out 0 (threes ++ twos)) n last) (sym end)
    ∙ sym (sets_append out 0 (threes ++ twos) (last ∷ []))

-- three numbers for each prompt
length-threes : (xs ys zs : List ℤ) → length xs ≤ length ys → length xs ≤ length zs → length (threes xs ys zs) ≡ 3 * length xs
length-threes [] ys zs h k = refl
length-threes (x ∷ xs) [] zs h k = omega arith
length-threes (x ∷ xs) (y ∷ ys) [] h k = omega arith
length-threes (x ∷ xs) (y ∷ ys) (z ∷ zs) h k = omega (arith, length-threes xs ys zs (omega arith) (omega arith))

module _ (count : ℕ) (nets used unused : List ℤ) where
  -- from prompt i on
  abbrev pub threes_on : ℕ → List ℤ
  threes_on i = threes (slice i count nets) (slice i count used) (slice i count unused)

  pub threes-none : threes_on count ≡ []
  threes-none = rw (slice_empty count nets)

  module _ (hn : count ≤ length nets) (hu : count ≤ length used) (ho : count ≤ length unused) where
    pub threes_step : (i : ℕ) → i < count
        → threes_on i ≡ (get_or nets i (pos 0) ∷ get_or used i (pos 0) ∷ get_or unused i (pos 0) ∷ []) ++ threes_on (i + 1)
    threes_step i h =
        rw (
          add-one i,
          slice-cons i count nets (pos 0) h hn,
          slice-cons i count used (pos 0) h hu,
          slice-cons i count unused (pos 0) h ho,
        )

    pub threes-length : length (threes_on 0) ≡ 3 * count
    threes-length =
        let n = length-take-le count nets hn in
        let u = length-take-le count used hu in
        let o = length-take-le count unused ho in
        length-threes (take count nets) (take count used) (take count unused) (omega arith) (omega arith) ∙ ap (λ (k : ℕ). 3 * k) n

-- the same where nothing is used
length-minus : (zs : List ℤ) → length (minus zs zs) ≡ length zs
length-minus [] = refl
length-minus (z ∷ zs) = ap suc (length-minus zs)

module _ (count : ℕ) (nets : List ℤ) where
  -- from prompt i on
  abbrev pub rest_on : ℕ → List ℤ
  rest_on i = threes (slice i count nets) (minus (slice i count nets) (slice i count nets)) (slice i count nets)

  pub rest_none : rest_on count ≡ []
  rest_none = rw (slice_empty count nets)

  module _ (h : count ≤ length nets) where
    pub rest_step : (i : ℕ) → i < count → rest_on i ≡ (get_or nets i (pos 0) ∷ pos 0 ∷ get_or nets i (pos 0) ∷ []) ++ rest_on (i + 1)
    rest_step i l = rw (add-one i, slice-cons i count nets (pos 0) l h, +ℤ_invr (get_or nets i (pos 0)))

    rest_length : length (rest_on 0) ≡ 3 * count
    rest_length =
        let ns = take count nets in
        length-threes ns (minus ns ns) ns (omega (arith, length-minus ns)) (omega arith) ∙ ap (λ (k : ℕ). 3 * k) (length-take-le count nets h)

    -- no prompt is touched
    pub rest_listed : (ps : List Open) → take count nets ≡ map (λ p. p.unused) ps → (out nets-in all : List ℤ) → nets-in ≡ sets out 0 (rest_on 0)
        → all ≡ set nets-in (count * 3) (pos 0) → all ≡ sets out 0 (book_by [] ps)
    rest_listed ps same out nets-in all e f =
        book-listed count 0 out nets-in nets-in all (rest_on 0) [] (pos 0) rest_length refl e refl
        (f ∙ ap (λ (n : ℕ). set nets-in n (pos 0)) (sym (add-zero (count * 3))))
        ∙ ap (λ (zs : List ℤ). sets out 0 ((threes zs (minus zs zs) zs ++ []) ++ (pos 0 ∷ []))) same

-- two numbers for each spread
length-interleaved : (xs ys : List Spreads) → length xs ≤ length ys → length (interleaved xs ys) ≡ 2 * length xs
length-interleaved [] ys h = refl
length-interleaved (x ∷ xs) [] h = omega arith
length-interleaved (x ∷ xs) (y ∷ ys) h = omega (arith, length-interleaved xs ys (omega arith))

module _ (count : ℕ) (first second : List ℕ) where
  -- from spread i on
  abbrev pub twos_on : ℕ → List ℤ
  twos_on i = map pos (interleaved (slice i count (spreads_from first)) (slice i count (spreads_from second)))

  pub twos_none : twos_on count ≡ []
  twos_none = rw (slice_empty count (spreads_from first))

  module _ (hf : count ≤ length first) (hs : count ≤ length second) where
    firsts_there : count ≤ length (spreads_from first)
    firsts_there = subst⁻¹ (λ (k : ℕ). count ≤ k) (length-map first _) hf

    seconds_there : count ≤ length (spreads_from second)
    seconds_there = subst⁻¹ (λ (k : ℕ). count ≤ k) (length-map second _) hs

    pub twos_step : (i : ℕ) → i < count → twos_on i ≡ (pos (get_or first i 0) ∷ pos (get_or second i 0) ∷ []) ++ twos_on (i + 1)
    twos_step i h =
        rw (
          add-one i,
          slice-cons i count (spreads_from first) (record { 0 = 0 }) h firsts_there,
          slice-cons i count (spreads_from second) (record { 0 = 0 }) h seconds_there,
          spread_from first i,
          spread_from second i,
        )

    pub twos_length : length (twos_on 0) ≡ 2 * count
    twos_length =
        let f = length-take-le count (spreads_from first) firsts_there in
        let s = length-take-le count (spreads_from second) seconds_there in
        length-map (interleaved (take count (spreads_from first)) (take count (spreads_from second))) pos
        ∙ length-interleaved (take count (spreads_from first)) (take count (spreads_from second)) (omega arith)
        ∙ ap (λ (k : ℕ). 2 * k) f
