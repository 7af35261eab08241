-- Lines of the figures against the contracts of an account: the table of their tiers, what entries use, credits and figures.
-- Assumes nothing.
use Prim.Native.Nat.{ℕ, zero, suc, ◌+◌, ◌*◌, ◌≤◌, ◌<◌, zero-le, suc-le-suc}
use native.Mathlib.Nat.{le_trans, le_of_suc-le-suc, not-suc-le-zero}
use native.Mathlib.Numerals.{add-one}
use native.Mathlib.Omega.{arith}
use mathlib.Core.Path.{◌≡◌, refl, sym, ap, ap₂, ◌∙◌, subst, subst⁻¹}
use mathlib.Core.Bool.{Bool, true, false, cond, ◌&&◌}
use mathlib.Core.List.{List, [], ◌∷◌, ◌++◌, map, map-append}
use borrow.Author.Tests.{lt-ltb, le-leb, eq-eqb, ne_eqb}
use lib.Dec.{eqb, leb, ltb}
use lib.IntN.{ℤ, pos, negsuc, nat_abs}
use lib.ListN.{length, get_or, drop, set, length-map}
use lib.Seq.{sets, drop-cons, drop-length}
use Rattle.record.specs.Layout.{Record}
use Rattle.account.specs.Parts.{contracts_of, entries_of}
use Rattle.spread.specs.Accepted.{every, sound_prompt, tier_count}
use Rattle.spread.specs.Steps.{Market, long, short, Open, on_side, pool, steps, numbers}
use Rattle.spread.proofs.Both.{and_both}
use Rattle.formulas.specs.declared.amount.Amount.{Amount}
use Rattle.formulas.specs.declared.line.Line.{Line}
use Rattle.formulas.specs.Bounds.{most_delta, figures_each}
use Rattle.formulas.specs.Contract.{Contract, contracts, parts_in, as_tier, credit_of, margin_of}
use Rattle.formulas.specs.Credit.{unused_by, after_entry, entry_use}
use Rattle.formulas.specs.Deltas.{intercontract}
use Rattle.margin.specs.Figures.{eight, eights, total_margin, figures_over, figures, account_total}
use Rattle.formulas.specs.code.Lines.{margin_with, eight_of, eights_from, total_from, figures_from}
use Rattle.formulas.specs.Margin.{risk, margin}
use Rattle.formulas.specs.code.Promised.{LineOf}
use Rattle.formulas.specs.code.Table.{tier_of}
use Rattle.formulas.specs.code.Within.{EntriesFit}
use Rattle.formulas.proofs.CreditLaws.{used_in_lem, used_within, left_within, rest_within}
use Rattle.formulas.proofs.StepBounds.{sizes}
use Rattle.margin.proofs.NumberLaws.{one_more_lem}

-- each contract has its line
abbrev pub Lined : List Contract → List Line → Type 0
Lined [] [] = Unit {0}
Lined [] (l ∷ ls) = ⊥
Lined (k ∷ ks) [] = ⊥
Lined (k ∷ ks) (l ∷ ls) = LineOf k l × Lined ks ls

-- the tiers of the table are the contracts
pub tiers_are : (ks : List Contract) (ls : List Line) → Lined ks ls → map tier_of ls ≡ map as_tier ks
tiers_are [] [] h = refl
tiers_are [] (l ∷ ls) h = absurd h
tiers_are (k ∷ ks) [] h = absurd h
tiers_are (k ∷ ks) (l ∷ ls) h =
    ap₂ ◌∷◌ (λ i. record { tier = h.0.contract_is i; unused = h.0.net_is i }) (tiers_are ks ls h.1)

-- the spread steps accept them
pub tiers_sound : (ks : List Contract) (ls : List Line) → Lined ks ls → every sound_prompt (map tier_of ls) ≡ true
tiers_sound [] [] h = refl
tiers_sound [] (l ∷ ls) h = absurd h
tiers_sound (k ∷ ks) [] h = absurd h
tiers_sound (k ∷ ks) (l ∷ ls) h =
    and_both (ltb l.contract tier_count && leb (nat_abs l.net.0) most_delta) (every sound_prompt (map tier_of ls))
    (and_both (ltb l.contract tier_count) (leb (nat_abs l.net.0) most_delta) (lt-ltb l.contract tier_count (suc-le-suc h.0.within.contract_within))
    (le-leb (nat_abs l.net.0) most_delta h.0.net_within))
    (tiers_sound ks ls h.1)

pub tier_sizes : (ks : List Contract) (ls : List Line) → Lined ks ls → sizes (map tier_of ls) ≤ length ls * most_delta
tier_sizes [] [] h = zero-le
tier_sizes [] (l ∷ ls) h = absurd h
tier_sizes (k ∷ ks) [] h = absurd h
tier_sizes (k ∷ ks) (l ∷ ls) h = let r = tier_sizes ks ls h.1 in let n = h.0.net_within in omega arith

-- ---- contracts with numbers of their own

-- numbers that rise, as the check leaves them
abbrev pub Apart : List Line → Type 0
Apart [] = Unit {0}
Apart (l ∷ ls) = ((k : ℕ) → k < length ls → (l.contract ≡ get_or (map (λ m. m.contract) ls) k 0 → ⊥)) × Apart ls

none_there : (m : Market) (c : ℕ) (ls : List Line) → ((k : ℕ) → k < length ls → (c ≡ get_or (map (λ l. l.contract) ls) k 0 → ⊥)) → pool m c (map tier_of ls) ≡ 0
none_there m c [] h = refl
none_there m c (l ∷ ls) h =
    let r = none_there m c ls (λ k lt. h (suc k) (suc-le-suc lt)) in
    ap₂ (λ (b : Bool) (n : ℕ). cond b (on_side m l.net.0) 0 + n) (ne_eqb l.contract c (λ e. h 0 (suc-le-suc zero-le) (sym e))) r

both_sides : (z : ℤ) → on_side long z + on_side short z ≡ nat_abs z
both_sides (pos n) = omega arith
both_sides (negsuc n) = omega arith

-- what the table has of a contract is its net delta
pub unused_is : (ls : List Line) (d : Line) → Apart ls → (i : ℕ) → i < length ls → unused_by (get_or ls i d).contract (map tier_of ls) ≡ nat_abs
    (get_or ls i d).net.0
unused_is [] d a i h = absurd (not-suc-le-zero h)
unused_is (l ∷ ls) d a zero h =
    let x = none_there long l.contract ls a.0 in
    let y = none_there short l.contract ls a.0 in
    let t = eq-eqb l.contract l.contract refl in
    let p : pool long l.contract (map tier_of (l ∷ ls)) ≡ on_side long l.net.0 + 0 = ap₂
    (λ (b : Bool) (n : ℕ). cond b (on_side long l.net.0) 0 + n) t x in
    let q : pool short l.contract (map tier_of (l ∷ ls)) ≡ on_side short l.net.0 + 0 = ap₂
    (λ (b : Bool) (n : ℕ). cond b (on_side short l.net.0) 0 + n) t y in
    let s = both_sides l.net.0 in
    omega arith
unused_is (l ∷ ls) d a (suc i) h =
    let r = unused_is ls d a.1 i (le_of_suc-le-suc h) in
    let e : get_or (map (λ m. m.contract) ls) i 0 ≡ (get_or ls i d).contract = same ls i (le_of_suc-le-suc h) in
    let n : eqb l.contract (get_or ls i d).contract ≡ false = ne_eqb l.contract (get_or ls i d).contract (λ q. a.0 i (le_of_suc-le-suc h) (q ∙ sym e)) in
    let p : pool long (get_or ls i d).contract (map tier_of (l ∷ ls)) ≡ 0 + pool long (get_or ls i d).contract (map tier_of ls) = ap
    (λ (b : Bool). cond b (on_side long l.net.0) 0 + pool long (get_or ls i d).contract (map tier_of ls)) n in
    let q : pool short (get_or ls i d).contract (map tier_of (l ∷ ls)) ≡ 0 + pool short (get_or ls i d).contract (map tier_of ls) = ap
    (λ (b : Bool). cond b (on_side short l.net.0) 0 + pool short (get_or ls i d).contract (map tier_of ls)) n in
    omega arith
  where
    same : (ms : List Line) (j : ℕ) → j < length ms → get_or (map (λ m. m.contract) ms) j 0 ≡ (get_or ms j d).contract
    same [] j l = absurd (not-suc-le-zero l)
    same (m ∷ ms) zero l = refl
    same (m ∷ ms) (suc j) l = same ms j (le_of_suc-le-suc l)

-- ---- what an entry uses of a contract is within what the contract has

pub entry_use_within : (c : ℕ) (es : List Record) (ps : List Open) → EntriesFit es → (k : ℕ) → k < length es
    → entry_use c (get_or es k []) (get_or (numbers (steps (map intercontract es)) ps) (2 * k) 0)
    (get_or (numbers (steps (map intercontract es)) ps) (2 * k + 1) 0) ≤ unused_by c ps
entry_use_within c [] ps w k h = absurd (not-suc-le-zero h)
entry_use_within c (e ∷ es) ps w zero h =
    subst (λ (n : ℕ). n ≤ unused_by c ps) (used_in_lem c e ps (w.each 0 (suc-le-suc zero-le))) (used_within c e ps)
entry_use_within c (e ∷ es) ps w (suc k) h =
    let r = entry_use_within c es (after_entry e ps) (rest_within e es w) k (le_of_suc-le-suc h) in
    let a : 2 * suc k ≡ suc (suc (2 * k)) = omega arith in
    let b : 2 * suc k + 1 ≡ suc (suc (2 * k + 1)) = omega arith in
    le_trans
    (subst⁻¹ (λ (n : ℕ). n ≤ unused_by c (after_entry e ps))
    (ap₂ (λ (x y : ℕ). entry_use c (get_or es k []) (get_or (numbers (steps (map intercontract (e ∷ es))) ps) x 0)
    (get_or (numbers (steps (map intercontract (e ∷ es))) ps) y 0)) a b) r)
    (left_within c e ps (w.each 0 (suc-le-suc zero-le)))

-- ---- the figures

-- each line's credit is the contract's
abbrev pub Credited : List Record → List Open → List Contract → List Amount → Type 0
Credited entries table [] cs = Unit {0}
Credited entries table (k ∷ ks) [] = ⊥
Credited entries table (k ∷ ks) (c ∷ cs) = (c.0 ≡ credit_of entries table k) × Credited entries table ks cs

eight_is : (entries : List Record) (table : List Open) (k : Contract) (l : Line) (c : ℕ) → LineOf k l → c ≡ credit_of entries table k
    → eight_of l c ≡ eight entries table k
eight_is entries table k l c is e =
    λ i.
    is.contract_is i
    ∷ is.active_is i
    ∷ is.scanning_is i
    ∷ is.interprompt_is i
    ∷ is.prompt_is i
    ∷ e i
    ∷ is.minimum_is i
    ∷ margin (is.minimum_is i) (risk (is.scanning_is i) (is.interprompt_is i) (is.prompt_is i) (e i))
    ∷ []

margin_is : (entries : List Record) (table : List Open) (k : Contract) (l : Line) (c : ℕ) → LineOf k l → c ≡ credit_of entries table k
    → margin_with l c ≡ margin_of entries table k
margin_is entries table k l c is e =
    λ i. margin (is.minimum_is i) (risk (is.scanning_is i) (is.interprompt_is i) (is.prompt_is i) (e i))

eights_are : (entries : List Record) (table : List Open) (ks : List Contract) (ls : List Line) (cs : List Amount) → Lined ks ls
    → Credited entries table ks cs → eights_from ls cs ≡ eights entries table ks
eights_are entries table [] [] cs h g = refl
eights_are entries table [] (l ∷ ls) cs h g = absurd h
eights_are entries table (k ∷ ks) [] cs h g = absurd h
eights_are entries table (k ∷ ks) (l ∷ ls) [] h g = absurd g
eights_are entries table (k ∷ ks) (l ∷ ls) (c ∷ cs) h g =
    ap₂ ◌++◌ (eight_is entries table k l c.0 h.0 g.0) (eights_are entries table ks ls cs h.1 g.1)

total_is : (entries : List Record) (table : List Open) (ks : List Contract) (ls : List Line) (cs : List Amount) → Lined ks ls
    → Credited entries table ks cs → total_from ls cs ≡ total_margin entries table ks
total_is entries table [] [] cs h g = refl
total_is entries table [] (l ∷ ls) cs h g = absurd h
total_is entries table (k ∷ ks) [] cs h g = absurd h
total_is entries table (k ∷ ks) (l ∷ ls) [] h g = absurd g
total_is entries table (k ∷ ks) (l ∷ ls) (c ∷ cs) h g =
    ap₂ ◌+◌ (margin_is entries table k l c.0 h.0 g.0) (total_is entries table ks ls cs h.1 g.1)

pub figures_are : (entries : List Record) (ks : List Contract) (ls : List Line) (cs : List Amount) → Lined ks ls
    → Credited entries (map as_tier ks) ks cs → figures_from ls cs ≡ figures_over entries ks
figures_are entries ks ls cs h g =
    ap₂ (λ (xs : List ℕ) (n : ℕ). xs ++ (n ∷ [])) (eights_are entries (map as_tier ks) ks ls cs h g) (total_is entries (map as_tier ks) ks ls cs h g)

pub eights-length : (entries : List Record) (table : List Open) (ks : List Contract) → length (eights entries table ks) ≡ figures_each * length ks
eights-length entries table [] = refl
eights-length entries table (k ∷ ks) = let h = eights-length entries table ks in omega arith

-- ---- the figures contract by contract

module _ (account : List Record) where
  abbrev es : List Record
  es = entries_of account

  abbrev table : List Open
  table = map as_tier (contracts account)

  abbrev owns : List Record
  owns = contracts_of account

  -- from the i-th contract on
  abbrev left : ℕ → List Contract
  left i = map (parts_in account) (drop i owns)

  abbrev pub eights_left : ℕ → List ℤ
  eights_left i = map pos (eights es table (left i))

  abbrev pub total_left : ℕ → ℕ
  total_left i = total_margin es table (left i)

  left_at : (i : ℕ) → i < length owns → left i ≡ parts_in account (get_or owns i []) ∷ left (i + 1)
  left_at i h = ap (map (parts_in account)) (drop-cons owns i [] h ∙ ap (λ (n : ℕ). get_or owns i [] ∷ drop n owns) (sym (add-one i)))

  -- a contract's line, where there are no entries
  module _ (none : es ≡ []) (i : ℕ) (h : i < length owns) (l : Line) (is : LineOf (parts_in account (get_or owns i [])) l) where
    abbrev k : Contract
    k = parts_in account (get_or owns i [])

    no_credit : 0 ≡ credit_of es table k
    no_credit = ap (λ (rs : List Record). credit_of rs table k) (sym none)

    pub eights_next : eights_left i ≡ map pos (eight_of l 0) ++ eights_left (i + 1)
    eights_next =
        ap (λ (ks : List Contract). map pos (eights es table ks)) (left_at i h)
        ∙ map-append pos (eight es table k) (eights es table (left (i + 1)))
        ∙ ap (λ (xs : List ℕ). map pos xs ++ eights_left (i + 1)) (sym (eight_is es table k l 0 is no_credit))

    pub total_next : total_left i ≡ margin_with l 0 + total_left (i + 1)
    total_next =
        ap (total_margin es table) (left_at i h) ∙ ap (λ (m : ℕ). m + total_left (i + 1)) (sym (margin_is es table k l 0 is no_credit))

  module _ (n : ℕ) (e : n ≡ length owns) where
    none_left : left n ≡ []
    none_left = ap left e ∙ ap (map (parts_in account)) (drop-length owns)

    pub eights-done : eights_left n ≡ []
    eights-done = ap (λ (ks : List Contract). map pos (eights es table ks)) none_left

    pub total-done : total_left n ≡ 0
    total-done = ap (total_margin es table) none_left

    -- the total after the last contract
    pub figures-written : (out lines-in all : List ℤ) (total : ℕ) → lines-in ≡ sets out 0 (eights_left 0) → all ≡ set lines-in (n * figures_each) (pos total)
        → total ≡ total_left 0 → all ≡ sets out 0 (figures account)
    figures-written out lines-in all total =
        one_more_lem (eights es table (contracts account)) (account_total account) (n * figures_each) total out lines-in all
        (omega (arith, eights-length es table (contracts account), length-map owns (parts_in account), e))
