-- Which questions a lawful account answers, and the book of each.
-- Assumes nothing.
use Prim.Native.Nat.{ℕ, ◌+◌, ◌*◌, ◌≤◌, ◌<◌}
use native.Mathlib.Omega.{arith}
use mathlib.Core.Path.{◌≡◌, refl, sym, ap, ap₂, ◌∙◌}
use mathlib.Core.Bool.{Bool, true, false, cond, not, ◌&&◌, ◌||◌, false≢true, not-not}
use mathlib.Core.List.{List, [], ◌∷◌, map, append-nil, ◌++◌}
use borrow.Author.Tests.{eqb-true, eqb-false, eq-eqb, ne_eqb, ltb-true, ltb-false}
use lib.Dec.{eqb, ltb}
use lib.IntN.{ℤ, pos}
use lib.ListN.{length, get_or, length-append, length-map, take}
use Rattle.exact.specs.Lists.{cons_if, keep, any, count, one_if}
use Rattle.record.specs.Layout.{Record, contract, most_contract}
use Rattle.record.specs.Within as ranges
use Rattle.account.specs.Accepted.{Each}
use Rattle.account.specs.Lawful.{Lawful}
use Rattle.account.specs.PartNumbers.{in_part, parts, part}
use Rattle.account.specs.Parts.{of_kind, of_contract, contracts_of, entries_of}
use Rattle.account.proofs.Days.{none_kept}
use Rattle.account.proofs.Lists.{any_keep, none_counted}
use Rattle.account.proofs.Noted.{part_is}
use Rattle.account.specs.Check.{most_contracts}
use Rattle.spread.specs.Steps.{numbers, used_of, unused_of, Open, Taker}
use Rattle.margin.specs.Books.{threes, contract_parts, table_parts, contract_book, table_book, of_each, of_question, asks, answered, book, table_question}
use Rattle.margin.specs.code.Asked.{asked_by}
use Rattle.formulas.specs.Contract.{Contract, contract_from, contracts, parts_in, parts_of, contract_net, as_tier, contract_steps, opens_of, contract_touches}
use Rattle.formulas.specs.Contract.{table_steps, table_touches}
use Rattle.formulas.specs.Deltas.{interprompt, intercontract, net_deltas}
use Rattle.formulas.proofs.LineLaws.{numbers-length, opens_length}
use Rattle.spread.specs.declared.book.Book.{Book}
use Rattle.spread.specs.declared.Spreads.{Spreads}
use Rattle.spread.specs.declared.Delta.{Delta}
use Rattle.spread.specs.Accepted.{prompt_places, spread_places}
use Rattle.spread.proofs.Lengths.{used_length, unused_length}
use Rattle.spread.proofs.Filling.{take-deltas}
use Rattle.formulas.specs.code.Promised.{BookOf}
use Rattle.formulas.specs.code.Sums.{interleaved, deltas_in}
use Rattle.formulas.proofs.BookLaws.{take-numbers}

-- ---- how many numbers a book has

pub threes-length : (nets used unused : List ℤ) → length used ≡ length nets → length unused ≡ length nets → length (threes nets used unused) ≡ 3 * length nets
threes-length [] used unused e f = refl
threes-length (n ∷ nets) [] unused e f = absurd (omega arith)
threes-length (n ∷ nets) (u ∷ used) [] e f = absurd (omega arith)
threes-length (n ∷ nets) (u ∷ used) (o ∷ unused) e f = let h = threes-length nets used unused (omega arith) (omega arith) in omega arith

parts-length : (rates : List Record) (own : Record) (prompts rows spreads : List Record)
    → length (contract_parts (contract_from rates own prompts rows spreads)) ≡ 3 * length prompts + 2 * length spreads
parts-length rates own prompts rows spreads =
    let k = contract_from rates own prompts rows spreads in
    let o : length (opens_of k) ≡ length prompts = opens_length prompts (net_deltas prompts rows) (length-map prompts _) in
    let t = threes-length (net_deltas prompts rows) (used_of (contract_steps k) (opens_of k)) (unused_of (contract_steps k) (opens_of k))
    (used_length (contract_steps k) (opens_of k) ∙ o ∙ sym (length-map prompts _)) (unused_length (contract_steps k) (opens_of k) ∙ o ∙ sym (length-map prompts _))
    in
    length-append (threes (net_deltas prompts rows) (used_of (contract_steps k) (opens_of k)) (unused_of (contract_steps k) (opens_of k)))
    (map pos (numbers (contract_steps k) (opens_of k)))
    ∙ ap₂ ◌+◌ (t ∙ ap (λ (x : ℕ). 3 * x) (length-map prompts _))
    (length-map (numbers (contract_steps k) (opens_of k)) pos ∙ numbers-length interprompt spreads (opens_of k))

table_parts-length : (entries : List Record) (ks : List Contract) → length (table_parts entries ks) ≡ 3 * length ks + 2 * length entries
table_parts-length entries ks =
    let ss = table_steps entries in
    let ps = map as_tier ks in
    let o : length ps ≡ length ks = length-map ks as_tier in
    let t = threes-length (map contract_net ks) (used_of ss ps) (unused_of ss ps) (used_length ss ps ∙ o ∙ sym (length-map ks contract_net))
    (unused_length ss ps ∙ o ∙ sym (length-map ks contract_net)) in
    length-append (threes (map contract_net ks) (used_of ss ps) (unused_of ss ps)) (map pos (numbers ss ps))
    ∙ ap₂ ◌+◌ (t ∙ ap (λ (x : ℕ). 3 * x) (length-map ks contract_net)) (length-map (numbers ss ps) pos ∙ numbers-length intercontract entries ps)

pub contract-length : (rates : List Record) (own : Record) (prompts rows spreads : List Record)
    → length (contract_book (contract_from rates own prompts rows spreads)) ≡ 3 * length prompts + 2 * length spreads + 1
contract-length rates own prompts rows spreads =
    length-append (contract_parts (contract_from rates own prompts rows spreads)) (pos (contract_touches (contract_from rates own prompts rows spreads)) ∷ [])
    ∙ ap (λ (n : ℕ). n + 1) (parts-length rates own prompts rows spreads)

pub table_length : (entries : List Record) (ks : List Contract) → length (table_book entries ks) ≡ 3 * length ks + 2 * length entries + 1
table_length entries ks =
    length-append (table_parts entries ks) (pos (table_touches entries ks) ∷ []) ∙ ap (λ (n : ℕ). n + 1) (table_parts-length entries ks)

-- ---- the one contract of a number

pub count-keep : (p q : Record → Bool) (xs : List Record) → count q (keep p xs) ≡ count (λ x. p x && q x) xs
count-keep p q [] = refl
count-keep p q (x ∷ xs) = go (p x) (count-keep p q xs)
  where
    go : (t : Bool) → count q (keep p xs) ≡ count (λ y. p y && q y) xs → count q (cons_if t x (keep p xs)) ≡ one_if (t && q x) + count (λ y. p y && q y) xs
    go true h = ap (λ (n : ℕ). one_if (q x) + n) h
    go false h = omega arith

pub record One (p : Record → Bool) (xs : List Record) : Type 0 where
  pub only : Record
  pub kept : keep p xs ≡ only ∷ []
  pub passes : p only ≡ true

one_kept : (p : Record → Bool) (xs : List Record) → any p xs ≡ true → count p xs ≤ 1 → One p xs
one_kept p [] a h = absurd (false≢true a)
one_kept p (x ∷ xs) a h = go (p x) refl (one_kept p xs) a h
  where
    go : (t : Bool) → p x ≡ t → (any p xs ≡ true → count p xs ≤ 1 → One p xs) → t || any p xs ≡ true → one_if t + count p xs ≤ 1 → One p (x ∷ xs)
    go true e f b m =
        record { only = x; kept = ap (λ (t : Bool). cons_if t x (keep p xs)) e ∙ ap (λ (ys : List Record). x ∷ ys) (none_kept p xs (omega arith)); passes = e }
    go false e f b m =
        let r = f b (omega arith) in
        record { only = r.only; kept = ap (λ (t : Bool). cons_if t x (keep p xs)) e ∙ r.kept; passes = r.passes }

large : (q : ℕ) (rs : List Record) → Each ranges.ContractWithin rs → most_contract < q → any (asks q) rs ≡ false
large q [] e h = refl
large q (r ∷ rs) e h = ap₂ ◌||◌ (ne_eqb (contract r) q (λ x. let w = e.0.contracts in omega arith)) (large q rs e.1 h)

-- by how many records each part has it is known which questions are answered
module _ (account : List Record) (ok : Lawful account) (counts : List ℕ) (are : (v : ℕ) → v < parts → get_or counts v 0 ≡ count (in_part v) account) where
  pub asked_is : (q : ℕ) → asked_by counts q ≡ answered account q
  asked_is q = go (eqb q table_question) refl (ltb q most_contracts) refl
    where
      own : (t : Bool) → ltb q most_contracts ≡ t → eqb q table_question ≡ false
          → t && not (eqb (get_or counts (part 1 q) 0) 0) ≡ any (asks q) (contracts_of account)
      own true l n =
          let h = ltb-true q most_contracts l in
          ap (λ (x : ℕ). not (eqb x 0))
          (are (part 1 q) (omega arith)
          ∙ ap (λ (p : Record → Bool). count p account) (part_is 1 q (omega arith) (omega arith)))
          ∙ ap not (none_counted (of_contract 1 q) account)
          ∙ not-not (any (of_contract 1 q) account)
          ∙ sym (any_keep (of_kind 1) (asks q) account)
      own false l n =
          let h = ltb-false q most_contracts l in
          let m = eqb-false q table_question n in
          sym (large q (contracts_of account) ok.ranges.contracts (omega (arith, m)))

      go : (t : Bool) → eqb q table_question ≡ t → (u : Bool) → ltb q most_contracts ≡ u
          → t || (u && not (eqb (get_or counts (part 1 q) 0) 0)) ≡ t || any (asks q) (contracts_of account)
      go true e u l = refl
      go false e u l = own u l e

module _ (all : List Record) (ok : Lawful all) where
  -- a contract that is asked for
  pub asked_small : (q : ℕ) → answered all q ≡ true → (q ≡ table_question → ⊥) → q ≤ most_contract
  asked_small q a n = go (ltb most_contract q) refl
    where
      go : (t : Bool) → ltb most_contract q ≡ t → q ≤ most_contract
      go true l =
          let h = ltb-true most_contract q l in
          absurd (false≢true (sym (ap₂ ◌||◌ (ne_eqb q table_question n) (large q (contracts_of all) ok.ranges.contracts h)) ∙ a))
      go false l = ltb-false most_contract q l

  -- what is answered of a contract, which does not go by its own record, and of the table
  module _ (of_contract : Contract → List ℤ) (ofTable : List Record → List Contract → List ℤ)
      (parts : (own : Record) → of_contract (parts_in all own) ≡ of_contract (parts_of all (contract own))) where
    pub contract-asked : (q : ℕ) → answered all q ≡ true → (q ≡ table_question → ⊥) → of_question of_contract ofTable all q ≡ of_contract (parts_of all q)
    contract-asked q a n =
        let listed : any (asks q) (contracts_of all) ≡ true = ap (λ (t : Bool). t || any (asks q) (contracts_of all)) (sym (ne_eqb q table_question n)) ∙ a in
        let few = ok.named.once q in
        let c = count-keep (of_kind 1) (asks q) all in
        let o = one_kept (asks q) (contracts_of all) listed (omega arith) in
        let e = eqb-true (contract o.only) q o.passes in
        ap (λ (t : Bool). cond t (ofTable (entries_of all) (contracts all)) (of_each of_contract (map (parts_in all) (keep (asks q) (contracts_of all)))))
        (ne_eqb q table_question n)
        ∙ ap (λ (rs : List Record). of_each of_contract (map (parts_in all) rs)) o.kept
        ∙ append-nil (of_contract (parts_in all o.only))
        ∙ parts o.only
        ∙ ap (λ (m : ℕ). of_contract (parts_of all m)) e

    pub table_asked : (q : ℕ) → q ≡ table_question → of_question of_contract ofTable all q ≡ ofTable (entries_of all) (contracts all)
    table_asked q e =
        ap (λ (t : Bool). cond t (ofTable (entries_of all) (contracts all)) (of_each of_contract (map (parts_in all) (keep (asks q) (contracts_of all)))))
        (eq-eqb q table_question e)

  pub one_book : (q : ℕ) → answered all q ≡ true → (q ≡ table_question → ⊥) → book all q ≡ contract_book (parts_of all q)
  one_book q = contract-asked contract_book table_book (λ own. refl) q

  pub table_book_lem : (q : ℕ) → q ≡ table_question → book all q ≡ table_book (entries_of all) (contracts all)
  table_book_lem q = table_asked contract_book table_book (λ own. refl) q

-- the numbers of a book: each prompt's three, then each spread's two
pub book-listed : (ss : List (List Taker)) (ps : List Open) (b : Book) (nets : List ℤ) (n m : ℕ) (written : List ℤ) → BookOf ss ps b → length ps ≡ n
    → n ≤ prompt_places → length (numbers ss ps) ≡ 2 * m → m ≤ spread_places
    → length (used_of ss ps) ≡ n → length (unused_of ss ps) ≡ n
    → written ≡ threes nets (take n (deltas_in b.used)) (take n (deltas_in b.unused)) ++ map pos (interleaved (take m b.first) (take m b.second))
    → written ≡ threes nets (used_of ss ps) (unused_of ss ps) ++ map pos (numbers ss ps)
book-listed ss ps b nets n m written is e hn en hm eu el w =
    w
    ∙ ap₂ ◌++◌
    (ap₂ (threes nets) (ap (λ (ds : List Delta). take n (deltas_in ds)) is.used_is ∙ take-deltas (used_of ss ps) n prompt_places eu hn)
    (ap (λ (ds : List Delta). take n (deltas_in ds)) is.unused_is ∙ take-deltas (unused_of ss ps) n prompt_places el hn))
    (ap (map pos) (ap₂ (λ (xs ys : List Spreads). interleaved (take m xs) (take m ys)) is.first_is is.second_is
    ∙ take-numbers (numbers ss ps) m spread_places en hm))
