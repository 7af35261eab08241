-- How many numbers an answer has: by how many contracts, prompts and spreads there are, which the account knows.
-- Assumes nothing.
use Prim.Native.Nat.{ℕ, ◌+◌, ◌*◌, ◌≤◌}
use native.Mathlib.Omega.{arith}
use mathlib.Core.Path.{◌≡◌, refl, sym, ap, ap₂, ◌∙◌}
use mathlib.Core.Bool.{Bool, true, false, cond}
use mathlib.Core.List.{List, [], map}
use borrow.Author.Tests.{eqb-true, eqb-false, eq-eqb, ne_eqb}
use lib.Dec.{eqb}
use lib.ListN.{length, get_or, length-map}
use Rattle.account.specs.PartNumbers.{entry_part, part}
use Rattle.exact.specs.Lists.{keep, count}
use Rattle.record.specs.Layout.{Record, most_contract}
use Rattle.account.specs.Lawful.{Lawful}
use Rattle.account.specs.Parts.{of_kind, of_contract, contracts_of, prompts_of, rows_of, spreads_of, entries_of}
use Rattle.account.specs.code.Standing.{Stands}
use Rattle.account.specs.Joined.{account_of}
use Rattle.account.specs.declared.accounts.Account.{Account}
use Rattle.account.proofs.Every.{length_kept}
use Rattle.account.proofs.Noted.{part_is}
use Rattle.margin.specs.declared.asking.Question.{Question}
use Rattle.margin.specs.declared.asking.Question.TheVariants.{Figures, Book, Uses}
use Rattle.margin.specs.code.Beside.{Besides}
use Rattle.margin.specs.Books.{answered, book, table_question}
use Rattle.formulas.specs.Contract.{contracts, parts_in, parts_of, as_tier, opens_of}
use Rattle.formulas.specs.Deltas.{interprompt, intercontract, net_deltas}
use Rattle.margin.specs.code.Asked.{SizesOf}
use Rattle.margin.specs.Questions.{need_over}
use Rattle.margin.specs.Uses.{contract_uses, table_uses, uses}
use Rattle.margin.proofs.AskedLaws.{one_book, table_book_lem, contract-asked, table_asked, asked_small, contract-length, table_length}
use Rattle.margin.proofs.BesideLaws.{answered_beside}
use Rattle.formulas.proofs.LineLaws.{opens_length}
use Rattle.formulas.specs.Bounds.{figures_each}
use Rattle.margin.proofs.QuestionLaws.{figures-length}
use Rattle.margin.proofs.UsesLaws.{spread_uses}

-- how many a question is about: of the table, contracts and entries
abbrev prompts_in : List Record → Bool → ℕ → ℕ
prompts_in account table q = cond table (length (contracts_of account)) (length (prompts_of q account))

abbrev spreads_in : List Record → Bool → ℕ → ℕ
spreads_in account table q = cond table (length (entries_of account)) (length (spreads_of q account))

module _ (account : List Record) (law : Lawful account) (q : ℕ) (asked : answered account q ≡ true) where
  book_size : (t : Bool) → eqb q table_question ≡ t → length (book account q) ≡ 3 * prompts_in account t q + 2 * spreads_in account t q + 1
  book_size true e =
      ap length (table_book_lem account law q (eqb-true q table_question e))
      ∙ table_length (entries_of account) (contracts account)
      ∙ ap (λ (n : ℕ). 3 * n + 2 * length (entries_of account) + 1) (length-map (contracts_of account) (parts_in account))
  book_size false e =
      ap length (one_book account law q asked (eqb-false q table_question e))
      ∙ contract-length [] [] (prompts_of q account) (rows_of q account) (spreads_of q account)

  uses_size : (t : Bool) → eqb q table_question ≡ t → length (uses account q) ≡ spreads_in account t q * (2 * prompts_in account t q)
  uses_size true e =
      ap length (table_asked account law contract_uses table_uses (λ own. refl) q (eqb-true q table_question e))
      ∙ spread_uses (map intercontract (entries_of account)) (map as_tier (contracts account))
      ∙ ap₂ (λ (x y : ℕ). x * (2 * y)) (length-map (entries_of account) intercontract)
      (length-map (contracts account) as_tier ∙ length-map (contracts_of account) (parts_in account))
  uses_size false e =
      let ps = prompts_of q account in
      ap length (contract-asked account law contract_uses table_uses (λ own. refl) q asked (eqb-false q table_question e))
      ∙ spread_uses (map interprompt (spreads_of q account)) (opens_of (parts_of account q))
      ∙ ap₂ (λ (x y : ℕ). x * (2 * y)) (length-map (spreads_of q account) interprompt) (opens_length ps (net_deltas ps (rows_of q account)) (length-map ps _))

-- rows do not count
module _ (standing whole : List Record) (b : Besides standing whole) (law : Lawful standing) where
  prompts_same : (t : Bool) (q : ℕ) → prompts_in whole t q ≡ prompts_in standing t q
  prompts_same true q = ap length b.contracts
  prompts_same false q = ap length (b.prompts q)

  spreads_same : (t : Bool) (q : ℕ) → spreads_in whole t q ≡ spreads_in standing t q
  spreads_same true q = ap length b.entries
  spreads_same false q = ap length (b.spreads q)

  -- where the question is answered or not
  either : (q n m : ℕ) → (answered standing q ≡ true → answered whole q ≡ true → n ≡ m) → cond (answered whole q) n 0 ≡ cond (answered standing q) m 0
  either q n m same = ap (λ (t : Bool). cond t n 0) (answered_beside standing whole b q) ∙ go (answered standing q) refl
    where
      go : (t : Bool) → answered standing q ≡ t → cond t n 0 ≡ cond t m 0
      go true e = same e (answered_beside standing whole b q ∙ e)
      go false e = refl

  pub need_beside : (question : Question) → need_over whole question ≡ need_over standing question
  need_beside Figures = figures-length whole ∙ ap (λ (rs : List Record). figures_each * length rs + 1) b.contracts ∙ sym (figures-length standing)
  need_beside (Book q) =
      let t = eqb q table_question in
      either q (length (book whole q)) (length (book standing q))
      (λ s w.
      book_size whole b.lawful q w t refl
      ∙ ap₂ (λ (x y : ℕ). 3 * x + 2 * y + 1) (prompts_same t q) (spreads_same t q)
      ∙ sym (book_size standing law q s t refl))
  need_beside (Uses q) =
      let t = eqb q table_question in
      either q (length (uses whole q)) (length (uses standing q))
      (λ s w.
      uses_size whole b.lawful q w t refl
      ∙ ap₂ (λ (x y : ℕ). y * (2 * x)) (prompts_same t q) (spreads_same t q)
      ∙ sym (uses_size standing law q s t refl))

module _ (morning noon : List ℕ) (a : Account) (st : Stands morning noon a) where
  abbrev account : List Record
  account = account_of morning noon

  of_contract_lem : (n c : ℕ) → n ≤ 4 → c ≤ most_contract → get_or a.counts (part n c) 0 ≡ length (keep (of_contract n c) account)
  of_contract_lem n c hn hc =
      st.places.counts (part n c) (omega arith)
      ∙ ap (λ (p : Record → Bool). count p account) (part_is n c hn hc)
      ∙ sym (length_kept (of_contract n c) account)

  of_table : get_or a.counts entry_part 0 ≡ length (entries_of account)
  of_table = st.places.counts entry_part (omega arith) ∙ sym (length_kept (of_kind 5) account)

  pub table_sizes : (q : ℕ) → answered account q ≡ true → q ≡ table_question → SizesOf account q a.contracts (get_or a.counts entry_part 0)
  table_sizes q asked e =
      let limits = st.lawful.limits in
      let are = st.places.contracts in
      let t = eq-eqb q table_question e in
      record {
        book_has = book_size account st.lawful q asked true t ∙ ap₂ (λ (x y : ℕ). 3 * x + 2 * y + 1) (sym are) (sym of_table);
        uses_have = uses_size account st.lawful q asked true t ∙ ap₂ (λ (x y : ℕ). y * (2 * x)) (sym are) (sym of_table);
        prompts_few = omega (arith, are, limits.contracts);
        spreads_few = omega (arith, of_table, limits.entries);
      }

  pub contract_sizes : (q : ℕ) → answered account q ≡ true → (q ≡ table_question → ⊥)
      → SizesOf account q (get_or a.counts (part 2 q) 0) (get_or a.counts (part 4 q) 0)
  contract_sizes q asked apart =
      let limits = st.lawful.limits in
      let h = asked_small account st.lawful q asked apart in
      let prompts = of_contract_lem 2 q (omega arith) h in
      let spreads = of_contract_lem 4 q (omega arith) h in
      let t = ne_eqb q table_question apart in
      record {
        book_has = book_size account st.lawful q asked false t ∙ ap₂ (λ (x y : ℕ). 3 * x + 2 * y + 1) (sym prompts) (sym spreads);
        uses_have = uses_size account st.lawful q asked false t ∙ ap₂ (λ (x y : ℕ). y * (2 * x)) (sym prompts) (sym spreads);
        prompts_few = omega (arith, prompts, limits.prompts q);
        spreads_few = omega (arith, spreads, limits.spreads q);
      }
