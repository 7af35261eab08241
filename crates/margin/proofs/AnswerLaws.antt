-- A question's book and uses go by its steps and by what they go over: the numbers that are made of them answer it.
-- Assumes nothing.
use Rattle.std.specs.Prelude.{Ok}
use Prim.Native.Nat.{ℕ, ◌+◌, ◌*◌, ◌≤◌}
use native.Mathlib.Nat.{le_trans, mul-le-mul_right}
use native.Mathlib.Omega.{arith}
use mathlib.Core.Path.{◌≡◌, refl, sym, ap, ap₂, ◌∙◌}
use mathlib.Core.Bool.{Bool, true, false, cond}
use mathlib.Core.List.{List, [], ◌∷◌, ◌++◌, map}
use borrow.Author.Tests.{eqb-true, eqb-false}
use lib.Dec.{eqb}
use lib.IntN.{ℤ, pos}
use lib.ListN.{length, get_or, take, length-append, length-map}
use lib.Seq.{sets, length-take-le}
use Rattle.record.specs.Layout.{Record}
use Rattle.account.specs.Lawful.{Lawful}
use Rattle.account.specs.Records.{records, record_count}
use Rattle.account.specs.Parts.{prompts_of, rows_of, entries_of}
use Rattle.spread.specs.Accepted as given
use Rattle.spread.specs.Accepted.{open_of, table_spreads, every, sound_prompt, sound_prompts, sound_table, sound, prompt_places, spread_places}
use Rattle.spread.specs.code.Book.{Booked}
use Rattle.spread.specs.code.Lent.{spreads_from, book_in}
use Rattle.spread.specs.Steps.{Open, Taker, steps, numbers, used_of, unused_of}
use Rattle.spread.specs.Touches.{touches, most_touches}
use Rattle.spread.specs.Uses.{uses_of}
use Rattle.spread.specs.declared.Prompts.{Prompts}
use Rattle.spread.specs.declared.Spread.{Spread}
use Rattle.spread.specs.declared.Table.{Table}
use Rattle.spread.proofs.Both.{and_left, and_right}
use Rattle.spread.proofs.Demand3.{one_per_step_lem}
use Rattle.spread.proofs.Every.{open_length}
use Rattle.spread.proofs.Gathering.{few, all_sound, few_in_table}
use Rattle.spread.proofs.Touching.{touches_few}
use Rattle.spread.proofs.Lengths.{steps-length, used_length, unused_length}
use Rattle.margin.specs.declared.uses.Asking.{Asking}
use Rattle.margin.specs.Books.{threes, book_by, contract_book, table_book, answered, book, table_question}
use Rattle.formulas.specs.Bounds.{most_delta, longest_book}
use Rattle.formulas.specs.Contract.{Contract, contracts, parts_of, as_tier, contract_net, contract_steps, opens_of, table_steps}
use Rattle.formulas.specs.Deltas.{opens_with, interprompt, net_deltas}
use Rattle.margin.specs.code.Numbers.{PromptsLent, SpreadsSigned, numbers_in}
use Rattle.formulas.specs.code.Promised.{BookOf, BookRoom}
use Rattle.margin.specs.code.Asked.{AskedBy, BookIs}
use Rattle.margin.specs.declared.asking.Question.TheVariants.{Book}
use Rattle.margin.specs.Questions.{answer_over, after_over}
use Rattle.formulas.specs.code.Sums.{interleaved}
use Rattle.margin.specs.Uses.{uses, steps_for, opens_for}
use Rattle.margin.proofs.AskedLaws.{contract-asked, table_asked, threes-length, book-listed}
use Rattle.formulas.proofs.BookLaws.{first_at_lem, second_at, book_accepted, touches_accepted}
use Rattle.formulas.proofs.LineLaws.{opens_first, opens_length}
use Rattle.formulas.proofs.RecordLaws.{count_is}
use Rattle.spread.proofs.Lent.{deltas_again}
use Rattle.formulas.proofs.LentLaws.{spread_from, lent_length}
use Rattle.margin.proofs.NumberLaws.{sets_front}
use Rattle.margin.proofs.QuestionLaws.{Answers, asked_many, accepted_with}
use Rattle.formulas.proofs.StepBounds.{number_within}
use Rattle.margin.proofs.TierLaws.{sound_sizes}
use Rattle.margin.proofs.UsesLaws.{uses_by_steps}

-- ---- what is unused at first is the net delta

unused_nets : (rs : List Record) (ns : List ℤ) → length ns ≡ length rs → map (λ p. p.unused) (opens_with rs ns) ≡ ns
unused_nets [] [] e = refl
unused_nets [] (n ∷ ns) e = absurd (omega arith)
unused_nets (r ∷ rs) [] e = absurd (omega arith)
unused_nets (r ∷ rs) (n ∷ ns) e = ap (λ (xs : List ℤ). n ∷ xs) (unused_nets rs ns (omega arith))

unused_tiers : (ks : List Contract) → map (λ p. p.unused) (map as_tier ks) ≡ map contract_net ks
unused_tiers [] = refl
unused_tiers (k ∷ ks) = ap (λ (xs : List ℤ). contract_net k ∷ xs) (unused_tiers ks)

-- ---- the book by its steps

pub book_by-steps : (account : List Record) → Lawful account → (question : ℕ) → answered account question ≡ true
    → book account question ≡ book_by (steps_for account question) (opens_for account question)
book_by-steps account law question a = go (eqb question table_question) refl
  where
    ps : List Record
    ps = prompts_of question account

    ns : List ℤ
    ns = net_deltas ps (rows_of question account)

    go : (t : Bool) → eqb question table_question ≡ t → book account question ≡ book_by
        (cond t (table_steps (entries_of account)) (contract_steps (parts_of account question)))
        (cond t (map as_tier (contracts account)) (opens_of (parts_of account question)))
    go true e =
        let ss = table_steps (entries_of account) in
        let os = map as_tier (contracts account) in
        table_asked account law contract_book table_book (λ own. refl) question (eqb-true question table_question e)
        ∙ ap (λ (xs : List ℤ). (threes xs (used_of ss os) (unused_of ss os) ++ map pos (numbers ss os)) ++ (pos (touches ss os) ∷ []))
        (sym (unused_tiers (contracts account)))
    go false e =
        let ss = contract_steps (parts_of account question) in
        let os = opens_of (parts_of account question) in
        contract-asked account law contract_book table_book (λ own. refl) question a (eqb-false question table_question e)
        ∙ ap (λ (xs : List ℤ). (threes xs (used_of ss os) (unused_of ss os) ++ map pos (numbers ss os)) ++ (pos (touches ss os) ∷ []))
        (sym (unused_nets (prompts_of question account) (net_deltas (prompts_of question account) (rows_of question account))
        (length-map (prompts_of question account) _)))

pub by_length : (spreads : List Spread) (ps : List Open) → length (book_by (steps spreads) ps) ≡ 3 * length ps + 2 * length spreads + 1
by_length spreads ps =
    let ss = steps spreads in
    let n : length (map (λ p. p.unused) ps) ≡ length ps = length-map ps (λ p. p.unused) in
    let t = threes-length (map (λ p. p.unused) ps) (used_of ss ps) (unused_of ss ps) (used_length ss ps ∙ sym n) (unused_length ss ps ∙ sym n) in
    let m : length (map pos (numbers ss ps)) ≡ 2 * length spreads = length-map (numbers ss ps) pos ∙ one_per_step_lem ss ps ∙ steps-length spreads in
    let a = length-append (threes (map (λ p. p.unused) ps) (used_of ss ps) (unused_of ss ps)) (map pos (numbers ss ps)) in
    length-append (threes (map (λ p. p.unused) ps) (used_of ss ps) (unused_of ss ps) ++ map pos (numbers ss ps)) (pos (touches ss ps) ∷ [])
    ∙ ap (λ (k : ℕ). k + 1) (a ∙ ap₂ ◌+◌ (t ∙ ap (λ (k : ℕ). 3 * k) n) m)

-- ---- the numbers of a book, as the code writes them

module _ (spreads : List Spread) (ps : List Open) (n m : ℕ) (en : length ps ≡ n) (few-ps : n ≤ prompt_places) (em : length spreads ≡ m)
    (few-ss : m ≤ spread_places) (first second : List ℕ) (used unused : List ℤ) (is : BookOf (steps spreads) ps (book_in first second used unused)) where
  abbrev ss : List (List Taker)
  ss = steps spreads

  formed_most : every sound_prompt ps ≡ true → (j : ℕ) → get_or (numbers ss ps) j 0 ≤ 40960000000000
  formed_most ok j =
      let z = sound_sizes ps ok in
      let m = mul-le-mul_right most_delta few-ps in
      le_trans (number_within ss ps j) (omega (arith, ap (λ (x : ℕ). x * most_delta) en))

  -- as many as are written
  prompts_lent : (nets : List ℤ) → n ≤ length nets → PromptsLent n nets used unused
  prompts_lent nets h =
      let u = lent_length (λ (z : ℤ). record { 0 = z }) prompt_places _ used is.used_is in
      let v = lent_length (λ (z : ℤ). record { 0 = z }) prompt_places _ unused is.unused_is in
      record { most = omega arith; nets_there = h; used_there = omega arith; unused_there = omega arith }

  -- the numbers formed can be written signed
  signed : every sound_prompt ps ≡ true → SpreadsSigned m first second
  signed ok =
      let f = lent_length (λ (k : ℕ). record { 0 = k }) spread_places _ first is.first_is in
      let s = lent_length (λ (k : ℕ). record { 0 = k }) spread_places _ second is.second_is in
      record {
        most = omega arith;
        firsts_there = omega arith;
        seconds_there = omega arith;
        first_within = λ k h. let x = sym (spread_from first k) ∙ first_at_lem is k (omega arith) in let y = formed_most ok (2 * k) in omega arith;
        second_within = λ k h. let x = sym (spread_from second k) ∙ second_at is k (omega arith) in let y = formed_most ok (2 * k + 1) in omega arith;
      }

  -- they are those of the book
  numbers_are : (nets : List ℤ) (touched : ℕ) → take n nets ≡ map (λ p. p.unused) ps → touched ≡ touches ss ps
      → numbers_in n m nets first second used unused touched ≡ book_by ss ps
  numbers_are nets touched e t =
      ap₂ (λ (zs : List ℤ) (k : ℕ). zs ++ (pos k ∷ []))
      (book-listed ss ps (book_in first second used unused) (take n nets) n m _ is en few-ps
      (one_per_step_lem ss ps ∙ steps-length spreads ∙ ap (λ (x : ℕ). 2 * x) em) few-ss (used_length ss ps ∙ en) (unused_length ss ps ∙ en)
      (ap₂ (λ (us vs : List ℤ). threes (take n nets) (take n us) (take n vs)
      ++ map pos (interleaved (take m (spreads_from first)) (take m (spreads_from second)))) (sym (deltas_again used)) (sym (deltas_again unused)))
      ∙ ap (λ (zs : List ℤ). threes zs (used_of ss ps) (unused_of ss ps) ++ map pos (numbers ss ps)) e)
      t

module _ (p : Prompts) (t : Table) (lt : length p.tier ≡ prompt_places) (ln : length p.net ≡ prompt_places) (ls : length t.spread ≡ spread_places)
    (ok : sound p t ≡ true) where
  prompts_ok : sound_prompts p ≡ true
  prompts_ok = and_left (sound_prompts p) (sound_table t) ok

  pub few_prompts : p.count ≤ prompt_places
  few_prompts = few p prompts_ok

  few_spreads : t.count ≤ spread_places
  few_spreads = few_in_table t (and_right (sound_prompts p) (sound_table t) ok)

  ps_long : length (open_of p) ≡ p.count
  ps_long = open_length p lt ln few_prompts

  spreads_long : length (table_spreads t) ≡ t.count
  spreads_long = length-take-le t.count t.spread (omega (arith, ls, few_spreads))

  pub book_long : length (book_by (given.steps_of t) (open_of p)) ≡ 3 * p.count + 2 * t.count + 1
  book_long = by_length (table_spreads t) (open_of p) ∙ ap₂ (λ (x y : ℕ). 3 * x + 2 * y + 1) ps_long spreads_long

  pub run_long : 3 * p.count + 2 * t.count + 1 ≤ longest_book
  run_long = omega (arith, few_prompts, few_spreads)

  pub touched : touches (given.steps_of t) (open_of p) ≤ most_touches
  touched = omega (arith, touches_few p t lt ln ok, touches_accepted (given.steps_of t) (open_of p) p t refl refl ok)

  -- the same of a book that is run
  module _ (first second : List ℕ) (used unused : List ℤ) (is : Booked p t (book_in first second used unused)) where
    run_is : BookOf (given.steps_of t) (open_of p) (book_in first second used unused)
    run_is = book_accepted (given.steps_of t) (open_of p) p t (book_in first second used unused) refl refl ok is

    pub run_lent : (nets : List ℤ) → p.count ≤ length nets → PromptsLent p.count nets used unused
    run_lent = prompts_lent (table_spreads t) (open_of p) p.count t.count ps_long few_prompts spreads_long few_spreads first second used unused run_is

    pub run_signed : SpreadsSigned t.count first second
    run_signed =
        signed (table_spreads t) (open_of p) p.count t.count ps_long few_prompts spreads_long few_spreads first second used unused run_is
        (all_sound p prompts_ok)

    pub run_numbers : (nets : List ℤ) (n : ℕ) → take p.count nets ≡ map (λ o. o.unused) (open_of p) → n ≡ touches (given.steps_of t) (open_of p)
        → numbers_in p.count t.count nets first second used unused n ≡ book_by (given.steps_of t) (open_of p)
    run_numbers = numbers_are (table_spreads t) (open_of p) p.count t.count ps_long few_prompts spreads_long few_spreads first second used unused run_is

-- ---- a contract's book

module _ (part spreads : List ℕ) (nets : List ℤ) (ln : length nets ≡ prompt_places) (room : BookRoom (records part) nets (records spreads)) where
  abbrev os : List Open
  os = opens_with (records part) nets

  abbrev its : List Spread
  its = map interprompt (records spreads)

  few_records : record_count part ≤ prompt_places
  few_records = omega (arith, room.few_prompts, count_is part)

  few_its : record_count spreads ≤ spread_places
  few_its = omega (arith, room.few_spreads, count_is spreads)

  its_nets : length (take (length (records part)) nets) ≡ length (records part)
  its_nets = length-take-le (length (records part)) nets (omega (arith, room.few_prompts, ln))

  os_long : length os ≡ record_count part
  os_long = ap length (opens_first (records part) nets) ∙ opens_length (records part) (take (length (records part)) nets) its_nets ∙ count_is part

  its_long : length its ≡ record_count spreads
  its_long = length-map (records spreads) interprompt ∙ count_is spreads

  pub contract_nets : take (record_count part) nets ≡ map (λ o. o.unused) os
  contract_nets =
      ap (λ (n : ℕ). take n nets) (sym (count_is part))
      ∙ sym (ap (map (λ o. o.unused)) (opens_first (records part) nets) ∙ unused_nets (records part) (take (length (records part)) nets) its_nets)

  pub contract_long : length (book_by (steps its) os) ≤ longest_book
  contract_long = omega (arith, by_length its os, os_long, its_long, few_records, few_its)

  module _ (first second : List ℕ) (used unused : List ℤ) (is : BookOf (steps its) os (book_in first second used unused)) where
    pub contract_lent : PromptsLent (record_count part) nets used unused
    contract_lent =
        prompts_lent its os (record_count part) (record_count spreads) os_long few_records its_long few_its first second used unused is nets
        (omega (arith, few_records, ln))

    pub contract-signed : SpreadsSigned (record_count spreads) first second
    contract-signed =
        signed its os (record_count part) (record_count spreads) os_long few_records its_long few_its first second used unused is room.prompts_sound

    pub contract-numbers : (n : ℕ) → n ≡ touches (steps its) os
        → numbers_in (record_count part) (record_count spreads) nets first second used unused n ≡ book_by (steps its) os
    contract-numbers n =
        numbers_are its os (record_count part) (record_count spreads) os_long few_records its_long few_its first second used unused is nets n contract_nets

-- ---- an account's answers

-- a book that is written where it has room
module _ (account : List Record) (question : ℕ) (ss : List (List Taker)) (ps : List Open) (out left : List ℤ) (is : BookIs account question ss ps)
    (room : length (book_by ss ps) ≤ length out) (e : left ≡ sets out 0 (book_by ss ps)) where
  pub book-written : Answers (Ok tt) left (answer_over account (Book question) (length out)) (book account question) out
  book-written =
      let enough : length (book account question) ≤ length out = omega (arith, ap length is.is) in
      accepted_with _ (book account question) out left (length (book account question)) (asked_many account (Book question) (length out) is.asked_is enough)
      refl (e ∙ ap (sets out 0) (sym is.is) ∙ sets_front (book account question) out enough)

  pub book-after : left ≡ after_over account (Book question) out
  book-after = book-written.1

module _ (account : List Record) (question records : ℕ) (a : Asking) (is : AskedBy account question records a) where
  pub book_same : book_by (given.steps_of a.table) (open_of a.prompts) ≡ book account question
  book_same = ap₂ book_by is.asks.steps is.asks.opens ∙ sym (book_by-steps account is.lawful question is.asked_is)

  module _ (lt : length a.prompts.tier ≡ prompt_places) (ln : length a.prompts.net ≡ prompt_places) (ls : length a.table.spread ≡ spread_places) where
    pub book_many : length (book account question) ≡ 3 * a.prompts.count + 2 * a.table.count + 1
    book_many = ap length (sym book_same) ∙ book_long a.prompts a.table lt ln ls is.asks.accepted

  pub uses_same : uses_of (given.steps_of a.table) (open_of a.prompts) ≡ uses account question
  uses_same = ap₂ uses_of is.asks.steps is.asks.opens ∙ sym (uses_by_steps account is.lawful question is.asked_is)

  pub uses_many : length (uses account question) ≡ a.table.count * (2 * a.prompts.count)
  uses_many =
      ap length (sym uses_same) ∙ ap₂ (λ (xs : List (List Taker)) (os : List Open). length (uses_of xs os)) is.asks.steps is.asks.opens ∙ is.asks.many
