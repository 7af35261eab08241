-- What the steps of a table take of the prompts, written step after step; and the prompts and spreads that a question asks about.
-- Assumes nothing.
use Prim.Native.Nat.{ℕ, suc, ◌+◌, ◌-◌, ◌*◌, ◌≤◌, ◌<◌}
use native.Mathlib.Nat.{add-mul, one-mul, mul_comm, mul_assoc}
use native.Mathlib.Numerals.{add-one}
use native.Mathlib.Omega.{arith}
use mathlib.Core.Path.{◌≡◌, refl, sym, ap, ap₂, ◌∙◌}
use mathlib.Core.Bool.{Bool, true, false, cond}
use mathlib.Core.List.{List, [], ◌∷◌, ◌++◌, map}
use lib.Dec.{eqb}
use lib.IntN.{ℤ}
use lib.ListN.{length, length-map, get_or, take, drop, drop_of_length-le}
use lib.Seq.{sets, length-sets, drop-cons, get_or-take}
use borrow.Author.Tests.{eqb-true, eqb-false}
use Rattle.account.specs.Parts.{entries_of}
use Rattle.account.specs.Records.{records}
use Rattle.account.specs.Lawful.{Lawful}
use Rattle.account.specs.PartNumbers.{entry_part}
use Rattle.account.specs.code.Standing.{PartOf}
use Rattle.record.specs.Layout.{Record}
use Rattle.spread.specs.Accepted.{open_of, table_spreads, sound_spread, sound_prompts, sound_table, sound, prompt_places, spread_places}
use Rattle.spread.specs.code.Book.{by_place, delta_entry}
use Rattle.spread.specs.Steps.{step_of, Open, steps, formed, after}
use Rattle.spread.specs.Uses.{taken_of, uses_of, sound_for}
use Rattle.spread.specs.code.Step.{Stepped}
use Rattle.spread.specs.declared.Delta.{Delta}
use Rattle.spread.specs.declared.Prompts.{Prompts}
use Rattle.spread.specs.declared.Spread.{Spread}
use Rattle.spread.specs.declared.Table.{Table}
use Rattle.spread.specs.declared.stepwise.Step.{Step}
use Rattle.spread.proofs.Gathering.{few, few_in_table, sound_in_table}
use Rattle.spread.proofs.Both.{and_left, and_both}
use Rattle.spread.proofs.Every.{open_length}
use Rattle.spread.proofs.Stepping.{after-length}
use Rattle.spread.proofs.Lengths.{uses-length, steps-length, used_length}
use Rattle.spread.proofs.Filling.{take-deltas}
use Rattle.spread.proofs.Running.{table_length}
use Rattle.formulas.specs.declared.rows.Position.{Position}
use Rattle.margin.specs.Books.{answered, table_question}
use Rattle.formulas.specs.Contract.{contracts, parts_of, as_tier, contract_steps, opens_of, table_steps}
use Rattle.formulas.specs.Deltas.{opens_with, interprompt, intercontract}
use Rattle.formulas.specs.code.Promised.{BookFit, contract_with}
use Rattle.margin.specs.code.Lined.{TiersIn}
use Rattle.formulas.specs.code.Sums.{deltas_in}
use Rattle.formulas.specs.code.Tables.{TiersOf, TableOf}
use Rattle.margin.specs.Uses.{contract_uses, table_uses, uses, steps_for, opens_for}
use Rattle.margin.specs.code.Asking.{LeftBy, Asks}
use Rattle.margin.proofs.AskedLaws.{contract-asked, table_asked}
use Rattle.formulas.proofs.BookLaws.{opens_are, contract-sound}
use Rattle.formulas.proofs.ContractLaws.{book-room}
use Rattle.formulas.proofs.LineLaws.{opens_first, opens_length}
use Rattle.margin.proofs.NumberLaws.{sets_append}
use Rattle.formulas.proofs.RecordLaws.{count_is}
use Rattle.margin.proofs.StandLaws.{entries_part}
use Rattle.margin.proofs.TierLaws.{ps_length, tiers_accepted}

-- ---- one step

module _ (p : Prompts) (s : Spread) (second : Bool) (r : Step) (is : Stepped p s second r) (e : sound_for p s ≡ true) where
  pub left_by : LeftBy p s second r.left
  left_by =
      record {
        opens = is.leaves ∙ ap (λ (b : Bool). cond b (after (step_of second s) (formed (step_of second s) (open_of p)) (open_of p)) (open_of p)) e;
        sound = is.sound ∙ and_left (sound_prompts p) (sound_spread s) e;
        count = is.count;
      }

  pub taken_is : length p.tier ≡ prompt_places → length p.net ≡ prompt_places → p.count ≤ prompt_places
      → take p.count (deltas_in r.taken) ≡ taken_of (step_of second s) (open_of p)
  taken_is lt ln few =
      ap (λ (ds : List Delta). take p.count (deltas_in ds))
      (is.taken ∙ ap (λ (b : Bool). by_place prompt_places (delta_entry (cond b (taken_of (step_of second s) (open_of p)) []))) e)
      ∙ take-deltas (taken_of (step_of second s) (open_of p)) p.count prompt_places (used_length (step_of second s ∷ []) (open_of p) ∙ open_length p lt ln few) few

-- ---- all steps: what is written and what the steps still to come take are the whole

pub record Putting (n : ℕ) (t : Table) (all : List ℤ) (i at : ℕ) (left : Prompts) (out : List ℤ) : Type 0 where
  pub whole : sets out at (uses_of (steps (drop i (table_spreads t))) (open_of left)) ≡ all
  pub sound : sound_prompts left ≡ true
  pub count : left.count ≡ n
  pub room : at + (t.count - i) * (2 * n) ≤ length out
  pub within : i ≤ t.count
  pub long : length (open_of left) ≡ n

module _ (t : Table) (len : length t.spread ≡ spread_places) (ok : sound_table t ≡ true) where
  spreads_there : length (table_spreads t) ≡ t.count
  spreads_there = table_length t len (few_in_table t ok)

  pub spread_here : (i : ℕ) (d : Spread) → i < t.count → get_or (table_spreads t) i d ≡ get_or t.spread i d
  spread_here i d h = get_or-take t.count t.spread i d h

  module _ (n : ℕ) (all : List ℤ) (i at : ℕ) (left between rest : Prompts) (out out₁ out₂ : List ℤ) (d : Spread) (is : Putting n t all i at left out)
      (h : i < t.count) where
    abbrev s : Spread
    s = get_or t.spread i d

    pub room_here : at + 2 * n + (t.count - (i + 1)) * (2 * n) ≤ length out
    room_here =
        let e : t.count - i ≡ 1 + (t.count - (i + 1)) = omega arith in
        let m = ap (λ (k : ℕ). k * (2 * n)) e ∙ add-mul 1 (t.count - (i + 1)) (2 * n) ∙ ap (λ (k : ℕ). k + (t.count - (i + 1)) * (2 * n)) (one-mul (2 * n)) in
        omega (arith, m, is.room)

    pub first_room : at + n ≤ length out
    first_room = omega (arith, room_here)

    pub first_sound : sound_for left s ≡ true
    first_sound = and_both (sound_prompts left) (sound_spread s) is.sound (sound_in_table t len ok i d h)

    module _ (a : LeftBy left s false between) (o : out₁ ≡ sets out at (taken_of (step_of false s) (open_of left))) where
      same_room : length out₁ ≡ length out
      same_room = ap length o ∙ length-sets out at (taken_of (step_of false s) (open_of left))

      pub second_room : at + n + between.count ≤ length out₁
      second_room = omega (arith, same_room, room_here, a.count, is.count)

      pub second_sound : sound_for between s ≡ true
      second_sound = and_both (sound_prompts between) (sound_spread s) a.sound (sound_in_table t len ok i d h)

      long_between : length (open_of between) ≡ n
      long_between = ap length a.opens ∙ after-length (step_of false s) (formed (step_of false s) (open_of left)) (open_of left) ∙ is.long

      module _ (b : LeftBy between s true rest) (q : out₂ ≡ sets out₁ (at + n) (taken_of (step_of true s) (open_of between))) where
        abbrev x : List ℤ
        x = taken_of (step_of false s) (open_of left)

        abbrev y : List ℤ
        y = taken_of (step_of true s) (open_of between)

        abbrev z : List ℤ
        z = uses_of (steps (drop (i + 1) (table_spreads t))) (open_of rest)

        xs : length x ≡ n
        xs = used_length (step_of false s ∷ []) (open_of left) ∙ is.long

        ys : length y ≡ n
        ys = used_length (step_of true s ∷ []) (open_of between) ∙ long_between

        to_come : x ++ (y ++ z) ≡ uses_of (steps (drop i (table_spreads t))) (open_of left)
        to_come =
            ap₂ (λ (l : List Open) (k : ℕ). x ++ (y ++ uses_of (steps (drop k (table_spreads t))) l)) b.opens (add-one i)
            ∙ ap (λ (l : List Open). x ++
            (taken_of (step_of true s) l ++ uses_of (steps (drop (suc i) (table_spreads t))) (after (step_of true s) (formed (step_of true s) l) l))) a.opens
            ∙ ap (λ (l : List Spread). uses_of (steps l) (open_of left))
            (sym (drop-cons (table_spreads t) i d (omega (arith, spreads_there)) ∙ ap (λ (u : Spread). u ∷ drop (suc i) (table_spreads t)) (spread_here i d h)))

        written : sets out₂ (at + 2 * n) z ≡ sets out at (uses_of (steps (drop i (table_spreads t))) (open_of left))
        written =
            ap₂ (λ (l : List ℤ) (k : ℕ). sets l k z) q (let e = ys in omega arith)
            ∙ sym (sets_append out₁ (at + n) y z)
            ∙ ap₂ (λ (l : List ℤ) (k : ℕ). sets l k (y ++ z)) o (let e = xs in omega arith)
            ∙ sym (sets_append out at x (y ++ z))
            ∙ ap (sets out at) to_come

        pub put-length : length out₂ ≡ length out
        put-length = ap length q ∙ length-sets out₁ (at + n) (taken_of (step_of true s) (open_of between)) ∙ same_room

        pub put_next : Putting n t all (i + 1) (at + 2 * n) rest out₂
        put_next =
            record {
              whole = written ∙ is.whole;
              sound = b.sound;
              count = b.count ∙ a.count ∙ is.count;
              room = omega (arith, put-length, room_here);
              within = omega arith;
              long = ap length b.opens ∙ after-length (step_of true s) (formed (step_of true s) (open_of between)) (open_of between) ∙ long_between;
            }

  pub put_all : (n : ℕ) (all : List ℤ) (i at : ℕ) (left : Prompts) (out : List ℤ) → Putting n t all i at left out → t.count ≤ i → out ≡ all
  put_all n all i at left out is h =
      let past : length (table_spreads t) ≤ i = omega (arith, spreads_there) in
      ap (λ (l : List Spread). sets out at (uses_of (steps l) (open_of left))) (sym (drop_of_length-le (table_spreads t) past)) ∙ is.whole

-- nothing is written yet
pub put-none : (p : Prompts) (t : Table) (out : List ℤ) → length p.tier ≡ prompt_places → length p.net ≡ prompt_places → sound p t ≡ true
    → t.count * (2 * p.count) ≤ length out
    → Putting p.count t (sets out 0 (uses_of (steps (table_spreads t)) (open_of p))) 0 0 p out
put-none p t out lt ln ok h =
    let a = and_left (sound_prompts p) (sound_table t) ok in
    let none : t.count - 0 ≡ t.count = omega arith in
    record {
      whole = refl;
      sound = a;
      count = refl;
      room = omega (arith, h, ap (λ (k : ℕ). k * (2 * p.count)) none);
      within = omega arith;
      long =
          open_length p lt ln (few p a);
    }

-- ---- what a question asks about

-- of spreads, each of two steps
pub spread_uses : (spreads : List Spread) (ps : List Open) → length (uses_of (steps spreads) ps) ≡ length spreads * (2 * length ps)
spread_uses spreads ps =
    uses-length (steps spreads) ps
    ∙ ap (λ (n : ℕ). n * length ps) (steps-length spreads ∙ mul_comm 2 (length spreads))
    ∙ mul_assoc (length spreads) 2 (length ps)

-- the steps of a table over prompts
pub asks : (p : Prompts) (t : Table) (ps : List Open) (spreads : List Spread) → open_of p ≡ ps → table_spreads t ≡ spreads → sound p t ≡ true
    → p.count ≡ length ps → t.count ≡ length spreads
    → Asks (steps spreads) ps (record { prompts = p; table = t })
asks p t ps spreads eo es ok np nt =
    record {
      steps = ap steps es;
      opens = eo;
      accepted = ok;
      many = spread_uses spreads ps ∙ ap₂ (λ (x y : ℕ). x * (2 * y)) (sym nt) (sym np);
    }

pub contract-asks : (prompts spreads : List ℕ) (q : Position) → BookFit (records prompts) (records spreads) q
    → (p : Prompts) (t : Table) → TiersOf prompts q.nets p → TableOf interprompt spreads t
    → Asks (contract_steps (contract_with [] (records prompts) (records spreads) q)) (opens_of (contract_with [] (records prompts) (records spreads) q))
    (record { prompts = p; table = t })
contract-asks prompts spreads q w p t tiers table =
    let ps = records prompts in
    let f = w.fits in
    let room = book-room f.rates w.own ps f.rows (records spreads) f.fit q f.is f.most in
    let same = opens_first ps (deltas_in q.nets) in
    let few : length (take (length ps) (deltas_in q.nets)) ≡ length ps = ap length f.is.nets_are ∙ length-map ps _ in
    asks p t (opens_with ps (take (length ps) (deltas_in q.nets))) (map interprompt (records spreads)) (opens_are prompts q.nets p tiers ∙ same)
    table.spreads_are
    (contract-sound prompts spreads q.nets p t tiers table room)
    (tiers.count_is ∙ sym (count_is prompts) ∙ sym (opens_length ps (take (length ps) (deltas_in q.nets)) few))
    (table.count_is ∙ sym (count_is spreads) ∙ sym (length-map (records spreads) interprompt))

pub table_asks : (account : List Record) (law : Lawful account) (p : Prompts) (is : TiersIn account p) (part : List ℕ) (ep : PartOf account entry_part part)
    → (t : Table) → TableOf intercontract part t → Asks (table_steps (entries_of account)) (map as_tier (contracts account)) (record { prompts = p; table = t })
table_asks account law p is part ep t table =
    let es = entries_part account law part ep in
    asks p t (map as_tier (contracts account)) (map intercontract (entries_of account)) is.opens_are (table.spreads_are ∙ ap (map intercontract) es)
    (tiers_accepted account law p is part ep t table)
    (sym (ps_length account law p is part ep))
    (table.count_is ∙ sym (count_is part) ∙ ap length es ∙ sym (length-map (entries_of account) intercontract))

-- who paid for what goes by the question's steps, over its prompts
pub uses_by_steps : (account : List Record) → Lawful account → (question : ℕ) → answered account question ≡ true
    → uses account question ≡ uses_of (steps_for account question) (opens_for account question)
uses_by_steps account law question a = go (eqb question table_question) refl
  where
    go : (t : Bool) → eqb question table_question ≡ t → uses account question ≡ uses_of
        (cond t (table_steps (entries_of account)) (contract_steps (parts_of account question)))
        (cond t (map as_tier (contracts account)) (opens_of (parts_of account question)))
    go true e = table_asked account law contract_uses table_uses (λ own. refl) question (eqb-true question table_question e)
    go false e = contract-asked account law contract_uses table_uses (λ own. refl) question a (eqb-false question table_question e)
