-- The delta book that the spread steps hand out, read as the definitions of the charges read it.
-- Assumes nothing.
use Prim.Native.Nat.{ℕ, zero, suc, ◌+◌, ◌*◌, ◌≤◌, ◌<◌}
use native.Mathlib.Nat.{le_of_suc-le-suc, not-suc-le-zero}
use native.Mathlib.Omega.{arith}
use mathlib.Core.Path.{◌≡◌, refl, ap, ap₂, ◌∙◌, subst⁻¹}
use mathlib.Core.Bool.{Bool, true, cond, ◌&&◌}
use mathlib.Core.List.{List, [], ◌∷◌, map}
use lib.IntN.{ℤ}
use lib.ListN.{length, get_or, take, length-map}
use borrow.Author.Tests.{le-leb}
use lib.Dec.{leb}
use Rattle.record.specs.Layout.{Record, tier, spread_rate_of, outright_rate_of}
use Rattle.account.specs.Records.{records, record_count}
use Rattle.spread.specs.Accepted as given
use Rattle.spread.specs.Accepted.{every, sound_prompt, sound_spread, prompt_places, spread_places}
use Rattle.spread.specs.Steps.{Open, Taker, steps, numbers, used_of, unused_of}
use Rattle.spread.specs.declared.Spread.{Spread}
use Rattle.spread.specs.declared.Table.{Table}
use Rattle.spread.specs.declared.Prompts.{Prompts}
use Rattle.spread.specs.Touches.{touches, touches_of, most_touches}
use Rattle.spread.specs.declared.book.Book.{Book}
use Rattle.spread.proofs.Both.{and_both}
use Rattle.spread.proofs.Filling.{entries_at}
use Rattle.spread.proofs.Touching.{touches_most}
use Rattle.spread.specs.code.Book.{by_place, spreads_entry, delta_entry, Booked, numbers_of, used_in, unused_in}
use Rattle.spread.specs.code.Lent.{deltas_from, prompts_in}
use Rattle.spread.specs.declared.Spreads.{Spreads}
use Rattle.spread.specs.declared.Delta.{Delta}
use Rattle.formulas.specs.Charges.{over_steps, prompt_charge, prompt_charges}
use Rattle.formulas.specs.Deltas.{opens_with, interprompt}
use Rattle.formulas.specs.code.Promised.{BookOf, BookRoom}
use Rattle.formulas.specs.code.Sums.{interleaved, deltas_in, spreads_at}
use Rattle.formulas.specs.code.Tables.{TiersOf, TableOf}
use Rattle.spread.proofs.Lent.{deltas_again}
use Rattle.formulas.proofs.RecordLaws.{count_is}

entries_same : {A : Type 0} (n : ℕ) (f g : ℕ → A) → ((k : ℕ) → f k ≡ g k) → by_place n f ≡ by_place n g
unfolding by_place
entries_same zero f g h = refl
entries_same (suc n) f g h = ap₂ ◌∷◌ (h 0) (entries_same n (λ k. f (suc k)) (λ k. g (suc k)) (λ k. h (suc k)))

-- the numbers of first and second steps, as arrays hold them
abbrev pub firsts : ℕ → List ℕ → List Spreads
firsts n numbers = by_place n (λ k. spreads_entry numbers (2 * k))

abbrev pub seconds : ℕ → List ℕ → List Spreads
seconds n numbers = by_place n (λ k. spreads_entry numbers (2 * k + 1))

firsts_next : (n a b : ℕ) (numbers : List ℕ) → firsts (suc n) (a ∷ b ∷ numbers) ≡ record { 0 = a } ∷ firsts n numbers
unfolding by_place
firsts_next n a b numbers =
    ap (λ (xs : List Spreads). record { 0 = a } ∷ xs)
    (entries_same n (λ k. spreads_entry (a ∷ b ∷ numbers) (2 * suc k)) (λ k. spreads_entry numbers (2 * k))
    (λ k. let e : 2 * suc k ≡ suc (suc (2 * k)) = omega arith in ap (spreads_entry (a ∷ b ∷ numbers)) e))

seconds_next : (n a b : ℕ) (numbers : List ℕ) → seconds (suc n) (a ∷ b ∷ numbers) ≡ record { 0 = b } ∷ seconds n numbers
unfolding by_place
seconds_next n a b numbers =
    ap (λ (xs : List Spreads). record { 0 = b } ∷ xs)
    (entries_same n (λ k. spreads_entry (a ∷ b ∷ numbers) (2 * suc k + 1)) (λ k. spreads_entry numbers (2 * k + 1))
    (λ k. let e : 2 * suc k + 1 ≡ suc (suc (2 * k + 1)) = omega arith in ap (spreads_entry (a ∷ b ∷ numbers)) e))

-- over a table of spreads, the arrays say what the list of numbers says
pub over_arrays : (amount : Record → ℕ → ℕ → ℕ) (rs : List Record) (numbers : List ℕ) (n : ℕ) → length numbers ≡ 2 * length rs → length rs ≤ n
    → over_steps amount rs (interleaved (firsts n numbers) (seconds n numbers)) ≡ over_steps amount rs numbers
over_arrays amount [] numbers n e h = refl
over_arrays amount (r ∷ rs) numbers zero e h = absurd (not-suc-le-zero h)
over_arrays amount (r ∷ rs) [] (suc n) e h = absurd (omega arith)
over_arrays amount (r ∷ rs) (a ∷ []) (suc n) e h = absurd (omega arith)
over_arrays amount (r ∷ rs) (a ∷ b ∷ numbers) (suc n) e h =
    ap₂ (λ (xs ys : List Spreads). over_steps amount (r ∷ rs) (interleaved xs ys)) (firsts_next n a b numbers) (seconds_next n a b numbers)
    ∙ ap (λ (x : ℕ). amount r a b + x) (over_arrays amount rs numbers n (omega arith) (le_of_suc-le-suc h))

-- over prompts, the arrays of used and unused deltas say what the lists say
deltas_next : (n : ℕ) (z : ℤ) (zs : List ℤ) → by_place (suc n) (delta_entry (z ∷ zs)) ≡ record { 0 = z } ∷ by_place n (delta_entry zs)
unfolding by_place
deltas_next n z zs = refl

pub prompts_arrays : (unit : ℕ) (rs : List Record) (used unused : List ℤ) (n : ℕ) → length used ≡ length rs → length unused ≡ length rs → length rs ≤ n
    → prompt_charges unit rs (deltas_in (by_place n (delta_entry used))) (deltas_in (by_place n (delta_entry unused))) ≡ prompt_charges unit rs used unused
prompts_arrays unit [] used unused n e g h = refl
prompts_arrays unit (r ∷ rs) used unused zero e g h = absurd (not-suc-le-zero h)
prompts_arrays unit (r ∷ rs) [] unused (suc n) e g h = absurd (omega arith)
prompts_arrays unit (r ∷ rs) (u ∷ used) [] (suc n) e g h = absurd (omega arith)
prompts_arrays unit (r ∷ rs) (u ∷ used) (v ∷ unused) (suc n) e g h =
    ap₂ (λ (xs ys : List Delta). prompt_charges unit (r ∷ rs) (deltas_in xs) (deltas_in ys)) (deltas_next n u used) (deltas_next n v unused)
    ∙ ap (λ (x : ℕ). prompt_charge unit (spread_rate_of r) (outright_rate_of r) u v + x)
    (prompts_arrays unit rs used unused n (omega arith) (omega arith) (le_of_suc-le-suc h))

-- ---- what the spread steps are handed is what the definitions speak of

open_first : (n : ℕ) (ts : List ℕ) (ds : List Delta) → take n (given.opens_from ts ds) ≡ given.opens_from (take n ts) ds
open_first zero ts ds = refl
open_first (suc n) [] ds = refl
open_first (suc n) (t ∷ ts) [] = refl
open_first (suc n) (t ∷ ts) (d ∷ ds) = ap (λ (ps : List Open). record { tier = t; unused = d.0 } ∷ ps) (open_first n ts ds)

open_records : (rs : List Record) (ds : List Delta) → given.opens_from (map tier rs) ds ≡ opens_with rs (deltas_in ds)
open_records [] ds = refl
open_records (r ∷ rs) [] = refl
open_records (r ∷ rs) (d ∷ ds) = ap (λ (ps : List Open). record { tier = tier r; unused = d.0 } ∷ ps) (open_records rs ds)

pub opens_are : (part : List ℕ) (ds : List Delta) (p : Prompts) → TiersOf part ds p → given.open_of p ≡ opens_with (records part) (deltas_in ds)
opens_are part ds p is =
    open_first p.count p.tier p.net
    ∙ ap₂ given.opens_from is.tiers_are is.nets_are
    ∙ open_records (records part) ds

-- the numbers of accepted prompts and spreads, and their book
numbers_accepted : (ss : List (List Taker)) (ps : List Open) (p : Prompts) (t : Table) → given.open_of p ≡ ps → given.steps_of t ≡ ss
    → given.sound p t ≡ true → numbers_of p t ≡ numbers ss ps
numbers_accepted ss ps p t eo es sound = ap (λ (x : Bool). cond x (numbers (given.steps_of t) (given.open_of p)) []) sound ∙ ap₂ numbers es eo

pub book_accepted : (ss : List (List Taker)) (ps : List Open) (p : Prompts) (t : Table) (b : Book) → given.open_of p ≡ ps → given.steps_of t ≡ ss
    → given.sound p t ≡ true → Booked p t b → BookOf ss ps b
book_accepted ss ps p t b eo es sound is =
    let n = numbers_accepted ss ps p t eo es sound in
    let u : used_in p t ≡ used_of ss ps = ap (λ (x : Bool). cond x (used_of (given.steps_of t) (given.open_of p)) []) sound ∙ ap₂ used_of es eo in
    let l : unused_in p t ≡ unused_of ss ps = ap (λ (x : Bool). cond x (unused_of (given.steps_of t) (given.open_of p)) []) sound ∙ ap₂ unused_of es eo in
    record {
      first_is = is.first ∙ ap (λ (xs : List ℕ). by_place spread_places (λ k. spreads_entry xs (2 * k))) n;
      second_is = is.second ∙ ap (λ (xs : List ℕ). by_place spread_places (λ k. spreads_entry xs (2 * k + 1))) n;
      used_is = is.used ∙ ap (λ (xs : List ℤ). by_place prompt_places (delta_entry xs)) u;
      unused_is = is.unused ∙ ap (λ (xs : List ℤ). by_place prompt_places (delta_entry xs)) l;
    }

pub handed_sound : (p : Prompts) (t : Table) (ps : List Open) (spreads : List Spread) → given.open_of p ≡ ps → given.table_spreads t ≡ spreads
    → p.count ≤ prompt_places → t.count ≤ spread_places
    → every sound_prompt ps ≡ true → every sound_spread spreads ≡ true → given.sound p t ≡ true
handed_sound p t ps spreads eo es np nt hp ht =
    and_both (leb p.count prompt_places && every sound_prompt (given.open_of p)) (leb t.count spread_places && every sound_spread (given.table_spreads t))
    (and_both (leb p.count prompt_places) (every sound_prompt (given.open_of p)) (le-leb p.count prompt_places np) (ap (every sound_prompt) eo ∙ hp))
    (and_both (leb t.count spread_places) (every sound_spread (given.table_spreads t)) (le-leb t.count spread_places nt) (ap (every sound_spread) es ∙ ht))

pub contract-sound : (part spreads : List ℕ) (ds : List Delta) (p : Prompts) (t : Table) → TiersOf part ds p → TableOf interprompt spreads t
    → BookRoom (records part) (deltas_in ds) (records spreads) → given.sound p t ≡ true
contract-sound part spreads ds p t tiers table room =
    handed_sound p t (opens_with (records part) (deltas_in ds)) (map interprompt (records spreads)) (opens_are part ds p tiers) table.spreads_are
    (omega (arith, tiers.count_is, room.few_prompts, count_is part)) (omega (arith, table.count_is, room.few_spreads, count_is spreads))
    room.prompts_sound room.spreads_sound

-- how often the steps touch a prompt
pub touches_accepted : (ss : List (List Taker)) (ps : List Open) (p : Prompts) (t : Table) → given.open_of p ≡ ps → given.steps_of t ≡ ss → given.sound p t ≡ true
    → touches_of p t ≡ touches ss ps
touches_accepted ss ps p t eo es sound = ap (λ (x : Bool). cond x (touches (given.steps_of t) (given.open_of p)) 0) sound ∙ ap₂ touches es eo

opens_few : (rs : List Record) (zs : List ℤ) → length (opens_with rs zs) ≤ length rs
opens_few [] zs = omega arith
opens_few (r ∷ rs) [] = omega arith
opens_few (r ∷ rs) (z ∷ zs) = let h = opens_few rs zs in omega arith

-- the same of lent tiers and net deltas, and the book that comes of them
module _ (part spreads tiers : List ℕ) (nets : List ℤ) (t : Table) (are : take (record_count part) tiers ≡ map tier (records part))
    (table : TableOf interprompt spreads t) (room : BookRoom (records part) nets (records spreads)) where
  lent_tiers : TiersOf part (deltas_from nets) (prompts_in (record_count part) tiers nets)
  lent_tiers = record { count_is = refl; tiers_are = are; nets_are = refl }

  pub lent_sound : given.sound (prompts_in (record_count part) tiers nets) t ≡ true
  lent_sound =
      contract-sound part spreads (deltas_from nets) (prompts_in (record_count part) tiers nets) t lent_tiers table
      (subst⁻¹ (λ (zs : List ℤ). BookRoom (records part) zs (records spreads)) (deltas_again nets) room)

  lent_opens : given.open_of (prompts_in (record_count part) tiers nets) ≡ opens_with (records part) nets
  lent_opens =
      opens_are part (deltas_from nets) (prompts_in (record_count part) tiers nets) lent_tiers ∙ ap (opens_with (records part)) (deltas_again nets)

  lent_steps : given.steps_of t ≡ steps (map interprompt (records spreads))
  lent_steps = ap steps table.spreads_are

  pub lent_book : (b : Book) → Booked (prompts_in (record_count part) tiers nets) t b
      → BookOf (steps (map interprompt (records spreads))) (opens_with (records part) nets) b
  lent_book b is =
      book_accepted (steps (map interprompt (records spreads))) (opens_with (records part) nets) (prompts_in (record_count part) tiers nets) t b
      lent_opens lent_steps lent_sound is

  -- how often they touch a prompt
  pub lent_touches : (n : ℕ) → n ≡ touches (given.steps_of t) (given.open_of (prompts_in (record_count part) tiers nets))
      → (n ≡ touches (steps (map interprompt (records spreads))) (opens_with (records part) nets)) × (n ≤ most_touches)
  lent_touches n e =
      let same = e ∙ ap₂ touches lent_steps lent_opens in
      let most = touches_most (map interprompt (records spreads)) (opens_with (records part) nets) room.spreads_sound
      (omega (arith, length-map (records spreads) interprompt, room.few_spreads)) (omega (arith, opens_few (records part) nets, room.few_prompts)) in
      (same, omega (arith, same, most))

-- ---- a book's arrays, cut to its prompts and spreads

pub take-numbers : (numbers : List ℕ) (n m : ℕ) → length numbers ≡ 2 * n → n ≤ m → interleaved (take n (firsts m numbers))
    (take n (seconds m numbers)) ≡ numbers
take-numbers [] zero m e h = refl
take-numbers (a ∷ numbers) zero m e h = absurd (omega arith)
take-numbers numbers (suc n) zero e h = absurd (not-suc-le-zero h)
take-numbers [] (suc n) (suc m) e h = absurd (omega arith)
take-numbers (a ∷ []) (suc n) (suc m) e h = absurd (omega arith)
take-numbers (a ∷ b ∷ numbers) (suc n) (suc m) e h =
    ap₂ (λ (xs ys : List Spreads). interleaved (take (suc n) xs) (take (suc n) ys)) (firsts_next m a b numbers) (seconds_next m a b numbers)
    ∙ ap (λ (xs : List ℕ). a ∷ b ∷ xs) (take-numbers numbers n m (omega arith) (le_of_suc-le-suc h))

-- ---- the numbers that a book's spreads formed, place by place

module _ {ss : List (List Taker)} {ps : List Open} {b : Book} (is : BookOf ss ps b) (k : ℕ) (h : k < spread_places) where
  pub first_at_lem : spreads_at b.first k ≡ get_or (numbers ss ps) (2 * k) 0
  first_at_lem = ap (λ (xs : List Spreads). spreads_at xs k) is.first_is
      ∙ ap (λ (x : Spreads). x.0) (entries_at spread_places (λ i. spreads_entry (numbers ss ps) (2 * i)) k (record { 0 = 0 }) h)

  pub second_at : spreads_at b.second k ≡ get_or (numbers ss ps) (2 * k + 1) 0
  second_at = ap (λ (xs : List Spreads). spreads_at xs k) is.second_is
      ∙ ap (λ (x : Spreads). x.0) (entries_at spread_places (λ i. spreads_entry (numbers ss ps) (2 * i + 1)) k (record { 0 = 0 }) h)
