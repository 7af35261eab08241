-- The intercontract table: contracts as tiers, filled place by place; what entries use is within what contracts have.
-- Assumes nothing.
use Prim.Native.Nat.{ℕ, zero, suc, ◌+◌, ◌≤◌, ◌<◌, suc-le-suc}
use native.Mathlib.Numerals.{add-one}
use native.Mathlib.Omega.{arith}
use mathlib.Core.Path.{◌≡◌, refl, sym, ap, ap₂, ◌∙◌, subst⁻¹}
use mathlib.Core.Bool.{Bool, true, false, not, ◌&&◌, ◌||◌}
use mathlib.Core.List.{List, [], ◌∷◌, ◌++◌, map, map-map}
use lib.IntN.{ℤ}
use lib.ListN.{length, get_or, take, set, length-set, length-map}
use lib.Seq.{take-suc, take-suc-set}
use Rattle.exact.proofs.Lists.{map-take, get_d_map}
use borrow.Author.Tests.{lt-ltb}
use lib.Dec.{eqb}
use Rattle.record.specs.Layout.{Record, contract, second_contract, first_ratio, second_ratio}
use Rattle.spread.specs.Accepted as given
use Rattle.spread.specs.Steps.{Open, steps}
use Rattle.spread.specs.declared.Delta.{Delta}
use Rattle.spread.specs.declared.Prompts.{Prompts}
use Rattle.account.specs.Records.{records}
use Rattle.spread.specs.code.Book.{Booked}
use Rattle.spread.proofs.Every.{opens_length}
use Rattle.spread.proofs.Lent.{map-set}
use Rattle.spread.specs.code.Lent.{deltas_from}
use Rattle.spread.specs.declared.Table.{Table}
use Rattle.spread.specs.declared.book.Book.{Book}
use Rattle.spread.specs.Accepted.{tier_count, prompt_places}
use Rattle.formulas.specs.declared.line.Line.{Line}
use Rattle.formulas.specs.Deltas.{intercontract}
use Rattle.formulas.specs.code.Lines.{no_line}
use Rattle.formulas.specs.code.Within.{EntryFit}
use Rattle.formulas.specs.code.Sums.{deltas_in}
use Rattle.formulas.specs.code.Table.{tier_of, TiersFrom, TableRoom}
use Rattle.formulas.specs.code.Tables.{TableOf}
use Rattle.formulas.specs.code.Promised.{BookOf}
use Rattle.formulas.proofs.BookLaws.{book_accepted, handed_sound}
use Rattle.formulas.proofs.LineLaws.{spreads_sound}
use Rattle.formulas.proofs.RecordLaws.{count_is}

opens_set : (ts : List ℕ) (ds : List Delta) (i t : ℕ) (d : Delta) → given.opens_from (set ts i t) (set ds i d) ≡ set (given.opens_from ts ds) i
    (record { tier = t; unused = d.0 })
opens_set [] ds i t d = refl
opens_set (x ∷ ts) [] zero t d = refl
opens_set (x ∷ ts) [] (suc i) t d = refl
opens_set (x ∷ ts) (y ∷ ds) zero t d = refl
opens_set (x ∷ ts) (y ∷ ds) (suc i) t d = ap (λ (ps : List Open). record { tier = x; unused = y.0 } ∷ ps) (opens_set ts ds i t d)

-- the first i contracts stand in the arrays
pub record Tiered (lines : List Line) (i : ℕ) (ts : List ℕ) (ds : List Delta) : Type 0 where
  pub tiers : length ts ≡ prompt_places
  pub nets : length ds ≡ prompt_places
  pub so_far : take i (given.opens_from ts ds) ≡ map tier_of (take i lines)

pub tiered_next : (lines : List Line) (i : ℕ) (ts : List ℕ) (ds : List Delta) (t : ℕ) (d : Delta) → Tiered lines i ts ds → i < prompt_places → i < length lines
    → record { tier = t; unused = d.0 } ≡ tier_of (get_or lines i no_line)
    → Tiered lines (i + 1) (set ts i t) (set ds i d)
tiered_next lines i ts ds t d is h l e =
    let n = opens_length ts ds prompt_places is.tiers is.nets in
    record {
      tiers = rw length-set is.tiers;
      nets = rw length-set is.nets;
      so_far =
          ap₂ take (add-one i) (opens_set ts ds i t d)
          ∙ take-suc-set (given.opens_from ts ds) i (record { tier = t; unused = d.0 }) (omega arith)
          ∙ ap₂ (λ (ps : List Open) (p : Open). ps ++ (p ∷ [])) (is.so_far ∙ map-take tier_of i lines)
          (e ∙ sym (get_d_map tier_of lines i no_line (tier_of no_line) l))
          ∙ sym (take-suc (map tier_of lines) i (tier_of no_line) (rw length-map l))
          ∙ ap (λ (k : ℕ). take k (map tier_of lines)) (sym (add-one i))
          ∙ sym (map-take tier_of (i + 1) lines);
    }

-- the same in lent numbers
pub lent_next : (lines : List Line) (i : ℕ) (ts : List ℕ) (zs : List ℤ) (t : ℕ) (z : ℤ) → Tiered lines i ts (deltas_from zs) → i < prompt_places
    → i < length lines → record { tier = t; unused = z } ≡ tier_of (get_or lines i no_line) → Tiered lines (i + 1) (set ts i t) (deltas_from (set zs i z))
lent_next lines i ts zs t z is h l e =
    subst⁻¹ (λ (ds : List Delta). Tiered lines (i + 1) (set ts i t) ds) (map-set (λ z. record { 0 = z }) zs i z)
    (tiered_next lines i ts (deltas_from zs) t (record { 0 = z }) is h l e)

-- the net deltas of what stands open
open_deltas : (ts : List ℕ) (ds : List Delta) → length ts ≡ length ds → map (λ p. p.unused) (given.opens_from ts ds) ≡ deltas_in ds
open_deltas [] [] e = refl
open_deltas [] (d ∷ ds) e = absurd (omega arith)
open_deltas (t ∷ ts) [] e = absurd (omega arith)
open_deltas (t ∷ ts) (d ∷ ds) e = ap (λ (zs : List ℤ). d.0 ∷ zs) (open_deltas ts ds (omega arith))

pub tiered_all : (lines : List Line) (i count : ℕ) (p : Prompts) → Tiered lines i p.tier p.net → i ≡ count → p.count ≡ count → TiersFrom count lines p
tiered_all lines i count p is e c =
    let o = is.so_far in
    record {
      count_is = c;
      opens_are = ap (λ (n : ℕ). take n (given.opens_from p.tier p.net)) (c ∙ sym e) ∙ o ∙ ap (λ (n : ℕ). map tier_of (take n lines)) e;
      nets_are =
          ap (λ (n : ℕ). take n (deltas_in p.net)) (sym e)
          ∙ ap (take i) (sym (open_deltas p.tier p.net (is.tiers ∙ sym is.nets)))
          ∙ sym (map-take (λ q. q.unused) i (given.opens_from p.tier p.net))
          ∙ ap (map (λ q. q.unused)) o
          ∙ map-map (λ q. q.unused) tier_of (take i lines)
          ∙ ap (λ (n : ℕ). map (λ l. l.net.0) (take n lines)) e;
    }

-- the entries of a table are spreads that the steps accept
pub entry_accepted : (e : Record) → EntryFit e → given.sound_spread (intercontract e) ≡ true
entry_accepted e w =
    rw (
      lt-ltb (contract e) tier_count (le_suc w.first_number_lem),
      lt-ltb (second_contract e) tier_count (le_suc w.second_number_lem),
      lt-ltb 0 (first_ratio e)
          w.first_ratio_lem,
      lt-ltb 0 (second_ratio e) w.second_ratio_lem,
    )
    (last (eqb (contract e) (second_contract e)))
  where
    le_suc : {n m : ℕ} → n ≤ m → suc n ≤ suc m
    le_suc h = suc-le-suc h

    last : (b : Bool) → not (b && false || false) && true ≡ true
    last true = refl
    last false = refl

pub table_sound : (count : ℕ) (lines : List Line) (entries : List ℕ) (p : Prompts) (t : Table) → TiersFrom count lines p
    → TableOf intercontract entries t → TableRoom count lines (records entries) → given.sound p t ≡ true
table_sound count lines entries p t tiers table room =
    handed_sound p t (map tier_of (take count lines)) (map intercontract (records entries)) tiers.opens_are table.spreads_are
    (omega (arith, tiers.count_is, room.few)) (omega (arith, table.count_is, room.entries_within.few, count_is entries)) room.tiers_sound
    (spreads_sound intercontract (records entries) (λ k h. entry_accepted (get_or (records entries) k []) (room.entries_within.each k h)))

pub table_book_is : (count : ℕ) (lines : List Line) (entries : List ℕ) (p : Prompts) (t : Table) (b : Book) → TiersFrom count lines p
    → TableOf intercontract entries t → TableRoom count lines (records entries) → Booked p t b
    → BookOf (steps (map intercontract (records entries))) (map tier_of (take count lines)) b
table_book_is count lines entries p t b tiers table room is =
    book_accepted (steps (map intercontract (records entries))) (map tier_of (take count lines)) p t b tiers.opens_are (ap steps table.spreads_are)
    (table_sound count lines entries p t tiers table room) is
