-- What the notes mean: of each part how many records it has so far, and where it begins. One record more keeps it so.
-- Assumes nothing.
use Prim.Native.Nat.{ℕ, ◌+◌, ◌/◌, ◌%◌, ◌≤◌, ◌<◌}
use mathlib.Core.Path.{◌≡◌, refl, sym, ap, ◌∙◌}
use mathlib.Core.Bool.{Bool, true, false, cond}
use mathlib.Core.List.{List, [], ◌∷◌, ◌++◌}
use lib.ListN.{length, get_or, set, length-set, replicate, length-replicate, get_or-replicate}
use lib.Seq.{get_or-set_same, get_or-set_other}
use lib.Dec.{eqb}
use native.Mathlib.Omega.{arith}
use borrow.Author.Tests.{ne_eqb, eqb-true, eqb-false}
use Rattle.exact.specs.Lists.{count}
use Rattle.record.specs.Layout.{Record, most_contract}
use Rattle.account.specs.PartNumbers.{part, in_part, entry_part, rate_part, parts}
use Rattle.account.specs.code.Notes.{part_of, one_more, start_noted}
use Rattle.account.specs.Parts.{of_kind, of_contract, start_of}
use Rattle.account.specs.Check.{most_contracts}
use Rattle.account.proofs.Lists.{counts_not, counts_one, starts_same_not, starts_same, starts_here}
use Rattle.account.proofs.Passed.{Known, part_bound, mine}

pub record Noted (first counts : List ℕ) (xs : List Record) : Type 0 where
  pub firsts : length first ≡ parts
  pub sizes : length counts ≡ parts
  pub counted : (v : ℕ) → v < parts → get_or counts v 0 ≡ count (in_part v) xs
  pub started : (v : ℕ) → v < parts → get_or first v 0 ≡ start_of (in_part v) xs

pub noted_none : Noted (replicate parts 0) (replicate parts 0) []
noted_none =
    record {
      firsts = length-replicate {A = ℕ} parts 0;
      sizes = length-replicate {A = ℕ} parts 0;
      counted = λ v h. get_or-replicate {A = ℕ} parts v 0 0 h;
      started = λ v h. get_or-replicate {A = ℕ} parts v 0 0 h;
    }

abbrev choice : Bool → Bool → ℕ → ℕ → Record → Bool
choice a b n c = λ r. cond a (of_kind 5 r) (cond b (of_kind 6 r) (of_contract n c r))

pub part_is : (n c : ℕ) → n ≤ 4 → c ≤ most_contract → in_part (part n c) ≡ of_contract n c
part_is n c hn hc =
    let v = part n c in
    let e : eqb v entry_part ≡ false = ne_eqb v entry_part (λ z. omega arith) in
    let f : eqb v rate_part ≡ false = ne_eqb v rate_part (λ z. omega arith) in
    let d : v / most_contracts ≡ n = omega arith in
    let m : v % most_contracts ≡ c = omega arith in
    ap (λ (b : Bool). choice b (eqb v rate_part) (v / most_contracts) (v % most_contracts)) e
    ∙ ap (λ (b : Bool). choice false b (v / most_contracts) (v % most_contracts)) f
    ∙ ap (λ (x : ℕ). choice false false x (v % most_contracts)) d ∙ ap (λ (x : ℕ). choice false false n x) m

module _
    (first counts : List ℕ) (xs : List Record) (old : Noted first counts xs) (r : Record) (k : Known r) where
  bound : part_of r < parts
  bound = part_bound r k

  same_part : (v : ℕ) → v < parts → in_part v r ≡ true → part_of r ≡ v
  same_part v h e = eqb-true _ _ (sym (mine r k v h) ∙ e)

  other_part : (v : ℕ) → v < parts → in_part v r ≡ false → v ≡ part_of r → ⊥
  other_part v h e i = eqb-false (part_of r) v (sym (mine r k v h) ∙ e) (sym i)

  counted_more :
      (v : ℕ) → v < parts → (t : Bool) → in_part v r ≡ t
      → get_or (one_more counts (part_of r)) v 0 ≡ count (in_part v) (xs ++ r ∷ [])
  counted_more v h true e =
      let s = same_part v h e in
      let l = old.sizes in
      ap (λ (u : ℕ). get_or (one_more counts u) v 0) s
      ∙ get_or-set_same counts v (get_or counts v 0 + 1) 0 (omega arith)
      ∙ ap (λ (n : ℕ). n + 1) (old.counted v h)
      ∙ sym (counts_one (in_part v) xs r e)
  counted_more v h false e =
      get_or-set_other counts (part_of r) v (get_or counts (part_of r) 0 + 1) 0 (other_part v h e) ∙ old.counted v h
      ∙ sym (counts_not (in_part v) xs r e)

  first_set :
      eqb (get_or counts (part_of r) 0) 0 ≡ true
      → start_noted first counts (part_of r) (length xs) ≡ set first (part_of r) (length xs)
  first_set e = rw e

  first_kept : eqb (get_or counts (part_of r) 0) 0 ≡ false → start_noted first counts (part_of r) (length xs) ≡ first
  first_kept e = rw e

  abbrev Started : ℕ → Type 0
  Started v = get_or (start_noted first counts (part_of r) (length xs)) v 0 ≡ start_of (in_part v) (xs ++ r ∷ [])

  started_here : (v : ℕ) → v < parts → in_part v r ≡ true → (t : Bool) → eqb (get_or counts (part_of r) 0) 0 ≡ t → Started v
  started_here v h e true z =
      let s = same_part v h e in
      let l = old.firsts in
      let none : count (in_part v) xs ≡ 0 =
      sym (old.counted v h) ∙ ap (λ (u : ℕ). get_or counts u 0) (sym s) ∙ eqb-true _ _ z in
      ap (λ (f : List ℕ). get_or f v 0) (first_set z) ∙ ap (λ (u : ℕ). get_or (set first u (length xs)) v 0) s
      ∙ get_or-set_same first v (length xs) 0 (omega arith)
      ∙ sym (starts_here (in_part v) xs r e none)
  started_here v h e false z =
      let s = same_part v h e in
      let d = eqb-false (get_or counts (part_of r) 0) 0 z in
      let c : get_or counts (part_of r) 0 ≡ count (in_part v) xs = ap (λ (u : ℕ). get_or counts u 0) s ∙ old.counted v h in
      ap (λ (f : List ℕ). get_or f v 0) (first_kept z) ∙ old.started v h
      ∙ sym (starts_same (in_part v) xs r e (omega arith))

  started_other :
      (v : ℕ) → v < parts → in_part v r ≡ false → (t : Bool) → eqb (get_or counts (part_of r) 0) 0 ≡ t → Started v
  started_other v h e true z =
      ap (λ (f : List ℕ). get_or f v 0) (first_set z)
      ∙ get_or-set_other first (part_of r) v (length xs) 0 (other_part v h e) ∙ old.started v h
      ∙ sym (starts_same_not (in_part v) xs r e)
  started_other v h e false z =
      ap (λ (f : List ℕ). get_or f v 0) (first_kept z) ∙ old.started v h ∙ sym (starts_same_not (in_part v) xs r e)

  started_more : (v : ℕ) → v < parts → (t : Bool) → in_part v r ≡ t → Started v
  started_more v h true e = started_here v h e (eqb (get_or counts (part_of r) 0) 0) refl
  started_more v h false e = started_other v h e (eqb (get_or counts (part_of r) 0) 0) refl

  firsts_more :
      (t : Bool) → eqb (get_or counts (part_of r) 0) 0 ≡ t → length (start_noted first counts (part_of r) (length xs)) ≡ parts
  firsts_more true z = ap length (first_set z) ∙ length-set first (part_of r) (length xs) ∙ old.firsts
  firsts_more false z = ap length (first_kept z) ∙ old.firsts

  pub noted_more : Noted (start_noted first counts (part_of r) (length xs)) (one_more counts (part_of r)) (xs ++ r ∷ [])
  noted_more =
      record {
        firsts = firsts_more (eqb (get_or counts (part_of r) 0) 0) refl;
        sizes = length-set counts (part_of r) (get_or counts (part_of r) 0 + 1) ∙ old.sizes;
        counted = λ v h. counted_more v h (in_part v r) refl;
        started = λ v h. started_more v h (in_part v r) refl;
      }
