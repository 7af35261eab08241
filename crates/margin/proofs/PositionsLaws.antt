-- The positions of an account, put in place one after the other, and what they tell of it.
-- Assumes nothing.
use Prim.Native.Nat.{ℕ, zero, suc, ◌+◌, ◌≤◌, ◌<◌, zero-le, suc-le-suc}
use native.Mathlib.Decide.{ℕ_discrete}
use native.Mathlib.Nat.{not-suc-le-zero}
use native.Mathlib.Omega.{arith}
use mathlib.Core.Path.{◌≡◌, refl, sym, ap, ◌∙◌, subst, subst⁻¹}
use mathlib.Core.Bool.{Bool, true, false, ◌||◌, false≢true}
use mathlib.Core.List.{List, [], ◌∷◌}
use borrow.Author.Tests.{eqb-true, eq-eqb}
use lib.Dec.{eqb}
use lib.ListN.{length, get_or, set, length-set, replicate, length-replicate, get_or-replicate}
use lib.Seq.{ext_get_or, get_or-set_same, get_or-set_other}
use Rattle.exact.specs.Lists.{any}
use Rattle.record.specs.Layout.{Record, contract, most_contract}
use Rattle.account.specs.Accepted.{Each, listed}
use Rattle.account.specs.Lawful.{Lawful}
use Rattle.account.specs.Parts.{of_kind, contracts_of, prompts_of, rows_of, rates_of}
use Rattle.account.proofs.Lists.{any_keep}
use Rattle.account.specs.Check.{most_contracts, most_prompts, most_rows}
use Rattle.margin.specs.declared.positions.Positions.{Positions}
use Rattle.formulas.specs.declared.rows.Position.{Position}
use Rattle.margin.specs.code.Beside.{unit_of}
use Rattle.margin.specs.Books.{asks}
use Rattle.margin.specs.code.Lined.{PositionAt}
use Rattle.formulas.specs.code.Position.{PositionOf}
use Rattle.margin.specs.code.Positions.{no_position, PositionsOf}
use Rattle.margin.proofs.BesideLaws.{own_fit}
use Rattle.formulas.proofs.PositionLaws.{one_position}
use Rattle.formulas.proofs.PositionBounds.{no_rows, bounded, wider}

-- ---- a contract by its number

pub record Found (c : ℕ) (xs : List Record) : Type 0 where
  pub place : ℕ
  pub below : place < length xs
  pub here : contract (get_or xs place []) ≡ c

pub found : (c : ℕ) (xs : List Record) → any (asks c) xs ≡ true → Found c xs
found c [] e = absurd (false≢true e)
found c (x ∷ xs) e = go (eqb (contract x) c) refl e (found c xs)
  where
    go : (t : Bool) → eqb (contract x) c ≡ t → t || any (asks c) xs ≡ true → (any (asks c) xs ≡ true → Found c xs) → Found c (x ∷ xs)
    go true q a rest = record { place = 0; below = suc-le-suc zero-le; here = eqb-true (contract x) c q }
    go false q a rest = let r = rest a in record { place = suc r.place; below = suc-le-suc r.below; here = r.here }

none : (c : ℕ) (xs : List Record) → any (asks c) xs ≡ false → (j : ℕ) → j < length xs → contract (get_or xs j []) ≡ c → ⊥
none c [] e j h q = not-suc-le-zero h
none c (x ∷ xs) e zero h q = false≢true (sym e ∙ ap (λ (t : Bool). t || any (asks c) xs) (eq-eqb (contract x) c q))
none c (x ∷ xs) e (suc j) h q = go (eqb (contract x) c) e (λ a. none c xs a j (omega arith) q)
  where
    go : (t : Bool) → t || any (asks c) xs ≡ false → (any (asks c) xs ≡ false → ⊥) → ⊥
    go true a rest = false≢true (sym a)
    go false a rest = rest a

-- ---- no rows

abbrev pub Flat : Position → Type 0
Flat p = (rates : List Record) (unit : ℕ) (prompts : List Record) → length prompts ≤ most_prompts → PositionOf rates unit prompts [] p

module _ (account : List Record) (law : Lawful account) where
  -- a contract that is not listed has none
  unlisted : (c : ℕ) → any (asks c) (contracts_of account) ≡ false → rows_of c account ≡ []
  unlisted c e = go (rows_of c account) refl (law.named.rows c)
    where
      go : (rs : List Record) → rows_of c account ≡ rs → Each (λ r. listed c account ≡ true) rs → rows_of c account ≡ []
      go [] q each = q
      go (r ∷ rs) q each = absurd (false≢true (sym e ∙ any_keep (of_kind 1) (asks c) account ∙ each.0))

  flat_at : (c : ℕ) (p : Position) → Flat p → any (asks c) (contracts_of account) ≡ false → PositionAt (rates_of account) (unit_of c account) account c p
  flat_at c p flat e =
      let is = flat (rates_of account) (unit_of c account) (prompts_of c account) (law.limits.prompts c) in
      record {
        is = subst⁻¹ (λ (rs : List Record). PositionOf (rates_of account) (unit_of c account) (prompts_of c account) rs p) (unlisted c e) is;
        most = wider 0 most_rows p zero-le
            (bounded (rates_of account) (unit_of c account) (own_fit account law c).units.most (prompts_of c account) [] p no_rows
            (λ k h. absurd (not-suc-le-zero h)) is);
      }

-- ---- put in place one after the other

pub record Placed (account : List Record) (i : ℕ) (at : List Position) : Type 0 where
  pub places : length at ≡ most_contracts
  pub done : (j : ℕ) → j < i → PositionAt (rates_of account) (unit_of (contract (get_or (contracts_of account) j [])) account) account
      (contract (get_or (contracts_of account) j [])) (get_or at (contract (get_or (contracts_of account) j [])) no_position)
  pub rest : (c : ℕ) → c ≤ most_contract → ((j : ℕ) → j < i → contract (get_or (contracts_of account) j []) ≡ c → ⊥) → Flat (get_or at c no_position)

pub placed_none : (account : List Record) (p : Position) → Flat p → Placed account 0 (replicate most_contracts p)
placed_none account p flat =
    record {
      places = length-replicate most_contracts p;
      done = λ j h. absurd (not-suc-le-zero h);
      rest = λ c h n. subst⁻¹ Flat (get_or-replicate most_contracts c p no_position (omega arith)) flat;
    }

pub placed_next : (account : List Record) (i : ℕ) (at : List Position) (c : ℕ) (p : Position) → Placed account i at → c ≤ most_contract
    → c ≡ contract (get_or (contracts_of account) i [])
    → PositionAt (rates_of account) (unit_of c account) account c p → Placed account (i + 1) (set at c p)
placed_next account i at c p is few number here =
    record {
      places = length-set at c p ∙ is.places;
      done = λ j h. done j h (ℕ_discrete (contract (get_or (contracts_of account) j [])) c);
      rest = λ d h n. subst⁻¹ Flat (get_or-set_other at c d p no_position (λ q. n i (omega arith) (sym number ∙ sym q))) (is.rest d h (λ j l. n j (omega arith)));
    }
  where
    same : PositionAt (rates_of account) (unit_of c account) account c (get_or (set at c p) c no_position)
    same = subst⁻¹ (PositionAt (rates_of account) (unit_of c account) account c) (get_or-set_same at c p no_position (omega (arith, is.places))) here

    done : (j : ℕ) → j < i + 1 → Dec (contract (get_or (contracts_of account) j []) ≡ c)
        → PositionAt (rates_of account) (unit_of (contract (get_or (contracts_of account) j [])) account) account
        (contract (get_or (contracts_of account) j [])) (get_or (set at c p) (contract (get_or (contracts_of account) j [])) no_position)
    done j h (yes q) = subst⁻¹ (λ (d : ℕ). PositionAt (rates_of account) (unit_of d account) account d (get_or (set at c p) d no_position)) q same
    done j h (no q) =
        let d = contract (get_or (contracts_of account) j []) in
        subst⁻¹ (PositionAt (rates_of account) (unit_of d account) account d) (get_or-set_other at c d p no_position q) (is.done j (earlier (ℕ_discrete j i)))
      where
        earlier : Dec (j ≡ i) → j < i
        earlier (yes e) = absurd (q (ap (λ (n : ℕ). contract (get_or (contracts_of account) n [])) e ∙ sym number))
        earlier (no e) = omega (arith, e)

pub placed_all : (account : List Record) (law : Lawful account) (i : ℕ) (ps : Positions) → i ≡ length (contracts_of account)
    → Placed account i ps.at → ps.records ≡ length account → PositionsOf account ps
placed_all account law i ps e is n = record { records_are = n; places = is.places; each = λ c h. go c h (any (asks c) (contracts_of account)) refl }
  where
    go : (c : ℕ) → c ≤ most_contract → (t : Bool) → any (asks c) (contracts_of account) ≡ t → PositionAt (rates_of account) (unit_of c account) account c
        (get_or ps.at c no_position)
    go c h true a =
        let f = found c (contracts_of account) a in
        subst (λ (d : ℕ). PositionAt (rates_of account) (unit_of d account) account d (get_or ps.at d no_position)) f.here
        (is.done f.place (omega (arith, e, f.below)))
    go c h false a =
        flat_at account law c (get_or ps.at c no_position) (is.rest c h (λ j l. none c (contracts_of account) a j (omega (arith, e)))) a

-- an account has one
pub one_positions : (whole : List Record) (a b : Positions) → PositionsOf whole a → PositionsOf whole b → a ≡ b
one_positions whole a b x y =
    λ i.
    record {
      records = (x.records_are ∙ sym y.records_are) i;
      at =
          ext_get_or no_position a.at b.at (x.places ∙ sym y.places)
          (λ c h.
          let l : c ≤ most_contract = omega (arith, x.places) in
          one_position (rates_of whole) (unit_of c whole) (prompts_of c whole) (rows_of c whole) (get_or a.at c no_position) (get_or b.at c no_position)
          (x.each c l).is (y.each c l).is)
          i;
    }
