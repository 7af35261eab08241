-- A step that forms nothing leaves everything as it was; so does one that has an empty pool to take from.
-- Assumes nothing.
use Prim.Native.Nat.{ℕ, zero, suc, ◌-◌}
use native.Mathlib.Nat.{zero-mul, zero-div, sub-zero}
use native.Mathlib.Omega.{arith}
use mathlib.Core.Bool.{Bool, true, false}
use mathlib.Core.List.{List, [], ◌∷◌}
use mathlib.Core.Path.{◌≡◌, refl, sym, ◌∙◌, ap}
use lib.Dec.{ltb}
use lib.ListN.{get_or, set}
use lib.Seq.{set-get_or}
use borrow.Author.Tests.{ltb-false}
use Rattle.exact.specs.Rounding.{half_up}
use Rattle.spread.specs.code.Cells.{cell_of, pool_in, lowest_in, formed_in, less_in, after_in, Taken}
use Rattle.spread.specs.Steps.{Taker, room, use_of}

pub use_none : (tenths : Bool) (ratio : ℕ) → use_of tenths 0 ratio ≡ 0
use_none false ratio = zero-mul ratio
use_none true ratio = ap (λ (n : ℕ). half_up n 10) (zero-mul ratio)

less_none : (k : Taker) (cells : List ℕ) → less_in 0 k cells ≡ cells
less_none k cells =
    ap (λ (n : ℕ). set cells (cell_of k.market k.tier) (pool_in cells k - n)) (use_none k.tenths k.ratio)
    ∙ ap (set cells (cell_of k.market k.tier)) (sub-zero (pool_in cells k))
    ∙ set-get_or cells (cell_of k.market k.tier) 0

after_none : (ks : List Taker) (cells : List ℕ) → after_in ks 0 cells ≡ cells
after_none [] cells = refl
after_none (k ∷ ks) cells = ap (after_in ks 0) (less_none k cells) ∙ after_none ks cells

room-none : (tenths : Bool) (p ratio : ℕ) → p ≡ 0 → room tenths p ratio ≡ 0
room-none false p ratio e = rw e (zero-div ratio)
room-none true p ratio e = rw e (zero-div ratio)

formed-none : (ks : List Taker) (cells : List ℕ) → lowest_in cells ks ≡ 0 → formed_in ks cells ≡ 0
formed-none [] cells e = refl
formed-none (k ∷ []) cells e = room-none k.tenths (pool_in cells k) k.ratio e
formed-none (k ∷ l ∷ ks) cells e = go (pool_in cells k) refl (formed-none (l ∷ ks) cells)
  where
    go : (p : ℕ) → pool_in cells k ≡ p → (lowest_in cells (l ∷ ks) ≡ 0 → formed_in (l ∷ ks) cells ≡ 0) → formed_in (k ∷ l ∷ ks) cells ≡ 0
    go zero f rest = let h = room-none k.tenths (pool_in cells k) k.ratio f in omega arith
    go (suc p) f rest = let h = rest (omega arith) in omega arith

-- a step as taken, its number written, or left out

pub record Written (ks : List Taker) (cells left : List ℕ) (i : ℕ) (was now : List ℕ) : Type 0 where
  pub number : ℕ
  pub taken : Taken ks cells left number
  pub written : now ≡ set was i number

pub written_none : (ks : List Taker) (cells left : List ℕ) (i : ℕ) (was now : List ℕ) → ltb 0 (lowest_in cells ks) ≡ false → left ≡ cells → now ≡ was
    → get_or was i 0 ≡ 0
    → Written ks cells left i was now
written_none ks cells left i was now h e f zero-there =
    let none = formed-none ks cells (let l = ltb-false 0 (lowest_in cells ks) h in omega arith) in
    record {
      number = 0;
      taken =
          record {
            formed = sym none;
            leaves = e ∙ sym (after_none ks cells) ∙ ap (λ (n : ℕ). after_in ks n cells) (sym none);
          };
      written = f ∙ sym (ap (set was i) (sym zero-there) ∙ set-get_or was i 0);
    }
