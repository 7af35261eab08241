-- A step on its own pools by value is the step on the cells that they are read from and put back to, for the cells of its legs differ.
-- Assumes nothing.
use Prim.Native.Nat.{ℕ, ◌-◌, min}
use native.Mathlib.Omega.{arith}
use mathlib.Core.Bool.{Bool, true, false, cond}
use mathlib.Core.List.{List, [], ◌∷◌, map}
use mathlib.Core.Logic.{⊎_elim}
use mathlib.Core.Path.{◌≡◌, refl, sym, ◌∙◌, ap}
use lib.Dec.{eqb}
use lib.ListN.{set, take}
use lib.Seq.{get_or-set_other}
use borrow.Author.Tests.{eqb-false}
use Rattle.exact.specs.Lists.{least}
use Rattle.spread.specs.Accepted.{sound_leg, legs_alike, sound_spread}
use Rattle.spread.specs.Steps.{Taker, taker, market_in, step_of}
use Rattle.spread.specs.code.Cells.{cell_of, pool_in, lowest_in, formed_in, less_in, after_in, Taken}
use Rattle.spread.specs.code.Pools.{leg_at, taker_at, PoolsOf, lowest, room_at, formed_of, used_at, TakenOf, put_back_at, put_back_two, put_back_in}
use Rattle.spread.specs.declared.Spread.{Spread}
use Rattle.spread.specs.declared.pools.Pools.{Pools}
use Rattle.spread.proofs.Legs.{step_legs}
use Rattle.spread.proofs.Pooling.{same_cells}
use Rattle.spread.proofs.Soundness.{tier_of_lem, leg_apart, leg_count_lem, first_leg_lem, second_leg_lem, third_leg_lem, legs_differ, third_differs}

module _ (second : Bool) (s : Spread) (e : sound_spread s ≡ true) where
  abbrev leg : ℕ → Taker
  leg = taker_at second s

  abbrev cell : ℕ → ℕ
  cell i = cell_of (leg i).market (leg i).tier

  -- the first legs in a step
  abbrev legs : ℕ → List Taker
  legs n = map (taker s.tenths (market_in second)) (take n (leg_at s 0 ∷ leg_at s 1 ∷ leg_at s 2 ∷ []))

  -- a pool is as it was where another leg's is put
  other : (i j : ℕ) (cells : List ℕ) (v : ℕ) → sound_leg (leg_at s i) ≡ true → sound_leg (leg_at s j) ≡ true → legs_alike (leg_at s i) (leg_at s j) ≡ false
      → pool_in (put_back_at second s i v cells) (leg j) ≡ pool_in cells (leg j)
  other i j cells v a b h =
      get_or-set_other cells (cell i) (cell j) v 0
      (λ same. eqb-false (cell i) (cell j)
      (same_cells (leg i).market (leg j).market (leg i).tier (leg j).tier (tier_of_lem (leg_at s j) b)
      ∙ leg_apart s.tenths second (leg_at s i) (leg_at s j) a b h) (sym same))

  module _ (cells : List ℕ) (had : Pools) (h : PoolsOf cells second s had) where
    third : (n : ℕ) → s.legs ≡ n → had.three ≡ pool_in cells (leg (cond (eqb n 2) 0 2))
    third n f = h.three ∙ ap (λ (k : ℕ). pool_in cells (leg (cond (eqb k 2) 0 2))) f

    pub lowest_of : lowest had ≡ lowest_in cells (step_of second s)
    lowest_of =
        let a = h.one in
        let b = h.two in
        ⊎_elim
        (λ two. let c = third 2 two in let t = ap (lowest_in cells) (step_legs second s h.places 2 two) in omega arith)
        (λ three. let c = third 3 three in let t = ap (lowest_in cells) (step_legs second s h.places 3 three) in omega arith)
        (leg_count_lem s e)

    formed_of_lem : formed_of s had ≡ formed_in (step_of second s) cells
    formed_of_lem =
        ⊎_elim
        (λ two. by 2 two (λ i. min (room_at s 0 (h.one i)) (room_at s 1 (h.two i))))
        (λ three. by 3 three (λ i. min (room_at s 0 (h.one i)) (min (room_at s 1 (h.two i)) (room_at s 2 (third 3 three i)))))
        (leg_count_lem s e)
      where
        rooms : ℕ → ℕ
        rooms n = least (take n (room_at s 0 had.one ∷ room_at s 1 had.two ∷ room_at s 2 had.three ∷ []))

        by : (n : ℕ) → s.legs ≡ n → rooms n ≡ formed_in (legs n) cells → formed_of s had ≡ formed_in (step_of second s) cells
        by n f g = ap rooms f ∙ g ∙ sym (ap (λ (ks : List Taker). formed_in ks cells) (step_legs second s h.places n f))

    -- what a leg leaves of its pool, put where the pool still is as it was read
    less_at : (number i p left : ℕ) (now : List ℕ) → p ≡ pool_in cells (leg i) → left ≡ p - used_at s i number
        → pool_in now (leg i) ≡ pool_in cells (leg i)
        → put_back_at second s i left now ≡ less_in number (leg i) now
    less_at number i p left now f g same = ap (set now (cell i)) (g ∙ ap (λ (n : ℕ). n - used_at s i number) (f ∙ sym same))

    pub taken_of : (left : Pools) (number : ℕ) (now : List ℕ) → TakenOf s had left number → now ≡ put_back_in second s left cells
        → Taken (step_of second s) cells now number
    taken_of left number now t f =
        record {
          formed = formed;
          leaves = f ∙ put ∙ ap (λ (n : ℕ). after_in (step_of second s) n cells) formed;
        }
      where
        formed : number ≡ formed_in (step_of second s) cells
        formed = t.formed ∙ formed_of_lem

        a : sound_leg (leg_at s 0) ≡ true
        a = first_leg_lem s _ h.places e

        b : sound_leg (leg_at s 1) ≡ true
        b = second_leg_lem s _ h.places e

        one : List ℕ
        one = put_back_at second s 0 left.one cells

        two : List ℕ
        two = put_back_two second s left cells

        puts : ℕ → List ℕ
        puts n = cond (eqb n 3) (put_back_at second s 2 left.three two) two

        by : (n : ℕ) → s.legs ≡ n → puts n ≡ after_in (legs n) number cells → put_back_in second s left cells ≡ after_in (step_of second s) number cells
        by n f g = ap puts f ∙ g ∙ sym (ap (λ (ks : List Taker). after_in ks number cells) (step_legs second s h.places n f))

        two_less : two ≡ less_in number (leg 1) (less_in number (leg 0) cells)
        two_less =
            less_at number 1 _ _ one h.two t.two (other 0 1 cells _ a b (legs_differ s _ h.places e))
            ∙ ap (less_in number (leg 1)) (less_at number 0 _ _ cells h.one t.one refl)

        three_less : s.legs ≡ 3
            → put_back_at second s 2 left.three two ≡ less_in number (leg 2) (less_in number (leg 1) (less_in number (leg 0) cells))
        three_less has =
            let c = third_leg_lem s _ h.places e has in
            let apart = third_differs s _ h.places e has in
            less_at number 2 _ _ two (third 3 has) t.three (other 1 2 one _ b c apart.1 ∙ other 0 2 cells _ a c apart.0)
            ∙ ap (less_in number (leg 2)) two_less

        put : put_back_in second s left cells ≡ after_in (step_of second s) number cells
        put = ⊎_elim (λ has. by 2 has two_less) (λ has. by 3 has (three_less has)) (leg_count_lem s e)
