-- The steps of an accepted table can be run: what is asked of its legs is what demand 3 rests on.
-- Assumes nothing.
use Prim.Native.Nat.{ℕ, ◌<◌}
use mathlib.Core.Bool.{Bool, true, false, not, ◌&&◌, ◌||◌, true≢false, and-false}
use mathlib.Core.List.{List, [], ◌∷◌, map}
use mathlib.Core.Logic.{◌⊎◌, inl, inr, ⊎_elim}
use mathlib.Core.Path.{◌≡◌, refl, sym, ◌∙◌, ap}
use lib.Dec.{eqb, leb, ltb}
use lib.ListN.{length, get_or, take}
use borrow.Author.Tests.{eqb-true, ltb-true, not-true}
use Rattle.exact.specs.Lists.{any}
use Rattle.spread.specs.Accepted.{table_spreads, steps_of, every, whole, sound_leg, legs_alike, sound_legs_of, sound_spread, sound_prompts, sound_table, sound}
use Rattle.spread.specs.Accepted.{tier_count, spread_places}
use Rattle.spread.specs.Steps.{market_in, step_of, Market, taker, first_market, second_market, legs_in, steps}
use Rattle.spread.specs.Demand.{same_market, draws, whole_step, whole_steps, sound_legs, sound_step, sound_steps}
use Rattle.spread.specs.declared.Leg.{Leg}
use Rattle.spread.specs.declared.Prompts.{Prompts}
use Rattle.spread.specs.declared.Spread.{Spread}
use Rattle.spread.specs.declared.Table.{Table}
use Rattle.spread.proofs.Legs.{three}
use Rattle.spread.proofs.Both.{and_left, and_right, and_both}

-- a side is A or B, and in each step the two take from different sides of the market

one_of : (n a b : ℕ) → eqb n a || eqb n b ≡ true → (n ≡ a) ⊎ (n ≡ b)
one_of n a b e = go (eqb n a) refl e
  where
    go : (c : Bool) → eqb n a ≡ c → c || eqb n b ≡ true → (n ≡ a) ⊎ (n ≡ b)
    go true f h = inl (eqb-true n a f)
    go false f h = inr (eqb-true n b h)

market_apart : (second : Bool) (a b : ℕ) → (a ≡ 1) ⊎ (a ≡ 2) → (b ≡ 1) ⊎ (b ≡ 2) → eqb a b ≡ false → same_market (market_in second b) (market_in second a) ≡ false
market_apart second a b (inl ea) (inl eb) h = absurd (true≢false (rw (ea, eb) at h))
market_apart true a b (inl ea) (inr eb) h = rw (ea, eb)
market_apart false a b (inl ea) (inr eb) h = rw (ea, eb)
market_apart true a b (inr ea) (inl eb) h = rw (ea, eb)
market_apart false a b (inr ea) (inl eb) h = rw (ea, eb)
market_apart second a b (inr ea) (inr eb) h = absurd (true≢false (rw (ea, eb) at h))

side_of : (l : Leg) → sound_leg l ≡ true → (l.side ≡ 1) ⊎ (l.side ≡ 2)
side_of l e =
    one_of l.side 1 2
    (and_left (eqb l.side 1 || eqb l.side 2) (ltb 0 l.ratio)
    (and_right (ltb l.tier tier_count) ((eqb l.side 1 || eqb l.side 2) && ltb 0 l.ratio) e))

pub ratio_of : (l : Leg) → sound_leg l ≡ true → ltb 0 l.ratio ≡ true
ratio_of l e =
    and_right (eqb l.side 1 || eqb l.side 2) (ltb 0 l.ratio)
    (and_right (ltb l.tier tier_count) ((eqb l.side 1 || eqb l.side 2) && ltb 0 l.ratio) e)

pub tier_of_lem : (l : Leg) → sound_leg l ≡ true → l.tier < tier_count
tier_of_lem l e = ltb-true l.tier tier_count (and_left (ltb l.tier tier_count) ((eqb l.side 1 || eqb l.side 2) && ltb 0 l.ratio) e)

-- what a sound list of legs says of its first and of the others

first_sound : (l : Leg) (ls : List Leg) → sound_legs_of (l ∷ ls) ≡ true → sound_leg l ≡ true
first_sound l [] e = e
first_sound l (k ∷ ls) e = and_left (sound_leg l) (not (any (legs_alike l) (k ∷ ls)) && sound_legs_of (k ∷ ls)) e

others_sound : (l k : Leg) (ls : List Leg) → sound_legs_of (l ∷ k ∷ ls) ≡ true → sound_legs_of (k ∷ ls) ≡ true
others_sound l k ls e =
    and_right (not (any (legs_alike l) (k ∷ ls))) (sound_legs_of (k ∷ ls))
    (and_right (sound_leg l) (not (any (legs_alike l) (k ∷ ls)) && sound_legs_of (k ∷ ls)) e)

others_apart : (l k : Leg) (ls : List Leg) → sound_legs_of (l ∷ k ∷ ls) ≡ true → any (legs_alike l) (k ∷ ls) ≡ false
others_apart l k ls e =
    not-true (any (legs_alike l) (k ∷ ls))
    (and_left (not (any (legs_alike l) (k ∷ ls))) (sound_legs_of (k ∷ ls))
    (and_right (sound_leg l) (not (any (legs_alike l) (k ∷ ls)) && sound_legs_of (k ∷ ls)) e))

or_left : (a b : Bool) → a || b ≡ false → a ≡ false
or_left true b e = e
or_left false b e = refl

or_right : (a b : Bool) → a || b ≡ false → b ≡ false
or_right true b e = absurd (true≢false e)
or_right false b e = e

neither : (a b : Bool) → a ≡ false → b ≡ false → a || b ≡ false
neither true b e f = absurd (true≢false e)
neither false b e f = f

module _ (tenths second : Bool) where
  pub leg_apart : (l k : Leg) → sound_leg l ≡ true → sound_leg k ≡ true → legs_alike l k ≡ false → draws (market_in second l.side) l.tier
      (taker tenths (market_in second) k) ≡ false
  leg_apart l k sl sk h = go (eqb l.tier k.tier) h
    where
      go : (b : Bool) → b && eqb l.side k.side ≡ false → same_market (market_in second k.side) (market_in second l.side) && b ≡ false
      go true f = rw (market_apart second l.side k.side (side_of l sl) (side_of k sk) f)
      go false f = and-false (same_market (market_in second k.side) (market_in second l.side))

  none_drawn : (l : Leg) (ls : List Leg) → sound_leg l ≡ true → sound_legs_of ls ≡ true → any (legs_alike l) ls ≡ false
      → any (draws (market_in second l.side) l.tier) (map (taker tenths (market_in second)) ls) ≡ false
  none_drawn l [] sl ss h = refl
  none_drawn l (k ∷ []) sl ss h = neither _ false (leg_apart l k sl ss (or_left (legs_alike l k) false h)) refl
  none_drawn l (k ∷ j ∷ ls) sl ss h =
      neither (draws (market_in second l.side) l.tier (taker tenths (market_in second) k))
      (any (draws (market_in second l.side) l.tier) (map (taker tenths (market_in second)) (j ∷ ls)))
      (leg_apart l k sl (first_sound k (j ∷ ls) ss) (or_left (legs_alike l k) (any (legs_alike l) (j ∷ ls)) h))
      (none_drawn l (j ∷ ls) sl (others_sound k j ls ss) (or_right (legs_alike l k) (any (legs_alike l) (j ∷ ls)) h))

  legs_sound : (l : Leg) (ls : List Leg) → sound_legs_of (l ∷ ls) ≡ true → sound_legs (map (taker tenths (market_in second)) (l ∷ ls)) ≡ true
  legs_sound l [] e = rw (ratio_of l e)
  legs_sound l (k ∷ ls) e =
      rw (
        ratio_of l (first_sound l (k ∷ ls) e),
        none_drawn l (k ∷ ls) (first_sound l (k ∷ ls) e) (others_sound l k ls e) (others_apart l k ls e),
      ) (legs_sound k ls (others_sound l k ls e))

  step_sound : (ls : List Leg) → sound_legs_of ls ≡ true → sound_step (map (taker tenths (market_in second)) ls) ≡ true
  step_sound [] e = e
  step_sound (l ∷ ls) e = legs_sound l ls e

apart : (l k : Leg) (ls : List Leg) → sound_legs_of (l ∷ k ∷ ls) ≡ true → legs_alike l k ≡ false
apart l k ls e = or_left (legs_alike l k) (any (legs_alike l) ls) (others_apart l k ls e)

-- a spread of two legs or of three, leg by leg
pub with_two : (s : Spread) (d : Leg) → length s.leg ≡ 3 → s.legs ≡ 2 → sound_spread s ≡ sound_legs_of (get_or s.leg 0 d ∷ get_or s.leg 1 d ∷ [])
with_two s d l e = rw e (ap (λ (k : List Leg). sound_legs_of (take 2 k)) (three d s.leg l))

pub with_three : (s : Spread) (d : Leg) → length s.leg ≡ 3 → s.legs ≡ 3
    → sound_spread s ≡ sound_legs_of (get_or s.leg 0 d ∷ get_or s.leg 1 d ∷ get_or s.leg 2 d ∷ [])
with_three s d l e = rw e (ap (λ (k : List Leg). sound_legs_of (take 3 k)) (three d s.leg l))

pub leg_count_lem : (s : Spread) → sound_spread s ≡ true → (s.legs ≡ 2) ⊎ (s.legs ≡ 3)
leg_count_lem s e = one_of s.legs 2 3 (and_left (eqb s.legs 2 || eqb s.legs 3) (sound_legs_of (legs_in s)) e)

pub has_three : (s : Spread) → sound_spread s ≡ true → (s.legs ≡ 2 → ⊥) → s.legs ≡ 3
has_three s e h = ⊎_elim (λ two. absurd (h two)) (λ three. three) (leg_count_lem s e)

pub has_two : (s : Spread) → sound_spread s ≡ true → (s.legs ≡ 3 → ⊥) → s.legs ≡ 2
has_two s e h = ⊎_elim (λ two. two) (λ three. absurd (h three)) (leg_count_lem s e)

module _ (s : Spread) (d : Leg) (l : length s.leg ≡ 3) (e : sound_spread s ≡ true) where
  pub first_leg_lem : sound_leg (get_or s.leg 0 d) ≡ true
  first_leg_lem =
      ⊎_elim
      (λ two. first_sound (get_or s.leg 0 d) (get_or s.leg 1 d ∷ []) (sym (with_two s d l two) ∙ e))
      (λ three. first_sound (get_or s.leg 0 d) (get_or s.leg 1 d ∷ get_or s.leg 2 d ∷ []) (sym (with_three s d l three) ∙ e))
      (leg_count_lem s e)

  pub second_leg_lem : sound_leg (get_or s.leg 1 d) ≡ true
  second_leg_lem =
      ⊎_elim
      (λ two. others_sound (get_or s.leg 0 d) (get_or s.leg 1 d) [] (sym (with_two s d l two) ∙ e))
      (λ three. first_sound (get_or s.leg 1 d) (get_or s.leg 2 d ∷ [])
      (others_sound (get_or s.leg 0 d) (get_or s.leg 1 d) (get_or s.leg 2 d ∷ []) (sym (with_three s d l three) ∙ e)))
      (leg_count_lem s e)

  pub third_leg_lem : s.legs ≡ 3 → sound_leg (get_or s.leg 2 d) ≡ true
  third_leg_lem three =
      others_sound (get_or s.leg 1 d) (get_or s.leg 2 d) []
      (others_sound (get_or s.leg 0 d) (get_or s.leg 1 d) (get_or s.leg 2 d ∷ []) (sym (with_three s d l three) ∙ e))

  pub legs_differ : legs_alike (get_or s.leg 0 d) (get_or s.leg 1 d) ≡ false
  legs_differ =
      ⊎_elim
      (λ two. apart (get_or s.leg 0 d) (get_or s.leg 1 d) [] (sym (with_two s d l two) ∙ e))
      (λ three. apart (get_or s.leg 0 d) (get_or s.leg 1 d) (get_or s.leg 2 d ∷ []) (sym (with_three s d l three) ∙ e))
      (leg_count_lem s e)

  pub third_differs : s.legs ≡ 3
      → (legs_alike (get_or s.leg 0 d) (get_or s.leg 2 d) ≡ false) × (legs_alike (get_or s.leg 1 d) (get_or s.leg 2 d) ≡ false)
  third_differs three =
      let x = get_or s.leg 0 d in
      let y = get_or s.leg 1 d in
      let z = get_or s.leg 2 d in
      let sound = sym (with_three s d l three) ∙ e in (
        or_left (legs_alike x z) false (or_right (legs_alike x y) (legs_alike x z || false) (others_apart x y (z ∷ []) sound)),
        apart y z [] (others_sound x y (z ∷ []) sound),
      )

pub spread_sound : (second : Bool) (s : Spread) → sound_spread s ≡ true → sound_step (step_of second s) ≡ true
spread_sound second s e = step_sound s.tenths second (legs_in s) (and_right (eqb s.legs 2 || eqb s.legs 3) (sound_legs_of (legs_in s)) e)

pub steps-sound : (ss : List Spread) → every sound_spread ss ≡ true → sound_steps (steps ss) ≡ true
steps-sound [] e = refl
steps-sound (s ∷ ss) e =
    let here = and_left (sound_spread s) (every sound_spread ss) e in
    and_both (sound_step (step_of false s)) (sound_step (step_of true s) && sound_steps (steps ss)) (spread_sound false s here)
    (and_both (sound_step (step_of true s)) (sound_steps (steps ss)) (spread_sound true s here)
    (steps-sound ss (and_right (sound_spread s) (every sound_spread ss) e)))

pub table_sound : (p : Prompts) (t : Table) → sound p t ≡ true → sound_steps (steps_of t) ≡ true
table_sound p t e =
    steps-sound (table_spreads t)
    (and_right (leb t.count spread_places) (every sound_spread (table_spreads t)) (and_right (sound_prompts p) (sound_table t) e))

-- of a table without tenths no step has any

whole_legs : (market : ℕ → Market) (ls : List Leg) → whole_step (map (taker false market) ls) ≡ true
whole_legs market [] = refl
whole_legs market (l ∷ ls) = whole_legs market ls

pub whole-steps : (ss : List Spread) → every whole ss ≡ true → whole_steps (steps ss) ≡ true
whole-steps [] e = refl
whole-steps (s ∷ ss) e =
    let here = not-true s.tenths (and_left (whole s) (every whole ss) e) in
    let each : (market : ℕ → Market) → whole_step (map (taker s.tenths market) (legs_in s)) ≡ true =
    λ market. ap (λ (b : Bool). whole_step (map (taker b market) (legs_in s))) here ∙ whole_legs market (legs_in s)
    in
    and_both (whole_step (step_of false s)) (whole_step (step_of true s) && whole_steps (steps ss)) (each first_market)
    (and_both (whole_step (step_of true s)) (whole_steps (steps ss)) (each second_market) (whole-steps ss (and_right (whole s) (every whole ss) e)))
