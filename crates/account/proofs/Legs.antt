-- The legs of a sound interprompt spread that do not meet: they do not clash either.
-- Assumes nothing.
use Prim.Native.Nat.{ℕ, ◌+◌, ◌*◌, ◌<◌}
use mathlib.Core.Path.{◌≡◌, refl, sym, ap, ◌∙◌}
use mathlib.Core.Bool.{Bool, true, false, not, cond, ◌&&◌, ◌||◌, or-false, or-true, and-true}
use mathlib.Core.List.{List, [], ◌∷◌}
use lib.Dec.{eqb}
use native.Mathlib.Omega.{arith}
use borrow.Author.Tests.{eqb-true, eqb-false, eq-eqb, ne_eqb}
use Rattle.exact.specs.Lists.{any}
use Rattle.record.specs.Layout.{Record, leg_count, two_legs, leg_side}
use Rattle.record.specs.Within.{Between, SpreadWithin, LegWithin}
use Rattle.record.proofs.Within.{neither}
use Rattle.account.specs.Check.{same_leg, alike_among, legs_clash}
use Rattle.account.specs.code.Passing.{on_one_side, legs_meet}

pub or_off : {a b : Bool} → a ≡ false → b ≡ false → a || b ≡ false
or_off p q = rw (p, q)

or_more : (a b c : Bool) → a || b ≡ true → a || (b || c) ≡ true
or_more true b c h = refl
or_more false b c h = ap (λ (t : Bool). t || c) h

-- two bytes in one number: it is another's just where both are
pub two_bytes : (a b c d : ℕ) → a < 256 → c < 256 → eqb (a + 256 * b) (c + 256 * d) ≡ eqb a c && eqb b d
two_bytes a b c d small less = go (eqb a c) refl (eqb b d) refl
  where
    go : (s : Bool) → eqb a c ≡ s → (t : Bool) → eqb b d ≡ t → eqb (a + 256 * b) (c + 256 * d) ≡ s && t
    go true e true f = eq-eqb (a + 256 * b) (c + 256 * d) (omega (arith, eqb-true a c e, eqb-true b d f))
    go true e false f = ne_eqb (a + 256 * b) (c + 256 * d) (λ z. eqb-false b d f (omega (arith, eqb-true a c e)))
    go false e t f = ne_eqb (a + 256 * b) (c + 256 * d) (λ z. eqb-false a c e (omega arith))

-- two legs, and the third where there is one
pub by_legs : (f : ℕ → Bool) (two : Bool) → f 0 || (f 1 || (not two && f 2)) ≡ any f (0 ∷ 1 ∷ cond two [] (2 ∷ []))
by_legs f true = refl
by_legs f false = ap (λ (b : Bool). f 0 || (f 1 || b)) (sym (or-false (f 2)))

-- of two sides that differ one is either
either_side : (x y side : ℕ) → Between 1 x 2 → Between 1 y 2 → Between 1 side 2 → eqb x y ≡ false → eqb x side || eqb y side ≡ true
either_side x y side a b s d = go (eqb x side) refl
  where
    go : (t : Bool) → eqb x side ≡ t → t || eqb y side ≡ true
    go true e = refl
    go false e =
        let m = eqb-false x side e in
        let n = eqb-false x y d in
        eq-eqb y side (omega (arith, a.least, a.most, b.least, b.most, s.least, s.most))

one : Between 1 1 2
one = record { least = omega arith; most = omega arith }

two : Between 1 2 2
two = record { least = omega arith; most = omega arith }

module _ (r : Record) (w : SpreadWithin r) (h : legs_meet r ≡ false) where
  abbrev on : ℕ → ℕ → Bool
  on side leg = eqb (leg_side r leg) side

  abbrev clash : List ℕ → Bool
  clash legs = alike_among r legs || (not (any (on 1) legs) || not (any (on 2) legs))

  abbrev all_on_one : Bool
  all_on_one = on_one_side r 0 1 && (two_legs r || on_one_side r 1 2)

  first_two : (same_leg r 0 1 ≡ false) × (same_leg r 0 2 || (same_leg r 1 2 || all_on_one) ≡ false)
  first_two = neither (same_leg r 0 1) _ h

  first_third : (same_leg r 0 2 ≡ false) × (same_leg r 1 2 || all_on_one ≡ false)
  first_third = neither (same_leg r 0 2) _ first_two.1

  last_two : (same_leg r 1 2 ≡ false) × (all_on_one ≡ false)
  last_two = neither (same_leg r 1 2) _ first_third.1

  pub legs_apart : legs_clash r ≡ false
  legs_apart = go (two_legs r) refl
    where
      go : (t : Bool) → two_legs r ≡ t → legs_clash r ≡ false
      go true t =
          ap (λ (b : Bool). clash (0 ∷ 1 ∷ cond b [] (2 ∷ []))) t
          ∙ or_off (or_off (or_off first_two.0 refl) refl) (or_off (ap not (some 1 one)) (ap not (some 2 two)))
        where
          differ : on_one_side r 0 1 ≡ false
          differ =
              sym (ap (λ (b : Bool). on_one_side r 0 1 && (b || on_one_side r 1 2)) t ∙ and-true (on_one_side r 0 1)) ∙ last_two.1

          some : (side : ℕ) → Between 1 side 2 → any (on side) (0 ∷ 1 ∷ []) ≡ true
          some side s =
              ap (λ (b : Bool). on side 0 || b) (or-false (on side 1))
              ∙ either_side (leg_side r 0) (leg_side r 1) side w.first_leg.sides w.second_leg.sides s differ
      go false t =
          ap (λ (b : Bool). clash (0 ∷ 1 ∷ cond b [] (2 ∷ []))) t
          ∙ or_off (or_off (or_off first_two.0 (or_off first_third.0 refl)) (or_off (or_off last_two.0 refl) refl))
          (or_off (ap not (some 1 one)) (ap not (some 2 two)))
        where
          third : LegWithin r 2
          third =
              let d = eqb-false (leg_count r) 2 t in
              let l = w.leg_counts.least in
              let m = w.leg_counts.most in
              w.third_leg (omega arith)

          some : (side : ℕ) → Between 1 side 2 → any (on side) (0 ∷ 1 ∷ 2 ∷ []) ≡ true
          some side s = by (on_one_side r 0 1) refl
            where
              by : (b : Bool) → on_one_side r 0 1 ≡ b → any (on side) (0 ∷ 1 ∷ 2 ∷ []) ≡ true
              by true b =
                  let d = (λ i. sym b i && (sym t i || on_one_side r 1 2)) ∙ last_two.1 in
                  ap (λ (x : Bool). on side 0 || x)
                  (ap (λ (x : Bool). on side 1 || x) (or-false (on side 2))
                  ∙ either_side (leg_side r 1) (leg_side r 2) side w.second_leg.sides third.sides s d)
                  ∙ or-true (on side 0)
              by false b =
                  or_more (on side 0) (on side 1) _ (either_side (leg_side r 0) (leg_side r 1) side w.first_leg.sides w.second_leg.sides s b)
