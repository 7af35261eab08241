-- Numbers and uses that are sent, compared with those of a step.
-- Assumes nothing.
use Prim.Native.Nat.{ℕ, suc, ◌≤◌, ◌<◌}
use native.Mathlib.Omega.{arith}
use mathlib.Core.Bool.{Bool, true, false, cond, not, ◌&&◌, ◌||◌}
use mathlib.Core.List.{List}
use mathlib.Core.Path.{◌≡◌, refl, ap, ap₂, ◌∙◌}
use lib.Dec.{ltb}
use lib.IntN.{ℤ, pos, negsuc, nat_abs}
use lib.ListN.{length, length-map, get_or, take, drop, drop_of_length-le}
use lib.Seq.{drop-cons, get_or-take, length-take-le}
use lib.Signed.{lt_z}
use Rattle.exact.specs.Signed.{negative}
use Rattle.spread.specs.declared.Delta.{Delta}
use Rattle.spread.proofs.Gathering.{no_delta}
use Rattle.spread.proofs.Lent.{delta_at_lem}
use Rattle.spread.specs.code.Lent.{deltas_in}
use Rattle.judging.specs.code.Compared.{is_right}
use Rattle.judging.specs.Judged.{level, alike, verdict_of}
use Rattle.judging.specs.declared.Verdict.{Verdict}
use Rattle.judging.specs.declared.Verdict.TheVariants.{Right, MoreThanFormed, LessThanFormed, WrongUse}

pub more_is : (f : ℕ) (z : ℤ) → not (negative z) && ltb f (nat_abs z) ≡ lt_z (pos f) z
more_is f (pos n) = refl
more_is f (negsuc n) = refl

pub less_is : (f : ℕ) (z : ℤ) → negative z || ltb (nat_abs z) f ≡ lt_z z (pos f)
less_is f (pos n) = refl
less_is f (negsuc n) = refl

-- one use after the other: what is still to be compared decides
alike_at : (xs ys : List ℤ) (i : ℕ) → i < length xs → length ys ≡ length xs
    → alike (drop i xs) (drop i ys) ≡ level (get_or xs i (pos 0)) (get_or ys i (pos 0)) && alike (drop (suc i) xs) (drop (suc i) ys)
alike_at xs ys i h e = ap₂ alike (drop-cons xs i (pos 0) h) (drop-cons ys i (pos 0) (omega arith))

alike_end : (xs ys : List ℤ) (i : ℕ) → length xs ≤ i → length ys ≡ length xs → alike (drop i xs) (drop i ys) ≡ true
alike_end xs ys i h e = ap₂ alike (drop_of_length-le xs {i = i} h) (drop_of_length-le ys {i = i} (omega arith))

-- the same of uses that are sent and deltas that a step takes, of which there are enough
module _ (uses : List ℤ) (taken : List Delta) (few : length uses ≤ length taken) where
  abbrev right : List ℤ
  right = take (length uses) (deltas_in taken)

  long : length right ≡ length uses
  long = length-take-le (length uses) (deltas_in taken) (let e = length-map taken (λ (d : Delta). d.0) in omega arith)

  pub uses_at : (i : ℕ) → i < length uses
      → alike (drop i uses) (drop i right) ≡ level (get_or uses i (pos 0)) (get_or taken i no_delta).0 && alike (drop (suc i) uses) (drop (suc i) right)
  uses_at i h =
      alike_at uses right i h long
      ∙ ap (λ (z : ℤ). level (get_or uses i (pos 0)) z && alike (drop (suc i) uses) (drop (suc i) right))
      (get_or-take (length uses) (deltas_in taken) i (pos 0) h ∙ delta_at_lem taken i)

  pub uses_end : (i : ℕ) → length uses ≤ i → alike (drop i uses) (drop i right) ≡ true
  uses_end i h = alike_end uses right i h long

-- the cases of a verdict
module _ (step most : ℕ) (z : ℤ) (rest : Verdict) where
  pub says_more : (u : Bool) → lt_z (pos most) z ≡ true → verdict_of step most z u rest ≡ MoreThanFormed step
  says_more u m = rw m

  pub says_less : (u : Bool) → lt_z (pos most) z ≡ false → lt_z z (pos most) ≡ true → verdict_of step most z u rest ≡ LessThanFormed step
  says_less u m l = rw (m, l)

  pub says_use : (u : Bool) → lt_z (pos most) z ≡ false → lt_z z (pos most) ≡ false → u ≡ false → verdict_of step most z u rest ≡ WrongUse step
  says_use u m l e = rw (m, l, e)

  pub says_none : (u : Bool) → lt_z (pos most) z ≡ false → lt_z z (pos most) ≡ false → u ≡ true → verdict_of step most z u rest ≡ rest
  says_none u m l e = rw (m, l, e)

-- the steps after it are judged where a step is right, and there alone
pub goes_on : (step most : ℕ) (z : ℤ) (u : Bool) (rest : Verdict)
    → verdict_of step most z u rest ≡ cond (is_right (verdict_of step most z u Right)) rest (verdict_of step most z u Right)
goes_on step most z u rest = go (lt_z (pos most) z) (lt_z z (pos most)) u
  where
    go : (m l u : Bool)
        → cond m (MoreThanFormed step) (cond l (LessThanFormed step) (cond u rest (WrongUse step)))
        ≡ cond (is_right (cond m (MoreThanFormed step) (cond l (LessThanFormed step) (cond u Right (WrongUse step))))) rest
        (cond m (MoreThanFormed step) (cond l (LessThanFormed step) (cond u Right (WrongUse step))))
    go true l u = refl
    go false true u = refl
    go false false true = refl
    go false false false = refl
