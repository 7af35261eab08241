-- What is sent beside the numbers and uses of the steps, two lists: the first step that is wrong decides.
-- Assumes nothing.
use Prim.Native.Nat.{ℕ, zero, suc, ◌+◌, ◌*◌, ◌<◌}
use native.Mathlib.Nat.{add-zero, suc-mul}
use native.Mathlib.Omega.{arith}
use mathlib.Core.Bool.{Bool, true, false, not, ◌&&◌, false≢true}
use mathlib.Core.List.{List, [], ◌∷◌, ◌++◌, map}
use mathlib.Core.Logic.{◌⊎◌, inl, inr}
use mathlib.Core.Path.{◌≡◌, refl, sym, ap, ap₂, ◌∙◌, subst}
use lib.IntN.{ℤ, pos, negsuc}
use lib.ListN.{length, length-drop, get_or, take, drop, take-append-drop}
use lib.Seq.{take_at, drop_at}
use lib.Signed.{lt_z}
use borrow.Author.Tests.{ltb-false, le-ltb, not-true}
use Rattle.spread.specs.Steps.{Open, Taker, formed, after, numbers}
use Rattle.spread.specs.Uses.{taken_of, takings, in_one_list, uses_of}
use Rattle.spread.proofs.Both.{and_left, and_right}
use Rattle.spread.proofs.Stepping.{after-length}
use Rattle.spread.proofs.Lengths.{used_length}
use Rattle.judging.specs.Claims.{numbers_told, uses_told, number_told, use_told, ToldWhole}
use Rattle.judging.specs.Judged.{Told, told_of, level, alike, verdict_of, judged_from}
use Rattle.judging.specs.declared.Verdict.{Verdict}
use Rattle.judging.specs.declared.Verdict.TheVariants.{Right, OtherCounts}
use Rattle.judging.proofs.Comparing.{says_none}

-- ---- numbers that are the same

not_below : (z : ℤ) → lt_z z z ≡ false
not_below (pos n) = le-ltb n n (omega arith)
not_below (negsuc n) = le-ltb n n (omega arith)

pub neither_below : (a b : ℤ) → lt_z a b ≡ false → lt_z b a ≡ false → a ≡ b
neither_below (pos a) (pos b) e f = let h = ltb-false a b e in let g = ltb-false b a f in let s : a ≡ b = omega arith in ap pos s
neither_below (pos a) (negsuc b) e f = absurd (false≢true (sym f))
neither_below (negsuc a) (pos b) e f = absurd (false≢true (sym e))
neither_below (negsuc a) (negsuc b) e f = let h = ltb-false b a e in let g = ltb-false a b f in let s : a ≡ b = omega arith in ap negsuc s

alike_self : (xs : List ℤ) → alike xs xs ≡ true
alike_self [] = refl
alike_self (x ∷ xs) = ap₂ (λ (b c : Bool). (not b && not b) && c) (not_below x) (alike_self xs)

pub alike_same : (xs ys : List ℤ) → alike xs ys ≡ true → xs ≡ ys
alike_same [] [] e = refl
alike_same [] (y ∷ ys) e = absurd (false≢true e)
alike_same (x ∷ xs) [] e = absurd (false≢true e)
alike_same (x ∷ xs) (y ∷ ys) e =
    let s = and_left (level x y) (alike xs ys) e in
    ap₂ ◌∷◌
    (neither_below x y (not-true (lt_z x y) (and_left (not (lt_z x y)) (not (lt_z y x)) s)) (not-true (lt_z y x) (and_right (not (lt_z x y)) (not (lt_z y x)) s)))
    (alike_same xs ys (and_right (level x y) (alike xs ys) e))

pub same_alike : (xs ys : List ℤ) → xs ≡ ys → alike xs ys ≡ true
same_alike xs ys e = subst (λ (l : List ℤ). alike xs l ≡ true) e (alike_self xs)

-- ---- what is lent is told whole

pub told_length : (n : ℕ) (xs us : List ℤ) → length (told_of n xs us) ≡ length xs
told_length n [] us = refl
told_length n (x ∷ xs) us = ap suc (told_length n xs (drop n us))

pub numbers_told_lem : (n : ℕ) (xs us : List ℤ) → numbers_told (told_of n xs us) ≡ xs
numbers_told_lem n [] us = refl
numbers_told_lem n (x ∷ xs) us = ap (λ (l : List ℤ). x ∷ l) (numbers_told_lem n xs (drop n us))

nothing : (us : List ℤ) → length us ≡ 0 → [] ≡ us
nothing [] e = refl
nothing (u ∷ us) e = absurd (omega arith)

uses_told_lem : (n : ℕ) (xs us : List ℤ) → length us ≡ length xs * n → in_one_list (uses_told (told_of n xs us)) ≡ us
uses_told_lem n [] us e = nothing us (omega arith)
uses_told_lem n (x ∷ xs) us e =
    ap (λ (l : List ℤ). take n us ++ l)
    (uses_told_lem n xs (drop n us) (let m = suc-mul (length xs) n in let l = length-drop n us in omega arith))
    ∙ take-append-drop n us

pub told_whole : (n : ℕ) (xs us : List ℤ) → length us ≡ length xs * n → ToldWhole n xs us
told_whole n xs us e = record { numbers = numbers_told_lem n xs us; uses = uses_told_lem n xs us e }

-- ---- the uses of the steps as one list

pub takings_told : (n : ℕ) (xs : List ℤ) (ss : List (List Taker)) (ps : List Open) → n ≡ length ps → length xs ≡ length ss
    → uses_told (told_of n xs (uses_of ss ps)) ≡ takings ss ps
takings_told n [] [] ps e l = refl
takings_told n [] (s ∷ ss) ps e l = absurd (omega arith)
takings_told n (x ∷ xs) [] ps e l = absurd (omega arith)
takings_told n (x ∷ xs) (s ∷ ss) ps e l =
    let many = used_length (s ∷ []) ps ∙ sym e in
    ap₂ (λ (u vs : List ℤ). u ∷ uses_told (told_of n xs vs)) (take_at (taken_of s ps) (uses_of ss (after s (formed s ps) ps)) n many)
    (drop_at (taken_of s ps) (uses_of ss (after s (formed s ps) ps)) n many)
    ∙ ap (λ (vs : List (List ℤ)). taken_of s ps ∷ vs)
    (takings_told n xs ss (after s (formed s ps) ps) (e ∙ sym (after-length s (formed s ps) ps)) (omega arith))

-- ---- beside the numbers and uses of the steps

pub beside : ℕ → List ℕ → List (List ℤ) → List Told → Verdict
beside i [] us [] = Right
beside i [] us (t ∷ ts) = OtherCounts
beside i (x ∷ xs) us [] = OtherCounts
beside i (x ∷ xs) [] (t ∷ ts) = OtherCounts
beside i (x ∷ xs) (u ∷ us) (t ∷ ts) = verdict_of i x t.number (alike t.used u) (beside (suc i) xs us ts)

pub judged_beside : (i : ℕ) (ss : List (List Taker)) (ps : List Open) (ts : List Told) → judged_from i ss ps ts ≡ beside i (numbers ss ps) (takings ss ps) ts
unfolding beside
judged_beside i [] ps [] = refl
judged_beside i [] ps (t ∷ ts) = refl
judged_beside i (s ∷ ss) ps [] = refl
judged_beside i (s ∷ ss) ps (t ∷ ts) =
    ap (verdict_of i (formed s ps) t.number (alike t.used (taken_of s ps))) (judged_beside (suc i) ss (after s (formed s ps) ps) ts)

pub takings-length : (ss : List (List Taker)) (ps : List Open) → length (takings ss ps) ≡ length ss
takings-length [] ps = refl
takings-length (s ∷ ss) ps = ap suc (takings-length ss (after s (formed s ps) ps))

-- the first j steps are right
pub record Before (xs : List ℕ) (us : List (List ℤ)) (ts : List Told) (j : ℕ) : Type 0 where
  pub numbers : take j (numbers_told ts) ≡ map pos (take j xs)
  pub uses : take j (uses_told ts) ≡ take j us

head : {A : Type 0} → A → List A → A
head d [] = d
head d (x ∷ xs) = x

passes : (i x : ℕ) (z : ℤ) (used u : List ℤ) (rest : Verdict) → z ≡ pos x → used ≡ u → verdict_of i x z (alike used u) rest ≡ rest
passes i x z used u rest e f =
    says_none i x z rest (alike used u) (subst (λ (y : ℤ). lt_z (pos x) y ≡ false) (sym e) (not_below (pos x)))
    (subst (λ (y : ℤ). lt_z y (pos x) ≡ false) (sym e) (not_below (pos x))) (same_alike used u f)

-- the step after them is judged by its number and its uses
pub reaches : (i j : ℕ) (xs : List ℕ) (us : List (List ℤ)) (ts : List Told) → length us ≡ length xs → length ts ≡ length xs → j < length xs → Before xs us ts j
    → (rest : Verdict) × (beside i xs us ts ≡ verdict_of (i + j) (get_or xs j 0) (number_told ts j) (alike (use_told ts j) (get_or us j [])) rest)
unfolding beside head
reaches i j [] us ts eu et h b = absurd (omega arith)
reaches i j (x ∷ xs) [] ts eu et h b = absurd (omega arith)
reaches i j (x ∷ xs) (u ∷ us) [] eu et h b = absurd (omega arith)
reaches i zero (x ∷ xs) (u ∷ us) (t ∷ ts) eu et h b = (
  beside (suc i) xs us ts,
  ap (λ (k : ℕ). verdict_of k x t.number (alike t.used u) (beside (suc i) xs us ts)) (sym (add-zero i)),
)
reaches i (suc j) (x ∷ xs) (u ∷ us) (t ∷ ts) eu et h b =
    let r =
    reaches (suc i) j xs us ts (omega arith) (omega arith) (omega arith)
    (record { numbers = ap (drop 1) b.numbers; uses = ap (drop 1) b.uses }) in
    let k : suc i + j ≡ i + suc j = omega arith in (
      r.0,
      passes i x t.number t.used u (beside (suc i) xs us ts) (ap (head (pos 0)) b.numbers) (ap (head []) b.uses)
          ∙ r.1
          ∙ ap (λ (k : ℕ). verdict_of k (get_or xs j 0) (number_told ts j) (alike (use_told ts j) (get_or us j [])) r.0) k,
    )

pub all_right : (i : ℕ) (xs : List ℕ) (us : List (List ℤ)) (ts : List Told) → numbers_told ts ≡ map pos xs → uses_told ts ≡ us → beside i xs us ts ≡ Right
unfolding beside head
all_right i [] us [] e f = refl
all_right i [] us (t ∷ ts) e f = absurd (let l : suc (length (numbers_told ts)) ≡ 0 = ap length e in omega arith)
all_right i (x ∷ xs) us [] e f = absurd (let l : 0 ≡ suc (length (map pos xs)) = ap length e in omega arith)
all_right i (x ∷ xs) [] (t ∷ ts) e f = absurd (let l : suc (length (uses_told ts)) ≡ 0 = ap length f in omega arith)
all_right i (x ∷ xs) (u ∷ us) (t ∷ ts) e f =
    passes i x t.number t.used u (beside (suc i) xs us ts) (ap (head (pos 0)) e) (ap (head []) f)
    ∙ all_right (suc i) xs us ts (ap (drop 1) e) (ap (drop 1) f)

-- ---- all is right, or there is a first step that is wrong

pub record Wrong (xs : List ℕ) (us : List (List ℤ)) (ts : List Told) : Type 0 where
  pub step : ℕ
  pub there : step < length xs
  pub before : Before xs us ts step
  pub why : (lt_z (pos (get_or xs step 0)) (number_told ts step) ≡ true)
      ⊎ ((lt_z (number_told ts step) (pos (get_or xs step 0)) ≡ true)
      ⊎ ((number_told ts step ≡ pos (get_or xs step 0)) × (alike (use_told ts step) (get_or us step []) ≡ false)))

pub record AllRight (xs : List ℕ) (us : List (List ℤ)) (ts : List Told) : Type 0 where
  pub numbers : numbers_told ts ≡ map pos xs
  pub uses : uses_told ts ≡ us

later : {x : ℕ} {u : List ℤ} {t : Told} {xs : List ℕ} {us : List (List ℤ)} {ts : List Told} → t.number ≡ pos x → t.used ≡ u
    → AllRight xs us ts ⊎ Wrong xs us ts → AllRight (x ∷ xs) (u ∷ us) (t ∷ ts) ⊎ Wrong (x ∷ xs) (u ∷ us) (t ∷ ts)
later e f (inl r) = inl (record { numbers = ap₂ ◌∷◌ e r.numbers; uses = ap₂ ◌∷◌ f r.uses })
later e f (inr w) =
    inr
    (record {
      step = suc w.step;
      there = let h = w.there in omega arith;
      before = record { numbers = ap₂ ◌∷◌ e w.before.numbers; uses = ap₂ ◌∷◌ f w.before.uses };
      why = w.why;
    })

pub first_wrong : (xs : List ℕ) (us : List (List ℤ)) (ts : List Told) → length us ≡ length xs → length ts ≡ length xs → AllRight xs us ts ⊎ Wrong xs us ts
first_wrong [] [] [] eu et = inl (record { numbers = refl; uses = refl })
first_wrong [] [] (t ∷ ts) eu et = absurd (omega arith)
first_wrong [] (u ∷ us) ts eu et = absurd (omega arith)
first_wrong (x ∷ xs) [] ts eu et = absurd (omega arith)
first_wrong (x ∷ xs) (u ∷ us) [] eu et = absurd (omega arith)
first_wrong (x ∷ xs) (u ∷ us) (t ∷ ts) eu et =
    go (first_wrong xs us ts (omega arith) (omega arith)) (lt_z (pos x) t.number) refl (lt_z t.number (pos x)) refl (alike t.used u) refl
  where
    here : (lt_z (pos x) t.number ≡ true) ⊎ ((lt_z t.number (pos x) ≡ true) ⊎ ((t.number ≡ pos x) × (alike t.used u ≡ false)))
        → AllRight (x ∷ xs) (u ∷ us) (t ∷ ts) ⊎ Wrong (x ∷ xs) (u ∷ us) (t ∷ ts)
    here w = inr (record { step = 0; there = omega arith; before = record { numbers = refl; uses = refl }; why = w })

    go : AllRight xs us ts ⊎ Wrong xs us ts → (m : Bool) → lt_z (pos x) t.number ≡ m → (l : Bool) → lt_z t.number (pos x) ≡ l → (b : Bool)
        → alike t.used u ≡ b
        → AllRight (x ∷ xs) (u ∷ us) (t ∷ ts) ⊎ Wrong (x ∷ xs) (u ∷ us) (t ∷ ts)
    go r true em l el b eb = here (inl em)
    go r false em true el b eb = here (inr (inl el))
    go r false em false el false eb = here (inr (inr (sym (neither_below (pos x) t.number em el), eb)))
    go r false em false el true eb =
        later (sym (neither_below (pos x) t.number em el)) (alike_same t.used u eb) r
