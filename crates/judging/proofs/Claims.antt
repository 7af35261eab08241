-- A verdict is given exactly when it says the truth, in demand 3's words: the numbers of the steps are the list that demand 3 picks, and
-- the most that any list which begins so can form in a step is the step's own number.
-- Assumes nothing.
use Prim.Native.Nat.{ℕ, ◌+◌, ◌*◌, ◌≤◌, ◌<◌}
use native.Mathlib.Decide.{ℕ_discrete}
use native.Mathlib.Omega.{arith}
use mathlib.Core.Bool.{Bool, true, false, cond, ◌&&◌, false≢true}
use mathlib.Core.List.{List, [], ◌∷◌, map}
use mathlib.Core.Logic.{◌⊎◌, inl, inr}
use mathlib.Core.Path.{◌≡◌, refl, sym, ap, ap₂, ◌∙◌, subst}
use lib.Dec.{T, eqb, ltb}
use lib.IntN.{ℤ, pos, negsuc, nat_abs}
use lib.ListN.{length, length-map, get_or, take}
use lib.Seq.{get_or-take}
use lib.Signed.{lt_z, ◌<ℤ◌}
use borrow.Author.Tests.{ltb-true, lt-ltb, eqb-true, eq-eqb}
use Rattle.spread.specs.Demand.{Feasible, sound_steps}
use Rattle.spread.specs.Steps.{Open, Taker, numbers}
use Rattle.spread.specs.Uses.{in_one_list, takings}
use Rattle.spread.proofs.Both.{and_left, and_right, and_both}
use Rattle.spread.proofs.Demand3.{demand3, one_per_step_lem}
use Rattle.spread.proofs.Lengths.{uses-length}
use Rattle.exact.specs.Iff.{Iff}
use Rattle.judging.specs.Claims.{uses_told, number_told, use_told, Picked, Reached, IsRight, IsMore, IsLess, IsWrongUse, VerdictSays, SameCounts, TheList}
use Rattle.judging.specs.Claims.{Claims}
use Rattle.judging.specs.Judged.{Told, told_of, alike, verdict_of, judged_from, same_counts, judged_list}
use Rattle.judging.specs.declared.Verdict.{Verdict}
use Rattle.judging.specs.declared.Verdict.TheVariants.{Right, MoreThanFormed, LessThanFormed, WrongUse, OtherCounts}
use Rattle.judging.proofs.Beside.{same_alike, alike_same, told_length, numbers_told_lem, told_whole, takings_told, judged_beside, takings-length, Before}
use Rattle.judging.proofs.Beside.{reaches, all_right, Wrong, AllRight, first_wrong}
use Rattle.judging.proofs.Comparing.{says_more, says_less, says_use}

-- ---- order

passed : (b : Bool) → T b → b ≡ true
passed true t = refl
passed false t = absurd t

holds : (b : Bool) → b ≡ true → T b
holds true e = tt
holds false e = absurd (false≢true e)

below : {a b : ℤ} → lt_z a b ≡ true → a <ℤ b
below {a} {b} e = record { lt = holds (lt_z a b) e }

is_below : (a b : ℤ) → a <ℤ b → lt_z a b ≡ true
is_below a b h = passed (lt_z a b) h.lt

le_below : (a b : ℕ) (z : ℤ) → a ≤ b → pos b <ℤ z → pos a <ℤ z
le_below a b (pos n) h l = let g = ltb-true b n (passed (ltb b n) l.lt) in below (lt-ltb a n (omega arith))
le_below a b (negsuc n) h l = absurd l.lt

below_le : (z : ℤ) (a b : ℕ) → z <ℤ pos a → a ≤ b → z <ℤ pos b
below_le (pos n) a b l h = let g = ltb-true n a (passed (ltb n a) l.lt) in below (lt-ltb n b (omega arith))
below_le (negsuc n) a b l h = below refl

not_self : (n : ℕ) → lt_z (pos n) (pos n) ≡ false
not_self n = go (ltb n n) refl
  where
    go : (b : Bool) → ltb n n ≡ b → b ≡ false
    go true e = absurd (let h = ltb-true n n e in omega arith)
    go false e = refl

sizes : (xs : List ℕ) → map nat_abs (map pos xs) ≡ xs
sizes [] = refl
sizes (x ∷ xs) = ap (λ (l : List ℕ). x ∷ l) (sizes xs)

same_numbers : (xs ys : List ℕ) → map pos xs ≡ map pos ys → xs ≡ ys
same_numbers xs ys e = sym (sizes xs) ∙ ap (map nat_abs) e ∙ sizes ys

module _ (ss : List (List Taker)) (ps : List Open) (ok : sound_steps ss ≡ true) where
  abbrev ours : List ℕ
  ours = numbers ss ps

  -- ---- the list that demand 3 picks

  picked : Picked ss ps ours
  picked = record { is_one = (demand3 ss ps ok).first.is_one; larger = (demand3 ss ps ok).first.larger }

  only : (xs : List ℕ) → Picked ss ps xs → xs ≡ ours
  only xs p = (demand3 ss ps ok).first.only xs p.is_one p.larger

  -- no list that begins as ours can form more than ours in the next step
  at_most : (ys : List ℕ) (j : ℕ) → Feasible ss ps ys → take j ys ≡ take j ours → get_or ys j 0 ≤ get_or ours j 0
  at_most ys j f e = go (ℕ_discrete (get_or ours j 0) (get_or ys j 0))
    where
      go : Dec (get_or ours j 0 ≡ get_or ys j 0) → get_or ys j 0 ≤ get_or ours j 0
      go (yes s) = omega arith
      go (no d) =
          let l =
          picked.larger ys j f
          (record {
            before = λ k h. sym (get_or-take j ours k 0 h) ∙ ap (λ (l : List ℕ). get_or l k 0) (sym e) ∙ get_or-take j ys k 0 h;
            here = d;
          }) in
          omega arith

  module _ (ts : List Told) (many : length ts ≡ length ss) where
    abbrev us : List (List ℤ)
    us = takings ss ps

    eu : length us ≡ length ours
    eu = takings-length ss ps ∙ sym (one_per_step_lem ss ps)

    et : length ts ≡ length ours
    et = many ∙ sym (one_per_step_lem ss ps)

    module _ (j : ℕ) where
      before : Reached ss ps ours ts j → Before ours us ts j
      before r = record { numbers = r.numbers; uses = r.uses }

      reached : j < length ours → Before ours us ts j → Reached ss ps ours ts j
      reached h b = record { there = omega (arith, one_per_step_lem ss ps); numbers = b.numbers; uses = b.uses }

      -- what a step that is reached is told
      decided : (r : Reached ss ps ours ts j) (v : Verdict)
          → ((rest : Verdict) → verdict_of (0 + j) (get_or ours j 0) (number_told ts j) (alike (use_told ts j) (get_or us j [])) rest ≡ v)
          → judged_from 0 ss ps ts ≡ v
      decided r v f =
          let g = reaches 0 j ours us ts eu et (omega (arith, one_per_step_lem ss ps, r.there)) (before r) in
          judged_beside 0 ss ps ts ∙ g.1 ∙ f g.0

      place : 0 + j ≡ j
      place = omega arith

      -- in the words of what can be formed

      more_words : Reached ss ps ours ts j → pos (get_or ours j 0) <ℤ number_told ts j → IsMore ss ps ours ts j
      more_words r l =
          record {
            reached = r;
            more =
                λ ys f b.
                le_below (get_or ys j 0) (get_or ours j 0) (number_told ts j)
                (at_most ys j f (same_numbers (take j ys) (take j ours) (sym b ∙ r.numbers))) l;
          }

      words_more : IsMore ss ps ours ts j → pos (get_or ours j 0) <ℤ number_told ts j
      words_more m = m.more ours picked.is_one m.reached.numbers

      less_words : Reached ss ps ours ts j → number_told ts j <ℤ pos (get_or ours j 0) → IsLess ss ps ours ts j
      less_words r l = record { reached = r; less = (ours, (picked.is_one, (r.numbers, l))) }

      words_less : IsLess ss ps ours ts j → number_told ts j <ℤ pos (get_or ours j 0)
      words_less m =
          let ys = m.less.0 in
          let w = m.less.1 in
          below_le (number_told ts j) (get_or ys j 0) (get_or ours j 0) w.1.1
          (at_most ys j w.0 (same_numbers (take j ys) (take j ours) (sym w.1.0 ∙ m.reached.numbers)))

      -- each verdict where it says the truth

      gives_more : IsMore ss ps ours ts j → judged_from 0 ss ps ts ≡ MoreThanFormed j
      gives_more m =
          decided m.reached (MoreThanFormed j)
          (λ rest. says_more (0 + j) (get_or ours j 0) (number_told ts j) rest (alike (use_told ts j) (get_or us j []))
          (is_below (pos (get_or ours j 0)) (number_told ts j) (words_more m)) ∙ ap MoreThanFormed place)

      not_more : number_told ts j <ℤ pos (get_or ours j 0) → lt_z (pos (get_or ours j 0)) (number_told ts j) ≡ false
      not_more l = go (number_told ts j) l
        where
          go : (z : ℤ) → z <ℤ pos (get_or ours j 0) → lt_z (pos (get_or ours j 0)) z ≡ false
          go (pos n) l = turned (ltb (get_or ours j 0) n) refl
            where
              turned : (b : Bool) → ltb (get_or ours j 0) n ≡ b → b ≡ false
              turned true e = absurd
                  (let a = ltb-true (get_or ours j 0) n e in let b = ltb-true n (get_or ours j 0) (passed (ltb n (get_or ours j 0)) l.lt) in omega arith)
              turned false e = refl
          go (negsuc n) l = refl

      gives_less : IsLess ss ps ours ts j → judged_from 0 ss ps ts ≡ LessThanFormed j
      gives_less m =
          decided m.reached (LessThanFormed j)
          (λ rest. says_less (0 + j) (get_or ours j 0) (number_told ts j) rest (alike (use_told ts j) (get_or us j []))
          (not_more (words_less m)) (is_below (number_told ts j) (pos (get_or ours j 0)) (words_less m)) ∙ ap LessThanFormed place)

      gives_use : IsWrongUse ss ps ours ts j → judged_from 0 ss ps ts ≡ WrongUse j
      gives_use m =
          decided m.reached (WrongUse j)
          (λ rest. says_use (0 + j) (get_or ours j 0) (number_told ts j) rest (alike (use_told ts j) (get_or us j []))
          (subst (λ (z : ℤ). lt_z (pos (get_or ours j 0)) z ≡ false) (sym m.number) (not_self (get_or ours j 0)))
          (subst (λ (z : ℤ). lt_z z (pos (get_or ours j 0)) ≡ false) (sym m.number) (not_self (get_or ours j 0)))
          (unlike (alike (use_told ts j) (get_or us j [])) refl) ∙ ap WrongUse place)
        where
          unlike : (b : Bool) → alike (use_told ts j) (get_or us j []) ≡ b → b ≡ false
          unlike true e = absurd (m.wrong (alike_same (use_told ts j) (get_or us j []) e))
          unlike false e = refl

    gives_right : IsRight ss ps ours ts → judged_from 0 ss ps ts ≡ Right
    gives_right m = judged_beside 0 ss ps ts ∙ all_right 0 ours us ts m.numbers m.uses

    gives : (v : Verdict) → VerdictSays ss ps ours ts v → judged_from 0 ss ps ts ≡ v
    gives Right m = gives_right m
    gives (MoreThanFormed j) m = gives_more j m
    gives (LessThanFormed j) m = gives_less j m
    gives (WrongUse j) m = gives_use j m
    gives OtherCounts m = absurd m

    -- the verdict that is given says the truth
    true_of : (v : Verdict) → VerdictSays ss ps ours ts v → VerdictSays ss ps ours ts (judged_from 0 ss ps ts)
    true_of v m = subst (VerdictSays ss ps ours ts) (sym (gives v m)) m

    says : VerdictSays ss ps ours ts (judged_from 0 ss ps ts)
    says = go (first_wrong ours us ts eu et)
      where
        wrong : (w : Wrong ours us ts) → (lt_z (pos (get_or ours w.step 0)) (number_told ts w.step) ≡ true)
            ⊎ ((lt_z (number_told ts w.step) (pos (get_or ours w.step 0)) ≡ true)
            ⊎ ((number_told ts w.step ≡ pos (get_or ours w.step 0)) × (alike (use_told ts w.step) (get_or us w.step []) ≡ false)))
            → VerdictSays ss ps ours ts (judged_from 0 ss ps ts)
        wrong w (inl m) = true_of (MoreThanFormed w.step) (more_words w.step (reached w.step w.there w.before) (below m))
        wrong w (inr (inl l)) = true_of (LessThanFormed w.step) (less_words w.step (reached w.step w.there w.before) (below l))
        wrong w (inr (inr (n, u))) =
            true_of (WrongUse w.step)
            (record {
              reached = reached w.step w.there w.before;
              number = n;
              wrong = λ e. false≢true (sym u ∙ same_alike (use_told ts w.step) (get_or us w.step []) e);
            })

        go : AllRight ours us ts ⊎ Wrong ours us ts → VerdictSays ss ps ours ts (judged_from 0 ss ps ts)
        go (inl r) = true_of Right (record { numbers = r.numbers; uses = r.uses })
        go (inr w) = wrong w w.why

    exactly : (v : Verdict) → Iff (judged_from 0 ss ps ts ≡ v) (VerdictSays ss ps ours ts v)
    exactly v = record { forth = λ e. subst (VerdictSays ss ps ours ts) e says; back = gives v }

  -- ---- the counts

  module _ (sent : ℕ) (xs us : List ℤ) where
    abbrev tested : Bool
    tested = same_counts (length ss) (length ps) sent (length xs) (length us)

    abbrev ts : List Told
    ts = told_of sent xs us

    counted : SameCounts ss ps sent xs us → judged_list ss ps sent xs us ≡ judged_from 0 ss ps ts
    counted c =
        ap (λ (b : Bool). cond b (judged_from 0 ss ps ts) OtherCounts)
        (and_both (eqb (length xs) (length ss)) (eqb sent (length ps) && eqb (length us) (length ss * length ps)) (eq-eqb (length xs) (length ss) c.steps)
        (and_both (eqb sent (length ps)) (eqb (length us) (length ss * length ps)) (eq-eqb sent (length ps) c.prompts)
        (eq-eqb (length us) (length ss * length ps) c.uses)))

    told_many : SameCounts ss ps sent xs us → length ts ≡ length ss
    told_many c = told_length sent xs us ∙ c.steps

    exactly_so : SameCounts ss ps sent xs us → (v : Verdict) → Iff (judged_list ss ps sent xs us ≡ v) (VerdictSays ss ps ours ts v)
    exactly_so c v =
        let e = exactly ts (told_many c) v in
        record { forth = λ g. e.forth (sym (counted c) ∙ g); back = λ m. counted c ∙ e.back m }

    have_counts : tested ≡ true → SameCounts ss ps sent xs us
    have_counts e =
        let others = and_right (eqb (length xs) (length ss)) (eqb sent (length ps) && eqb (length us) (length ss * length ps)) e in
        record {
          steps = eqb-true (length xs) (length ss) (and_left (eqb (length xs) (length ss)) (eqb sent (length ps) && eqb (length us) (length ss * length ps)) e);
          prompts = eqb-true sent (length ps) (and_left (eqb sent (length ps)) (eqb (length us) (length ss * length ps)) others);
          uses = eqb-true (length us) (length ss * length ps) (and_right (eqb sent (length ps)) (eqb (length us) (length ss * length ps)) others);
        }

    if_right : judged_list ss ps sent xs us ≡ Right → SameCounts ss ps sent xs us
    if_right g = go tested refl g
      where
        go : (b : Bool) → tested ≡ b → cond b (judged_from 0 ss ps ts) OtherCounts ≡ Right → SameCounts ss ps sent xs us
        go true e g = have_counts e
        go false e g = absurd (let z : ◌≡◌ {A = ℕ} 0 1 = cc in omega arith)

    counts : Iff (judged_list ss ps sent xs us ≡ OtherCounts) (SameCounts ss ps sent xs us → ⊥)
    counts = record { forth = λ e c. (exactly_so c OtherCounts).forth e; back = λ d. go d tested refl }
      where
        go : (SameCounts ss ps sent xs us → ⊥) → (b : Bool) → tested ≡ b → cond b (judged_from 0 ss ps ts) OtherCounts ≡ OtherCounts
        go d false e = refl
        go d true e = absurd (d (have_counts e))

    -- the list itself

    same_counts_lem : TheList ss ps ours sent xs us → SameCounts ss ps sent xs us
    same_counts_lem l =
        record {
          steps = ap length l.numbers ∙ length-map ours pos ∙ one_per_step_lem ss ps;
          prompts = l.prompts;
          uses = ap length l.uses ∙ uses-length ss ps;
        }

    is_right_lem : TheList ss ps ours sent xs us → IsRight ss ps ours ts
    is_right_lem l =
        record {
          numbers = numbers_told_lem sent xs us ∙ l.numbers;
          uses = ap (λ (vs : List ℤ). uses_told (told_of sent xs vs)) l.uses ∙ takings_told sent xs ss ps l.prompts (same_counts_lem l).steps;
        }

    the_list : (c : SameCounts ss ps sent xs us) → IsRight ss ps ours ts → TheList ss ps ours sent xs us
    the_list c r =
        let w = told_whole sent xs us (c.uses ∙ ap₂ ◌*◌ (sym c.steps) (sym c.prompts)) in
        record { prompts = c.prompts; numbers = sym w.numbers ∙ r.numbers; uses = sym w.uses ∙ ap in_one_list r.uses }

    right_is_the_list : Iff (judged_list ss ps sent xs us ≡ Right) (TheList ss ps ours sent xs us)
    right_is_the_list =
        record {
          forth = λ e. let c = if_right e in the_list c ((exactly_so c Right).forth e);
          back = λ l. (exactly_so (same_counts_lem l) Right).back (is_right_lem l);
        }

    pub claims : Claims ss ps sent xs us
    claims =
        record {
          picked = picked;
          only = only;
          counts = counts;
          whole = λ c. told_whole sent xs us (c.uses ∙ ap₂ ◌*◌ (sym c.steps) (sym c.prompts));
          exactly = λ c list p v. subst (λ (l : List ℕ). Iff (judged_list ss ps sent xs us ≡ v) (VerdictSays ss ps l ts v)) (sym (only list p)) (exactly_so c v);
          yes = λ list p. subst (λ (l : List ℕ). Iff (judged_list ss ps sent xs us ≡ Right) (TheList ss ps l sent xs us)) (sym (only list p)) right_is_the_list;
        }
