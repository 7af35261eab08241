-- Demand 3 holds of the steps: ours is the first of the feasible lists, and the prompts pay for it as one spend of its total use.
-- Assumes nothing.
use Prim.Native.Nat.{ℕ, ◌≤◌, ◌<◌}
use native.Mathlib.Omega.{arith}
use mathlib.Core.Bool.{true}
use mathlib.Core.List.{List, [], ◌∷◌}
use mathlib.Core.Logic.{⊎_elim}
use mathlib.Core.Path.{◌≡◌, refl, sym, ◌∙◌}
use lib.ListN.{length, get_or}
use Rattle.spread.specs.Accepted.{open_of, steps_of, sound}
use Rattle.spread.specs.Demand.{Demand3, Feasible, TotalWithin, FirstAmong, FirstWords, FirstDifference, total_use, whole_steps, sound_steps}
use Rattle.spread.specs.Steps.{Market, Open, Taker, pool, formed, after, numbers}
use Rattle.spread.specs.declared.Prompts.{Prompts}
use Rattle.spread.specs.declared.Table.{Table}
use Rattle.spread.proofs.Best.{Stepwise, ours_stepwise, ours_larger, stepwise_total, stepwise_within, within_stepwise, total_stepwise, difference}
use Rattle.spread.proofs.Parts.{parts_add, used_sign_lem, unused_sign_lem, earlier_first, used_adds}
use Rattle.spread.proofs.Soundness.{table_sound}
use Rattle.spread.proofs.Spending.{left_spend}

pub one_per_step_lem : (ss : List (List Taker)) (ps : List Open) → length (numbers ss ps) ≡ length ss
one_per_step_lem [] ps = refl
one_per_step_lem (s ∷ ss) ps = let l = one_per_step_lem ss (after s (formed s ps) ps) in omega arith

module _ (ss : List (List Taker)) (ps : List Open) (sound : sound_steps ss ≡ true) where
  feasible_stepwise : (xs : List ℕ) → Feasible ss ps xs → Stepwise ss xs ps
  feasible_stepwise xs f = within_stepwise ss xs ps f.one_per_step f.within

  stepwise_feasible : (xs : List ℕ) → length xs ≡ length ss → Stepwise ss xs ps → Feasible ss ps xs
  stepwise_feasible xs l w = record { one_per_step = l; within = λ m t j. stepwise_within m t ss xs ps j sound w }

  enough : (xs : List ℕ) → Feasible ss ps xs → (m : Market) (t : ℕ) → total_use m t ss xs ≤ pool m t ps
  enough xs f m t = stepwise_total m t ss xs ps sound (feasible_stepwise xs f)

  ours : Feasible ss ps (numbers ss ps)
  ours = stepwise_feasible (numbers ss ps) (one_per_step_lem ss ps) (ours_stepwise ss ps sound)

  -- the first of whichever lists are those that go step by step
  module _ (one : List ℕ → Type 0) (here : one (numbers ss ps)) (long : (xs : List ℕ) → one xs → length xs ≡ length ss)
      (stepwise : (xs : List ℕ) → one xs → Stepwise ss xs ps) where
    larger : (ys : List ℕ) (k : ℕ) → one ys → FirstDifference (numbers ss ps) ys k → get_or ys k 0 < get_or (numbers ss ps) k 0
    larger ys k f d = ours_larger ss ps ys k sound (stepwise ys f) d

    first_among : FirstAmong one (numbers ss ps)
    first_among = record { is_one = here; larger = larger; only = only }
      where
        only : (xs : List ℕ) → one xs
            → ((ys : List ℕ) (k : ℕ) → one ys → FirstDifference xs ys k → get_or ys k 0 < get_or xs k 0) → xs ≡ numbers ss ps
        only xs f best = ⊎_elim (λ e. e) (λ d. absurd (clash d.0 d.1)) (difference xs (numbers ss ps) (long xs f ∙ sym (one_per_step_lem ss ps)))
          where
            clash : (k : ℕ) → FirstDifference xs (numbers ss ps) k → ⊥
            clash k d =
                let a = best (numbers ss ps) k here d in
                let b = larger xs k f (record { before = λ j h. sym (d.before j h); here = λ e. d.here (sym e) }) in
                omega arith

  first_words_lem : whole_steps ss ≡ true → FirstWords ss ps
  first_words_lem whole =
      record {
        there = there;
        back = λ xs f. stepwise_feasible xs f.one_per_step (total_stepwise ss xs ps whole f.one_per_step f.within);
        first =
            first_among (TotalWithin ss ps) (there (numbers ss ps) ours) (λ xs f. f.one_per_step)
            (λ xs f. total_stepwise ss xs ps whole f.one_per_step f.within);
      }
    where
      there : (xs : List ℕ) → Feasible ss ps xs → TotalWithin ss ps xs
      there xs f = record { one_per_step = f.one_per_step; within = enough xs f }

  wanted : Market → ℕ → ℕ
  wanted m t = total_use m t ss (numbers ss ps)

  pub demand3 : Demand3 ss ps
  unfolding wanted
  demand3 =
      record {
        first = first_among (Feasible ss ps) ours (λ xs f. f.one_per_step) feasible_stepwise;
        first_words = first_words_lem;
        enough = enough;
        adds = λ k. rw (left_spend ss ps) (parts_add wanted ps k);
        used_sign = λ k. rw (left_spend ss ps) (used_sign_lem wanted ps k);
        unused_sign = λ k. rw (left_spend ss ps) (unused_sign_lem wanted ps k);
        earlier = λ m i j l e. rw (left_spend ss ps) (earlier_first wanted ps m i j l e);
        sums = λ m t. rw (left_spend ss ps) (used_adds wanted m t ps (enough (numbers ss ps) ours m t));
      }

-- "For each accepted account and each spread table"
pub demand3_accepted : (p : Prompts) (t : Table) → sound p t ≡ true → Demand3 (steps_of t) (open_of p)
demand3_accepted p t e = demand3 (steps_of t) (open_of p) (table_sound p t e)
