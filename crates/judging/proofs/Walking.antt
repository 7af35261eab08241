-- A table's steps, one after the other, with what is sent for each: what is still to be judged decides.
-- Assumes nothing.
use Prim.Native.Nat.{ℕ, zero, suc, ◌+◌, ◌-◌, ◌*◌, ◌/◌, ◌%◌, ◌≤◌, ◌<◌}
use native.Mathlib.Nat.{suc-mul}
use native.Mathlib.Numerals.{add-one}
use native.Mathlib.Omega.{arith}
use mathlib.Core.Bool.{Bool, true, false, cond, ◌&&◌}
use mathlib.Core.List.{List, [], ◌∷◌}
use mathlib.Core.Path.{◌≡◌, refl, sym, ap, ap₂, ◌∙◌, subst}
use lib.Dec.{eqb}
use lib.IntN.{ℤ, pos}
use lib.ListN.{length, length-drop, get_or, take, drop, drop_of_length-le}
use lib.Seq.{drop-cons, drop-drop, get_or-take, length-take-le}
use borrow.Author.Tests.{eqb-true}
use Rattle.spread.specs.Accepted.{open_of, table_spreads, steps_of, sound_spread, sound_prompts, sound_table, sound, prompt_places, spread_places}
use Rattle.spread.specs.code.Book.{by_place, delta_entry}
use Rattle.spread.specs.Steps.{step_of, Open, Taker, steps, formed, after}
use Rattle.spread.specs.Uses.{taken_of, sound_for}
use Rattle.spread.specs.code.Step.{Stepped}
use Rattle.spread.specs.declared.Delta.{Delta}
use Rattle.spread.specs.declared.Prompts.{Prompts}
use Rattle.spread.specs.declared.Spread.{Spread}
use Rattle.spread.specs.declared.Table.{Table}
use Rattle.spread.specs.declared.stepwise.Step.{Step}
use Rattle.spread.proofs.Both.{and_left, and_right, and_both}
use Rattle.spread.proofs.Every.{open_length}
use Rattle.spread.proofs.Gathering.{few, few_in_table, sound_in_table}
use Rattle.spread.proofs.Lengths.{steps-length, used_length}
use Rattle.spread.proofs.Filling.{take-deltas}
use Rattle.spread.proofs.Running.{table_length}
use Rattle.spread.specs.code.Lent.{deltas_in}
use Rattle.judging.specs.code.Compared.{is_right, ComparedTo}
use Rattle.judging.specs.Judged.{Told, alike, told_of, verdict_of, judged_from, same_counts, judged_list, judged}
use Rattle.judging.specs.declared.Compared.{Compared}
use Rattle.judging.specs.declared.Verdict.{Verdict}
use Rattle.judging.specs.declared.Verdict.TheVariants.{Right, OtherCounts}
use Rattle.judging.proofs.Comparing.{goes_on}

-- ---- one step

module _ (p : Prompts) (s : Spread) (second : Bool) (st : Step) (is : Stepped p s second st) (e : sound_for p s ≡ true)
    (lt : length p.tier ≡ prompt_places) (ln : length p.net ≡ prompt_places) (step : ℕ) (z : ℤ) (uses : List ℤ) (many : length uses ≡ p.count) where
  few_prompts : p.count ≤ prompt_places
  few_prompts = few p (and_left (sound_prompts p) (sound_spread s) e)

  number_is : st.number.0 ≡ formed (step_of second s) (open_of p)
  number_is = is.number ∙ ap (λ (b : Bool). cond b (formed (step_of second s) (open_of p)) 0) e

  taken_is : take (length uses) (deltas_in st.taken) ≡ taken_of (step_of second s) (open_of p)
  taken_is =
      ap₂ (λ (n : ℕ) (ds : List Delta). take n (deltas_in ds)) many
      (is.taken ∙ ap (λ (b : Bool). by_place prompt_places (delta_entry (cond b (taken_of (step_of second s) (open_of p)) []))) e)
      ∙ take-deltas (taken_of (step_of second s) (open_of p)) p.count prompt_places
      (used_length (step_of second s ∷ []) (open_of p) ∙ open_length p lt ln few_prompts) few_prompts

  pub compared : (v : Verdict) (b : Bool) → b ≡ alike uses (take (length uses) (deltas_in st.taken)) → v ≡ verdict_of step st.number.0 z b Right
      → ComparedTo p s second step z uses (record { verdict = v; left = st.left })
  compared v b eb ev =
      record {
        verdict =
            ev
            ∙ ap₂ (λ (n : ℕ) (u : Bool). verdict_of step n z u Right) number_is (eb ∙ ap (alike uses) taken_is);
        opens = is.leaves ∙ ap (λ (b : Bool). cond b (after (step_of second s) (formed (step_of second s) (open_of p)) (open_of p)) (open_of p)) e;
        sound = is.sound ∙ and_left (sound_prompts p) (sound_spread s) e;
        count = is.count;
      }

-- ---- a table's steps

-- the first step of each spread at its even place, the second at its odd one
pub steps_at : (ss : List Spread) (j : ℕ) (d : Spread) → j < 2 * length ss
    → drop j (steps ss) ≡ step_of (eqb (j % 2) 1) (get_or ss (j / 2) d) ∷ drop (suc j) (steps ss)
steps_at [] j d h = absurd (omega arith)
steps_at (s ∷ ss) zero d h = refl
steps_at (s ∷ ss) (suc zero) d h = refl
steps_at (s ∷ ss) (suc (suc j)) d h =
    let half : suc (suc j) / 2 ≡ suc (j / 2) = omega arith in
    let odd : suc (suc j) % 2 ≡ j % 2 = omega arith in
    steps_at ss j d (omega arith)
    ∙ ap₂ (λ (r q : ℕ). step_of (eqb r 1) (get_or (s ∷ ss) q d) ∷ drop (suc j) (steps ss)) (sym odd) (sym half)

module _ (t : Table) (len : length t.spread ≡ spread_places) (ok : sound_table t ≡ true) where
  spreads_there : length (table_spreads t) ≡ t.count
  spreads_there = table_length t len (few_in_table t ok)

  pub table_steps_lem : length (steps_of t) ≡ 2 * t.count
  table_steps_lem = let a = steps-length (table_spreads t) in let b = spreads_there in omega arith

  table_at : (j : ℕ) (d : Spread) → j < 2 * t.count → drop j (steps_of t) ≡ step_of (eqb (j % 2) 1) (get_or t.spread (j / 2) d) ∷ drop (suc j) (steps_of t)
  table_at j d h =
      steps_at (table_spreads t) j d (omega (arith, spreads_there))
      ∙ ap (λ (s : Spread). step_of (eqb (j % 2) 1) s ∷ drop (suc j) (steps_of t)) (get_or-take t.count t.spread (j / 2) d (omega arith))

-- ---- what is told of a step and of those after it

told_at : (n : ℕ) (xs us : List ℤ) (j at : ℕ) → j < length xs
    → told_of n (drop j xs) (drop at us)
    ≡ record { number = get_or xs j (pos 0); used = take n (drop at us) } ∷ told_of n (drop (suc j) xs) (drop (at + n) us)
told_at n xs us j at h =
    ap (λ (ys : List ℤ). told_of n ys (drop at us)) (drop-cons xs j (pos 0) h)
    ∙ ap (λ (vs : List ℤ). record { number = get_or xs j (pos 0); used = take n (drop at us) } ∷ told_of n (drop (suc j) xs) vs) (drop-drop n at us)

-- ---- all steps: what is still to be judged is the whole

pub record Judging (n : ℕ) (t : Table) (xs us : List ℤ) (all : Verdict) (step at : ℕ) (left : Prompts) : Type 0 where
  pub whole : judged_from step (drop step (steps_of t)) (open_of left) (told_of n (drop step xs) (drop at us)) ≡ all
  pub sound : sound_prompts left ≡ true
  pub count : left.count ≡ n
  pub room : at + (length xs - step) * n ≡ length us
  pub within : step ≤ length xs

module _ (t : Table) (len : length t.spread ≡ spread_places) (ok : sound_table t ≡ true) (n : ℕ) (xs us : List ℤ) (many : length xs ≡ 2 * t.count)
    (all : Verdict)
    (step at : ℕ) (left : Prompts) (is : Judging n t xs us all step at left) where
  module _ (h : step < length xs) where
    pub in_table : step / 2 < t.count
    in_table = omega arith

    room_after : at + n + (length xs - suc step) * n ≡ length us
    room_after =
        let e : length xs - step ≡ suc (length xs - suc step) = omega arith in
        let m = ap (λ (k : ℕ). k * n) e ∙ suc-mul (length xs - suc step) n in
        omega (arith, m, is.room)

    pub room_here : at + n ≤ length us
    room_here = omega (arith, room_after)

    module _ (d : Spread) where
      abbrev s : Spread
      s = get_or t.spread (step / 2) d

      abbrev second : Bool
      second = eqb (step % 2) 1

      pub sound_here : sound_for left s ≡ true
      sound_here = and_both (sound_prompts left) (sound_spread s) is.sound (sound_in_table t len ok (step / 2) d in_table)

      -- the part of the uses that the code lends
      pub part_is : at + n - at ≡ n
      part_is = omega arith

      pub part_long : length (take (at + n - at) (drop at us)) ≡ left.count
      part_long =
          length-take-le (at + n - at) (drop at us) (let l = length-drop at us in let r = room_here in omega arith)
          ∙ part_is ∙ sym is.count

      module _ (r : Compared) (lent : ComparedTo left s second step (get_or xs step (pos 0)) (take (at + n - at) (drop at us)) r) where
        c : ComparedTo left s second step (get_or xs step (pos 0)) (take n (drop at us)) r
        c = subst (λ (k : ℕ). ComparedTo left s second step (get_or xs step (pos 0)) (take k (drop at us)) r) part_is lent

        rest : List Open → Verdict
        rest ps = judged_from (suc step) (drop (suc step) (steps_of t)) ps (told_of n (drop (suc step) xs) (drop (at + n) us))

        decided : all ≡ cond (is_right r.verdict) (rest (open_of r.left)) r.verdict
        unfolding rest
        decided =
            sym is.whole
            ∙ ap (λ (ss : List (List Taker)). judged_from step ss (open_of left) (told_of n (drop step xs) (drop at us))) (table_at t len ok step d (omega arith))
            ∙ ap (λ (ts : List Told). judged_from step (step_of second s ∷ drop (suc step) (steps_of t)) (open_of left) ts) (told_at n xs us step at h)
            ∙ goes_on step (formed (step_of second s) (open_of left)) (get_or xs step (pos 0))
            (alike (take n (drop at us)) (taken_of (step_of second s) (open_of left)))
            (rest (after (step_of second s) (formed (step_of second s) (open_of left)) (open_of left)))
            ∙ ap₂ (λ (v : Verdict) (ps : List Open). cond (is_right v) (rest ps) v) (sym c.verdict) (sym c.opens)

        pub stops : is_right r.verdict ≡ false → r.verdict ≡ all
        stops e = sym (decided ∙ ap (λ (b : Bool). cond b (rest (open_of r.left)) r.verdict) e)

        pub goes : is_right r.verdict ≡ true → Judging n t xs us all (step + 1) (at + n) r.left
        unfolding rest
        goes e =
            record {
              whole =
                  ap (λ (k : ℕ). judged_from k (drop k (steps_of t)) (open_of r.left) (told_of n (drop k xs) (drop (at + n) us))) (add-one step)
                  ∙ sym (decided ∙ ap (λ (b : Bool). cond b (rest (open_of r.left)) r.verdict) e);
              sound = c.sound;
              count = c.count ∙ is.count;
              room = ap (λ (k : ℕ). at + n + (length xs - k) * n) (add-one step) ∙ room_after;
              within = omega arith;
            }

  pub ends : length xs ≤ step → Right ≡ all
  ends h =
      ap₂ (λ (ss : List (List Taker)) (ys : List ℤ). judged_from step ss (open_of left) (told_of n ys (drop at us)))
      (sym (drop_of_length-le (steps_of t) {i = step} (omega (arith, table_steps_lem t len ok)))) (sym (drop_of_length-le xs {i = step} h))
      ∙ is.whole

-- nothing is judged yet
pub begins : (p : Prompts) (t : Table) (xs us : List ℤ) → sound p t ≡ true → length us ≡ length xs * p.count
    → Judging p.count t xs us (judged_from 0 (steps_of t) (open_of p) (told_of p.count xs us)) 0 0 p
begins p t xs us ok many =
    record {
      whole = refl;
      sound = and_left (sound_prompts p) (sound_table t) ok;
      count = refl;
      room = let e : length xs - 0 ≡ length xs = omega arith in ap (λ (k : ℕ). 0 + k * p.count) e
          ∙ (let z : 0 + length xs * p.count ≡ length xs * p.count = omega arith in z) ∙ sym many;
      within = omega arith;
    }

-- ---- the counts

module _ (p : Prompts) (t : Table) (sent : ℕ) (xs us : List ℤ) where
  pub not_accepted : sound p t ≡ false → OtherCounts ≡ judged p t sent xs us
  not_accepted e = sym (ap (λ (b : Bool). cond b (judged_list (steps_of t) (open_of p) sent xs us) OtherCounts) e)

  module _ (ok : sound p t ≡ true) (lt : length p.tier ≡ prompt_places) (ln : length p.net ≡ prompt_places) (len : length t.spread ≡ spread_places) where
    pub few_of_each : (t.count ≤ spread_places) × (p.count ≤ prompt_places)
    few_of_each = (few_in_table t (and_right (sound_prompts p) (sound_table t) ok), few p (and_left (sound_prompts p) (sound_table t) ok))

    -- the counts as the code has them
    abbrev tested : Bool
    tested = eqb (length xs) (2 * t.count) && (eqb sent p.count && eqb (length us) (2 * t.count * p.count))

    by_counts_lem : judged p t sent xs us ≡ cond tested (judged_from 0 (steps_of t) (open_of p) (told_of sent xs us)) OtherCounts
    by_counts_lem =
        ap (λ (b : Bool). cond b (judged_list (steps_of t) (open_of p) sent xs us) OtherCounts) ok
        ∙ ap₂ (λ (s n : ℕ). cond (same_counts s n sent (length xs) (length us)) (judged_from 0 (steps_of t) (open_of p) (told_of sent xs us)) OtherCounts)
        (table_steps_lem t len (and_right (sound_prompts p) (sound_table t) ok)) (open_length p lt ln few_of_each.1)

    pub counts_differ : tested ≡ false → OtherCounts ≡ judged p t sent xs us
    counts_differ e = sym (by_counts_lem ∙ ap (λ (b : Bool). cond b (judged_from 0 (steps_of t) (open_of p) (told_of sent xs us)) OtherCounts) e)

    module _ (e : tested ≡ true) where
      pub steps_are : length xs ≡ 2 * t.count
      steps_are = eqb-true (length xs) (2 * t.count)
          (and_left (eqb (length xs) (2 * t.count)) (eqb sent p.count && eqb (length us) (2 * t.count * p.count)) e)

      others : eqb sent p.count && eqb (length us) (2 * t.count * p.count) ≡ true
      others = and_right (eqb (length xs) (2 * t.count)) (eqb sent p.count && eqb (length us) (2 * t.count * p.count)) e

      pub uses_are : length us ≡ 2 * t.count * p.count
      uses_are = eqb-true (length us) (2 * t.count * p.count) (and_right (eqb sent p.count) (eqb (length us) (2 * t.count * p.count)) others)

      pub counts_same : judged_from 0 (steps_of t) (open_of p) (told_of p.count xs us) ≡ judged p t sent xs us
      counts_same =
          ap (λ (n : ℕ). judged_from 0 (steps_of t) (open_of p) (told_of n xs us))
          (sym (eqb-true sent p.count (and_left (eqb sent p.count) (eqb (length us) (2 * t.count * p.count)) others)))
          ∙ sym (by_counts_lem ∙ ap (λ (b : Bool). cond b (judged_from 0 (steps_of t) (open_of p) (told_of sent xs us)) OtherCounts) e)
