-- A step by itself: pools, a take and one spend give its number, what it takes of each prompt and what it leaves; and the
-- prompts that it leaves can be stepped over again.
-- Assumes nothing.
use Prim.Native.Nat.{ℕ, zero, suc, ◌+◌, ◌-◌, ◌≤◌, ◌<◌}
use native.Mathlib.Omega.{arith}
use mathlib.Core.Bool.{Bool, true, false, cond}
use mathlib.Core.List.{List, [], ◌∷◌, map}
use mathlib.Core.Path.{◌≡◌, refl, sym, ◌∙◌, ap, ap₂}
use lib.Dec.{eqb, leb, ltb}
use lib.IntN.{ℤ, neg_ℤ, nat_abs, ◌+ℤ◌, ◌-ℤ◌, +ℤ_assoc, +ℤ_invr, -ℤ-+ℤ_cancel}
use lib.ListN.{length, length-map, get_or, take, drop}
use borrow.Author.Tests.{leb-true, le-leb}
use native.Mathlib.Nat.{add-zero}
use Rattle.exact.specs.Lists.{sum_ℤ}
use Rattle.exact.proofs.Integers.{abs_towards_zero}
use Rattle.spread.specs.Accepted.{most_delta, every, opens_from, open_of, sound_prompt, sound_prompts, sound_spread, tier_count, prompt_places}
use Rattle.spread.specs.code.Book.{by_place, delta_entry, gone_of, Spent}
use Rattle.spread.specs.Steps.{step_of, Market, Open, Taker, on_side, in_tier, towards_zero, less, formed, after, numbers, left, minus, used_of, unused_of}
use Rattle.spread.specs.code.Cells.{Pooled, Taken}
use Rattle.spread.specs.Demand.{delta_at, added_up, step_use, sound_step, sound_steps}
use Rattle.spread.specs.Spend.{market_of, spend, deltas}
use Rattle.spread.specs.Uses.{taken_of, takings, WhoPaid, sound_for}
use Rattle.spread.specs.code.Step.{Stepped, NotTaken}
use Rattle.spread.specs.declared.Delta.{Delta}
use Rattle.spread.specs.declared.Prompts.{Prompts}
use Rattle.spread.specs.declared.Spread.{Spread}
use Rattle.spread.specs.declared.Spreads.{Spreads}
use Rattle.spread.specs.declared.stepwise.Step.{Step}
use Rattle.spread.proofs.Booking.{all_none, spend_left}
use Rattle.spread.proofs.Both.{and_left, and_right, and_both}
use Rattle.spread.proofs.Demand3.{demand3}
use Rattle.spread.proofs.Every.{open_length}
use Rattle.spread.proofs.Gathering.{no_delta}
use Rattle.spread.proofs.Pooling.{pooled_numbers, pooled_left}
use Rattle.spread.proofs.Soundness.{spread_sound}
use Rattle.spread.proofs.Spending.{after-spend}

-- what is refused
pub stepped_refused : (p : Prompts) (s : Spread) (second : Bool) (r : Step) → sound_for p s ≡ false → NotTaken p r → Stepped p s second r
stepped_refused p s second r e h =
    record {
      accepted = h.accepted ∙ sym e;
      number = h.number ∙ sym (ap (λ (b : Bool). cond b (formed (step_of second s) (open_of p)) 0) e);
      taken = h.taken ∙ all_none prompt_places no_delta (delta_entry (cond (sound_for p s) (taken_of (step_of second s) (open_of p)) []))
          (λ k. ap (λ (b : Bool). delta_entry (cond b (taken_of (step_of second s) (open_of p)) []) k) e);
      count = ap (λ (q : Prompts). q.count) h.left;
      tiers = ap (λ (q : Prompts). q.tier) h.left;
      nets = ap (λ (q : Prompts). q.net) h.left
          ∙ sym (ap (λ (b : Bool). cond b (by_place prompt_places (delta_entry (unused_of (step_of second s ∷ []) (open_of p)))) p.net) e);
      leaves = ap open_of h.left ∙ sym (ap (λ (b : Bool). cond b (after (step_of second s) (formed (step_of second s) (open_of p)) (open_of p)) (open_of p)) e);
      sound = ap sound_prompts h.left;
    }

-- two steps that the promise allows are the same
pub stepped_one : (p : Prompts) (s : Spread) (second : Bool) (r q : Step) → Stepped p s second r → Stepped p s second q → r ≡ q
stepped_one p s second r q a b =
    λ i.
    record {
      accepted = (a.accepted ∙ sym b.accepted) i;
      number = record { 0 = (a.number ∙ sym b.number) i };
      taken = (a.taken ∙ sym b.taken) i;
      left =
          record {
            count = (a.count ∙ sym b.count) i;
            tier = (a.tiers ∙ sym b.tiers) i;
            net = (a.nets ∙ sym b.nets) i;
          };
    }

-- ---- the prompts that a step leaves

tiers : List Open → List ℕ
tiers ps = map (λ p. p.tier) ps

spend_tiers : (w : Market → ℕ → ℕ) (ps : List Open) → tiers (spend w ps) ≡ tiers ps
unfolding tiers
spend_tiers w [] = refl
spend_tiers w (p ∷ ps) = ap (λ (ts : List ℕ). p.tier ∷ ts) (spend_tiers (λ m t. w m t - in_tier m t p) ps)

after_tiers : (s : List Taker) (n : ℕ) (ps : List Open) → tiers (after s n ps) ≡ tiers ps
after_tiers s n ps = ap tiers (after-spend s n ps) ∙ spend_tiers (λ m t. step_use m t s n) ps

spend-length : (w : Market → ℕ → ℕ) (ps : List Open) → length (spend w ps) ≡ length ps
spend-length w [] = refl
spend-length w (p ∷ ps) = ap suc (spend-length (λ m t. w m t - in_tier m t p) ps)

pub after-length : (s : List Taker) (n : ℕ) (ps : List Open) → length (after s n ps) ≡ length ps
after-length s n ps = ap length (after-spend s n ps) ∙ spend-length (λ m t. step_use m t s n) ps

opens_tiers : (n : ℕ) (ts : List ℕ) (ds : List Delta) → n ≤ length ts → n ≤ length ds → tiers (take n (opens_from ts ds)) ≡ take n ts
unfolding tiers
opens_tiers zero ts ds h g = refl
opens_tiers (suc n) [] ds h g = absurd (omega arith)
opens_tiers (suc n) (t ∷ ts) [] h g = absurd (omega arith)
opens_tiers (suc n) (t ∷ ts) (d ∷ ds) h g = ap (λ (us : List ℕ). t ∷ us) (opens_tiers n ts ds (omega arith) (omega arith))

-- prompts made again of their tiers and deltas
again : (m : ℕ) (qs : List Open) (ts : List ℕ) → tiers qs ≡ take (length qs) ts → length qs ≤ m
    → take (length qs) (opens_from ts (by_place m (delta_entry (deltas qs)))) ≡ qs
unfolding tiers by_place
again m [] ts e h = refl
again m (q ∷ qs) [] e h = absurd (let l : suc (length (tiers qs)) ≡ 0 = ap length e in omega arith)
again zero (q ∷ qs) (t ∷ ts) e h = absurd (omega arith)
again (suc m) (q ∷ qs) (t ∷ ts) e h =
    ap₂ (λ (u : ℕ) (ps : List Open). record { tier = u; unused = q.unused } ∷ ps)
    (sym (ap (λ (l : List ℕ). get_or l 0 0) e))
    (again m qs ts (ap (drop 1) e) (omega arith))

module _ (p : Prompts) (s : Spread) (second : Bool) (e : sound_for p s ≡ true) (lt : length p.tier ≡ prompt_places) (ln : length p.net ≡ prompt_places) where
  few_prompts : p.count ≤ prompt_places
  few_prompts = leb-true p.count prompt_places (and_left (leb p.count prompt_places) (every sound_prompt (open_of p))
      (and_left (sound_prompts p) (sound_spread s) e))

  rest : List Open
  rest = after (step_of second s) (formed (step_of second s) (open_of p)) (open_of p)

  leaves_rest : take p.count (opens_from p.tier (by_place prompt_places (delta_entry (deltas rest)))) ≡ rest
  unfolding rest
  leaves_rest =
      ap (λ (n : ℕ). take n (opens_from p.tier (by_place prompt_places (delta_entry (deltas rest))))) (sym long)
      ∙ again prompt_places rest p.tier same (omega (arith, long, few_prompts))
    where
      long : length rest ≡ p.count
      long = after-length (step_of second s) (formed (step_of second s) (open_of p)) (open_of p) ∙ open_length p lt ln few_prompts

      same : tiers rest ≡ take (length rest) p.tier
      same =
          after_tiers (step_of second s) (formed (step_of second s) (open_of p)) (open_of p)
          ∙ opens_tiers p.count p.tier p.net (omega (arith, lt, few_prompts)) (omega (arith, ln, few_prompts))
          ∙ ap (λ (n : ℕ). take n p.tier) (sym long)

  less-sound : (q : Open) (a : ℕ) → sound_prompt q ≡ true → sound_prompt (less q a) ≡ true
  less-sound q a h =
      and_both (ltb q.tier tier_count) (leb (nat_abs (towards_zero q.unused a)) most_delta)
      (and_left (ltb q.tier tier_count) (leb (nat_abs q.unused) most_delta) h)
      (le-leb (nat_abs (towards_zero q.unused a)) most_delta
      (let m = leb-true (nat_abs q.unused) most_delta (and_right (ltb q.tier tier_count) (leb (nat_abs q.unused) most_delta) h) in
      let n = abs_towards_zero q.unused a in omega arith))

  spend-sound : (w : Market → ℕ → ℕ) (qs : List Open) → every sound_prompt qs ≡ true → every sound_prompt (spend w qs) ≡ true
  spend-sound w [] h = refl
  spend-sound w (q ∷ qs) h =
      and_both (sound_prompt (less q (w (market_of q.unused) q.tier))) (every sound_prompt (spend (λ m t. w m t - in_tier m t q) qs))
      (less-sound q (w (market_of q.unused) q.tier) (and_left (sound_prompt q) (every sound_prompt qs) h))
      (spend-sound (λ m t. w m t - in_tier m t q) qs (and_right (sound_prompt q) (every sound_prompt qs) h))

  rest_sound : every sound_prompt rest ≡ true
  unfolding rest
  rest_sound =
      ap (every sound_prompt) (after-spend (step_of second s) (formed (step_of second s) (open_of p)) (open_of p))
      ∙ spend-sound (λ m t. step_use m t (step_of second s) (formed (step_of second s) (open_of p))) (open_of p)
      (and_right (leb p.count prompt_places) (every sound_prompt (open_of p)) (and_left (sound_prompts p) (sound_spread s) e))

  left_prompts : List Delta → Prompts
  left_prompts ds = record { count = p.count; tier = p.tier; net = ds }

  left_opens : (ds : List Delta) → ds ≡ by_place prompt_places (delta_entry (deltas rest)) → open_of (left_prompts ds) ≡ rest
  unfolding left_prompts
  left_opens ds h = ap (λ (xs : List Delta). take p.count (opens_from p.tier xs)) h ∙ leaves_rest

  left_sound : (ds : List Delta) → ds ≡ by_place prompt_places (delta_entry (deltas rest)) → sound_prompts (left_prompts ds) ≡ true
  unfolding left_prompts
  left_sound ds h =
      and_both (leb p.count prompt_places) (every sound_prompt (open_of (left_prompts ds))) (le-leb p.count prompt_places few_prompts)
      (ap (every sound_prompt) (left_opens ds h) ∙ rest_sound)

  -- what is accepted
  pub stepped_accepted : (cells l : List ℕ) (number : Spreads) (used unused : List Delta)
      → Pooled cells (open_of p) → Taken (step_of second s) cells l number.0 → Spent cells l (open_of p) used unused
      → Stepped p s second (record { accepted = true; number = number; taken = used; left = record { count = p.count; tier = p.tier; net = unused } })
  unfolding rest left_prompts
  stepped_accepted cells l number used unused pools taken spent =
      record {
        accepted = sym e;
        number = taken.formed ∙ ap first_of_lem (pooled_numbers one cells (open_of p) pools)
            ∙ sym (ap (λ (b : Bool). cond b (formed (step_of second s) (open_of p)) 0) e);
        taken =
            spent.useds
            ∙ ap (λ (ps : List Open). by_place prompt_places (delta_entry (minus (deltas (open_of p)) (deltas ps)))) paid
            ∙ ap (λ (b : Bool). by_place prompt_places (delta_entry (cond b (taken_of (step_of second s) (open_of p)) []))) (sym e);
        count = refl;
        tiers = refl;
        leaves = left_opens unused left_nets ∙ sym (ap (λ (b : Bool). cond b rest (open_of p)) e);
        sound = left_sound unused left_nets ∙ sym (and_left (sound_prompts p) (sound_spread s) e);
        nets =
            left_nets
            ∙ ap (λ (b : Bool). cond b (by_place prompt_places (delta_entry (unused_of one (open_of p)))) p.net) (sym e);
      }
    where
      one : List (List Taker)
      one = step_of second s ∷ []

      first_of_lem : List ℕ → ℕ
      first_of_lem [] = 0
      first_of_lem (n ∷ ns) = n

      runs : sound_steps one ≡ true
      runs = and_both (sound_step (step_of second s)) true (spread_sound second s (and_right (sound_prompts p) (sound_spread s) e)) refl

      after_step : Pooled l (left one (open_of p))
      after_step = rw taken.leaves (pooled_left one cells (open_of p) pools)

      paid : spend (gone_of cells l) (open_of p) ≡ left one (open_of p)
      paid = spend_left one (open_of p) runs cells l pools after_step

      left_nets : unused ≡ by_place prompt_places (delta_entry (deltas rest))
      left_nets = spent.unuseds ∙ ap (λ (ps : List Open). by_place prompt_places (delta_entry (deltas ps))) paid

-- ---- who paid

-- x - z is x - y and y - z
between : (x y z : ℤ) → (x -ℤ y) +ℤ (y -ℤ z) ≡ x -ℤ z
between x y z =
    sym (+ℤ_assoc (x -ℤ y) y (neg_ℤ z)) ∙ ap (λ (u : ℤ). u -ℤ z) (-ℤ-+ℤ_cancel x y)

minus_at : (xs ys : List ℤ) (k : ℕ) → length xs ≡ length ys → delta_at (minus xs ys) k ≡ delta_at xs k -ℤ delta_at ys k
minus_at [] [] k e = refl
minus_at [] (y ∷ ys) k e = absurd (omega arith)
minus_at (x ∷ xs) [] k e = absurd (omega arith)
minus_at (x ∷ xs) (y ∷ ys) zero e = refl
minus_at (x ∷ xs) (y ∷ ys) (suc k) e = minus_at xs ys k (omega arith)

pub left_length : (ss : List (List Taker)) (ps : List Open) → length (left ss ps) ≡ length ps
left_length [] ps = refl
left_length (s ∷ ss) ps = left_length ss (after s (formed s ps) ps) ∙ after-length s (formed s ps) ps

used_at_lem : (ss : List (List Taker)) (ps : List Open) (k : ℕ) → delta_at (used_of ss ps) k ≡ delta_at (deltas ps) k -ℤ delta_at (deltas (left ss ps)) k
used_at_lem ss ps k = minus_at (deltas ps) (deltas (left ss ps)) k (length-map ps _ ∙ sym (left_length ss ps) ∙ sym (length-map (left ss ps) _))

adds : (ss : List (List Taker)) (ps : List Open) (k : ℕ) → sum_ℤ (map (λ zs. delta_at zs k) (takings ss ps)) ≡ delta_at (used_of ss ps) k
adds [] ps k = sym (used_at_lem [] ps k ∙ +ℤ_invr (delta_at (deltas ps) k))
adds (s ∷ ss) ps k =
    ap₂ ◌+ℤ◌ (used_at_lem (s ∷ []) ps k) (adds ss (after s (formed s ps) ps) k ∙ used_at_lem ss (after s (formed s ps) ps) k)
    ∙ between (delta_at (deltas ps) k) (delta_at (deltas (after s (formed s ps) ps)) k) (delta_at (deltas (left ss (after s (formed s ps) ps))) k)
    ∙ sym (used_at_lem (s ∷ ss) ps k)

-- what is added up goes by the prompts' tiers alone
tiers_alone : (m : Market) (t : ℕ) (ps qs : List Open) (zs : List ℤ) → tiers ps ≡ tiers qs → added_up m t ps zs ≡ added_up m t qs zs
unfolding tiers
tiers_alone m t [] [] zs e = refl
tiers_alone m t [] (q ∷ qs) zs e = absurd (let l : 0 ≡ suc (length (tiers qs)) = ap length e in omega arith)
tiers_alone m t (p ∷ ps) [] zs e = absurd (let l : suc (length (tiers ps)) ≡ 0 = ap length e in omega arith)
tiers_alone m t (p ∷ ps) (q ∷ qs) [] e = refl
tiers_alone m t (p ∷ ps) (q ∷ qs) (z ∷ zs) e =
    ap₂ (λ (u n : ℕ). cond (eqb u t) (on_side m z) 0 + n) (ap (λ (l : List ℕ). get_or l 0 0) e) (tiers_alone m t ps qs zs (ap (drop 1) e))

sums : (m : Market) (t : ℕ) (ss : List (List Taker)) (ps : List Open) (j : ℕ) → sound_steps ss ≡ true → j < length ss
    → added_up m t ps (get_or (takings ss ps) j []) ≡ step_use m t (get_or ss j []) (get_or (numbers ss ps) j 0)
sums m t [] ps j e h = absurd (omega arith)
sums m t (s ∷ ss) ps zero e h =
    (demand3 (s ∷ []) ps (and_both (sound_step s) true (and_left (sound_step s) (sound_steps ss) e) refl)).sums m t ∙ add-zero (step_use m t s (formed s ps))
sums m t (s ∷ ss) ps (suc j) e h =
    tiers_alone m t ps (after s (formed s ps) ps) (get_or (takings ss (after s (formed s ps) ps)) j []) (sym (after_tiers s (formed s ps) ps))
    ∙ sums m t ss (after s (formed s ps) ps) j (and_right (sound_step s) (sound_steps ss) e) (omega arith)

pub who_paid : (ss : List (List Taker)) (ps : List Open) → sound_steps ss ≡ true → WhoPaid ss ps
who_paid ss ps e = record { adds = adds ss ps; sums = λ m t j. sums m t ss ps j e }
