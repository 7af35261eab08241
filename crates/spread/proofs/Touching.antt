-- The takes of a step are the prompts that it moves, since no two legs draw on one pool; and they are bounded: a leg leaves behind it
-- at most one prompt partly used, so that each of its takes but one uses a prompt up, and a prompt is used up once.
-- Assumes nothing.
use Prim.Native.Nat.{ℕ, zero, suc, ◌+◌, ◌-◌, ◌*◌, ◌≤◌, min}
use native.Mathlib.Nat.{add-zero, zero-add, zero-sub, sub-zero}
use native.Mathlib.Omega.{arith}
use mathlib.Core.Bool.{Bool, true, false, cond, ◌&&◌, ◌||◌}
use mathlib.Core.List.{List, [], ◌∷◌, map}
use mathlib.Core.Logic.{◌⊎◌, inl, inr}
use mathlib.Core.Path.{◌≡◌, refl, sym, ◌∙◌, ap, ap₂, fun_ext}
use lib.Dec.{eqb, leb, ltb}
use lib.IntN.{ℤ, pos, negsuc, neg_ℤ, nat_abs, ◌-ℤ◌}
use lib.ListN.{length, length-map, take}
use borrow.Author.Tests.{eqb-true, leb-true, leb-false, lt-ltb}
use Rattle.exact.proofs.Integers.{abs_sign, abs_towards_zero, taken_sign, towards_zero-none}
use Rattle.exact.proofs.Lists.{count_append, count_le}
use Rattle.exact.specs.Lists.{one_if, count, sum}
use Rattle.spread.specs.Accepted.{open_of, table_spreads, steps_of, every, sound_legs_of, sound_spread, sound_prompts, sound_table, sound, prompt_places}
use Rattle.spread.specs.Accepted.{spread_places}
use Rattle.spread.specs.Demand.{draws, same_market, leg_use, step_use, sound_legs, sound_step, sound_steps}
use Rattle.spread.specs.Spend.{market_of, spend, deltas, used_by}
use Rattle.spread.specs.Steps.{Market, long, short, Open, Taker, on_side, in_tier, towards_zero, less, gives, leg_takes, take_from, formed, after, left, minus}
use Rattle.spread.specs.Steps.{taker, first_market, second_market, steps, legs_in}
use Rattle.spread.specs.Touches.{leg_touches, step_touches, touches, touches_of, both_steps, most_touches, moved, Touched}
use Rattle.spread.specs.code.Book.{CountedBook}
use Rattle.spread.specs.Uses.{taken_of, uses_of}
use Rattle.spread.specs.declared.Leg.{Leg}
use Rattle.spread.specs.declared.Prompts.{Prompts}
use Rattle.spread.specs.declared.Spread.{Spread}
use Rattle.spread.specs.declared.Table.{Table}
use Rattle.spread.specs.declared.touches.Counted.{Counted}
use Rattle.spread.proofs.Best.{alone, others, none_drawn, sound_legs_lem}
use Rattle.spread.proofs.Booking.{booked_one}
use Rattle.spread.proofs.Both.{and_left, and_right}
use Rattle.spread.proofs.Every.{open_length}
use Rattle.spread.proofs.Gathering.{own, in_own-pool, few}
use Rattle.spread.proofs.Soundness.{steps-sound}
use Rattle.spread.proofs.Spending.{draws_market, draws-tier, tier-less, take-spend, after-spend}

-- whether a number is above 0, as a number
pub above : (n : ℕ) → one_if (ltb 0 n) ≡ min 1 n
above zero = refl
above (suc n) = ap one_if (lt-ltb 0 (suc n) (omega arith)) ∙ omega arith

-- ---- the bound

-- the prompts that still have something unused
live : List Open → ℕ
live ps = count (λ p. moved p.unused) ps

-- a pool has all of a prompt, or nothing
all_or_nothing : (m : Market) (t : ℕ) (p : Open) → (in_tier m t p ≡ 0) ⊎ (in_tier m t p ≡ nat_abs p.unused)
all_or_nothing m t p = go (draws m t (own p)) (in_own-pool m t p)
  where
    go : (b : Bool) → in_tier m t p ≡ cond b (nat_abs p.unused) 0 → (in_tier m t p ≡ 0) ⊎ (in_tier m t p ≡ nat_abs p.unused)
    go true e = inr e
    go false e = inl e

-- a take, and what is open before and after it: a prompt that is not used up leaves the leg wanting nothing
one_take : (w i n : ℕ) → (i ≡ 0) ⊎ (i ≡ n) → min 1 (min w i) + min 1 (n - min w i) + min 1 (w - min w i) ≤ min 1 n + min 1 w
one_take w i n (inl e) =
    let z : min w i ≡ 0 = omega arith in
    untouched (ap (min 1) z) (ap (λ (g : ℕ). min 1 (n - g)) z ∙ ap (min 1) (sub-zero n)) (ap (λ (g : ℕ). min 1 (w - g)) z ∙ ap (min 1) (sub-zero w))
  where
    untouched : {a b c : ℕ} → a ≡ 0 → b ≡ min 1 n → c ≡ min 1 w → a + b + c ≤ min 1 n + min 1 w
    untouched x y z = omega arith
one_take w i n (inr e) = go (leb w i) refl
  where
    fewer : (a b : ℕ) → min 1 (a - b) ≤ min 1 a
    fewer a b = omega arith

    used_up : {a b c : ℕ} → a ≡ min 1 n → b ≡ 0 → c ≤ min 1 w → a + b + c ≤ min 1 n + min 1 w
    used_up x y z = omega arith

    last : {a b c : ℕ} → a ≡ min 1 w → b ≤ min 1 n → c ≡ 0 → a + b + c ≤ min 1 n + min 1 w
    last x y z = omega arith

    self : (a : ℕ) → min 1 (a - a) ≡ 0
    self a = omega arith

    go : (b : Bool) → leb w i ≡ b → min 1 (min w i) + min 1 (n - min w i) + min 1 (w - min w i) ≤ min 1 n + min 1 w
    go true f =
        let l = leb-true w i f in
        let g : min w i ≡ w = omega (arith, l) in
        last (ap (min 1) g) (fewer n (min w i)) (ap (λ (k : ℕ). min 1 (w - k)) g ∙ self w)
    go false f =
        let l = leb-false w i f in
        let g : min w i ≡ n = omega (arith, l, e) in
        used_up (ap (min 1) g) (ap (λ (k : ℕ). min 1 (n - k)) g ∙ self n) (fewer w (min w i))

leg_bound : (k : Taker) (w : ℕ) (ps : List Open) → leg_touches k w ps + live (take_from k w ps) ≤ live ps + min 1 w
unfolding live
leg_bound k w [] = omega arith
leg_bound k w (p ∷ ps) =
    let g = gives k w p in
    let n = nat_abs p.unused in
    with_others (one_if (ltb 0 g)) (leg_touches k (w - g) ps) (one_if (moved (towards_zero p.unused g))) (live (take_from k (w - g) ps))
    (one_if (moved p.unused)) (live ps) (min 1 (w - g)) (min 1 w)
    (numbers (min 1 (w - g)) (min 1 w) (above g) (above (nat_abs (towards_zero p.unused g)) ∙ ap (min 1) (abs_towards_zero p.unused g)) (above n)
    (one_take w (in_tier k.market k.tier p) n (all_or_nothing k.market k.tier p)))
    (leg_bound k (w - g) ps)
  where
    numbers : (v w : ℕ) {a a' b b' n n' : ℕ} → a ≡ a' → b ≡ b' → n ≡ n' → a' + b' + v ≤ n' + w → a + b + v ≤ n + w
    numbers v w x y z h = omega arith

    with_others : (a t b l n o v w : ℕ) → a + b + v ≤ n + w → t + l ≤ o + v → a + t + (b + l) ≤ n + o + w
    with_others a t b l n o v w h g = omega arith

step_bound : (ks : List Taker) (n : ℕ) (ps : List Open) → step_touches ks n ps + live (after ks n ps) ≤ live ps + length ks
step_bound [] n ps = omega arith
step_bound (k ∷ ks) n ps =
    let a = leg_bound k (leg_takes n k) ps in
    let b = step_bound ks n (take_from k (leg_takes n k) ps) in
    omega arith

all_legs : List (List Taker) → ℕ
all_legs ss = sum (map length ss)

touches_bound : (ss : List (List Taker)) (ps : List Open) → touches ss ps + live (left ss ps) ≤ live ps + all_legs ss
unfolding all_legs
touches_bound [] ps = omega arith
touches_bound (s ∷ ss) ps =
    let a = step_bound s (formed s ps) ps in
    let b = touches_bound ss (after s (formed s ps) ps) in
    omega arith

at_most : (n : ℕ) (l : List Leg) → length (take n l) ≤ n
at_most zero l = omega arith
at_most (suc n) [] = omega arith
at_most (suc n) (x ∷ l) = let r = at_most n l in omega arith

legs_both : (ss : List Spread) → all_legs (steps ss) ≤ both_steps ss
unfolding all_legs
legs_both [] = omega arith
legs_both (s ∷ ss) =
    let rest = legs_both ss in
    let one = at_most s.legs s.leg in
    let first = length-map (legs_in s) (taker s.tenths first_market) in
    let second = length-map (legs_in s) (taker s.tenths second_market) in
    omega arith

-- ---- the prompts moved

-- how many prompts a spend moves
spend-touches : (Market → ℕ → ℕ) → List Open → ℕ
spend-touches w [] = 0
spend-touches w (p ∷ ps) = min 1 (min (w (market_of p.unused) p.tier) (nat_abs p.unused)) + spend-touches (λ m t. w m t - in_tier m t p) ps

spend-touches_same : (ps : List Open) (w v : Market → ℕ → ℕ) → ((m : Market) (t : ℕ) → w m t ≡ v m t) → spend-touches w ps ≡ spend-touches v ps
spend-touches_same ps w v h = ap (λ f. spend-touches f ps) (fun_ext (λ m. fun_ext (λ t. h m t)))

moved_by : (w : Market → ℕ → ℕ) (ps : List Open) → count moved (used_by w ps) ≡ spend-touches w ps
unfolding spend-touches
moved_by w [] = refl
moved_by w (p ∷ ps) =
    ap₂ ◌+◌
    (above (nat_abs (p.unused -ℤ towards_zero p.unused (w (market_of p.unused) p.tier)))
    ∙ ap (λ (z : ℤ). min 1 (nat_abs z)) (taken_sign p.unused (w (market_of p.unused) p.tier))
    ∙ ap (min 1) (abs_sign p.unused (min (w (market_of p.unused) p.tier) (nat_abs p.unused))))
    (moved_by (λ m t. w m t - in_tier m t p) ps)

-- two spends on different pools
module _ (w v : Market → ℕ → ℕ) where
  Apart : Type 0
  Apart = (m : Market) (t : ℕ) → (w m t ≡ 0) ⊎ (v m t ≡ 0)

second_none : (a n b : ℕ) {s : ℕ} → b ≡ 0 → s ≡ 0 → min 1 (min (a + b) n) ≡ min 1 (min a n) + min 1 s
second_none a n b e f = ap (λ (k : ℕ). min 1 (min k n)) (ap (λ (k : ℕ). a + k) e ∙ add-zero a) ∙ sym (ap (λ (k : ℕ). min 1 (min a n) + min 1 k) f
    ∙ add-zero (min 1 (min a n)))

-- what a second spend takes of a prompt that a first one took of, or left alone
twice : (a : ℕ) (g : Market → ℕ) (z : ℤ) → (a ≡ 0) ⊎ (g (market_of z) ≡ 0)
    → min 1 (min (a + g (market_of z)) (nat_abs z)) ≡ min 1 (min a (nat_abs z)) + min 1 (min (g (market_of (towards_zero z a))) (nat_abs (towards_zero z a)))
twice a g z (inl e) =
    let n = nat_abs z in
    let same : towards_zero z a ≡ z = ap (towards_zero z) e ∙ towards_zero-none z in
    ap (λ (k : ℕ). min 1 (min (k + g (market_of z)) n)) e
    ∙ ap (λ (k : ℕ). min 1 (min k n)) (zero-add (g (market_of z)))
    ∙ sym
    (ap₂ ◌+◌ (ap (λ (k : ℕ). min 1 (min k n)) e ∙ nothing n) (ap (λ (y : ℤ). min 1 (min (g (market_of y)) (nat_abs y))) same)
    ∙ zero-add (min 1 (min (g (market_of z)) n)))
  where
    nothing : (n : ℕ) → min 1 (min 0 n) ≡ 0
    nothing n = omega arith
twice a g (pos n) (inr e) = second_none a n (g long) e (omega arith)
twice a g (negsuc n) (inr e) = second_none a (suc n) (g short) e (later (suc n - a))
  where
    later : (k : ℕ) → min (g (market_of (neg_ℤ (pos k)))) (nat_abs (neg_ℤ (pos k))) ≡ 0
    later zero = omega arith
    later (suc k) = omega arith

spends_apart : (w v : Market → ℕ → ℕ) (ps : List Open) → Apart w v → spend-touches (λ m t. w m t + v m t) ps ≡ spend-touches w ps + spend-touches v (spend w ps)
unfolding spend-touches Apart
spends_apart w v [] h = refl
spends_apart w v (p ∷ ps) h =
    let a = w (market_of p.unused) p.tier in
    let one = twice a (λ m. v m p.tier) p.unused (h (market_of p.unused) p.tier) in
    let rest =
    spend-touches_same ps (λ m t. w m t + v m t - in_tier m t p) (λ m t. w m t - in_tier m t p + (v m t - in_tier m t (less p a)))
    (λ m t. shared (w m t) (v m t) (in_tier m t p) (tier-less w m t p))
    ∙ spends_apart (λ m t. w m t - in_tier m t p) (λ m t. v m t - in_tier m t (less p a)) ps (λ m t. still m t (h m t))
    in
    omega arith
  where
    shared : (a b i : ℕ) {j : ℕ} → j ≡ i - a → a + b - i ≡ a - i + (b - j)
    shared a b i e = omega arith

    still : (m : Market) (t : ℕ) → (w m t ≡ 0) ⊎ (v m t ≡ 0)
        → (w m t - in_tier m t p ≡ 0) ⊎ (v m t - in_tier m t (less p (w (market_of p.unused) p.tier)) ≡ 0)
    still m t (inl e) = inl (omega arith)
    still m t (inr e) = inr (omega arith)

-- a leg touches what its spend moves
leg_moves : (k : Taker) (w : ℕ) (ps : List Open) → leg_touches k w ps ≡ spend-touches (λ m t. cond (draws m t k) w 0) ps
unfolding spend-touches
leg_moves k w [] = refl
leg_moves k w (p ∷ ps) =
    ap₂ ◌+◌ (above (gives k w p) ∙ ap (min 1) (here p.unused (eqb p.tier k.tier) k.market))
    (leg_moves k (w - gives k w p) ps
    ∙ spend-touches_same ps (λ m t. cond (draws m t k) (w - gives k w p) 0) (λ m t. cond (draws m t k) w 0 - in_tier m t p) (λ m t. rest m t
    (draws m t k) refl))
  where
    here : (z : ℤ) (b : Bool) (m : Market) → min w (cond b (on_side m z) 0) ≡ min (cond (same_market m (market_of z) && b) w 0) (nat_abs z)
    here (pos n) true long = refl
    here (pos n) false long = omega arith
    here (negsuc n) true long = omega arith
    here (negsuc n) false long = omega arith
    here (pos n) true short = omega arith
    here (pos n) false short = omega arith
    here (negsuc n) true short = refl
    here (negsuc n) false short = omega arith

    rest : (m : Market) (t : ℕ) (b : Bool) → draws m t k ≡ b → cond b (w - gives k w p) 0 ≡ cond b w 0 - in_tier m t p
    rest m t true e = rw (draws_market m t k e, draws-tier m t k e) (go w (in_tier k.market k.tier p))
      where
        go : (a i : ℕ) → a - min a i ≡ a - i
        go a i = omega arith
    rest m t false e = sym (zero-sub (in_tier m t p))

nothing_moves : (ps : List Open) → spend-touches (λ m t. 0) ps ≡ 0
unfolding spend-touches
nothing_moves [] = refl
nothing_moves (p ∷ ps) = let r = spend-touches_same ps (λ m t. 0 - in_tier m t p) (λ m t. 0) (λ m t. zero-sub (in_tier m t p)) ∙ nothing_moves ps in omega arith

step_moves : (ks : List Taker) (n : ℕ) (ps : List Open) → sound_legs ks ≡ true → step_touches ks n ps ≡ spend-touches (λ m t. step_use m t ks n) ps
unfolding Apart
step_moves [] n ps e = sym (nothing_moves ps)
step_moves (k ∷ ks) n ps e =
    ap₂ ◌+◌ (leg_moves k (leg_takes n k) ps)
    (step_moves ks n (take_from k (leg_takes n k) ps) (others k ks e) ∙ ap (spend-touches (λ m t. step_use m t ks n)) (take-spend k (leg_takes n k) ps))
    ∙ sym (spends_apart (λ m t. leg_use m t n k) (λ m t. step_use m t ks n) ps apart)
  where
    apart : Apart (λ m t. leg_use m t n k) (λ m t. step_use m t ks n)
    apart m t = go (draws m t k) refl
      where
        go : (b : Bool) → draws m t k ≡ b → (cond b (leg_takes n k) 0 ≡ 0) ⊎ (step_use m t ks n ≡ 0)
        go false f = inl refl
        go true f = inr (rw (draws_market m t k f, draws-tier m t k f) (none_drawn k.market k.tier n ks (alone k ks e)).0)

all_moves : (ss : List (List Taker)) (ps : List Open) → sound_steps ss ≡ true → touches ss ps ≡ count moved (uses_of ss ps)
all_moves [] ps e = refl
all_moves (s ∷ ss) ps e =
    let n = formed s ps in
    ap₂ ◌+◌
    (step_moves s n ps (sound_legs_lem s (and_left (sound_step s) (sound_steps ss) e))
    ∙ sym (moved_by (λ m t. step_use m t s n) ps)
    ∙ sym (ap (λ (qs : List Open). count moved (minus (deltas ps) (deltas qs))) (after-spend s n ps)))
    (all_moves ss (after s n ps) (and_right (sound_step s) (sound_steps ss) e))
    ∙ sym (count_append moved (taken_of s ps) (uses_of ss (after s n ps)))

-- what the request says
pub touched : (ss : List Spread) (ps : List Open) → every sound_spread ss ≡ true → Touched ss ps
unfolding live
touched ss ps e =
    record {
      moves = all_moves (steps ss) ps (steps-sound ss e);
      bound =
          let a = touches_bound (steps ss) ps in
          let b = count_le (λ (q : Open). moved q.unused) ps in
          let c = legs_both ss in
          omega arith;
    }

-- a table has at most 32 spreads of at most three legs

two_or_three : (n : ℕ) (b : Bool) → (eqb n 2 || eqb n 3) && b ≡ true → n ≤ 3
two_or_three n b e = go (eqb n 2) refl (and_left (eqb n 2 || eqb n 3) b e)
  where
    go : (c : Bool) → eqb n 2 ≡ c → c || eqb n 3 ≡ true → n ≤ 3
    go true f g = let h = eqb-true n 2 f in omega arith
    go false f g = let h = eqb-true n 3 g in omega arith

three_each : (ss : List Spread) → every sound_spread ss ≡ true → sum (map (λ s. s.legs) ss) ≤ 3 * length ss
three_each [] e = omega arith
three_each (s ∷ ss) e =
    let a = two_or_three s.legs (sound_legs_of (legs_in s)) (and_left (sound_spread s) (every sound_spread ss) e) in
    let r = three_each ss (and_right (sound_spread s) (every sound_spread ss) e) in
    omega arith

at_most_spreads : (n : ℕ) (l : List Spread) → length (take n l) ≤ n
at_most_spreads zero l = omega arith
at_most_spreads (suc n) [] = omega arith
at_most_spreads (suc n) (x ∷ l) = let r = at_most_spreads n l in omega arith

pub touches_most : (ss : List Spread) (ps : List Open) → every sound_spread ss ≡ true → length ss ≤ spread_places → length ps ≤ prompt_places
    → touches (steps ss) ps ≤ most_touches
touches_most ss ps e spreads prompts = omega (arith, (touched ss ps e).bound, three_each ss e)

pub touches_few : (p : Prompts) (t : Table) → length p.tier ≡ prompt_places → length p.net ≡ prompt_places → sound p t ≡ true → touches_of p t ≤ most_touches
touches_few p t lt ln e =
    let table = and_right (sound_prompts p) (sound_table t) e in
    let all = ap (λ (b : Bool). cond b (touches (steps_of t) (open_of p)) 0) e in
    let long = open_length p lt ln (few p (and_left (sound_prompts p) (sound_table t) e)) in
    let prompts = few p (and_left (sound_prompts p) (sound_table t) e) in
    let spreads = leb-true t.count spread_places (and_left (leb t.count spread_places) (every sound_spread (table_spreads t)) table) in
    let taken = at_most_spreads t.count t.spread in
    let most = touches_most (table_spreads t) (open_of p) (and_right (leb t.count spread_places) (every sound_spread (table_spreads t)) table)
    (omega (arith, spreads, taken)) (omega (arith, long, prompts)) in
    omega (arith, all, most)

-- two counted books that the promise allows are the same
pub counted_one : (p : Prompts) (t : Table) (r q : Counted) → CountedBook p t r → CountedBook p t q → r ≡ q
counted_one p t r q a b =
    λ i. record { book = booked_one p t r.book q.book a.book b.book i; touches = (a.touches ∙ sym b.touches) i }
