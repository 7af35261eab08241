-- Pools, a run on them and one spend give the steps' numbers and the prompts' used and unused deltas; and the promise
-- of a book leaves no choice.
-- Assumes nothing.
use Prim.Native.Nat.{ℕ, ◌+◌, ◌*◌}
use native.Mathlib.Omega.{arith}
use mathlib.Core.Bool.{Bool, true, false, cond}
use mathlib.Core.List.{List, []}
use mathlib.Core.Path.{◌≡◌, sym, ◌∙◌, ap, subst}
use lib.IntN.{ℤ}
use lib.ListN.{replicate}
use Rattle.spread.specs.Accepted.{open_of, table_spreads, steps_of, sound, prompt_places, spread_places}
use Rattle.spread.specs.code.Book.{numbers_of, used_in, unused_in, by_place, spreads_entry, delta_entry, Booked, Refused, Run, gone_of, Spent}
use Rattle.spread.specs.code.Cells.{Pooled, numbers_over}
use Rattle.spread.specs.code.Lent.{deltas_from, deltas_in, spreads_from, prompts_in, book_in}
use Rattle.spread.specs.Demand.{total_use, sound_steps}
use Rattle.spread.specs.Spend.{spend, deltas}
use Rattle.spread.specs.Steps.{Market, Open, Taker, pool, numbers, left, minus, used_of, unused_of}
use Rattle.spread.specs.declared.Delta.{Delta}
use Rattle.spread.specs.declared.Prompts.{Prompts}
use Rattle.spread.specs.declared.Spreads.{Spreads}
use Rattle.spread.specs.declared.Table.{Table}
use Rattle.spread.specs.declared.book.Book.{Book}
use Rattle.spread.proofs.Demand3.{demand3}
use Rattle.spread.proofs.Filling.{filled_none, filled_all}
use Rattle.spread.proofs.Gathering.{no_delta}
use Rattle.spread.proofs.Lent.{prompts_back}
use Rattle.spread.proofs.Pooling.{pooled_numbers, pooled_left}
use Rattle.spread.proofs.Running.{no_spreads}
use Rattle.spread.proofs.Soundness.{table_sound}
use Rattle.spread.proofs.Spending.{left_spend, pool-spend, spend_same}

-- two books that the promise allows are the same
pub booked_one : (p : Prompts) (t : Table) (r s : Book) → Booked p t r → Booked p t s → r ≡ s
booked_one p t r s a b =
    λ i.
    record {
      accepted = (a.accepted ∙ sym b.accepted) i;
      first = (a.first ∙ sym b.first) i;
      second = (a.second ∙ sym b.second) i;
      used = (a.used ∙ sym b.used) i;
      unused = (a.unused ∙ sym b.unused) i;
    }

-- what is refused has no numbers

pub all_none {ℓ} : {A : Type ℓ} (n : ℕ) (z : A) (f : ℕ → A) → ((k : ℕ) → f k ≡ z) → replicate n z ≡ by_place n f
all_none n z f h = filled_all n z f 0 (replicate n z) (filled_none n z f) (λ k g. h k)

pub booked_refused : (p : Prompts) (t : Table) (r : Book) → sound p t ≡ false → Refused r → Booked p t r
booked_refused p t r e h =
    record {
      accepted = h.accepted ∙ sym e;
      first = h.first ∙ all_none spread_places no_spreads (λ k. spreads_entry (numbers_of p t) (2 * k)) (λ k. no_spreads_lem (2 * k));
      second = h.second ∙ all_none spread_places no_spreads (λ k. spreads_entry (numbers_of p t) (2 * k + 1)) (λ k. no_spreads_lem (2 * k + 1));
      used = h.used ∙ all_none prompt_places no_delta (delta_entry (used_in p t))
          (λ k. ap (λ (b : Bool). delta_entry (cond b (used_of (steps_of t) (open_of p)) []) k) e);
      unused = h.unused ∙ all_none prompt_places no_delta (delta_entry (unused_in p t))
          (λ k. ap (λ (b : Bool). delta_entry (cond b (unused_of (steps_of t) (open_of p)) []) k) e);
    }
  where
    no_spreads_lem : (k : ℕ) → spreads_entry (numbers_of p t) k ≡ no_spreads
    no_spreads_lem k = ap (λ (b : Bool). spreads_entry (cond b (numbers (steps_of t) (open_of p)) []) k) e

-- steps that can be run: pools, what is left of them and one spend of the difference leave the prompts as the steps do

module _ (ss : List (List Taker)) (ps : List Open) (e : sound_steps ss ≡ true) (cells l : List ℕ)
    (pools : Pooled cells ps) (leaves : Pooled l (left ss ps)) where
  -- what is gone of a pool is the list's use there
  gone_use : (m : Market) (u : ℕ) → gone_of cells l m u ≡ total_use m u ss (numbers ss ps)
  gone_use m u =
      let b = pools.each m u in
      let c = leaves.each m u ∙ ap (pool m u) (left_spend ss ps) ∙ pool-spend (λ m u. total_use m u ss (numbers ss ps)) m u ps in
      let d = (demand3 ss ps e).enough (numbers ss ps) (demand3 ss ps e).first.is_one m u in
      omega arith

  pub spend_left : spend (gone_of cells l) ps ≡ left ss ps
  spend_left = spend_same ps gone_use ∙ sym (left_spend ss ps)

-- what is accepted

pub booked_accepted : (p : Prompts) (t : Table) (cells l : List ℕ) (first second : List Spreads) (used unused : List Delta) → sound p t ≡ true
    → Pooled cells (open_of p) → Run cells (table_spreads t) l first second → Spent cells l (open_of p) used unused
    → Booked p t (record { accepted = true; first = first; second = second; used = used; unused = unused })
booked_accepted p t cells l first second used unused e pools run spent =
    record {
      accepted = sym e;
      first = run.firsts ∙ ap (λ (xs : List ℕ). by_place spread_places (λ k. spreads_entry xs (2 * k))) formed;
      second = run.seconds ∙ ap (λ (xs : List ℕ). by_place spread_places (λ k. spreads_entry xs (2 * k + 1))) formed;
      used =
          spent.useds
          ∙ ap (λ (ps : List Open). by_place prompt_places (delta_entry (minus (deltas (open_of p)) (deltas ps)))) paid
          ∙ ap (λ (b : Bool). by_place prompt_places (delta_entry (cond b (used_of (steps_of t) (open_of p)) []))) (sym e);
      unused =
          spent.unuseds
          ∙ ap (λ (ps : List Open). by_place prompt_places (delta_entry (deltas ps))) paid
          ∙ ap (λ (b : Bool). by_place prompt_places (delta_entry (cond b (unused_of (steps_of t) (open_of p)) []))) (sym e);
    }
  where
    formed : numbers_over (steps_of t) cells ≡ numbers_of p t
    formed =
        pooled_numbers (steps_of t) cells (open_of p) pools
        ∙ ap (λ (b : Bool). cond b (numbers (steps_of t) (open_of p)) []) (sym e)

    after_run : Pooled l (left (steps_of t) (open_of p))
    after_run = rw run.leaves (pooled_left (steps_of t) cells (open_of p) pools)

    paid : spend (gone_of cells l) (open_of p) ≡ left (steps_of t) (open_of p)
    paid = spend_left (steps_of t) (open_of p) (table_sound p t e) cells l pools after_run

-- a book in lent arrays, taken back into the struct
pub booked_lent : (p : Prompts) (t : Table) (nets : List ℤ) (ns₁ ns₂ : List ℕ) (zs₁ zs₂ : List ℤ) (first second : List Spreads) (used unused : List Delta)
    → nets ≡ deltas_in p.net
    → first ≡ spreads_from ns₁ → second ≡ spreads_from ns₂ → used ≡ deltas_from zs₁ → unused ≡ deltas_from zs₂
    → Booked (prompts_in p.count p.tier nets) t (book_in ns₁ ns₂ zs₁ zs₂)
    → Booked p t (record { accepted = true; first = first; second = second; used = used; unused = unused })
booked_lent p t nets ns₁ ns₂ zs₁ zs₂ first second used unused e f g h k b =
    subst (λ (q : Prompts). Booked q t (record { accepted = true; first = first; second = second; used = used; unused = unused })) (prompts_back p nets e)
    (record { accepted = b.accepted; first = f ∙ b.first; second = g ∙ b.second; used = h ∙ b.used; unused = k ∙ b.unused })
