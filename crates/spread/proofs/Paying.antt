-- The spend over the prompts, one prompt after the other, with the cells for what the later ones had.
-- Assumes nothing.
use Prim.Native.Nat.{ℕ, suc, ◌+◌, ◌-◌, ◌≤◌, ◌<◌}
use native.Mathlib.Numerals.{add-one}
use native.Mathlib.Omega.{arith}
use mathlib.Core.List.{List, ◌∷◌}
use mathlib.Core.Path.{◌≡◌, refl, sym, ◌∙◌, ap, ap₂, subst⁻¹}
use lib.IntN.{ℤ, pos, nat_abs, ◌-ℤ◌}
use lib.ListN.{length, get_or, set, drop, replicate, length-set, drop_of_length-le}
use lib.Seq.{drop-cons}
use Rattle.spread.specs.code.Book.{delta_entry, gone_of, Spent}
use Rattle.spread.specs.code.Cells.{cell_of, cell_at, pool_count}
use Rattle.spread.specs.code.Lent.{deltas_from}
use Rattle.spread.specs.Spend.{market_of, spend, deltas, used_by}
use Rattle.spread.specs.Steps.{Open, in_tier, towards_zero, minus}
use Rattle.spread.specs.declared.Delta.{Delta}
use Rattle.spread.specs.Accepted.{prompt_places}
use Rattle.spread.proofs.Filling.{Filled, filled_none, filled_next, filled_all}
use Rattle.spread.proofs.Gathering.{own, in_own-pool, nothing, Placed, no_delta}
use Rattle.spread.proofs.Lent.{map-set}
use Rattle.spread.proofs.Pooling.{cell_less}
use Rattle.spread.proofs.Spending.{spend_same}

-- the spend: i prompts have paid, and of the cells as many are gone as are still wanted

pub record Paying (had left : List ℕ) (ps : List Open) (i : ℕ) (now : List ℕ) (used unused : List Delta) : Type 0 where
  pub place : i ≤ length ps
  pub size : length now ≡ pool_count
  pub useds : Filled prompt_places no_delta (delta_entry (used_by (gone_of had left) ps)) i used
  pub unuseds : Filled prompt_places no_delta (delta_entry (deltas (spend (gone_of had left) ps))) i unused
  pub to_use : (j : ℕ) → get_or (used_by (gone_of had left) ps) (i + j) (pos 0) ≡ get_or (used_by (gone_of now left) (drop i ps)) j (pos 0)
  pub to_leave : (j : ℕ) → get_or (deltas (spend (gone_of had left) ps)) (i + j) (pos 0) ≡ get_or (deltas (spend (gone_of now left) (drop i ps))) j (pos 0)

pub paying_none : (had left : List ℕ) (ps : List Open) → length had ≡ pool_count
    → Paying had left ps 0 had (replicate prompt_places no_delta) (replicate prompt_places no_delta)
paying_none had left ps l =
    record {
      place = omega arith;
      size = l;
      useds = filled_none prompt_places no_delta (delta_entry (used_by (gone_of had left) ps));
      unuseds = filled_none prompt_places no_delta (delta_entry (deltas (spend (gone_of had left) ps)));
      to_use = λ j. ap (λ (k : ℕ). get_or (used_by (gone_of had left) ps) k (pos 0)) (omega arith);
      to_leave = λ j. ap (λ (k : ℕ). get_or (deltas (spend (gone_of had left) ps)) k (pos 0)) (omega arith);
    }

-- what is gone after a prompt has paid
gone_after : (a b x l n : ℕ) → n ≡ x → b ≡ a - x → a - l - n ≡ b - l
gone_after a b x l n e f = omega arith

pub wanted_after : (now left : List ℕ) (p : Open) (ps : List Open) → length now ≡ pool_count
    → spend (λ m t. gone_of now left m t - in_tier m t p) ps
    ≡ spend (gone_of (set now (cell_of (market_of p.unused) p.tier) (cell_at now (market_of p.unused) p.tier - nat_abs p.unused)) left) ps
wanted_after now left p ps l =
    spend_same ps (λ m t. gone_after (cell_at now m t) _ _ (cell_at left m t) _ (in_own-pool m t p) (cell_less now (own p) (nat_abs p.unused) m t l))

module _ (had left : List ℕ) (ps : List Open) (i : ℕ) (now : List ℕ) (used unused : List Delta) (p : Open) (u v : Delta) (d : Open)
    (h : i < length ps) (g : i < prompt_places) (here : get_or ps i d ≡ p)
    (eu : u.0 ≡ p.unused -ℤ towards_zero p.unused (gone_of now left (market_of p.unused) p.tier))
    (ev : v.0 ≡ towards_zero p.unused (gone_of now left (market_of p.unused) p.tier))
    (r : Paying had left ps i now used unused) where
  after_p : List ℕ
  after_p = set now (cell_of (market_of p.unused) p.tier) (cell_at now (market_of p.unused) p.tier - nat_abs p.unused)

  to_go_lem : drop i ps ≡ p ∷ drop (i + 1) ps
  to_go_lem = drop-cons ps i d h ∙ ap₂ ◌∷◌ here (ap (λ (k : ℕ). drop k ps) (sym (add-one i)))

  leaves : (j : ℕ) → get_or (deltas (spend (gone_of had left) ps)) (i + j) (pos 0) ≡ get_or (v.0 ∷ deltas (spend (gone_of after_p left) (drop (i + 1) ps))) j (pos 0)
  unfolding after_p
  leaves j =
      r.to_leave j
      ∙ ap (λ (l : List Open). get_or (deltas (spend (gone_of now left) l)) j (pos 0)) to_go_lem
      ∙ ap₂ (λ (z : ℤ) (l : List Open). get_or (z ∷ deltas l) j (pos 0)) (sym ev) (wanted_after now left p (drop (i + 1) ps) r.size)

  pays : (j : ℕ) → get_or (used_by (gone_of had left) ps) (i + j) (pos 0) ≡ get_or (u.0 ∷ used_by (gone_of after_p left) (drop (i + 1) ps)) j (pos 0)
  unfolding after_p
  pays j =
      r.to_use j
      ∙ ap (λ (l : List Open). get_or (used_by (gone_of now left) l) j (pos 0)) to_go_lem
      ∙ ap₂ (λ (z : ℤ) (l : List Open). get_or (z ∷ minus (deltas (drop (i + 1) ps)) (deltas l)) j (pos 0))
      (sym eu) (wanted_after now left p (drop (i + 1) ps) r.size)

  here_at : (l : List ℤ) (z : ℤ) → get_or l (i + 0) (pos 0) ≡ z → z ≡ get_or l i (pos 0)
  here_at l z e = sym e ∙ ap (λ (k : ℕ). get_or l k (pos 0)) (omega arith)

  shift : (j : ℕ) → i + 1 + j ≡ i + suc j
  shift j = omega arith

  paying_next : Paying had left ps (i + 1)
      (set now (cell_of (market_of p.unused) p.tier) (cell_at now (market_of p.unused) p.tier - nat_abs p.unused))
      (set used i u) (set unused i v)
  unfolding after_p
  paying_next =
      record {
        place = omega arith;
        size = length-set now (cell_of (market_of p.unused) p.tier) (cell_at now (market_of p.unused) p.tier - nat_abs p.unused) ∙ r.size;
        useds =
            filled_next prompt_places no_delta (delta_entry (used_by (gone_of had left) ps)) i used u r.useds g
            (ap (λ (z : ℤ). record { 0 = z }) (here_at (used_by (gone_of had left) ps) u.0 (pays 0)));
        unuseds =
            filled_next prompt_places no_delta (delta_entry (deltas (spend (gone_of had left) ps))) i unused v r.unuseds g
            (ap (λ (z : ℤ). record { 0 = z }) (here_at (deltas (spend (gone_of had left) ps)) v.0 (leaves 0)));
        to_use = λ j. ap (λ (k : ℕ). get_or (used_by (gone_of had left) ps) k (pos 0)) (shift j) ∙ pays (suc j);
        to_leave = λ j. ap (λ (k : ℕ). get_or (deltas (spend (gone_of had left) ps)) k (pos 0)) (shift j) ∙ leaves (suc j);
      }

pub paying_all : (had left : List ℕ) (ps : List Open) (i : ℕ) (now : List ℕ) (used unused : List Delta) → length ps ≤ i
    → Paying had left ps i now used unused → Spent had left ps used unused
paying_all had left ps i now used unused h r =
    record {
      useds = filled_all prompt_places no_delta (delta_entry (used_by (gone_of had left) ps)) i used r.useds (λ k g. ap (λ (z : ℤ). record { 0 = z })
          (none_used k g));
      unuseds = filled_all prompt_places no_delta (delta_entry (deltas (spend (gone_of had left) ps))) i unused r.unuseds
          (λ k g. ap (λ (z : ℤ). record { 0 = z }) (none_left k g));
    }
  where
    split : (k : ℕ) → i ≤ k → k ≡ i + (k - i)
    split k g = omega arith

    none_used : (k : ℕ) → i ≤ k → get_or (used_by (gone_of had left) ps) k (pos 0) ≡ pos 0
    none_used k g =
        ap (λ (j : ℕ). get_or (used_by (gone_of had left) ps) j (pos 0)) (split k g)
        ∙ r.to_use (k - i)
        ∙ ap (λ (l : List Open). get_or (used_by (gone_of now left) l) (k - i) (pos 0)) (drop_of_length-le ps h)

    none_left : (k : ℕ) → i ≤ k → get_or (deltas (spend (gone_of had left) ps)) k (pos 0) ≡ pos 0
    none_left k g =
        ap (λ (j : ℕ). get_or (deltas (spend (gone_of had left) ps)) j (pos 0)) (split k g)
        ∙ r.to_leave (k - i)
        ∙ ap (λ (l : List Open). get_or (deltas (spend (gone_of now left) l)) (k - i) (pos 0)) (drop_of_length-le ps h)

-- a turn of the code, on lent numbers
pub pay_next : (had left : List ℕ) (ps : List Open) (i : ℕ) (now more : List ℕ) (used unused : List ℤ) (z : ℤ) (cell due : ℕ) (u v : ℤ)
    → i < prompt_places
    → Placed ps i z cell
    → due ≡ get_or now cell 0 - get_or left cell 0
    → u ≡ z -ℤ towards_zero z due
    → v ≡ towards_zero z due
    → more ≡ set now cell (get_or now cell 0 - nat_abs z)
    → Paying had left ps i now (deltas_from used) (deltas_from unused)
    → Paying had left ps (i + 1) more (deltas_from (set used i u)) (deltas_from (set unused i v))
pay_next had left ps i now more used unused z cell due u v h g ed eu ev e r =
    as_lent
    (subst⁻¹ (λ (l : List ℕ). Paying had left ps (i + 1) l (set (deltas_from used) i (record { 0 = u })) (set (deltas_from unused) i (record { 0 = v })))
    (e ∙ (λ j. set now (g.own j) (get_or now (g.own j) 0 - nat_abs (g.net j))))
    (paying_next had left ps i now (deltas_from used) (deltas_from unused) (get_or ps i nothing) (record { 0 = u }) (record { 0 = v }) nothing g.place h refl
    (eu ∙ ap (λ (a : ℕ). z -ℤ towards_zero z a) ed ∙ (λ j. g.net j -ℤ towards_zero (g.net j) (get_or now (g.own j) 0 - get_or left (g.own j) 0)))
    (ev ∙ ap (towards_zero z) ed ∙ (λ j. towards_zero (g.net j) (get_or now (g.own j) 0 - get_or left (g.own j) 0))) r))
  where
    as_lent : Paying had left ps (i + 1) more (set (deltas_from used) i (record { 0 = u })) (set (deltas_from unused) i (record { 0 = v }))
        → Paying had left ps (i + 1) more (deltas_from (set used i u)) (deltas_from (set unused i v))
    as_lent r =
        subst⁻¹ (λ (l : List Delta). Paying had left ps (i + 1) more l (deltas_from (set unused i v))) (map-set (λ z. record { 0 = z }) used i u)
        (subst⁻¹ (λ (l : List Delta). Paying had left ps (i + 1) more (set (deltas_from used) i (record { 0 = u })) l)
        (map-set (λ z. record { 0 = z }) unused i v) r)
