-- What the contracts earn from the table, by their numbers: the lines put by number, the walk over the entries, and line by line again.
-- Assumes nothing.
use Prim.Native.Nat.{ℕ, ◌+◌, ◌≤◌, ◌<◌, zero-le}
use native.Mathlib.Nat.{not-suc-le-zero, add-zero, zero-mul}
use native.Mathlib.Decide.{ℕ_discrete}
use native.Mathlib.Omega.{arith}
use mathlib.Core.Path.{◌≡◌, refl, sym, ap, ap₂, ◌∙◌, subst, subst⁻¹}
use mathlib.Core.Bool.{Bool, true, false, cond}
use mathlib.Core.List.{List, []}
use mir.Syntax.{w64}
use mir.Val.{Fits}
use borrow.Author.Tests.{eq-eqb}
use lib.Dec.{eqb}
use lib.IntN.{nat_abs}
use lib.ListN.{length, get_or, set, replicate, length-set}
use lib.Seq.{get_or-set_same, get_or-set_other}
use Rattle.record.specs.Layout.{Record, contract, second_contract, percent, first_ratio, second_ratio, tenths}
use Rattle.account.specs.Check.{most_contracts, most_entries}
use Rattle.spread.specs.declared.Spreads.{Spreads}
use Rattle.spread.proofs.Filling.{get_d_same}
use Rattle.formulas.specs.declared.amount.Amount.{Amount}
use Rattle.formulas.specs.declared.charges.Earner.{Earner}
use Rattle.formulas.specs.declared.line.Line.{Line}
use Rattle.formulas.specs.Bounds.{most_credit, most_credits}
use Rattle.formulas.specs.Credit.{both_take, entry_use, credits_by}
use Rattle.formulas.specs.code.Lines.{no_line}
use Rattle.formulas.specs.code.Sums.{interleaved, spreads_at, EntriesRoom}
use Rattle.formulas.specs.code.Table.{earns, EarnerOf, earner_at, LinesRise, Listed, EarnersOf, earns_from, WithEntry, WalkRoom, EarnedBy, ByLine, CreditsRoom, CreditsOf}
use Rattle.formulas.specs.code.Within.{EntryFit, EntriesFit}
use Rattle.formulas.proofs.SumLaws.{ToGo, start, next, finish, credit_from, credit_step, credit-none, use_none, nothing_used}

-- the first i lines stand at their numbers
pub record Put (lines : List Line) (i : ℕ) (units prices nets : List ℕ) : Type 0 where
  pub units_at : length units ≡ most_contracts
  pub prices_at : length prices ≡ most_contracts
  pub nets_at : length nets ≡ most_contracts
  pub so_far : EarnersOf i lines (earner_at units prices nets)

-- a line put at its number: the arrays hold it there, and elsewhere what they held
module _ (units prices nets : List ℕ) (e : Earner) where
  abbrev with : ℕ → Earner
  with = earner_at (set units e.contract e.unit) (set prices e.contract e.twice_price) (set nets e.contract e.net)

  here : (l : Line) → e.contract < length units → e.contract < length prices → e.contract < length nets → EarnerOf l e → EarnerOf l (with e.contract)
  here l u p n is =
      record {
        unit_is = get_or-set_same units e.contract e.unit 0 u ∙ is.unit_is;
        contract_is = is.contract_is;
        price_is = get_or-set_same prices e.contract e.twice_price 0 p ∙ is.price_is;
        net_is = get_or-set_same nets e.contract e.net 0 n ∙ is.net_is;
      }

  elsewhere : (l : Line) (c : ℕ) → (c ≡ e.contract → ⊥) → EarnerOf l (earner_at units prices nets c) → EarnerOf l (with c)
  elsewhere l c h is =
      record {
        unit_is = get_or-set_other units e.contract c e.unit 0 h ∙ is.unit_is;
        contract_is = is.contract_is;
        price_is = get_or-set_other prices e.contract c e.twice_price 0 h ∙ is.price_is;
        net_is = get_or-set_other nets e.contract c e.net 0 h ∙ is.net_is;
      }

  pub earners_next : (count i : ℕ) (lines : List Line) → LinesRise count lines → i < count → EarnerOf (get_or lines i no_line) e
      → Put lines i units prices nets
      → Put lines (i + 1) (set units e.contract e.unit) (set prices e.contract e.twice_price) (set nets e.contract e.net)
  earners_next count i lines rising h is put =
      record {
        units_at = rw length-set put.units_at;
        prices_at = rw length-set put.prices_at;
        nets_at = rw length-set put.nets_at;
        so_far = record { each = λ j l. each_line j l (ℕ_discrete j i); listed = λ c x. each_number c x (ℕ_discrete c e.contract) };
      }
    where
      now_here : EarnerOf (get_or lines i no_line) (with e.contract)
      now_here =
          let number = is.contract_is in
          let most = rising.numbers i h in
          here (get_or lines i no_line) (omega (arith, put.units_at)) (omega (arith, put.prices_at)) (omega (arith, put.nets_at)) is

      each_line : (j : ℕ) → j < i + 1 → Dec (j ≡ i) → EarnerOf (get_or lines j no_line) (with (get_or lines j no_line).contract)
      each_line j l (yes q) =
          subst⁻¹ (λ (k : ℕ). EarnerOf (get_or lines k no_line) (with (get_or lines k no_line).contract)) q
          (subst (λ (c : ℕ). EarnerOf (get_or lines i no_line) (with c)) is.contract_is now_here)
      each_line j l (no q) =
          let before : j < i = omega (arith, q) in
          let above = rising.rise j i before h in
          let number = is.contract_is in
          elsewhere (get_or lines j no_line) (get_or lines j no_line).contract (λ x. omega arith) (put.so_far.each j before)

      each_number : (c : ℕ) → ((with c).net ≡ 0 → ⊥) → Dec (c ≡ e.contract) → Listed (i + 1) lines (with c)
      each_number c x (yes q) = record { place = i; below = omega arith; is = subst⁻¹ (λ (k : ℕ). EarnerOf (get_or lines i no_line) (with k)) q now_here }
      each_number c x (no q) =
          let was = put.so_far.listed c (λ z. x (get_or-set_other nets e.contract c e.net 0 q ∙ z)) in
          record { place = was.place; below = omega (arith, was.below); is = elsewhere (get_or lines was.place no_line) c q was.is }

pub earners_start : (units prices nets : List ℕ) (lines : List Line) → units ≡ replicate most_contracts 0 → prices ≡ replicate most_contracts 0
    → nets ≡ replicate most_contracts 0 → Put lines 0 units prices nets
earners_start units prices nets lines eu ep en =
    record {
      units_at = ap length eu;
      prices_at = ap length ep;
      nets_at = ap length en;
      so_far =
          record {
            each = λ j h. absurd (not-suc-le-zero h);
            listed = λ c x. absurd (x (ap (λ (xs : List ℕ). get_or xs c 0) en ∙ get_d_same most_contracts 0 c));
          };
    }

-- a contract without a net delta earns nothing
pub no_net : (by : Earner) (e : Record) (f s : ℕ) → by.net ≡ 0 → 0 ≡ earns_from by e f s
no_net by e f s h = rw (eq-eqb by.net 0 h)

-- an entry that formed nothing adds nothing
none_used : (c : ℕ) (e : Record) → entry_use c e 0 0 ≡ 0
none_used c e = go (eqb c (contract e)) (eqb c (second_contract e))
  where
    none : (t : Bool) (r : ℕ) → both_take t r 0 0 ≡ 0
    none true r = rw (zero-mul r)
    none false r = rw (zero-mul r)

    go : (a b : Bool) → cond a (both_take (tenths e) (first_ratio e) 0 0) (cond b (both_take (tenths e) (second_ratio e) 0 0) 0) ≡ 0
    go true b = none (tenths e) (first_ratio e)
    go false true = none (tenths e) (second_ratio e)
    go false false = refl

pub none-formed : (units prices nets : List ℕ) (e : Record) (f s : ℕ) (before : List ℕ) → length before ≡ most_contracts → f ≡ 0 → s ≡ 0
    → WithEntry (earner_at units prices nets) e f s before before
none-formed units prices nets e f s before n hf hs =
    record {
      places = n;
      each = λ c l. sym (add-zero (get_or before c 0)) ∙ ap (λ (k : ℕ). get_or before c 0 + k) (nothing c);
      most = λ c l. subst (λ (k : ℕ). k ≤ most_credit) (nothing c) zero-le;
    }
  where
    nothing : (c : ℕ) → 0 ≡ earns_from (earner_at units prices nets c) e f s
    nothing c =
        nothing_used (get_or units c 0) (get_or prices c 0) _ (percent e) (get_or nets c 0)
        (ap₂ (entry_use c e) hf hs ∙ none_used c e)

-- an entry adds to its two contracts, and nothing to any other
module _ (units prices nets : List ℕ) (e : Record) (f s a b : ℕ) (fits : EntryFit e) (ea : a ≡ contract e) (eb : b ≡ second_contract e) where
  abbrev more : ℕ → ℕ
  more c = earns_from (earner_at units prices nets c) e f s

  nothing : (c : ℕ) → (c ≡ a → ⊥) → (c ≡ b → ⊥) → 0 ≡ more c
  nothing c x y =
      nothing_used (get_or units c 0) (get_or prices c 0) _ (percent e) (get_or nets c 0) (sym (use_none c e f s a ea b eb x y))

  apart : b ≡ a → ⊥
  apart q = fits.apart (sym ea ∙ sym q ∙ eb)

  -- what the first of them is given leaves the second as it was
  second_kept : (before : List ℕ) (n : ℕ) → get_or (set before a n) b 0 ≡ get_or before b 0
  second_kept before n = get_or-set_other before a b n 0 apart

  pub second_fits : (before : List ℕ) (n y : ℕ) → get_or before b 0 ≤ most_credits → y ≤ most_credit → Fits w64 (get_or (set before a n) b 0 + y)
  second_fits before n y h m = let kept = second_kept before n in omega arith

  pub with_entry : (before : List ℕ) (x y : ℕ) → length before ≡ most_contracts → x ≡ more a → x ≤ most_credit → y ≡ more b → y ≤ most_credit
      → WithEntry (earner_at units prices nets) e f s before
      (set (set before a (get_or before a 0 + x)) b (get_or (set before a (get_or before a 0 + x)) b 0 + y))
  with_entry before x y n ex mx ey my =
      record {
        places = rw (length-set, length-set) n;
        each = λ c h. each_is c h (ℕ_discrete c b) (ℕ_discrete c a);
        most = λ c h. most_is c (ℕ_discrete c b) (ℕ_discrete c a);
      }
    where
      each_is : (c : ℕ) → c < most_contracts → Dec (c ≡ b) → Dec (c ≡ a)
          → get_or (set (set before a (get_or before a 0 + x)) b (get_or (set before a (get_or before a 0 + x)) b 0 + y)) c 0 ≡ get_or before c 0 + more c
      each_is c h (yes q) p =
          let once = set before a (get_or before a 0 + x) in
          subst⁻¹ (λ (k : ℕ). get_or (set once b (get_or once b 0 + y)) k 0 ≡ get_or before k 0 + more k) q
          (get_or-set_same once b (get_or once b 0 + y) 0 (rw length-set (omega arith))
          ∙ ap₂ ◌+◌ (second_kept before (get_or before a 0 + x)) ey)
      each_is c h (no q) (yes p) =
          let once = set before a (get_or before a 0 + x) in
          get_or-set_other once b c (get_or once b 0 + y) 0 q
          ∙ subst⁻¹ (λ (k : ℕ). get_or once k 0 ≡ get_or before k 0 + more k) p
          (get_or-set_same before a (get_or before a 0 + x) 0 (omega arith) ∙ ap (λ (k : ℕ). get_or before a 0 + k) ex)
      each_is c h (no q) (no p) =
          let once = set before a (get_or before a 0 + x) in
          get_or-set_other once b c (get_or once b 0 + y) 0 q
          ∙ get_or-set_other before a c (get_or before a 0 + x) 0 p
          ∙ sym (add-zero (get_or before c 0))
          ∙ ap (λ (k : ℕ). get_or before c 0 + k) (nothing c p q)

      most_is : (c : ℕ) → Dec (c ≡ b) → Dec (c ≡ a) → more c ≤ most_credit
      most_is c (yes q) p = subst⁻¹ (λ (k : ℕ). more k ≤ most_credit) q (subst (λ (k : ℕ). k ≤ most_credit) ey my)
      most_is c (no q) (yes p) = subst⁻¹ (λ (k : ℕ). more k ≤ most_credit) p (subst (λ (k : ℕ). k ≤ most_credit) ex mx)
      most_is c (no q) (no p) = subst (λ (k : ℕ). k ≤ most_credit) (nothing c p q) zero-le

-- the walk over n entries: each contract's sum so far, and what is still to come
module _ (units prices nets : List ℕ) (rs : List Record) (firsts seconds : List Spreads) where
  abbrev rest : ℕ → ℕ → ℕ
  rest c = credit_from (get_or units c 0) c (get_or prices c 0) (get_or nets c 0) rs firsts seconds

  pub record Walked (n i : ℕ) (earned : List ℕ) : Type 0 where
    pub within : i ≤ n
    pub places : length earned ≡ most_contracts
    pub each : (c : ℕ) → c < most_contracts → ToGo n most_credit (rest c) i (get_or earned c 0)

  pub walk_start : (n : ℕ) → Walked n 0 (replicate most_contracts 0)
  walk_start n =
      record {
        within = zero-le;
        places = refl;
        each = λ c h. subst⁻¹ (ToGo n most_credit (rest c) 0) (get_d_same most_contracts 0 c) (start n most_credit (rest c));
      }

  pub walk_next : (n i : ℕ) (before after : List ℕ) → n ≡ length rs → length rs ≤ length firsts → length rs ≤ length seconds → i < n → Walked n i before
      → WithEntry (earner_at units prices nets) (get_or rs i []) (spreads_at firsts i) (spreads_at seconds i) before after → Walked n (i + 1) after
  walk_next n i before after en hf hs h w more =
      record {
        within = omega arith;
        places = more.places;
        each =
            λ c l. subst⁻¹ (ToGo n most_credit (rest c) (i + 1)) (more.each c l)
            (next i (get_or before c 0) (earns_from (earner_at units prices nets c) (get_or rs i []) (spreads_at firsts i) (spreads_at seconds i)) (w.each c l) h
            (credit_step (get_or units c 0) c (get_or prices c 0) (get_or nets c 0) rs firsts seconds hf hs i (omega arith)) (more.most c l));
      }

  pub walk_all : (n i : ℕ) (earned : List ℕ) → n ≡ length rs → n ≤ most_entries → n ≤ i → Walked n i earned
      → EarnedBy (earner_at units prices nets) rs firsts seconds earned
  walk_all n i earned en most h w =
      record {
        each =
            λ c l. finish i (get_or earned c 0) (w.each c l) h
            (credit-none (get_or units c 0) c (get_or prices c 0) (get_or nets c 0) rs firsts seconds i (omega arith));
        most = λ c l. let small = (w.each c l).small in let bound = w.within in omega arith;
      }

module _ (l : Line) (e : Earner) (entries : List Record) (f g : List Spreads) (is : EarnerOf l e) where
  pub earner_room : EntriesRoom l.unit l.contract l.twice_price (nat_abs l.net.0) entries f g
      → EntriesRoom e.unit e.contract e.twice_price e.net entries f g
  earner_room h = rw (is.unit_is, is.contract_is, is.price_is, is.net_is) h

  pub earner_earns : (r : ℕ) → r ≡ credits_by e.unit e.contract e.twice_price e.net entries (interleaved f g) → r ≡ earns l entries f g
  earner_earns r h =
      h
      ∙ ap₂ (λ (u c : ℕ). credits_by u c e.twice_price e.net entries (interleaved f g)) is.unit_is is.contract_is
      ∙ ap₂ (λ (t n : ℕ). credits_by l.unit l.contract t n entries (interleaved f g)) is.price_is is.net_is

-- the room that the lines have, by number
pub walk_room : (count : ℕ) (lines : List Line) (entries : List Record) (f g : List Spreads) (at : ℕ → Earner) → EntriesFit entries
    → CreditsRoom count lines entries f g → EarnersOf count lines at → WalkRoom at entries f g
walk_room count lines entries f g at fits room is =
    record {
      most = fits.few;
      each =
          λ k h.
          record {
            fits = fits.each k h;
            each =
                λ c x.
                let l = is.listed c x in
                (earner_room (get_or lines l.place no_line) (at c) entries f g l.is (room.each l.place l.below)).each k h;
          };
    }

-- what the numbers earned is what the lines earn
pub credits_are : (count : ℕ) (lines : List Line) (entries : List Record) (f g : List Spreads) (at : ℕ → Earner) (earned : List ℕ) (xs : List Amount)
    → LinesRise count lines → EarnersOf count lines at → EarnedBy at entries f g earned → ByLine count lines earned xs → CreditsOf count lines entries f g xs
credits_are count lines entries f g at earned xs rising is by each_line =
    record {
      places = each_line.places;
      each =
          λ i h.
          let l = get_or lines i no_line in
          earner_earns l (at l.contract) entries f g (is.each i h) (get_or xs i (record { 0 = 0 })).0
          (each_line.each i h ∙ by.each l.contract (omega (arith, rising.numbers i h)));
      most =
          λ i h.
          let m = by.most (get_or lines i no_line).contract (omega (arith, rising.numbers i h)) in
          let e = each_line.each i h in
          omega arith;
    }
