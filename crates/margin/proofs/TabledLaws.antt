-- Lines put in lent memory one after the other before their credits are known: they stand there, the table's arrays hold what it needs of
-- them, and nothing else has changed.
-- Assumes nothing.
use mathlib.Core.Path.{◌≡◌, refl, sym, ◌∙◌, ap, ap₂, subst, subst⁻¹}
use mathlib.Core.Bool.{true}
use mathlib.Core.List.{List, [], ◌∷◌, ◌++◌, map, map-map}
use Prim.Native.Nat.{ℕ, zero, suc, ◌+◌, ◌*◌, ◌≤◌, ◌<◌}
use native.Mathlib.Nat.{add-suc, suc-add, add-zero, not-suc-le-zero, le_of_suc-le-suc}
use native.Mathlib.Decide.{ℕ_discrete}
use native.Mathlib.Omega.{arith}
use lib.IntN.{ℤ, pos, nat_abs}
use lib.ListN.{length, get_or, take, drop, set, length-set, length-map}
use lib.Seq.{sets, get_or-set_same, get_or-set_other, drop-set-lt, drop-drop, drop-nil, length-take-le, get_or-take}
use Rattle.record.specs.Layout.{Record}
use Rattle.account.specs.Check.{most_contracts}
use Rattle.account.specs.Lawful.{Lawful}
use Rattle.account.specs.Parts.{contracts_of}
use Rattle.account.specs.Records.{records}
use Rattle.account.specs.PartNumbers.{entry_part}
use Rattle.account.specs.code.Standing.{PartOf}
use Rattle.spread.specs.Accepted.{spread_places, sound}
use Rattle.spread.specs.Steps.{steps}
use Rattle.spread.specs.code.Book.{Booked}
use Rattle.spread.specs.code.Lent.{deltas_from, prompts_in, spreads_from, book_in}
use Rattle.spread.specs.declared.Spreads.{Spreads}
use Rattle.spread.specs.declared.Table.{Table}
use Rattle.spread.specs.declared.book.Book.{Book}
use Rattle.spread.proofs.Lent.{deltas_again}
use Rattle.spread.proofs.Filling.{entries_at, entries_length}
use Rattle.formulas.specs.declared.amount.Amount.{Amount}
use Rattle.formulas.specs.declared.line.Line.{Line}
use Rattle.formulas.specs.Bounds.{figures_each}
use Rattle.formulas.specs.Contract.{Contract, contracts, parts_in, as_tier}
use Rattle.formulas.specs.code.Lines.{LineWithin, eight_of, eights_from, total_from, figures_from, margin_with, no_line}
use Rattle.formulas.specs.Deltas.{intercontract}
use Rattle.formulas.specs.code.Promised.{BookOf, LineOf}
use Rattle.formulas.specs.code.Tables.{TableOf}
use Rattle.formulas.specs.code.Table.{tier_of, TiersFrom, TableRoom, LinesRise, EarnersOf, earner_at, WalkRoom, EarnedBy, ByLine, CreditsRoom, CreditsOf}
use Rattle.formulas.proofs.EarnedLaws.{Put, earners_start, earners_next, walk_room, credits_are}
use Rattle.formulas.proofs.LentLaws.{lent_length}
use Rattle.formulas.proofs.TableLaws.{Tiered, lent_next, tiered_all, table_sound, table_book_is}
use Rattle.margin.specs.Figures.{figures}
use Rattle.margin.specs.code.Numbers.{amount_at, LinesWithin}
use Rattle.margin.specs.code.Tabled.{line_for, lines_for, all_for, Placed, line_at, lines_at, credits_at, SameLine}
use Rattle.margin.specs.code.Tabled.{TableCleared, TabledIn, TabledOver, CreditedIn}
use Rattle.margin.proofs.AcceptLaws.{numbers_rise}
use Rattle.margin.proofs.AccountLaws.{lined_tiers, table_room, book_of, book-formed, credits-room, answer_is}
use Rattle.margin.proofs.NumberLaws.{sets_front}
use Rattle.margin.proofs.StandLaws.{entries_fit}

-- ---- numbers written from a place on

module _ {ℓ} {A : Type ℓ} where
  pub get_d_sets_before : (vs l : List A) (at m : ℕ) (d : A) → m < at → get_or (sets l at vs) m d ≡ get_or l m d
  get_d_sets_before [] l at m d h = refl
  get_d_sets_before (v ∷ vs) l at m d h =
      get_d_sets_before vs (set l at v) (suc at) m d (omega arith) ∙ get_or-set_other l at m v d (λ e. omega arith)

  pub get_d_sets_in : (vs l : List A) (at k : ℕ) (d : A) → k < length vs → at + length vs ≤ length l
      → get_or (sets l at vs) (at + k) d ≡ get_or vs k d
  get_d_sets_in [] l at k d h g = absurd (not-suc-le-zero h)
  get_d_sets_in (v ∷ vs) l at zero d h g =
      ap (λ (n : ℕ). get_or (sets (set l at v) (suc at) vs) n d) (add-zero at)
      ∙ get_d_sets_before vs (set l at v) (suc at) at d (omega arith)
      ∙ get_or-set_same l at v d (omega arith)
  get_d_sets_in (v ∷ vs) l at (suc k) d h g =
      ap (λ (n : ℕ). get_or (sets (set l at v) (suc at) vs) n d) (add-suc at k ∙ sym (suc-add at k))
      ∙ get_d_sets_in vs (set l at v) (suc at) k d (le_of_suc-le-suc h) (rw length-set (omega arith))

  pub get_d_sets_past : (vs l : List A) (at m : ℕ) (d : A) → at + length vs ≤ m → get_or (sets l at vs) m d ≡ get_or l m d
  get_d_sets_past [] l at m d h = refl
  get_d_sets_past (v ∷ vs) l at m d h =
      get_d_sets_past vs (set l at v) (suc at) m d (omega arith) ∙ get_or-set_other l at m v d (λ e. omega arith)

  pub drop-sets : (vs l : List A) (at m : ℕ) → at + length vs ≤ m → drop m (sets l at vs) ≡ drop m l
  drop-sets [] l at m h = refl
  drop-sets (v ∷ vs) l at m h = drop-sets vs (set l at v) (suc at) m (omega arith) ∙ drop-set-lt m l at v (omega arith)

-- ---- a line and one that stands for it

-- the line that is written stands
pub stands_here : (out : List ℤ) (at : ℕ) (l : Line) → at + figures_each ≤ length out → SameLine (line_at (sets out at (map pos (eight_of l 0))) at) l
stands_here out at l h =
    record {
      contract_is =
          ap (λ (n : ℕ). nat_abs (get_or (sets out at vs) n (pos 0))) (sym (add-zero at)) ∙ here 0 (omega arith);
      active_is = here 1 (omega arith);
      scanning_is = here 2 (omega arith);
      interprompt_is = here 3 (omega arith);
      prompt_is = here 4 (omega arith);
      minimum_is = here 6 (omega arith);
    }
  where
    vs : List ℤ
    vs = map pos (eight_of l 0)

    here : (k : ℕ) → k < figures_each → nat_abs (get_or (sets out at (map pos (eight_of l 0))) (at + k) (pos 0))
        ≡ nat_abs (get_or (map pos (eight_of l 0)) k (pos 0))
    here k m = ap nat_abs (get_d_sets_in (map pos (eight_of l 0)) out at k (pos 0) (omega arith) (omega arith))

-- and those before it
pub stands_before_lem : (out vs : List ℤ) (at where' : ℕ) (l : Line) → where' + figures_each ≤ at → SameLine (line_at out where') l
    → SameLine (line_at (sets out at vs) where') l
stands_before_lem out vs at w l h is =
    record {
      contract_is = ap nat_abs (get_d_sets_before vs out at w (pos 0) (omega arith)) ∙ is.contract_is;
      active_is = there 1 (omega arith) ∙ is.active_is;
      scanning_is = there 2 (omega arith) ∙ is.scanning_is;
      interprompt_is = there 3 (omega arith) ∙ is.interprompt_is;
      prompt_is = there 4 (omega arith) ∙ is.prompt_is;
      minimum_is = there 6 (omega arith) ∙ is.minimum_is;
    }
  where
    there : (k : ℕ) → k < figures_each → nat_abs (get_or (sets out at vs) (w + k) (pos 0)) ≡ nat_abs (get_or out (w + k) (pos 0))
    there k m = ap nat_abs (get_d_sets_before vs out at (w + k) (pos 0) (omega arith))

-- where nothing has changed from a place on, the line there is the same
line_same : (out out₀ : List ℤ) (at : ℕ) → ((k : ℕ) → at ≤ k → get_or out k (pos 0) ≡ get_or out₀ k (pos 0)) → line_at out at ≡ line_at out₀ at
line_same out out₀ at e =
    let number = e at (omega arith) in
    let active = e (at + 1) (omega arith) in
    let scanning = e (at + 2) (omega arith) in
    let interprompt = e (at + 3) (omega arith) in
    let prompt = e (at + 4) (omega arith) in
    let minimum = e (at + 6) (omega arith) in
    λ j. record {
      contract = nat_abs (number j);
      unit = 0;
      active = nat_abs (active j);
      scanning = record { 0 = nat_abs (scanning j) };
      interprompt = record { 0 = nat_abs (interprompt j) };
      prompt = record { 0 = nat_abs (prompt j) };
      minimum = record { 0 = nat_abs (minimum j) };
      twice_price = 0;
      net = record { 0 = pos 0 };
    }

-- the i-th line that is read is the one that stood there, with what its contract earned
pub read_here : (earned : List ℕ) (out₀ out : List ℤ) (i : ℕ) (l : Line) → i < most_contracts
    → ((k : ℕ) → i * figures_each ≤ k → get_or out k (pos 0) ≡ get_or out₀ k (pos 0)) → l ≡ line_at out (i * figures_each)
    → (l ≡ get_or (lines_at out₀) i no_line) × (get_or earned l.contract 0 ≡ amount_at (credits_at earned (lines_at out₀)) i)
read_here earned out₀ out i l h same is =
    let e : l ≡ get_or (lines_at out₀) i no_line =
    is ∙ line_same out out₀ (i * figures_each) same ∙ sym (entries_at most_contracts (λ j. line_at out₀ (j * figures_each)) i no_line h) in (
      e,
      ap (λ (x : Line). get_or earned x.contract 0) e
          ∙ sym (ap (λ (a : Amount). a.0)
          (entries_at most_contracts (λ j. record { 0 = get_or earned (get_or (lines_at out₀) j no_line).contract 0 }) i (record { 0 = 0 }) h)),
    )

-- it has the same figures
pub same_eight : (a b : Line) (c : ℕ) → SameLine a b → eight_of a c ≡ eight_of b c
same_eight a b c is = rw (is.contract_is, is.active_is, is.scanning_is, is.interprompt_is, is.prompt_is, is.minimum_is)

pub same_margin : (a b : Line) (c : ℕ) → SameLine a b → margin_with a c ≡ margin_with b c
same_margin a b c is = rw (is.scanning_is, is.interprompt_is, is.prompt_is, is.minimum_is)

pub same_within : (a b : Line) → SameLine a b → LineWithin b → LineWithin a
same_within a b is h =
    record {
      contract_within = rw is.contract_is h.contract_within;
      active_within = rw is.active_is h.active_within;
      scanning_within = rw is.scanning_is h.scanning_within;
      interprompt_within = rw is.interprompt_is h.interprompt_within;
      prompt_within = rw is.prompt_is h.prompt_within;
      minimum_within = rw is.minimum_is h.minimum_within;
    }

same_eights : (xs ys : List Line) (cs : List Amount) → length xs ≡ length ys
    → ((i : ℕ) → i < length xs → SameLine (get_or xs i no_line) (get_or ys i no_line))
    → (eights_from xs cs ≡ eights_from ys cs) × (total_from xs cs ≡ total_from ys cs)
same_eights [] [] cs n is = (refl, refl)
same_eights [] (b ∷ ys) cs n is = absurd (omega arith)
same_eights (a ∷ xs) [] cs n is = absurd (omega arith)
same_eights (a ∷ xs) (b ∷ ys) [] n is = (refl, refl)
same_eights (a ∷ xs) (b ∷ ys) (c ∷ cs) n is =
    let rest = same_eights xs ys cs (omega arith) (λ i h. is (suc i) (omega arith)) in
    let first = is 0 (omega arith) in (
      ap₂ (λ (x y : List ℕ). x ++ y) (same_eight a b c.0 first) rest.0,
      ap₂ (λ (x y : ℕ). x + y) (same_margin a b c.0 first) rest.1,
    )

pub same_figures : (xs ys : List Line) (cs : List Amount) → length xs ≡ length ys
    → ((i : ℕ) → i < length xs → SameLine (get_or xs i no_line) (get_or ys i no_line)) → figures_from xs cs ≡ figures_from ys cs
same_figures xs ys cs n is =
    let both = same_eights xs ys cs n is in
    ap₂ (λ (x : List ℕ) (y : ℕ). x ++ (y ∷ [])) both.0 both.1

-- ---- the lines of an account's contracts

line_is : (k : Contract) (l : Line) → LineOf k l → l ≡ line_for k
line_is k l is =
    λ j. record {
      contract = is.contract_is j;
      unit = is.unit_is j;
      active = is.active_is j;
      scanning = record { 0 = is.scanning_is j };
      interprompt = record { 0 = is.interprompt_is j };
      prompt = record { 0 = is.prompt_is j };
      minimum = record { 0 = is.minimum_is j };
      twice_price = is.price_is j;
      net = record { 0 = is.net_is j };
    }

pub line_here : (account : List Record) (i : ℕ) (l : Line) → i < most_contracts → LineOf (parts_in account (get_or (contracts_of account) i [])) l
    → l ≡ get_or (lines_for account) i no_line
line_here account i l h is =
    line_is (parts_in account (get_or (contracts_of account) i [])) l is
    ∙ sym (entries_at most_contracts (λ j. line_for (parts_in account (get_or (contracts_of account) j []))) i no_line h)

lines_rise : (account : List Record) → Lawful account → (m : ℕ) → m ≤ most_contracts → m ≤ length (contracts_of account)
    → ((j : ℕ) → j < m → LineOf (parts_in account (get_or (contracts_of account) j [])) (get_or (lines_for account) j no_line))
    → LinesRise m (lines_for account)
lines_rise account law m few there each =
    record {
      few = few;
      numbers = λ i h. (each i h).within.contract_within;
      rise =
          λ i j k h.
          let b : i < m = omega arith in
          let c = numbers_rise account law i j k (omega arith) in
          omega (arith, (each i b).contract_is, (each j h).contract_is);
    }

-- the first i of n lines in their places
pub record TabledTo (account : List Record) (n i : ℕ) (before out : List ℤ) (tiers : List ℕ) (nets : List ℤ) (units prices sizes : List ℕ) : Type 0 where
  pub each : (j : ℕ) → j < i → LineOf (parts_in account (get_or (contracts_of account) j [])) (get_or (lines_for account) j no_line)
  pub stand : (j : ℕ) → j < i → SameLine (line_at out (j * figures_each)) (get_or (lines_for account) j no_line)
  pub tiered : Tiered (lines_for account) i tiers (deltas_from nets)
  pub put : Put (lines_for account) i units prices sizes
  pub beyond : drop (n * figures_each) out ≡ drop (n * figures_each) before
  pub same : length out ≡ length before
  pub within : i ≤ n

pub tabled_start : (account : List Record) (n : ℕ) (out : List ℤ) (tiers : List ℕ) (nets : List ℤ) (units prices sizes : List ℕ)
    → TableCleared tiers nets units prices sizes → TabledTo account n 0 out out tiers nets units prices sizes
tabled_start account n out tiers nets units prices sizes clear =
    record {
      each = λ j h. absurd (not-suc-le-zero h);
      stand = λ j h. absurd (not-suc-le-zero h);
      tiered = record { tiers = clear.tiers_places; nets = length-map nets _ ∙ clear.nets_places; so_far = refl };
      put = earners_start units prices sizes (lines_for account) clear.units_clear clear.prices_clear clear.sizes_clear;
      beyond = refl;
      same = refl;
      within = omega arith;
    }

module _ (account : List Record) (law : Lawful account) (n i : ℕ) (before out : List ℤ) (tiers : List ℕ) (nets : List ℤ) (units prices sizes : List ℕ)
    (all : n ≡ length (contracts_of account)) (few : n ≤ most_contracts) (turn : i < n) where
  abbrev x : Line
  x = get_or (lines_for account) i no_line

  placed_next : (out' : List ℤ) (tiers' : List ℕ) (nets' : List ℤ) (units' prices' sizes' : List ℕ)
      → TabledTo account n i before out tiers nets units prices sizes → n * figures_each ≤ length before
      → LineOf (parts_in account (get_or (contracts_of account) i [])) x
      → Placed i x out tiers nets units prices sizes out' tiers' nets' units' prices' sizes' → length out' ≡ length out
      → TabledTo account n (i + 1) before out' tiers' nets' units' prices' sizes'
  placed_next out' tiers' nets' units' prices' sizes' is room line p same =
      record {
        each = so_far;
        stand = λ j h. stands j h (ℕ_discrete j i);
        tiered =
            subst⁻¹ (λ (ts : List ℕ). Tiered (lines_for account) (i + 1) ts (deltas_from nets')) p.tier-put
            (subst⁻¹ (λ (zs : List ℤ). Tiered (lines_for account) (i + 1) (set tiers i x.contract) (deltas_from zs)) p.net_put
            (lent_next (lines_for account) i tiers nets x.contract x.net.0 is.tiered (omega arith)
            (omega (arith, entries_length most_contracts (λ j. line_for (parts_in account (get_or (contracts_of account) j []))))) refl));
        put =
            subst⁻¹ (λ (us : List ℕ). Put (lines_for account) (i + 1) us prices' sizes') p.unit-put
            (subst⁻¹ (λ (ps : List ℕ). Put (lines_for account) (i + 1) (set units x.contract x.unit) ps sizes') p.price_put
            (subst⁻¹ (λ (ss : List ℕ). Put (lines_for account) (i + 1) (set units x.contract x.unit)
            (set prices x.contract x.twice_price) ss) p.size_put
            (earners_next units prices sizes
            (record { unit = x.unit; contract = x.contract; twice_price = x.twice_price; net = nat_abs x.net.0 })
            (i + 1) i (lines_for account) (lines_rise account law (i + 1) (omega arith) (omega arith) so_far) (omega arith)
            (record { unit_is = refl; contract_is = refl; price_is = refl; net_is = refl }) is.put)));
        beyond =
            ap (drop (n * figures_each)) p.written
            ∙ drop-sets (map pos (eight_of x 0)) out (i * figures_each) (n * figures_each) (omega arith)
            ∙ is.beyond;
        same = same ∙ is.same;
        within = omega arith;
      }
    where
      so_far : (j : ℕ) → j < i + 1 → LineOf (parts_in account (get_or (contracts_of account) j [])) (get_or (lines_for account) j no_line)
      so_far j h = go (ℕ_discrete j i)
        where
          go : Dec (j ≡ i) → LineOf (parts_in account (get_or (contracts_of account) j [])) (get_or (lines_for account) j no_line)
          go (yes q) = subst⁻¹ (λ (k : ℕ). LineOf (parts_in account (get_or (contracts_of account) k [])) (get_or (lines_for account) k no_line)) q line
          go (no q) = is.each j (omega (arith, q))

      stands : (j : ℕ) → j < i + 1 → Dec (j ≡ i) → SameLine (line_at out' (j * figures_each)) (get_or (lines_for account) j no_line)
      stands j h (yes q) =
          subst⁻¹ (λ (k : ℕ). SameLine (line_at out' (k * figures_each)) (get_or (lines_for account) k no_line)) q
          (subst⁻¹ (λ (o : List ℤ). SameLine (line_at o (i * figures_each)) x) p.written
          (stands_here out (i * figures_each) x (omega (arith, is.same))))
      stands j h (no q) =
          subst⁻¹ (λ (o : List ℤ). SameLine (line_at o (j * figures_each)) (get_or (lines_for account) j no_line)) p.written
          (stands_before_lem out (map pos (eight_of x 0)) (i * figures_each) (j * figures_each) (get_or (lines_for account) j no_line) (omega (arith, q))
          (is.stand j (omega (arith, q))))

  -- one line more
  pub tabled_next : (l : Line) (out' : List ℤ) (tiers' : List ℕ) (nets' : List ℤ) (units' prices' sizes' : List ℕ)
      → TabledTo account n i before out tiers nets units prices sizes → n * figures_each ≤ length before
      → LineOf (parts_in account (get_or (contracts_of account) i [])) l
      → Placed i l out tiers nets units prices sizes out' tiers' nets' units' prices' sizes' → length out' ≡ length out
      → TabledTo account n (i + 1) before out' tiers' nets' units' prices' sizes'
  tabled_next l out' tiers' nets' units' prices' sizes' is room line p =
      let e = line_here account i l (omega arith) line in
      placed_next out' tiers' nets' units' prices' sizes' is room
      (subst (LineOf (parts_in account (get_or (contracts_of account) i []))) e line)
      (subst (λ (y : Line). Placed i y out tiers nets units prices sizes out' tiers' nets' units' prices' sizes') e p)

-- and all of them, with the total behind them
pub tabled_all : (account : List Record) (n i total : ℕ) (before out out' : List ℤ) (tiers : List ℕ) (nets : List ℤ) (units prices sizes : List ℕ)
    → n ≡ length (contracts_of account) → n ≤ most_contracts → n ≤ i → TabledTo account n i before out tiers nets units prices sizes
    → out' ≡ set out (n * figures_each) (pos total) → TabledOver account before out' tiers nets units prices sizes
tabled_all account n i total before out out' tiers nets units prices sizes all few last is put =
    let m = length (contracts_of account) in
    let end : i ≡ m = omega (arith, is.within) in
    record {
      tabled =
          record {
            lines =
                record {
                  count_is = refl;
                  few = omega arith;
                  places = entries_length most_contracts (λ j. line_for (parts_in account (get_or (contracts_of account) j [])));
                  each = λ j h. is.each j (omega arith);
                };
            stand =
                λ j h.
                subst⁻¹ (λ (o : List ℤ). SameLine (line_at o (j * figures_each)) (get_or (lines_for account) j no_line)) put
                (stands_before_lem out (pos total ∷ []) (n * figures_each) (j * figures_each) (get_or (lines_for account) j no_line) (omega arith)
                (is.stand j (omega arith)));
            tiers_are = tiered_all (lines_for account) i m (prompts_in m tiers nets) is.tiered end refl;
            tiers_places = is.tiered.tiers;
            nets_places = sym (length-map nets _) ∙ is.tiered.nets;
            earners = subst (λ (k : ℕ). EarnersOf k (lines_for account) (earner_at units prices sizes)) end is.put.so_far;
          };
      beyond =
          subst (λ (k : ℕ). drop (k * figures_each + 1) out' ≡ drop (k * figures_each + 1) before) all
          (ap (drop (n * figures_each + 1)) put
          ∙ drop-sets (pos total ∷ []) out (n * figures_each) (n * figures_each + 1) (omega arith)
          ∙ sym (drop-drop 1 (n * figures_each) out)
          ∙ ap (drop 1) is.beyond
          ∙ drop-drop 1 (n * figures_each) before);
    }

-- ---- the lines with their credits are the figures

module _ (whole : List Record) (count : ℕ) (entries units prices sizes first second : List ℕ) (out : List ℤ)
    (h : CreditedIn whole count entries units prices sizes first second out) where
  abbrev n : ℕ
  n = length (contracts_of whole)

  abbrev its : List Line
  its = lines_for whole

  abbrev firsts : List Spreads
  firsts = spreads_from first

  abbrev seconds : List Spreads
  seconds = spreads_from second

  abbrev run : Book
  run = book_of whole h.lawful (all_for whole) h.lines entries h.part firsts seconds

  is_run : BookOf (steps (map intercontract (records entries))) (map tier_of (take n its)) run
  is_run = book-formed whole h.lawful (all_for whole) h.lines entries h.part firsts seconds h.formed

  room : CreditsRoom n its (records entries) firsts seconds
  room = credits-room whole h.lawful (all_for whole) h.lines entries h.part run is_run

  -- there is room for the walk over the entries
  pub formed-room : WalkRoom (earner_at units prices sizes) (records entries) firsts seconds × ((length first ≡ spread_places) × (length second ≡ spread_places))
  formed-room = (
    walk_room n its (records entries) firsts seconds (earner_at units prices sizes) (entries_fit whole h.lawful entries h.part) room h.earners,
    (
      lent_length (λ (k : ℕ). record { 0 = k }) spread_places _ first h.formed.first_is,
      lent_length (λ (k : ℕ). record { 0 = k }) spread_places _ second h.formed.second_is,
    ),
  )

  few_lines : n ≤ most_contracts
  few_lines = h.lines.few

  stood : (i : ℕ) → i < n → SameLine (get_or (lines_at out) i no_line) (get_or its i no_line)
  stood i k =
      subst⁻¹ (λ (l : Line). SameLine l (get_or its i no_line))
      (entries_at most_contracts (λ j. line_at out (j * figures_each)) i no_line (omega (arith, few_lines))) (h.stand i k)

  module _ (earned : List ℕ) (by : EarnedBy (earner_at units prices sizes) (records entries) firsts seconds earned) where
    abbrev amounts : List Amount
    amounts = credits_at earned (lines_at out)

    by_line : ByLine n its earned amounts
    by_line =
        record {
          places = entries_length most_contracts (λ i. record { 0 = get_or earned (get_or (lines_at out) i no_line).contract 0 });
          each =
              λ i k.
              ap (λ (a : Amount). a.0)
              (entries_at most_contracts (λ j. record { 0 = get_or earned (get_or (lines_at out) j no_line).contract 0 }) i (record { 0 = 0 })
              (omega (arith, few_lines)))
              ∙ ap (λ (x : ℕ). get_or earned x 0) (stood i k).contract_is;
        }

    earns_all : CreditsOf n its (records entries) firsts seconds amounts
    earns_all =
        credits_are n its (records entries) firsts seconds (earner_at units prices sizes) earned amounts room.rising h.earners by by_line

    pub stood_within : LinesWithin count (lines_at out) amounts
    stood_within =
        record {
          most = omega (arith, h.count_is, few_lines);
          line_within =
              λ k m.
              let listed : k < n = omega (arith, h.count_is) in
              same_within (get_or (lines_at out) k no_line) (get_or its k no_line) (stood k listed) (h.lines.each k listed).within;
          credit_within = λ k m. earns_all.most k (omega (arith, h.count_is));
        }

    pub credited_figures : map pos (figures_from (take count (lines_at out)) (take count amounts)) ≡ figures whole
    credited_figures =
        let places = entries_length most_contracts (λ j. line_at out (j * figures_each)) in
        let length-out : length (take n (lines_at out)) ≡ n = length-take-le n (lines_at out) (omega (arith, few_lines)) in
        let length-its : length (take n its) ≡ n = length-take-le n its (omega (arith, few_lines, h.lines.places)) in
        ap (λ (m : ℕ). map pos (figures_from (take m (lines_at out)) (take m amounts))) h.count_is
        ∙ ap (map pos)
        (same_figures (take n (lines_at out)) (take n its) (take n amounts) (length-out ∙ sym length-its)
        (λ i k.
        let listed : i < n = omega (arith, length-out) in
        subst⁻¹ (λ (l : Line). SameLine l (get_or (take n its) i no_line)) (get_or-take n (lines_at out) i no_line listed)
        (subst⁻¹ (SameLine (get_or (lines_at out) i no_line)) (get_or-take n its i no_line listed) (stood i listed))))
        ∙ answer_is whole h.lawful (all_for whole) h.lines entries h.part run is_run amounts earns_all

-- where only what the figures overwrite has changed, they are written as on the memory before
pub sets_same : (vs before out : List ℤ) (m : ℕ) → length out ≡ length before → length vs ≤ length before → m ≤ length vs → drop m out ≡ drop m before
    → sets out 0 vs ≡ sets before 0 vs
sets_same vs before out m same fits most e =
    sets_front vs out (omega arith)
    ∙ ap (λ (l : List ℤ). vs ++ l) (further (length vs) m out before most e)
    ∙ sym (sets_front vs before fits)
  where
    further : (n m : ℕ) (xs ys : List ℤ) → m ≤ n → drop m xs ≡ drop m ys → drop n xs ≡ drop n ys
    further n zero xs ys h e = ap (drop n) e
    further zero (suc m) xs ys h e = absurd (not-suc-le-zero h)
    further (suc n) (suc m) [] [] h e = refl
    further (suc n) (suc m) [] (y ∷ ys) h e = sym (drop-nil n) ∙ further n m [] ys (le_of_suc-le-suc h) (drop-nil m ∙ e)
    further (suc n) (suc m) (x ∷ xs) [] h e = further n m xs [] (le_of_suc-le-suc h) (e ∙ sym (drop-nil m)) ∙ drop-nil n
    further (suc n) (suc m) (x ∷ xs) (y ∷ ys) h e = further n m xs ys (le_of_suc-le-suc h) e

-- figures that are written stand from the front
pub sets_stand : (vs before out : List ℤ) → length vs ≤ length before → length out ≡ length before → out ≡ sets before 0 vs → out ≡ sets out 0 vs
sets_stand vs before out fits same e =
    e ∙ sym (sets_same vs before out (length vs) same fits (omega arith) (ap (drop (length vs)) e ∙ drop-sets vs before 0 (length vs) (omega arith)))

-- ---- the table's steps are run over the contracts that stand in its arrays

module _ (whole : List Record) (law : Lawful whole) (out : List ℤ) (tiers : List ℕ) (nets : List ℤ) (units prices sizes : List ℕ)
    (is : TabledIn whole out tiers nets units prices sizes) (count : ℕ) (all : count ≡ length (contracts_of whole)) (entries : List ℕ)
    (ep : PartOf whole entry_part entries) (table : Table) (te : TableOf intercontract entries table) where
  pub tabled_tiers : TiersFrom (length (contracts_of whole)) (lines_for whole) (prompts_in count tiers nets)
  tabled_tiers =
      subst⁻¹ (λ (k : ℕ). TiersFrom (length (contracts_of whole)) (lines_for whole) (prompts_in k tiers nets)) all is.tiers_are

  table_fits : TableRoom (length (contracts_of whole)) (lines_for whole) (records entries)
  table_fits = table_room whole law (all_for whole) is.lines entries ep

  -- the steps accept them
  pub tabled_sound : sound (prompts_in count tiers nets) table ≡ true
  tabled_sound = table_sound (length (contracts_of whole)) (lines_for whole) entries (prompts_in count tiers nets) table tabled_tiers te table_fits

  -- the numbers that they form
  pub tabled_formed : (first second : List ℕ) (used unused : List ℤ) → Booked (prompts_in count tiers nets) table (book_in first second used unused)
      → CreditedIn whole count entries units prices sizes first second out
  tabled_formed first second used unused b =
      let book = table_book_is (length (contracts_of whole)) (lines_for whole) entries (prompts_in count tiers nets) table (book_in first second used unused)
      tabled_tiers te table_fits b in
      record {
        lawful = law;
        count_is = all;
        part = ep;
        lines = is.lines;
        stand = is.stand;
        earners = is.earners;
        formed = record { first_is = book.first_is; second_is = book.second_is };
      }

-- ---- the net deltas that stand there are the contracts'

pub tabled_nets : (whole : List Record) (out : List ℤ) (tiers : List ℕ) (nets : List ℤ) (units prices sizes : List ℕ)
    → TabledIn whole out tiers nets units prices sizes → (count : ℕ) → count ≡ length (contracts_of whole)
    → take count nets ≡ map (λ p. p.unused) (map as_tier (contracts whole))
tabled_nets whole out tiers nets units prices sizes is count all =
    let n = length (contracts_of whole) in
    ap (λ (m : ℕ). take m nets) all
    ∙ ap (take n) (sym (deltas_again nets))
    ∙ (lined_tiers whole (all_for whole) is.lines (prompts_in n tiers nets) is.tiers_are).nets_are
    ∙ sym (map-map (λ p. p.unused) as_tier (contracts whole))
