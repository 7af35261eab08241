-- The claims about a ticket.
-- Assumes nothing.
use Rattle.std.specs.Prelude.{Ok, Err}
use Prim.Native.Nat.{ℕ, ◌≤◌, ◌<◌}
use mathlib.Core.Path.{◌≡◌, refl, sym, ap, ap₂, ◌∙◌, subst, subst⁻¹}
use mathlib.Core.Bool.{Bool, true, false, not, ◌&&◌, cond}
use mathlib.Core.List.{List, [], ◌∷◌, ◌++◌}
use lib.Dec.{eqb, leb, lit<}
use lib.ListN.{length, take, drop, length-append, take-append-drop}
use native.Mathlib.Omega.{arith}
use borrow.Author.Tests.{eqb-true, eqb-false, leb-true, leb-false}
use Rattle.record.specs.Bytes.{record_bytes}
use Rattle.record.specs.Layout.{Record, kind, contract}
use Rattle.account.specs.Answers.{number_of, record_of, refusal}
use Rattle.record.specs.Ranges.{unused_byte, field_outside}
use Rattle.account.specs.Check.{the_one_before, unlisted, out_of_order, over_limit, ◌when◌, first_of, most_records}
use Rattle.account.specs.Checked.{checked}
use Rattle.exact.specs.Iff.{Iff}
use Rattle.account.specs.Parts.{of_kind, rates_of}
use Rattle.account.specs.Products.{has_rate, conversion_beyond}
use Rattle.account.specs.Records.{records, record_count}
use Rattle.account.specs.Answers.{Answer}
use Rattle.account.specs.declared.answers.Refusal.TheVariants.{TooLong, CutRecord, UnknownKind}
use Rattle.account.proofs.Exactly.{Rising, none-given, leads, leads_back, clean_back}
use Rattle.tickets.specs.Claims.{OneRowMore, PutIn, TicketGives, TicketRow, FirstFor, NoneFor, Exactly, Claims}
use Rattle.tickets.specs.Ticket.{place, with_ticket, ahead, row_refusals, row_fault, ticket_checked}
use Rattle.tickets.proofs.Inserted.{rows_with, rows_without, contracts_same, prompts_same, spreads_same, entries_same, rates_same, never_4, never_8}
use Rattle.tickets.proofs.Placed.{records_with, apart_at, before_at_lem, checked_with, full_with_lem}

-- ---- the row put in
length-put : (n : ℕ) (t : Record) (rs : List Record) → length (take n rs ++ t ∷ drop n rs) ≡ length (t ∷ rs)
length-put n t rs =
    let a = length-append (take n rs) (t ∷ drop n rs) in
    let b = length-append (take n rs) (drop n rs) in
    let c = ap length (take-append-drop n rs) in
    omega arith

-- the numbers that a row's refusal may have, and what is told by them
pub record Numbered (n k : ℕ) : Type 0 where
  pub low : 5 ≤ n
  pub high : n ≤ 15
  pub number : number_of (refusal n k) ≡ n
  pub record_is : record_of (refusal n k) ≡ k

numbered :
    (a b c d e f g : Bool) (n k : ℕ)
    → first_of (5 when a ∷ 6 when b ∷ 7 when c ∷ 8 when d ∷ 9 when e ∷ 14 when f ∷ 15 when g ∷ []) ≡ n → (n ≡ 0 → ⊥) → Numbered n k
numbered true b c d e f g n k h nz = subst (λ (m : ℕ). Numbered m k) h (record { low = omega arith; high = omega arith; number = refl; record_is = refl })
numbered false true c d e f g n k h nz = subst (λ (m : ℕ). Numbered m k) h (record { low = omega arith; high = omega arith; number = refl; record_is = refl })
numbered false false true d e f g n k h nz = subst (λ (m : ℕ). Numbered m k) h
    (record { low = omega arith; high = omega arith; number = refl; record_is = refl })
numbered false false false true e f g n k h nz = subst (λ (m : ℕ). Numbered m k) h
    (record { low = omega arith; high = omega arith; number = refl; record_is = refl })
numbered false false false false true f g n k h nz = subst (λ (m : ℕ). Numbered m k) h
    (record { low = omega arith; high = omega arith; number = refl; record_is = refl })
numbered false false false false false true g n k h nz = subst (λ (m : ℕ). Numbered m k) h
    (record { low = omega arith; high = omega arith; number = refl; record_is = refl })
numbered false false false false false false true n k h nz = subst (λ (m : ℕ). Numbered m k) h
    (record { low = omega arith; high = omega arith; number = refl; record_is = refl })
numbered false false false false false false false n k h nz = absurd (nz (sym h))

module _ (file : List ℕ) (t : Record) where
  abbrev p : ℕ
  p = place t (records file)

  abbrev fault : ℕ
  fault = row_fault file t

  rising : Rising 0 (row_refusals file t)
  rising = (lit< tt, (lit< tt, (lit< tt, (lit< tt, (lit< tt, (lit< tt, (lit< tt, tt)))))))

  fault_numbered : (n : ℕ) → fault ≡ n → (n ≡ 0 → ⊥) → Numbered n p
  fault_numbered n e nz =
      let es = ahead file t in
      let rates = rates_of (records file) in
      numbered (unused_byte t) (field_outside t) (unlisted es t) (out_of_order (the_one_before es) t) (over_limit es t)
      (of_kind 3 t && not (has_rate rates t)) (of_kind 3 t && conversion_beyond rates t) n p e nz

  -- ---- what a ticket is told, case by case
  abbrev shape : Bool → Bool → Bool → Bool → Answer
  shape whole row none full =
      cond (not whole) (Err CutRecord) (cond (not row) (Err (UnknownKind p)) (cond none (cond full (Err TooLong) (Ok tt)) (refusal fault p)))

  pub shaped :
      (w k z f : Bool) → eqb (length t) record_bytes ≡ w → eqb (kind t) 3 ≡ k → eqb fault 0 ≡ z → leb most_records (record_count file) ≡ f
      → ticket_checked file t ≡ shape w k z f
  shaped w k z f e i h l =
      ap₂ (λ (a b : Bool). shape a b (eqb fault 0) (leb most_records (record_count file))) e i ∙ ap₂ (λ (a b : Bool). shape w k a b) h l

  pub record Told (P : Type 0) : Type 0 where
    pub two : (length t ≡ record_bytes → ⊥) → ticket_checked file t ≡ Err CutRecord → P
    pub three : length t ≡ record_bytes → (kind t ≡ 3 → ⊥) → ticket_checked file t ≡ Err (UnknownKind p) → P
    pub row : TicketRow t → (fault ≡ 0 → ⊥) → ticket_checked file t ≡ refusal fault p → P
    pub one : TicketRow t → fault ≡ 0 → most_records ≤ record_count file → ticket_checked file t ≡ Err TooLong → P
    pub accepted : TicketRow t → fault ≡ 0 → record_count file < most_records → ticket_checked file t ≡ Ok tt → P

  pub told : {P : Type 0} → Told P → P
  told {P} cases = go (eqb (length t) record_bytes) refl (eqb (kind t) 3) refl (eqb fault 0) refl (leb most_records (record_count file)) refl
    where
      go :
          (w : Bool) → eqb (length t) record_bytes ≡ w → (k : Bool) → eqb (kind t) 3 ≡ k → (z : Bool) → eqb fault 0 ≡ z
          → (f : Bool) → leb most_records (record_count file) ≡ f → P
      go false e k i z h f l = cases.two (eqb-false (length t) record_bytes e) (shaped false k z f e i h l)
      go true e false i z h f l = cases.three (eqb-true (length t) record_bytes e) (eqb-false (kind t) 3 i) (shaped true false z f e i h l)
      go true e true i false h f l =
          cases.row (record { whole = eqb-true (length t) record_bytes e; row = eqb-true (kind t) 3 i }) (eqb-false fault 0 h)
          (shaped true true false f e i h l)
      go true e true i true h true l =
          cases.one (record { whole = eqb-true (length t) record_bytes e; row = eqb-true (kind t) 3 i }) (eqb-true fault 0 h)
          (leb-true most_records (record_count file) l) (shaped true true true true e i h l)
      go true e true i true h false l =
          cases.accepted (record { whole = eqb-true (length t) record_bytes e; row = eqb-true (kind t) 3 i }) (eqb-true fault 0 h)
          (leb-false most_records (record_count file) l) (shaped true true true false e i h l)

  gives : {a : Answer} (n k : ℕ) → ticket_checked file t ≡ a → number_of a ≡ n → record_of a ≡ k → TicketGives file t n k
  gives n k e i j = record { number = ap number_of e ∙ i; record_is = ap record_of e ∙ j }

  other : {a : Answer} {P : Type 0} (n m k : ℕ) → TicketGives file t n k → ticket_checked file t ≡ a → number_of a ≡ m → (n ≡ m → ⊥) → P
  other n m k g e i d = absurd (d (sym g.number ∙ ap number_of e ∙ i))

  fault_gives : (fault ≡ 0 → ⊥) → number_of (refusal fault p) ≡ fault
  fault_gives nz = (fault_numbered fault refl nz).number

  fault_at_lem : (fault ≡ 0 → ⊥) → record_of (refusal fault p) ≡ p
  fault_at_lem nz = (fault_numbered fault refl nz).record_is

  none_of : fault ≡ 0 → NoneFor file t
  none_of z = none-given 0 (row_refusals file t) rising z

  pub none_told : ticket_checked file t ≡ Ok tt → fault ≡ 0
  none_told h =
      told (record {
        two = λ d e. differs 2 e h refl (λ i. omega arith);
        three = λ w d e. differs 3 e h refl (λ i. omega arith);
        row = λ r nz e. differs fault e h (fault_gives nz) nz;
        one = λ r z f e. z;
        accepted = λ r z f e. z;
      })
    where
      differs : {a : Answer} {P : Type 0} (n : ℕ) → ticket_checked file t ≡ a → ticket_checked file t ≡ Ok tt → number_of a ≡ n → (n ≡ 0 → ⊥) → P
      differs n e h i d = absurd (d (sym i ∙ ap number_of (sym e ∙ h)))

  none_back : NoneFor file t → fault ≡ 0
  none_back f = clean_back 0 (row_refusals file t) rising f

  module _ (n : ℕ) (low : 5 ≤ n) where
    first_of_lem : fault ≡ n → FirstFor file t n
    first_of_lem e =
        let l = leads 0 (row_refusals file t) rising n e (λ z. omega arith) in
        record { holds = l.holds; first = l.first }

    first_back : FirstFor file t n → fault ≡ n
    first_back f = leads_back 0 (row_refusals file t) rising n f.holds f.first

  pub exactly : Exactly file t
  exactly =
      record {
        two =
            record {
              forth = λ g.
                  told (record {
                    two = λ d e. d;
                    three = λ w d e. other 2 3 0 g e refl (λ i. omega arith);
                    row = λ r nz e.
                        let x = (fault_numbered fault refl nz).low in
                        other 2 fault 0 g e (fault_gives nz) (λ i. omega arith);
                    one = λ r z f e. other 2 1 0 g e refl (λ i. omega arith);
                    accepted = λ r z f e. other 2 0 0 g e refl (λ i. omega arith);
                  });
              back = λ d.
                  told (record {
                    two = λ _ e. gives 2 0 e refl refl;
                    three = λ w _ e. absurd (d w);
                    row = λ r nz e. absurd (d r.whole);
                    one = λ r z f e. absurd (d r.whole);
                    accepted = λ r z f e. absurd (d r.whole);
                  });
            };
        three =
            record {
              forth = λ g.
                  told (record {
                    two = λ d e. other 3 2 p g e refl (λ i. omega arith);
                    three = λ w d e. (w, d);
                    row = λ r nz e.
                        let x = (fault_numbered fault refl nz).low in
                        other 3 fault p g e (fault_gives nz) (λ i. omega arith);
                    one = λ r z f e. other 3 1 p g e refl (λ i. omega arith);
                    accepted = λ r z f e. other 3 0 p g e refl (λ i. omega arith);
                  });
              back = λ d.
                  told (record {
                    two = λ n e. absurd (n d.0);
                    three = λ w _ e. gives 3 p e refl refl;
                    row = λ r nz e. absurd (d.1 r.row);
                    one = λ r z f e. absurd (d.1 r.row);
                    accepted = λ r z f e. absurd (d.1 r.row);
                  });
            };
        row = λ n low high.
            record {
              forth = λ g.
                  told (record {
                    two = λ d e. other n 2 p g e refl (λ i. omega arith);
                    three = λ w d e. other n 3 p g e refl (λ i. omega arith);
                    row = λ r nz e.
                        (r, first_of_lem n low (sym (fault_gives nz) ∙ sym (ap number_of e) ∙ g.number));
                    one = λ r z f e. other n 1 p g e refl (λ i. omega arith);
                    accepted = λ r z f e. other n 0 p g e refl (λ i. omega arith);
                  });
              back = λ d.
                  let x = first_back n low d.1 in
                  told (record {
                    two = λ i e. absurd (i d.0.whole);
                    three = λ w i e. absurd (i d.0.row);
                    row = λ r nz e. gives n p e (fault_gives nz ∙ x) (fault_at_lem nz);
                    one = λ r z f e. absurd (omega arith);
                    accepted = λ r z f e. absurd (omega arith);
                  });
            };
        one =
            record {
              forth = λ g.
                  told (record {
                    two = λ d e. other 1 2 0 g e refl (λ i. omega arith);
                    three = λ w d e. other 1 3 0 g e refl (λ i. omega arith);
                    row = λ r nz e.
                        let x = (fault_numbered fault refl nz).low in
                        other 1 fault 0 g e (fault_gives nz) (λ i. omega arith);
                    one = λ r z f e. (r, (none_of z, f));
                    accepted = λ r z f e. other 1 0 0 g e refl (λ i. omega arith);
                  });
              back = λ d.
                  told (record {
                    two = λ i e. absurd (i d.0.whole);
                    three = λ w i e. absurd (i d.0.row);
                    row = λ r nz e. absurd (nz (none_back d.1.0));
                    one = λ r z f e. gives 1 0 e refl refl;
                    accepted = λ r z f e.
                        let x = d.1.1 in
                        absurd (omega arith);
                  });
            };
        accepted =
            record {
              forth = λ g.
                  told (record {
                    two = λ d e. other 0 2 0 g e refl (λ i. omega arith);
                    three = λ w d e. other 0 3 0 g e refl (λ i. omega arith);
                    row = λ r nz e. other 0 fault 0 g e (fault_gives nz) (λ i. nz (sym i));
                    one = λ r z f e. other 0 1 0 g e refl (λ i. omega arith);
                    accepted = λ r z f e. (r, (none_of z, f));
                  });
              back = λ d.
                  told (record {
                    two = λ i e. absurd (i d.0.whole);
                    three = λ w i e. absurd (i d.0.row);
                    row = λ r nz e. absurd (nz (none_back d.1.0));
                    one = λ r z f e.
                        let x = d.1.1 in
                        absurd (omega arith);
                    accepted = λ r z f e. gives 0 0 e refl refl;
                  });
            };
      }

  -- ---- a row put into an accepted file
  module _ (ok : checked file ≡ Ok tt) (r : TicketRow t) where
    pub one_row_more : OneRowMore t (records file) (records (with_ticket file t))
    one_row_more =
        let rs = records file in
        let row = r.row in
        subst⁻¹ (OneRowMore t rs) (records_with file ok t r.whole)
        (record {
          length_is = length-put p t rs;
          contracts = contracts_same t row p rs;
          prompts = λ c. prompts_same t row p c rs;
          rows = rows_with t row p (contract t) rs (apart_at file ok t r.whole row) refl;
          other_rows = λ c d. rows_without t row p c rs d;
          spreads = λ c. spreads_same t row p c rs;
          entries = entries_same t row p rs;
          rates = rates_same t row p rs;
        })

    -- what the ticket is told is Accepted only with room
    room_of : ticket_checked file t ≡ Ok tt → record_count file < most_records
    room_of h = (exactly.accepted.forth (record { number = ap number_of h; record_is = ap record_of h })).1.1

    same_verdict : Iff (ticket_checked file t ≡ Ok tt) (checked (with_ticket file t) ≡ Ok tt)
    same_verdict =
        record {
          forth = λ h. checked_with file ok t r.whole r.row (room_of h) ∙ h;
          back = λ h. go h (leb most_records (record_count file)) refl;
        }
      where
        go : checked (with_ticket file t) ≡ Ok tt → (b : Bool) → leb most_records (record_count file) ≡ b → ticket_checked file t ≡ Ok tt
        go h false e = sym (checked_with file ok t r.whole r.row (leb-false most_records (record_count file) e)) ∙ h
        go h true e =
            let z : ◌≡◌ {A = ℕ} 1 0 = ap number_of (sym (full_with_lem file ok t r.whole r.row (leb-true most_records (record_count file) e)) ∙ h) in
            absurd (omega arith)

    pub put_in : PutIn file t
    put_in =
        let b = before_at_lem file ok t r.whole r.row in
        record {
          records_are = records_with file ok t r.whole;
          parts = one_row_more;
          says = checked_with file ok t r.whole r.row;
          accepted = same_verdict;
          never_4 = never_4 t r.row (the_one_before (ahead file t)) b;
          never_8 = never_8 t r.row (the_one_before (ahead file t)) b;
        }

pub claims : (file : List ℕ) (t : Record) → Claims file t
claims file t = record { exactly = exactly file t; put_in = put_in file t }
