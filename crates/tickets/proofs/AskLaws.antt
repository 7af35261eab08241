-- Tickets in turn, and what is told of a file with its tickets.
-- Assumes nothing.
use Rattle.std.specs.Prelude.{Result, Ok, Err}
use Prim.Native.Nat.{ℕ, ◌+◌, ◌-◌, ◌*◌, ◌/◌, ◌%◌, ◌≤◌, ◌<◌}
use mathlib.Core.Path.{◌≡◌, refl, sym, ap, ap₂, ◌∙◌, subst, subst⁻¹}
use mathlib.Core.Bool.{Bool, true, false, cond}
use mathlib.Core.List.{List}
use native.Mathlib.Omega.{arith}
use native.Mathlib.Numerals.{add-one}
use borrow.Author.Tests.{eq-eqb, ne_eqb, eqb-true}
use lib.Dec.{eqb}
use lib.ListN.{length, take, drop}
use Rattle.account.specs.Check.{most_records}
use Rattle.record.specs.Bytes.{record_bytes}
use Rattle.record.specs.Layout.{Record}
use Rattle.account.specs.Answers.{number_of}
use Rattle.account.specs.Checked.{checked}
use Rattle.account.specs.Records.{record_at, cut}
use Rattle.account.specs.Answers.{Answer}
use Rattle.account.specs.declared.answers.Refusal.TheVariants.{NoTicketLeft}
use Rattle.account.proofs.Earlier.{cut_more, take-cut}
use Rattle.account.proofs.AcceptedOnly.{accepted_only}
use Rattle.account.proofs.Walk.{cut_on, length_cut}
use Rattle.margin.specs.Questions.{not_refused}
use Rattle.tickets.specs.Asked.{tickets_in, of, one_by_one, standing, margin_total, refused_by, answered_by, asked_about, withdrawn_from}
use Rattle.tickets.specs.code.Held.{HoldsAll, OneRefused, HeldWith}
use Rattle.tickets.specs.code.Kept.{KeptBy, withdrawal}
use Rattle.tickets.specs.Ticket.{with_ticket, with_tickets, ticket_checked}
use Rattle.tickets.specs.declared.ask.Asked.{Asked}
use Rattle.tickets.specs.declared.ask.Holding.{Holding}
use Rattle.tickets.specs.declared.ask.Ticketed.{Ticketed}
use Rattle.tickets.specs.declared.kept.Kept.{Kept}
use Rattle.tickets.proofs.CountLaws.{small}
use Rattle.tickets.proofs.Taken.{tickets_last}

-- ---- how many tickets
pub whole-count : (bytes : List ℕ) → length bytes % record_bytes ≡ 0 → length bytes / record_bytes ≡ length (tickets_in bytes)
whole-count bytes z = omega (arith, length_cut ((length bytes + 95) / record_bytes) bytes)

pub part_count : (bytes : List ℕ) → (length bytes % record_bytes ≡ 0 → ⊥) → length bytes / record_bytes + 1 ≡ length (tickets_in bytes)
part_count bytes nz = omega (arith, nz, length_cut ((length bytes + 95) / record_bytes) bytes)

-- ---- accepted or refused
module _ {A : Type 0} (a : Answer) (x y : A) where
  pub if_yes : number_of a ≡ 0 → cond (not_refused a) x y ≡ x
  if_yes z = ap (λ (b : Bool). cond b x y) (eq-eqb (number_of a) 0 z)

  pub if_no : (number_of a ≡ 0 → ⊥) → cond (not_refused a) x y ≡ y
  if_no nz = ap (λ (b : Bool). cond b x y) (ne_eqb (number_of a) 0 nz)

-- ---- tickets in turn
module _ (file bytes : List ℕ) (n : ℕ) where
  -- those from ticket i on, once the first i are put in
  abbrev pub FromOn : ℕ → Ticketed
  FromOn i = one_by_one i (with_tickets file (cut i bytes)) (cut (n - i) (drop (i * record_bytes) bytes))

  pub from_start : one_by_one 0 file (cut n bytes) ≡ FromOn 0
  from_start =
      let e : n - 0 ≡ n = omega arith in
      ap (λ (m : ℕ). one_by_one 0 file (cut m bytes)) (sym e)

  module _ (i : ℕ) (h : i < n) where
    one_more_lem : with_ticket (with_tickets file (cut i bytes)) (record_at bytes i) ≡ with_tickets file (cut (i + 1) bytes)
    one_more_lem =
        sym (tickets_last file (cut i bytes) (record_at bytes i))
        ∙ ap (with_tickets file) (sym (cut_more i bytes) ∙ ap (λ (m : ℕ). cut m bytes) (sym (add-one i)))

    pub from_next : number_of (ticket_checked (with_tickets file (cut i bytes)) (record_at bytes i)) ≡ 0 → FromOn i ≡ FromOn (i + 1)
    from_next z =
        ap (one_by_one i (with_tickets file (cut i bytes))) (cut_on bytes n i h)
        ∙ if_yes (ticket_checked (with_tickets file (cut i bytes)) (record_at bytes i)) _ _ z
        ∙ ap (λ (g : List ℕ). one_by_one (i + 1) g (cut (n - (i + 1)) (drop ((i + 1) * record_bytes) bytes))) one_more_lem

    pub from_stops :
        (a : Answer) → a ≡ ticket_checked (with_tickets file (cut i bytes)) (record_at bytes i) → (number_of a ≡ 0 → ⊥) → of (i + 1) a ≡ FromOn i
    from_stops a e nz =
        ap (of (i + 1)) e
        ∙ sym (ap (one_by_one i (with_tickets file (cut i bytes))) (cut_on bytes n i h)
        ∙ if_no (ticket_checked (with_tickets file (cut i bytes)) (record_at bytes i)) _ _ (λ z. nz (ap number_of e ∙ z)))

  pub from_end : (i : ℕ) → n ≤ i → of i (Ok tt) ≡ FromOn i
  from_end i h =
      let e : n - i ≡ 0 = omega arith in
      ap (λ (m : ℕ). one_by_one i (with_tickets file (cut i bytes)) (cut m (drop (i * record_bytes) bytes))) (sym e)

-- ---- what is told in the end
module _ (file : List ℕ) (ts : List Record) where
  abbrev held : List ℕ
  held = with_tickets file ts

  abbrev ask_by : Record → Ticketed → Asked
  ask_by t v =
      cond (not_refused v.answer)
      (cond (not_refused (ticket_checked held t)) (answered_by (v.ticket + 1) (margin_total held) (margin_total (with_ticket held t)))
      (refused_by (of (v.ticket + 1) (ticket_checked held t))))
      (refused_by v)

  abbrev withdraw_by : Ticketed → Asked
  withdraw_by v =
      cond (not_refused v.answer)
      (cond (eqb v.ticket 0) (refused_by (of 0 (Err NoTicketLeft))) (answered_by v.ticket (margin_total held)
      (margin_total (with_tickets file (take (length ts - 1) ts)))))
      (refused_by v)

  -- the file itself is refused
  module _ (a : Answer) (e : a ≡ checked file) (nz : number_of a ≡ 0 → ⊥) where
    no_file : of 0 a ≡ standing file ts
    no_file = ap (of 0) e ∙ sym (if_no (checked file) (one_by_one 0 file ts) (of 0 (checked file)) (λ z. nz (ap number_of e ∙ z)))

    pub ask_no_file : (t : Record) → refused_by (of 0 a) ≡ asked_about file ts t
    ask_no_file t = sym (ap (ask_by t) (sym no_file) ∙ if_no a _ _ nz)

    pub withdraw_no_file : refused_by (of 0 a) ≡ withdrawn_from file ts
    withdraw_no_file = sym (ap withdraw_by (sym no_file) ∙ if_no a _ _ nz)

  -- the file is accepted
  module _ (ok : checked file ≡ Ok tt) (n : ℕ) (a : Answer) (told : of n a ≡ one_by_one 0 file ts) where
    its : of n a ≡ standing file ts
    its = told ∙ sym (if_yes (checked file) (one_by_one 0 file ts) (of 0 (checked file)) (ap number_of ok))

    pub ask_no_ticket : (number_of a ≡ 0 → ⊥) → (t : Record) → refused_by (of n a) ≡ asked_about file ts t
    ask_no_ticket nz t = sym (ap (ask_by t) (sym its) ∙ if_no a _ _ nz)

    pub withdraw_no_ticket : (number_of a ≡ 0 → ⊥) → refused_by (of n a) ≡ withdrawn_from file ts
    withdraw_no_ticket nz = sym (ap withdraw_by (sym its) ∙ if_no a _ _ nz)

    module _ (z : number_of a ≡ 0) where
      module _ (t : Record) (b : Answer) (i : b ≡ ticket_checked held t) where
        here : asked_about file ts t
            ≡ cond (not_refused (ticket_checked held t)) (answered_by (n + 1) (margin_total held) (margin_total (with_ticket held t)))
            (refused_by (of (n + 1) (ticket_checked held t)))
        here = ap (ask_by t) (sym its) ∙ if_yes a _ _ z

        pub ask_refused : (number_of b ≡ 0 → ⊥) → refused_by (of (n + 1) b) ≡ asked_about file ts t
        ask_refused nz = ap (λ (x : Answer). refused_by (of (n + 1) x)) i ∙ sym (here ∙ if_no (ticket_checked held t) _ _ (λ y. nz (ap number_of i ∙ y)))

        pub ask_answered :
            number_of b ≡ 0 → (r : Asked) → r.ticket ≡ n + 1 → r.answer ≡ b → r.before.0 ≡ margin_total held → r.after.0 ≡ margin_total (with_ticket held t)
            → r ≡ asked_about file ts t
        ask_answered y r e f g h =
            (λ j. record { ticket = e j; answer = (f ∙ accepted_only b y) j; before = record { 0 = g j }; after = record { 0 = h j } })
            ∙ sym (here ∙ if_yes (ticket_checked held t) _ _ (ap number_of (sym i) ∙ y))

      there : withdrawn_from file ts ≡ cond (eqb n 0) (refused_by (of 0 (Err NoTicketLeft)))
          (answered_by n (margin_total held) (margin_total (with_tickets file (take (length ts - 1) ts))))
      there = ap withdraw_by (sym its) ∙ if_yes a _ _ z

      pub withdraw_none : (b : Answer) → n ≡ 0 → b ≡ Err NoTicketLeft → refused_by (of n b) ≡ withdrawn_from file ts
      withdraw_none b e f =
          ap₂ (λ (m : ℕ) (x : Answer). refused_by (of m x)) e f
          ∙ sym (there
          ∙ ap (λ (t : Bool). cond t (refused_by (of 0 (Err NoTicketLeft)))
          (answered_by n (margin_total held) (margin_total (with_tickets file (take (length ts - 1) ts))))) (eq-eqb n 0 e))

      pub withdraw_answered :
          (n ≡ 0 → ⊥) → (r : Asked) → r.ticket ≡ n → r.answer ≡ Ok tt → r.before.0 ≡ margin_total held
          → r.after.0 ≡ margin_total (with_tickets file (take (length ts - 1) ts)) → r ≡ withdrawn_from file ts
      withdraw_answered nz r e f g h =
          (λ j. record { ticket = e j; answer = f j; before = record { 0 = g j }; after = record { 0 = h j } })
          ∙ sym (there
          ∙ ap (λ (t : Bool). cond t (refused_by (of 0 (Err NoTicketLeft)))
          (answered_by n (margin_total held) (margin_total (with_tickets file (take (length ts - 1) ts))))) (ne_eqb n 0 nz))

-- ---- the tickets that are kept
none_left : (m : ℕ) → (number_of (withdrawal m) ≡ 0 → ⊥) → m ≡ 0
none_left m nz = go (eqb m 0) refl
  where
    go : (b : Bool) → eqb m 0 ≡ b → m ≡ 0
    go true e = eqb-true m 0 e
    go false e = absurd (nz (ap (λ (b : Bool). number_of (cond b (Err NoTicketLeft) (Ok tt))) e))

pub some_left : (m : ℕ) → number_of (withdrawal m) ≡ 0 → m ≡ 0 → ⊥
some_left m z e =
    let y : ◌≡◌ {A = ℕ} 22 0 = sym (ap (λ (n : ℕ). number_of (withdrawal n)) e) ∙ z in
    omega arith

module _ (file bytes : List ℕ) (k : Kept) (kb : KeptBy file (tickets_in bytes) k) where
  pub few_tickets : length (tickets_in bytes) ≤ most_records
  few_tickets = omega (arith, kb.counts.many, (small file (tickets_in bytes) k.counts kb.counts).tickets_few)

  how_many : k.counts.tickets ≡ (length bytes + 95) / record_bytes
  how_many = kb.counts.many ∙ length_cut ((length bytes + 95) / record_bytes) bytes

  pub kept_cut : KeptBy file (cut k.counts.tickets bytes) k
  kept_cut = subst⁻¹ (λ (n : ℕ). KeptBy file (cut n bytes) k) how_many kb

  pub but_last : cut (k.counts.tickets - 1) bytes ≡ take (length (tickets_in bytes) - 1) (tickets_in bytes)
  but_last =
      ap (λ (n : ℕ). cut (n - 1) bytes) kb.counts.many
      ∙ sym (take-cut (length (tickets_in bytes) - 1) ((length bytes + 95) / record_bytes) bytes (omega (
        arith,
        length_cut
            ((length bytes + 95) / record_bytes) bytes,
      )))

  pub nothing_left : (b : Answer) → b ≡ withdrawal k.counts.tickets → (number_of b ≡ 0 → ⊥) → (length (tickets_in bytes) ≡ 0) × (b ≡ Err NoTicketLeft)
  nothing_left b e nz =
      let z = none_left k.counts.tickets (λ y. nz (ap number_of e ∙ y)) in
      (sym kb.counts.many ∙ z, e ∙ ap withdrawal z)

-- ---- what is known of the file with its tickets where it is looked at, and not taken
module _ (file : List ℕ) (tickets : List Record) (r : Result Holding Ticketed) (h : HeldWith file tickets r) where
  pub holds_all : (x : Holding) → r ≡ Ok x → HoldsAll file tickets x
  holds_all x e = subst (HeldWith file tickets) e h

  pub one_refused : (t : Ticketed) → r ≡ Err t → OneRefused file tickets t
  one_refused t e = subst (HeldWith file tickets) e h
