-- What each call answers, case by case: of bytes that are lent, the same as of the held file alone.
-- Assumes nothing.
use Rattle.std.specs.Prelude.{Result, Ok, Err}
use Prim.Native.Nat.{ℕ, zero, suc, ◌+◌, ◌-◌, ◌≤◌, ◌<◌}
use native.Mathlib.Nat.{le_of_suc-le-suc, not-suc-le-zero}
use native.Mathlib.Omega.{arith}
use mathlib.Core.Path.{◌≡◌, refl, sym, ap, ◌∙◌}
use mathlib.Core.Bool.{Bool, true, false, cond}
use mathlib.Core.List.{List, [], ◌∷◌, ◌++◌, append_assoc}
use borrow.Author.Tests.{eqb-true, eqb-false, lt-ltb, le-ltb, le-leb, lt-leb, ne_eqb}
use lib.IntN.{ℤ, pos, nat_abs}
use lib.ListN.{length, length-append, length-drop, take, drop}
use lib.Seq.{length-take-le, take-nil, take-take}
use lib.Signed.{lt_z}
use Rattle.record.specs.Layout.{Record, record_bytes}
use Rattle.account.specs.Answers.{number_of, and_then, refusal_number}
use Rattle.account.specs.Checked.{checked}
use Rattle.account.specs.Records.{records}
use Rattle.account.specs.code.Standing.{Stands, CheckedBy}
use Rattle.account.specs.Joined.{account_of}
use Rattle.account.specs.declared.accounts.Account.{Account}
use Rattle.account.specs.declared.answers.Refusal.{Refusal}
use Rattle.account.specs.Answers.{Answer}
use Rattle.account.specs.declared.answers.Refusal.TheVariants.{TooFewBytes, LimitBelowZero}
use Rattle.account.proofs.AcceptedOnly.{refused_some, still_refused, then_given}
use Rattle.account.proofs.Places.{alone}
use Rattle.account.proofs.Alone.{passes}
use Rattle.margin.specs.Figures.{account_total}
use Rattle.margin.specs.Questions.{not_refused, if_accepted}
use Rattle.formulas.specs.declared.amount.Amount.{Amount}
use Rattle.margin.proofs.QuestionLaws.{accepted_only, if_accepted_lem, if_refused}
use Rattle.tickets.specs.Ticket.{with_ticket, ticket_checked}
use Rattle.screen.specs.code.Held.{order_in, total_in, asked_in, put_at}
use Rattle.screen.specs.code.Inserting.{inserted}
use Rattle.screen.specs.Screen.{held, load_answer, order_answer, no_room, add_answer, after_add, added, amount_of, total_held, total_read, total_with, limit_answer}
use Rattle.screen.specs.Screen.{weighed, limited}
use Rattle.screen.specs.declared.Limited.TheVariants.{Within, Over}

-- ---- one answer, then the next

pub both : (a next : Answer) → if_accepted a next ≡ Ok tt → (a ≡ Ok tt) × (next ≡ Ok tt)
both a next e = go (not_refused a) refl
  where
    go : (t : Bool) → not_refused a ≡ t → (a ≡ Ok tt) × (next ≡ Ok tt)
    go true h =
        let fine = accepted_only a (eqb-true (number_of a) 0 h) in
        (fine, sym (if_accepted_lem a next fine) ∙ e)
    go false h =
        let some = eqb-false (number_of a) 0 h in
        absurd (some (ap number_of (sym (if_refused a next some) ∙ e)))

-- ---- the named bytes, lent or not

module _ (lent : List ℕ) (named : ℕ) where
  pub lacking : length lent < named → load_answer lent named ≡ Err TooFewBytes
  lacking h = ap (λ (t : Bool). cond t (Err TooFewBytes) (checked (held lent named))) (lt-ltb (length lent) named h)

  pub all_lent : named ≤ length lent → load_answer lent named ≡ checked (held lent named)
  all_lent h = ap (λ (t : Bool). cond t (Err TooFewBytes) (checked (held lent named))) (le-ltb (length lent) named h)

  total_by : (a : Answer) → load_answer lent named ≡ a → total_read lent named ≡ and_then a (Ok (amount_of (total_held lent named)))
  total_by a e = ap (λ (a : Answer). and_then a (Ok (amount_of (total_held lent named)))) e

  pub total_lacking : length lent < named → total_read lent named ≡ Err TooFewBytes
  total_lacking h = total_by (Err TooFewBytes) (lacking h)

  pub total_lent : named ≤ length lent → total_read lent named ≡ total_in (held lent named)
  total_lent h = total_by (checked (held lent named)) (all_lent h)

  module _ (ticket : Record) where
    pub order_lacking : length lent < named → order_answer lent named ticket ≡ Err TooFewBytes
    order_lacking h = ap (λ (a : Answer). if_accepted a (ticket_checked (held lent named) ticket)) (lacking h)

    pub order_lent : named ≤ length lent → order_answer lent named ticket ≡ order_in (held lent named) ticket
    order_lent h = ap (λ (a : Answer). if_accepted a (ticket_checked (held lent named) ticket)) (all_lent h)

-- ---- the limit

pub weigh_yes : (limit : ℕ) (total : Amount) → total.0 ≤ limit → Within total ≡ weighed limit total.0
weigh_yes limit total h = sym (ap (λ (t : Bool). cond t (Within total) (Over total)) (le-leb total.0 limit h))

pub weigh_no : (limit : ℕ) (total : Amount) → limit < total.0 → Over total ≡ weighed limit total.0
weigh_no limit total h = sym (ap (λ (t : Bool). cond t (Within total) (Over total)) (lt-leb total.0 limit h))

module _ (lent : List ℕ) (named : ℕ) (ticket : Record) (limit : ℤ) where
  limited_by : (a : Answer) → limit_answer lent named ticket limit ≡ a
      → limited lent named ticket limit ≡ and_then a (Ok (weighed (nat_abs limit) (total_with lent named ticket)))
  limited_by a e = ap (λ (a : Answer). and_then a (Ok (weighed (nat_abs limit) (total_with lent named ticket)))) e

  pub limit_below : lt_z limit (pos 0) ≡ true → limit_answer lent named ticket limit ≡ Err LimitBelowZero
  limit_below e = ap (λ (t : Bool). cond t (Err LimitBelowZero) (order_answer lent named ticket)) e

  pub limit_stands : lt_z limit (pos 0) ≡ false → limit_answer lent named ticket limit ≡ order_answer lent named ticket
  limit_stands e = ap (λ (t : Bool). cond t (Err LimitBelowZero) (order_answer lent named ticket)) e

  pub below_zero : lt_z limit (pos 0) ≡ true → limited lent named ticket limit ≡ Err LimitBelowZero
  below_zero e = limited_by (Err LimitBelowZero) (limit_below e)

  pub limit_lacking : lt_z limit (pos 0) ≡ false → length lent < named → limited lent named ticket limit ≡ Err TooFewBytes
  limit_lacking e h = limited_by (Err TooFewBytes) (limit_stands e ∙ order_lacking lent named ticket h)

  module _ (e : lt_z limit (pos 0) ≡ false) (h : named ≤ length lent) where
    asked_is : limit_answer lent named ticket limit ≡ order_in (held lent named) ticket
    asked_is = limit_stands e ∙ order_lent lent named ticket h

    -- what the total is asked about with, is weighed
    limit_by : limited lent named ticket limit ≡ and_then (order_in (held lent named) ticket) (Ok (weighed (nat_abs limit) (total_with lent named ticket)))
    limit_by = limited_by (order_in (held lent named) ticket) asked_is

    pub limit_refused : (r : Refusal) → Err r ≡ asked_in (held lent named) ticket → Err r ≡ limited lent named ticket limit
    limit_refused r e = sym (limit_by ∙ still_refused (order_in (held lent named) ticket) _ _ (sym e))

    pub limit_asked : (total : Amount) → Ok total ≡ asked_in (held lent named) ticket → Ok (weighed (nat_abs limit) total.0) ≡ limited lent named ticket limit
    limit_asked total e =
        let given = then_given (order_in (held lent named) ticket) (sym e) in
        ap (λ (a : Amount). Ok (weighed (nat_abs limit) a.0)) given.1
        ∙ sym (limit_by ∙ ap (λ (a : Answer). and_then a (Ok (weighed (nat_abs limit) (total_with lent named ticket)))) given.0)

-- ---- adding

taken : (n i : ℕ) (xs : List ℕ) → i ≤ n → take (n - i) (drop i xs) ≡ drop i (take n xs)
taken n zero xs h =
    let e : n - 0 ≡ n = omega arith in
    ap (λ (m : ℕ). take m xs) e
taken zero (suc i) xs h = absurd (not-suc-le-zero h)
taken (suc n) (suc i) [] h = take-nil (suc n - suc i)
taken (suc n) (suc i) (x ∷ xs) h =
    let e : suc n - suc i ≡ n - i = omega arith in
    ap (λ (m : ℕ). take m (drop i xs)) e ∙ taken n i xs (le_of_suc-le-suc h)

-- a record put among the held bytes, in place
pub put_in : (lent : List ℕ) (named at : ℕ) (ticket : List ℕ) → named ≤ length lent → at ≤ named
    → inserted at named ticket lent ≡ (take at (held lent named) ++ (ticket ++ drop at (held lent named))) ++ drop (named + record_bytes) lent
put_in lent named at ticket h g =
    let rest = drop (named + record_bytes) lent in
    ap (λ (xs : List ℕ). xs ++ (ticket ++ (take (named - at) (drop at lent) ++ rest))) (sym (take-take at named lent g))
    ∙ ap (λ (xs : List ℕ). take at (held lent named) ++ (ticket ++ (xs ++ rest))) (taken named at lent g)
    ∙ ap (λ (xs : List ℕ). take at (held lent named) ++ xs) (sym (append_assoc ticket (drop at (held lent named)) rest))
    ∙ sym (append_assoc (take at (held lent named)) (ticket ++ drop at (held lent named)) rest)

pub put_long : (at : ℕ) (row file : List ℕ) → at ≤ length file → length (put_at at row file) ≡ length file + length row
put_long at row file h =
    let t = length-take-le at file h in
    let d = length-drop at file in
    let p = length-append (take at file) (row ++ drop at file) in
    let q = length-append row (drop at file) in
    omega (arith, h, t, d, p, q)

-- how a call that adds comes out, with the lent bytes afterwards
pub record Comes (lent : List ℕ) (named : ℕ) (ticket : Record) (r : Result ℕ Refusal) (lent' : List ℕ) : Type 0 where
  pub is : r ≡ added lent named ticket
  pub after : lent' ≡ after_add lent named ticket

module _ (lent : List ℕ) (named : ℕ) (ticket : Record) where
  pub not-added : (r : Refusal) → add_answer lent named ticket ≡ Err r → Comes lent named ticket (Err r) lent
  not-added r e =
      record {
        is = sym (ap (λ (a : Answer). and_then a (Ok (named + record_bytes))) e);
        after = sym (ap (λ (a : Answer). cond (not_refused a) (with_ticket (held lent named) ticket ++ drop (named + record_bytes) lent) lent) e
            ∙ ap (λ (t : Bool). cond t (with_ticket (held lent named) ticket ++ drop (named + record_bytes) lent) lent)
            (ne_eqb (refusal_number r) 0 (refused_some {a = Err r} refl)));
      }

  pub when_added : add_answer lent named ticket ≡ Ok tt
      → Comes lent named ticket (Ok (named + record_bytes)) (with_ticket (held lent named) ticket ++ drop (named + record_bytes) lent)
  when_added e =
      record {
        is = sym (ap (λ (a : Answer). and_then a (Ok (named + record_bytes))) e);
        after = sym (ap (λ (a : Answer). cond (not_refused a) (with_ticket (held lent named) ticket ++ drop (named + record_bytes) lent) lent) e);
      }

  abbrev room_answer : Answer
  room_answer = cond (no_room lent named) (Err TooFewBytes) (Ok tt)

  pub add_refused : (number_of (order_answer lent named ticket) ≡ 0 → ⊥) → add_answer lent named ticket ≡ order_answer lent named ticket
  add_refused h = if_refused (order_answer lent named ticket) room_answer h

  pub add_no_room : order_answer lent named ticket ≡ Ok tt → length lent < named + record_bytes → add_answer lent named ticket ≡ Err TooFewBytes
  add_no_room e h =
      if_accepted_lem (order_answer lent named ticket) room_answer e
      ∙ ap (λ (t : Bool). cond t (Err TooFewBytes) (Ok tt)) (lt-ltb (length lent) (named + record_bytes) h)

  pub add_room : order_answer lent named ticket ≡ Ok tt → named + record_bytes ≤ length lent → add_answer lent named ticket ≡ Ok tt
  add_room e h =
      if_accepted_lem (order_answer lent named ticket) room_answer e
      ∙ ap (λ (t : Bool). cond t (Err TooFewBytes) (Ok tt)) (le-ltb (length lent) (named + record_bytes) h)

-- ---- a file that is checked, by cases

module _ (file : List ℕ) (r : Refusal) (by : CheckedBy file (Err r)) where
  pub total_refused : Err r ≡ total_in file
  total_refused = ap (λ (a : Answer). and_then a (Ok (amount_of (account_total (records file))))) by.answer_is

  pub order_refused : (ticket : Record) → Err r ≡ order_in file ticket
  order_refused ticket = by.answer_is ∙ sym (if_refused (checked file) (ticket_checked file ticket) (refused_some by.answer_is))

module _ (file : List ℕ) (account : Account) (by : CheckedBy file (Ok account)) where
  pub ok : checked file ≡ Ok tt
  ok = sym by.answer_is

  pub order_accepted : (ticket : Record) → order_in file ticket ≡ ticket_checked file ticket
  order_accepted ticket = if_accepted_lem (checked file) (ticket_checked file ticket) ok

  module _ (none : List ℕ) (nothing : none ≡ []) where
    pub file_stands : Stands file none account
    file_stands = by.accepted.stands none nothing

    pub total_accepted : (a : Amount) → a.0 ≡ account_total (account_of file none) → Ok a ≡ total_in file
    total_accepted a e =
        ap (λ (n : ℕ). Ok (amount_of n)) (e ∙ ap account_total (alone file none nothing (passes file ok).recorded))
        ∙ ap (λ (a : Answer). and_then a (Ok (amount_of (account_total (records file))))) by.answer_is
