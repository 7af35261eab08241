-- A ticket added to the lent bytes: what is told, and what they hold then, by where the ticket would stand.
-- Assumes nothing.
use Rattle.std.specs.Prelude.{Ok, Err}
use Prim.Native.Nat.{ℕ, ◌+◌, ◌*◌, ◌≤◌, ◌<◌}
use native.Mathlib.Omega.{arith}
use mathlib.Core.Path.{◌≡◌, sym, ap, ◌∙◌}
use mathlib.Core.List.{List, ◌++◌}
use lib.ListN.{length, drop}
use lib.Seq.{length-take-le}
use Rattle.record.specs.Layout.{Record, record_bytes}
use Rattle.account.specs.Checked.{checked}
use Rattle.account.specs.Records.{records}
use Rattle.account.specs.declared.answers.Refusal.{Refusal}
use Rattle.account.specs.declared.answers.Refusal.TheVariants.{TooFewBytes}
use Rattle.account.proofs.AcceptedOnly.{refused_some, then_given, given_refused}
use Rattle.tickets.specs.Ticket.{place, with_ticket, ticket_checked}
use Rattle.screen.specs.code.Held.{order_in, placed_in, put_at}
use Rattle.screen.specs.code.Inserting.{inserted}
use Rattle.screen.specs.Screen.{held, order_answer}
use Rattle.screen.proofs.ScreenLaws.{both, order_lacking, order_lent, put_in, Comes, not-added, when_added, add_refused, add_no_room, add_room}
use Rattle.screen.proofs.TicketLaws.{ticket_long, stands_within}

-- ---- a file, by where a ticket would stand in it

module _ (file : List ℕ) (ticket : Record) (at : ℕ) (p : Ok at ≡ placed_in file ticket) where
  given : (order_in file ticket ≡ Ok tt) × (at ≡ place ticket (records file) * record_bytes)
  given = then_given (order_in file ticket) (sym p)

  stood : (checked file ≡ Ok tt) × (ticket_checked file ticket ≡ Ok tt)
  stood = both (checked file) (ticket_checked file ticket) given.0

  pub whole : length ticket ≡ record_bytes
  whole = ticket_long file ticket stood.0 stood.1

  pub within : at ≤ length file
  within =
      let is = given.1 in
      let w = stands_within file ticket stood.0 in
      omega (arith, is, w)

  pub put_is : put_at at ticket file ≡ with_ticket file ticket
  put_is = ap (λ (n : ℕ). put_at n ticket file) given.1

-- ---- lent bytes

module _ (lent : List ℕ) (named : ℕ) (ticket : Record) where
  pub none_lent : length lent < named → Comes lent named ticket (Err TooFewBytes) lent
  none_lent h =
      let e = order_lacking lent named ticket h in
      not-added lent named ticket TooFewBytes (add_refused lent named ticket (refused_some (sym e)) ∙ e)

  module _ (h : named ≤ length lent) where
    pub refused : (r : Refusal) → Err r ≡ placed_in (held lent named) ticket → Comes lent named ticket (Err r) lent
    refused r p =
        let e : order_answer lent named ticket ≡ Err r = order_lent lent named ticket h ∙ given_refused (order_in (held lent named) ticket) _ (sym p) in
        not-added lent named ticket r (add_refused lent named ticket (refused_some (sym e)) ∙ e)

    module _ (at : ℕ) (p : Ok at ≡ placed_in (held lent named) ticket) where
      in_order : order_answer lent named ticket ≡ Ok tt
      in_order = order_lent lent named ticket h ∙ (given (held lent named) ticket at p).0

      pub no_room_lem : length lent < named + record_bytes → Comes lent named ticket (Err TooFewBytes) lent
      no_room_lem g = not-added lent named ticket TooFewBytes (add_no_room lent named ticket in_order g)

      pub at_named : at ≤ named
      at_named =
          let w = within (held lent named) ticket at p in
          let n = length-take-le named lent h in
          omega (arith, w, n)

      pub room : named + record_bytes ≤ length lent → (lent' : List ℕ) → lent' ≡ inserted at named ticket lent
          → Comes lent named ticket (Ok (named + record_bytes)) lent'
      room g lent' e =
          let c = when_added lent named ticket (add_room lent named ticket in_order g) in
          record {
            is = c.is;
            after =
                e
                ∙ put_in lent named at ticket h at_named
                ∙ ap (λ (xs : List ℕ). xs ++ drop (named + record_bytes) lent) (put_is (held lent named) ticket at p)
                ∙ c.after;
          }
