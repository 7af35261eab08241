use Rattle.std.specs.Prelude.{Result, Ok, Err}
use mathlib.Core.Path.{◌≡◌, refl, sym, ap, ◌∙◌, subst}
use mathlib.Core.List.{List, [], ◌∷◌, ◌++◌}
use Prim.Native.Nat.{ℕ, ◌+◌, ◌/◌}
use native.Mathlib.Omega.{arith}
use native.Mathlib.Numerals.{add-one}
use lib.ListN.{length}
use Rattle.record.specs.Bytes.{record_bytes}
use Rattle.record.specs.Layout.{Record}
use Rattle.account.specs.Answers.{answer_of, number_of}
use Rattle.account.specs.Records.{record_at, cut}
use Rattle.account.specs.declared.answers.Refusal.{Refusal}
use Rattle.account.proofs.AcceptedOnly.{refused_some}
use Rattle.account.proofs.Earlier.{cut_more}
use Rattle.account.proofs.Walk.{length_cut}
use Rattle.tickets.specs.Asked.{tickets_in, one_by_one}
use Rattle.tickets.specs.code.Kept.{AddedTo, KeptBy}
use Rattle.tickets.specs.Ticket.{with_tickets, ticket_checked}
use Rattle.tickets.specs.declared.kept.Kept.{Kept}
use Rattle.tickets.proofs.AskLaws.{FromOn, from_start, from_next, from_stops, from_end}
use Rattle.tickets.proofs.ask.put_in.Goals as goal
use Rattle.tickets.proofs.ask.put_in.Goals.{After-put}

-- as many as there are
all : (bytes : List ℕ) (n : ℕ) → n ≡ length (tickets_in bytes) → cut n bytes ≡ tickets_in bytes
all bytes n e = ap (λ (m : ℕ). cut m bytes) (e ∙ length_cut ((length bytes + 95) / record_bytes) bytes)

-- a ticket, put in by its place
next : (file bytes : List ℕ) (k : Kept) (i : ℕ) (t : Record) → t ≡ record_at bytes i → KeptBy file (cut i bytes ++ t ∷ []) k → KeptBy file (cut (i + 1) bytes) k
next file bytes k i t e kb =
    subst (λ (ts : List Record). KeptBy file ts k)
    (ap (λ (x : Record). cut i bytes ++ x ∷ []) e ∙ sym (cut_more i bytes) ∙ ap (λ (m : ℕ). cut m bytes) (sym (add-one i))) kb

-- what is told of a ticket
told : (c : After-put) (r : Result Kept Refusal) → AddedTo c.args.file.now c.loop-i.held c.record_at.result.now r
    → answer_of r ≡ ticket_checked (with_tickets c.args.file.now (cut c.loop-i.i c.args.tickets.now)) (record_at c.args.tickets.now c.loop-i.i)
told c r added =
    let bytes = c.args.tickets.now in
    let l = c.loop-i in
    added.told (cut l.i bytes) l.invariant.0 ∙ ap (ticket_checked (with_tickets c.args.file.now (cut l.i bytes))) c.record_at.ensures

pub loop-i-init : goal.loop-i-init
loop-i-init c =
    (c.requires, from_start c.args.file.now c.args.tickets.now c.ticket_count-count.result)

pub put-requires : goal.put-requires
put-requires c =
    let l = c.loop-i in
    record { tickets = cut l.i c.args.tickets.now; kept = l.invariant.0 }

pub returns-in-Err : goal.returns-in-Err
returns-in-Err c =
    let file = c.args.file.now in
    let bytes = c.args.tickets.now in
    let l = c.loop-i in
    let n = c.ticket_count-count.result in
    let e = told (goal.at.returns-in-Err c).After-put (Err c.in-Err.refusal) c.in-Err.ensures.added in
    record {
      told =
          from_stops file bytes n l.i c.loop-i-test.true (Err c.in-Err.refusal) e (refused_some refl)
          ∙ sym l.invariant.1 ∙ ap (one_by_one 0 file) (all bytes n c.ticket_count-count.ensures);
      some = refused_some refl;
    }

pub loop-i-preserved : goal.loop-i-preserved
loop-i-preserved c =
    let file = c.args.file.now in
    let bytes = c.args.tickets.now in
    let l = c.loop-i in
    let n = c.ticket_count-count.result in
    let added = c.in_default.ensures.added in
    let e = told (goal.at.loop-i-preserved c).After-put (Ok c.put.new.kept) added in (
      next file bytes c.put.new.kept l.i c.record_at.result.now c.record_at.ensures (added.accepted (cut l.i bytes) l.invariant.0),
      l.invariant.1 ∙ from_next file bytes n l.i c.loop-i-test.true (ap number_of (sym e)),
    )

pub returns : goal.returns
returns c =
    let file = c.args.file.now in
    let bytes = c.args.tickets.now in
    let l = c.loop-i in
    let n = c.ticket_count-count.result in
    let e : l.i ≡ n = omega (arith, c.loop-i-test.false) in
    let there = all bytes n c.ticket_count-count.ensures in
    record {
      told = from_end file bytes n n (omega arith) ∙ ap (FromOn file bytes n) (sym e) ∙ sym l.invariant.1 ∙ ap (one_by_one 0 file) there;
      many = c.ticket_count-count.ensures;
      kept = subst (λ (ts : List Record). KeptBy file ts l.held) (ap (λ (m : ℕ). cut m bytes) e ∙ there) l.invariant.0;
    }
