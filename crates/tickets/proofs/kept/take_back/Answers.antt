-- Without a ticket nothing changes; else counts and positions are without the latest row.
-- Assumes nothing.
use Rattle.std.specs.Prelude.{Ok, Err}
use mathlib.Core.Path.{◌≡◌, refl, sym, ap, ◌∙◌, subst, subst⁻¹}
use mathlib.Core.List.{List, [], ◌∷◌, ◌++◌}
use Prim.Native.Nat.{ℕ, ◌-◌, ◌≤◌}
use lib.ListN.{get_or}
use Rattle.record.specs.Layout.{Record, most_contract}
use Rattle.account.specs.Records.{record_at, cut}
use Rattle.tickets.specs.code.Kept.{KeptBy, withdrawal}
use Rattle.tickets.specs.code.Counts.{SmallCounts, OneLess}
use Rattle.tickets.specs.declared.counts.Counts.{Counts}
use Rattle.tickets.specs.declared.kept.Kept.{Kept}
use Rattle.tickets.proofs.CountLaws.{small, known_low, some_rows, some_tickets, counts_less}
use Rattle.tickets.proofs.KeptLaws.{cut_last}
use borrow.Author.Tests.{ne_eqb}
use mathlib.Core.Bool.{Bool, cond}
use Rattle.account.specs.declared.answers.Refusal.TheVariants.{NoTicketLeft}
use Rattle.tickets.proofs.kept.take_back.Goals as goal

-- the tickets, and the latest of them
latest : (file bytes : List ℕ) (k : Kept) (n : ℕ) (t : Record) → n ≡ k.counts.tickets → (n ≡ 0 → ⊥) → t ≡ record_at bytes (n - 1)
    → KeptBy file (cut k.counts.tickets bytes) k → KeptBy file (cut (n - 1) bytes ++ t ∷ []) k
latest file bytes k n t e nz r kb =
    subst⁻¹ (λ (x : Record). KeptBy file (cut (n - 1) bytes ++ x ∷ []) k) r
    (subst (λ (ts : List Record). KeptBy file ts k) (ap (λ (i : ℕ). cut i bytes) (sym e) ∙ cut_last n bytes nz) kb)

pub returns-then-count-eq0 : goal.returns-then-count-eq0
returns-then-count-eq0 c =
    record {
      withdrawn = record { told = sym (ap withdrawal (sym c.tickets_of-count.ensures ∙ c.if-count-eq0.true)); accepted = tt };
      as_it_was = refl;
    }

pub without_row-requires : goal.without_row-requires
without_row-requires c = (
  c.nothing_of.ensures,
  record {
    tickets = cut (c.tickets_of-count.result - 1) c.args.tickets.now;
    kept = latest c.args.file.now c.args.tickets.now c.args.kept.now c.tickets_of-count.result
        c.record_at-ticket.result.now c.tickets_of-count.ensures c.if-count-eq0.false c.record_at-ticket.ensures c.requires;
  },
)

pub one_less-kept-requires : goal.one_less-kept-requires
one_less-kept-requires c =
    let file = c.args.file.now in
    let k = c.args.kept.now in
    let n = c.tickets_of-count.result in
    let ts = cut (n - 1) c.args.tickets.now in
    let t = c.record_at-ticket.result.now in
    let kb = latest file c.args.tickets.now k n t c.tickets_of-count.ensures
    c.if-count-eq0.false c.record_at-ticket.ensures c.requires in
    subst⁻¹ (λ (less : Counts). SmallCounts less
    × ((c.contract.result ≤ most_contract) × ((1 ≤ get_or less.rows c.contract.result 0) × (1 ≤ less.tickets)))) c.without_row.ensures.0
    (subst⁻¹ (λ (i : ℕ). SmallCounts k.counts
    × ((i ≤ most_contract) × ((1 ≤ get_or k.counts.rows i 0) × (1 ≤ k.counts.tickets)))) c.contract.ensures.0 (
      small file (ts ++ t ∷ []) k.counts kb.counts,
      (
        known_low file ts t k.counts kb.counts,
        (some_rows file ts t k.counts kb.counts, some_tickets file ts t k.counts kb.counts),
      ),
    ))

pub returns : goal.returns
returns c =
    let file = c.args.file.now in
    let n = c.tickets_of-count.result in
    let ts = cut (n - 1) c.args.tickets.now in
    let t = c.record_at-ticket.result.now in
    let kb = latest file c.args.tickets.now c.args.kept.now n t c.tickets_of-count.ensures
    c.if-count-eq0.false c.record_at-ticket.ensures c.requires in
    let nz : c.args.kept.now.counts.tickets ≡ 0 → ⊥ = λ z. c.if-count-eq0.false
    (c.tickets_of-count.ensures ∙ z) in
    let less = subst (λ (k : Counts). OneLess c.contract.result k c.one_less-kept.result) c.without_row.ensures.0 c.one_less-kept.ensures in
    record {
      withdrawn =
          record {
            told = sym (ap (λ (b : Bool). cond b (Err NoTicketLeft) (Ok tt)) (ne_eqb c.args.kept.now.counts.tickets 0 nz));
            accepted =
                subst (λ (i : ℕ). KeptBy file (cut (i - 1) c.args.tickets.now)
                (record { counts = c.one_less-kept.result; positions = c.without_row.new.kept.positions }))
                c.tickets_of-count.ensures
                (record {
                  counts =
                      counts_less file ts t c.args.kept.now.counts kb.counts c.one_less-kept.result
                      (subst (λ (i : ℕ). OneLess i c.args.kept.now.counts c.one_less-kept.result) c.contract.ensures.0 less);
                  positions = c.without_row.ensures.1 ts kb;
                });
          };
      as_it_was = tt;
    }
