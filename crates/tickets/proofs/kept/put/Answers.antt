-- A refusal keeps the account; else counts and positions have the row.
-- Assumes nothing.
use Rattle.std.proofs.lemmas.Result.{err_from_is_err_and}
use mathlib.Core.Path.{refl, sym, ◌∙◌, subst, subst⁻¹}
use mathlib.Core.List.{List}
use Prim.Native.Nat.{ℕ}
use native.Mathlib.Omega.{arith}
use Rattle.record.specs.Layout.{Record}
use Rattle.tickets.specs.code.Counts.{SmallCounts, OneMore}
use Rattle.tickets.specs.declared.counts.Counts.{Counts}
use Rattle.tickets.specs.code.Kept.{KeptBy}
use Rattle.tickets.proofs.CountLaws.{with_ok, small, counts_more}
use Rattle.tickets.proofs.KeptLaws.{low_kept}
use Rattle.tickets.proofs.kept.put.Goals as goal

pub check_ticket-requires : goal.check_ticket-requires
check_ticket-requires c =
    let x = c.requires in
    (c.nothing_of-none.ensures, record { tickets = x.tickets; counts = x.kept.counts })

pub returns-in_err-check_ticket : goal.returns-in_err-check_ticket
returns-in_err-check_ticket c =
    let p = err_from_is_err_and c.from_residual.result c.from_residual.ensures.1 in
    rw (p.1, p.2) (record {
      added = record { told = λ ts kb. sym c.in_err-check_ticket.was ∙ c.check_ticket.ensures ts kb.counts; accepted = tt };
      as_it_was = refl;
    })

pub one_more-kept-requires : goal.one_more-kept-requires
one_more-kept-requires c =
    let x = c.requires in
    let file = c.args.file.now in
    let t = c.args.ticket.now in
    let h = sym (c.check_ticket.ensures x.tickets x.kept.counts) ∙ c.in_ok-check_ticket.was in (
      subst⁻¹ SmallCounts c.with_row.ensures.0 (small file x.tickets c.args.kept.now.counts x.kept.counts),
      omega (arith, c.contract.ensures.0, low_kept file x.tickets t (with_ok file x.tickets c.args.kept.now.counts x.kept.counts) h),
    )

pub with_row-requires : goal.with_row-requires
with_row-requires c =
    let x = c.requires in (
      c.nothing_of-none.ensures,
      record { tickets = x.tickets; kept = x.kept; taken = λ ts kb. sym (c.check_ticket.ensures ts kb.counts) ∙ c.in_ok-check_ticket.was },
    )

pub returns : goal.returns
returns c =
    let file = c.args.file.now in
    let t = c.args.ticket.now in
    let told = λ (ts : List Record) (kb : KeptBy file ts c.args.kept.now). sym (c.check_ticket.ensures ts kb.counts) ∙ c.in_ok-check_ticket.was in
    let more = subst (λ (k : Counts). OneMore c.contract.result k c.one_more-kept.result) c.with_row.ensures.0 c.one_more-kept.ensures in
    record {
      added =
          record {
            told = λ ts kb. sym (told ts kb);
            accepted = λ ts kb.
                record {
                  counts = counts_more file ts t c.args.kept.now.counts c.one_more-kept.result kb.counts (told ts kb)
                      (subst (λ (n : ℕ). OneMore n c.args.kept.now.counts c.one_more-kept.result) c.contract.ensures.0 more);
                  positions = c.with_row.ensures.1 ts kb;
                };
          };
      as_it_was = tt;
    }
