-- The answer of the account that the positions tell of.
-- Assumes nothing.
use mathlib.Core.Path.{subst⁻¹}
use Rattle.account.specs.Records.{records}
use Rattle.account.specs.code.Standing.{Stands}
use Rattle.account.specs.declared.accounts.Account.{Account}
use Rattle.tickets.specs.Ticket.{with_tickets}
use Rattle.tickets.proofs.KeptLaws.{stands_kept, told_kept, known_kept}
use Rattle.tickets.proofs.kept.kept_answer.Goals as goal

pub answer_from-requires : goal.answer_from-requires
answer_from-requires c =
    let x = c.requires in (
      subst⁻¹ (λ (a : Account). Stands c.args.file.now c.nothing_of.result.now a) c.account_of.ensures
          (stands_kept c.args.file.now x.tickets c.args.kept x.kept c.nothing_of.result.now
          c.nothing_of.ensures),
      known_kept c.args.file.now x.tickets c.args.kept x.kept c.nothing_of.result.now
          c.nothing_of.ensures,
    )

pub returns : goal.returns
returns c =
    λ ts kb.
    c.answer_from.ensures (records (with_tickets c.args.file.now ts))
    (told_kept c.args.file.now ts c.args.kept kb c.nothing_of.result.now
    c.nothing_of.ensures)
