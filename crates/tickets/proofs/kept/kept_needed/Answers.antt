-- Rows have no part in how many numbers an answer has.
-- Assumes nothing.
use mathlib.Core.Path.{sym, ◌∙◌, subst⁻¹}
use Rattle.account.specs.Records.{records}
use Rattle.account.specs.code.Standing.{Stands}
use Rattle.account.specs.Joined.{account_of}
use Rattle.account.specs.declared.accounts.Account.{Account}
use Rattle.tickets.specs.Ticket.{with_tickets}
use Rattle.margin.proofs.NeedLaws.{need_beside}
use Rattle.tickets.proofs.KeptLaws.{stands_kept, told_kept}
use Rattle.tickets.proofs.kept.kept_needed.Goals as goal

pub needed_over-requires : goal.needed_over-requires
needed_over-requires c =
    let x = c.requires in
    subst⁻¹ (λ (a : Account). Stands c.args.file.now c.nothing_of.result.now a) c.account_of.ensures
    (stands_kept c.args.file.now x.tickets c.args.kept x.kept c.nothing_of.result.now
    c.nothing_of.ensures)

pub returns : goal.returns
returns c =
    let none = c.nothing_of in (
      λ ts kb.
          let t = told_kept c.args.file.now ts c.args.kept kb none.result.now none.ensures in
          c.needed_over.ensures.0
          ∙ sym (need_beside (account_of c.args.file.now none.result.now) (records (with_tickets c.args.file.now ts)) t.beside
          (stands_kept c.args.file.now ts c.args.kept kb none.result.now none.ensures).lawful c.args.question),
      c.needed_over.ensures.1,
    )
