-- `account::answers::refusal` meets its contract. Assumes nothing.
use borrow.Author.Tests.{ne_eqb}
use Rattle.account.proofs.answers.refusal_of.Goals as goal

pub returns-then-number-eq3 : goal.returns-then-number-eq3
returns-then-number-eq3 c = rw c.if-number-eq3.true

pub returns-then-number-eq4 : goal.returns-then-number-eq4
returns-then-number-eq4 c = rw c.if-number-eq4.true

pub returns-then-number-eq5 : goal.returns-then-number-eq5
returns-then-number-eq5 c = rw c.if-number-eq5.true

pub returns-then-number-eq6 : goal.returns-then-number-eq6
returns-then-number-eq6 c = rw c.if-number-eq6.true

pub returns-then-number-eq7 : goal.returns-then-number-eq7
returns-then-number-eq7 c = rw c.if-number-eq7.true

pub returns-then-number-eq8 : goal.returns-then-number-eq8
returns-then-number-eq8 c = rw c.if-number-eq8.true

pub returns-then-number-eq9 : goal.returns-then-number-eq9
returns-then-number-eq9 c = rw c.if-number-eq9.true

pub returns-then-number-eq14 : goal.returns-then-number-eq14
returns-then-number-eq14 c = rw c.if-number-eq14.true

pub returns-then-number-eq15 : goal.returns-then-number-eq15
returns-then-number-eq15 c = rw c.if-number-eq15.true

pub returns : goal.returns
returns c =
    let n = c.args.number in
    rw (
      ne_eqb n 3 c.if-number-eq3.false,
      ne_eqb n 4 c.if-number-eq4.false,
      ne_eqb n 5 c.if-number-eq5.false,
      ne_eqb n 6 c.if-number-eq6.false,
      ne_eqb n 7 c.if-number-eq7.false,
      ne_eqb n 8 c.if-number-eq8.false,
      ne_eqb n 9 c.if-number-eq9.false,
      ne_eqb n 14 c.if-number-eq14.false,
      ne_eqb n 15 c.if-number-eq15.false,
    )
