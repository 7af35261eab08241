use Prim.Native.Nat.{◌<◌}
use mathlib.Core.Path.{sym, ap, ◌∙◌}
use native.Mathlib.Omega.{arith}
use lib.ListN.{length, length-set}
use lib.Seq.{length-take-le}
use Rattle.account.specs.code.Standing.{lists}
use Rattle.account.specs.Check.{most_contracts}
use Rattle.account.proofs.Filled.{numbers_next, numbers_same, left_after, all_found}
use Rattle.account.proofs.accounts.numbers_of.Goals as goal
use Rattle.account.proofs.accounts.numbers_of.Goals.{then-lists, else-lists}

pub loop-c-preserved : goal.loop-c-preserved
loop-c-preserved c =
    let l = c.loop-c in
    let p = lists c.args.counts.now in
    let few : l.count < most_contracts = omega (arith, l.invariant) in
    let more : l.count < c.args.most = omega (arith, l.invariant) in
    let room : l.count < length l.number = omega (arith, l.invariant) in
    elim c.if-lists.branch [
      | then-lists w ↦ rw (w.count-is, w.number-is) (
        length-set l.number l.count l.c ∙ l.invariant.0,
        (
          omega (arith, l.invariant),
          (
            omega (arith, more),
            (
              numbers_next p l.c l.count l.number room (sym c.lists.ensures ∙ w.if-lists.true) l.invariant.1.1.1.0,
              left_after l.number l.count l.c most_contracts few l.invariant.1.1.1.1,
            ),
          ),
        ),
      )
      | else-lists w ↦ rw (w.count-is, w.number-is) (
        l.invariant.0,
        (
          omega (arith, l.invariant),
          (l.invariant.1.1.0, (l.invariant.1.1.1.0 ∙ numbers_same p l.c (sym c.lists.ensures ∙ w.if-lists.false), l.invariant.1.1.1.1)),
        ),
      )
    ]

pub returns-then-count-most : goal.returns-then-count-most
returns-then-count-most c =
    let l = c.loop-c in
    let those = l.invariant.1.1.1.0 in
    let many = sym (length-take-le l.count l.number (omega (arith, l.invariant))) ∙ ap length those in
    record {
      long = l.invariant.0;
      few = omega (arith, l.invariant);
      those = those ∙ all_found (lists c.args.counts.now) l.count l.c most_contracts many (omega arith) (omega (arith, c.requires));
      rest = l.invariant.1.1.1.1;
    }
