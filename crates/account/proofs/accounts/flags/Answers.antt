use mathlib.Core.Bool.{false}
use native.Mathlib.Omega.{arith}
use Rattle.std.proofs.Common.{rules, tests}
use Rattle.account.specs.Check.{most_contracts}
use Rattle.account.specs.code.Standing.{lists}
use Rattle.account.proofs.Filled.{made_at}
use Rattle.account.proofs.accounts.flags.Goals as goal

pub returns : goal.returns
returns c =
    let made = c.from_fn.ensures.items in
    record {
      long = made.long;
      each = λ i h. made_at _ (lists c.args.counts.now) (λ k x q e. search (rules, tests)) c.from_fn.result most_contracts 0 made.each i
          (omega arith) (omega arith) false;
    }
