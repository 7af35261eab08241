use mathlib.Core.Path.{◌≡◌, sym, ◌∙◌, ap}
use mathlib.Core.List.{List, []}
use Prim.Native.Nat.{ℕ, ◌+◌, ◌<◌}
use native.Mathlib.Omega.{arith}
use lib.ListN.{get_or, set, length-set}
use lib.Seq.{get_or-set_same, get_or-set_other}
use borrow.Author.Count.{below_more}
use Rattle.std.proofs.Common.{subst, length, length-append}
use Rattle.spread.specs.Accepted.{prompt_places}
use Rattle.record.specs.Layout.{Record, day}
use Rattle.account.specs.Records.{records}
use Rattle.formulas.proofs.RecordLaws.{count_is}
use Rattle.formulas.proofs.rows.days_of.Invariants.{Noted}
use Rattle.formulas.proofs.ChunkLaws.{numbered_turn, all_numbered}
use Rattle.formulas.proofs.rows.days_of.Goals as goal

next : (prompts : List Record) (days : List ℕ) (j d : ℕ) → j < prompt_places → d ≡ day (get_or prompts j []) → Noted prompts days j
    → Noted prompts (set days j d) (j + 1)
next prompts days j d h e n =
    record {
      as_many = length-set days j d ∙ n.as_many;
      noted =
          below_more (λ (k : ℕ). get_or (set days j d) k 0 ≡ day (get_or prompts k [])) j
          (λ k l. get_or-set_other days j k d 0 (λ q. omega arith) ∙ n.noted k l)
          (get_or-set_same days j d 0 (omega (arith, n.as_many)) ∙ e);
    }

pub loop-j-preserved : goal.loop-j-preserved
loop-j-preserved c =
    let l = c.loop-j in
    let f = c.args.prompts.now in
    let k = length l.yielded in
    let p = numbered_turn f k l.j-iterator l.invariant.0 c.next.new.self c.in-Some.j c.in-Some.p c.in-Some.ensures.steps in
    simp length-append (
      p.passed,
      subst (λ (n : ℕ). Noted (records f) (set l.day n c.day_of.result) (k + 1)) (sym p.number)
          (next (records f) l.day k c.day_of.result (omega (arith, p.there)) (c.day_of.ensures ∙ ap day (sym p.is)) l.invariant.1),
    )

pub returns : goal.returns
returns c =
    let l = c.loop-j in
    let f = c.args.prompts.now in
    let k = length l.yielded in
    let all = all_numbered f k l.j-iterator l.invariant.0 c.next.new.self c.in-None.ensures.steps in
    record {
      count_is = sym (count_is f);
      few = c.requires;
      day_is = λ j h. l.invariant.1.noted j (omega (arith, count_is f));
    }
