use native.Mathlib.Omega.{arith}
use mathlib.Core.Bool.{Bool, ◌&&◌, and-false}
use lib.ListN.{length}
use mathlib.Core.Path.{sym, ◌∙◌, ap}
use lib.Dec.{ltb}
use borrow.Author.Tests.{le-ltb}
use Rattle.spread.proofs.Passing.{one_most, gives_most, turn_less, touches_few, pass_start, pass_turn, pass_end}
use Rattle.spread.proofs.touches.pass.Goals as goal

pub loop-due-init : goal.loop-due-init
loop-due-init c = pass_start c.args.cell c.args.wanted c.args.pool.now c.args.size.now c.args.start c.requires.2

pub overflow_sub-size : goal.overflow_sub-size
overflow_sub-size c = (gives_most c.args.cell c.loop-due.due _ _ c.gives-given.ensures).1

pub overflow_sub-due : goal.overflow_sub-due
overflow_sub-due c = (gives_most c.args.cell c.loop-due.due _ _ c.gives-given.ensures).0

pub overflow_add-touches : goal.overflow_add-touches
overflow_add-touches c =
    let l = c.loop-due in
    let f = touches_few c.args.cell c.args.wanted c.args.pool.now c.args.size.now l.due l.k l.size l.touches l.invariant in
    let o = one_most (ltb 0 c.gives-given.result) c.from-touches.result c.from-touches.ensures in
    omega (arith, f, o, c.requires.0)

pub loop-due-smaller : goal.loop-due-smaller
loop-due-smaller c =
    let l = c.loop-due in
    turn_less l.due l.k c.gives-given.result c.further-k.result (omega arith) (omega arith) c.further-k.ensures

pub loop-due-preserved : goal.loop-due-preserved
loop-due-preserved c =
    let l = c.loop-due in
    pass_turn c.args.cell c.args.wanted c.args.pool.now c.args.size.now l.due l.k l.size l.touches
    c.gives-given.result c.further-k.result c.from-touches.result
    (omega (arith, c.requires.0)) (c.requires.0 ∙ sym c.requires.1)
    c.gives-given.ensures c.further-k.ensures c.from-touches.ensures l.invariant

pub returns-else-k-lt-MOST_PROMPTS : goal.returns-else-k-lt-MOST_PROMPTS
returns-else-k-lt-MOST_PROMPTS c =
    let l = c.loop-due in
    let cs = c.args.pool.now in
    pass_end c.args.cell c.args.wanted cs c.args.size.now l.due l.k l.size l.touches
    (ap (λ (b : Bool). ltb 0 l.due && b) (le-ltb l.k (length cs) (omega (arith, c.requires.0))) ∙ and-false (ltb 0 l.due)) l.invariant

pub returns-after-loop-due : goal.returns-after-loop-due
returns-after-loop-due c =
    let l = c.loop-due in
    let cs = c.args.pool.now in
    pass_end c.args.cell c.args.wanted cs c.args.size.now l.due l.k l.size l.touches
    (ap (λ (b : Bool). b && ltb l.k (length cs)) (le-ltb 0 l.due c.loop-due-test.false)) l.invariant
