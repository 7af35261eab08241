-- `counted_book`: no more takes than the most.
use mathlib.Core.Bool.{Bool, true, cond}
use mathlib.Core.Path.{◌≡◌, sym, ◌∙◌, ap}
use native.Mathlib.Omega.{arith}
use lib.ListN.{length}
use borrow.Author.Rules.{rules}
use Rattle.spread.specs.Accepted.{open_of, steps_of, sound, prompt_places}
use Rattle.spread.specs.Touches.{touches}
use Rattle.spread.proofs.Touching.{touches_few}
use Rattle.spread.proofs.touches.counted_book.Goals as goal

pub returns-then-book : goal.returns-then-book
returns-then-book c =
    let p = c.args.prompts in
    let lt : length p.tier ≡ prompt_places = search rules in
    let ln : length p.net ≡ prompt_places = search rules in
    let taken : sound p c.args.table ≡ true = sym c.delta_book-book.ensures.accepted ∙ c.if-book.true in
    let is =
    c.touches_of-touches.ensures
    ∙ sym (ap (λ (d : Bool). cond d (touches (steps_of c.args.table) (open_of p)) 0) taken)
    in
    record {
      book = c.delta_book-book.ensures;
      touches = is;
      few = let f = touches_few p c.args.table lt ln taken in omega (arith, f, is);
    }
