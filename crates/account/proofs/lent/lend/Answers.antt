-- Stretch after stretch fills the notes.
-- Assumes nothing.
use mathlib.Core.Path.{◌≡◌, sym, ap, ◌∙◌}
use mathlib.Core.Bool.{false}
use mathlib.Core.List.{map}
use native.Mathlib.Omega.{arith}
use lib.ListN.{length, get_or, length-map, get_or-map}
use lib.Seq.{ext_get_or}
use Rattle.std.proofs.Common.{rules, tests}
use Rattle.exact.specs.Lists.{one_if}
use Rattle.account.specs.Check.{most_contracts}
use Rattle.account.specs.PartNumbers.{parts}
use Rattle.account.proofs.Filled.{made_at}
use Rattle.account.proofs.LentLaws.{lent_is, mid_length}
use Rattle.account.proofs.lent.lend.Goals as goal

pub returns : goal.returns
returns c =
    let a = c.args.account in
    let l = c.requires.0 in
    let notes = c.args.notes.now in
    let made = c.from_fn-numbers.ensures.items in
    let made' = c.from_fn-late.ensures.items in
    let numbers : c.from_fn-numbers.result ≡ a.numbers =
    ext_get_or 0 c.from_fn-numbers.result a.numbers (made.long ∙ sym l.numbers)
    (λ k h. made_at _ (λ i. get_or a.numbers i 0) (λ i x q e. search (rules, tests)) c.from_fn-numbers.result most_contracts 0 made.each k
    (omega arith) (omega (arith, made.long)) 0) in
    let late : c.from_fn-late.result ≡ map one_if a.noon =
    ext_get_or 0 c.from_fn-late.result (map one_if a.noon) (made'.long ∙ sym (length-map a.noon one_if ∙ l.noon))
    (λ k h. made_at _ (λ i. one_if (get_or a.noon i false)) (λ i x q e. search (rules, tests)) c.from_fn-late.result most_contracts 0 made'.each k
    (omega arith) (omega (arith, made'.long)) 0 ∙ sym (get_or-map one_if a.noon k false)) in
    lent_is a l _ _ _ _ _ c.copy_from_slice.ensures.after c.copy_from_slice-2.ensures.after (c.copy_from_slice-3.ensures.after ∙ numbers)
    (c.copy_from_slice-4.ensures.after ∙ late)
    (mid_length 0 parts notes c.copy_from_slice.new.self (ap length c.copy_from_slice.ensures.after ∙ l.first) (omega arith) ∙ c.requires.1)
