-- `account::check::note_to` meets its contract. Assumes nothing.
use Prim.Native.Nat.{ℕ, ◌+◌, ◌≤◌, ◌<◌}
use mathlib.Core.Path.{◌≡◌, ap, ◌∙◌}
use mathlib.Core.List.{List}
use lib.ListN.{length, get_or, length-set}
use lib.Seq.{get_or-set_same}
use native.Mathlib.Omega.{arith}
use Rattle.account.specs.Check.{most_records}
use Rattle.account.specs.code.Notes.{part_of}
use Rattle.account.proofs.Runs.{noted_to}
use Rattle.account.proofs.check.note_to.Goals as goal

pub note_first-requires : goal.note_first-requires
note_first-requires c =
    let pre = c.requires.0 in
    let none = c.requires.1.0 in
    let v = c.part_of-v.ensures ∙ ap part_of c.whole_at.ensures in
    let inside : c.part_of-v.result < length c.args.first.now = omega (arith, pre.known none, pre.firsts) in
    (inside, omega (arith, pre.inside, pre.few))

pub note_one-requires : goal.note_one-requires
note_one-requires c =
    let pre = c.requires.0 in
    let none = c.requires.1.0 in
    let counts = c.args.counts.now in
    let v = c.part_of-v.ensures
    ∙ ap part_of c.whole_at.ensures in
    let e = ap (λ (u : ℕ). get_or counts u 0) v in
    let inside : c.part_of-v.result < length counts = omega (arith, pre.known none, pre.sizes) in
    let few : get_or counts c.part_of-v.result 0 < most_records = omega (arith, pre.room none, pre.inside, pre.few) in
    (inside, few)

pub note_more-requires : goal.note_more-requires
note_more-requires c =
    let pre = c.requires.0 in
    let none = c.requires.1.0 in
    let counts = c.args.counts.now in
    let v = c.part_of-v.result in
    let is = c.part_of-v.ensures
    ∙ ap part_of c.whole_at.ensures in
    let e = ap (λ (u : ℕ). get_or counts u 0) is in
    let one = c.note_one in
    let long : length one.new.counts ≡ length counts = ap length one.ensures ∙ length-set counts v (get_or counts v 0 + 1) in
    let here : get_or one.new.counts v 0 ≡ get_or counts v 0 + 1 =
    ap (λ (l : List ℕ). get_or l v 0) one.ensures
    ∙ get_or-set_same counts v (get_or counts v 0 + 1) 0 (omega (arith, pre.known none, pre.sizes)) in
    let inside : v < length one.new.counts = omega (arith, pre.known none, pre.sizes) in
    let few : get_or one.new.counts v 0 ≤ most_records = omega (arith, pre.room none, pre.inside, pre.few) in
    (inside, (few, omega (arith, c.requires.1.1.1, pre.few)))

pub returns : goal.returns
returns c =
    noted_to (c.part_of-v.ensures
    ∙ ap part_of
    c.whole_at.ensures)
    c.note_first.ensures
    c.note_one.ensures c.note_more.ensures
