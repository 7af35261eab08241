-- The later bytes moved up, then the record put in their place.
-- Assumes nothing.
use mathlib.Core.Path.{◌≡◌, sym, ap, ◌∙◌}
use mathlib.Core.List.{List, ◌++◌}
use Prim.Native.Nat.{ℕ, ◌+◌, ◌-◌}
use native.Mathlib.Omega.{arith}
use lib.ListN.{length, length-drop, take, drop}
use lib.Seq.{length-take-le, take-length}
use Rattle.record.specs.Layout.{record_bytes}
use Rattle.screen.proofs.InsertingLaws.{put_over, then_put}
use Rattle.screen.proofs.inserting.insert.Goals as goal

pub slice_bounds-whole-end : goal.slice_bounds-whole-end
slice_bounds-whole-end c =
    let l = c.requires.0 in
    sym (length-take-le record_bytes c.args.row.now (omega (arith, l)))

pub copy_from_slice-requires : goal.copy_from_slice-requires
copy_from_slice-requires c =
    let at = c.args.at in
    let xs = c.move_up.new.lent in
    let l = c.requires.0 in
    let b = c.requires.1.1 in
    let a = c.requires.1.0 in
    let n = c.move_up.auto.lent in
    let d = length-drop at xs in
    let n0 : at + record_bytes - at ≡ record_bytes = omega arith in
    ap (λ (k : ℕ). length (take k (drop at xs))) n0
    ∙ length-take-le record_bytes (drop at xs) (omega (arith, d, n, a, b))
    ∙ sym (length-take-le record_bytes c.args.row.now (omega (arith, l)))

pub returns : goal.returns
returns c =
    let at = c.args.at in
    let row = c.args.row.now in
    let lent = c.args.lent.now in
    let a = c.requires.1.0 in
    let b = c.requires.1.1 in
    let whole : take record_bytes row ≡ row = ap (λ (n : ℕ). take n row) (sym c.requires.0) ∙ take-length row in
    put_over at row c.copy_from_slice.new.self c.move_up.new.lent c.requires.0 (c.copy_from_slice.ensures.after ∙ whole)
    ∙ ap (λ (xs : List ℕ). take at xs ++ (row ++ drop (at + length row) xs)) c.move_up.ensures
    ∙ then_put at c.args.end row lent c.requires.0 (omega (arith, a, b))
