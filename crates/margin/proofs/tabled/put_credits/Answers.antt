use mathlib.Core.Path.{◌≡◌, refl, ◌∙◌, sym, ap, ap₂, subst, subst⁻¹}
use mathlib.Core.List.{List, map}
use Prim.Native.Nat.{ℕ, ◌+◌, ◌*◌, ◌≤◌}
use native.Mathlib.Omega.{arith}
use lib.IntN.{ℤ, pos}
use lib.ListN.{length, get_or}
use lib.Seq.{sets}
use Rattle.account.specs.Check.{most_contracts}
use Rattle.spread.proofs.Filling.{entries_length}
use Rattle.formulas.specs.declared.amount.Amount.{Amount}
use Rattle.formulas.specs.declared.line.Line.{Line}
use Rattle.formulas.specs.Bounds.{most_credits, figures_each}
use Rattle.formulas.specs.code.Lines.{LineWithin, eight_of, margin_with, no_line}
use Rattle.formulas.proofs.SumLaws as sums
use Rattle.margin.specs.code.Numbers.{amount_at}
use Rattle.margin.specs.code.Tabled.{line_at, lines_at}
use Rattle.margin.proofs.NumberLaws.{start, next, finish, eights_step, eights-none, total_on, total_step, total-none, figures-listed}
use Rattle.margin.proofs.TabledLaws.{get_d_sets_past, read_here}
use Rattle.margin.proofs.tabled.put_credits.Invariants.{credits}
use Rattle.margin.proofs.tabled.put_credits.Goals as goal
use Rattle.margin.proofs.tabled.put_credits.Goals.{After-line_from-line}

-- the line that is read, with what its contract earned
here : (c : After-line_from-line) →
    let l = c.loop-i in
    (c.line_from-line.result ≡ get_or (lines_at c.args.out.now) l.i no_line)
    × (get_or c.args.earned.now c.line_from-line.result.contract 0 ≡ amount_at (credits c.args.earned.now c.args.out.now) l.i)
here c =
    let l = c.loop-i in
    read_here c.args.earned.now c.args.out.now l.out l.i c.line_from-line.result
    (omega (arith, c.loop-i-test.true, c.requires.0.most)) l.invariant.1.1.1 c.line_from-line.ensures

within : (c : After-line_from-line) → LineWithin c.line_from-line.result
within c =
    let l = c.loop-i in
    subst⁻¹ LineWithin (here c).0 (c.requires.0.line_within l.i c.loop-i-test.true)

pub loop-i-init : goal.loop-i-init
loop-i-init c = (start _ _ 0 0 _ refl, (sums.start _ _ _, (refl, λ k h. refl)))

pub overflow_mul-at : goal.overflow_mul-at
overflow_mul-at c = omega (arith, c.loop-i-test.true, c.requires.0.most)

pub line_from-line-requires : goal.line_from-line-requires
line_from-line-requires c =
    let l = c.loop-i in
    omega (arith, c.loop-i-test.true, c.requires.1.0, l.invariant.1.1.0)

pub offset_bounds-earned-line : goal.offset_bounds-earned-line
offset_bounds-earned-line c = let h = (within (goal.at.offset_bounds-earned-line c).After-line_from-line).contract_within in omega arith

pub bounds-earned-line : goal.bounds-earned-line
bounds-earned-line c =
    let h = (within (goal.at.bounds-earned-line c).After-line_from-line).contract_within in
    omega (arith, c.requires.1.1)

pub put_line-margin-requires : goal.put_line-margin-requires
put_line-margin-requires c =
    let l = c.loop-i in
    let taken = c.loop-i-test.true in (
      omega (arith, taken, c.requires.1.0, l.invariant.1.1.0),
      (within (goal.at.put_line-margin-requires c).After-line_from-line, subst⁻¹ (λ (n : ℕ). n ≤ most_credits) (here (goal.at.put_line-margin-requires c).After-line_from-line).1 (c.requires.0.credit_within l.i taken)),
    )

pub overflow_add-total : goal.overflow_add-total
overflow_add-total c =
    let l = c.loop-i in
    let small = l.invariant.1.0.small in
    let most = c.requires.0.most in
    let margin = c.put_line-margin.ensures.margin.1 in
    omega (arith, c.loop-i-test.true)

pub loop-i-preserved : goal.loop-i-preserved
loop-i-preserved c =
    let l = c.loop-i in
    let n = c.args.count in
    let lines = lines_at c.args.out.now in
    let amounts = credits c.args.earned.now c.args.out.now in
    let r = c.put_line-margin in
    let e = here (goal.at.loop-i-preserved c).After-line_from-line in
    let taken = c.loop-i-test.true in
    let most = c.requires.0.most in
    let hl : n ≤ length lines = omega (arith, entries_length most_contracts (λ j. line_at c.args.out.now (j * figures_each))) in
    let hc : n ≤ length amounts =
    omega (arith, entries_length {A = Amount} most_contracts (λ j. record { 0 = get_or c.args.earned.now (get_or lines j no_line).contract 0 })) in
    let vs = map pos (eight_of (get_or lines l.i no_line) (amount_at amounts l.i)) in
    let written : r.new.out ≡ sets l.out (l.i * figures_each) vs =
    r.ensures.written ∙ ap₂ (λ (x : Line) (y : ℕ). sets l.out (l.i * figures_each) (map pos (eight_of x y))) e.0 e.1 in (
      next l.i (l.i * figures_each) ((l.i + 1) * figures_each) l.out r.new.out vs l.invariant.0 taken (eights_step n lines amounts hl hc l.i taken)
          written (omega arith),
      (
        sums.next l.i l.total r.result.0 l.invariant.1.0 taken
            (total_step n lines amounts hl hc l.i taken
            ∙ ap (λ (x : ℕ). x + total_on n lines amounts (l.i + 1)) (sym (r.ensures.margin.0 ∙ ap₂ margin_with e.0 e.1)))
            r.ensures.margin.1,
        (
          c.out-1.given ∙ l.invariant.1.1.0,
          λ k h.
              ap (λ (o : List ℤ). get_or o k (pos 0)) written
              ∙ get_d_sets_past vs l.out (l.i * figures_each) k (pos 0) (omega arith)
              ∙ l.invariant.1.1.1 k (omega arith),
        ),
      ),
    )

pub overflow_mul-count : goal.overflow_mul-count
overflow_mul-count c =
    omega (arith, c.requires.0.most)

pub put-requires : goal.put-requires
put-requires c =
    let l = c.loop-i in
    let small = l.invariant.1.0.small in
    let within = l.invariant.1.0.within in
    let most = c.requires.0.most in
    (omega (arith, c.requires.1.0, l.invariant.1.1.0), omega arith)

pub shape_of-out : goal.shape_of-out
shape_of-out c =
    c.out-2-1.given ∙ c.loop-i.invariant.1.1.0

pub returns : goal.returns
returns c =
    let l = c.loop-i in
    let n = c.args.count in
    let lines = lines_at c.args.out.now in
    let amounts = credits c.args.earned.now c.args.out.now in
    let most = c.requires.0.most in
    let left = c.loop-i-test.false in
    let hl : n ≤ length lines = omega (arith, entries_length most_contracts (λ j. line_at c.args.out.now (j * figures_each))) in
    let hc : n ≤ length amounts =
    omega (arith, entries_length {A = Amount} most_contracts (λ j. record { 0 = get_or c.args.earned.now (get_or lines j no_line).contract 0 })) in
    let last : n ≡ l.i = omega (arith, left, l.invariant.0.within) in
    let total = sums.finish l.i l.total l.invariant.1.0 (omega (arith, left))
    (subst (λ (k : ℕ). total_on n lines amounts k ≡ 0) last (total-none n lines amounts)) in
    figures-listed n lines amounts hl hc c.args.out.now l.out _ l.total
    (finish l.i (l.i * figures_each) l.out l.invariant.0 (omega (arith, left)) (eights-none n lines amounts)) c.put.ensures total
