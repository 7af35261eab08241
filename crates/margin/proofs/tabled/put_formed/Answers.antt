-- What the contracts earned, and the lines with it.
-- Assumes nothing.
use mathlib.Core.Path.{◌∙◌, ap}
use lib.Seq.{sets}
use borrow.Author.Rules.{rules}
use Rattle.margin.proofs.TabledLaws.{formed-room, stood_within, credited_figures}
use Rattle.margin.proofs.tabled.put_formed.Goals as goal

pub credits-earned-requires : goal.credits-earned-requires
credits-earned-requires c =
    formed-room c.requires.0.whole c.args.count c.args.entries.now c.args.units.now c.args.prices.now c.args.sizes.now
    c.args.first.now c.args.second.now c.args.out.now c.requires.0.is

pub put_credits-requires : goal.put_credits-requires
put_credits-requires c =
    let r = c.credits-earned in (
      stood_within c.requires.0.whole c.args.count c.args.entries.now c.args.units.now c.args.prices.now c.args.sizes.now
          c.args.first.now c.args.second.now c.args.out.now c.requires.0.is r.result r.ensures,
      (c.requires.1, search rules),
    )

pub returns : goal.returns
returns c =
    let r = c.credits-earned in
    λ whole h.
    c.put_credits.ensures
    ∙ ap (sets c.args.out.now 0)
    (credited_figures whole c.args.count c.args.entries.now c.args.units.now c.args.prices.now c.args.sizes.now
    c.args.first.now c.args.second.now c.args.out.now h r.result r.ensures)
