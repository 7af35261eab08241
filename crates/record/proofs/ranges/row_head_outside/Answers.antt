-- `row_head_outside`: the tests in their order, and the currency that is not let in behind them all.
use mathlib.Core.Bool.{Bool, true, false, not, ◌||◌, or-true}
use mathlib.Core.Path.{◌≡◌, refl, sym, ap, ◌∙◌}
use lib.Dec.{eqb}
use Rattle.record.specs.Bytes.{plain}
use Rattle.record.specs.Layout.{contract_field, row_type_field, currency_field, day_field, strike_field, lots_field, delta_field, value_field}
use Rattle.record.specs.Layout.{currency, forward, put, contract_range, day_range, hundred_thousands, value_range}
use Rattle.record.specs.Ranges.{beyond, outside}
use Rattle.record.proofs.Tests.{both}
use Rattle.record.proofs.ranges.row_head_outside.Goals as goal

behind : (m d e f g h : Bool) → ((((m || d) || e) || f) || g) || h ≡ (d || (e || (f || (g || (h || false))))) || m
behind true d e f g h = sym (or-true (d || (e || (f || (g || (h || false))))))
behind false true e f g h = refl
behind false false true f g h = refl
behind false false false true g h = refl
behind false false false false true h = refl
behind false false false false false true = refl
behind false false false false false false = refl

-- a test beside the third of eight, taken out behind them all
in_order : (a b c m d e f g h : Bool)
    → ((((((a || b) || (c || m)) || d) || e) || f) || g) || h ≡ (a || (b || (c || (d || (e || (f || (g || (h || false)))))))) || m
in_order true b c m d e f g h = refl
in_order false true c m d e f g h = refl
in_order false false true m d e f g h = refl
in_order false false false m d e f g h = behind m d e f g h

pub returns : goal.returns
returns c =
    let r = c.args.r.now in
    both (both (both (both (both (both (both (c.contract_beyond.ensures ∙ ap (beyond contract_range) c.byte_in.ensures.0)
    (c.beyond.ensures ∙ ap (beyond (plain 0 2)) c.byte_in-2.ensures.0))
    c.currency_beyond.ensures)
    (c.day_beyond.ensures ∙ ap (beyond day_range) c.u32_in.ensures.0))
    c.strike_beyond.ensures)
    (c.too_many.ensures ∙ ap (beyond hundred_thousands) c.u32_in-2.ensures.0))
    c.delta_beyond.ensures)
    (c.beyond-2.ensures ∙ ap (beyond value_range) c.u32_in-3.ensures.0)
    ∙ in_order (outside r contract_field) (outside r row_type_field) (outside r currency_field) (not (c.args.other || eqb (currency r) 0))
    (outside r day_field) (outside r (strike_field (forward r))) (outside r lots_field) (outside r (delta_field (put r))) (outside r value_field)
