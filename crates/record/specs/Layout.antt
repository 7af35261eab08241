-- The table of kinds and fields of document 01, "The account file", and of requests 2026-03, 2026-05 and 2026-09 of document 02,
-- with its ranges.
-- Every offset, width and range of the definitions is said here.
-- Assumes nothing.
use Rattle.std.specs.Prelude.{ℕ, ◌+◌, ◌-◌, ◌*◌, Bool, cond, List, [], ◌∷◌, ◌++◌, map, eqb, ℤ, pos, neg_ℤ}
pub use Rattle.record.specs.Bytes.{Record, record_bytes, byte_at, u16_at, u32_at, i32_at}
use Rattle.record.specs.Bytes.{one, two, four, Range, plain, signed, Field, field, number_in, signed_in, count_from}

-- "Contract numbers, days and tiers have the same range wherever they stand."
abbrev pub most_contract : ℕ
most_contract = 15

abbrev pub contract_range : Range
contract_range = plain 0 most_contract

abbrev pub most_day : ℕ
most_day = 99999999

abbrev pub day_range : Range
day_range = plain 1 most_day

abbrev pub most_tier : ℕ
most_tier = 8

abbrev pub tier_range : Range
tier_range = plain 1 most_tier

-- "rates 0..10,000,000; ratios 1..100; lots -100,000..100,000 ..; value 1..10,000; losses -100,000..100,000"
abbrev pub most_rate : ℕ
most_rate = 10000000

abbrev pub rate_range : Range
rate_range = plain 0 most_rate

abbrev pub most_ratio : ℕ
most_ratio = 100

abbrev pub ratio_range : Range
ratio_range = plain 1 most_ratio

abbrev pub hundred_thousand : ℕ
hundred_thousand = 100000

abbrev pub hundred_thousands : Range
hundred_thousands = signed (neg_ℤ (pos hundred_thousand)) (pos hundred_thousand)

abbrev pub most_value : ℕ
most_value = 10000

abbrev pub value_range : Range
value_range = plain 1 most_value

-- "Byte 0 is the kind."
abbrev pub kind : Record → ℕ
kind r = byte_at r 0

-- "1 contract | 1: number 0..15; 4-7: short option rate"; in kinds 1 to 5 byte 1 names a contract
abbrev pub contract_field : Field
contract_field = field 1 one contract_range

abbrev pub short_option_rate_field : Field
short_option_rate_field = field 4 four rate_range

-- 2026-09: "Bytes 8-9 of kind 1 hold the unit in hundredths, 0 and 1 both meaning one hundredth, at most 1,000."
abbrev pub most_unit : ℕ
most_unit = 1000

abbrev pub unit_field : Field
unit_field = field 8 two (plain 0 most_unit)

abbrev pub unit_from : ℕ → ℕ
unit_from n = cond (eqb n 0) 1 n

abbrev pub contract_fields : List Field
contract_fields = contract_field ∷ short_option_rate_field ∷ unit_field ∷ []

-- "2 prompt | 1: contract; 2: tier 1..8; 4-7: day 1..99,999,999; 8-11: rate per delta in spreads; 12-15: rate per outright
-- delta"
abbrev pub tier_field : Field
tier_field = field 2 one tier_range

abbrev pub day_field : Field
day_field = field 4 four day_range

abbrev pub spread_rate_field : Field
spread_rate_field = field 8 four rate_range

abbrev pub outright_rate_field : Field
outright_rate_field = field 12 four rate_range

abbrev pub prompt_fields : List Field
prompt_fields = contract_field ∷ tier_field ∷ day_field ∷ spread_rate_field ∷ outright_rate_field ∷ []

-- "3 row | 1: contract; 2: 0 forward, 1 call, 2 put; 4-7: day; 8-11: strike; 12-15: lots, signed; 16-19: delta, signed;
-- 20-23: value per tick per lot; 24-87: sixteen losses, signed, scenario 1 first"; and (2026-05) "Byte 3 of a row names currency
-- 0..7, 0 being the margin currency."
abbrev pub most_row_type : ℕ
most_row_type = 2

abbrev pub row_type_field : Field
row_type_field = field 2 one (plain 0 most_row_type)

abbrev pub row_type : Record → ℕ
row_type = number_in row_type_field

abbrev pub forward : Record → Bool
forward r = eqb (row_type r) 0

abbrev pub put : Record → Bool
put r = eqb (row_type r) 2

abbrev pub most_currency : ℕ
most_currency = 7

abbrev pub currency_field : Field
currency_field = field 3 one (plain 0 most_currency)

-- "strike 0 for a forward, 1..4,294,967,295 otherwise"
abbrev pub strike_field : Bool → Field
strike_field is_forward = field 8 four (cond is_forward (plain 0 0) (plain 1 4294967295))

abbrev pub lots_field : Field
lots_field = field 12 four hundred_thousands

-- "delta 0..10,000 for forwards and calls, -10,000..0 for puts"; 10,000 is the delta of one lot
abbrev pub one_lot : ℕ
one_lot = 10000

abbrev pub delta_field : Bool → Field
delta_field isPut = field 16 four (cond isPut (signed (neg_ℤ (pos one_lot)) (pos 0)) (signed (pos 0) (pos one_lot)))

abbrev pub value_field : Field
value_field = field 20 four value_range

abbrev pub scenario_count : ℕ
scenario_count = 16

abbrev pub loss_field : ℕ → Field
loss_field scenario = field (24 + 4 * (scenario - 1)) four hundred_thousands

abbrev pub row_head : Record → List Field
row_head r =
    contract_field ∷ row_type_field ∷ currency_field ∷ day_field ∷ strike_field (forward r) ∷ lots_field ∷ delta_field (put r) ∷ value_field ∷ []

abbrev pub row_fields : Record → List Field
row_fields r = row_head r ++ map loss_field (count_from 1 scenario_count)

-- "4 interprompt spread | 1: contract; 2: legs, 2 or 3; 4-7: rate per spread; legs at 8, 12, 16, each tier, side (1 = A, 2 =
-- B), two-byte ratio"
abbrev pub leg_count_field : Field
leg_count_field = field 2 one (plain 2 3)

abbrev pub rate_per_spread_field : Field
rate_per_spread_field = field 4 four rate_range

abbrev pub leg_tier_field : ℕ → Field
leg_tier_field leg = field (8 + 4 * leg) one tier_range

abbrev pub leg_side_field : ℕ → Field
leg_side_field leg = field (9 + 4 * leg) one (plain 1 2)

abbrev pub leg_ratio_field : ℕ → Field
leg_ratio_field leg = field (10 + 4 * leg) two ratio_range

abbrev pub leg_fields : ℕ → List Field
leg_fields leg = leg_tier_field leg ∷ leg_side_field leg ∷ leg_ratio_field leg ∷ []

abbrev pub leg_count : Record → ℕ
leg_count = number_in leg_count_field

-- "Bytes 16-19 of kind 4 are unused only when byte 2 holds 2."
abbrev pub two_legs : Record → Bool
two_legs r = eqb (leg_count r) 2

-- the legs, counted from 0
abbrev pub legs_of : Record → List ℕ
legs_of r = 0 ∷ 1 ∷ cond (two_legs r) [] (2 ∷ [])

abbrev pub third_leg : Record → List Field
third_leg r = cond (two_legs r) [] (leg_fields 2)

abbrev pub spread_fields : Record → List Field
spread_fields r =
    contract_field ∷ leg_count_field ∷ rate_per_spread_field ∷ leg_fields 0 ++ leg_fields 1 ++ third_leg r

-- "5 intercontract spread | 1, 2: contracts; 3: credit percent 0..100; 4-5, 6-7: their ratios"; and (2026-03) "Byte 8 of kind 5
-- set to 1 says that its ratios are tenths, 1..1000; 0 keeps whole ratios."
abbrev pub second_contract_field : Field
second_contract_field = field 2 one contract_range

abbrev pub most_percent : ℕ
most_percent = 100

abbrev pub percent_field : Field
percent_field = field 3 one (plain 0 most_percent)

abbrev pub tenths_field : Field
tenths_field = field 8 one (plain 0 1)

abbrev pub tenths : Record → Bool
tenths r = eqb (number_in tenths_field r) 1

abbrev pub most_tenths : ℕ
most_tenths = 1000

abbrev pub most_entry_ratio : Bool → ℕ
most_entry_ratio in_tenths_of = cond in_tenths_of most_tenths most_ratio

abbrev pub entry_ratio_range : Bool → Range
entry_ratio_range in_tenths_of = plain 1 (most_entry_ratio in_tenths_of)

abbrev pub first_ratio_field : Bool → Field
first_ratio_field in_tenths_of = field 4 two (entry_ratio_range in_tenths_of)

abbrev pub second_ratio_field : Bool → Field
second_ratio_field in_tenths_of = field 6 two (entry_ratio_range in_tenths_of)

abbrev pub entry_fields : Record → List Field
entry_fields r =
    contract_field ∷ second_contract_field ∷ percent_field ∷ first_ratio_field (tenths r) ∷ second_ratio_field (tenths r)
    ∷ tenths_field ∷ []

-- 2026-05: "Kind 6, after kind 5: byte 1 currency 1..7, ascending; bytes 4-7 spot rate in millionths, 1..100,000,000; byte 8
-- adjustment percent 0..50."
abbrev pub rate_currency_field : Field
rate_currency_field = field 1 one (plain 1 most_currency)

abbrev pub most_spot_rate : ℕ
most_spot_rate = 100000000

abbrev pub spot_rate_field : Field
spot_rate_field = field 4 four (plain 1 most_spot_rate)

abbrev pub most_adjustment : ℕ
most_adjustment = 50

abbrev pub adjustment_field : Field
adjustment_field = field 8 one (plain 0 most_adjustment)

abbrev pub rate_fields : List Field
rate_fields = rate_currency_field ∷ spot_rate_field ∷ adjustment_field ∷ []

-- What goes with a kind is looked up in a table of one line a kind; a kind without a line has the `other`.
pub record Line (A : Type 0) : Type 0 where
  pub of_the_kind : ℕ
  pub what : A

infixl 70 ◌has◌
abbrev pub ◌has◌ : {A : Type 0} → ℕ → A → Line A
k has x = record { of_the_kind = k; what = x }

abbrev pub by_kind : {A : Type 0} → ℕ → List (Line A) → A → A
by_kind k [] other = other
by_kind k (line ∷ lines) other = cond (eqb k line.of_the_kind) line.what (by_kind k lines other)

abbrev pub fields_of : Record → List Field
fields_of r =
    by_kind (kind r)
    (1 has contract_fields ∷ 2 has prompt_fields ∷ 3 has row_fields r ∷ 4 has spread_fields r ∷ 5 has entry_fields r ∷ 6 has rate_fields ∷ [])
    []

-- What stands in the fields.
abbrev pub contract : Record → ℕ
contract = number_in contract_field

abbrev pub short_option_rate : Record → ℕ
short_option_rate = number_in short_option_rate_field

-- the unit of a contract's amounts, in hundredths
abbrev pub unit : Record → ℕ
unit r = unit_from (number_in unit_field r)

abbrev pub tier : Record → ℕ
tier = number_in tier_field

abbrev pub day : Record → ℕ
day = number_in day_field

abbrev pub spread_rate_of : Record → ℕ
spread_rate_of = number_in spread_rate_field

abbrev pub outright_rate_of : Record → ℕ
outright_rate_of = number_in outright_rate_field

-- the currency of a row
abbrev pub currency : Record → ℕ
currency = number_in currency_field

abbrev pub strike : Record → ℕ
strike r = number_in (strike_field (forward r)) r

abbrev pub lots : Record → ℤ
lots = signed_in lots_field

abbrev pub delta : Record → ℤ
delta r = signed_in (delta_field (put r)) r

abbrev pub value : Record → ℕ
value = number_in value_field

-- the loss in a scenario, 1 to 16
abbrev pub loss : Record → ℕ → ℤ
loss r scenario = signed_in (loss_field scenario) r

abbrev pub rate_per_spread : Record → ℕ
rate_per_spread = number_in rate_per_spread_field

-- of leg 0, 1 or 2
abbrev pub leg_tier : Record → ℕ → ℕ
leg_tier r leg = number_in (leg_tier_field leg) r

abbrev pub leg_side : Record → ℕ → ℕ
leg_side r leg = number_in (leg_side_field leg) r

abbrev pub leg_ratio : Record → ℕ → ℕ
leg_ratio r leg = number_in (leg_ratio_field leg) r

abbrev pub second_contract : Record → ℕ
second_contract = number_in second_contract_field

abbrev pub percent : Record → ℕ
percent = number_in percent_field

abbrev pub first_ratio : Record → ℕ
first_ratio r = number_in (first_ratio_field (tenths r)) r

abbrev pub second_ratio : Record → ℕ
second_ratio r = number_in (second_ratio_field (tenths r)) r

-- of a currency rate
abbrev pub rate_currency : Record → ℕ
rate_currency = number_in rate_currency_field

abbrev pub spot_rate : Record → ℕ
spot_rate = number_in spot_rate_field

abbrev pub adjustment : Record → ℕ
adjustment = number_in adjustment_field
