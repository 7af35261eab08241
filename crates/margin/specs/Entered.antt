-- Records as a person enters them, for the reckoned examples: the table of fields of document 01 and of requests 2026-03, 2026-05
-- and 2026-09, written out.
-- Assumes nothing.
use Rattle.std.specs.Prelude.{ℕ, ◌-◌, ◌/◌, ◌%◌, List, [], ◌∷◌, ◌++◌, take, replicate, ℤ, pos, negsuc}
use Rattle.record.specs.Layout.{Record}

abbrev pub two : ℕ → List ℕ
two n = n % 256 ∷ n / 256 ∷ []

abbrev pub four : ℕ → List ℕ
four n = n % 256 ∷ n / 256 % 256 ∷ n / 65536 % 256 ∷ n / 16777216 ∷ []

abbrev pub signed : ℤ → List ℕ
signed (pos n) = four n
signed (negsuc n) = four (4294967295 - n)

abbrev pub all_signed : List ℤ → List ℕ
all_signed [] = []
all_signed (z ∷ zs) = signed z ++ all_signed zs

abbrev pub filled : List ℕ → Record
filled bytes = take 96 (bytes ++ replicate 96 0)

-- the unit in hundredths, or 0
abbrev pub contract_record : ℕ → ℕ → ℕ → Record
contract_record number rate unit = filled (1 ∷ number ∷ 0 ∷ 0 ∷ four rate ++ two unit)

abbrev pub prompt_record : ℕ → ℕ → ℕ → ℕ → ℕ → Record
prompt_record number tier day spread_rate_of outright_rate_of =
    filled (2 ∷ number ∷ tier ∷ 0 ∷ four day ++ four spread_rate_of ++ four outright_rate_of)

-- a row in a currency; its kind is 0 forward, 1 call, 2 put
abbrev pub row_in : ℕ → ℕ → ℕ → ℕ → ℕ → ℤ → ℤ → ℕ → List ℤ → Record
row_in currency number row_type day strike lots delta value losses =
    filled (3 ∷ number ∷ row_type ∷ currency ∷ four day ++ four strike ++ signed lots ++ signed delta ++ four value ++ all_signed losses)

-- a row in the margin currency
abbrev pub row_record : ℕ → ℕ → ℕ → ℕ → ℤ → ℤ → ℕ → List ℤ → Record
row_record = row_in 0

-- a leg A of the first tier and ratio, a leg B of the second
abbrev pub spread_record : ℕ → ℕ → ℕ → ℕ → ℕ → ℕ → Record
spread_record number rate tierA ratioA tierB ratioB =
    filled (4 ∷ number ∷ 2 ∷ 0 ∷ four rate ++ (tierA ∷ 1 ∷ two ratioA) ++ (tierB ∷ 2 ∷ two ratioB))

-- 1 says that the ratios are tenths
abbrev pub entry_record : ℕ → ℕ → ℕ → ℕ → ℕ → ℕ → Record
entry_record first second percent first_ratio second_ratio tenths =
    filled (5 ∷ first ∷ second ∷ percent ∷ two first_ratio ++ two second_ratio ++ (tenths ∷ []))

-- the spot rate in millionths, the adjustment in percent
abbrev pub rate_record : ℕ → ℕ → ℕ → Record
rate_record currency spot_rate adjustment = filled (6 ∷ currency ∷ 0 ∷ 0 ∷ four spot_rate ++ (adjustment ∷ []))
