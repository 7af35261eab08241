-- Request 2026-01: what a morning's file and a noon file are refused for before a question is put to the joined account.
-- Assumes nothing.
use Rattle.std.specs.Prelude.{ℕ, Bool, ◌&&◌, ◌||◌, cond, List, eqb, ltb, length, Ok, Err}
use Rattle.record.specs.Layout.{Record}
use Rattle.exact.specs.Lists.{any}
use Rattle.account.specs.Accepted.{listed}
use Rattle.account.specs.Answers.{number_of}
use Rattle.account.specs.Check.{records_checked, most_records, most_contracts}
use Rattle.account.specs.Checked.{rates_checked}
use Rattle.account.specs.PartNumbers.{part, part_start, part_count}
use Rattle.account.specs.Parts.{of_kind, place_of}
use Rattle.account.specs.Records.{records, stretch}
use Rattle.account.specs.Joined.{account_of}
use Rattle.account.specs.Answers.{Answer}
use Rattle.account.specs.declared.answers.Refusal.TheVariants.{NoonSpread, TooManyJoined}
use Rattle.account.specs.declared.noon.Place.{Place}
use Rattle.account.specs.declared.noon.Verdict.{Verdict}

-- which file an answer is about: the joined account, the morning's or the noon's
abbrev pub of_joined : Answer → Verdict
of_joined a = record { file = 0; answer = a }

abbrev pub of_morning : Answer → Verdict
of_morning a = record { file = 1; answer = a }

abbrev pub of_noon : Answer → Verdict
of_noon a = record { file = 2; answer = a }

abbrev pub clear : Verdict → Bool
clear v = eqb (number_of v.answer) 0

infixr 30 ◌then◌
abbrev pub ◌then◌ : Verdict → Verdict → Verdict
v then next = cond (clear v) next v

-- 12: "the noon file has kind 5, at its first such record"; 2026-05: "kind 6 comes from the morning, and in the noon file it is a
-- 12"
abbrev pub mornings_own : Record → Bool
mornings_own r = of_kind 5 r || of_kind 6 r

abbrev pub no_spread : List ℕ → Answer
no_spread noon = cond (any mornings_own (records noon)) (Err (NoonSpread (place_of mornings_own (records noon)))) (Ok tt)

-- 13: "more than 640 records joined", "naming the joined record count"
abbrev pub few_joined : ℕ → Answer
few_joined n = cond (ltb most_records n) (Err (TooManyJoined n)) (Ok tt)

-- "Refusals: each file by 01's 1 to 9, morning first, saying which; then 12 ..; then .. 13"
abbrev pub records_verdict : List ℕ → List ℕ → Verdict
records_verdict morning noon =
    of_morning (records_checked morning) then of_noon (records_checked noon) then of_noon (no_spread noon)
    then of_joined (few_joined (length (account_of morning noon)))

-- 2026-05: 14 and 15 "joined, between 13 and 21, naming the joined record"
abbrev pub joined_verdict : List ℕ → List ℕ → Verdict
joined_verdict morning noon = records_verdict morning noon then of_joined (rates_checked (account_of morning noon))

-- "hand back its prompt records as they stand in whichever file supplies them, an empty part if neither lists it or the
-- pair's records are refused": in which file they stand, from which record on, and how many
abbrev pub nowhere : Place
nowhere = record { file = 0; first = 0; records = 0 }

abbrev pub place_in : ℕ → List ℕ → ℕ → Place
place_in n file c = record { file = n; first = part_start file (part 2 c); records = part_count file (part 2 c) }

abbrev pub prompt_place : List ℕ → List ℕ → ℕ → Place
prompt_place morning noon c =
    cond (clear (joined_verdict morning noon) && ltb c most_contracts)
    (cond (listed c (records noon)) (place_in 2 noon c) (cond (listed c (records morning)) (place_in 1 morning c) nowhere))
    nowhere

abbrev pub joined_prompts : List ℕ → List ℕ → ℕ → List ℕ
joined_prompts morning noon c =
    let p = prompt_place morning noon c in stretch (cond (eqb p.file 2) noon morning) p.first p.records
