-- Nothing still open could have been paired: the spreads and entries of a lawful account are ones that the spread steps accept.
-- Assumes nothing.
use Rattle.std.specs.Prelude.{Ok}
use Prim.Native.Nat.{ℕ}
use mathlib.Core.Path.{◌≡◌}
use mathlib.Core.Bool.{true}
use mathlib.Core.List.{List, [], map}
use lib.ListN.{get_or}
use Rattle.record.specs.Layout.{Record}
use Rattle.account.specs.Checked.{checked}
use Rattle.account.specs.Lawful.{Lawful}
use Rattle.account.specs.Noon.{clear, joined_verdict}
use Rattle.account.specs.Parts.{spreads_of, entries_of}
use Rattle.account.specs.Records.{records}
use Rattle.account.specs.Joined.{account_of}
use Rattle.account.proofs.Alone.{lawful}
use Rattle.account.proofs.NoonLaws.{pair_lawful}
use Rattle.spread.proofs.Again.{nothing_to_pair}
use Rattle.spread.proofs.Soundness.{steps-sound}
use Rattle.formulas.specs.Contract.{contracts, parts_of, as_tier, contract_steps, opens_of, table_steps}
use Rattle.formulas.specs.Deltas.{interprompt, intercontract}
use Rattle.margin.specs.Unpaired.{NothingOpen}
use Rattle.margin.proofs.AcceptLaws.{none_within, contract_within, entries_within}
use Rattle.formulas.proofs.LineLaws.{spreads_sound, interprompt-whole}
use Rattle.formulas.proofs.TableLaws.{entry_accepted}

nothing_open : (account : List Record) → Lawful account → NothingOpen account
nothing_open account law =
    record {
      interprompt =
          λ c.
          let w = contract_within account law [] c none_within in
          nothing_to_pair (contract_steps (parts_of account c)) (opens_of (parts_of account c))
          (steps-sound (map interprompt (spreads_of c account))
          (spreads_sound interprompt (spreads_of c account) (λ k h. (w.each_spread k h).sound)))
          (interprompt-whole (spreads_of c account));
      intercontract =
          λ whole.
          let w = entries_within account law in
          nothing_to_pair (table_steps (entries_of account)) (map as_tier (contracts account))
          (steps-sound (map intercontract (entries_of account))
          (spreads_sound intercontract (entries_of account) (λ k h. entry_accepted (get_or (entries_of account) k []) (w.each k h))))
          whole;
    }

-- of an accepted file, and of a pair of files that is not refused
pub file_unpaired : (file : List ℕ) → checked file ≡ Ok tt → NothingOpen (records file)
file_unpaired file ok = nothing_open (records file) (lawful file ok)

pub pair_unpaired : (morning noon : List ℕ) → clear (joined_verdict morning noon) ≡ true → NothingOpen (account_of morning noon)
pair_unpaired morning noon c = nothing_open (account_of morning noon) (pair_lawful morning noon c)
