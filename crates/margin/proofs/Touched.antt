-- The takes of an account's steps are counted and bounded: its spreads and entries are ones that the spread steps accept.
-- Assumes nothing.
use Rattle.std.specs.Prelude.{Ok}
use Prim.Native.Nat.{ℕ}
use mathlib.Core.Path.{◌≡◌}
use mathlib.Core.Bool.{true}
use mathlib.Core.List.{List, [], map}
use lib.ListN.{get_or}
use Rattle.record.specs.Layout.{Record}
use Rattle.account.specs.Checked.{checked}
use Rattle.account.specs.Lawful.{Lawful}
use Rattle.account.specs.Noon.{clear, joined_verdict}
use Rattle.account.specs.Parts.{spreads_of, entries_of}
use Rattle.account.specs.Records.{records}
use Rattle.account.specs.Joined.{account_of}
use Rattle.account.proofs.Alone.{lawful}
use Rattle.account.proofs.NoonLaws.{pair_lawful}
use Rattle.spread.proofs.Touching.{touched}
use Rattle.formulas.specs.Contract.{contracts, parts_of, as_tier, opens_of}
use Rattle.formulas.specs.Deltas.{interprompt, intercontract}
use Rattle.margin.specs.Touched.{TouchesCounted}
use Rattle.margin.proofs.AcceptLaws.{none_within, contract_within, entries_within}
use Rattle.formulas.proofs.LineLaws.{spreads_sound}
use Rattle.formulas.proofs.TableLaws.{entry_accepted}

touches_counted : (account : List Record) → Lawful account → TouchesCounted account
touches_counted account law =
    record {
      interprompt =
          λ c.
          let w = contract_within account law [] c none_within in
          touched (map interprompt (spreads_of c account)) (opens_of (parts_of account c))
          (spreads_sound interprompt (spreads_of c account) (λ k h. (w.each_spread k h).sound));
      intercontract =
          let w = entries_within account law in
          touched (map intercontract (entries_of account)) (map as_tier (contracts account))
          (spreads_sound intercontract (entries_of account) (λ k h. entry_accepted (get_or (entries_of account) k []) (w.each k h)));
    }

-- of an accepted file, and of a pair of files that is not refused
pub file_touched : (file : List ℕ) → checked file ≡ Ok tt → TouchesCounted (records file)
file_touched file ok = touches_counted (records file) (lawful file ok)

pub pair_touched : (morning noon : List ℕ) → clear (joined_verdict morning noon) ≡ true → TouchesCounted (account_of morning noon)
pair_touched morning noon c = touches_counted (account_of morning noon) (pair_lawful morning noon c)
