-- All that is promised holds, of any bytes.
-- Assumes nothing.
use Prim.Native.Nat.{ℕ}
use mathlib.Core.List.{List}
use Rattle.exact.proofs.Determined.{one_result, one_outcome_lem, one_largest}
use Rattle.exact.proofs.FractionLaws.{fractions}
use Rattle.exact.proofs.UnitLaws.{units}
use Rattle.spread.proofs.Booking.{booked_one}
use Rattle.spread.proofs.Stepping.{stepped_one}
use Rattle.spread.proofs.Touching.{counted_one}
use Rattle.account.proofs.ProductLaws.{one_table}
use Rattle.account.proofs.Claimed.{claimed}
use Rattle.account.proofs.OneJoined.{determined}
use Rattle.account.proofs.PairClaimed.{pair_claimed}
use Rattle.questions.proofs.Demands.{demand1, demand2, demanded_file, demanded_joined}
use Rattle.questions.proofs.HeldLaws.{one_view, one_asked}
use Rattle.questions.proofs.NeedLaws.{file_needed, pair_needed}
use Rattle.questions.proofs.NoonLaws.{one_asked_pair}
use Rattle.questions.proofs.PairDemands.{pair_demand1}
use Rattle.lists.proofs.Claims.{list_claims, pair_claims}
use Rattle.questions.proofs.PlaceLaws.{file_places, pair_places}
use Rattle.formulas.proofs.PairLaws.{pair_table_lem}
use Rattle.margin.proofs.Reckoned.{reckoned, printed}
use Rattle.margin.proofs.Skipped.{file_skips_none, pair_skips_none}
use Rattle.margin.proofs.Touched.{file_touched, pair_touched}
use Rattle.margin.proofs.Unpaired.{file_unpaired, pair_unpaired}
use Rattle.runs.proofs.Claims.{claims as run-claims}
use Rattle.committee.proofs.Claims.{claims as committee-claims}
use Rattle.statements.proofs.Apart.{can_be_met_lem, not_the_margin_lem}
use Rattle.statements.proofs.Stated.{statements}
use Rattle.tickets.proofs.Claims.{claims as ticket-claims}
use Rattle.tickets.proofs.KeptClaimed.{kept_claims}
use Rattle.writing.proofs.Claimed.{claimed as writing-claims}
use Rattle.screen.proofs.Claims.{claims as screen-claims}
use Rattle.felgotany.specs.Roof.{OneFile, TwoFiles, OneOutcome, Roof}
use Rattle.felgotany.proofs.Told.{one_told, all_told, one_told_of, all_told_of_lem, one_call, one_place, one_list, one_pair_list, one_added, one_total}
use Rattle.felgotany.proofs.Told.{one_limit, one_asked as one-ticket, one_written}

one_file_lem : (file : List ℕ) → OneFile file
one_file_lem file =
    record {
      demand1 = demand1 file;
      exact = claimed file;
      demand3 = demanded_file file;
      skipped = file_skips_none file;
      unpaired = file_unpaired file;
      touched = file_touched file;
      needed = file_needed file;
      places = λ paid. file_places paid file;
    }

two_files_lem : (morning noon : List ℕ) → TwoFiles morning noon
two_files_lem morning noon =
    record {
      demand1 = pair_demand1 morning noon;
      exact = pair_claimed morning noon;
      demand3 = demanded_joined morning noon;
      skipped = pair_skips_none morning noon;
      unpaired = pair_unpaired morning noon;
      touched = pair_touched morning noon;
      needed = pair_needed morning noon;
      places = λ paid. pair_places paid morning noon;
    }

one_outcomes : OneOutcome
one_outcomes =
    record {
      largest = one_largest;
      booked = booked_one;
      counted = counted_one;
      stepped = stepped_one;
      check = determined;
      table = one_table;
      view = one_view;
      asked = one_asked;
      asked_of_pair = one_asked_pair;
      told = one_told;
      all_told_lem = all_told;
      told_of = one_told_of;
      all_told_of = all_told_of_lem;
      called = one_call;
      placed = one_place;
      list_told = one_list;
      ticket_told = one-ticket;
      write_told = one_written;
      add_told = one_added;
      total_told = one_total;
      limit_told = one_limit;
      pair_list_told = one_pair_list;
    }

pub roof : Roof
roof =
    record {
      one_file = one_file_lem;
      two_files = two_files_lem;
      run = run-claims;
      committee = committee-claims;
      ticket = ticket-claims;
      kept = kept_claims;
      writing = writing-claims;
      screen = screen-claims;
      sent_lists = record { one_file = list_claims; two_files = pair_claims };
      demand2 = demand2;
      reckoned = reckoned;
      printed = printed;
      pair_table = pair_table_lem;
      fractions = fractions;
      units = units;
      statements = statements;
      can_be_met = can_be_met_lem;
      not_the_margin = not_the_margin_lem;
      equations = record { result = λ x r s. one_result x r s; outcome = λ x r s y after after'. one_outcome_lem x r s y after after' };
      one_outcome = one_outcomes;
    }
