-- Tickets put in one after the other: the file with all of them is accepted, and but for its rows has the records of the file.
-- Assumes nothing.
use Rattle.std.specs.Prelude.{Ok}
use Prim.Native.Nat.{ℕ, suc, ◌+◌}
use mathlib.Core.Path.{◌≡◌, refl, ap, ◌∙◌, subst, subst⁻¹}
use mathlib.Core.Bool.{Bool, true, false}
use mathlib.Core.List.{List, [], ◌∷◌, ◌++◌}
use lib.Dec.{ltb}
use lib.ListN.{length, get_or, take, length-append, get_or-append}
use lib.Seq.{take-append-le, take-append_seam, get_or-append_seam}
use native.Mathlib.Omega.{arith}
use borrow.Author.Tests.{ltb-true, ltb-false}
use Rattle.record.specs.Layout.{Record}
use Rattle.account.specs.Answers.{number_of, record_of}
use Rattle.account.specs.Checked.{checked}
use Rattle.account.specs.Parts.{contracts_of, prompts_of, spreads_of, entries_of, rates_of}
use Rattle.account.specs.Records.{records}
use Rattle.tickets.specs.Claims.{TicketRow}
use Rattle.tickets.specs.code.Counts.{TakenRows}
use Rattle.tickets.specs.Ticket.{with_ticket, with_tickets, ticket_checked}
use Rattle.tickets.proofs.Claims.{exactly, one_row_more, put_in}

pub tickets_last :
    (file : List ℕ) (ts : List Record) (t : Record) → with_tickets file (ts ++ t ∷ []) ≡ with_ticket (with_tickets file ts) t
tickets_last file [] t = refl
tickets_last file (x ∷ ts) t = tickets_last (with_ticket file x) ts t

-- an accepted ticket is a row of 96 bytes
pub taken_row : (file : List ℕ) (t : Record) → ticket_checked file t ≡ Ok tt → TicketRow t
taken_row file t h = ((exactly file t).accepted.forth (record { number = ap number_of h; record_is = ap record_of h })).0

pub taken_one : (file : List ℕ) (t : Record) → checked file ≡ Ok tt → ticket_checked file t ≡ Ok tt → checked (with_ticket file t) ≡ Ok tt
taken_one file t ok h = (put_in file t ok (taken_row file t h)).accepted.forth h

taken_rest : (file : List ℕ) (t : Record) (ts : List Record) → TakenRows file (t ∷ ts) → TakenRows (with_ticket file t) ts
taken_rest file t ts taken n h = taken (suc n) (omega arith)

pub accepted_with : (file : List ℕ) (ts : List Record) → checked file ≡ Ok tt → TakenRows file ts → checked (with_tickets file ts) ≡ Ok tt
accepted_with file [] ok taken = ok
accepted_with file (t ∷ ts) ok taken =
    accepted_with (with_ticket file t) ts (taken_one file t ok (taken 0 (omega arith))) (taken_rest file t ts taken)

-- ---- but for the rows, the records of the file
pub record SameParts (whole more : List Record) : Type 0 where
  pub contracts : contracts_of more ≡ contracts_of whole
  pub prompts : (c : ℕ) → prompts_of c more ≡ prompts_of c whole
  pub spreads : (c : ℕ) → spreads_of c more ≡ spreads_of c whole
  pub entries : entries_of more ≡ entries_of whole
  pub rates : rates_of more ≡ rates_of whole

pub same_with : (file : List ℕ) (ts : List Record) → checked file ≡ Ok tt → TakenRows file ts → SameParts (records file) (records (with_tickets file ts))
same_with file [] ok taken = record { contracts = refl; prompts = λ c. refl; spreads = λ c. refl; entries = refl; rates = refl }
same_with file (t ∷ ts) ok taken =
    let h = taken 0 (omega arith) in
    let one = one_row_more file t ok (taken_row file t h) in
    let rest = same_with (with_ticket file t) ts (taken_one file t ok h) (taken_rest file t ts taken) in
    record {
      contracts = rest.contracts ∙ one.contracts;
      prompts = λ c. rest.prompts c ∙ one.prompts c;
      spreads = λ c. rest.spreads c ∙ one.spreads c;
      entries = rest.entries ∙ one.entries;
      rates = rest.rates ∙ one.rates;
    }

pub length_all :
    (file : List ℕ) (ts : List Record) → checked file ≡ Ok tt → TakenRows file ts
    → length (records (with_tickets file ts)) ≡ length (records file) + length ts
length_all file [] ok taken = omega arith
length_all file (t ∷ ts) ok taken =
    let h = taken 0 (omega arith) in
    let one = (one_row_more file t ok (taken_row file t h)).length_is in
    let rest = length_all (with_ticket file t) ts (taken_one file t ok h) (taken_rest file t ts taken) in
    omega arith

-- ---- one ticket more, and one less
module _ (file : List ℕ) (ts : List Record) (t : Record) where
  long : length (ts ++ t ∷ []) ≡ length ts + 1
  long = omega (arith, length-append ts (t ∷ []))

  abbrev At : List Record → Record → Type 0
  At us u = ticket_checked (with_tickets file us) u ≡ Ok tt

  pub taken_more : TakenRows file ts → ticket_checked (with_tickets file ts) t ≡ Ok tt → TakenRows file (ts ++ t ∷ [])
  taken_more taken h n l = go (ltb n (length ts)) refl
    where
      go : (b : Bool) → ltb n (length ts) ≡ b → At (take n (ts ++ t ∷ [])) (get_or (ts ++ t ∷ []) n [])
      go true e =
          let m = ltb-true n (length ts) e in
          subst⁻¹ (λ (us : List Record). At us (get_or (ts ++ t ∷ []) n [])) (take-append-le n ts (t ∷ []) (omega arith))
          (subst⁻¹ (At (take n ts)) (get_or-append ts (t ∷ []) [] n m) (taken n m))
      go false e =
          let m = ltb-false n (length ts) e in
          let same : length ts ≡ n = omega (arith, long) in
          subst (λ (i : ℕ). At (take i (ts ++ t ∷ [])) (get_or (ts ++ t ∷ []) i [])) same
          (subst⁻¹ (λ (us : List Record). At us (get_or (ts ++ t ∷ []) (length ts) [])) (take-append_seam ts (t ∷ []))
          (subst⁻¹ (At ts) (get_or-append_seam ts t [] []) h))

  pub taken_less : TakenRows file (ts ++ t ∷ []) → TakenRows file ts
  taken_less taken n l =
      subst (λ (us : List Record). At us (get_or ts n [])) (take-append-le n ts (t ∷ []) (omega arith))
      (subst (At (take n (ts ++ t ∷ []))) (get_or-append ts (t ∷ []) [] n l) (taken n (omega (arith, long))))

  pub taken_last : TakenRows file (ts ++ t ∷ []) → ticket_checked (with_tickets file ts) t ≡ Ok tt
  taken_last taken =
      subst (λ (us : List Record). At us t) (take-append_seam ts (t ∷ []))
      (subst (At (take (length ts) (ts ++ t ∷ []))) (get_or-append_seam ts t [] []) (taken (length ts) (omega (arith, long))))
