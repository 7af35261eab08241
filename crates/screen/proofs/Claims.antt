-- The claims of request 2026-14: each refusal exactly in its order, and what the lent bytes hold once a ticket is added.
-- Assumes nothing.
use Rattle.std.specs.Prelude.{Ok, Err}
use Prim.Native.Nat.{ℕ, ◌+◌, ◌*◌, ◌≤◌, ◌<◌}
use native.Mathlib.Omega.{arith}
use mathlib.Core.Path.{◌≡◌, refl, sym, ap, subst, subst⁻¹, ◌∙◌}
use mathlib.Core.Bool.{Bool, true, false, cond}
use mathlib.Core.Logic.{◌⊎◌, inl, inr}
use mathlib.Core.List.{List, ◌++◌}
use borrow.Author.Tests.{eqb-true, eqb-false, ltb-true, ltb-false, leb-true, leb-false, le-leb, lt-leb}
use lib.Dec.{leb, ltb}
use lib.IntN.{ℤ, pos, nat_abs}
use lib.ListN.{length, length-append, length-drop, take, drop}
use lib.Seq.{length-take-le, take_at, drop_at}
use lib.Signed.{lt_z}
use Rattle.record.specs.Layout.{Record, record_bytes}
use Rattle.account.specs.Answers.{number_of, record_of, and_then}
use Rattle.account.specs.Checked.{checked}
use Rattle.account.specs.Records.{records}
use Rattle.account.specs.Answers.{Answer}
use Rattle.account.specs.declared.answers.Refusal.TheVariants.{TooFewBytes}
use Rattle.margin.specs.Figures.{account_total}
use Rattle.margin.specs.Questions.{not_refused, if_accepted}
use Rattle.margin.proofs.QuestionLaws.{accepted_only, if_accepted_lem, if_refused}
use Rattle.tickets.specs.Ticket.{place, with_ticket, ticket_checked}
use Rattle.screen.specs.Claims.{AnswerSays, LoadExactly, OrderExactly, AddExactly, LimitExactly, AfterAdding, Adding, Agree, Claims}
use Rattle.screen.specs.Screen.{held, load_answer, order_answer, no_room, add_answer, after_add, amount_of, total_held, total_with, limit_answer, weighed, limited}
use Rattle.screen.specs.Screen.{limit_number, limit_total}
use Rattle.screen.specs.declared.Limited.TheVariants.{Within, Over}
use Rattle.screen.proofs.ScreenLaws.{both, lacking, all_lent, order_lacking, limit_below, limit_stands, put_long, not-added, when_added, add_refused}
use Rattle.screen.proofs.ScreenLaws.{add_no_room, add_room}
use Rattle.screen.proofs.TicketLaws.{check_low, ticket_low, ticket_long, accepted_with, stands_within}

-- ---- one answer, then the next

module _ (a next : Answer) where
  either : (n k : ℕ) → AnswerSays (if_accepted a next) n k → (n ≡ 0 → ⊥) → AnswerSays a n k ⊎ ((a ≡ Ok tt) × AnswerSays next n k)
  either n k says some = go (not_refused a) refl
    where
      go : (t : Bool) → not_refused a ≡ t → AnswerSays a n k ⊎ ((a ≡ Ok tt) × AnswerSays next n k)
      go true h =
          let ok = accepted_only a (eqb-true (number_of a) 0 h) in
          inr (ok, subst (λ (x : Answer). AnswerSays x n k) (if_accepted_lem a next ok) says)
      go false h = inl (subst (λ (x : Answer). AnswerSays x n k) (if_refused a next (eqb-false (number_of a) 0 h)) says)

  first_says : (n k : ℕ) → (n ≡ 0 → ⊥) → AnswerSays a n k → AnswerSays (if_accepted a next) n k
  first_says n k some says = subst⁻¹ (λ (x : Answer). AnswerSays x n k) (if_refused a next (λ z. some (sym says.number ∙ z))) says

  next_says : (n k : ℕ) → a ≡ Ok tt → AnswerSays next n k → AnswerSays (if_accepted a next) n k
  next_says n k ok says = subst⁻¹ (λ (x : Answer). AnswerSays x n k) (if_accepted_lem a next ok) says

  then_most : (m : ℕ) → number_of a ≤ m → number_of next ≤ m → number_of (if_accepted a next) ≤ m
  then_most m f g = go (not_refused a) refl
    where
      go : (t : Bool) → not_refused a ≡ t → number_of (cond t next a) ≤ m
      go true h = g
      go false h = f

-- an answer by its number, with its record
itself : (a : Answer) → AnswerSays a (number_of a) (record_of a)
itself a = record { number = refl; place = refl }

-- ---- "load an account"

module _ (lent : List ℕ) (named : ℕ) where
  load_exactly : LoadExactly lent named
  load_exactly = record {
    sixteen = record { forth = λ e. sixteen (ltb (length lent) named) refl e; back = λ h. ap number_of (lacking lent named h) };
    accounts = λ n k other. record {
      forth = λ says. account n k other says (ltb (length lent) named) refl;
      back = λ h. subst⁻¹ (λ (x : Answer). AnswerSays x n k) (all_lent lent named h.0) h.1;
    };
  }
    where
      sixteen : (t : Bool) → ltb (length lent) named ≡ t → number_of (cond t (Err TooFewBytes) (checked (held lent named))) ≡ 16 → length lent < named
      sixteen true h e = ltb-true (length lent) named h
      sixteen false h e = absurd (let m = check_low (held lent named) in omega (arith, m, e))

      account : (n k : ℕ) → (n ≡ 16 → ⊥) → AnswerSays (load_answer lent named) n k → (t : Bool) → ltb (length lent) named ≡ t
          → (named ≤ length lent) × AnswerSays (checked (held lent named)) n k
      account n k other says true h =
          absurd (other (sym says.number ∙ ap number_of (lacking lent named (ltb-true (length lent) named h))))
      account n k other says false h =
          let l = ltb-false (length lent) named h in
          (l, subst (λ (x : Answer). AnswerSays x n k) (all_lent lent named l) says)

  -- ---- a ticket

  load_most : named ≤ length lent → number_of (load_answer lent named) ≤ 15
  load_most h = subst⁻¹ (λ (a : Answer). number_of a ≤ 15) (all_lent lent named h) (check_low (held lent named))

  module _ (ticket : Record) where
    abbrev order : Answer
    order = order_answer lent named ticket

    abbrev row : Answer
    row = ticket_checked (held lent named) ticket

    order_most : named ≤ length lent → number_of order ≤ 15
    order_most h = then_most (load_answer lent named) row 15 (load_most h) (ticket_low (held lent named) ticket)

    order_exactly : OrderExactly lent named ticket
    order_exactly = record {
      sixteen = record { forth = λ e. sixteen (ltb (length lent) named) refl e; back = λ h. ap number_of (order_lacking lent named ticket h) };
      others = λ n k some. record {
        forth = λ says. either (load_answer lent named) row n k says some;
        back = backwards n k some;
      };
      accepted = record { forth = both (load_answer lent named) row; back = λ h. if_accepted_lem (load_answer lent named) row h.0 ∙ h.1 };
    }
      where
        sixteen : (t : Bool) → ltb (length lent) named ≡ t → number_of order ≡ 16 → length lent < named
        sixteen true h e = ltb-true (length lent) named h
        sixteen false h e = absurd (let m = order_most (ltb-false (length lent) named h) in omega (arith, m, e))

        backwards : (n k : ℕ) → (n ≡ 0 → ⊥) → AnswerSays (load_answer lent named) n k ⊎ ((load_answer lent named ≡ Ok tt) × AnswerSays row n k)
            → AnswerSays order n k
        backwards n k some (inl says) = first_says (load_answer lent named) row n k some says
        backwards n k some (inr h) = next_says (load_answer lent named) row n k h.0 h.1

    -- ---- "add a ticket"

    abbrev room : Answer
    room = cond (no_room lent named) (Err TooFewBytes) (Ok tt)

    has_room : room ≡ Ok tt → named + record_bytes ≤ length lent
    has_room = go (no_room lent named) refl
      where
        go : (t : Bool) → no_room lent named ≡ t → cond {A = Answer} t (Err TooFewBytes) (Ok tt) ≡ Ok tt → named + record_bytes ≤ length lent
        go true h e = absurd (let n = ap number_of e in omega (arith, n))
        go false h e = ltb-false (length lent) (named + record_bytes) h

    no_room_lem : (n k : ℕ) → (n ≡ 0 → ⊥) → AnswerSays room n k → (n ≡ 16) × (length lent < named + record_bytes)
    no_room_lem n k some says = go (no_room lent named) refl says
      where
        go : (t : Bool) → no_room lent named ≡ t → AnswerSays (cond t (Err TooFewBytes) (Ok tt)) n k → (n ≡ 16) × (length lent < named + record_bytes)
        go true h s = (sym s.number, ltb-true (length lent) (named + record_bytes) h)
        go false h s = absurd (some (sym s.number))

    add_exactly : AddExactly lent named ticket
    add_exactly = record {
      sixteen = record { forth = sixteen; back = backwards };
      others = λ n k some other. record {
        forth = λ says. other_of n k some other (either order room n k says some);
        back = first_says order room n k some;
      };
      accepted = record { forth = λ e. let h = both order room e in (h.0, has_room h.1); back = λ h. add_room lent named ticket h.0 h.1 };
    }
      where
        other_of : (n k : ℕ) → (n ≡ 0 → ⊥) → (n ≡ 16 → ⊥) → AnswerSays order n k ⊎ ((order ≡ Ok tt) × AnswerSays room n k) → AnswerSays order n k
        other_of n k some other (inl says) = says
        other_of n k some other (inr h) = absurd (other (no_room_lem n k some h.1).0)

        sixteen : number_of (add_answer lent named ticket) ≡ 16 → (length lent < named) ⊎ ((order ≡ Ok tt) × (length lent < named + record_bytes))
        sixteen e = go (either order room 16 (record_of (add_answer lent named ticket)) (record { number = e; place = refl }) (λ z. omega (arith, z)))
          where
            go : AnswerSays order 16 (record_of (add_answer lent named ticket))
                ⊎ ((order ≡ Ok tt) × AnswerSays room 16 (record_of (add_answer lent named ticket)))
                → (length lent < named) ⊎ ((order ≡ Ok tt) × (length lent < named + record_bytes))
            go (inl says) = inl (order_exactly.sixteen.forth says.number)
            go (inr h) = inr (h.0, (no_room_lem 16 (record_of (add_answer lent named ticket)) (λ z. omega (arith, z)) h.1).1)

        backwards : (length lent < named) ⊎ ((order ≡ Ok tt) × (length lent < named + record_bytes)) → number_of (add_answer lent named ticket) ≡ 16
        backwards (inl h) =
            let e = order_lacking lent named ticket h in
            ap number_of (add_refused lent named ticket (λ z. let n = ap number_of e in omega (arith, z, n)) ∙ e)
        backwards (inr h) = ap number_of (add_no_room lent named ticket h.0 h.1)

    -- ---- after adding

    module _ (e : add_answer lent named ticket ≡ Ok tt) where
      abbrev file : List ℕ
      file = held lent named

      abbrev with_it : List ℕ
      with_it = with_ticket file ticket

      abbrev after : List ℕ
      after = after_add lent named ticket

      passed : (order ≡ Ok tt) × (named + record_bytes ≤ length lent)
      passed = add_exactly.accepted.forth e

      stood : (load_answer lent named ≡ Ok tt) × (row ≡ Ok tt)
      stood = order_exactly.accepted.forth passed.0

      all_named : named ≤ length lent
      all_named = let r = passed.1 in omega (arith, r)

      ok : checked file ≡ Ok tt
      ok = sym (all_lent lent named all_named) ∙ stood.0

      file_long : length file ≡ named
      file_long = length-take-le named lent all_named

      with_long : length with_it ≡ named + record_bytes
      with_long =
          let b = place ticket (records file) * record_bytes in
          let f = file_long in
          let r = ticket_long file ticket ok stood.1 in
          let l = put_long b ticket file (stands_within file ticket ok) in
          omega (arith, f, r, l)

      after_is : after ≡ with_it ++ drop (named + record_bytes) lent
      after_is = sym (when_added lent named ticket e).after

      holds : held after (named + record_bytes) ≡ with_it
      holds = ap (take (named + record_bytes)) after_is ∙ take_at with_it (drop (named + record_bytes) lent) (named + record_bytes) with_long

      as_long : length after ≡ length lent
      as_long =
          let p = ap length after_is ∙ length-append with_it (drop (named + record_bytes) lent) in
          let d = length-drop (named + record_bytes) lent in
          let w = with_long in
          let r = passed.1 in
          omega (arith, p, d, w, r)

      loads : load_answer after (named + record_bytes) ≡ Ok tt
      loads =
          all_lent after (named + record_bytes) (let l = as_long in let r = passed.1 in omega (arith, l, r))
          ∙ ap checked holds
          ∙ accepted_with file ticket ok stood.1

      after_adding : AfterAdding lent named ticket
      after_adding = record {
        holds = holds;
        loads = loads;
        total =
            ap (λ (a : Answer). and_then a (Ok (amount_of (total_held after (named + record_bytes))))) loads
            ∙ ap (λ (xs : List ℕ). Ok (amount_of (account_total (records xs)))) holds;
        beyond = ap (drop (named + record_bytes)) after_is ∙ drop_at with_it (drop (named + record_bytes) lent) (named + record_bytes) with_long;
        as_long = as_long;
      }

    adding : Adding lent named ticket
    adding = record {
      added = after_adding;
      refused = unchanged (add_answer lent named ticket) refl;
    }
      where
        unchanged : (a : Answer) → add_answer lent named ticket ≡ a → (add_answer lent named ticket ≡ Ok tt → ⊥) → after_add lent named ticket ≡ lent
        unchanged (Ok u) e d = absurd (d e)
        unchanged (Err r) e d = sym (not-added lent named ticket r e).after

    -- ---- "ask whether the total with a ticket stays at or below the client's limit"

    module _ (limit : ℤ) where
      abbrev asked : Answer
      asked = limit_answer lent named ticket limit

      order_below : number_of order ≤ 16
      order_below = go (ltb (length lent) named) refl
        where
          go : (t : Bool) → ltb (length lent) named ≡ t → number_of order ≤ 16
          go true h = let n = ap number_of (order_lacking lent named ticket (ltb-true (length lent) named h)) in omega (arith, n)
          go false h = let n = order_most (ltb-false (length lent) named h) in omega (arith, n)

      abbrev total : ℕ
      total = total_with lent named ticket

      -- a yes and a no, apart
      said : (a : Answer) → asked ≡ a → (u : Bool) → leb total (nat_abs limit) ≡ u
          → limited lent named ticket limit ≡ and_then a (Ok (cond u (Within (amount_of total)) (Over (amount_of total))))
      said a h u g =
          ap (λ (a : Answer). and_then a (Ok (weighed (nat_abs limit) total))) h
          ∙ ap (λ (u : Bool). and_then a (Ok (cond u (Within (amount_of total)) (Over (amount_of total))))) g

      yes_of : (n : ℕ) (a : Answer) → asked ≡ a → (u : Bool) → leb total (nat_abs limit) ≡ u → limited lent named ticket limit ≡ Ok (Within (amount_of n))
          → (asked ≡ Ok tt) × ((total ≡ n) × (n ≤ nat_abs limit))
      yes_of n (Ok w) h true g e =
          let same : total ≡ n = ap limit_total (sym (said (Ok w) h true g) ∙ e) in
          let le = leb-true total (nat_abs limit) g in
          (h, (same, omega (arith, same, le)))
      yes_of n (Ok w) h false g e = absurd (let v : 2 ≡ 1 = ap limit_number (sym (said (Ok w) h false g) ∙ e) in omega (arith, v))
      yes_of n (Err r) h u g e = absurd (let v : 0 ≡ 1 = ap limit_number (sym (said (Err r) h u g) ∙ e) in omega (arith, v))

      no_of : (n : ℕ) (a : Answer) → asked ≡ a → (u : Bool) → leb total (nat_abs limit) ≡ u → limited lent named ticket limit ≡ Ok (Over (amount_of n))
          → (asked ≡ Ok tt) × ((total ≡ n) × (nat_abs limit < n))
      no_of n (Ok w) h false g e =
          let same : total ≡ n = ap limit_total (sym (said (Ok w) h false g) ∙ e) in
          let lt = leb-false total (nat_abs limit) g in
          (h, (same, omega (arith, same, lt)))
      no_of n (Ok w) h true g e = absurd (let v : 1 ≡ 2 = ap limit_number (sym (said (Ok w) h true g) ∙ e) in omega (arith, v))
      no_of n (Err r) h u g e = absurd (let v : 0 ≡ 2 = ap limit_number (sym (said (Err r) h u g) ∙ e) in omega (arith, v))

      limit_exactly : LimitExactly lent named ticket limit
      limit_exactly = record {
        twenty = record { forth = λ e. twenty (lt_z limit (pos 0)) refl e; back = λ h. ap number_of (limit_below lent named ticket limit h) };
        others = λ n k other. record {
          forth = λ says. others n k other says (lt_z limit (pos 0)) refl;
          back = λ h. subst⁻¹ (λ (x : Answer). AnswerSays x n k) (limit_stands lent named ticket limit h.0) h.1;
        };
        yes = λ n. record {
          forth = yes_of n asked refl (leb total (nat_abs limit)) refl;
          back = λ h.
              said (Ok tt) h.0 true (le-leb total (nat_abs limit) (let a = h.1.0 in let b = h.1.1 in omega (arith, a, b)))
              ∙ ap (λ (n : ℕ). Ok (Within (amount_of n))) h.1.0;
        };
        no = λ n. record {
          forth = no_of n asked refl (leb total (nat_abs limit)) refl;
          back = λ h.
              said (Ok tt) h.0 false (lt-leb total (nat_abs limit) (let a = h.1.0 in let b = h.1.1 in omega (arith, a, b)))
              ∙ ap (λ (n : ℕ). Ok (Over (amount_of n))) h.1.0;
        };
      }
        where
          twenty : (t : Bool) → lt_z limit (pos 0) ≡ t → number_of asked ≡ 20 → lt_z limit (pos 0) ≡ true
          twenty true h e = h
          twenty false h e = absurd (let n = ap number_of (limit_stands lent named ticket limit h) in let b = order_below in omega (arith, n, b, e))

          others : (n k : ℕ) → (n ≡ 20 → ⊥) → AnswerSays asked n k → (t : Bool) → lt_z limit (pos 0) ≡ t → (lt_z limit (pos 0) ≡ false) × AnswerSays order n k
          others n k other says true h = absurd (other (sym says.number ∙ ap number_of (limit_below lent named ticket limit h)))
          others n k other says false h = (h, subst (λ (x : Answer). AnswerSays x n k) (limit_stands lent named ticket limit h) says)

      agree : Agree lent named ticket limit
      agree = record {
        asked = λ e room-is. add_room lent named ticket (in_order (lt_z limit (pos 0)) refl e) room-is;
        added = λ e h. limit_stands lent named ticket limit h ∙ (passed e).0;
      }
        where
          in_order : (t : Bool) → lt_z limit (pos 0) ≡ t → asked ≡ Ok tt → order ≡ Ok tt
          in_order true h e = absurd (let n = ap number_of (sym (limit_below lent named ticket limit h) ∙ e) in omega (arith, n))
          in_order false h e = sym (limit_stands lent named ticket limit h) ∙ e

      pub claims : Claims lent named ticket limit
      claims = record {
        load = load_exactly;
        order = order_exactly;
        add = add_exactly;
        limit_asked = limit_exactly;
        adding = adding;
        agree = agree;
      }
