-- An accepted file is in order already: writing what was read gives the same bytes.
-- Assumes nothing.
use Rattle.std.specs.Prelude.{Ok}
use Prim.Native.Nat.{ℕ, suc, ◌*◌, ◌≤◌, ◌<◌}
use mathlib.Core.Path.{◌≡◌, sym, ap, ◌∙◌}
use mathlib.Core.Bool.{false, ◌&&◌}
use mathlib.Core.List.{List, [], ◌∷◌, ◌++◌}
use lib.Dec.{eqb, leb, ltb}
use lib.ListN.{length, get_or, take-append-drop}
use native.Mathlib.Decide.{ℕ_discrete}
use native.Mathlib.Omega.{arith}
use borrow.Author.Tests.{eq-eqb, leb-false, ltb-false}
use Rattle.record.specs.Bytes.{record_bytes}
use Rattle.record.specs.Layout.{Record, kind, contract, day}
use Rattle.record.proofs.Within.{neither, prompt_within}
use Rattle.account.specs.Answers.{number_of, record_of}
use Rattle.account.specs.Check.{records_checked, kind_falls, out_of_order, day_not_above, tier_falls}
use Rattle.account.specs.Checked.{checked}
use Rattle.account.specs.Records.{records, record_at, record_count, earlier}
use Rattle.account.proofs.Claimed.{claimed}
use Rattle.account.proofs.Exactly.{exactly}
use Rattle.account.proofs.NoonLaws.{accepted_only}
use Rattle.account.proofs.Dispatch.{order_2, order_6}
use Rattle.account.proofs.Laid.{passed_at}
use Rattle.account.proofs.Orders.{fine, cut_at}
use Rattle.account.proofs.Passed.{Passed, Known, known_of, part_other, part_rises, right_off}
use Rattle.account.proofs.Walk.{length_cut}
use Rattle.writing.specs.Order.{of_its_kind, rank}
use Rattle.writing.specs.Sorting.{sorted}
use Rattle.writing.specs.Written.{together, left_over, written}
use Rattle.writing.proofs.Placed.{together-cut}
use Rattle.writing.proofs.Ranks.{of_prompt, of_entry, of_other}
use Rattle.writing.proofs.Sorting.{Rises, own_sort}

-- what entries of a kind go by stays below the next kind
pub its_small :
    (r : Record) → contract r < 256 → (kind r ≡ 2 → day r < 4294967296) → of_its_kind r < 1099511627776
its_small r c d = go (ℕ_discrete (kind r) 2) (ℕ_discrete (kind r) 5)
  where
    go : Dec (kind r ≡ 2) → Dec (kind r ≡ 5) → of_its_kind r < 1099511627776
    go (yes e) f =
        let s = d e in
        omega (arith, of_prompt r e)
    go (no e) (yes f) = omega (arith, of_entry r f)
    go (no e) (no f) = omega (arith, of_other r e f)

module _ (b r : Record) (kb : Known b) (kr : Known r) (db : kind b ≡ 2 → day b ≤ 99999999) (off : out_of_order b r ≡ false)
    (up : kind_falls b r ≡ false) where
  contracts_rise : kind b ≡ kind r → (kind r ≡ 5 → ⊥) → contract b ≤ contract r
  contracts_rise e n = go (ℕ_discrete (kind r) 6)
    where
      go : Dec (kind r ≡ 6) → contract b ≤ contract r
      go (yes f) =
          let t = right_off (eq-eqb (kind b) 6 (e ∙ f)) (sym (order_6 b r f) ∙ off) in
          let l = leb-false (contract r) (contract b) t in
          omega arith
      go (no f) =
          let p = part_rises b r off kr kb.high kb.contracts up in
          let q = part_other r n f in
          let s = part_other b (λ z. n (sym e ∙ z)) (λ z. f (sym e ∙ z)) in
          omega arith

  days_rise : kind b ≡ 2 → kind r ≡ 2 → of_its_kind b ≤ of_its_kind r
  days_rise e f =
      let d = (neither (day_not_above b r) (tier_falls b r) (sym (order_2 b r f) ∙ off)).0 in
      let t = right_off (eq-eqb (kind b) 2 e) d in
      let s = neither (ltb (contract r) (contract b)) (eqb (contract r) (contract b) && leb (day r) (day b)) t in
      let l = ltb-false (contract r) (contract b) s.0 in
      let h = db e in
      go (ℕ_discrete (contract r) (contract b)) s.1 l h
    where
      go :
          Dec (contract r ≡ contract b) → eqb (contract r) (contract b) && leb (day r) (day b) ≡ false → contract b ≤ contract r → day b ≤ 99999999
          → of_its_kind b ≤ of_its_kind r
      go (yes c) s l h =
          let m = leb-false (day r) (day b) (right_off (eq-eqb (contract r) (contract b) c) s) in
          omega (arith, of_prompt b e, of_prompt r f)
      go (no c) s l h = omega (arith, c, of_prompt b e, of_prompt r f)

  pub rank_rises : rank b ≤ rank r
  rank_rises = go (ℕ_discrete (kind b) (kind r))
    where
      alike : kind b ≡ kind r → Dec (kind r ≡ 2) → Dec (kind r ≡ 5) → of_its_kind b ≤ of_its_kind r
      alike e (yes f) g = days_rise (e ∙ f) f
      alike e (no f) (yes g) = omega (arith, of_entry b (e ∙ g), of_entry r g)
      alike e (no f) (no g) =
          let c = contracts_rise e g in
          omega (arith, of_other b (λ z. f (sym e ∙ z)) (λ z. g (sym e ∙ z)), of_other r f g)

      go : Dec (kind b ≡ kind r) → rank b ≤ rank r
      go (yes e) = omega (arith, e, alike e (ℕ_discrete (kind r) 2) (ℕ_discrete (kind r) 5))
      go (no e) =
          let l = ltb-false (kind r) (kind b) up in
          let c = kb.contracts in
          let s = its_small b (omega arith) (λ z. omega (arith, db z)) in
          omega (arith, e)

rises_from :
    (xs : List Record) → ((i : ℕ) → suc i < length xs → rank (get_or xs i []) ≤ rank (get_or xs (suc i) [])) → Rises rank xs
rises_from [] h = tt
rises_from (x ∷ []) h = tt
rises_from (x ∷ y ∷ ys) h = (h 0 (omega arith), rises_from (y ∷ ys) (λ i l. h (suc i) (omega arith)))

module _ (file : List ℕ) (ok : checked file ≡ Ok tt) where
  by_records : records_checked file ≡ Ok tt
  by_records =
      let clean = ((claimed file).exactly.accepted.forth (record { number = ap number_of ok; place = ap record_of ok })).0 in
      accepted_only (records_checked file) ((exactly file).accepted.back clean).number

  at : (k : ℕ) → k < record_count file → Passed (earlier file k) (record_at file k)
  at k h = passed_at file (record_count file) (fine file by_records) k h

  records_rise : (k : ℕ) → suc k < record_count file → rank (record_at file k) ≤ rank (record_at file (suc k))
  records_rise k h =
      let p = at k (omega arith) in
      let q = at (suc k) h in
      rank_rises (record_at file k) (record_at file (suc k)) (known_of (record_at file k) p) (known_of (record_at file (suc k)) q)
      (λ e. (prompt_within (record_at file k) e p.within).days.most) q.ordered q.rises

  pub same_bytes : written file ≡ file
  same_bytes =
      let n = record_count file in
      let l : length (records file) ≡ n = length_cut n file in
      let s : sorted rank (records file) ≡ records file =
      own_sort rank (records file) (rises_from (records file)
      (λ i h. in_file i (omega arith))) in
      ap (λ (rs : List Record). together rs ++ left_over file) s
      ∙ ap (λ (xs : List ℕ). xs ++ left_over file) (together-cut n file)
      ∙ take-append-drop (n * record_bytes) file
    where
      in_file : (i : ℕ) → suc i < record_count file → rank (get_or (records file) i []) ≤ rank (get_or (records file) (suc i) [])
      in_file i h =
          let a = ap rank (cut_at (record_count file) i file (omega arith)) in
          let b = ap rank (cut_at (record_count file) (suc i) file h) in
          omega (arith, a, b, records_rise i h)
