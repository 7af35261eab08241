-- A test of every element, one element after the other or of all at once; and the prompts as the list of their tiers and net deltas.
-- Assumes nothing.
use Prim.Native.Nat.{ℕ, zero, suc, ◌+◌, ◌≤◌, ◌<◌}
use native.Mathlib.Numerals.{add-one}
use native.Mathlib.Omega.{arith}
use mathlib.Core.Bool.{Bool, true, false, ◌&&◌, and-true}
use mathlib.Core.List.{List, [], ◌∷◌}
use mathlib.Core.Path.{◌≡◌, refl, sym, ◌∙◌, ap}
use lib.ListN.{length, get_or, drop, drop_of_length-le}
use lib.Seq.{drop-cons, get_or-take, length-take-le}
use Rattle.std.specs.Prelude.{◌↔◌, IsTrue}
use Rattle.std.specs.List.{All}
use Rattle.spread.specs.Accepted.{every, opens_from, open_of, prompt_places}
use Rattle.spread.specs.Steps.{Open}
use Rattle.spread.specs.declared.Delta.{Delta}
use Rattle.spread.specs.declared.Prompts.{Prompts}
use Rattle.spread.proofs.Both.{and_left, and_right}

pub and_assoc : (a b c : Bool) → a && (b && c) ≡ (a && b) && c
and_assoc true b c = refl
and_assoc false b c = refl

module _ {ℓ} {A : Type ℓ} where
  -- tested so far, and still to test
  abbrev pub Tested : (A → Bool) → List A → ℕ → Bool → Type 0
  Tested p l i so_far = every p l ≡ so_far && every p (drop i l)

  pub tested_next : (p : A → Bool) (l : List A) (i : ℕ) (d : A) (so_far one : Bool) → i < length l → Tested p l i so_far → one ≡ p (get_or l i d)
      → Tested p l (i + 1) (so_far && one)
  tested_next p l i d so_far one h e f =
      e
      ∙ ap (λ (k : List A). so_far && every p k) (drop-cons l i d h)
      ∙ ap (λ (b : Bool). so_far && (b && every p (drop (suc i) l))) (sym f)
      ∙ and_assoc so_far one (every p (drop (suc i) l))
      ∙ ap (λ (n : ℕ). (so_far && one) && every p (drop n l)) (sym (add-one i))

  pub tested_end : (p : A → Bool) (l : List A) (i : ℕ) (so_far : Bool) → length l ≤ i → Tested p l i so_far → so_far ≡ every p l
  tested_end p l i so_far h e =
      sym (e ∙ ap (λ (k : List A). so_far && every p k) (drop_of_length-le l h) ∙ and-true so_far)

  pub every_at : (p : A → Bool) (l : List A) (i : ℕ) (d : A) → every p l ≡ true → i < length l → p (get_or l i d) ≡ true
  every_at p [] i d e h = absurd (omega arith)
  every_at p (x ∷ l) zero d e h = and_left (p x) (every p l) e
  every_at p (x ∷ l) (suc i) d e h = every_at p l i d (and_right (p x) (every p l) e) (omega arith)

-- what an iterator says of all elements
module _ {A : Type 0} (p : A → Bool) where
  all_every : (l : List A) → All (λ (x : A). p x ≡ true) l → every p l ≡ true
  all_every [] h = refl
  all_every (x ∷ l) h = rw (h 0 x (omega arith)) (all_every l (λ k d g. h (suc k) d (omega arith)))

  pub every_from_all : (l : List A) (b : Bool) → IsTrue b ↔ All (λ (x : A). p x ≡ true) l → b ≡ every p l
  every_from_all l true h = sym (all_every l (h.0 refl))
  every_from_all l false h = go (every p l) refl
    where
      go : (t : Bool) → every p l ≡ t → false ≡ t
      go true e = h.1 (λ k d g. every_at p l k d e g)
      go false e = refl

-- the prompts by place

pub opens_length : (ts : List ℕ) (ds : List Delta) (n : ℕ) → length ts ≡ n → length ds ≡ n → length (opens_from ts ds) ≡ n
opens_length [] ds n e f = e
opens_length (t ∷ ts) [] n e f = f
opens_length (t ∷ ts) (d ∷ ds) zero e f = absurd (omega arith)
opens_length (t ∷ ts) (d ∷ ds) (suc n) e f = ap suc (opens_length ts ds n (omega arith) (omega arith))

opens_at : (ts : List ℕ) (ds : List Delta) (i : ℕ) (dt : ℕ) (dd : Delta) (do' : Open) → i < length ts → i < length ds
    → get_or (opens_from ts ds) i do' ≡ record { tier = get_or ts i dt; unused = (get_or ds i dd).0 }
opens_at [] ds i dt dd do' h g = absurd (omega arith)
opens_at (t ∷ ts) [] i dt dd do' h g = absurd (omega arith)
opens_at (t ∷ ts) (d ∷ ds) zero dt dd do' h g = refl
opens_at (t ∷ ts) (d ∷ ds) (suc i) dt dd do' h g = opens_at ts ds i dt dd do' (omega arith) (omega arith)

-- of prompts whose arrays have 32 places
pub open_length : (p : Prompts) → length p.tier ≡ prompt_places → length p.net ≡ prompt_places → p.count ≤ prompt_places → length (open_of p) ≡ p.count
open_length p e f h = length-take-le p.count (opens_from p.tier p.net) (let l = opens_length p.tier p.net prompt_places e f in omega arith)

pub open_at : (p : Prompts) (i : ℕ) (dt : ℕ) (dd : Delta) (do' : Open) → length p.tier ≡ prompt_places → length p.net ≡ prompt_places
    → p.count ≤ prompt_places → i < p.count
    → get_or (open_of p) i do' ≡ record { tier = get_or p.tier i dt; unused = (get_or p.net i dd).0 }
open_at p i dt dd do' e f h g =
    get_or-take p.count (opens_from p.tier p.net) i do' g
    ∙ opens_at p.tier p.net i dt dd do' (omega arith) (omega arith)

-- a test of each prompt by its place is one of all prompts
pub prompts_all : (q : Open → Bool) (p : Prompts) (b : Bool) (dt : ℕ) (dd : Delta) → length p.tier ≡ prompt_places → length p.net ≡ prompt_places
    → p.count ≤ prompt_places
    → IsTrue b ↔ ((k : ℕ) → k < p.count → q (record { tier = get_or p.tier k dt; unused = (get_or p.net k dd).0 }) ≡ true)
    → b ≡ every q (open_of p)
prompts_all q p b dt dd e f h t = every_from_all q (open_of p) b (there, back)
  where
    long : length (open_of p) ≡ p.count
    long = open_length p e f h

    there : IsTrue b → All (λ (o : Open). q o ≡ true) (open_of p)
    there s = λ k d g. let l = long in ap q (open_at p k dt dd d e f h (omega arith)) ∙ t.0 s k (omega arith)

    back : All (λ (o : Open). q o ≡ true) (open_of p) → IsTrue b
    back a =
        t.1 (λ k g. let l = long in sym (ap q (open_at p k dt dd (record { tier = dt; unused = dd.0 }) e f h g)) ∙ a k (record { tier = dt; unused = dd.0 }) (omega arith))
