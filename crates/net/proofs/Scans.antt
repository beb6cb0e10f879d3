-- The first stream that bears a number. Assumes nothing.
use Rattle.std.proofs.Common.{◌≡◌, ℕ, zero, suc, ◌<◌, ◌≤◌, cond, not, eqb, ltb, leb, List, [], ◌∷◌, length, get_or, Some, None, Err, Ok, Option, Result, sym, refl, ap, ◌∙◌, ap₂, ⊎_elim, arith}
use Rattle.std.specs.List.{position, position_or_len, slice_get, remove}
use Rattle.std.specs.Option.{ok_or, is_some}
use Rattle.std.proofs.lemmas.List.{length-map}
use Rattle.std.proofs.lemmas.List.Recursion.{is_position_or_len}
use Rattle.std.proofs.lemmas.Option.{slice_get_within, slice_get_cases}
use Rattle.std.proofs.lemmas.Bool.{cond-true, cond-false, eq-eqb, lt-ltb, le-ltb, lt-leb, le-leb, ltb-true, ltb-false, cases_Bool}
use Rattle.slice_vec.specs.Tables.{Table, room, listed, put, popped, has_place}
use Rattle.slice_vec.proofs.Tables.{length_within}
use Rattle.net.specs.Calls.{numbers_of, bearing, show_answer, release_left}
use Rattle.net.specs.Questions.{told, three_values, net_fault_number, stream_refusal, link_refusal, unless}
use Rattle.net.specs.Tables.{place_of}
use Rattle.net.specs.declared.types.NetFault.{NetFault}
use Rattle.net.specs.declared.types.NetFault.TheVariants.{ListShort}
use Rattle.net.specs.declared.types.Stream.{Stream}
use Rattle.net.proofs.Tabled.{unless_none, unless_refused}

pub bearing_none : (n : ℕ) (ss : List Stream) → length ss ≤ place_of n (numbers_of ss) → bearing n ss ≡ []
bearing_none n [] le = refl
bearing_none n (s ∷ ss) le =
    ⊎_elim
    (λ t. absurd (omega (arith, cond-true (eqb s.number n) 0 (suc (place_of n (numbers_of ss))) t)))
    (λ t. cond-false _ _ _ t ∙ bearing_none n ss (omega (arith, cond-false (eqb s.number n) 0 (suc (place_of n (numbers_of ss))) t)))
    (cases_Bool (eqb s.number n))

pub bearing_at : (n : ℕ) (ss : List Stream) (p : ℕ) (d : Stream) → place_of n (numbers_of ss) ≡ p → p < length ss → bearing n ss ≡ get_or ss p d ∷ []
bearing_at n [] p d is lt = absurd (omega arith)
bearing_at n (s ∷ ss) zero d is lt =
    ⊎_elim
    (λ t. cond-true _ _ _ t)
    (λ t. absurd (omega (arith, cond-false (eqb s.number n) 0 (suc (place_of n (numbers_of ss))) t)))
    (cases_Bool (eqb s.number n))
bearing_at n (s ∷ ss) (suc p) d is lt =
    ⊎_elim
    (λ t. absurd (omega (arith, cond-true (eqb s.number n) 0 (suc (place_of n (numbers_of ss))) t)))
    (λ t. cond-false _ _ _ t ∙ bearing_at n ss p d (omega (arith, cond-false (eqb s.number n) 0 (suc (place_of n (numbers_of ss))) t)) (omega arith))
    (cases_Bool (eqb s.number n))

module _ (n : ℕ) (ss : List Stream) where
  -- the place of the first stream that bears the number, as the library finds it
  pub placed : place_of n (numbers_of ss) ≡ position_or_len (λ s. eqb s.number n) ss
  placed = is_position_or_len (λ xs. place_of n (numbers_of xs)) (λ s. eqb s.number n) refl (λ x xs. ap (cond (eqb x.number n) 0) (omega arith)) ss

  numbered : length (numbers_of ss) ≡ length ss
  numbered = length-map ss (λ s. s.number)

  pub found_none : position (λ s. eqb s.number n) ss ≡ None → length ss ≤ place_of n (numbers_of ss)
  found_none e =
      ⊎_elim
      (λ t. absurd (some_none (sym (cond-true _ _ _ t) ∙ e)))
      (λ f. omega (arith, placed, ltb-false _ _ f))
      (cases_Bool (ltb (position_or_len (λ s. eqb s.number n) ss) (length ss)))
    where
      some_none : {i : ℕ} → Some i ≡ None → ⊥
      some_none e = let z : ◌≡◌ {A = ℕ} 0 1 = cc in omega arith

  pub found_some : (i : ℕ) → position (λ s. eqb s.number n) ss ≡ Some i → (place_of n (numbers_of ss) ≡ i) × (i < length ss)
  found_some i e =
      ⊎_elim
      (λ t. let same : position_or_len (λ s. eqb s.number n) ss ≡ i = some_same (sym (cond-true _ _ _ t) ∙ e) in (placed ∙ same, omega (arith, ltb-true _ _ t)))
      (λ f. absurd (none_some (sym (cond-false _ _ _ f) ∙ e)))
      (cases_Bool (ltb (position_or_len (λ s. eqb s.number n) ss) (length ss)))
    where
      some_same : {a b : ℕ} → Some a ≡ Some b → a ≡ b
      some_same e = cc

      none_some : {i : ℕ} → None ≡ Some i → ⊥
      none_some e = let z : ◌≡◌ {A = ℕ} 0 1 = cc in omega arith

  pub unknown : position (λ s. eqb s.number n) ss ≡ None → stream_refusal (numbers_of ss) n ≡ 18
  unknown e = cond-false _ _ _ (le-ltb (place_of n (numbers_of ss)) (length (numbers_of ss)) (omega (arith, numbered, found_none e)))

  pub known : (i : ℕ) → position (λ s. eqb s.number n) ss ≡ Some i → stream_refusal (numbers_of ss) n ≡ 0
  known i e = let there = found_some i e in cond-true _ _ _ (lt-ltb (place_of n (numbers_of ss)) (length (numbers_of ss)) (omega (arith, numbered, there)))

-- an answer that is missing, made a fault by `ok_or`
pub missing : {X E : Type 0} (o : Option X) (e f : E) → ok_or o e ≡ Err f → (o ≡ None) × (f ≡ e)
missing None e f is = (refl, cc)
missing (Some x) e f is = absurd (let z : ◌≡◌ {A = ℕ} 0 1 = cc in omega arith)

pub there : {X E : Type 0} (o : Option X) (e : E) (x : X) → ok_or o e ≡ Ok x → o ≡ Some x
there None e x is = absurd (let z : ◌≡◌ {A = ℕ} 0 1 = cc in omega arith)
there (Some y) e x is = cc

-- what the exit of a `?` tells
pub told_err : {X : Type 0} (values : X → List ℕ) (r : Result X NetFault) (y f : NetFault) → r ≡ Err y → y ≡ f → told values r ≡ (net_fault_number f, [])
told_err values r y f is is' = ap (told values) is ∙ ap (λ x. (net_fault_number x, [])) is'

-- a list without the item at a place, as the ledger has it
pub popped_link : {U : Type 0} (t : Table U) (i : ℕ) → popped 512 i t ≡ cond (eqb (link_refusal (length (listed 512 t)) i) 0) (put (remove (listed 512 t) i) t) t
popped_link t i =
    ⊎_elim
    (λ y. cond-true _ _ _ y ∙ sym (cond-true _ _ _ (ap (λ n. eqb n 0) (cond-false _ _ _ (lt-leb _ _ (ltb-true _ _ y))))))
    (λ n. cond-false _ _ _ n ∙ sym (cond-false _ _ _ (ap (λ n. eqb n 0) (cond-true _ _ _ (le-leb _ _ (ltb-false _ _ n))))))
    (cases_Bool (ltb i (length (listed 512 t))))

module _ {X : Type 0} (xs : List X) (i : ℕ) where
  pub no_link : slice_get xs i ≡ None → unless (link_refusal (length xs) i) [] ≡ (7, [])
  no_link e =
      ⊎_elim
      (λ within. absurd (missing_some (sym e ∙ within.2)))
      (λ past. unless_refused _ 6 [] (cond-true _ _ _ (le-leb _ _ past.0)))
      (slice_get_cases xs i).1
    where
      missing_some : {x : X} → None ≡ Some x → ⊥
      missing_some e = let z : ◌≡◌ {A = ℕ} 0 1 = cc in omega arith

  pub a_link : (x : X) → slice_get xs i ≡ Some x → unless (link_refusal (length xs) i) [] ≡ (0, [])
  a_link x e = unless_none _ [] (cond-false _ _ _ (lt-leb _ _ (slice_get_within xs i x e)))

-- the book without the stream at its place
pub popped_stream : (b : Table Stream) (n i : ℕ) → position (λ s. eqb s.number n) (listed 64 b) ≡ Some i → popped 64 i b ≡ release_left b n
popped_stream b n i e =
    let there = found_some n (listed 64 b) i e in
    cond-true _ _ _ (lt-ltb _ _ there.1)
    ∙ ap (λ j. put (remove (listed 64 b) j) b) (sym there.0)
    ∙ sym (cond-true _ _ _ (eq-eqb _ _ (known n (listed 64 b) i e)))

-- whether a stream bears the number, and whether a book is full, as the questions put it
pub taken_is : (n : ℕ) (ss : List Stream) → ltb (place_of n (numbers_of ss)) (length (numbers_of ss)) ≡ is_some (position (λ s. eqb s.number n) ss)
taken_is n ss =
    ap₂ ltb (placed n ss) (numbered n ss)
    ∙ ⊎_elim
    (λ t. t ∙ sym (ap is_some (cond-true (ltb (position_or_len (λ s. eqb s.number n) ss) (length ss)) _ _ t)))
    (λ f. f ∙ sym (ap is_some (cond-false (ltb (position_or_len (λ s. eqb s.number n) ss) (length ss)) _ _ f)))
    (cases_Bool (ltb (position_or_len (λ s. eqb s.number n) ss) (length ss)))

pub full_is : (b : Table Stream) → b.count ≤ room 64 b → leb (room 64 b) (length (numbers_of (listed 64 b))) ≡ not (has_place 64 b)
full_is b within =
    let long = length-map (listed 64 b) (λ s. s.number) ∙ length_within b 64 within in
    ap (leb (room 64 b)) long
    ∙ ⊎_elim
    (λ t. lt-leb _ _ (ltb-true _ _ t) ∙ sym (ap not t))
    (λ f. le-leb _ _ (ltb-false _ _ f) ∙ sym (ap not f))
    (cases_Bool (ltb b.count (room 64 b)))

-- what a show tells whose list may be too short
pub told_shown : (o : Option (ℕ × ℕ × ℕ)) → told three_values (ok_or o ListShort) ≡ show_answer o
told_shown None = refl
told_shown (Some v) = refl
