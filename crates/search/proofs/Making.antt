-- All labels of the rule, made one after another over a table. Assumes nothing.
use Rattle.std.proofs.Common.{◌≡◌, ℕ, suc, ◌+◌, ◌<◌, ◌≤◌, ◌++◌, min, List, length, take, Ok, Err, Result, sym, refl, ap, ◌∙◌, subst, add-one, arith}
use Rattle.std.proofs.lemmas.Bool.{cond-true, cond-false, le-leb, lt-leb}
use Rattle.kinds.specs.Kinds.{Model}
use Rattle.slice_vec.specs.Tables.{stored}
use Rattle.search.specs.Labels.{counted, held, placed, Stores}
use Rattle.search.specs.Rule.{Query, first, turn, after, made}
use Rattle.search.specs.declared.answer.SearchFault.{SearchFault}
use Rattle.search.specs.declared.label.Label.{Label}
use Rattle.search.specs.declared.label.Labels.{Labels}
use Rattle.search.proofs.Order.{after_grows, made_grows, made_done}
use Rattle.search.proofs.Storing.{fits, full, held_is, stores_at, stores_more, stores_on}

module _ {K S U : Type 0} (m : Model K S U) (q : Query K U) (old : Labels S) where
  -- the list has no labels before the first
  module _ (none : old.count ≡ 0) (next : Labels S) where
    from_none : held old ++ first m q ≡ first m q
    from_none = ap (λ n. take n old.places.now ++ first m q) none

    pub first_none : Stores (held old ++ first m q) old (Ok tt) next → Stores (after m q 0) old (Ok tt) next
    unfolding after
    first_none s = stores_at (sym from_none) s

    pub first_full : (f : SearchFault) → Stores (held old ++ first m q) old (Err f) next → Stores (made m q) old (Err f) next
    first_full f s = stores_more (first m q) (made m q) old next f (stores_at (sym from_none) s) (unfold after in made_grows m q 0)

  module _ (n : ℕ) (now : Labels S) (h : Stores (after m q n) old (Ok tt) now) (next : Labels S) where
    turned : turn m q n (held now) ≡ after m q (suc n)
    turned = unfold after in ap (turn m q n) (held_is (after m q n) old now h)

    grown : (answer : Result (Unit {0}) SearchFault) → Stores (turn m q n (held now)) now answer next → Stores (after m q (suc n)) old answer next
    grown answer s = stores_on (after m q n) (after m q (suc n)) old now next answer h (after_grows m q n (suc n) (omega arith)) (stores_at (sym turned) s)

    pub making_more : Stores (turn m q n (held now)) now (Ok tt) next → Stores (after m q (n + 1)) old (Ok tt) next
    making_more s = stores_at (ap (after m q) (add-one n)) (grown (Ok tt) s)

    pub making_full : (f : SearchFault) → Stores (turn m q n (held now)) now (Err f) next → Stores (made m q) old (Err f) next
    making_full f s = stores_more (after m q (suc n)) (made m q) old next f (grown (Err f) s) (made_grows m q (suc n))

  pub making_all : (n : ℕ) (now : Labels S) → Stores (after m q n) old (Ok tt) now → length old.places.now ≤ n → Stores (made m q) old (Ok tt) now
  making_all n now h le =
      let few = fits (after m q n) old now h in
      stores_at (sym (made_done m q n (omega arith))) h

  -- what a run over the whole table answers and leaves, where the list lay in this table
  module _ (table : List (Label S)) (same : old.places.now ≡ table) (next : Labels S) where
    pub made_full : (f : SearchFault) → Stores (made m q) old (Err f) next → (Err f ≡ counted (made m q) table) × (next.places.now ≡ stored (made m q) table)
    made_full f h =
        let (over, is) = full (made m q) old next f h in
        (ap Err is ∙ sym (cond-false _ _ _ (lt-leb _ _ (subst (λ t. length t < length (made m q)) same over))), h.places_are ∙ ap (stored (made m q)) same)

    pub made_fits : Stores (made m q) old (Ok tt) next → (Ok next.count ≡ counted (made m q) table) × (next.places.now ≡ stored (made m q) table)
    made_fits h =
        let few = fits (made m q) old next h in
        (ap Ok (h.count_is ∙ omega arith) ∙ sym (cond-true _ _ _ (le-leb _ _ (subst (λ t. length (made m q) ≤ length t) same few))), h.places_are ∙ ap (stored (made m q)) same)

-- the list when it had no labels yet, in this table
abbrev pub bare : {S : Type 0} → Labels S → List (Label S) → Labels S
bare l table = record { count = 0; places = record { ref_ptr = l.places.ref_ptr; ghost_name = l.places.ghost_name; now = table }; within = omega arith }

-- the same step over the list when it had no labels yet
pub stores_bare : {S : Type 0} (ls : List (Label S)) (old next : Labels S) (table : List (Label S)) → old.places.now ≡ table → Stores ls old (Ok tt) next → Stores ls (bare next table) (Ok tt) next
stores_bare ls old next table same h = record {
  lent = refl;
  answer_is = h.answer_is ∙ ap (placed ls) same;
  count_is = h.count_is ∙ ap (λ t. min (length ls) (length t)) same;
  places_are = h.places_are ∙ ap (stored ls) same;
}
