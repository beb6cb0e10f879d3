-- Labels in a table of so many places. Assumes nothing.
use Rattle.std.proofs.Common.{◌≡◌, ℕ, ◌+◌, ◌-◌, ◌<◌, ◌≤◌, min, cond, leb, List, [], ◌∷◌, ◌++◌, length, take, drop, set, Ok, Err, Result, sym, refl, ap, ◌∙◌, subst, ap₂, ⊎_elim, arith, length-append, length-drop}
use Rattle.std.proofs.lemmas.List.{length-take, length-take-le, length_push, drop-drop, take_at, drop_at}
use Rattle.std.proofs.lemmas.Bool.{cond-true, cond-false, le-leb, lt-leb, cases_lt}
use Rattle.slice_vec.specs.Tables.{stored}
use Rattle.slice_vec.proofs.Tables.{stored_fits, stored_full, stored_none, stored_one}
use Rattle.search.specs.Labels.{counted, held, placed, Stores}
use Rattle.search.specs.declared.answer.SearchFault.{SearchFault}
use Rattle.search.specs.declared.answer.SearchFault.TheVariants.{Full}
use Rattle.search.specs.declared.label.Label.{Label}
use Rattle.search.specs.declared.label.Labels.{Labels}
use Rattle.search.proofs.Offers.{Grows, grows_length, grows_take}

module _ {X : Type 0} (table : List X) where
  pub placed_fits : (ls : List X) → length ls ≤ length table → placed ls table ≡ Ok tt
  placed_fits ls le = cond-true _ _ _ (le-leb _ _ le)

  pub placed_full : (ls : List X) → length table < length ls → placed ls table ≡ Err Full
  placed_full ls lt = cond-false _ _ _ (lt-leb _ _ lt)

  pub length-stored : (ls : List X) → length (stored ls table) ≡ length table
  length-stored ls =
      length-append (take (length table) ls) (drop (length ls) table) ∙ omega (arith, length-take (length table) ls, length-drop (length ls) table)

  pub counted_fits : (ls : List X) → length ls ≤ length table → counted ls table ≡ Ok (length ls)
  counted_fits ls le = cond-true _ _ _ (le-leb _ _ le)

  pub counted_full : (ls : List X) → length table < length ls → counted ls table ≡ Err Full
  counted_full ls lt = cond-false _ _ _ (lt-leb _ _ lt)

  -- a count says that each label found its place, and no count that one did not
  pub fits_if_counted : (ls : List X) (n : ℕ) → Ok n ≡ counted ls table → (length ls ≤ length table) × (n ≡ length ls)
  fits_if_counted ls n h =
      ⊎_elim
      (λ over. absurd (ok_err (h ∙ counted_full ls over)))
      (λ le. (le, same (h ∙ counted_fits ls le)))
      (cases_lt (length table) (length ls))
    where
      same : ◌≡◌ {A = Result ℕ SearchFault} (Ok n) (Ok (length ls)) → n ≡ length ls
      same e = cc

      ok_err : ◌≡◌ {A = Result ℕ SearchFault} (Ok n) (Err Full) → ⊥
      ok_err e = let z : ◌≡◌ {A = ℕ} 0 1 = cc in omega arith

  pub full_if_not : (ls : List X) (f : SearchFault) → Err f ≡ counted ls table → (length table < length ls) × (f ≡ Full)
  full_if_not ls f h =
      ⊎_elim
      (λ over. (over, same (h ∙ counted_full ls over)))
      (λ le. absurd (err_ok (h ∙ counted_fits ls le)))
      (cases_lt (length table) (length ls))
    where
      same : ◌≡◌ {A = Result ℕ SearchFault} (Err f) (Err Full) → f ≡ Full
      same e = cc

      err_ok : ◌≡◌ {A = Result ℕ SearchFault} (Err f) (Ok (length ls)) → ⊥
      err_ok e = let z : ◌≡◌ {A = ℕ} 0 1 = cc in omega arith

  pub counted_front : (ls : List X) (n : ℕ) → Ok n ≡ counted ls table → take n (stored ls table) ≡ ls
  counted_front ls n h =
      let told = fits_if_counted ls n h in
      ap (take n) (stored_fits table ls told.0) ∙ take_at ls (drop (length ls) table) n (sym told.1)

module _ {S : Type 0} (l : Labels S) where
  -- what is there already
  pub stores_none : Stores (held l) l (Ok tt) l
  stores_none =
      let long = length-take-le l.count l.places.now l.within in
      record {
        lent = refl;
        answer_is = sym (placed_fits l.places.now (held l) (omega (arith, l.within)));
        count_is = omega (arith, l.within);
        places_are = stored_none l.places.now l.count l.within;
      }

pub stores_at : {S : Type 0} {ls ls' : List (Label S)} {old new : Labels S} {answer : Result (Unit {0}) SearchFault} → ls' ≡ ls → Stores ls old answer new → Stores ls' old answer new
stores_at {S} {ls} {ls'} {old} {new} {answer} e h = subst (λ l. Stores l old answer new) (sym e) h

module _ {S : Type 0} (ls : List (Label S)) (old new : Labels S) where
  -- a step that found its places
  pub fits : Stores ls old (Ok tt) new → length ls ≤ length old.places.now
  fits h =
      ⊎_elim
      (λ over. absurd (ok_err (h.answer_is ∙ placed_full old.places.now ls over)))
      (λ le. le)
      (cases_lt (length old.places.now) (length ls))
    where
      ok_err : ◌≡◌ {A = Result (Unit {0}) SearchFault} (Ok tt) (Err Full) → ⊥
      ok_err e = let z : ◌≡◌ {A = ℕ} 0 1 = cc in omega arith

  pub held_is : Stores ls old (Ok tt) new → held new ≡ ls
  held_is h =
      let le = fits h in
      ap₂ take h.count_is (h.places_are ∙ stored_fits old.places.now ls le) ∙ take_at ls (drop (length ls) old.places.now) (min (length ls) (length old.places.now)) (omega arith)

  -- a step that found no place
  pub full : (f : SearchFault) → Stores ls old (Err f) new → (length old.places.now < length ls) × (f ≡ Full)
  full f h =
      ⊎_elim
      (λ over. (over, same (h.answer_is ∙ placed_full old.places.now ls over)))
      (λ le. absurd (err_ok (h.answer_is ∙ placed_fits old.places.now ls le)))
      (cases_lt (length old.places.now) (length ls))
    where
      same : ◌≡◌ {A = Result (Unit {0}) SearchFault} (Err f) (Err Full) → f ≡ Full
      same e = cc

      err_ok : ◌≡◌ {A = Result (Unit {0}) SearchFault} (Err f) (Ok tt) → ⊥
      err_ok e = let z : ◌≡◌ {A = ℕ} 0 1 = cc in omega arith

-- a full table is full of any labels that go on from there
pub stores_more : {S : Type 0} (ls more : List (Label S)) (old new : Labels S) (f : SearchFault) → Stores ls old (Err f) new → Grows ls more → Stores more old (Err f) new
stores_more ls more old new f h grows =
    let (over, is) = full ls old new f h in
    let longer = grows_length grows in
    record {
      lent = h.lent;
      answer_is = ap Err is ∙ sym (placed_full old.places.now more (omega arith));
      count_is = h.count_is ∙ omega arith;
      places_are = h.places_are ∙ stored_full old.places.now ls (omega arith) ∙ sym (stored_full old.places.now more (omega arith) ∙ grows_take grows (length old.places.now) (omega arith));
    }

-- a step over a table that was left by an earlier one
pub stores_on : {S : Type 0} (ls more : List (Label S)) (old mid new : Labels S) (answer : Result (Unit {0}) SearchFault) → Stores ls old (Ok tt) mid → Grows ls more → Stores more mid answer new → Stores more old answer new
stores_on ls more old mid new answer h grows then =
    let le = fits ls old mid h in
    let is = h.places_are ∙ stored_fits old.places.now ls le in
    let long : length mid.places.now ≡ length old.places.now = ap length h.places_are ∙ length-stored old.places.now ls in
    let longer = grows_length grows in
    let beyond : drop (length more) mid.places.now ≡ drop (length more) old.places.now = drops_alike (length ls) (length more) mid.places.now old.places.now longer (ap (drop (length ls)) is ∙ drop_at ls (drop (length ls) old.places.now) (length ls) refl) in
    record {
      lent = then.lent ∙ h.lent;
      answer_is = then.answer_is ∙ ap (λ n. cond (leb (length more) n) (Ok tt) (Err Full)) long;
      count_is = then.count_is ∙ ap (min (length more)) long;
      places_are = then.places_are ∙ ap₂ (λ n l. take n more ++ l) long beyond;
    }
  where
    drops_alike : {X : Type 0} (i n : ℕ) (xs ys : List X) → i ≤ n → drop i xs ≡ drop i ys → drop n xs ≡ drop n ys
    drops_alike i n xs ys le e =
        let split : i + (n - i) ≡ n = omega arith in
        ap (λ j. drop j xs) (sym split) ∙ sym (drop-drop (n - i) i xs) ∙ ap (drop (n - i)) e ∙ drop-drop (n - i) i ys ∙ ap (λ j. drop j ys) split

-- a label put in the first free place
module _ {S : Type 0} (l new : Labels S) (x : Label S) where
  pub push_one : l.count < length l.places.now → new.places.ghost_name ≡ l.places.ghost_name → new.count ≡ l.count + 1 → new.places.now ≡ set l.places.now l.count x → Stores (held l ++ x ∷ []) l (Ok tt) new
  push_one lt lent count is =
      let long = length_push (held l) x in
      let front = length-take-le l.count l.places.now l.within in
      record {
        lent = lent;
        answer_is = sym (placed_fits l.places.now (held l ++ x ∷ []) (omega arith));
        count_is = count ∙ omega arith;
        places_are = is ∙ stored_one l.places.now l.count x lt;
      }
