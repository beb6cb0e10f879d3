-- Lists in lent tables: what is stored, put last and taken out. Assumes nothing.
use Rattle.std.proofs.Common.{◌≡◌, ℕ, suc, ◌+◌, ◌-◌, ◌<◌, ◌≤◌, min, List, [], ◌∷◌, ◌++◌, length, get_or, take, drop, set, sym, refl, ap, ◌∙◌, ap₂, ⊎_elim, append_assoc, append-nil, add-one, arith, length-append, length-drop, take-append-drop}
use Rattle.std.specs.List.{CopiedTo, SameBelow, SameFrom, remove}
use Rattle.std.proofs.lemmas.List.{same_lists, take_all, length-take-le, length_push, drop_all, set_split, get_or_append_left, get_or-append_right, get_or-take, get_or-drop}
use Rattle.std.proofs.lemmas.Bool.{cond-true, lt-ltb, cases_lt}
use Rattle.slice_vec.specs.Tables.{Table, table, room, listed, stored, put, pushed, popped}

module _ {X : Type 0} (places : List X) where
  pub stored_fits : (ls : List X) → length ls ≤ length places → stored ls places ≡ ls ++ drop (length ls) places
  stored_fits ls le = ap (λ l. l ++ drop (length ls) places) (take_all (length places) ls le)

  pub stored_full : (ls : List X) → length places ≤ length ls → stored ls places ≡ take (length places) ls
  stored_full ls le = ap (λ l. take (length places) ls ++ l) (drop_all (length ls) places le) ∙ append-nil _

  -- what is there already
  pub stored_none : (count : ℕ) → count ≤ length places → places ≡ stored (take count places) places
  stored_none count le =
      let long = length-take-le count places le in
      sym (stored_fits (take count places) (omega arith) ∙ ap (λ n. take count places ++ drop n places) long ∙ take-append-drop count places)

  pub stored_one : (count : ℕ) (x : X) → count < length places → set places count x ≡ stored (take count places ++ x ∷ []) places
  stored_one count x lt =
      let long : length (take count places ++ x ∷ []) ≡ count + 1 = length_push (take count places) x ∙ ap (λ n. n + 1) (length-take-le count places (omega arith)) in
      set_split places count x lt
      ∙ ap (λ l. take count places ++ x ∷ l) (ap (λ n. drop n places) (sym (add-one count)))
      ∙ sym (append_assoc (take count places) (x ∷ []) (drop (count + 1) places))
      ∙ ap (λ n. (take count places ++ x ∷ []) ++ drop n places) (sym long)
      ∙ sym (stored_fits (take count places ++ x ∷ []) (omega arith))

module _ {X : Type 0} (t : Table X) where
  pub length-listed : (cap : ℕ) → length (listed cap t) ≡ min t.count (room cap t)
  length-listed cap = length-take-le (min t.count (room cap t)) t.places (omega arith)

  -- the places in use, where the count is no more than may be
  pub listed_within : (cap : ℕ) → t.count ≤ room cap t → take t.count t.places ≡ listed cap t
  listed_within cap le = ap (λ n. take n t.places) (omega arith)

  pub length_within : (cap : ℕ) → t.count ≤ room cap t → length (listed cap t) ≡ t.count
  length_within cap le = length-listed cap ∙ omega arith

  pub put_one : (count : ℕ) (x : X) → count < length t.places → table (count + 1) (set t.places count x) ≡ put (take count t.places ++ x ∷ []) t
  put_one count x lt =
      let long : length (take count t.places ++ x ∷ []) ≡ count + 1 = length_push (take count t.places) x ∙ ap (λ n. n + 1) (length-take-le count t.places (omega arith)) in
      ap₂ table (sym long) (stored_one t.places count x lt)

  -- an empty list leaves the table untouched
  pub put_none : table 0 t.places ≡ put [] t
  put_none = ap (table 0) (stored_none t.places 0 (omega arith))

pub length_removed : {X : Type 0} (xs : List X) (a : ℕ) → a < length xs → length (remove xs a) + 1 ≡ length xs
length_removed xs a lt =
    let front = length-take-le a xs (omega arith) in
    let back = length-drop (suc a) xs in
    let both = length-append (take a xs) (drop (suc a) xs) in
    omega arith

get_d_removed : {X : Type 0} (xs : List X) (a k : ℕ) (d : X) → a < length xs → a ≤ k → get_or (remove xs a) k d ≡ get_or xs (k + 1) d
get_d_removed xs a k d lt ge =
    get_or-append_right (take a xs) (drop (suc a) xs) a k d (length-take-le a xs (omega arith)) ge
    ∙ get_or-drop (suc a) xs (k - a) d
    ∙ ap (λ j. get_or xs j d) (omega arith)

-- the items after place a, up to place count, have moved down a place
pub moved_down : {X : Type 0} (a count : ℕ) (old new : List X) → a < count → count ≤ length old → length new ≡ length old → SameBelow old new a → CopiedTo old new (a + 1) a (count - (a + 1)) → SameFrom old new (a + (count - (a + 1))) → new ≡ stored (remove (take count old) a) old
moved_down {X} a count old new lt fits same_long below moved above =
    let long : length (take count old) ≡ count = length-take-le count old fits in
    let less = length_removed (take count old) a (omega arith) in
    let rest = length-drop (length (remove (take count old) a)) old in
    let whole = length-append (remove (take count old) a) (drop (length (remove (take count old) a)) old) in
    same_lists new (remove (take count old) a ++ drop (length (remove (take count old) a)) old) (same_long ∙ omega arith)
    (λ k d inside.
    ⊎_elim
    (λ early.
    below k d early
    ∙ sym (get_or_append_left (remove (take count old) a) _ d k (omega arith) ∙ get_or_append_left (take a (take count old)) _ d k (omega (arith, length-take-le a (take count old) (omega arith))) ∙ get_or-take a (take count old) k d early ∙ get_or-take count old k d (omega arith)))
    (λ late.
    ⊎_elim
    (λ (middle : k + 1 < count).
    moved k d late (omega arith)
    ∙ ap (λ j. get_or old j d) (omega arith)
    ∙ sym (get_or_append_left (remove (take count old) a) _ d k (omega arith) ∙ get_d_removed (take count old) a k d (omega arith) late ∙ get_or-take count old (k + 1) d (omega arith)))
    (λ end.
    above k d (omega arith)
    ∙ sym (get_or-append_right (remove (take count old) a) (drop (length (remove (take count old) a)) old) (length (remove (take count old) a)) k d refl (omega arith) ∙ get_or-drop (length (remove (take count old) a)) old (k - length (remove (take count old) a)) d ∙ ap (λ j. get_or old j d) (omega arith)))
    (cases_lt (k + 1) count))
    (cases_lt k a))
    ∙ sym (stored_fits old (remove (take count old) a) (omega arith))

-- an item put in the first free place
pub push_left : {X : Type 0} (cap count : ℕ) (places : List X) (x : X) → count < cap → count < length places → table (count + 1) (set places count x) ≡ pushed cap x (table count places)
push_left cap count places x few lt =
    let t = table count places in
    put_one t count x lt
    ∙ ap (λ xs. put (xs ++ x ∷ []) t) (listed_within t cap (omega arith))
    ∙ sym (cond-true _ _ _ (lt-ltb count (room cap t) (omega arith)))

-- the item at a place taken out
pub pop_left : {X : Type 0} (cap count at : ℕ) (old new : List X) → at < count → count ≤ room cap (table count old) → new ≡ stored (remove (take count old) at) old → table (count - 1) new ≡ popped cap at (table count old)
pop_left cap count at old new lt within is =
    let t = table count old in
    let long = length_within t cap within in
    let front = listed_within t cap within in
    let less = length_removed (take count old) at (omega (arith, length-take-le count old (omega arith))) in
    ap₂ table (omega (arith, length-take-le count old (omega arith))) is
    ∙ ap (λ xs. put (remove xs at) t) front
    ∙ sym (cond-true _ _ _ (lt-ltb at (length (listed cap t)) (omega arith)))
