-- One candidate against a list of labels. Assumes nothing.
use Rattle.std.proofs.Common.{◌≡◌, ℕ, ◌+◌, ◌<◌, ◌≤◌, Bool, true, false, cond, not, ◌&&◌, eqb, List, [], ◌∷◌, ◌++◌, length, get_or, take, drop, sym, refl, ap, ◌∙◌, ⊎_elim, append_assoc, append-nil, arith, length-append}
use Rattle.std.proofs.lemmas.List.{at_drop_more, at_drop_all, drop_more, drop_all, get_or_append_left, take-append-le}
use Rattle.std.proofs.lemmas.Bool.{cond-true, and_from, eq-eqb, cases_lt}
use Rattle.kinds.specs.Kinds.{Model}
use Rattle.search.specs.Rule.{is_open, candidate, beaten, offered, tried, tries}
use Rattle.search.specs.declared.label.Label.{Label}
use Rattle.search.specs.declared.label.Link.{Link}

module _ {K S U : Type 0} (m : Model K S U) (k : K) (flags : List Bool) (n : ℕ) (l : Label S) (i : ℕ) (link : Link U) (ls : List (Label S)) where
  pub tried_over : is_open flags i ≡ true → link.tail ≡ l.node → tried m k flags n l i link ls ≡ offered m k (candidate m k n l i link) ls
  tried_over e h = cond-true _ _ _ (and_from (is_open flags i) (eqb link.tail l.node) e (eq-eqb _ _ h))

-- a list that grew at its end
pub record Grows {X : Type 0} (xs ys : List X) : Type 0 where
  pub more : List X
  pub is : ys ≡ xs ++ more

pub grows_none : {X : Type 0} (xs : List X) → Grows xs xs
grows_none xs = record { more = []; is = sym (append-nil xs) }

pub grows_chain : {X : Type 0} {xs ys zs : List X} → Grows xs ys → Grows ys zs → Grows xs zs
grows_chain {X} {xs} a b = record { more = a.more ++ b.more; is = b.is ∙ ap (λ l. l ++ b.more) a.is ∙ append_assoc xs a.more b.more }

pub grows_length : {X : Type 0} {xs ys : List X} → Grows xs ys → length xs ≤ length ys
grows_length {X} {xs} a = omega (arith, ap length a.is, length-append xs a.more)

pub grows_get_d : {X : Type 0} {xs ys : List X} → Grows xs ys → (i : ℕ) (d : X) → i < length xs → get_or ys i d ≡ get_or xs i d
grows_get_d {X} {xs} a i d lt = ap (λ l. get_or l i d) a.is ∙ get_or_append_left xs a.more d i lt

pub grows_take : {X : Type 0} {xs ys : List X} → Grows xs ys → (n : ℕ) → n ≤ length xs → take n ys ≡ take n xs
grows_take {X} {xs} a n le = ap (take n) a.is ∙ take-append-le n xs a.more le

grows_cond : {X : Type 0} (b : Bool) {xs ys : List X} → Grows xs ys → Grows xs (cond b ys xs)
grows_cond true h = h
grows_cond false {xs} h = grows_none xs

module _ {K S U : Type 0} (m : Model K S U) (k : K) where
  pub offered_grows : (c : Label S) (ls : List (Label S)) → Grows ls (offered m k c ls)
  offered_grows c ls = grows_cond (m.within k c.state && not (beaten m k c ls)) (record { more = c ∷ []; is = refl })

  pub tried_grows : (flags : List Bool) (n : ℕ) (l : Label S) (i : ℕ) (link : Link U) (ls : List (Label S)) → Grows ls (tried m k flags n l i link ls)
  tried_grows flags n l i link ls = grows_cond (is_open flags i && eqb link.tail l.node) (offered_grows (candidate m k n l i link) ls)

  pub tries_grows : (flags : List Bool) (n : ℕ) (l : Label S) (i : ℕ) (links : List (Link U)) (ls : List (Label S)) → Grows ls (tries m k flags n l i links ls)
  unfolding tries
  tries_grows flags n l i [] ls = grows_none ls
  tries_grows flags n l i (link ∷ links) ls =
      grows_chain (tried_grows flags n l i link ls) (tries_grows flags n l (i + 1) links (tried m k flags n l i link ls))

  -- the links from number i on, one step on and at the end
  pub tries_more : (flags : List Bool) (n : ℕ) (l : Label S) (links : List (Link U)) (i : ℕ) (link : Link U) (ls : List (Label S)) → i < length links → link ≡ get_or links i link → tries m k flags n l i (drop i links) ls ≡ tries m k flags n l (i + 1) (drop (i + 1) links) (tried m k flags n l i link ls)
  unfolding tries
  tries_more flags n l links i link ls lt read =
      at_drop_more (λ rest. tries m k flags n l i rest ls) links i link lt
      ∙ ap (λ x. tries m k flags n l (i + 1) (drop (i + 1) links) (tried m k flags n l i x ls)) (sym read)

  pub tries-all : (flags : List Bool) (n : ℕ) (l : Label S) (links : List (Link U)) (i : ℕ) (ls : List (Label S)) → length links ≤ i → tries m k flags n l i (drop i links) ls ≡ ls
  unfolding tries
  tries-all flags n l links i ls le = at_drop_all (λ rest. tries m k flags n l i rest ls) links i le

-- what is left of a list from place i on, taken apart
pub drop_view : {X : Type 0} (all : List X) (i : ℕ) (x : X) (rest : List X) → x ∷ rest ≡ drop i all → (i < length all) × (x ≡ get_or all i x) × (rest ≡ drop (i + 1) all)
drop_view {X} all i x rest e =
    ⊎_elim
    (λ lt. let f = drop_more all i x lt in (lt, cc, cc))
    (λ le. absurd (let f = drop_all i all le in let g : x ∷ rest ≡ [] = e ∙ f in let n = ap length g in omega arith))
    (cases_lt i (length all))
