-- Chains of links, one link more at their end. Assumes nothing.
use Rattle.std.proofs.Common.{◌≡◌, ℕ, zero, suc, ◌<◌, true, ◌⊎◌, List, [], ◌∷◌, ◌++◌, map, length, get_or, take, sym, refl, ap, ◌∙◌, subst, inl, inr, ⊎_elim, arith}
use Rattle.std.proofs.lemmas.List.{drop_more, flat_map_more}
use Rattle.kinds.specs.Kinds.{Model}
use Rattle.kinds.proofs.Along.{along_push}
use Rattle.search.specs.Routes.{Among, Distinct, link_at, uses, heads, Leads, state_of}
use Rattle.search.specs.Rule.{Query, is_open}
use Rattle.search.specs.declared.label.Link.{Link}

pub among_front : (n : ℕ) (xs ys : List ℕ) → Among n xs → Among n (xs ++ ys)
among_front n [] ys h = absurd h
among_front n (x ∷ xs) ys h = ⊎_elim inl (λ later. inr (among_front n xs ys later)) h

pub among_last : (n : ℕ) (xs : List ℕ) (m : ℕ) → m ≡ n → Among n (xs ++ m ∷ [])
among_last n [] m e = inl e
among_last n (x ∷ xs) m e = inr (among_last n xs m e)

pub among_push : (n : ℕ) (xs : List ℕ) (m : ℕ) → Among n (xs ++ m ∷ []) → Among n xs ⊎ (m ≡ n)
among_push n [] m h = ⊎_elim inr (λ none. absurd none) h
among_push n (x ∷ xs) m h =
    ⊎_elim (λ here. inl (inl here)) (λ later. ⊎_elim (λ front. inl (inr front)) inr (among_push n xs m later)) h

pub distinct_push : (xs : List ℕ) (m : ℕ) → Distinct xs → (Among m xs → ⊥) → Distinct (xs ++ m ∷ [])
distinct_push [] m d h = (λ none. none, tt)
distinct_push (x ∷ xs) m d h =
    (λ a. ⊎_elim d.0 (λ e. h (inl (sym e))) (among_push x xs m a), distinct_push xs m d.1 (λ a. h (inr a)))

pub distinct_last : (xs : List ℕ) (m : ℕ) → Distinct (xs ++ m ∷ []) → Among m xs → ⊥
distinct_last [] m d a = a
distinct_last (x ∷ xs) m d a =
    ⊎_elim (λ here. d.0 (among_last x xs m (sym here))) (λ later. distinct_last xs m d.1 later) a

pub distinct_front : (xs : List ℕ) (m : ℕ) → Distinct (xs ++ m ∷ []) → Distinct xs
distinct_front [] m d = tt
distinct_front (x ∷ xs) m d = (λ a. d.0 (among_front x xs (m ∷ []) a), distinct_front xs m d.1)

pub link_there : {U : Type 0} (links : List (Link U)) (i : ℕ) (l : Link U) → i < length links → l ≡ get_or links i l → link_at links i ≡ l ∷ []
link_there links i l lt read = ap (take 1) (drop_more links i l lt) ∙ ap (λ x. x ∷ []) (sym read)

pub link_inside : {U : Type 0} (links : List (Link U)) (i : ℕ) (l : Link U) → link_at links i ≡ l ∷ [] → (i < length links) × (l ≡ get_or links i l)
link_inside [] zero l e = absurd (let n = ap length e in omega arith)
link_inside [] (suc i) l e = absurd (let n = ap length e in omega arith)
link_inside (x ∷ links) zero l e = (omega arith, cc)
link_inside (x ∷ links) (suc i) l e = let (lt, read) = link_inside links i l e in (omega arith, read)

module _ {U : Type 0} (links : List (Link U)) where
  pub uses_push : (p : List ℕ) (i : ℕ) (l : Link U) → link_at links i ≡ l ∷ [] → uses links (p ++ i ∷ []) ≡ uses links p ++ l.taken ∷ []
  uses_push p i l e = sym (flat_map_more (λ j. map (λ x. x.taken) (link_at links j)) [] p i) ∙ ap (λ x. uses links p ++ map (λ y. y.taken) x) e

  pub heads_push : (p : List ℕ) (i : ℕ) (l : Link U) → link_at links i ≡ l ∷ [] → heads links (p ++ i ∷ []) ≡ heads links p ++ l.head ∷ []
  heads_push p i l e = sym (flat_map_more (λ j. map (λ x. x.head) (link_at links j)) [] p i) ∙ ap (λ x. heads links p ++ map (λ y. y.head) x) e

module _ {K S U : Type 0} (m : Model K S U) (q : Query K U) where
  pub leads_push : (a : ℕ) (p : List ℕ) (b i : ℕ) (l : Link U) → Leads m q a p b → link_at q.links i ≡ l ∷ [] → is_open q.flags i ≡ true → l.tail ≡ b → Leads m q a (p ++ i ∷ []) l.head
  leads_push a [] b i l h e o t = (l, e, o, t ∙ sym h, refl)
  leads_push a (j ∷ p) b i l (x, at, open', tail, rest) e o t = (x, at, open', tail, leads_push x.head p b i l rest e o t)

  -- the last link apart
  pub leads_split : (a : ℕ) (p : List ℕ) (i b : ℕ) → Leads m q a (p ++ i ∷ []) b → (c : ℕ) × Leads m q a p c × ((l : Link U) × (link_at q.links i ≡ l ∷ []) × (is_open q.flags i ≡ true) × (l.tail ≡ c) × (l.head ≡ b))
  leads_split a [] i b (l, at, o, tail, end) = (a, refl, (l, at, o, tail, end))
  leads_split a (j ∷ p) i b (x, at, o, tail, rest) =
      let (c, front, last) = leads_split x.head p i b rest in
      (c, (x, at, o, tail, front), last)

  pub leads_end : (a : ℕ) (p : List ℕ) (b : ℕ) → Leads m q a p b → Among b (a ∷ heads q.links p)
  leads_end a [] b h = inl h
  leads_end a (j ∷ p) b (x, at, o, tail, rest) =
      inr (subst (λ y. Among b (map (λ l. l.head) y ++ heads q.links p)) (sym at) (leads_end x.head p b rest))

  pub leads_length : (a : ℕ) (p : List ℕ) (b : ℕ) → Leads m q a p b → length (heads q.links p) ≡ length p
  leads_length a [] b h = refl
  leads_length a (j ∷ p) b (x, at, o, tail, rest) =
      ap (λ y. length (map (λ l. l.head) y ++ heads q.links p)) at ∙ ap suc (leads_length x.head p b rest)

  pub state_push : (p : List ℕ) (i : ℕ) (l : Link U) → link_at q.links i ≡ l ∷ [] → state_of m q (p ++ i ∷ []) ≡ m.extended q.kind (state_of m q p) l.taken
  state_push p i l e =
      ap (λ us. Rattle.kinds.specs.Kinds.along m q.kind us) (uses_push q.links p i l e) ∙ along_push m q.kind (uses q.links p) l.taken
