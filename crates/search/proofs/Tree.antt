-- Each label but the first was made of an earlier one. Assumes nothing.
use Rattle.std.proofs.Common.{◌≡◌, ℕ, zero, suc, ◌+◌, ◌-◌, ◌<◌, ◌≤◌, Bool, true, false, cond, ◌||◌, eqb, ltb, leb, ◌⊎◌, List, [], ◌∷◌, ◌++◌, length, get_or, take, sym, refl, ap, ◌∙◌, subst, inl, inr, ⊎_elim, arith, length-append}
use Rattle.std.proofs.ByRecursion.{All-get_or}
use Rattle.std.proofs.lemmas.List.{get_or_append_left, get_or-append_right, take-append-le}
use Rattle.std.proofs.lemmas.Bool.{cases_Bool, cases_lt, cond-true, cond-false, or_parts, leb-false, ltb-true}
use Rattle.kinds.specs.Kinds.{Model}
use Rattle.search.specs.Rule.{Query, label0, first, takes, tries, turn, after, shorter, made}
use Rattle.search.specs.declared.label.Label.{Label}
use Rattle.search.proofs.Offspring.{Made, tries_adds, weaken_to}

module _ {K S U : Type 0} (m : Model K S U) (q : Query K U) where
  abbrev pub at : List (Label S) → ℕ → Label S
  at ls i = get_or ls i (label0 m q)

  -- label j was made of the label that it came from, when that one and those before it were there
  pub record Child (ls : List (Label S)) (j : ℕ) : Type 0 where
    pub parent : ℕ
    pub parent_is : (at ls j).from ≡ parent
    pub earlier : parent < j
    pub below : (at ls parent).hops < q.hop_limit
    pub made_of : Made m q.kind q.flags q.links parent (at ls parent) (take (parent + 1) ls) (at ls j)

  pub record Root (ls : List (Label S)) (j : ℕ) : Type 0 where
    pub zero_is : j ≡ 0
    pub label_is : at ls j ≡ label0 m q
    pub within : m.within q.kind (m.start q.kind) ≡ true

  abbrev pub Tree : List (Label S) → Type 0
  Tree ls = (j : ℕ) → j < length ls → Root ls j ⊎ Child ls j

  tree_first : Tree (first m q)
  tree_first = starts (m.within q.kind (m.start q.kind)) refl
    where
      starts : (b : Bool) → m.within q.kind (m.start q.kind) ≡ b → Tree (cond b (label0 m q ∷ []) [])
      starts true e zero lt = inl (record { zero_is = refl; label_is = refl; within = e })
      starts true e (suc j) lt = absurd (omega arith)
      starts false e j lt = absurd (omega arith)

  -- what an earlier table says of its labels stays true of a longer one
  root_more : (ls more : List (Label S)) (j : ℕ) → j < length ls → Root ls j → Root (ls ++ more) j
  root_more ls more j lt r = record { zero_is = r.zero_is; label_is = get_or_append_left ls more (label0 m q) j lt ∙ r.label_is; within = r.within }

  child_more : (ls more : List (Label S)) (j : ℕ) → j < length ls → Child ls j → Child (ls ++ more) j
  child_more ls more j lt c =
      let n = c.parent in
      let inside : n < length ls = omega (arith, c.earlier) in
      let same-j = get_or_append_left ls more (label0 m q) j lt in
      let same-n = get_or_append_left ls more (label0 m q) n inside in
      let same-front = take-append-le (n + 1) ls more (omega arith) in
      record {
        parent = n;
        parent_is = ap (λ l. l.from) same-j ∙ c.parent_is;
        earlier = c.earlier;
        below = subst (λ l. l.hops < q.hop_limit) (sym same-n) c.below;
        made_of =
            subst (λ l. Made m q.kind q.flags q.links n l (take (n + 1) (ls ++ more)) (at (ls ++ more) j)) (sym same-n)
            (subst (λ x. Made m q.kind q.flags q.links n (at ls n) x (at (ls ++ more) j)) (sym same-front)
            (subst (λ x. Made m q.kind q.flags q.links n (at ls n) (take (n + 1) ls) x) (sym same-j) c.made_of));
      }

  child_new : (ls more : List (Label S)) (n : ℕ) → n < length ls → (at ls n).hops < q.hop_limit → (c : Label S) (j : ℕ) → at (ls ++ more) j ≡ c → length ls ≤ j → Made m q.kind q.flags q.links n (at ls n) ls c → Child (ls ++ more) j
  child_new ls more n lt below c j is new h =
      let same-n = get_or_append_left ls more (label0 m q) n lt in
      let same-front = take-append-le (n + 1) ls more (omega arith) in
      let early = weaken_to m q.kind q.flags n (at ls n) q.links ls (n + 1) c h in
      record {
        parent = n;
        parent_is = ap (λ l. l.from) is ∙ ap (λ l. l.from) h.is;
        earlier = omega arith;
        below = subst (λ l. l.hops < q.hop_limit) (sym same-n) below;
        made_of =
            subst (λ l. Made m q.kind q.flags q.links n l (take (n + 1) (ls ++ more)) (at (ls ++ more) j)) (sym same-n)
            (subst (λ x. Made m q.kind q.flags q.links n (at ls n) x (at (ls ++ more) j)) (sym same-front)
            (subst (λ x. Made m q.kind q.flags q.links n (at ls n) (take (n + 1) ls) x) (sym is) early));
      }

  tree_tries : (ls : List (Label S)) (n : ℕ) → n < length ls → (at ls n).hops < q.hop_limit → Tree ls → Tree (tries m q.kind q.flags n (at ls n) 0 q.links ls)
  tree_tries ls n lt below h =
      let (more, is, each) = tries_adds m q.kind q.flags n (at ls n) q.links ls in
      subst Tree (sym is) (λ j inside.
      ⊎_elim
      (λ old. ⊎_elim (λ r. inl (root_more ls more j old r)) (λ c. inr (child_more ls more j old c)) (h j old))
      (λ new.
      let long = length-append ls more in
      inr (child_new ls more n lt below (at more (j - length ls)) j (get_or-append_right ls more (length ls) j (label0 m q) refl new) new
      (All-get_or (Made m q.kind q.flags q.links n (at ls n) ls) more (j - length ls) (label0 m q) (omega arith) each)))
      (cases_lt j (length ls)))

  tree_turn : (ls : List (Label S)) (n : ℕ) → Tree ls → Tree (turn m q n ls)
  tree_turn ls n h =
      ⊎_elim
      (λ t. subst Tree (sym (cond-true _ _ _ t)) (taken (ltb-true n (length ls) t)))
      (λ t. subst Tree (sym (cond-false _ _ _ t)) h)
      (cases_Bool (ltb n (length ls)))
    where
      taken : n < length ls → Tree (takes m q n (at ls n) ls)
      taken lt =
          ⊎_elim
          (λ t. subst Tree (sym (cond-true _ _ _ t)) h)
          (λ t. subst Tree (sym (cond-false _ _ _ t)) (tree_tries ls n lt (leb-false _ _ (or_parts _ _ t).1) h))
          (cases_Bool (eqb (at ls n).node q.target || leb q.hop_limit (at ls n).hops))

  tree_after : (n : ℕ) → Tree (after m q n)
  unfolding after
  tree_after zero = tree_first
  tree_after (suc n) = tree_turn (after m q n) n (tree_after n)

  pub tree_made : Tree (made m q)
  unfolding made
  tree_made = tree_after (shorter m q q.hop_limit)
