-- Each route within limits is covered by a label at its end, of no more hops. Assumes nothing.
use Rattle.std.proofs.Common.{◌≡◌, ℕ, suc, ◌<◌, ◌≤◌, true, List, [], ◌∷◌, ◌++◌, length, get_or, take, drop, sym, ap, ◌∙◌, subst, ⊎_elim, arith, take-append-drop}
use Rattle.std.proofs.lemmas.List.{length_push, take_at}
use Rattle.std.proofs.lemmas.Bool.{cases_lt, cond-true, cond-false, or_from, ne_eqb, lt-leb}
use Rattle.kinds.specs.Kinds.{Model, Laws}
use Rattle.kinds.proofs.Along.{from_end}
use Rattle.search.specs.Routes.{Among, Distinct, link_at, heads, Leads, state_of, Route}
use Rattle.search.specs.Rule.{Query, label0, is_open, candidate, beaten, tries, after, made}
use Rattle.search.specs.declared.label.Link.{Link}
use Rattle.search.proofs.Offers.{grows_get_d, grows_length}
use Rattle.search.proofs.Offspring.{beats_parts, beaten_by, beaten_more, tries_closed}
use Rattle.search.proofs.Order.{after_next, made_grows, made_done}
use Rattle.search.proofs.Tree.{at}
use Rattle.search.proofs.Walks.{among_front, distinct_last, heads_push, leads_split, leads_end, leads_length, link_inside, state_push}

module _ {K S U : Type 0} (m : Model K S U) (laws : Laws m) (q : Query K U) where
  -- a link that is open to a label that is taken leaves a label that beats its candidate
  made_closed : (j : ℕ) → j < length (made m q) → (at m q (made m q) j).hops < q.hop_limit → ((at m q (made m q) j).node ≡ q.target → ⊥) → (i : ℕ) (l : Link U) → i < length q.links → l ≡ get_or q.links i l → is_open q.flags i ≡ true → l.tail ≡ (at m q (made m q) j).node → m.within q.kind (candidate m q.kind j (at m q (made m q) j) i l).state ≡ true → beaten m q.kind (candidate m q.kind j (at m q (made m q) j) i l) (made m q) ≡ true
  made_closed j lt below away i l inside read o t w =
      let inside-now : j < length (after m q j) = ⊎_elim (λ h. h) (λ done. absurd (omega (arith, ap length (made_done m q j done)))) (cases_lt j (length (after m q j))) in
      let same : at m q (made m q) j ≡ at m q (after m q j) j = grows_get_d (made_grows m q j) j (label0 m q) inside-now in
      let c = candidate m q.kind j (at m q (made m q) j) i l in
      let next : after m q (suc j) ≡ tries m q.kind q.flags j (at m q (made m q) j) 0 q.links (after m q j) =
      after_next m q j inside-now
      ∙ cond-false _ _ _ (or_from _ _ (ne_eqb _ _ (λ e. away (ap (λ x. x.node) same ∙ e))) (lt-leb _ _ (subst (λ x. x.hops < q.hop_limit) same below)))
      ∙ ap (λ x. tries m q.kind q.flags j x 0 q.links (after m q j)) (sym same) in
      let there = tries_closed m q.kind q.flags j (at m q (made m q) j) laws q.links (after m q j) i l inside read o t w in
      let grown = made_grows m q (suc j) in
      subst (λ x. beaten m q.kind c x ≡ true) (sym grown.is)
      (beaten_more m q.kind c (after m q (suc j)) grown.more (subst (λ x. beaten m q.kind c x ≡ true) (sym next) there))

  pub record Covered (p : List ℕ) (b : ℕ) : Type 0 where
    pub label : ℕ
    pub inside : label < length (made m q)
    pub node_is : (at m q (made m q) label).node ≡ b
    pub hops_fit : (at m q (made m q) label).hops ≤ length p
    pub covers : m.covers q.kind (at m q (made m q) label).state (state_of m q p) ≡ true

  covered_none : (b : ℕ) → q.source ≡ b → m.within q.kind (m.start q.kind) ≡ true → Covered [] b
  unfolding after
  covered_none b e w =
      let one : after m q 0 ≡ label0 m q ∷ [] = cond-true _ _ _ w in
      let long = ap length one in
      let grown = made_grows m q 0 in
      let first : at m q (made m q) 0 ≡ label0 m q = grows_get_d grown 0 (label0 m q) (omega arith) ∙ ap (λ ls. at m q ls 0) one in
      record {
        label = 0;
        inside = omega (arith, grows_length grown);
        node_is = ap (λ l. l.node) first ∙ e;
        hops_fit = omega (arith, ap (λ l. l.hops) first);
        covers = ap (λ l. m.covers q.kind l.state (m.start q.kind)) first ∙ laws.itself q.kind (m.start q.kind);
      }

  covered_push : (p : List ℕ) (a i : ℕ) (l : Link U) → Covered p a → (a ≡ q.target → ⊥) → length p < q.hop_limit → link_at q.links i ≡ l ∷ [] → is_open q.flags i ≡ true → l.tail ≡ a → m.within q.kind (state_of m q (p ++ i ∷ [])) ≡ true → Covered (p ++ i ∷ []) l.head
  covered_push p a i l c away short there o t w =
      let (inside, read) = link_inside q.links i l there in
      let parent = at m q (made m q) c.label in
      let child = candidate m q.kind c.label parent i l in
      let state-is = state_push m q p i l there in
      let over : m.covers q.kind child.state (state_of m q (p ++ i ∷ [])) ≡ true = subst (λ s. m.covers q.kind child.state s ≡ true) (sym state-is) (laws.extends q.kind parent.state (state_of m q p) l.taken c.covers) in
      let fits = laws.keeps q.kind child.state (state_of m q (p ++ i ∷ [])) over w in
      let closed = made_closed c.label c.inside (omega (arith, c.hops_fit)) (λ e. away (sym c.node_is ∙ e)) i l inside read o (t ∙ sym c.node_is) fits in
      let (b, lt, beats-it) = beaten_by m q.kind child (made m q) closed (label0 m q) in
      let (node, hops, covers) = beats_parts m q.kind (at m q (made m q) b) child beats-it in
      record {
        label = b;
        inside = lt;
        node_is = node;
        hops_fit = omega (arith, hops, c.hops_fit, length_push p i);
        covers = laws.chain q.kind _ _ _ covers over;
      }

  -- part routes of a route within limits are within limits
  pub within_front : (p : List ℕ) (i : ℕ) (l : Link U) → link_at q.links i ≡ l ∷ [] → m.within q.kind (state_of m q (p ++ i ∷ [])) ≡ true → m.within q.kind (state_of m q p) ≡ true
  within_front p i l there w =
      let state-is = state_push m q p i l there in
      laws.keeps q.kind (state_of m q p) (state_of m q (p ++ i ∷ [])) (subst (λ s. m.covers q.kind (state_of m q p) s ≡ true) (sym state-is) (laws.grows q.kind (state_of m q p) l.taken)) w

  -- the nodes of a chain before its end
  before : List ℕ → List ℕ
  before p = take (length p) (q.source ∷ heads q.links p)

  before_push : (p : List ℕ) (i c : ℕ) (l : Link U) → Leads m q q.source p c → link_at q.links i ≡ l ∷ [] → before (p ++ i ∷ []) ≡ q.source ∷ heads q.links p
  unfolding before
  before_push p i c l leads there =
      ap (λ x. take (length (p ++ i ∷ [])) (q.source ∷ x)) (heads_push q.links p i l there)
      ∙ take_at (q.source ∷ heads q.links p) (l.head ∷ []) (length (p ++ i ∷ [])) (omega (arith, leads_length m q q.source p c leads, length_push p i))

  among-take : (v n : ℕ) (xs : List ℕ) → Among v (take n xs) → Among v xs
  among-take v n xs h = subst (Among v) (take-append-drop n xs) (among_front v (take n xs) (drop n xs) h)

  -- the chain goes past the target nowhere before its end
  Clear : List ℕ → Type 0
  Clear p = Among q.target (before p) → ⊥

  covered : (p : List ℕ) (b : ℕ) → Leads m q q.source p b → Clear p → length p ≤ q.hop_limit → m.within q.kind (state_of m q p) ≡ true → Covered p b
  unfolding Clear
  covered = from_end (λ p. (b : ℕ) → Leads m q q.source p b → Clear p → length p ≤ q.hop_limit → m.within q.kind (state_of m q p) ≡ true → Covered p b) step (λ b e clear short w. covered_none b e w)
    where
      step : (p : List ℕ) (i : ℕ) → ((b : ℕ) → Leads m q q.source p b → Clear p → length p ≤ q.hop_limit → m.within q.kind (state_of m q p) ≡ true → Covered p b) → (b : ℕ) → Leads m q q.source (p ++ i ∷ []) b → Clear (p ++ i ∷ []) → length (p ++ i ∷ []) ≤ q.hop_limit → m.within q.kind (state_of m q (p ++ i ∷ [])) ≡ true → Covered (p ++ i ∷ []) b
      step p i ih b leads clear short w =
          let (c, front, (l, there, o, t, end)) = leads_split m q q.source p i b leads in
          let long = length_push p i in
          let nodes = before_push p i c l front there in
          let clear-all : Among q.target (q.source ∷ heads q.links p) → ⊥ = λ a. clear (subst (Among q.target) (sym nodes) a) in
          let up-to-c = ih c front (λ a. clear-all (unfold before in among-take q.target (length p) (q.source ∷ heads q.links p) a)) (omega arith) (within_front p i l there w) in
          subst (Covered (p ++ i ∷ [])) end
          (covered_push p c i l up-to-c (λ e. clear-all (subst (λ v. Among v (q.source ∷ heads q.links p)) e (leads_end m q q.source p c front))) (omega arith) there o t w)

  clear_route : (p : List ℕ) → Leads m q q.source p q.target → Distinct (q.source ∷ heads q.links p) → Clear p
  unfolding Clear
  clear_route = from_end (λ p. Leads m q q.source p q.target → Distinct (q.source ∷ heads q.links p) → Clear p) step (λ leads once a. unfold before in a)
    where
      step : (p : List ℕ) (i : ℕ) → (Leads m q q.source p q.target → Distinct (q.source ∷ heads q.links p) → Clear p) → Leads m q q.source (p ++ i ∷ []) q.target → Distinct (q.source ∷ heads q.links (p ++ i ∷ [])) → Clear (p ++ i ∷ [])
      step p i ih leads once a =
          let (c, front, (l, there, o, t, end)) = leads_split m q q.source p i q.target leads in
          let nodes = before_push p i c l front there in
          let all-nodes = ap (λ x. q.source ∷ x) (heads_push q.links p i l there) in
          distinct_last (q.source ∷ heads q.links p) l.head (subst Distinct all-nodes once) (subst (λ v. Among v (q.source ∷ heads q.links p)) (sym end) (subst (Among q.target) nodes a))

  pub route_covered : (p : List ℕ) → Route m q p → Covered p q.target
  route_covered p r = covered p q.target r.leads (clear_route p r.leads r.once) r.short r.within
