-- Each label's way back is a route: no node twice, by the laws. Assumes nothing.
use Rattle.std.proofs.Common.{◌≡◌, ℕ, zero, suc, ◌+◌, ◌<◌, ◌≤◌, true, false, List, [], ◌∷◌, ◌++◌, map, length, get_or, take, sym, refl, ap, ◌∙◌, subst, ap₂, ⊎_elim, arith}
use Rattle.std.proofs.lemmas.List.{get_or-map, get_or-take, length-take-le, length_push}
use Rattle.std.proofs.lemmas.Bool.{both_ways}
use Rattle.kinds.specs.Kinds.{Model, Laws}
use Rattle.search.specs.Routes.{Among, Distinct, heads, Leads, state_of, way, route_of}
use Rattle.search.specs.Rule.{Query, label0, beats}
use Rattle.search.specs.declared.label.Label.{Label}
use Rattle.search.proofs.Offspring.{beaten_at, beats_from}
use Rattle.search.proofs.Tree.{at, Child, Root, Tree}
use Rattle.search.proofs.Walks.{among_push, distinct_push, link_there, heads_push, leads_push, state_push}

module _ {K S U : Type 0} (m : Model K S U) (laws : Laws m) (q : Query K U) (ls : List (Label S)) (tree : Tree m q ls) where
  -- the links back from label j, h of them, are a chain of its hops and state that visits no node twice
  pub record Back (h j : ℕ) (p : List ℕ) : Type 0 where
    pub leads : Leads m q q.source p (at m q ls j).node
    pub state : state_of m q p ≡ (at m q ls j).state
    pub long : length p ≡ h
    pub once : Distinct (q.source ∷ heads q.links p)
    pub within : m.within q.kind (at m q ls j).state ≡ true
    pub short : h ≤ q.hop_limit
    -- each node visited has a label on the way, which covers this one
    pub ancestors : (v : ℕ) → Among v (q.source ∷ heads q.links p) → (a : ℕ) × (a ≤ j) × ((at m q ls a).node ≡ v) × ((at m q ls a).hops ≤ h) × (m.covers q.kind (at m q ls a).state (at m q ls j).state ≡ true)

  back_root : (j : ℕ) → Root m q ls j → Back 0 j []
  back_root j r =
      let is = r.label_is in
      record {
        leads = ap (λ l. l.node) (sym is);
        state = ap (λ l. l.state) (sym is);
        long = refl;
        once = (λ none. none, tt);
        within = ap (λ l. m.within q.kind l.state) is ∙ r.within;
        short = omega arith;
        ancestors = λ v a. ⊎_elim (λ here. (j, omega arith, ap (λ l. l.node) is ∙ here, omega (arith, ap (λ l. l.hops) is), laws.itself q.kind (at m q ls j).state)) (λ none. absurd none) a;
      }

  -- a label of a node that the way already visits would have been beaten
  fresh : (h j : ℕ) (p : List ℕ) (c : Child m q ls j) → j < length ls → (at m q ls c.parent).hops ≡ h → Back h c.parent p → Among c.made_of.link.head (q.source ∷ heads q.links p) → ⊥
  fresh h j p c lt hops b visited =
      let made = c.made_of in
      let (a, le, node, few, covers) = b.ancestors made.link.head visited in
      let inside : a < length (take (c.parent + 1) ls) = omega (arith, length-take-le (c.parent + 1) ls (omega (arith, c.earlier)), le) in
      let read = get_or-take (c.parent + 1) ls a (label0 m q) (omega arith) in
      let unbeaten : beats m q.kind (at m q ls a) (at m q ls j) ≡ false = ap (λ l. beats m q.kind l (at m q ls j)) (sym read) ∙ beaten_at m q.kind (at m q ls j) (take (c.parent + 1) ls) made.unbeaten a (label0 m q) inside in
      let same-node : (at m q ls a).node ≡ (at m q ls j).node = node ∙ ap (λ l. l.node) (sym made.is) in
      let more-hops : (at m q ls j).hops ≡ (at m q ls c.parent).hops + 1 = ap (λ l. l.hops) made.is in
      let over : m.covers q.kind (at m q ls a).state (at m q ls j).state ≡ true = subst (λ s. m.covers q.kind (at m q ls a).state s ≡ true) (ap (λ l. l.state) (sym made.is)) (laws.chain q.kind _ _ _ covers (laws.grows q.kind (at m q ls c.parent).state made.link.taken)) in
      both_ways (beats m q.kind (at m q ls a) (at m q ls j)) unbeaten
      (beats_from m q.kind (at m q ls a) (at m q ls j) same-node (omega arith) over)

  back_child : (h j : ℕ) (p : List ℕ) (c : Child m q ls j) → j < length ls → (at m q ls c.parent).hops ≡ h → Back h c.parent p → Back (suc h) j (p ++ c.made_of.number ∷ [])
  back_child h j p c lt hops b =
      let made = c.made_of in
      let i = made.number in
      let there = link_there q.links i made.link made.inside made.read in
      let heads-are : q.source ∷ heads q.links (p ++ i ∷ []) ≡ (q.source ∷ heads q.links p) ++ made.link.head ∷ [] = ap (λ x. q.source ∷ x) (heads_push q.links p i made.link there) in
      let state-is : state_of m q (p ++ i ∷ []) ≡ (at m q ls j).state = state_push m q p i made.link there ∙ ap (λ s. m.extended q.kind s made.link.taken) b.state ∙ ap (λ l. l.state) (sym made.is) in
      let parent-covers : m.covers q.kind (at m q ls c.parent).state (at m q ls j).state ≡ true = subst (λ s. m.covers q.kind (at m q ls c.parent).state s ≡ true) (ap (λ l. l.state) (sym made.is)) (laws.grows q.kind (at m q ls c.parent).state made.link.taken) in
      record {
        leads = subst (Leads m q q.source (p ++ i ∷ [])) (ap (λ l. l.node) (sym made.is)) (leads_push m q q.source p (at m q ls c.parent).node i made.link b.leads there made.opened made.starts);
        state = state-is;
        long = length_push p i ∙ omega (arith, b.long);
        once = subst Distinct (sym heads-are) (distinct_push (q.source ∷ heads q.links p) made.link.head b.once (fresh h j p c lt hops b));
        within = made.within;
        short = omega (arith, c.below);
        ancestors = λ v a.
            ⊎_elim
            (λ old. let (x, le, node, few, covers) = b.ancestors v old in (x, omega (arith, c.earlier, le), node, omega (arith, few), laws.chain q.kind _ _ _ covers parent-covers))
            (λ new. (j, omega arith, ap (λ l. l.node) made.is ∙ new, omega (arith, ap (λ l. l.hops) made.is), laws.itself q.kind (at m q ls j).state))
            (among_push v (q.source ∷ heads q.links p) made.link.head (subst (Among v) heads-are a));
      }

  from_is : (j : ℕ) → j < length ls → get_or (map (λ l. l.from) ls) j 0 ≡ (at m q ls j).from
  from_is j lt = get_or-map (λ l. l.from) ls j (label0 m q) 0 lt

  link_is : (j : ℕ) → j < length ls → get_or (map (λ l. l.link) ls) j 0 ≡ (at m q ls j).link
  link_is j lt = get_or-map (λ l. l.link) ls j (label0 m q) 0 lt

  hops_is : (j : ℕ) → j < length ls → get_or (map (λ l. l.hops) ls) j 0 ≡ (at m q ls j).hops
  hops_is j lt = get_or-map (λ l. l.hops) ls j (label0 m q) 0 lt

  back : (h j : ℕ) → j < length ls → (at m q ls j).hops ≡ h → Back h j (way h ls j)
  back zero j lt hops =
      ⊎_elim
      (λ r. back_root j r)
      (λ c. absurd (omega (arith, ap (λ l. l.hops) c.made_of.is)))
      (tree j lt)
  back (suc h) j lt hops =
      ⊎_elim
      (λ r. absurd (omega (arith, ap (λ l. l.hops) r.label_is)))
      (λ c.
      let parent : (at m q ls j).from ≡ c.parent = c.parent_is in
      let before : (at m q ls c.parent).hops ≡ h = omega (arith, ap (λ l. l.hops) c.made_of.is) in
      let b = back_child h j (way h ls c.parent) c lt before (back h c.parent (omega (arith, c.earlier)) before) in
      let same : way (suc h) ls j ≡ way h ls c.parent ++ c.made_of.number ∷ [] = ap₂ (λ n i. way h ls n ++ i ∷ []) (from_is j lt ∙ parent) (link_is j lt ∙ ap (λ l. l.link) c.made_of.is) in
      subst (Back (suc h) j) (sym same) b)
      (tree j lt)

  pub way_back : (j : ℕ) → j < length ls → Back (at m q ls j).hops j (route_of ls j)
  way_back j lt = subst (λ h. Back (at m q ls j).hops j (way h ls j)) (sym (hops_is j lt)) (back (at m q ls j).hops j lt refl)
