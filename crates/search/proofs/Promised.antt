-- What the answer of a search says of every route there is. Assumes nothing.
use Rattle.std.proofs.Common.{◌≡◌, ℕ, zero, suc, ◌<◌, ◌≤◌, List, [], ◌∷◌, ◌++◌, map, length, get_or, drop, Some, None, Ok, Err, Option, Result, sym, refl, ap, ◌∙◌, subst, ap₂, ⊎_elim, arith}
use mathlib.Core.Path.{subst₃}
use mathlib.Core.List.{map-append}
use Rattle.std.proofs.lemmas.List.{get_or_append_left, get_or-map, length-map}
use Rattle.kinds.specs.Kinds.{Model, Laws}
use Rattle.search.specs.Answers.{Least, best, told, answer_of, Promise}
use Rattle.search.specs.Routes.{Among, heads, Leads, Route, Cheapest, way, route_of}
use Rattle.search.specs.Rule.{Query, label0, made}
use Rattle.slice_vec.specs.Tables.{stored}
use Rattle.slice_vec.proofs.Tables.{stored_fits}
use Rattle.search.specs.declared.answer.Best.{Best}
use Rattle.search.specs.declared.answer.Found.{Found}
use Rattle.search.specs.declared.answer.SearchFault.{SearchFault}
use Rattle.search.specs.declared.answer.SearchFault.TheVariants.{Full, NoRoute}
use Rattle.search.specs.declared.label.Label.{Label}
use Rattle.search.proofs.Chosen.{NoneThere, Picked, picked}
use Rattle.search.proofs.Coverage.{route_covered}
use Rattle.search.proofs.Tree.{at, tree_made}
use Rattle.search.proofs.Walks.{leads_end}
use Rattle.search.proofs.WayBack.{way_back}

module _ {K S U : Type 0} (m : Model K S U) (laws : Laws m) (q : Query K U) where
  -- the way back stays among the labels made
  way_within : (rest : List (Label S)) (h j : ℕ) → j < length (made m q) → way h (made m q ++ rest) j ≡ way h (made m q) j
  way_within rest zero j lt = refl
  way_within rest (suc h) j lt =
      let from-same : get_or (map (λ l. l.from) (made m q ++ rest)) j 0 ≡ get_or (map (λ l. l.from) (made m q)) j 0 = ap (λ l. get_or l j 0) (map-append (λ l. l.from) (made m q) rest) ∙ get_or_append_left (map (λ l. l.from) (made m q)) (map (λ l. l.from) rest) 0 j (omega (arith, length-map (made m q) (λ l. l.from))) in
      let link-same : get_or (map (λ l. l.link) (made m q ++ rest)) j 0 ≡ get_or (map (λ l. l.link) (made m q)) j 0 = ap (λ l. get_or l j 0) (map-append (λ l. l.link) (made m q) rest) ∙ get_or_append_left (map (λ l. l.link) (made m q)) (map (λ l. l.link) rest) 0 j (omega (arith, length-map (made m q) (λ l. l.link))) in
      let from_is : get_or (map (λ l. l.from) (made m q)) j 0 ≡ (at m q (made m q) j).from = get_or-map (λ l. l.from) (made m q) j (label0 m q) 0 lt in
      let inside : get_or (map (λ l. l.from) (made m q)) j 0 < length (made m q) =
      ⊎_elim
      (λ r. omega (arith, ap (λ l. l.from) r.label_is))
      (λ c. omega (arith, c.parent_is, c.earlier))
      (tree_made m q j lt) in
      ap₂ (λ p i. p ++ i ∷ []) (ap (way h (made m q ++ rest)) from-same ∙ way_within rest h _ inside) link-same

  route_within : (rest : List (Label S)) (j : ℕ) → j < length (made m q) → route_of (made m q ++ rest) j ≡ route_of (made m q) j
  route_within rest j lt =
      let hops-same : get_or (map (λ l. l.hops) (made m q ++ rest)) j 0 ≡ get_or (map (λ l. l.hops) (made m q)) j 0 = ap (λ l. get_or l j 0) (map-append (λ l. l.hops) (made m q) rest) ∙ get_or_append_left (map (λ l. l.hops) (made m q)) (map (λ l. l.hops) rest) 0 j (omega (arith, length-map (made m q) (λ l. l.hops))) in
      ap (λ h. way h (made m q ++ rest) j) hops-same ∙ way_within rest (get_or (map (λ l. l.hops) (made m q)) j 0) j lt

  least_cheapest : (b : Best) → Least m q.kind q.target (made m q) b → Cheapest m q (route_of (made m q) b.label) b.figure b.hops
  least_cheapest b h =
      let j = b.label in
      let d = label0 m q in
      let w = way_back m laws q (made m q) (tree_made m q) j h.inside in
      record {
        route = record {
          leads = subst (Leads m q q.source (route_of (made m q) j)) (h.node_is d) w.leads;
          once = w.once;
          short = omega (arith, w.long, w.short);
          within = ap (m.within q.kind) w.state ∙ w.within;
        };
        figure_is = ap (m.figure q.kind) w.state ∙ h.figure_is d;
        hops_is = w.long ∙ h.hops_is d;
        cheapest = λ r route.
            let c = route_covered m laws q r route in
            let less = laws.ranks q.kind _ _ c.covers in
            let least = h.figure_least d c.label c.inside c.node_is in
            omega arith;
        shortest = λ r route same.
            let c = route_covered m laws q r route in
            let less = laws.ranks q.kind _ _ c.covers in
            let least = h.figure_least d c.label c.inside c.node_is in
            let fewer = h.hops_least d c.label c.inside c.node_is (omega arith) in
            omega (arith, c.hops_fit);
      }

  none_route : NoneThere m q.kind q.target (made m q) → (p : List ℕ) → Route m q p → ⊥
  none_route none p route =
      let c = route_covered m laws q p route in
      none (label0 m q) c.label c.inside c.node_is

  same_ends : q.source ≡ q.target → (p : List ℕ) → Route m q p → p ≡ []
  same_ends e [] r = refl
  same_ends e (i ∷ p) r =
      let (l, there, o, t, rest) = r.leads in
      let among : Among q.target (heads q.links (i ∷ p)) = subst (λ y. Among q.target (map (λ x. x.head) y ++ heads q.links p)) (sym there) (leads_end m q l.head p q.target rest) in
      absurd (r.once.0 (subst (λ v. Among v (heads q.links (i ∷ p))) (sym e) among))

  apart : (f : Found) → Err Full ≡ Ok f → ⊥
  apart f e = let z : ◌≡◌ {A = ℕ} 0 1 = cc in omega arith

  apart_none : (f : Found) → Err NoRoute ≡ Ok f → ⊥
  apart_none f e = let z : ◌≡◌ {A = ℕ} 0 1 = cc in omega arith

  module _ (old left : List (Label S)) where
    pub promised_full : length old < length (made m q) → Promise m q (length old) (Err Full) left
    promised_full over = record {
      full = (λ e. over, λ lt. refl);
      none = λ fits. absurd (omega arith);
      some = λ f e. absurd (apart f e);
      same_ends = same_ends;
    }

    module _ (fits : length (made m q) ≤ length old) (is : left ≡ stored (made m q) old) where
      left_is : left ≡ made m q ++ drop (length (made m q)) old
      left_is = is ∙ stored_fits old (made m q) fits

      by_cases : (r : Result Found SearchFault) (b : Option Best) → told r ≡ answer_of b (length (made m q)) → Picked m q.kind q.target (made m q) b → Promise m q (length old) r left
      by_cases (Ok f) None e p = absurd (let z = ap (λ x. x.0) e in omega arith)
      by_cases (Ok f) (Some b) e p =
          let values = ap (λ x. x.1) e in
          let label_is : b.label ≡ f.label = sym (ap (λ l. get_or l 0 0) values) in
          let figure_is : b.figure ≡ f.figure = sym (ap (λ l. get_or l 1 0) values) in
          let hops_is : b.hops ≡ f.hops = sym (ap (λ l. get_or l 2 0) values) in
          let best-route = least_cheapest b p in
          let route-is : route_of (made m q) b.label ≡ route_of left f.label = sym (ap₂ route_of left_is (sym label_is) ∙ route_within (drop (length (made m q)) old) b.label p.inside) in
          let here : Cheapest m q (route_of left f.label) f.figure f.hops = subst₃ (Cheapest m q) route-is figure_is hops_is best-route in
          record {
            full = (λ s. absurd (apart f (sym s)), λ lt. absurd (let s = fits in omega arith));
            none = λ _. (λ s. absurd (apart_none f (sym s)), λ no-route. absurd (no-route _ here.route));
            some = λ f' s. subst (λ x. Cheapest m q (route_of left x.label) x.figure x.hops) (same_found f f' s) here;
            same_ends = same_ends;
          }
        where
          same_found : (f f' : Found) → ◌≡◌ {A = Result Found SearchFault} (Ok f) (Ok f') → f ≡ f'
          same_found f f' s = cc
      by_cases (Err Full) None e p = absurd (let z = ap (λ x. x.0) e in omega arith)
      by_cases (Err Full) (Some b) e p = absurd (let z = ap (λ x. x.0) e in omega arith)
      by_cases (Err NoRoute) None e p = record {
        full = (λ s. absurd (full_none s), λ lt. absurd (let s = fits in omega arith));
        none = λ _. (λ s. none_route p, λ no-route. refl);
        some = λ f s. absurd (apart_none f s);
        same_ends = same_ends;
      }
        where
          full_none : ◌≡◌ {A = Result Found SearchFault} (Err NoRoute) (Err Full) → ⊥
          full_none s = let z : ◌≡◌ {A = ℕ} 0 1 = cc in omega arith
      by_cases (Err NoRoute) (Some b) e p = absurd (let z = ap (λ x. x.0) e in omega arith)

      pub promised_fits : (r : Result Found SearchFault) → told r ≡ answer_of (best m q.kind q.target (made m q)) (length (made m q)) → Promise m q (length old) r left
      promised_fits r e = by_cases r (best m q.kind q.target (made m q)) e (picked m q.kind q.target (made m q))

  -- what the best label, or none, says of every route there is
  pub best_inside : (b : Best) → best m q.kind q.target (made m q) ≡ Some b → b.label < length (made m q)
  best_inside b e = (subst (Picked m q.kind q.target (made m q)) e (picked m q.kind q.target (made m q))).inside

  pub best_cheapest : (b : Best) → best m q.kind q.target (made m q) ≡ Some b → Cheapest m q (route_of (made m q) b.label) b.figure b.hops
  best_cheapest b e = least_cheapest b (subst (Picked m q.kind q.target (made m q)) e (picked m q.kind q.target (made m q)))

  pub best_none : best m q.kind q.target (made m q) ≡ None → (p : List ℕ) → Route m q p → ⊥
  best_none e = none_route (subst (Picked m q.kind q.target (made m q)) e (picked m q.kind q.target (made m q)))

  pub stored-route : (old : List (Label S)) (j : ℕ) → length (made m q) ≤ length old → j < length (made m q) → route_of (stored (made m q) old) j ≡ route_of (made m q) j
  stored-route old j fits lt = ap (λ ls. route_of ls j) (stored_fits old (made m q) fits) ∙ route_within (drop (length (made m q)) old) j lt
