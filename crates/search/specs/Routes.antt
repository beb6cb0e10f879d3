-- Routes over the open links, and the way back of a label. Assumes nothing.
use Rattle.std.specs.Prelude.{◌≡◌, ℕ, zero, suc, ◌≤◌, true, ◌⊎◌, List, [], ◌∷◌, ◌++◌, map, length, take, drop, slice_index}
use Rattle.std.specs.List.{flat_map}
use Rattle.kinds.specs.Kinds.{Model, along}
use Rattle.search.specs.Rule.{Query, is_open}
use Rattle.search.specs.declared.label.Label.{Label}
use Rattle.search.specs.declared.label.Link.{Link}

-- n stands in the list
abbrev pub Among : ℕ → List ℕ → Type 0
Among n [] = ⊥
Among n (x ∷ xs) = (x ≡ n) ⊎ Among n xs

-- no number comes twice
abbrev pub Distinct : List ℕ → Type 0
Distinct [] = Unit {0}
Distinct (x ∷ xs) = (Among x xs → ⊥) × Distinct xs

-- link i, in a list of its own, if there is one
abbrev pub link_at : {U : Type 0} → List (Link U) → ℕ → List (Link U)
link_at links i = take 1 (drop i links)

-- the uses, and the heads, of the links numbered in p
abbrev pub uses : {U : Type 0} → List (Link U) → List ℕ → List U
uses links p = flat_map (λ i. map (λ l. l.taken) (link_at links i)) p

abbrev pub heads : {U : Type 0} → List (Link U) → List ℕ → List ℕ
heads links p = flat_map (λ i. map (λ l. l.head) (link_at links i)) p

module _ {K S U : Type 0} (m : Model K S U) (q : Query K U) where
  -- the links numbered in p are open, and lead from node a to node b, each starting where the last ended
  abbrev pub Leads : ℕ → List ℕ → ℕ → Type 0
  Leads a [] b = a ≡ b
  Leads a (i ∷ p) b = (l : Link U) × (link_at q.links i ≡ l ∷ []) × (is_open q.flags i ≡ true) × (l.tail ≡ a) × Leads l.head p b

  -- the state of a route, and its cost
  abbrev pub state_of : List ℕ → S
  state_of p = along m q.kind (uses q.links p)

  abbrev pub cost : List ℕ → ℕ
  cost p = m.figure q.kind (state_of p)

  -- a route from the source to the target, over open links, within the hop limit and the limits
  pub record Route (p : List ℕ) : Type 0 where
    pub leads : Leads q.source p q.target
    -- it visits no node twice
    pub once : Distinct (q.source ∷ heads q.links p)
    pub short : length p ≤ q.hop_limit
    pub within : m.within q.kind (state_of p) ≡ true

  -- a route that costs no more than any other, and at equal cost has no more hops
  pub record Cheapest (p : List ℕ) (figure hops : ℕ) : Type 0 where
    pub route : Route p
    pub figure_is : cost p ≡ figure
    pub hops_is : length p ≡ hops
    pub cheapest : (r : List ℕ) → Route r → figure ≤ cost r
    pub shortest : (r : List ℕ) → Route r → cost r ≡ figure → hops ≤ length r

-- the links back from label n, h of them, in order
abbrev pub way : {S : Type 0} → ℕ → List (Label S) → ℕ → List ℕ
way zero ls n = []
way (suc h) ls n = way h ls (slice_index (map (λ l. l.from) ls) n) ++ slice_index (map (λ l. l.link) ls) n ∷ []

-- the links from label 0 to label n
abbrev pub route_of : {S : Type 0} → List (Label S) → ℕ → List ℕ
route_of ls n = way (slice_index (map (λ l. l.hops) ls) n) ls n
