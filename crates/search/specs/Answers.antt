-- Which label a search answers, and what the answer promises. Assumes nothing.
use Rattle.std.specs.Prelude.{◌≡◌, ℕ, ◌+◌, ◌<◌, ◌≤◌, Bool, cond, ◌&&◌, ◌||◌, ◌↔◌, List, [], ◌∷◌, length, Some, None, Ok, Err, Option, Result, ◌==◌, nat_lt, slice_index_or}
use Rattle.kinds.specs.Kinds.{Model}
use Rattle.search.specs.Routes.{Route, Cheapest, route_of}
use Rattle.search.specs.Rule.{Query, made}
use Rattle.search.specs.declared.answer.Best.{Best}
use Rattle.search.specs.declared.answer.Found.{Found}
use Rattle.search.specs.declared.answer.SearchFault.{SearchFault}
use Rattle.search.specs.declared.answer.SearchFault.TheVariants.{Full, NoRoute}
use Rattle.search.specs.declared.label.Label.{Label}

abbrev pub fault_number : SearchFault → ℕ
fault_number Full = 16
fault_number NoRoute = 17

-- a has the lower figure, or the same and fewer hops
abbrev pub lower : Best → Best → Bool
lower a b = nat_lt a.figure b.figure || (a.figure == b.figure && nat_lt a.hops b.hops)

-- the lower of the two, and the earlier one on a tie
abbrev pub lesser : Option Best → Best → Option Best
lesser None b = Some b
lesser (Some a) b = Some (cond (lower b a) b a)

module _ {K S U : Type 0} (m : Model K S U) (k : K) (target : ℕ) where
  -- label n, which is l, against the best so far
  abbrev pub weighed : Option Best → ℕ → Label S → Option Best
  weighed b n l = cond (l.node == target) (lesser b (record { label = n; figure = m.figure k l.state; hops = l.hops })) b

  abbrev pub weighs : Option Best → ℕ → List (Label S) → Option Best
  weighs b n [] = b
  weighs b n (l ∷ ls) = weighs (weighed b n l) (n + 1) ls

  -- the label at the target with the least figure, then the fewest hops, then the lowest number
  abbrev pub best : List (Label S) → Option Best
  best ls = weighs None 0 ls

  -- b is the label at the target with the least figure, then the fewest hops, then the lowest number
  pub record Least (ls : List (Label S)) (b : Best) : Type 0 where
    pub inside : b.label < length ls
    pub node_is : (d : Label S) → (slice_index_or ls b.label d).node ≡ target
    pub figure_is : (d : Label S) → m.figure k (slice_index_or ls b.label d).state ≡ b.figure
    pub hops_is : (d : Label S) → (slice_index_or ls b.label d).hops ≡ b.hops
    pub figure_least : (d : Label S) (j : ℕ) → j < length ls → (slice_index_or ls j d).node ≡ target → b.figure ≤ m.figure k (slice_index_or ls j d).state
    pub hops_least : (d : Label S) (j : ℕ) → j < length ls → (slice_index_or ls j d).node ≡ target → m.figure k (slice_index_or ls j d).state ≡ b.figure → b.hops ≤ (slice_index_or ls j d).hops
    pub number_least : (d : Label S) (j : ℕ) → j < length ls → (slice_index_or ls j d).node ≡ target → m.figure k (slice_index_or ls j d).state ≡ b.figure → (slice_index_or ls j d).hops ≡ b.hops → b.label ≤ j

-- an answer: 0 and its values, or the number of the refusal
abbrev pub told : Result Found SearchFault → ℕ × List ℕ
told (Ok f) = (0, f.label ∷ f.figure ∷ f.hops ∷ f.count ∷ [])
told (Err f) = (fault_number f, [])

abbrev pub answer_of : Option Best → ℕ → ℕ × List ℕ
answer_of None n = (17, [])
answer_of (Some b) n = (0, b.label ∷ b.figure ∷ b.hops ∷ n ∷ [])

module _ {K S U : Type 0} (m : Model K S U) (q : Query K U) where
  -- what a search over a table of so many places answers
  abbrev pub answer : ℕ → ℕ × List ℕ
  answer places = cond (nat_lt places (length (made m q))) (16, []) (answer_of (best m q.kind q.target (made m q)) (length (made m q)))

  -- what the answer says of every route there is; ls is what the table holds then
  pub record Promise (places : ℕ) (r : Result Found SearchFault) (ls : List (Label S)) : Type 0 where
    pub full : (r ≡ Err Full) ↔ (places < length (made m q))
    pub none : length (made m q) ≤ places → (r ≡ Err NoRoute) ↔ ((p : List ℕ) → Route m q p → ⊥)
    pub some : (f : Found) → r ≡ Ok f → Cheapest m q (route_of ls f.label) f.figure f.hops
    -- from a node to itself there is no route but the empty one
    pub same_ends : q.source ≡ q.target → (p : List ℕ) → Route m q p → p ≡ []
