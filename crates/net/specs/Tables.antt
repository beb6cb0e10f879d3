-- The streams of a book, and the links open to a booking. Assumes nothing.
use Rattle.std.specs.Prelude.{ℕ, suc, ◌+◌, min, Bool, false, cond, ◌||◌, List, [], ◌∷◌, ◌++◌, take, replicate, sum_by, ◌==◌, nat_le}
use Rattle.search.specs.declared.label.Link.{Link}
use Rattle.net.specs.declared.types.Stream.{Stream}

-- i stands in the list
abbrev pub has : ℕ → List ℕ → Bool
has i [] = false
has i (x ∷ xs) = x == i || has i xs

-- the place of the first n in the list, or its length
abbrev pub place_of : ℕ → List ℕ → ℕ
place_of n [] = 0
place_of n (x ∷ xs) = cond (x == n) 0 (suc (place_of n xs))

-- the sum of the rates of those whose route has link i
abbrev pub load_by : {X : Type 0} → (X → ℕ) → (X → List ℕ) → List X → ℕ → ℕ
load_by rate route xs i = sum_by (λ x. cond (has i (route x)) (rate x) 0) xs

-- the links of a stream, as its record has them
abbrev pub route : Stream → List ℕ
route s = take (min s.hops 16) s.links

abbrev pub load : List Stream → ℕ → ℕ
load = load_by (λ s. s.rate) route

-- sixteen places for the links, unused ones 0
abbrev pub sixteen : List ℕ → List ℕ
sixteen p = take 16 (p ++ replicate 16 0)

-- a link is open to a booking if its load plus the rate is at most its capacity
abbrev pub is_open_to : ℕ → ℕ → ℕ → Bool
is_open_to capacity load rate = nat_le (load + rate) capacity

-- a flag for each link, from number i on
abbrev pub flags_from : {U : Type 0} → (ℕ → ℕ) → ℕ → ℕ → List (Link U) → List Bool
flags_from load rate i [] = []
flags_from load rate i (l ∷ ls) = is_open_to l.capacity (load i) rate ∷ flags_from load rate (i + 1) ls

abbrev pub flags_for : {U : Type 0} → (ℕ → ℕ) → ℕ → List (Link U) → List Bool
flags_for load rate links = flags_from load rate 0 links
