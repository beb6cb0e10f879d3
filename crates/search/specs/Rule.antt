-- The label rule: which labels a search makes, for a table without end. Assumes nothing.
use Rattle.std.specs.Prelude.{ℕ, zero, suc, ◌+◌, Bool, false, cond, not, ◌&&◌, ◌||◌, List, [], ◌∷◌, ◌++◌, length, ◌==◌, nat_le, nat_lt, slice_index_or}
use Rattle.kinds.specs.Kinds.{Model}
use Rattle.search.specs.declared.label.Label.{Label}
use Rattle.search.specs.declared.label.Link.{Link}

-- what a search is asked: the kind's values, the links, a flag for each that says whether it is open, and the ends
pub record Query (K U : Type 0) : Type 0 where
  pub kind : K
  pub links : List (Link U)
  pub flags : List Bool
  pub source : ℕ
  pub target : ℕ
  pub hop_limit : ℕ

abbrev pub asked : {K U : Type 0} → K → List (Link U) → List Bool → ℕ → ℕ → ℕ → Query K U
asked k links flags source target hop_limit = record { kind = k; links = links; flags = flags; source = source; target = target; hop_limit = hop_limit }

-- link i is open: its number has 16 bits, and its flag says so
abbrev pub is_open : List Bool → ℕ → Bool
is_open flags i = nat_lt i 65536 && slice_index_or flags i false

module _ {K S U : Type 0} (m : Model K S U) (k : K) where
  -- what label n, which is l, gives over link i
  abbrev pub candidate : ℕ → Label S → ℕ → Link U → Label S
  candidate n l i link = record { node = link.head; hops = l.hops + 1; state = m.extended k l.state link.taken; from = n; link = i }

  -- l stands at the same node as c, has no more hops, and covers it
  abbrev pub beats : Label S → Label S → Bool
  beats l c = l.node == c.node && nat_le l.hops c.hops && m.covers k l.state c.state

  abbrev pub beaten : Label S → List (Label S) → Bool
  beaten c [] = false
  beaten c (l ∷ ls) = beats l c || beaten c ls

  -- a candidate is dropped if it is not within or is beaten; any other gets the next number
  abbrev pub offered : Label S → List (Label S) → List (Label S)
  offered c ls = cond (m.within k c.state && not (beaten c ls)) (ls ++ c ∷ []) ls

  -- link i is tried for label n, which is l
  abbrev pub tried : List Bool → ℕ → Label S → ℕ → Link U → List (Label S) → List (Label S)
  tried flags n l i link ls = cond (is_open flags i && link.tail == l.node) (offered (candidate n l i link) ls) ls

  -- the links from number i on are tried in order
  unfoldable pub tries : List Bool → ℕ → Label S → ℕ → List (Link U) → List (Label S) → List (Label S)
  tries flags n l i [] ls = ls
  tries flags n l i (link ∷ links) ls = tries flags n l (i + 1) links (tried flags n l i link ls)

module _ {K S U : Type 0} (m : Model K S U) (q : Query K U) where
  abbrev pub label0 : Label S
  label0 = record { node = q.source; hops = 0; state = m.start q.kind; from = 0; link = 0 }

  abbrev pub first : List (Label S)
  first = cond (m.within q.kind (m.start q.kind)) (label0 ∷ []) []

  -- label n is taken; one at the target, or with as many hops as the hop limit, is passed over
  abbrev pub takes : ℕ → Label S → List (Label S) → List (Label S)
  takes n l ls = cond (l.node == q.target || nat_le q.hop_limit l.hops) ls (tries m q.kind q.flags n l 0 q.links ls)

  -- label n is taken, if there is one
  abbrev pub turn : ℕ → List (Label S) → List (Label S)
  turn n ls = cond (nat_lt n (length ls)) (takes n (slice_index_or ls n label0) ls) ls

  -- the labels when the first n of them have been taken, in order of number
  unfoldable pub after : ℕ → List (Label S)
  after zero = first
  after (suc n) = turn n (after n)

  -- how many labels have fewer than h hops
  unfoldable pub shorter : ℕ → ℕ
  shorter zero = 0
  shorter (suc h) = length (after (shorter h))

  -- the labels when all have been taken
  unfoldable pub made : List (Label S)
  made = after (shorter q.hop_limit)
