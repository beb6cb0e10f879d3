-- What holds after every list of calls: limits, cheapest routes, loads. Assumes nothing.
use Rattle.std.specs.Prelude.{◌≡◌, ℕ, ◌<◌, ◌≤◌, min, Bool, true, ◌↔◌, List, [], ◌∷◌, ◌++◌, map, length}
use Rattle.std.specs.List.{AllByRecursion}
use Rattle.kinds.specs.Choices.{Choice, sum_under}
use Rattle.kinds.specs.Kinds.{Model, along}
use Rattle.kinds.specs.Views.{BudgetPart}
use Rattle.search.specs.Routes.{link_at, uses, Route, Cheapest}
use Rattle.search.specs.Rule.{made}
use Rattle.search.specs.declared.label.Link.{Link}
use Rattle.net.specs.Ledger.{Entry, Ledger, Site, numbers, booked_over, asks, answer, next, after}
use Rattle.net.specs.Questions.{node_count, book_refusal}
use Rattle.net.specs.declared.types.Call.{Call}
use Rattle.net.specs.declared.types.Call.TheVariants.{Book}
use Rattle.net.specs.declared.types.Request.{Request}

module _ {K S U : Type 0} (m : Model K S U) (site : Site) where
  -- the uses of a standing stream's links
  abbrev pub uses_of : Ledger K U → Entry K → List U
  uses_of s e = uses s.links e.route

  -- a standing stream is within its limits, under its own booking's kind values
  abbrev pub WithinLimits : Ledger K U → Entry K → Type 0
  WithinLimits s e = m.within e.kind (along m e.kind (uses_of s e)) ≡ true

  -- wherever a budget is a part of the kind: whichever links are at their worst, no more of them than the allowance
  abbrev pub WorstWithin : BudgetPart m → Ledger K U → Entry K → Type 0
  WorstWithin v s e =
      (flags : List Bool) → Choice (v.budget e.kind).allowance (map v.use_of (uses_of s e)) flags → sum_under (map v.use_of (uses_of s e)) flags ≤ (v.budget e.kind).limit

  pub record Kept (s : Ledger K U) : Type 0 where
    pub limits : AllByRecursion (WithinLimits s) s.streams
    pub worst : (v : BudgetPart m) → AllByRecursion (WorstWithin v s) s.streams
    -- a link's load, the sum of the rates booked over it and not yet ended, is never above its capacity
    pub loads : (i : ℕ) (l : Link U) → link_at s.links i ≡ l ∷ [] → booked_over s.streams i ≤ l.capacity

  -- a booking that passes the questions before the search
  pub record Searches (s : Ledger K U) (r : Request) : Type 0 where
    pub serving : s.serving ≡ true
    pub passes : book_refusal (node_count site.nodes) (min 64 site.stream_places) (numbers s.streams) r ≡ 0

  -- what such a booking gets, against all routes over the links open to it beforehand
  pub record Fair (s : Ledger K U) (k : K) (r : Request) (places : ℕ) : Type 0 where
    pub full : ((answer m site s (Book r k places)).0 ≡ 16) ↔ (min places site.label_places < length (made m (asks m site s k r)))
    pub none : length (made m (asks m site s k r)) ≤ min places site.label_places → ((answer m site s (Book r k places)).0 ≡ 17) ↔ ((p : List ℕ) → Route m (asks m site s k r) p → ⊥)

  -- what an accepted booking got: the stream entered has what was asked and the cheapest, then the shortest, of all routes
  -- over the links open to it beforehand, and the answer has its figure, its hops and the count of labels
  abbrev pub Accepted : Ledger K U → K → Request → ℕ → Type 0
  Accepted s k r places = (e : Entry K) × ((next m site s (Book r k places)).streams ≡ s.streams ++ e ∷ []) × (e.asked_for ≡ r) × (e.kind ≡ k) × Cheapest m (asks m site s k r) e.route e.figure e.hops × (answer m site s (Book r k places) ≡ (0, e.figure ∷ e.hops ∷ length (made m (asks m site s k r)) ∷ []))

  -- a standing stream's booking is among the calls, and it got the cheapest, then the shortest, of all routes open to it then
  pub record Chosen (calls : List (Call K U)) (e : Entry K) : Type 0 where
    pub front : List (Call K U)
    pub places : ℕ
    pub back : List (Call K U)
    pub among : calls ≡ front ++ Book e.asked_for e.kind places ∷ back
    pub cheapest : Cheapest m (asks m site (after m site front) e.kind e.asked_for) e.route e.figure e.hops

  -- the laws over a run, at every point of it
  pub record LawsOfRun (calls : List (Call K U)) : Type 0 where
    pub kept : (front back : List (Call K U)) → calls ≡ front ++ back → Kept (after m site front)
    pub cheapest : (front : List (Call K U)) (r : Request) (k : K) (places : ℕ) (back : List (Call K U)) → calls ≡ front ++ Book r k places ∷ back → (answer m site (after m site front) (Book r k places)).0 ≡ 0 → Accepted (after m site front) k r places
    pub fair : (front : List (Call K U)) (r : Request) (k : K) (places : ℕ) (back : List (Call K U)) → calls ≡ front ++ Book r k places ∷ back → Searches (after m site front) r → Fair (after m site front) k r places

  -- at every point of a run, every standing stream got the cheapest, then the shortest, of all routes open to it when it was booked
  abbrev pub ChosenInRun : List (Call K U) → Type 0
  ChosenInRun calls = (front back : List (Call K U)) → calls ≡ front ++ back → AllByRecursion (Chosen front) (after m site front).streams

  -- all that is promised over a run
  pub record PromiseOfRun (calls : List (Call K U)) : Type 0 where
    pub laws : LawsOfRun calls
    pub chosen : ChosenInRun calls
