-- The ledger: what a list of calls comes to, from the calls, the node count and the table lengths alone. Assumes nothing.
use Rattle.std.specs.Prelude.{ℕ, min, Bool, true, false, cond, List, [], ◌∷◌, ◌++◌, map, length, Some, None, fold, Option, ◌==◌}
use Rattle.std.specs.List.{remove}
use Rattle.kinds.specs.Kinds.{Model}
use Rattle.search.specs.Answers.{best}
use Rattle.search.specs.Routes.{route_of}
use Rattle.search.specs.Rule.{Query, made}
use Rattle.search.specs.declared.answer.Best.{Best}
use Rattle.search.specs.declared.label.Link.{Link}
use Rattle.net.specs.Questions.{Told, unless, node_count, add_refusal, link_refusal, book_refusal, stream_refusal, query, search_told}
use Rattle.net.specs.Tables.{load_by, place_of, sixteen}
use Rattle.net.specs.declared.types.Call.{Call}
use Rattle.net.specs.declared.types.Call.TheVariants.{Add, Withdraw, Open, Book, Release, Show, Load, Close}
use Rattle.net.specs.declared.types.Request.{Request}
use Rattle.net.specs.declared.types.Stream.{Stream}

-- a standing stream: what was asked, with the kind's values, and the route it got
pub record Entry (K : Type 0) : Type 0 where
  pub asked_for : Request
  pub kind : K
  pub route : List ℕ
  pub figure : ℕ
  pub hops : ℕ

pub record Ledger (K U : Type 0) : Type 0 where
  -- in service, or being laid
  pub serving : Bool
  pub links : List (Link U)
  pub streams : List (Entry K)

-- the node count, and the lengths of the tables
pub record Site : Type 0 where
  pub nodes : ℕ
  pub link_places : ℕ
  pub stream_places : ℕ
  pub label_places : ℕ

abbrev pub number : {K : Type 0} → Entry K → ℕ
number e = e.asked_for.stream

abbrev pub numbers : {K : Type 0} → List (Entry K) → List ℕ
numbers es = map number es

-- the sum of the rates booked over link i and not yet ended
abbrev pub booked_over : {K : Type 0} → List (Entry K) → ℕ → ℕ
booked_over = load_by (λ e. e.asked_for.rate) (λ e. e.route)

-- the record of a standing stream
abbrev pub record_of : {K : Type 0} → Entry K → Stream
record_of e = record { number = number e; rate = e.asked_for.rate; figure = e.figure; hops = e.hops; links = sixteen e.route }

abbrev pub begun : {K U : Type 0} → Ledger K U
begun = record { serving = false; links = []; streams = [] }

module _ {K S U : Type 0} (m : Model K S U) (site : Site) where
  abbrev pub asks : Ledger K U → K → Request → Query K U
  asks s k r = query s.links (booked_over s.streams) k r

  abbrev pub show_values : List (Entry K) → ℕ → List ℕ
  show_values [] n = []
  show_values (e ∷ es) n = cond (number e == n) (e.figure ∷ e.asked_for.rate ∷ e.route) (show_values es n)

  -- a call that the state does not take gets 22
  abbrev pub in_service : Ledger K U → Told → Told
  in_service s t = cond s.serving t (22, [])

  abbrev pub being_laid : Ledger K U → Told → Told
  being_laid s t = cond s.serving (22, []) t

  abbrev pub book_told : Ledger K U → K → Request → ℕ → Told
  book_told s k r places =
      let refusal = book_refusal (node_count site.nodes) (min 64 site.stream_places) (numbers s.streams) r in
      cond (refusal == 0) (search_told m (asks s k r) (min places site.label_places)) (refusal, [])

  -- the answer to a call
  abbrev pub answer : Ledger K U → Call K U → Told
  answer s (Add l) = being_laid s (unless (add_refusal (node_count site.nodes) (min 512 site.link_places) (length s.links) l) (length s.links ∷ []))
  answer s (Withdraw i) = being_laid s (unless (link_refusal (length s.links) i) [])
  answer s Open = being_laid s (0, [])
  answer s (Book r k places) = in_service s (book_told s k r places)
  answer s (Release n) = in_service s (unless (stream_refusal (numbers s.streams) n) [])
  answer s (Show n) = in_service s (unless (stream_refusal (numbers s.streams) n) (show_values s.streams n))
  answer s (Load i) = in_service s (unless (link_refusal (length s.links) i) (booked_over s.streams i ∷ []))
  answer s Close = in_service s (0, length s.streams ∷ [])

  -- the stream entered for the label answered
  abbrev pub entered : Ledger K U → K → Request → Option Best → List (Entry K)
  entered s k r None = []
  entered s k r (Some b) = record { asked_for = r; kind = k; route = route_of (made m (asks s k r)) b.label; figure = b.figure; hops = b.hops } ∷ []

  -- what a call that is not refused changes
  abbrev pub changed : Ledger K U → Call K U → Ledger K U
  changed s (Add l) = record { serving = s.serving; links = s.links ++ l ∷ []; streams = s.streams }
  changed s (Withdraw i) = record { serving = s.serving; links = remove s.links i; streams = s.streams }
  changed s Open = record { serving = true; links = s.links; streams = s.streams }
  changed s (Book r k places) = record { serving = s.serving; links = s.links; streams = s.streams ++ entered s k r (best m k r.target (made m (asks s k r))) }
  changed s (Release n) = record { serving = s.serving; links = s.links; streams = remove s.streams (place_of n (numbers s.streams)) }
  changed s (Show n) = s
  changed s (Load i) = s
  changed s Close = record { serving = false; links = s.links; streams = [] }

  -- a refused call changes nothing
  abbrev pub next : Ledger K U → Call K U → Ledger K U
  next s c = cond ((answer s c).0 == 0) (changed s c) s

  abbrev pub after : List (Call K U) → Ledger K U
  after calls = fold next begun calls

  -- the answers to the calls, in order
  abbrev pub answers : Ledger K U → List (Call K U) → List Told
  answers s [] = []
  answers s (c ∷ calls) = answer s c ∷ answers (next s c) calls
