-- A net and a book that are those of the ledger. Assumes nothing.
use Rattle.std.specs.Prelude.{◌≡◌, ℕ, Bool, true, false, List, [], ◌∷◌, ◌++◌, map, length}
use Rattle.kinds.specs.Kinds.{Model}
use Rattle.search.specs.declared.label.Link.{Link}
use Rattle.net.specs.Calls.{show_within}
use Rattle.net.specs.Ledger.{Ledger, Site, record_of, answer, after}
use Rattle.net.specs.Questions.{Told, node_count}
use Rattle.slice_vec.specs.Tables.{Table, listed}
use Rattle.net.specs.declared.types.Call.{Call}
use Rattle.net.specs.declared.types.Call.TheVariants.{Show}
use Rattle.net.specs.declared.types.Stream.{Stream}

pub record Matches {K U : Type 0} (site : Site) (s : Ledger K U) (serving : Bool) (nodes : ℕ) (t : Table (Link U)) (b : Table Stream) : Type 0 where
  pub serving_is : s.serving ≡ serving
  pub nodes_are : nodes ≡ node_count site.nodes
  pub link_room : length t.places ≡ site.link_places
  pub stream_room : length b.places ≡ site.stream_places
  pub links_are : listed 512 t ≡ s.links
  pub streams_are : listed 64 b ≡ map record_of s.streams

-- the call is answered as the ledger answers it after the calls, and net and book are then those of the ledger
abbrev pub Follows : {K S U : Type 0} → Model K S U → Site → List (Call K U) → Call K U → Told → Bool → ℕ → Table (Link U) → Table Stream → Type 0
Follows m site calls c told serving nodes t b = (told ≡ answer m site (after m site calls) c) × Matches site (after m site (calls ++ c ∷ [])) serving nodes t b

-- a net and its book: whether the net is in service, how many nodes it has, its links and the streams
pub record State (U : Type 0) : Type 0 where
  pub serving : Bool
  pub nodes : ℕ
  pub links : Table (Link U)
  pub streams : Table Stream

abbrev pub laid : {U : Type 0} → ℕ → Table (Link U) → Table Stream → State U
laid nodes t b = record { serving = false; nodes = nodes; links = t; streams = b }

abbrev pub served : {U : Type 0} → ℕ → Table (Link U) → Table Stream → State U
served nodes t b = record { serving = true; nodes = nodes; links = t; streams = b }

-- for every list of calls, at a site of which P is true: if net and book were those of the ledger after the list, then
-- they are those after the list with this call, and its answer is the ledger's
abbrev pub StepsWhere : {K S U : Type 0} → (Site → Type 0) → Model K S U → Call K U → Told → State U → State U → Type 0
StepsWhere {K} {S} {U} P m c told x y =
    (site : Site) (calls : List (Call K U)) → Matches site (after m site calls) x.serving x.nodes x.links x.streams → P site → Follows m site calls c told y.serving y.nodes y.links y.streams

-- the same at every site
abbrev pub Steps : {K S U : Type 0} → Model K S U → Call K U → Told → State U → State U → Type 0
Steps {K} {S} {U} m c told x y =
    (site : Site) (calls : List (Call K U)) → Matches site (after m site calls) x.serving x.nodes x.links x.streams → Follows m site calls c told y.serving y.nodes y.links y.streams

-- the same of a show into a list of so many places: its answer is the ledger's, or 19 if the ledger's route is longer
abbrev pub Shows : {K S U : Type 0} → Model K S U → Site → List (Call K U) → ℕ → ℕ → Told → ℕ → Table (Link U) → Table Stream → Type 0
Shows m site calls n places told nodes t b = (told ≡ show_within places (answer m site (after m site calls) (Show n))) × Matches site (after m site (calls ++ Show n ∷ [])) true nodes t b
