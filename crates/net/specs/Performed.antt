-- What a net, a book and the answers say of a run. Assumes nothing.
use Rattle.std.specs.Prelude.{◌≡◌, ℕ, Bool, true, false, List, [], ◌∷◌, map, take, Ok, Err, Result}
use Rattle.kinds.specs.Kinds.{Model}
use Rattle.search.specs.declared.label.Link.{Link}
use Rattle.net.specs.Ledger.{Site, record_of, after, answers, begun}
use Rattle.net.specs.Matching.{Matches, State}
use Rattle.net.specs.Questions.{Told, net_fault_number}
use Rattle.slice_vec.specs.Tables.{Table, listed}
use Rattle.net.specs.declared.types.Answer.{Answer}
use Rattle.net.specs.declared.types.Answer.TheVariants.{Done, Added, Booked, Shown, Loaded, Ended}
use Rattle.net.specs.declared.types.Call.{Call}
use Rattle.net.specs.declared.types.Net.{Net}
use Rattle.net.specs.declared.types.Net.TheVariants.{Laid, Serving}
use Rattle.net.specs.declared.types.Refusal.{Refusal}
use Rattle.net.specs.declared.types.Refusal.TheVariants.{Fault, NotTaken}
use Rattle.net.specs.declared.types.Stream.{Stream}

-- what a call gets
abbrev pub Reply : Type 0
Reply = Result Answer Refusal

-- the number of a refusal
abbrev pub refusal_number : Refusal → ℕ
refusal_number (Fault f) = net_fault_number f
refusal_number NotTaken = 22

-- the values of an answer
abbrev pub values_of : Answer → List ℕ
values_of Done = []
values_of (Added n) = n ∷ []
values_of (Booked figure hops labels) = figure ∷ hops ∷ labels ∷ []
values_of (Shown figure rate hops links) = figure ∷ rate ∷ take hops links
values_of (Loaded load) = load ∷ []
values_of (Ended n) = n ∷ []

-- an answer: its number, 0 where the call was not refused, and its values
abbrev pub told_of : Reply → Told
told_of (Ok a) = (0, values_of a)
told_of (Err r) = (refusal_number r, [])

module _ {K S U : Type 0} where
  abbrev pub is_serving : Net K S U → Bool
  is_serving (Laid n) = false
  is_serving (Serving n) = true

  abbrev pub nodes_of : Net K S U → ℕ
  nodes_of (Laid n) = n.nodes
  nodes_of (Serving n) = n.nodes

  abbrev pub links_of : Net K S U → Table (Link U)
  links_of (Laid n) = n.links
  links_of (Serving n) = n.links

  abbrev pub state_of : Net K S U → Table Stream → State U
  state_of n b = record { serving = is_serving n; nodes = nodes_of n; links = links_of n; streams = b }

-- net and book are those of the ledger after the calls, and the answers are the ledger's, in order
pub record Sofar {K S U : Type 0} (m : Model K S U) (site : Site) (calls : List (Call K U)) (n : Net K S U) (b : Table Stream) (list : List Reply) : Type 0 where
  pub matches : Matches site (after m site calls) (is_serving n) (nodes_of n) (links_of n) b
  pub answered : map told_of list ≡ answers m site begun calls

-- what a list of calls comes to: the state, the links and the records that lie in the tables, and the answers, in
-- order, are the ledger's
pub record Ran {K S U : Type 0} (m : Model K S U) (site : Site) (calls : List (Call K U)) (serving : Bool) (t : Table (Link U)) (b : Table Stream) (list : List Reply) : Type 0 where
  pub serving_is : serving ≡ (after m site calls).serving
  pub links_are : listed 512 t ≡ (after m site calls).links
  pub records_are : listed 64 b ≡ map record_of (after m site calls).streams
  pub answered : map told_of list ≡ answers m site begun calls

abbrev pub site_of : ℕ → ℕ → ℕ → ℕ → Site
site_of nodes links streams labels = record { nodes = nodes; link_places = links; stream_places = streams; label_places = labels }
