-- What the label table holds after a list of calls. Assumes nothing.
use Rattle.std.specs.Prelude.{◌≡◌, ℕ, min, cond, List, [], ◌∷◌, ◌++◌, take, drop, ◌==◌}
use Rattle.kinds.specs.Kinds.{Model}
use Rattle.search.specs.Rule.{made}
use Rattle.slice_vec.specs.Tables.{stored}
use Rattle.search.specs.declared.label.Label.{Label}
use Rattle.net.specs.Ledger.{Ledger, Site, numbers, asks, next, after}
use Rattle.net.specs.Matching.{Matches, State}
use Rattle.net.specs.Questions.{node_count, book_refusal}
use Rattle.net.specs.declared.types.Call.{Call}
use Rattle.net.specs.declared.types.Call.TheVariants.{Add, Withdraw, Open, Book, Release, Show, Load, Close}
use Rattle.net.specs.declared.types.Request.{Request}

-- ls stored in the first so many places of a table, the other places as they were
abbrev pub stored_within : {X : Type 0} → ℕ → List X → List X → List X
stored_within places ls table = stored ls (take places table) ++ drop places table

module _ {K S U : Type 0} (m : Model K S U) (site : Site) where
  -- a booking that passes the questions before the search stores the labels that the rule makes in the places it may use
  abbrev pub labels_booked : Ledger K U → K → Request → ℕ → List (Label S) → List (Label S)
  labels_booked s k r places labels =
      let refusal = book_refusal (node_count site.nodes) (min 64 site.stream_places) (numbers s.streams) r in
      cond s.serving (cond (refusal == 0) (stored_within places (made m (asks m site s k r)) labels) labels) labels

  -- what a call leaves in the label table: only a booking changes it
  abbrev pub labels_next : Ledger K U → Call K U → List (Label S) → List (Label S)
  labels_next s (Add l) labels = labels
  labels_next s (Withdraw i) labels = labels
  labels_next s Open labels = labels
  labels_next s (Book r k places) labels = labels_booked s k r places labels
  labels_next s (Release n) labels = labels
  labels_next s (Show n) labels = labels
  labels_next s (Load i) labels = labels
  labels_next s Close labels = labels

  -- what the calls leave in the label table
  abbrev pub labels_after : Ledger K U → List (Call K U) → List (Label S) → List (Label S)
  labels_after s [] labels = labels
  labels_after s (c ∷ calls) labels = labels_after (next m site s c) calls (labels_next s c labels)

-- for every list of calls: if net and book were those of the ledger after the list, then this call leaves in the label
-- table what it leaves after the list
abbrev pub LabelsFollow : {K S U : Type 0} → Model K S U → Call K U → State U → List (Label S) → List (Label S) → Type 0
LabelsFollow {K} {S} {U} m c x labels labels' =
    (site : Site) (calls : List (Call K U)) → Matches site (after m site calls) x.serving x.nodes x.links x.streams → labels' ≡ labels_next m site (after m site calls) c labels
