-- What each call answers and leaves, over any tables. Assumes nothing.
use Rattle.std.specs.Prelude.{◌≡◌, ℕ, ◌+◌, cond, List, [], ◌∷◌, ◌++◌, map, length, take, drop, replicate, Some, None, Option, Result, ◌==◌, nat_le, nat_lt, slice_index}
use Rattle.std.specs.List.{remove}
use Rattle.kinds.specs.Kinds.{Model}
use Rattle.search.specs.Answers.{best}
use Rattle.search.specs.Routes.{route_of}
use Rattle.search.specs.Rule.{Query, made}
use Rattle.slice_vec.specs.Tables.{stored, Table, room, listed, put}
use Rattle.search.specs.declared.answer.Best.{Best}
use Rattle.search.specs.declared.label.Label.{Label}
use Rattle.search.specs.declared.label.Link.{Link}
use Rattle.net.specs.Questions.{Told, told, three_values, unless, add_refusal, link_refusal, book_refusal, stream_refusal, query, search_told}
use Rattle.net.specs.Tables.{place_of, route, load, sixteen}
use Rattle.net.specs.declared.types.NetFault.{NetFault}
use Rattle.net.specs.declared.types.Request.{Request}
use Rattle.net.specs.declared.types.Stream.{Stream}

-- the list that a call leaves, unless a question was answered no
abbrev pub leave : {X : Type 0} → ℕ → List X → Table X → Table X
leave refusal xs t = cond (refusal == 0) (put xs t) t

module _ {U : Type 0} (nodes : ℕ) (t : Table (Link U)) (l : Link U) where
  abbrev pub add_told : Told
  add_told = unless (add_refusal nodes (room 512 t) (length (listed 512 t)) l) (length (listed 512 t) ∷ [])

  abbrev pub add_left : Table (Link U)
  add_left = leave (add_refusal nodes (room 512 t) (length (listed 512 t)) l) (listed 512 t ++ l ∷ []) t

module _ {U : Type 0} (t : Table (Link U)) (i : ℕ) where
  abbrev pub withdraw_told : Told
  withdraw_told = unless (link_refusal (length (listed 512 t)) i) []

  abbrev pub withdraw_left : Table (Link U)
  withdraw_left = leave (link_refusal (length (listed 512 t)) i) (remove (listed 512 t) i) t

abbrev pub numbers_of : List Stream → List ℕ
numbers_of ss = map (λ s. s.number) ss

-- the first stream that bears the number, in a list of its own
abbrev pub bearing : ℕ → List Stream → List Stream
bearing n [] = []
bearing n (s ∷ ss) = cond (s.number == n) (s ∷ []) (bearing n ss)

module _ (b : Table Stream) (n : ℕ) where
  abbrev pub release_told : Told
  release_told = unless (stream_refusal (numbers_of (listed 64 b)) n) []

  abbrev pub release_left : Table Stream
  release_left = leave (stream_refusal (numbers_of (listed 64 b)) n) (remove (listed 64 b) (place_of n (numbers_of (listed 64 b)))) b

-- the result list is asked for as many places as the route has links
abbrev pub show_told_of : List Stream → ℕ → Told
show_told_of [] places = (18, [])
show_told_of (s ∷ ss) places = cond (nat_lt places (length (route s))) (19, []) (0, s.figure ∷ s.rate ∷ s.hops ∷ [])

abbrev pub show_answer : Option (ℕ × ℕ × ℕ) → Told
show_answer None = (19, [])
show_answer (Some v) = (0, v.0 ∷ v.1 ∷ v.2 ∷ [])

abbrev pub show_list_of : List Stream → List ℕ → List ℕ
show_list_of [] places = places
show_list_of (s ∷ ss) places = cond (nat_lt (length places) (length (route s))) places (stored (route s) places)

-- the answer with the links that were written, in place of their count
abbrev pub shown : Told → List ℕ → Told
shown x list = (x.0, cond (x.0 == 0) (slice_index x.1 0 ∷ slice_index x.1 1 ∷ take (slice_index x.1 2) list) [])

-- the ledger's answer to a show, asked for in a list of so many places: 19 if the route has more links
abbrev pub show_within : ℕ → Told → Told
show_within places x = cond (nat_lt (places + 2) (length x.1)) (19, []) x

module _ (b : Table Stream) (n : ℕ) (places : List ℕ) where
  abbrev pub show_told : Told
  show_told = show_told_of (bearing n (listed 64 b)) (length places)

  abbrev pub show_list : List ℕ
  show_list = show_list_of (bearing n (listed 64 b)) places

abbrev pub load_told : {U : Type 0} → Table (Link U) → Table Stream → ℕ → Told
load_told t b i = unless (link_refusal (length (listed 512 t)) i) (load (listed 64 b) i ∷ [])

abbrev pub recorded_as : Request → (figure hops : ℕ) → List ℕ → Stream
recorded_as r figure hops links = record { number = r.stream; rate = r.rate; figure = figure; hops = hops; links = links }

-- a route written into sixteen places that held 0, if they are enough
abbrev pub written : List ℕ → List ℕ
written p = cond (nat_le (length p) 16) (p ++ drop (length p) (replicate 16 0)) (replicate 16 0)

-- a booking over these links, beside these streams, in a book of so many places
module _ {K S U : Type 0} (m : Model K S U) (nodes : ℕ) (links : List (Link U)) (standing : List Stream) (places : ℕ) (k : K) (r : Request) where
  abbrev pub booking : Query K U
  booking = query links (load standing) k r

  abbrev pub first_refusal : ℕ
  first_refusal = book_refusal nodes places (numbers_of standing) r

  abbrev pub booking_told : ℕ → Told
  booking_told label_places = cond (first_refusal == 0) (search_told m booking label_places) (first_refusal, [])

  -- the record of the stream that is entered
  abbrev pub recorded : Option Best → List Stream
  recorded None = []
  recorded (Some b) = recorded_as r b.figure b.hops (sixteen (route_of (made m booking) b.label)) ∷ []

  abbrev pub entered : List Stream
  entered = standing ++ recorded (best m k r.target (made m booking))

module _ {K S U : Type 0} (m : Model K S U) (nodes : ℕ) (t : Table (Link U)) (b : Table Stream) (k : K) (r : Request) where
  abbrev pub book_told_by : ℕ → Told
  book_told_by label_places = booking_told m nodes (listed 512 t) (listed 64 b) (room 64 b) k r label_places

  abbrev pub book_left : ℕ → Table Stream
  book_left label_places = leave (book_told_by label_places).0 (entered m nodes (listed 512 t) (listed 64 b) (room 64 b) k r) b

  abbrev pub labels_left : List (Label S) → List (Label S)
  labels_left labels = cond (first_refusal m nodes (listed 512 t) (listed 64 b) (room 64 b) k r == 0) (stored (made m (booking m nodes (listed 512 t) (listed 64 b) (room 64 b) k r)) labels) labels

  -- what a booking answers, and leaves in the book and in the label table
  pub record Books (labels : List (Label S)) (answer : Result (ℕ × ℕ × ℕ) NetFault) (b' : Table Stream) (labels' : List (Label S)) : Type 0 where
    pub answer_is : told three_values answer ≡ book_told_by (length labels)
    pub left_is : b' ≡ book_left (length labels)
    -- under a refusal before the search the label table is untouched
    pub labels_are : labels' ≡ labels_left labels
