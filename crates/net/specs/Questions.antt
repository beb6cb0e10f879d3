-- The questions of each call, in order, and the number when the answer is no. Assumes nothing.
use Rattle.std.specs.Prelude.{ℕ, cond, ◌&&◌, List, [], ◌∷◌, length, Some, None, Ok, Err, Option, Result, ◌==◌, nat_le, nat_lt}
use Rattle.kinds.specs.Kinds.{Model}
use Rattle.search.specs.Answers.{best, fault_number}
use Rattle.search.specs.Rule.{Query, asked, made}
use Rattle.search.specs.declared.answer.Best.{Best}
use Rattle.search.specs.declared.label.Link.{Link}
use Rattle.net.specs.Tables.{place_of, flags_for}
use Rattle.net.specs.declared.types.NetFault.{NetFault}
use Rattle.net.specs.declared.types.NetFault.TheVariants.{NodeCount, Tail, Head, LinkEnds, LinksFull, NoLink, StreamZero, StreamTaken, BookFull, Source, Target, StreamEnds, Rate, HopLimit, Search, NoStream, ListShort}
use Rattle.net.specs.declared.types.Request.{Request}

abbrev pub net_fault_number : NetFault → ℕ
net_fault_number NodeCount = 1
net_fault_number Tail = 3
net_fault_number Head = 4
net_fault_number LinkEnds = 5
net_fault_number LinksFull = 6
net_fault_number NoLink = 7
net_fault_number StreamZero = 8
net_fault_number StreamTaken = 9
net_fault_number BookFull = 10
net_fault_number Source = 11
net_fault_number Target = 12
net_fault_number StreamEnds = 13
net_fault_number Rate = 14
net_fault_number HopLimit = 15
net_fault_number (Search f) = fault_number f
net_fault_number NoStream = 18
net_fault_number ListShort = 19

-- an answer: 0 and its values, or the number of the refusal
abbrev pub Told : Type 0
Told = ℕ × List ℕ

abbrev pub told : {X : Type 0} → (X → List ℕ) → Result X NetFault → Told
told values (Ok x) = (0, values x)
told values (Err f) = (net_fault_number f, [])

-- the values of an answer that has none, one, or three
abbrev pub no_values : {X : Type 0} → X → List ℕ
no_values x = []

abbrev pub one_value : ℕ → List ℕ
one_value n = n ∷ []

abbrev pub three_values : ℕ × ℕ × ℕ → List ℕ
three_values v = v.0 ∷ v.1 ∷ v.2 ∷ []

-- 0 and the values, unless a question was answered no
abbrev pub unless : ℕ → List ℕ → Told
unless refusal values = cond (refusal == 0) (0, values) (refusal, [])

-- a node count outside 2 to 128 makes a net of no nodes
abbrev pub node_count : ℕ → ℕ
node_count n = cond (nat_le 2 n && nat_le n 128) n 0

abbrev pub check_refusal : ℕ → ℕ
check_refusal nodes = cond (nat_le 2 nodes && nat_le nodes 128) 0 1

-- the questions on the ends of a link
abbrev pub ends_refusal : {U : Type 0} → ℕ → Link U → ℕ
ends_refusal nodes l = cond (nat_le nodes l.tail) 3 (cond (nat_le nodes l.head) 4 (cond (l.tail == l.head) 5 0))

abbrev pub add_refusal : {U : Type 0} → (nodes places count : ℕ) → Link U → ℕ
add_refusal nodes places count l =
    cond (nat_le nodes l.tail) 3 (cond (nat_le nodes l.head) 4 (cond (l.tail == l.head) 5 (cond (nat_le places count) 6 0)))

abbrev pub link_refusal : (count link : ℕ) → ℕ
link_refusal count link = cond (nat_le count link) 7 0

abbrev pub route_refusal : ℕ → Request → ℕ
route_refusal nodes r =
    cond (nat_le nodes r.source) 11 (
    cond (nat_le nodes r.target) 12 (
    cond (r.source == r.target) 13 (
    cond (r.rate == 0) 14 (
    cond (nat_le 1 r.hop_limit && nat_le r.hop_limit 16) 0 15))))

-- numbers are those of the standing streams
abbrev pub book_refusal : (nodes places : ℕ) → List ℕ → Request → ℕ
book_refusal nodes places numbers r =
    cond (r.stream == 0) 8 (
    cond (nat_lt (place_of r.stream numbers) (length numbers)) 9 (
    cond (nat_le places (length numbers)) 10 (route_refusal nodes r)))

abbrev pub stream_refusal : List ℕ → ℕ → ℕ
stream_refusal numbers n = cond (nat_lt (place_of n numbers) (length numbers)) 0 18

-- the search that a booking makes, over the links open to it
abbrev pub query : {K U : Type 0} → List (Link U) → (ℕ → ℕ) → K → Request → Query K U
query links load k r = asked k links (flags_for load r.rate links) r.source r.target r.hop_limit

-- what the search finds in a table of so many places, or the number of its refusal
abbrev pub found_of : Option Best → ℕ → Told
found_of None n = (17, [])
found_of (Some b) n = (0, b.figure ∷ b.hops ∷ n ∷ [])

abbrev pub search_told : {K S U : Type 0} → Model K S U → Query K U → ℕ → Told
search_told m q places = cond (nat_lt places (length (made m q))) (16, []) (found_of (best m q.kind q.target (made m q)) (length (made m q)))
