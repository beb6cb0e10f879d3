-- What is written of the lines of a file, up to the one that makes a net and after it. Assumes nothing.
use Rattle.std.specs.Prelude.{◌≡◌, ℕ, ◌+◌, List, [], ◌++◌, Some, None, Option}
use Rattle.reader.specs.Laws.{with_feeds}
use Rattle.orders.specs.Desk.{Desk, no_net, new_net, replies, desk_after}
use Rattle.orders.specs.Files.{Promised}
use Rattle.orders.specs.Lines.{numbered}
use Rattle.forms.specs.declared.NetOrder.{NetOrder}

-- the answer lines to the lines after line n
abbrev pub text_of : Desk → ℕ → List (List ℕ) → List ℕ
text_of d n ls = with_feeds (numbered (n + 1) (replies d ls))

abbrev pub desk_of : Option NetOrder → Desk
desk_of None = no_net
desk_of (Some net) = new_net net.site net.nodes

-- the lines after line n were answered up to line n', where a net was made, or to their end
pub record NetFound (n : ℕ) (ls : List (List ℕ)) (out : List ℕ) (net : Option NetOrder) (n' : ℕ) (ls' : List (List ℕ)) (out' : List ℕ) : Type 0 where
  pub texts : out ++ text_of no_net n ls ≡ out' ++ text_of (desk_of net) n' ls'
  pub desks : desk_after no_net ls ≡ desk_after (desk_of net) ls'
  pub ended : (net ≡ None) → ls' ≡ []

-- the lines after line n were answered, and what stands after them keeps the laws
pub record Served (d : Desk) (n : ℕ) (ls : List (List ℕ)) (out out' : List ℕ) : Type 0 where
  pub texts : out' ≡ out ++ text_of d n ls
  pub promised : Promised (desk_after d ls)
