-- The order that makes a net. Assumes nothing.
use Rattle.std.specs.Prelude.{ℕ, cond, List, [], ◌∷◌, Some, None, Ok, Err, codes, Option, Result, ◌==◌}
use Rattle.std.specs.Str.{bytes_eq}
use Rattle.net.specs.Questions.{node_count, check_refusal}
use Rattle.reader.specs.Numbers.{numbers_of, then}
use Rattle.reader.specs.Split.{first_of, after_first}
use Rattle.reader.specs.declared.NumbersFault.{NumbersFault}
use Rattle.reader.specs.declared.NumbersFault.TheVariants.{Missing, Surplus, Bad}
use Rattle.forms.specs.Faults.{Blame}
use Rattle.forms.specs.Orders.{order_of}
use Rattle.forms.specs.Values.{top16, at}
use Rattle.forms.specs.declared.order.Order.{Order}
use Rattle.forms.specs.declared.order.Order.TheVariants.{Net, Lay, Serve}
use Rattle.forms.specs.declared.nets.NetOrder.{NetOrder}
use Rattle.forms.specs.declared.nets.SiteName.{SiteName}
use Rattle.forms.specs.declared.nets.SiteName.TheVariants.{Plain, Gated}

abbrev pub site_name : List ℕ → Option SiteName
site_name bs = cond (bytes_eq bs (codes "plain")) (Some Plain) (cond (bytes_eq bs (codes "gated")) (Some Gated) None)

-- the net, if its node count passes the check
abbrev pub net_of : SiteName → ℕ → Result NetOrder Blame
net_of site nodes =
    cond (check_refusal (node_count nodes) == 0) (Ok (record { site = site; nodes = nodes })) (Err (check_refusal (node_count nodes), 0))

-- the site's name and the numbers after it: first the count of fields, then the name, then the node count
abbrev pub net_read : Option SiteName → Result (List ℕ) NumbersFault → Result NetOrder Blame
net_read name (Err (Missing i)) = Err (23, 0)
net_read name (Err Surplus) = Err (23, 0)
net_read None (Err (Bad i)) = Err (24, 2)
net_read None (Ok ns) = Err (24, 2)
net_read (Some site) (Err (Bad i)) = Err (24, 3)
net_read (Some site) (Ok ns) = net_of site (at ns 0)

abbrev pub net_fields : List (List ℕ) → Result NetOrder Blame
net_fields fs = net_read (site_name (first_of fs)) (numbers_of (top16 ∷ []) (after_first fs))

-- while no net exists, no other order is allowed
abbrev pub net_by : Order → List (List ℕ) → Result NetOrder Blame
net_by Net fs = net_fields fs
net_by (Lay order) fs = Err (22, 0)
net_by (Serve order) fs = Err (22, 0)

-- what a line is read as while no net exists
abbrev pub net_line : List (List ℕ) → Result NetOrder Blame
net_line fs = then (order_of (first_of fs)) (λ o. net_by o (after_first fs))
