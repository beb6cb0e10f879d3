-- What the lines of a file come to, one after another. Assumes nothing.
use Rattle.std.specs.Prelude.{ℕ, List, [], ◌∷◌, Ok, Err, fold, Result}
use Rattle.kinds.specs.Budget.{budget_model}
use Rattle.kinds.specs.Clock.{clock_model}
use Rattle.kinds.specs.Ducts.{ducts_model}
use Rattle.kinds.specs.Kinds.{Model}
use Rattle.kinds.specs.Pair.{pair_model}
use Rattle.kinds.specs.declared.Budget.{Budget}
use Rattle.kinds.specs.declared.BudgetState.{BudgetState}
use Rattle.kinds.specs.declared.BudgetUse.{BudgetUse}
use Rattle.kinds.specs.declared.Clock.{Clock}
use Rattle.kinds.specs.declared.ClockState.{ClockState}
use Rattle.kinds.specs.declared.ClockUse.{ClockUse}
use Rattle.kinds.specs.declared.DuctState.{DuctState}
use Rattle.kinds.specs.declared.DuctUse.{DuctUse}
use Rattle.kinds.specs.declared.Ducts.{Ducts}
use Rattle.kinds.specs.declared.Pair.{Pair}
use Rattle.kinds.specs.declared.PairState.{PairState}
use Rattle.kinds.specs.declared.PairUse.{PairUse}
use Rattle.net.specs.Ledger.{Site}
use Rattle.net.specs.Performed.{site_of}
use Rattle.net.specs.declared.Call.{Call}
use Rattle.reader.specs.Split.{fields}
use Rattle.forms.specs.Faults.{Blame}
use Rattle.forms.specs.Forms.{plain_form, gated_form}
use Rattle.orders.specs.Lines.{Reply, accepted, refused}
use Rattle.forms.specs.Nets.{net_line}
use Rattle.orders.specs.Runs.{read_after, reply_to, calls_with}
use Rattle.forms.specs.declared.NetOrder.{NetOrder}
use Rattle.forms.specs.declared.SiteName.{SiteName}
use Rattle.forms.specs.declared.SiteName.TheVariants.{Plain, Gated}

-- a plain site: a price budget and a delay budget
abbrev pub plain_model : Model (Pair Budget Budget) (PairState BudgetState BudgetState) (PairUse BudgetUse BudgetUse)
plain_model = pair_model budget_model budget_model

-- a gated site: a price budget, and a clock and a duct set
abbrev pub gated_model : Model (Pair Budget (Pair Clock Ducts)) (PairState BudgetState (PairState ClockState DuctState)) (PairUse BudgetUse (PairUse ClockUse DuctUse))
gated_model = pair_model budget_model (pair_model clock_model ducts_model)

-- the tables that every site has
abbrev pub supplied : ℕ → Site
supplied nodes = site_of nodes 512 64 512

-- where a file stands: no net exists, or one with so many nodes, and the calls made on it so far
pub data Desk : Type 0 where
  no_net : Desk
  plain_net : (nodes : ℕ) → List (Call (Pair Budget Budget) (PairUse BudgetUse BudgetUse)) → Desk
  gated_net : (nodes : ℕ) → List (Call (Pair Budget (Pair Clock Ducts)) (PairUse BudgetUse (PairUse ClockUse DuctUse))) → Desk

abbrev pub net_reply : Result NetOrder Blame → Reply
net_reply (Ok net) = accepted []
net_reply (Err b) = refused b.0 b.1

abbrev pub new_net : SiteName → ℕ → Desk
new_net Plain nodes = plain_net nodes []
new_net Gated nodes = gated_net nodes []

abbrev pub net_made : Result NetOrder Blame → Desk
net_made (Ok net) = new_net net.site net.nodes
net_made (Err b) = no_net

-- the reply to a line
abbrev pub reply : Desk → List ℕ → Reply
reply no_net line = net_reply (net_line (fields line))
reply (plain_net nodes calls) line = reply_to plain_model plain_form (supplied nodes) calls (read_after plain_model plain_form (supplied nodes) calls line)
reply (gated_net nodes calls) line = reply_to gated_model gated_form (supplied nodes) calls (read_after gated_model gated_form (supplied nodes) calls line)

-- where the file stands after a line
abbrev pub next_desk : Desk → List ℕ → Desk
next_desk no_net line = net_made (net_line (fields line))
next_desk (plain_net nodes calls) line = plain_net nodes (calls_with calls (read_after plain_model plain_form (supplied nodes) calls line))
next_desk (gated_net nodes calls) line = gated_net nodes (calls_with calls (read_after gated_model gated_form (supplied nodes) calls line))

-- the replies to the lines, in order
abbrev pub replies : Desk → List (List ℕ) → List Reply
replies d [] = []
replies d (l ∷ ls) = reply d l ∷ replies (next_desk d l) ls

abbrev pub desk_after : Desk → List (List ℕ) → Desk
desk_after d ls = fold next_desk d ls
