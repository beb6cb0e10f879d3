-- Lines on a site whose net exists: the calls that they make, and the replies that they get. Assumes nothing.
use Rattle.std.specs.Prelude.{ℕ, cond, List, [], ◌∷◌, ◌++◌, Ok, Err, Result, ◌==◌}
use Rattle.kinds.specs.Kinds.{Model}
use Rattle.net.specs.Ledger.{Site, answer, after}
use Rattle.net.specs.Questions.{Told}
use Rattle.net.specs.declared.Call.{Call}
use Rattle.reader.specs.Split.{fields}
use Rattle.forms.specs.Faults.{Blame}
use Rattle.forms.specs.Forms.{Form, line_call}
use Rattle.orders.specs.Lines.{Reply, accepted, refused}

-- the ledger's answer as a reply
abbrev pub reply_of : Told → Reply
reply_of t = cond (t.0 == 0) (accepted t.1) (refused t.0 0)

-- the calls with that of one line more
abbrev pub calls_with : {K U : Type 0} → List (Call K U) → Result (Call K U) Blame → List (Call K U)
calls_with calls (Ok c) = calls ++ c ∷ []
calls_with calls (Err b) = calls

module _ {K S U : Type 0} (m : Model K S U) (form : Form K U) (site : Site) where
  -- what a line is read as after the calls
  abbrev pub read_after : List (Call K U) → List ℕ → Result (Call K U) Blame
  read_after calls line = line_call form (after m site calls).serving (fields line)

  -- the ledger answers a call
  abbrev pub reply_to : List (Call K U) → Result (Call K U) Blame → Reply
  reply_to calls (Ok c) = reply_of (answer m site (after m site calls) c)
  reply_to calls (Err b) = refused b.0 b.1

  -- the replies to lines that come after the calls
  abbrev pub site_replies : List (Call K U) → List (List ℕ) → List Reply
  site_replies calls [] = []
  site_replies calls (l ∷ ls) = reply_to calls (read_after calls l) ∷ site_replies (calls_with calls (read_after calls l)) ls

  -- all calls, with those of the lines
  abbrev pub site_calls : List (Call K U) → List (List ℕ) → List (Call K U)
  site_calls calls [] = calls
  site_calls calls (l ∷ ls) = site_calls (calls_with calls (read_after calls l)) ls
