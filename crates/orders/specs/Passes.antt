-- What the lines of a site are read as, before any call is performed, and how their replies are written. Assumes nothing.
use Rattle.std.specs.Prelude.{ℕ, ◌+◌, Bool, true, false, List, [], ◌∷◌, ◌++◌, Some, None, Ok, Err, Option, Result}
use Rattle.net.specs.Questions.{Told}
use Rattle.net.specs.declared.Call.{Call}
use Rattle.net.specs.declared.Call.TheVariants.{Add, Withdraw, Open, Book, Release, Show, Load, Close}
use Rattle.reader.specs.Split.{fields}
use Rattle.forms.specs.Faults.{Blame, blame_of}
use Rattle.forms.specs.Forms.{Form, line_call}
use Rattle.orders.specs.Lines.{refused, reply_line}
use Rattle.orders.specs.Runs.{reply_of}
use Rattle.forms.specs.declared.LineFault.{LineFault}
use Rattle.orders.specs.declared.lines.Line.{Line}

-- a line's number, and its refusal, or else it makes the next call
abbrev pub Entry : Type 0
Entry = ℕ × Option Blame

abbrev pub blame_some : Option LineFault → Option Blame
blame_some None = None
blame_some (Some f) = Some (blame_of f)

abbrev pub entry_of : Line → Entry
entry_of l = (l.number, blame_some l.refusal)

abbrev pub refusal_in : {A : Type 0} → Result A Blame → Option Blame
refusal_in (Ok x) = None
refusal_in (Err b) = Some b

module _ {K U : Type 0} where
  -- in service after a call, or being laid
  abbrev pub serving_after : Call K U → Bool → Bool
  serving_after (Add l) serving = serving
  serving_after (Withdraw i) serving = serving
  serving_after Open serving = true
  serving_after (Book r k places) serving = serving
  serving_after (Release n) serving = serving
  serving_after (Show n) serving = serving
  serving_after (Load i) serving = serving
  serving_after Close serving = false

  abbrev pub serving_by : Result (Call K U) Blame → Bool → Bool
  serving_by (Ok c) serving = serving_after c serving
  serving_by (Err b) serving = serving

  -- the call of a line, in a list
  abbrev pub call_in : Result (Call K U) Blame → List (Call K U)
  call_in (Ok c) = c ∷ []
  call_in (Err b) = []

  -- what the lines are read as
  abbrev pub reads : Form K U → Bool → List (List ℕ) → List (Result (Call K U) Blame)
  reads form serving [] = []
  reads form serving (l ∷ ls) =
      line_call form serving (fields l) ∷ reads form (serving_by (line_call form serving (fields l)) serving) ls

  -- the calls among them
  abbrev pub calls_in : List (Result (Call K U) Blame) → List (Call K U)
  calls_in [] = []
  calls_in (r ∷ rs) = call_in r ++ calls_in rs

  -- their entries, from line n on
  abbrev pub entries : ℕ → List (Result (Call K U) Blame) → List Entry
  entries n [] = []
  entries n (r ∷ rs) = (n, refusal_in r) ∷ entries (n + 1) rs

-- the line of an entry, with its line feed, where the answers to the calls from here on are ts
abbrev pub entry_text : Entry → List Told → List ℕ
entry_text (n, Some b) ts = reply_line n (refused b.0 b.1) ++ 10 ∷ []
entry_text (n, None) [] = []
entry_text (n, None) (t ∷ ts) = reply_line n (reply_of t) ++ 10 ∷ []

-- the answers that are left after an entry
abbrev pub told_left : Entry → List Told → List Told
told_left (n, Some b) ts = ts
told_left (n, None) [] = []
told_left (n, None) (t ∷ ts) = ts

abbrev pub entry_texts : List Entry → List Told → List ℕ
entry_texts [] ts = []
entry_texts (e ∷ es) ts = entry_text e ts ++ entry_texts es (told_left e ts)
