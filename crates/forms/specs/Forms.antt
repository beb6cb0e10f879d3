-- The form of a site's lines: what each order tells of a link and of a booking. Assumes nothing.
use Rattle.std.specs.Prelude.{ℕ, ◌+◌, Bool, List, [], ◌∷◌, Ok, Err, Result}
use Rattle.kinds.specs.declared.Budget.{Budget}
use Rattle.kinds.specs.declared.BudgetUse.{BudgetUse}
use Rattle.kinds.specs.declared.Clock.{Clock}
use Rattle.kinds.specs.declared.ClockUse.{ClockUse}
use Rattle.kinds.specs.declared.DuctUse.{DuctUse}
use Rattle.kinds.specs.declared.Ducts.{Ducts}
use Rattle.kinds.specs.declared.Pair.{Pair}
use Rattle.kinds.specs.declared.PairUse.{PairUse}
use Rattle.net.specs.declared.Call.{Call}
use Rattle.net.specs.declared.Call.TheVariants.{Add, Withdraw, Open, Book, Release, Show, Load, Close}
use Rattle.net.specs.declared.Request.{Request}
use Rattle.reader.specs.Numbers.{numbers_of, then}
use Rattle.reader.specs.Split.{first_of, after_first}
use Rattle.reader.specs.declared.NumbersFault.{NumbersFault}
use Rattle.reader.specs.declared.NumbersFault.TheVariants.{Missing, Surplus, Bad}
use Rattle.search.specs.declared.Link.{Link}
use Rattle.forms.specs.Faults.{Blame}
use Rattle.forms.specs.Orders.{order_of, checked}
use Rattle.forms.specs.Values.{top16, top32, at, plain_use, gated_use, plain_kind, gated_kind, linked, request_of}
use Rattle.forms.specs.declared.order.LayOrder.TheVariants as lay
use Rattle.forms.specs.declared.order.Order.{Order}
use Rattle.forms.specs.declared.order.Order.TheVariants as order
use Rattle.forms.specs.declared.order.ServeOrder.TheVariants as serve

-- what a link's and a booking's line have after the numbers that they have on every site, and what the numbers tell
pub record Form (K U : Type 0) : Type 0 where
  pub link_tops : List ℕ
  pub use_of : List ℕ → U
  pub book_tops : List ℕ
  pub kind_of : List ℕ → Result K Blame

abbrev pub plain_form : Form (Pair Budget Budget) (PairUse BudgetUse BudgetUse)
plain_form = record {
  link_tops = top16 ∷ top16 ∷ top16 ∷ top16 ∷ [];
  use_of = plain_use;
  book_tops = top16 ∷ top16 ∷ top32 ∷ [];
  kind_of = plain_kind;
}

abbrev pub gated_form : Form (Pair Budget (Pair Clock Ducts)) (PairUse BudgetUse (PairUse ClockUse DuctUse))
gated_form = record {
  link_tops = top16 ∷ top16 ∷ top16 ∷ top16 ∷ top16 ∷ top16 ∷ [];
  use_of = gated_use;
  book_tops = top16 ∷ top16 ∷ [];
  kind_of = gated_kind;
}

-- the numbers after the order, or what is wrong with them: first their count, then the first bad field
abbrev pub blamed : {A : Type 0} → Result A NumbersFault → Result A Blame
blamed (Ok ns) = Ok ns
blamed (Err (Missing i)) = Err (23, 0)
blamed (Err Surplus) = Err (23, 0)
blamed (Err (Bad i)) = Err (24, i + 2)

abbrev pub numbers : (tops : List ℕ) → List (List ℕ) → Result (List ℕ) Blame
numbers tops fs = blamed (numbers_of tops fs)

-- one number, of 16 bits
abbrev pub one_number : List (List ℕ) → Result ℕ Blame
one_number fs = then (numbers (top16 ∷ []) fs) (λ ns. Ok (at ns 0))

abbrev pub no_number : List (List ℕ) → Result (Unit {0}) Blame
no_number fs = then (numbers [] fs) (λ _. Ok tt)

module _ {K U : Type 0} (form : Form K U) where
  abbrev pub link_of : List ℕ → Link U
  link_of ns = linked ns (form.use_of ns)

  abbrev pub link_widths : List ℕ
  link_widths = top16 ∷ top16 ∷ top32 ∷ form.link_tops

  abbrev pub link_line : List (List ℕ) → Result (Link U) Blame
  link_line fs = then (numbers link_widths fs) (λ ns. Ok (link_of ns))

  -- a booking, with the kind's values; its budgets are made before the booking's first question
  abbrev pub booking_of : List ℕ → Result (Request × K) Blame
  booking_of ns = then (form.kind_of ns) (λ k. Ok (request_of ns, k))

  abbrev pub booking_widths : List ℕ
  booking_widths = top16 ∷ top16 ∷ top16 ∷ top32 ∷ top16 ∷ form.book_tops

  abbrev pub booking_line : List (List ℕ) → Result (Request × K) Blame
  booking_line fs = then (numbers booking_widths fs) booking_of

  -- the call that an order makes, from the fields after it
  abbrev pub call_of : Order → List (List ℕ) → Result (Call K U) Blame
  call_of order.Net fs = Err (22, 0)
  call_of (order.Lay lay.Link) fs = then (link_line fs) (λ l. Ok (Add l))
  call_of (order.Lay lay.Withdraw) fs = then (one_number fs) (λ i. Ok (Withdraw i))
  call_of (order.Lay lay.Open) fs = then (no_number fs) (λ _. Ok Open)
  call_of (order.Serve serve.Book) fs = then (booking_line fs) (λ b. Ok (Book b.0 b.1 512))
  call_of (order.Serve serve.Release) fs = then (one_number fs) (λ n. Ok (Release n))
  call_of (order.Serve serve.Show) fs = then (one_number fs) (λ n. Ok (Show n))
  call_of (order.Serve serve.Load) fs = then (one_number fs) (λ i. Ok (Load i))
  call_of (order.Serve serve.Close) fs = then (no_number fs) (λ _. Ok Close)

  -- what a line is read as on a net that is in service, or being laid
  abbrev pub line_call : Bool → List (List ℕ) → Result (Call K U) Blame
  line_call serving fs = then (order_of (first_of fs)) (λ o. then (checked serving o) (λ ok. call_of o (after_first fs)))
