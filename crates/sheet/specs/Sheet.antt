-- What a sheet says, or the first thing that is wrong with it. Assumes nothing.
use Rattle.std.specs.Prelude.{ℕ, ◌+◌, cond, List, [], ◌∷◌, replicate, Some, None, Ok, Option, Result, ◌==◌, nat_le, slice_index}
use Rattle.reader.specs.Numbers.{onto, then}
use Rattle.reader.specs.Split.{lines, fields, first_of, after_first}
use Rattle.sheet.specs.Words.{word_of}
use Rattle.sheet.specs.Line.{fault, numbers_of}
use Rattle.sheet.specs.declared.fault.Cause.TheVariants.{EmptySheet, UnknownSheet, AllowanceAboveEight, TooManyLinks, NotALink, NoLinks}
use Rattle.sheet.specs.declared.fault.Fault.{Fault}
use Rattle.sheet.specs.declared.word.Word.{Word}
use Rattle.sheet.specs.declared.word.Word.TheVariants.{Budget, Gated, Link}

-- the largest number of 16 bits
abbrev pub narrow : ℕ
narrow = 65535

-- the largest number of 32 bits
abbrev pub wide : ℕ
wide = 4294967295

-- the numbers after a line's first word, which is to be `link`
abbrev pub link_by : Option Word → (width line : ℕ) → List (List ℕ) → Result (List ℕ) Fault
link_by (Some Budget) width line fs = fault line 1 NotALink
link_by (Some Gated) width line fs = fault line 1 NotALink
link_by (Some Link) width line fs = numbers_of line (replicate width narrow) fs
link_by None width line fs = fault line 1 NotALink

-- a link's line: the word `link`, and as many numbers as the width
abbrev pub link_line : (width line : ℕ) → List (List ℕ) → Result (List ℕ) Fault
link_line width line fs = link_by (word_of (first_of fs)) width line (after_first fs)

-- the links of the lines after k others: link k, counted from 0, stands in line k + 2
abbrev pub link_lines : (width k : ℕ) → List (List ℕ) → Result (List (List ℕ)) Fault
link_lines width k [] = cond (k == 0) (fault 2 1 NoLinks) (Ok [])
link_lines width k (l ∷ ls) =
    cond (nat_le 16 k) (fault (k + 2) 1 TooManyLinks)
    (then (link_line width (k + 2) (fields l)) (λ numbers. onto numbers (link_lines width (k + 1) ls)))

-- what a first line asks
pub data Heading : Type 0 where
  budget : (allowance limit : ℕ) → Heading
  gated : (start : ℕ) → Heading

-- an allowance and a limit
abbrev pub budget_heading : List ℕ → Result Heading Fault
budget_heading ns = cond (nat_le (slice_index ns 0) 8) (Ok (budget (slice_index ns 0) (slice_index ns 1))) (fault 1 2 AllowanceAboveEight)

-- a start time
abbrev pub gated_heading : List ℕ → Result Heading Fault
gated_heading ns = Ok (gated (slice_index ns 0))

-- the numbers after a first line's word, which is to be `budget` or `gated`
abbrev pub heading_by : Option Word → List (List ℕ) → Result Heading Fault
heading_by (Some Budget) fs = then (numbers_of 1 (narrow ∷ wide ∷ []) fs) budget_heading
heading_by (Some Gated) fs = then (numbers_of 1 (narrow ∷ []) fs) gated_heading
heading_by (Some Link) fs = fault 1 1 UnknownSheet
heading_by None fs = fault 1 1 UnknownSheet

-- the first line: `budget` with an allowance and a limit, or `gated` with a start
abbrev pub heading_of : List (List ℕ) → Result Heading Fault
heading_of fs = heading_by (word_of (first_of fs)) (after_first fs)

-- a sheet's heading, and the numbers of each link
pub record Sheet : Type 0 where
  pub heading : Heading
  pub links : List (List ℕ)

-- how many numbers a link has: nominal and extra, or travel, opens, closes and duct
abbrev pub width_of : Heading → ℕ
width_of (budget allowance limit) = 2
width_of (gated start) = 4

abbrev pub sheet_lines : List (List ℕ) → Result Sheet Fault
sheet_lines [] = fault 1 1 EmptySheet
sheet_lines (l ∷ ls) =
    then (heading_of (fields l)) (λ heading. then (link_lines (width_of heading) 0 ls) (λ links. Ok (record { heading = heading; links = links })))

abbrev pub sheet_of : List ℕ → Result Sheet Fault
sheet_of text = sheet_lines (lines text)
