-- Worked sheets: what each says, or what is wrong with it. Assumes nothing.
use Rattle.std.specs.Prelude.{◌≡◌, ℕ, List, [], ◌∷◌, replicate, Ok, codes, Result}
use Rattle.reader.specs.Laws.{with_feeds}
use Rattle.sheet.specs.Line.{fault}
use Rattle.sheet.specs.Sheet.{Sheet, budget, gated, sheet_of}
use Rattle.sheet.specs.declared.fault.Cause.TheVariants.{EmptySheet, UnknownSheet, MissingField, SurplusField, NotANumber, AllowanceAboveEight, TooManyLinks, NotALink, NoLinks}
use Rattle.sheet.specs.declared.fault.Fault.{Fault}

-- the lines of a sheet, and what they are read as
pub data Row : Type 0 where
  row : List (List ℕ) → Result Sheet Fault → Row

abbrev pub Holds : Row → Type 0
Holds (row ls answer) = sheet_of (with_feeds ls) ≡ answer

abbrev pub rows : List Row
rows =
    row (codes "budget,1,11" ∷ codes "link,3,5" ∷ codes "link,3,4" ∷ []) (Ok (record { heading = budget 1 11; links = (3 ∷ 5 ∷ []) ∷ (3 ∷ 4 ∷ []) ∷ [] }))
    ∷ row (codes "gated,5" ∷ codes "link,4,12,11,0" ∷ []) (Ok (record { heading = gated 5; links = (4 ∷ 12 ∷ 11 ∷ 0 ∷ []) ∷ [] }))
    ∷ row [] (fault 1 1 EmptySheet)
    ∷ row (codes "link,1,1" ∷ []) (fault 1 1 UnknownSheet)
    ∷ row (codes "budget,x" ∷ []) (fault 1 3 MissingField)
    ∷ row (codes "gated,x,1" ∷ []) (fault 1 3 SurplusField)
    ∷ row (codes "budget,one,x" ∷ []) (fault 1 2 (NotANumber 65535))
    ∷ row (codes "budget,9,4294967296" ∷ []) (fault 1 3 (NotANumber 4294967295))
    ∷ row (codes "budget,9,9" ∷ codes "wrong" ∷ []) (fault 1 2 AllowanceAboveEight)
    ∷ row (codes "budget,1,9" ∷ replicate 16 (codes "link,1,1")) (Ok (record { heading = budget 1 9; links = replicate 16 (1 ∷ 1 ∷ []) }))
    ∷ row (codes "budget,1,9" ∷ replicate 17 (codes "link,1,1")) (fault 18 1 TooManyLinks)
    ∷ row (codes "gated,1" ∷ codes "links,1" ∷ []) (fault 2 1 NotALink)
    ∷ row (codes "budget,1,9" ∷ codes "link,x" ∷ []) (fault 2 3 MissingField)
    ∷ row (codes "gated,1" ∷ codes "link,1,1,65536,1" ∷ []) (fault 2 4 (NotANumber 65535))
    ∷ row (codes "budget,1,9" ∷ []) (fault 2 1 NoLinks)
    ∷ []
