-- What a reader has still to give, and what a step changes of it.
use Rattle.std.specs.Prelude.{◌≡◌, ℕ, ◌+◌, List, [], ◌∷◌, drop, Some, None, Option}
use Rattle.std.specs.Borrow.{Bor}
use Rattle.reader.specs.declared.Reader.{Reader}
use Rattle.reader.specs.declared.field.Field.{Field}
use Rattle.reader.specs.Split.{lines, fields, split_some}
use Rattle.reader.specs.Reading.{reading, meaning, bytes_of}

-- the lines after the current one
abbrev pub lines_left : Reader → List (List ℕ)
lines_left r = lines (drop r.place r.text.now)

-- the fields of the current line that are still to come
abbrev pub fields_left : Reader → List (List ℕ)
fields_left r = split_some 44 r.line

-- bytes that may be there, or else none
abbrev bytes_some : Option (Bor (List ℕ)) → List ℕ
bytes_some None = []
bytes_some (Some bs) = bs.now

-- the bytes of the current line that are still to come
abbrev pub line_left : Reader → List ℕ
line_left r = bytes_some r.line

-- the number of the current line, and 0 before the first
abbrev pub line_number : Reader → ℕ
line_number r = r.number

-- the lines after the current one, and its number, stay as they were
-- (said of two states of a reader, so that it stands in clauses and in no invariant)
abbrev pub SameLine : Reader → Reader → Type 0
SameLine r r' = (lines_left r' ≡ lines_left r) × (line_number r' ≡ line_number r)

-- the step from r to line n leaves r'
pub record ToLine (r : Reader) (n : ℕ) (r' : Reader) : Type 0 where
  pub was : lines_left r ≡ line_left r' ∷ lines_left r'
  pub opened : fields_left r' ≡ fields (line_left r')
  pub counted : n ≡ line_number r + 1
  pub kept : line_number r' ≡ n

-- the step from r over the field f leaves r'
pub record OverField (r : Reader) (f : Field) (r' : Reader) : Type 0 where
  pub was : fields_left r ≡ bytes_of f ∷ fields_left r'
  pub reads : meaning f ≡ reading (bytes_of f)
  pub line : SameLine r r'

-- with no line left nothing changes
abbrev pub NextLine : Reader → Option ℕ → Reader → Type 0
NextLine r None r' = (lines_left r ≡ []) × (r' ≡ r)
NextLine r (Some n) r' = ToLine r n r'

-- with no field left nothing changes
abbrev pub NextField : Reader → Option Field → Reader → Type 0
NextField r None r' = (fields_left r ≡ []) × (r' ≡ r)
NextField r (Some f) r' = OverField r f r'
