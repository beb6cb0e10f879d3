-- What the bytes of a field are read as.
use Rattle.std.specs.Prelude.{ℕ, ◌+◌, ◌-◌, ◌*◌, Bool, cond, ◌&&◌, List, [], ◌∷◌, length, Some, None, Option, nat_le}
use Rattle.std.specs.Char.{is_ascii_lowercase, is_ascii_digit}
use Rattle.std.specs.List.{list_all}
use Rattle.reader.specs.declared.field.Field.{Field}
use Rattle.reader.specs.declared.field.Field.TheVariants.{Word, Number, Bad}

-- the number that the digits bs write, after n
abbrev pub value_after : ℕ → List ℕ → ℕ
value_after n [] = n
value_after n (b ∷ bs) = value_after (n * 10 + (b - 48)) bs

-- the number that the digits bs write
abbrev pub value_of : List ℕ → ℕ
value_of bs = value_after 0 bs

-- the value of bytes that are digits
abbrev pub decimal_of : List ℕ → Option ℕ
decimal_of bs = cond (list_all is_ascii_digit bs) (Some (value_of bs)) None

-- one or more lowercase letters
abbrev pub is_word : List ℕ → Bool
is_word bs = nat_le 1 (length bs) && list_all is_ascii_lowercase bs

-- one to ten digits, of a value that fits 32 bits
abbrev pub is_number : List ℕ → Bool
is_number bs = nat_le 1 (length bs) && nat_le (length bs) 10 && list_all is_ascii_digit bs && nat_le (value_of bs) 4294967295

-- a field's bytes, as what they are, with the value of a number
pub data Reading : Type 0 where
  word : List ℕ → Reading
  number : List ℕ → ℕ → Reading
  bad : List ℕ → Reading

-- what the bytes of a field are
abbrev pub reading : List ℕ → Reading
reading bs = cond (is_word bs) (word bs) (cond (is_number bs) (number bs (value_of bs)) (bad bs))

-- what a field says that its bytes are
abbrev pub meaning : Field → Reading
meaning (Word bs) = word bs.now
meaning (Number bs n) = number bs.now n
meaning (Bad bs) = bad bs.now

-- the bytes that a field is
abbrev pub bytes_of : Field → List ℕ
bytes_of (Word bs) = bs.now
bytes_of (Number bs n) = bs.now
bytes_of (Bad bs) = bs.now

-- the value of bytes that are a number
abbrev pub number_of : List ℕ → Option ℕ
number_of bs = cond (is_number bs) (Some (value_of bs)) None
