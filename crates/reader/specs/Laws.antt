-- What parting keeps: the pieces rejoin to the bytes, and no other pieces do.
use Rattle.std.specs.Prelude.{◌≡◌, ℕ, ◌<◌, List, [], ◌∷◌, ◌++◌, length, ◌≢◌}
use Rattle.std.specs.List.{AllByRecursion}
use Rattle.reader.specs.Split.{lines, fields}

-- s is not among the bytes
abbrev pub Free : ℕ → List ℕ → Type 0
Free s bs = AllByRecursion (λ b. b ≢ s) bs

-- each line with a line feed after it
abbrev pub with_feeds : List (List ℕ) → List ℕ
with_feeds [] = []
with_feeds (l ∷ ls) = l ++ 10 ∷ with_feeds ls

-- the fields with a comma between each two
abbrev pub with_commas : List (List ℕ) → List ℕ
with_commas [] = []
with_commas (f ∷ []) = f
with_commas (f ∷ g ∷ fs) = f ++ 44 ∷ with_commas (g ∷ fs)

-- the lines of a text rejoin to it, but for a line feed that the last one lacks
pub record LinesLaw : Type 0 where
  pub empty : with_feeds (lines []) ≡ []
  pub ended : (front : List ℕ) → with_feeds (lines (front ++ 10 ∷ [])) ≡ front ++ 10 ∷ []
  pub unended : (front : List ℕ) (b : ℕ) → (b ≢ 10) → with_feeds (lines (front ++ b ∷ [])) ≡ front ++ b ∷ 10 ∷ []
  pub free : (text : List ℕ) → AllByRecursion (Free 10) (lines text)
  pub unique : (ls : List (List ℕ)) → AllByRecursion (Free 10) ls → lines (with_feeds ls) ≡ ls

-- a line has a field, and its fields rejoin to it
pub record FieldsLaw : Type 0 where
  pub some : (line : List ℕ) → 0 < length (fields line)
  pub rejoined : (line : List ℕ) → with_commas (fields line) ≡ line
  pub free : (line : List ℕ) → AllByRecursion (Free 44) (fields line)
  pub unique : (fs : List (List ℕ)) → 0 < length fs → AllByRecursion (Free 44) fs → fields (with_commas fs) ≡ fs
