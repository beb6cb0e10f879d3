-- The labels held in a lent table, and what a step leaves there. Assumes nothing.
use Rattle.std.specs.Prelude.{◌≡◌, ℕ, min, cond, List, length, take, Ok, Err, Result, nat_le}
use Rattle.slice_vec.specs.Tables.{stored}
use Rattle.search.specs.declared.answer.SearchFault.{SearchFault}
use Rattle.search.specs.declared.answer.SearchFault.TheVariants.{Full}
use Rattle.search.specs.declared.label.Label.{Label}
use Rattle.search.specs.declared.label.Labels.{Labels}

abbrev pub held : {S : Type 0} → Labels S → List (Label S)
held l = take l.count l.places.now

-- whether each of ls finds a place in the table
abbrev pub placed : {X : Type 0} → List X → List X → Result (Unit {0}) SearchFault
placed ls table = cond (nat_le (length ls) (length table)) (Ok tt) (Err Full)

-- how many labels were made, if each of them found a place
abbrev pub counted : {X : Type 0} → List X → List X → Result ℕ SearchFault
counted ls table = cond (nat_le (length ls) (length table)) (Ok (length ls)) (Err Full)

-- what a step answers and leaves where ls are the labels after it: in the table lie as many of them as it has places
pub record Stores {S : Type 0} (ls : List (Label S)) (old : Labels S) (answer : Result (Unit {0}) SearchFault) (new : Labels S) : Type 0 where
  pub lent : new.places.ghost_name ≡ old.places.ghost_name
  pub answer_is : answer ≡ placed ls old.places.now
  pub count_is : new.count ≡ min (length ls) (length old.places.now)
  pub places_are : new.places.now ≡ stored ls old.places.now
