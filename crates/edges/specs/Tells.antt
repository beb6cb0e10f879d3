-- What an answer that is shown tells of the rule's. Assumes nothing.
use Rattle.std.specs.Prelude.{◌≡◌, ℕ, List, [], ◌∷◌, Ok, Err, Result}
use Rattle.search.specs.Answers.{fault_number}
use Rattle.search.specs.declared.answer.SearchFault.{SearchFault}
use Rattle.edges.specs.declared.Route.{Route}

-- it has the rule's figure, hops and count of labels, or its number
abbrev pub Tells : Result Route SearchFault → ℕ × List ℕ → Type 0
Tells (Ok r) t = (label : ℕ) × (t ≡ (0, label ∷ r.figure ∷ r.hops ∷ r.labels ∷ []))
Tells (Err f) t = t ≡ (fault_number f, [])

-- the number that an answer is refused with, and 0 where it is not refused
abbrev pub refused_with : Result Route SearchFault → ℕ
refused_with (Ok r) = 0
refused_with (Err f) = fault_number f

-- the number that a case expects, and 0 where it expects a route
abbrev pub number_expected : Result Route (SearchFault × ℕ) → ℕ
number_expected (Ok r) = 0
number_expected (Err e) = e.1
