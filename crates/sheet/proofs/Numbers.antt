-- The numbers of a line are those that the reader reads, and the faults are its faults. Assumes nothing.
use Rattle.std.proofs.Common.{◌≡◌, ℕ, ◌+◌, Bool, true, false, ltb, cond, List, [], ◌∷◌, ◌++◌, length, get_or, Some, None, Ok, Err, Option, Result, sym, refl, ap, ◌∙◌, append_assoc, arith}
use Rattle.std.proofs.Math.Seq.{get_or-append_seam}
use Rattle.std.proofs.lemmas.List.{length_push}
use Rattle.reader.specs.Numbers as read
use Rattle.reader.specs.Reading.{reading}
use Rattle.reader.specs.declared.numbers.NumbersFault.{NumbersFault}
use Rattle.reader.specs.declared.numbers.NumbersFault.TheVariants.{Missing, Surplus, Bad}
use Rattle.sheet.specs.declared.fault.Cause.TheVariants.{MissingField, SurplusField, NotANumber}
use Rattle.sheet.specs.declared.fault.Fault.{Fault}
use Rattle.sheet.specs.Line.{fault, placed, numbers_from, numbers_of}

-- the reader's answer, as a sheet gives it: the first number is the second field of the line
abbrev pub blamed : {A : Type 0} → (line : ℕ) (ranges : List ℕ) → Result A NumbersFault → Result A Fault
blamed line ranges (Ok ns) = Ok ns
blamed line ranges (Err (Missing i)) = fault line (i + 2) MissingField
blamed line ranges (Err Surplus) = fault line (length ranges + 2) SurplusField
blamed line ranges (Err (Bad i)) = fault line (i + 2) (NotANumber (get_or ranges i 0))

blamed_onto : (line : ℕ) (ranges : List ℕ) (n : ℕ) (r : Result (List ℕ) NumbersFault) → read.onto n (blamed line ranges r) ≡ blamed line ranges (read.onto n r)
blamed_onto line ranges n (Ok ns) = refl
blamed_onto line ranges n (Err (Missing i)) = refl
blamed_onto line ranges n (Err Surplus) = refl
blamed_onto line ranges n (Err (Bad i)) = refl

-- one field more in front of those that were read
blamed_more : (line k m : ℕ) (front ms : List ℕ) (o : Option ℕ) (r : Result (List ℕ) Fault) (q : Result (List ℕ) NumbersFault) → length front ≡ k → r ≡ blamed line (front ++ m ∷ ms) q → placed line (k + 2) m o r ≡ blamed line (front ++ m ∷ ms) (read.number_onto k o q)
blamed_more line k m front ms None r q long e =
    ap (λ n. fault line (k + 2) (NotANumber n)) (sym (ap (λ i. get_or (front ++ m ∷ ms) i 0) (sym long) ∙ get_or-append_seam front m ms 0))
blamed_more line k m front ms (Some n) r q long e = ap (read.onto n) e ∙ blamed_onto line (front ++ m ∷ ms) n q

blamed_from : (line k : ℕ) (front ms : List ℕ) (fs : List (List ℕ)) → length front ≡ k → numbers_from line (k + 2) ms fs ≡ blamed line (front ++ ms) (read.numbers_from k ms fs)
blamed_from line k front [] fs long = refl
blamed_from line k front (m ∷ ms) [] long = refl
blamed_from line k front (m ∷ ms) (f ∷ fs) long =
    let next : k + 2 + 1 ≡ k + 1 + 2 = omega arith in
    let rest = blamed_from line (k + 1) (front ++ m ∷ []) ms fs (length_push front m ∙ ap (λ i. i + 1) long) in
    blamed_more line k m front ms (read.ranged m (reading f)) _ _ long
    (ap (λ i. numbers_from line i ms fs) next ∙ rest ∙ ap (λ rs. blamed line rs (read.numbers_from (k + 1) ms fs)) (append_assoc front (m ∷ []) ms))

blamed_cond : (line : ℕ) (ranges : List ℕ) (b : Bool) (x y : Result (List ℕ) NumbersFault) → cond b (blamed line ranges x) (blamed line ranges y) ≡ blamed line ranges (cond b x y)
blamed_cond line ranges true x y = refl
blamed_cond line ranges false x y = refl

pub numbers_read : (line : ℕ) (ranges : List ℕ) (fs : List (List ℕ)) → numbers_of line ranges fs ≡ blamed line ranges (read.numbers_of ranges fs)
numbers_read line ranges fs =
    let few = ltb (length fs) (length ranges) in
    let many = ltb (length ranges) (length fs) in
    ap (λ r. cond few (fault line (length fs + 2) MissingField) (cond many (fault line (length ranges + 2) SurplusField) r)) (blamed_from line 0 [] ranges fs refl)
    ∙ ap (cond few (fault line (length fs + 2) MissingField)) (blamed_cond line ranges many (Err Surplus) (read.numbers_from 0 ranges fs))
    ∙ blamed_cond line ranges few (Err (Missing (length fs))) (cond many (Err Surplus) (read.numbers_from 0 ranges fs))
