use Rattle.std.proofs.Common.{rules, refl, ◌≡◌, ◌≤◌, length, Some, Option, ℕ, List, [], ◌∷◌, ◌++◌, ap, ◌∙◌, arith}
use Rattle.std.proofs.lemmas.List.{length_push}
use Rattle.std.proofs.lemmas.Fn.{fold_over, fronts, slice_gives}
use Rattle.reader.specs.Reading.{decimal_of}
use Rattle.reader.proofs.Readings.{turn, turn_last}
use Rattle.reader.proofs.field.decimal.Goals as goal

-- what the fold has come to after the digits ys
abbrev Read : List ℕ → Option ℕ → Type 0
Read ys a = length ys ≤ 10 → a ≡ decimal_of ys

more : (ys : List ℕ) (a b : Option ℕ) (x : ℕ) → Read ys a → b ≡ turn a x → Read (ys ++ x ∷ []) b
more ys a b x before made short =
    let few : length ys ≤ 9 = omega (arith, short, length_push ys x) in
    made ∙ ap (λ v. turn v x) (before (omega (arith, few))) ∙ turn_last ys x few

pub returns : goal.returns
returns c =
    let read : Read c.iter.result.rest.now c.fold.result =
    fold_over fronts (λ y. y.now) _ Read _ (λ ys a x b f' before called. (more ys a b x.now before (search rules), refl)) c.iter.result c.iter.result.rest.now (Some 0) c.fold.result (slice_gives c.iter.result) (λ short. refl) c.fold.ensures.ran in
    rw c.iter.ensures.rest at read
