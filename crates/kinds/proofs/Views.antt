-- A budget as a part of a kind: its state along a route, and its worst case. Assumes nothing.
use Rattle.std.proofs.Common.{◌≡◌, ◌≤◌, Bool, true, List, [], ◌∷◌, map, length, fold, sym, refl, ap, ◌∙◌, arith}
use Rattle.std.proofs.lemmas.List.{length-map}
use Rattle.kinds.specs.Budget.{budget_model}
use Rattle.kinds.specs.Choices.{Choice, sum_under}
use Rattle.kinds.specs.Kinds.{Model, along}
use Rattle.kinds.specs.Views.{BudgetPart}
use Rattle.kinds.proofs.Choices.{worst_case}

module _ {K S U : Type 0} {m : Model K S U} (v : BudgetPart m) (k : K) where
  view_from : (s : S) (us : List U) → v.state (fold (m.extended k) s us) ≡ fold (budget_model.extended (v.budget k)) (v.state s) (map v.use_of us)
  view_from s [] = refl
  view_from s (u ∷ us) =
      view_from (m.extended k s u) us ∙ ap (λ b. fold (budget_model.extended (v.budget k)) b (map v.use_of us)) (v.extends k s u)

  pub view_along : (us : List U) → v.state (along m k us) ≡ along budget_model (v.budget k) (map v.use_of us)
  view_along us =
      view_from (m.start k) us ∙ ap (λ b. fold (budget_model.extended (v.budget k)) b (map v.use_of us)) (v.starts k)

  pub view_within : (us : List U) → length us ≤ 16 → m.within k (along m k us) ≡ true → (flags : List Bool) → Choice (v.budget k).allowance (map v.use_of us) flags → sum_under (map v.use_of us) flags ≤ (v.budget k).limit
  view_within us few fits =
      let part : budget_model.within (v.budget k) (along budget_model (v.budget k) (map v.use_of us)) ≡ true = sym (ap (budget_model.within (v.budget k)) (view_along us)) ∙ v.keeps_within k (along m k us) fits in
      ((worst_case (v.budget k) (map v.use_of us)).within_uncut (omega (arith, length-map us v.use_of))).0 part
