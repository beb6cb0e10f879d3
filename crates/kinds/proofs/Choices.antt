-- A budget's state is the worst over every choice of links. Assumes nothing.
use Rattle.std.proofs.Common.{◌≡◌, ℕ, zero, suc, ◌+◌, ◌*◌, ◌<◌, ◌≤◌, min, max, Bool, true, false, cond, List, [], ◌∷◌, ◌++◌, length, get_or, take, sym, refl, ap, ◌∙◌, subst, ⊎_elim, arith}
use lib.ListN.{get_or-replicate}
use Rattle.std.proofs.lemmas.List.{take_more, take_all, length-take-le, length_push}
use Rattle.std.proofs.lemmas.List.Sums.{sum_by_push}
use Rattle.std.proofs.lemmas.Bool.{cases_lt, leb-true, le-leb}
use Rattle.kinds.specs.Budget.{budget_model, worst_at, raised}
use Rattle.kinds.specs.Choices.{chosen, Choice, sum_under, Largest, WorstCase}
use Rattle.kinds.specs.Kinds.{along}
use Rattle.kinds.specs.Stopped.{top, stopped}
use Rattle.kinds.specs.declared.budget.Budget.{Budget}
use Rattle.kinds.specs.declared.budget.BudgetUse.{BudgetUse}
use Rattle.kinds.proofs.Along.{along_push, from_end}
use Rattle.kinds.specs.BudgetLaws.{extended_at}

sum_push : (us : List BudgetUse) (u : BudgetUse) (flags : List Bool) (flag : Bool) → length flags ≡ length us → sum_under (us ++ u ∷ []) (flags ++ flag ∷ []) ≡ sum_under us flags + (u.nominal + cond flag u.extra 0)
sum_push [] u [] flag long = omega arith
sum_push [] u (x ∷ flags) flag long = absurd (omega arith)
sum_push (v ∷ us) u [] flag long = absurd (omega arith)
sum_push (v ∷ us) u (x ∷ flags) flag long = let rest = sum_push us u flags flag (omega arith) in omega arith

chosen_push : (flags : List Bool) (flag : Bool) → chosen (flags ++ flag ∷ []) ≡ chosen flags + cond flag 1 0
chosen_push flags flag = sum_by_push (λ b. cond b 1 0) flags flag

-- the last flag apart
last_flag : (n : ℕ) (flags : List Bool) → length flags ≡ n + 1 → flags ≡ take n flags ++ get_or flags n false ∷ []
last_flag n flags long = sym (take_all (n + 1) flags (omega arith)) ∙ take_more flags n false (omega arith)

module _ (us : List BudgetUse) (u : BudgetUse) where
  push_choice : (h g : ℕ) (flags : List Bool) (flag : Bool) → Choice h us flags → h + cond flag 1 0 ≤ g → Choice g (us ++ u ∷ []) (flags ++ flag ∷ [])
  push_choice h g flags flag c le =
      (length_push flags flag ∙ ap (λ n. n + 1) c.0 ∙ sym (length_push us u), omega (arith, chosen_push flags flag))

  -- what holds of every choice of one link more, by its last flag
  by_last : (g : ℕ) (Q : List Bool → Type 0) → ((flags : List Bool) (flag : Bool) → length flags ≡ length us → chosen flags + cond flag 1 0 ≤ g → Q (flags ++ flag ∷ [])) → (flags : List Bool) → Choice g (us ++ u ∷ []) flags → Q flags
  by_last g Q h flags c =
      let n = length us in
      let long : length flags ≡ n + 1 = c.0 ∙ length_push us u in
      let split = last_flag n flags long in
      let few : chosen (take n flags ++ get_or flags n false ∷ []) ≤ g = subst (λ l. chosen l ≤ g) split c.1 in
      subst Q (sym split) (h (take n flags) (get_or flags n false) (length-take-le n flags (omega arith)) (omega (arith, chosen_push (take n flags) (get_or flags n false))))

  largest_none : (x : ℕ) → Largest us 0 x → Largest (us ++ u ∷ []) 0 (x + u.nominal)
  largest_none x l = record {
    bounds = by_last 0 (λ flags. sum_under (us ++ u ∷ []) flags ≤ x + u.nominal) (λ flags flag. step flag flags);
    attained =
        let (flags, c, e) = l.attained in
        (flags ++ false ∷ [], push_choice 0 0 flags false c (omega arith), omega (arith, sum_push us u flags false c.0));
  }
    where
      step : (flag : Bool) (flags : List Bool) → length flags ≡ length us → chosen flags + cond flag 1 0 ≤ 0 → sum_under (us ++ u ∷ []) (flags ++ flag ∷ []) ≤ x + u.nominal
      step true flags long few = absurd (omega arith)
      step false flags long few = omega (arith, sum_push us u flags false long, l.bounds flags (long, omega arith))

  largest_some : (g x y : ℕ) → Largest us g x → Largest us (suc g) y → Largest (us ++ u ∷ []) (suc g) (max (x + (u.nominal + u.extra)) (y + u.nominal))
  largest_some g x y l m = record {
    bounds = by_last (suc g) (λ flags. sum_under (us ++ u ∷ []) flags ≤ max (x + (u.nominal + u.extra)) (y + u.nominal)) (λ flags flag. step flag flags);
    attained = ⊎_elim spared taken (cases_lt (x + (u.nominal + u.extra)) (y + u.nominal));
  }
    where
      step : (flag : Bool) (flags : List Bool) → length flags ≡ length us → chosen flags + cond flag 1 0 ≤ suc g → sum_under (us ++ u ∷ []) (flags ++ flag ∷ []) ≤ max (x + (u.nominal + u.extra)) (y + u.nominal)
      step true flags long few = omega (arith, sum_push us u flags true long, l.bounds flags (long, omega arith))
      step false flags long few = omega (arith, sum_push us u flags false long, m.bounds flags (long, omega arith))

      Attained : Type 0
      Attained = (flags : List Bool) × Choice (suc g) (us ++ u ∷ []) flags × (sum_under (us ++ u ∷ []) flags ≡ max (x + (u.nominal + u.extra)) (y + u.nominal))

      spared : x + (u.nominal + u.extra) < y + u.nominal → Attained
      spared lt =
          let (flags, c, e) = m.attained in
          (flags ++ false ∷ [], push_choice (suc g) (suc g) flags false c (omega arith), omega (arith, sum_push us u flags false c.0))

      taken : y + u.nominal ≤ x + (u.nominal + u.extra) → Attained
      taken le =
          let (flags, c, e) = l.attained in
          (flags ++ true ∷ [], push_choice g (suc g) flags true c (omega arith), omega (arith, sum_push us u flags true c.0))

-- a sum that was cut at the top, and goes on
cut_again : (w x n : ℕ) → w ≡ min x top → stopped w n ≡ min (x + n) top
cut_again w x n e = omega arith

module _ (k : Budget) where
  -- w(g) is the largest sum over every choice of at most g links, cut at the top
  Told : List BudgetUse → Type 0
  Told us = (g : ℕ) → g ≤ k.allowance → (x : ℕ) × Largest us g x × (worst_at (along budget_model k us) g ≡ min x top)

  told_none : Told []
  unfolding Told
  told_none g le =
      (0, record { bounds = λ flags c. omega arith; attained = ([], (refl, omega arith), refl) }, get_or-replicate 9 g 0 0 (omega (arith, k.few)))

  told_push : (us : List BudgetUse) (u : BudgetUse) → Told us → Told (us ++ u ∷ [])
  unfolding Told
  told_push us u h g le =
      let (x, l, e) = raised-told g (λ i li. h i (omega arith)) in
      (x, l, ap (λ s. worst_at s g) (along_push budget_model k us u) ∙ extended_at k (along budget_model k us) u g le ∙ e)
    where
      raised-told : (g : ℕ) → ((i : ℕ) → i ≤ g → (x : ℕ) × Largest us i x × (worst_at (along budget_model k us) i ≡ min x top)) → (x : ℕ) × Largest (us ++ u ∷ []) g x × (raised (along budget_model k us) u g ≡ min x top)
      raised-told zero h =
          let (x, l, e) = h 0 (omega arith) in
          (x + u.nominal, largest_none us u x l, cut_again _ x u.nominal e)
      raised-told (suc g) h =
          let (x, l, e) = h g (omega arith) in
          let (y, m, f) = h (suc g) (omega arith) in
          let over = cut_again _ x (u.nominal + u.extra) e in
          let spared = cut_again _ y u.nominal f in
          (max (x + (u.nominal + u.extra)) (y + u.nominal), largest_some us u g x y l m, omega arith)

  told : (us : List BudgetUse) → Told us
  told = from_end Told told_push told_none

-- what sixteen links of 16-bit numbers can reach at the most
sum_bound : (us : List BudgetUse) (flags : List Bool) → sum_under us flags ≤ length us * 131070
sum_bound [] flags = omega arith
sum_bound (u ∷ us) [] = omega (arith, sum_bound us [], u.narrow)
sum_bound (u ∷ us) (flag ∷ flags) = omega (arith, sum_bound us flags, u.narrow, extra_bound flag)
  where
    extra_bound : (flag : Bool) → cond flag u.extra 0 ≤ 65535
    extra_bound true = omega (arith, u.narrow)
    extra_bound false = omega arith

largest_bound : (us : List BudgetUse) (g x : ℕ) → length us ≤ 16 → Largest us g x → x < top
largest_bound us g x few l = let (flags, c, e) = l.attained in omega (arith, sum_bound us flags)

pub worst_case : (k : Budget) (us : List BudgetUse) → WorstCase k us (along budget_model k us)
worst_case k us = record {
  state = refl;
  worst = told';
  uncut = λ few g le.
      let (x, l, e) = told' g le in
      subst (Largest us g) (sym (e ∙ below x (largest_bound us g x few l))) l;
  within =
      let (x, l, e) = told' k.allowance (omega arith) in
      let (best, c, a) = l.attained in
      (λ t flags d. omega (arith, leb-true _ _ t, l.bounds flags d), λ each. le-leb _ _ (omega (arith, each best c)));
  within_uncut = λ few.
      let (x, l, e) = told' k.allowance (omega arith) in
      let (best, c, a) = l.attained in
      let small = largest_bound us _ x few l in
      (λ t flags d. omega (arith, leb-true _ _ t, l.bounds flags d), λ each. le-leb _ _ (omega (arith, each best c)));
}
  where
    told' : (g : ℕ) → g ≤ k.allowance → (x : ℕ) × Largest us g x × (worst_at (along budget_model k us) g ≡ min x top)
    told' = unfold Told in told k us

    below : (x : ℕ) → x < top → min x top ≡ x
    below x lt = omega arith
