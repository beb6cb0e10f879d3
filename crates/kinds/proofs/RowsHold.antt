-- The worked examples hold. Assumes nothing.
use Rattle.std.proofs.Common.{◌≡◌, ℕ, List, [], ◌∷◌, map, refl, ◌∙◌}
use Rattle.std.specs.List.{AllByRecursion}
use Rattle.kinds.specs.Ducts.{ducts_model}
use Rattle.kinds.specs.Kinds.{along}
use Rattle.kinds.specs.Passes.{distinct}
use Rattle.kinds.specs.Rows.{Holds, rows}
use Rattle.kinds.specs.declared.ducts.DuctUse.{DuctUse}
use Rattle.kinds.proofs.Passes.{passes}

abbrev in_duct : ℕ → DuctUse
in_duct d = record { duct = d }

-- the figure of a set of ducts by the count of the distinct ones
figure_by : (ds : List ℕ) (n : ℕ) → distinct (map (λ u. u.duct) (map in_duct ds)) ≡ n → ducts_model.figure (record {}) (along ducts_model (record {}) (map in_duct ds)) ≡ n
figure_by ds n e = (passes (record {}) (map in_duct ds)).figure ∙ e

pub rows_hold : AllByRecursion Holds rows
rows_hold =
    (refl, (refl, (refl, (refl, (refl, (refl, (refl, (refl, (refl, (refl, ((figure_by (3 ∷ 63 ∷ 64 ∷ []) 2 refl, refl), ((figure_by (3 ∷ 63 ∷ 64 ∷ 3 ∷ []) 2 refl, refl), tt))))))))))))
