-- The state of a pair along a route is the pair of its parts' states. Assumes nothing.
use Rattle.std.proofs.Common.{◌≡◌, List, [], ◌∷◌, map, fold, refl}
use Rattle.kinds.specs.Kinds.{Model, along}
use Rattle.kinds.specs.Pair.{pair_model, Parts}
use Rattle.kinds.specs.declared.pair.Pair.{Pair}
use Rattle.kinds.specs.declared.pair.PairState.{PairState}
use Rattle.kinds.specs.declared.pair.PairUse.{PairUse}

module _ {J K S T U V : Type 0} (m : Model J S U) (n : Model K T V) (k : Pair J K) where
  first_part : (s : PairState S T) (us : List (PairUse U V)) → (fold ((pair_model m n).extended k) s us).first ≡ fold (m.extended k.first) s.first (map (λ u. u.first) us)
  first_part s [] = refl
  first_part s (u ∷ us) = first_part ((pair_model m n).extended k s u) us

  second_part : (s : PairState S T) (us : List (PairUse U V)) → (fold ((pair_model m n).extended k) s us).second ≡ fold (n.extended k.second) s.second (map (λ u. u.second) us)
  second_part s [] = refl
  second_part s (u ∷ us) = second_part ((pair_model m n).extended k s u) us

  pub parts : (us : List (PairUse U V)) → Parts m n k us (along (pair_model m n) k us)
  parts us = record { state = refl; first = first_part _ us; second = second_part _ us }
