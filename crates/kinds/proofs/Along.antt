-- The state of a list of uses, one use more at its end. Assumes nothing.
use Rattle.std.proofs.Common.{◌≡◌, List, [], ◌∷◌, ◌++◌, sym, subst, append_assoc, append-nil}
use Rattle.std.proofs.lemmas.List.Sums.{fold_push}
use Rattle.kinds.specs.Kinds.{Model, along}

module _ {K S U : Type 0} (m : Model K S U) (k : K) where
  pub along_push : (us : List U) (u : U) → along m k (us ++ u ∷ []) ≡ m.extended k (along m k us) u
  along_push us u = fold_push (m.extended k) (m.start k) us u

-- an induction from the end of a list
module _ {U : Type 0} (P : List U → Type 0) (push : (us : List U) (u : U) → P us → P (us ++ u ∷ [])) where
  pushes : (front back : List U) → P front → P (front ++ back)
  pushes front [] h = subst P (sym (append-nil front)) h
  pushes front (u ∷ back) h = subst P (append_assoc front (u ∷ []) back) (pushes (front ++ u ∷ []) back (push front u h))

  pub from_end : P [] → (us : List U) → P us
  from_end none us = pushes [] us none
