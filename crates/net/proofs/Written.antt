-- A list written into a table from its start, item by item. Assumes nothing.
use Rattle.std.proofs.Common.{◌≡◌, ℕ, ◌+◌, ◌-◌, ◌<◌, ◌≤◌, List, ◌++◌, length, get_or, drop, set, sym, refl, ap, ◌∙◌, ⊎_elim, arith, length-append, length-drop}
use Rattle.std.proofs.lemmas.List.{same_lists, get_or_append_left, get_or-append_right, get_or-drop, get_or-set_same, get_or-set_other, length-set}
use Rattle.std.proofs.lemmas.Bool.{cases_lt, cases_eq}
use Rattle.slice_vec.specs.Tables.{stored}
use Rattle.slice_vec.proofs.Tables.{stored_fits}

-- the first i items of xs are written, the other places as they were
pub record Written {X : Type 0} (xs : List X) (i : ℕ) (old new : List X) : Type 0 where
  pub long : length new ≡ length old
  pub below : (j : ℕ) (d : X) → j < i → get_or new j d ≡ get_or xs j d
  pub above : (j : ℕ) (d : X) → i ≤ j → get_or new j d ≡ get_or old j d

module _ {X : Type 0} (xs : List X) where
  pub written_none : (old : List X) → Written xs 0 old old
  written_none old = record { long = refl; below = λ j d lt. absurd (omega arith); above = λ j d le. refl }

  pub written_more : (i : ℕ) (old new : List X) (x : X) → i < length old → ((d : X) → x ≡ get_or xs i d) → Written xs i old new → Written xs (i + 1) old (set new i x)
  written_more i old new x inside is h = record {
    long = length-set new i x ∙ h.long;
    below = λ j d lj.
        ⊎_elim
        (λ (here : j ≡ i). ap (λ n. get_or (set new i x) n d) here ∙ get_or-set_same new i x d (omega (arith, h.long)) ∙ is d ∙ ap (λ n. get_or xs n d) (sym here))
        (λ other. get_or-set_other new i j x d other ∙ h.below j d (omega arith))
        (cases_eq j i);
    above = λ j d le. get_or-set_other new i j x d (λ e. omega arith) ∙ h.above j d (omega arith);
  }

  pub written_all : (i : ℕ) (old new : List X) → i ≡ length xs → length xs ≤ length old → Written xs i old new → new ≡ stored xs old
  written_all i old new done fits h =
      let both = length-append xs (drop (length xs) old) in
      let rest = length-drop (length xs) old in
      same_lists new (xs ++ drop (length xs) old) (h.long ∙ omega arith)
      (λ j d inside.
      ⊎_elim
      (λ before. h.below j d (omega arith) ∙ sym (get_or_append_left xs _ d j before))
      (λ after. h.above j d (omega arith) ∙ sym (get_or-append_right xs (drop (length xs) old) (length xs) j d refl after ∙ get_or-drop (length xs) old (j - length xs) d ∙ ap (λ n. get_or old n d) (omega arith)))
      (cases_lt j (length xs)))
      ∙ sym (stored_fits old xs fits)
