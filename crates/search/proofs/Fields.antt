-- The way back written link by link. Assumes nothing.
use Rattle.std.proofs.Common.{◌≡◌, ℕ, zero, suc, ◌-◌, ◌<◌, ◌≤◌, List, [], ◌∷◌, ◌++◌, map, length, get_or, drop, set, sym, refl, ap, ◌∙◌, ap₂, append_assoc, add-one, arith}
use Rattle.std.proofs.lemmas.List.{drop-set, length_push}
use Rattle.search.specs.Routes.{way, route_of}
use Rattle.search.specs.declared.label.Label.{Label}

module _ {S : Type 0} (ls : List (Label S)) where
  pub length-way : (h n : ℕ) → length (way h ls n) ≡ h
  length-way zero n = refl
  length-way (suc h) n =
      length_push (way h ls (get_or (map (λ l. l.from) ls) n 0)) (get_or (map (λ l. l.link) ls) n 0) ∙ omega (arith, length-way h (get_or (map (λ l. l.from) ls) n 0))

  -- one link more, written at the end of those that are left
  pub way_step : (left at : ℕ) (places : List ℕ) (link from : ℕ) → 0 < left → left ≤ length places → link ≡ get_or (map (λ l. l.link) ls) at 0 → from ≡ get_or (map (λ l. l.from) ls) at 0 → way (left - 1) ls from ++ drop (left - 1) (set places (left - 1) link) ≡ way left ls at ++ drop left places
  way_step zero at places link from some fits l f = absurd (omega arith)
  way_step (suc left) at places link from some fits l f =
      let less : suc left - 1 ≡ left = omega arith in
      ap (λ i. way i ls from ++ drop i (set places i link)) less
      ∙ ap (λ x. way left ls from ++ x) (drop-set places left link (omega arith) ∙ ap (λ i. link ∷ drop i places) (add-one left))
      ∙ sym (append_assoc (way left ls from) (link ∷ []) (drop (suc left) places))
      ∙ ap₂ (λ a b. (way left ls a ++ b ∷ []) ++ drop (suc left) places) f l

  pub length_route : (n : ℕ) → length (route_of ls n) ≡ get_or (map (λ l. l.hops) ls) n 0
  length_route n = length-way (get_or (map (λ l. l.hops) ls) n 0) n
