-- The flags of the links that have room. Assumes nothing.
use Rattle.std.proofs.Common.{◌≡◌, ℕ, zero, suc, ◌+◌, ◌<◌, ◌≤◌, Bool, List, [], ◌∷◌, length, get_or, take, drop, refl, ap, ◌∙◌, arith}
use Rattle.std.proofs.lemmas.List.{take_at}
use Rattle.slice_vec.specs.Tables.{stored}
use Rattle.search.specs.declared.label.Link.{Link}
use Rattle.slice_vec.proofs.Tables.{stored_fits}
use Rattle.net.specs.Tables.{is_open_to, flags_from, flags_for}

module _ {U : Type 0} (load : ℕ → ℕ) (rate : ℕ) where
  length_flags : (i : ℕ) (links : List (Link U)) → length (flags_from load rate i links) ≡ length links
  length_flags i [] = refl
  length_flags i (l ∷ links) = ap suc (length_flags (i + 1) links)

  pub length-flags_for : (links : List (Link U)) → length (flags_for load rate links) ≡ length links
  length-flags_for links = length_flags 0 links

  -- the flag of link j says whether it has room
  flag_at : (i : ℕ) (links : List (Link U)) (j : ℕ) (d : Bool) (l : Link U) → j < length links → get_or (flags_from load rate i links) j d ≡ is_open_to (get_or links j l).capacity (load (i + j)) rate
  flag_at i [] j d l lt = absurd (omega arith)
  flag_at i (x ∷ links) zero d l lt = ap (λ n. is_open_to x.capacity (load n) rate) (omega arith)
  flag_at i (x ∷ links) (suc j) d l lt =
      flag_at (i + 1) links j d l (omega arith) ∙ ap (λ n. is_open_to (get_or links j l).capacity (load n) rate) (omega arith)

  pub flag_of : (links : List (Link U)) (j : ℕ) (d : Bool) (l : Link U) → j < length links → get_or (flags_for load rate links) j d ≡ is_open_to (get_or links j l).capacity (load j) rate
  flag_of links j d l lt = flag_at 0 links j d l lt ∙ ap (λ n. is_open_to (get_or links j l).capacity (load n) rate) (omega arith)

  pub flags_stored : (links : List (Link U)) (old new : List Bool) → length links ≤ length old → new ≡ stored (flags_for load rate links) old → take (length links) new ≡ flags_for load rate links
  flags_stored links old new fits is =
      let long = length-flags_for links in
      ap (take (length links)) (is ∙ stored_fits old (flags_for load rate links) (omega arith)) ∙ take_at (flags_for load rate links) (drop (length (flags_for load rate links)) old) (length links) (omega arith)
