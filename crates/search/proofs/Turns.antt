-- One turn: a label taken or passed over. Assumes nothing.
use Rattle.std.proofs.Common.{◌≡◌, ℕ, ◌<◌, ◌≤◌, List, length, get_or, sym, ap, ◌∙◌}
use Rattle.std.proofs.lemmas.Bool.{cond-true, cond-false, or_left, or_right, or_from, eq-eqb, ne_eqb, le-leb, lt-leb, lt-ltb}
use Rattle.kinds.specs.Kinds.{Model}
use Rattle.search.specs.Rule.{Query, label0, takes, tries, turn}
use Rattle.search.specs.declared.label.Label.{Label}

-- label n, which is l
module _ {K S U : Type 0} (m : Model K S U) (q : Query K U) (n : ℕ) (ls : List (Label S)) (l : Label S) (inside : n < length ls) (read : l ≡ get_or ls n (label0 m q)) where
  takes_it : turn m q n ls ≡ takes m q n l ls
  takes_it = cond-true _ _ _ (lt-ltb n (length ls) inside) ∙ ap (λ x. takes m q n x ls) (sym read)

  pub turn_at_target : l.node ≡ q.target → turn m q n ls ≡ ls
  turn_at_target at = takes_it ∙ cond-true _ _ _ (or_left _ _ (eq-eqb _ _ at))

  pub turn_at_limit : q.hop_limit ≤ l.hops → turn m q n ls ≡ ls
  turn_at_limit at = takes_it ∙ cond-true _ _ _ (or_right _ _ (le-leb _ _ at))

  pub turn_on : (l.node ≡ q.target → ⊥) → l.hops < q.hop_limit → turn m q n ls ≡ tries m q.kind q.flags n l 0 q.links ls
  turn_on away below = takes_it ∙ cond-false _ _ _ (or_from _ _ (ne_eqb _ _ away) (lt-leb _ _ below))
