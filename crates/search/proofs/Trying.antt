-- The links tried one after another, over a table. Assumes nothing.
use Rattle.std.proofs.Common.{◌≡◌, ℕ, ◌+◌, ◌<◌, ◌≤◌, Bool, List, length, get_or, drop, Ok, Err, sym, ap, ◌∙◌}
use Rattle.kinds.specs.Kinds.{Model}
use Rattle.search.specs.Labels.{held, Stores}
use Rattle.search.specs.Rule.{tried, tries}
use Rattle.search.specs.declared.answer.SearchFault.{SearchFault}
use Rattle.search.specs.declared.label.Label.{Label}
use Rattle.search.specs.declared.label.Labels.{Labels}
use Rattle.search.specs.declared.label.Link.{Link}
use Rattle.search.proofs.Offers.{tried_grows, tries_grows, tries_more, tries-all}
use Rattle.search.proofs.Storing.{held_is, stores_at, stores_more, stores_on}

-- the links below i have been tried for label n, which is l: the list was `old` before, and is `now`
pub record Trying {K S U : Type 0} (m : Model K S U) (k : K) (flags : List Bool) (links : List (Link U)) (n : ℕ) (l : Label S) (old : Labels S) (i : ℕ) (now : Labels S) : Type 0 where
  pub stores : Stores (held now) old (Ok tt) now
  pub left : tries m k flags n l i (drop i links) (held now) ≡ tries m k flags n l 0 links (held old)

module _ {K S U : Type 0} (m : Model K S U) (k : K) (flags : List Bool) (links : List (Link U)) (n : ℕ) (l : Label S) (old : Labels S) where
  module _ (i : ℕ) (now : Labels S) (h : Trying m k flags links n l old i now) where
    module _ (link : Link U) (within : i < length links) (read : link ≡ get_or links i link) (next : Labels S) where
      next_labels : List (Label S)
      next_labels = tried m k flags n l i link (held now)

      next_left : tries m k flags n l (i + 1) (drop (i + 1) links) next_labels ≡ tries m k flags n l 0 links (held old)
      unfolding next_labels
      next_left = sym (tries_more m k flags n l links i link (held now) within read) ∙ h.left

      pub trying_more : Stores (tried m k flags n l i link (held now)) now (Ok tt) next → Trying m k flags links n l old (i + 1) next
      unfolding next_labels
      trying_more s =
          let is : held next ≡ next_labels = held_is next_labels now next s in
          record {
            stores = stores_at is (stores_on (held now) next_labels old now next (Ok tt) h.stores (tried_grows m k flags n l i link (held now)) s);
            left = ap (tries m k flags n l (i + 1) (drop (i + 1) links)) is ∙ next_left;
          }

      pub trying_full : (f : SearchFault) → Stores (tried m k flags n l i link (held now)) now (Err f) next → Stores (tries m k flags n l 0 links (held old)) old (Err f) next
      unfolding next_labels
      trying_full f s =
          stores_at (sym next_left)
          (stores_more next_labels _ old next f (stores_on (held now) next_labels old now next (Err f) h.stores (tried_grows m k flags n l i link (held now)) s) (tries_grows m k flags n l (i + 1) (drop (i + 1) links) next_labels))

    pub trying_all : length links ≤ i → Stores (tries m k flags n l 0 links (held old)) old (Ok tt) now
    trying_all done =
        stores_at (sym h.left ∙ tries-all m k flags n l links i (held now) done) h.stores
