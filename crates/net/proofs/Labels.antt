-- What each call, and a list of calls, leaves in the label table. Assumes nothing.
use Rattle.std.proofs.Common.{◌≡◌, ℕ, min, Bool, true, false, cond, eqb, List, [], ◌∷◌, ◌++◌, length, take, drop, fold, sym, refl, ap, ◌∙◌, ap₂, ⊎_elim, arith, take-append-drop}
use Rattle.std.proofs.lemmas.List.{take_all, drop_all}
use Rattle.std.proofs.lemmas.Bool.{cases_lt, cond-true, cond-false}
use Rattle.kinds.specs.Kinds.{Model, Laws}
use Rattle.search.specs.Rule.{made}
use Rattle.slice_vec.specs.Tables.{stored, Table}
use Rattle.search.specs.declared.label.Label.{Label}
use Rattle.search.specs.declared.label.Link.{Link}
use Rattle.net.specs.Calls.{labels_left}
use Rattle.net.specs.Labels.{stored_within, labels_next, labels_after}
use Rattle.net.specs.Ledger.{Ledger, Site, numbers, asks, next, after}
use Rattle.net.specs.Matching.{Matches}
use Rattle.net.specs.Questions.{node_count, book_refusal}
use Rattle.net.specs.declared.types.Call.{Call}
use Rattle.net.specs.declared.types.Call.TheVariants.{Add, Withdraw, Open, Book, Release, Show, Load, Close}
use Rattle.net.specs.declared.types.Request.{Request}
use Rattle.net.specs.declared.types.Stream.{Stream}
use Rattle.net.proofs.Matching.{booking_same, refusal_same}
use Rattle.net.proofs.Standing.{sound_after, sound_measured}

-- a table has no more places than it has
module _ {X : Type 0} (places n : ℕ) (xs : List X) (is : n ≡ min places (length xs)) where
  front_same : take n xs ≡ take places xs
  front_same =
      ⊎_elim
      (λ inside. ap (λ i. take i xs) (omega arith))
      (λ past. take_all n xs (omega arith) ∙ sym (take_all places xs past))
      (cases_lt places (length xs))

  back_same : drop n xs ≡ drop places xs
  back_same =
      ⊎_elim
      (λ inside. ap (λ i. drop i xs) (omega arith))
      (λ past. drop_all n xs (omega arith) ∙ sym (drop_all places xs past))
      (cases_lt places (length xs))

-- labels stored in the first places, or none
stored_or_none : {X : Type 0} (places : ℕ) (ls table : List X) (b : Bool) → cond b (stored ls (take places table)) (take places table) ++ drop places table ≡ cond b (stored_within places ls table) table
stored_or_none places ls table true = refl
stored_or_none places ls table false = take-append-drop places table

module _ {K S U : Type 0} (m : Model K S U) (site : Site) where
  -- a booking that was lent the first n places of the table
  pub labels_within : Laws m → (calls : List (Call K U)) (nodes : ℕ) (t : Table (Link U)) (b : Table Stream) → Matches site (after m site calls) true nodes t b → (k : K) (r : Request) (places n : ℕ) (labels : List (Label S)) → n ≡ min places (length labels) → labels_left m nodes t b k r (take n labels) ++ drop n labels ≡ labels_next m site (after m site calls) (Book r k places) labels
  labels_within laws calls nodes t b h k r places n labels is =
      let s = after m site calls in
      let measured = sound_measured m s (sound_after m site laws calls) in
      let refusal = book_refusal (node_count site.nodes) (min 64 site.stream_places) (numbers s.streams) r in
      let q = asks m site s k r in
      ap₂ (λ i x. cond (eqb i 0) (stored (made m x) (take n labels)) (take n labels) ++ drop n labels) (refusal_same m site s nodes t b h measured r) (booking_same m site s nodes t b h measured k r)
      ∙ ap₂ (λ front back. cond (eqb refusal 0) (stored (made m q) front) front ++ back) (front_same places n labels is) (back_same places n labels is)
      ∙ stored_or_none places (made m q) labels (eqb refusal 0)
      ∙ sym (cond-true _ _ _ h.serving_is)

  -- a call that is no booking leaves the table untouched, and so does any call while the net is being laid
  pub labels_kept : (s : Ledger K U) (c : Call K U) (labels : List (Label S)) → ((r : Request) (k : K) (places : ℕ) → c ≡ Book r k places → ⊥) → labels ≡ labels_next m site s c labels
  labels_kept s (Add l) labels other = refl
  labels_kept s (Withdraw i) labels other = refl
  labels_kept s Open labels other = refl
  labels_kept s (Book r k places) labels other = absurd (other r k places refl)
  labels_kept s (Release n) labels other = refl
  labels_kept s (Show n) labels other = refl
  labels_kept s (Load i) labels other = refl
  labels_kept s Close labels other = refl

  pub labels_laid : (s : Ledger K U) (c : Call K U) (labels : List (Label S)) → s.serving ≡ false → labels ≡ labels_next m site s c labels
  labels_laid s (Add l) labels off = refl
  labels_laid s (Withdraw i) labels off = refl
  labels_laid s Open labels off = refl
  labels_laid s (Book r k places) labels off = sym (cond-false _ _ _ off)
  labels_laid s (Release n) labels off = refl
  labels_laid s (Show n) labels off = refl
  labels_laid s (Load i) labels off = refl
  labels_laid s Close labels off = refl

  pub labels_push : (s : Ledger K U) (calls : List (Call K U)) (c : Call K U) (labels : List (Label S)) → labels_after m site s (calls ++ c ∷ []) labels ≡ labels_next m site (fold (next m site) s calls) c (labels_after m site s calls labels)
  labels_push s [] c labels = refl
  labels_push s (x ∷ calls) c labels = labels_push (next m site s x) calls c (labels_next m site s x labels)
