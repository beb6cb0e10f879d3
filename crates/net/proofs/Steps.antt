-- Each call takes a net and a book that are the ledger's to those of the ledger. Assumes nothing.
use Rattle.std.proofs.Common.{◌≡◌, ℕ, min, true, false, List, [], ◌∷◌, length, refl, ap, ◌∙◌}
use Rattle.kinds.specs.Kinds.{Model, Laws}
use Rattle.search.specs.declared.label.Label.{Label}
use Rattle.search.specs.declared.label.Link.{Link}
use Rattle.slice_vec.specs.Tables.{Table, listed, put}
use Rattle.net.specs.Calls.{add_told, add_left, withdraw_told, withdraw_left, release_told, release_left, load_told, book_told_by, book_left}
use Rattle.net.specs.Ledger.{after}
use Rattle.net.specs.Matching.{laid, served, Steps, StepsWhere}
use Rattle.net.specs.Questions.{Told}
use Rattle.net.specs.declared.types.Call.TheVariants.{Add, Withdraw, Open, Book, Release, Load, Close}
use Rattle.net.specs.declared.types.Request.{Request}
use Rattle.net.specs.declared.types.Stream.{Stream}
use Rattle.net.proofs.Following.{follows}
use Rattle.net.proofs.Matching.{add_matches, withdraw_matches, open_matches, release_matches, load_matches, close_matches, book_matches}
use Rattle.net.proofs.Standing.{sound_measured, sound_after}

module _ {K S U : Type 0} (m : Model K S U) (nodes : ℕ) (t : Table (Link U)) (b : Table Stream) (told : Told) where
  pub add_steps : (l : Link U) (nodes' : ℕ) (t' : Table (Link U)) → told ≡ add_told nodes t l → nodes' ≡ nodes → t' ≡ add_left nodes t l → Steps m (Add l) told (laid nodes t b) (laid nodes' t' b)
  add_steps l nodes' t' is nodes-is left =
      λ site calls h. follows m site calls (Add l) false (add_told nodes t l) nodes (add_left nodes t l) b (add_matches m site (after m site calls) nodes t b h l) told nodes' t' b is nodes-is left refl

  pub withdraw_steps : (i nodes' : ℕ) (t' : Table (Link U)) → told ≡ withdraw_told t i → nodes' ≡ nodes → t' ≡ withdraw_left t i → Steps m (Withdraw i) told (laid nodes t b) (laid nodes' t' b)
  withdraw_steps i nodes' t' is nodes-is left =
      λ site calls h. follows m site calls (Withdraw i) false (withdraw_told t i) nodes (withdraw_left t i) b (withdraw_matches m site (after m site calls) nodes t b h i) told nodes' t' b is nodes-is left refl

  pub release_steps : (n : ℕ) (b' : Table Stream) → told ≡ release_told b n → b' ≡ release_left b n → Steps m (Release n) told (served nodes t b) (served nodes t b')
  release_steps n b' is left =
      λ site calls h. follows m site calls (Release n) true (release_told b n) nodes t (release_left b n) (release_matches m site (after m site calls) nodes t b h n) told nodes t b' is refl refl left

  module _ (laws : Laws m) where
    pub load_steps : (i : ℕ) → told ≡ load_told t b i → Steps m (Load i) told (served nodes t b) (served nodes t b)
    load_steps i is =
        λ site calls h.
        let measured = sound_measured m (after m site calls) (sound_after m site laws calls) in
        follows m site calls (Load i) true (load_told t b i) nodes t b (load_matches m site (after m site calls) nodes t b h measured i) told nodes t b is refl refl refl

    pub book_steps : (k : K) (r : Request) (labels : List (Label S)) (b' : Table Stream) → told ≡ book_told_by m nodes t b k r (length labels) → b' ≡ book_left m nodes t b k r (length labels) → (places : ℕ) → StepsWhere (λ site. length labels ≡ min places site.label_places) m (Book r k places) told (served nodes t b) (served nodes t b')
    book_steps k r labels b' is left places =
        λ site calls h fits.
        let measured = sound_measured m (after m site calls) (sound_after m site laws calls) in
        follows m site calls (Book r k places) true _ nodes t _ (book_matches m site (after m site calls) nodes t b h measured k r places) told nodes t b'
        (is ∙ ap (book_told_by m nodes t b k r) fits) refl refl (left ∙ ap (book_left m nodes t b k r) fits)

module _ {K S U : Type 0} (m : Model K S U) (nodes : ℕ) (t : Table (Link U)) (b : Table Stream) (nodes' : ℕ) (t' : Table (Link U)) (nodes-is : nodes' ≡ nodes) (table-is : t' ≡ t) where
  pub open_steps : Steps m Open (0, []) (laid nodes t b) (served nodes' t' b)
  open_steps = λ site calls h. follows m site calls Open true (0, []) nodes t b (open_matches m site (after m site calls) nodes t b h) (0, []) nodes' t' b refl nodes-is table-is refl

  pub close_steps : (n : ℕ) (b' : Table Stream) → n ≡ length (listed 64 b) → b' ≡ put [] b → Steps m Close (0, n ∷ []) (served nodes t b) (laid nodes' t' b')
  close_steps n b' is left =
      λ site calls h. follows m site calls Close false (0, length (listed 64 b) ∷ []) nodes t (put [] b) (close_matches m site (after m site calls) nodes t b h) (0, n ∷ []) nodes' t' b' (ap (λ k. (0, k ∷ [])) is) nodes-is table-is left
