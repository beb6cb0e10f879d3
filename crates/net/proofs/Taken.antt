-- Calls that the net's state does not take. Assumes nothing.
use Rattle.std.proofs.Common.{◌≡◌, ℕ, Bool, true, false, eqb, List, [], sym, refl, ap, subst}
use Rattle.std.proofs.lemmas.Bool.{cond-true, cond-false}
use Rattle.kinds.specs.Kinds.{Model}
use Rattle.search.specs.declared.label.Link.{Link}
use Rattle.net.specs.Ledger.{Ledger, Site, answer, next, after}
use Rattle.net.specs.Matching.{Matches, Follows}
use Rattle.net.specs.Questions.{Told}
use Rattle.slice_vec.specs.Tables.{Table}
use Rattle.net.specs.declared.types.Call.{Call}
use Rattle.net.specs.declared.types.Call.TheVariants.{Add, Withdraw, Open, Book, Release, Show, Load, Close}
use Rattle.net.specs.declared.types.Request.{Request}
use Rattle.net.specs.declared.types.Stream.{Stream}
use Rattle.net.proofs.Following.{follows}

module _ {K S U : Type 0} (m : Model K S U) (site : Site) (calls : List (Call K U)) (c : Call K U) where
  pub not_taken : (serving : Bool) (nodes : ℕ) (t : Table (Link U)) (b : Table Stream) → Matches site (after m site calls) serving nodes t b → answer m site (after m site calls) c ≡ (22, []) → Follows m site calls c (22, []) serving nodes t b
  not_taken serving nodes t b h is =
      let s = after m site calls in
      let same : next m site s c ≡ s = cond-false _ _ _ (ap (λ (x : Told). eqb x.0 0) is) in
      follows m site calls c serving (22, []) nodes t b (sym is, subst (λ x. Matches site x serving nodes t b) (sym same) h) (22, []) nodes t b refl refl refl refl

  -- the call and its answer in other words
  pub follows_as : (serving : Bool) (told : Told) (nodes : ℕ) (t : Table (Link U)) (b : Table Stream) → Follows m site calls c told serving nodes t b → (c' : Call K U) (told' : Told) → c' ≡ c → told' ≡ told → Follows m site calls c' told' serving nodes t b
  follows_as serving told nodes t b h c' told' is_call is-told =
      subst (λ x. Follows m site calls x told' serving nodes t b) (sym is_call) (subst (λ x. Follows m site calls c x serving nodes t b) (sym is-told) h)

module _ {K S U : Type 0} (m : Model K S U) (site : Site) (s : Ledger K U) where
  pub not_laid : s.serving ≡ false → (c : Call K U) → ((l : Link U) → c ≡ Add l → ⊥) → ((i : ℕ) → c ≡ Withdraw i → ⊥) → (c ≡ Open → ⊥) → answer m site s c ≡ (22, [])
  not_laid off (Add l) a w o = absurd (a l refl)
  not_laid off (Withdraw i) a w o = absurd (w i refl)
  not_laid off Open a w o = absurd (o refl)
  not_laid off (Book r k places) a w o = cond-false _ _ _ off
  not_laid off (Release n) a w o = cond-false _ _ _ off
  not_laid off (Show n) a w o = cond-false _ _ _ off
  not_laid off (Load i) a w o = cond-false _ _ _ off
  not_laid off Close a w o = cond-false _ _ _ off

  pub not_served : s.serving ≡ true → (c : Call K U) → ((r : Request) (k : K) (places : ℕ) → c ≡ Book r k places → ⊥) → ((n : ℕ) → c ≡ Release n → ⊥) → ((n : ℕ) → c ≡ Show n → ⊥) → ((i : ℕ) → c ≡ Load i → ⊥) → (c ≡ Close → ⊥) → answer m site s c ≡ (22, [])
  not_served on (Add l) b r w l' e = cond-true _ _ _ on
  not_served on (Withdraw i) b r w l e = cond-true _ _ _ on
  not_served on Open b r w l e = cond-true _ _ _ on
  not_served on (Book q k places) b r w l e = absurd (b q k places refl)
  not_served on (Release n) b r w l e = absurd (r n refl)
  not_served on (Show n) b r w l e = absurd (w n refl)
  not_served on (Load i) b r w l e = absurd (l i refl)
  not_served on Close b r w l e = absurd (e refl)
