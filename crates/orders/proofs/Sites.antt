-- The replies to a site's lines are those of the calls that the lines make, performed together. Assumes nothing.
use Rattle.std.proofs.Common.{◌≡◌, ℕ, ◌+◌, Bool, true, false, cond, eqb, List, [], ◌∷◌, ◌++◌, Ok, Err, Result, sym, refl, ap, ◌∙◌, ⊎_elim, append_assoc, append-nil}
use Rattle.std.proofs.lemmas.Bool.{cases_Bool, cond-true, cond-false}
use Rattle.std.proofs.lemmas.List.Sums.{fold_push}
use Rattle.kinds.specs.Kinds.{Model}
use Rattle.net.specs.Ledger.{Ledger, Site, answer, changed, next, after, answers, begun}
use Rattle.net.specs.Questions.{Told}
use Rattle.net.specs.declared.Call.{Call}
use Rattle.net.specs.declared.Call.TheVariants.{Add, Withdraw, Open, Book, Release, Show, Load, Close}
use Rattle.reader.specs.Laws.{with_feeds}
use Rattle.reader.specs.Split.{fields}
use Rattle.forms.specs.Faults.{Blame}
use Rattle.forms.specs.Forms.{Form, line_call}
use Rattle.orders.specs.Lines.{reply_line, numbered}
use Rattle.orders.specs.Passes.{serving_after, serving_by, reads, calls_in, entries, entry_texts}
use Rattle.orders.specs.Runs.{reply_to, calls_with, site_replies, site_calls}

module _ {K S U : Type 0} (m : Model K S U) (site : Site) where
  -- a call that is refused leaves the state, and one that opens or closes is refused where the net is open or closed
  serving_kept : (s : Ledger K U) (c : Call K U) → (changed m site s c).serving ≡ s.serving → (next m site s c).serving ≡ s.serving
  serving_kept s c keeps =
      ⊎_elim
      (λ t. ap (λ x. x.serving) (cond-true _ (changed m site s c) s t) ∙ keeps)
      (λ t. ap (λ x. x.serving) (cond-false _ (changed m site s c) s t))
      (cases_Bool (eqb (answer m site s c).0 0))

  pub serving_next : (s : Ledger K U) (c : Call K U) → (next m site s c).serving ≡ serving_after c s.serving
  serving_next s (Add l) = serving_kept s (Add l) refl
  serving_next s (Withdraw i) = serving_kept s (Withdraw i) refl
  serving_next s Open = opened s.serving refl
    where
      opened : (b : Bool) → s.serving ≡ b → (next m site s Open).serving ≡ true
      opened true on = ap (λ (x : Told). (cond (eqb x.0 0) (changed m site s Open) s).serving) (cond-true _ _ _ on) ∙ on
      opened false off = ap (λ (x : Told). (cond (eqb x.0 0) (changed m site s Open) s).serving) (cond-false _ _ _ off)
  serving_next s (Book r k places) = serving_kept s (Book r k places) refl
  serving_next s (Release n) = serving_kept s (Release n) refl
  serving_next s (Show n) = serving_kept s (Show n) refl
  serving_next s (Load i) = serving_kept s (Load i) refl
  serving_next s Close = closed s.serving refl
    where
      closed : (b : Bool) → s.serving ≡ b → (next m site s Close).serving ≡ false
      closed true on = ap (λ (x : Told). (cond (eqb x.0 0) (changed m site s Close) s).serving) (cond-true _ _ _ on)
      closed false off = ap (λ (x : Told). (cond (eqb x.0 0) (changed m site s Close) s).serving) (cond-false _ _ _ off) ∙ off

  pub after_push : (calls : List (Call K U)) (c : Call K U) → after m site (calls ++ c ∷ []) ≡ next m site (after m site calls) c
  after_push calls c = fold_push (next m site) begun calls c

  serving_push : (calls : List (Call K U)) (c : Call K U) → (after m site (calls ++ c ∷ [])).serving ≡ serving_after c (after m site calls).serving
  serving_push calls c = ap (λ x. x.serving) (after_push calls c) ∙ serving_next (after m site calls) c

  module _ (form : Form K U) where
    -- what is written of the lines that come after the calls
    abbrev texts : ℕ → Ledger K U → Bool → List (List ℕ) → List ℕ
    texts n s serving ls = entry_texts (entries n (reads form serving ls)) (answers m site s (calls_in (reads form serving ls)))

    -- one line more, whatever it is read as
    text_by : (n : ℕ) (calls : List (Call K U)) (r : Result (Call K U) Blame) (ls : List (List ℕ)) → ((n : ℕ) (calls : List (Call K U)) → texts n (after m site calls) (after m site calls).serving ls ≡ with_feeds (numbered n (site_replies m form site calls ls))) → entry_texts (entries n (r ∷ reads form (serving_by r (after m site calls).serving) ls)) (answers m site (after m site calls) (calls_in (r ∷ reads form (serving_by r (after m site calls).serving) ls))) ≡ reply_line n (reply_to m form site calls r) ++ 10 ∷ with_feeds (numbered (n + 1) (site_replies m form site (calls_with calls r) ls))
    text_by n calls (Ok c) ls rest =
        append_assoc _ (10 ∷ []) _
        ∙ ap (λ l. reply_line n (reply_to m form site calls (Ok c)) ++ 10 ∷ l) (
        ap (λ s. texts (n + 1) s (serving_after c (after m site calls).serving) ls) (sym (after_push calls c))
        ∙ ap (λ b. texts (n + 1) (after m site (calls ++ c ∷ [])) b ls) (sym (serving_push calls c))
        ∙ rest (n + 1) (calls ++ c ∷ [])
        )
    text_by n calls (Err b) ls rest =
        append_assoc _ (10 ∷ []) _ ∙ ap (λ l. reply_line n (reply_to m form site calls (Err b)) ++ 10 ∷ l) (rest (n + 1) calls)

    pub site_texts : (ls : List (List ℕ)) (n : ℕ) (calls : List (Call K U)) → texts n (after m site calls) (after m site calls).serving ls ≡ with_feeds (numbered n (site_replies m form site calls ls))
    site_texts [] n calls = refl
    site_texts (l ∷ ls) n calls = text_by n calls (line_call form (after m site calls).serving (fields l)) ls (site_texts ls)

    calls_by : (calls : List (Call K U)) (r : Result (Call K U) Blame) (ls : List (List ℕ)) → ((calls : List (Call K U)) → site_calls m form site calls ls ≡ calls ++ calls_in (reads form (after m site calls).serving ls)) → site_calls m form site (calls_with calls r) ls ≡ calls ++ calls_in (r ∷ reads form (serving_by r (after m site calls).serving) ls)
    calls_by calls (Ok c) ls rest =
        rest (calls ++ c ∷ [])
        ∙ append_assoc calls (c ∷ []) _
        ∙ ap (λ b. calls ++ c ∷ calls_in (reads form b ls)) (serving_push calls c)
    calls_by calls (Err b) ls rest = rest calls

    pub all_calls : (ls : List (List ℕ)) (calls : List (Call K U)) → site_calls m form site calls ls ≡ calls ++ calls_in (reads form (after m site calls).serving ls)
    all_calls [] calls = sym (append-nil calls)
    all_calls (l ∷ ls) calls = calls_by calls (line_call form (after m site calls).serving (fields l)) ls (all_calls ls)
