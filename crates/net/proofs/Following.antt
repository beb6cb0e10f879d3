-- Calls that follow the ledger. Assumes nothing.
use Rattle.std.proofs.Common.{◌≡◌, ℕ, suc, ◌+◌, ◌<◌, ◌≤◌, Bool, true, false, cond, eqb, ltb, List, [], ◌∷◌, ◌++◌, map, length, drop, sym, ap, ◌∙◌, subst, ap₂, ⊎_elim, arith}
use Rattle.std.specs.List.{AllByRecursion}
use Rattle.std.proofs.lemmas.List.{take_at}
use Rattle.std.proofs.lemmas.Bool.{cases_Bool, cond-true, cond-false, cond_both, lt-ltb, le-ltb, ltb-true, ltb-false}
use Rattle.kinds.specs.Kinds.{Model, Laws}
use Rattle.slice_vec.specs.Tables.{stored, Table, listed}
use Rattle.search.specs.declared.label.Link.{Link}
use Rattle.slice_vec.proofs.Tables.{stored_fits}
use Rattle.net.specs.Calls.{bearing, show_told, show_told_of, show_list, show_list_of, shown, show_within}
use Rattle.net.specs.Ledger.{Entry, Ledger, Site, number, numbers, record_of, answer, next, after, show_values}
use Rattle.net.specs.Matching.{Matches, Follows, Shows}
use Rattle.net.specs.Questions.{Told, unless, stream_refusal}
use Rattle.net.specs.Tables.{place_of, route}
use Rattle.net.specs.declared.types.Call.{Call}
use Rattle.net.specs.declared.types.Call.TheVariants.{Show}
use Rattle.net.specs.declared.types.Stream.{Stream}
use Rattle.net.proofs.Matching.{after_push, show_kept}
use Rattle.net.proofs.Standing.{Measured, route_kept, sound_after, sound_measured}
use Rattle.net.proofs.Tabled.{unless_none}

module _ {K S U : Type 0} (m : Model K S U) (site : Site) (calls : List (Call K U)) (c : Call K U) where
  pub follows : (serving : Bool) (told : Told) (nodes : ℕ) (t : Table (Link U)) (b : Table Stream) → (told ≡ answer m site (after m site calls) c) × Matches site (next m site (after m site calls) c) serving nodes t b → (x : Told) (nodes' : ℕ) (t' : Table (Link U)) (b' : Table Stream) → x ≡ told → nodes' ≡ nodes → t' ≡ t → b' ≡ b → Follows m site calls c x serving nodes' t' b'
  follows serving told nodes t b (a, h) x nodes' t' b' is-told is-nodes is-t is_b = (
    is-told ∙ a,
    subst (λ s. Matches site s serving nodes' t' b') (sym (after_push m site calls c))
        (subst (λ n. Matches site (next m site (after m site calls) c) serving n t' b') (sym is-nodes)
        (subst (λ y. Matches site (next m site (after m site calls) c) serving nodes y b') (sym is-t)
        (subst (Matches site (next m site (after m site calls) c) serving nodes t) (sym is_b) h))),
  )

-- one place further in the list
refusal_later : (x n : ℕ) (ns : List ℕ) → eqb x n ≡ false → stream_refusal (x ∷ ns) n ≡ stream_refusal ns n
refusal_later x n ns e =
    let place : place_of n (x ∷ ns) ≡ suc (place_of n ns) = cond-false _ _ _ e in
    ap (λ p. cond (ltb p (suc (length ns))) 0 18) place ∙ ap (λ t. cond t 0 18) (same (place_of n ns) (length ns))
  where
    same : (p l : ℕ) → ltb (suc p) (suc l) ≡ ltb p l
    same p l =
        ⊎_elim
        (λ t. lt-ltb (suc p) (suc l) (omega (arith, ltb-true p l t)) ∙ sym t)
        (λ t. le-ltb (suc p) (suc l) (omega (arith, ltb-false p l t)) ∙ sym t)
        (cases_Bool (ltb p l))

module _ {K S U : Type 0} (m : Model K S U) (site : Site) (n : ℕ) (places : List ℕ) where
  shown_one : (e : Entry K) → Measured e → shown (show_told_of (record_of e ∷ []) (length places)) (show_list_of (record_of e ∷ []) places) ≡ show_within (length places) (0, e.figure ∷ e.asked_for.rate ∷ e.route)
  shown_one e h =
      let is = route_kept e h in
      ⊎_elim
      (λ over.
      let long : length places + 2 < length (e.figure ∷ e.asked_for.rate ∷ e.route) = omega (arith, ap length is, ltb-true (length places) (length (route (record_of e))) over) in
      ap₂ shown (cond-true _ _ _ over) (cond-true _ _ _ over) ∙ sym (cond-true _ _ _ (lt-ltb _ _ long)))
      (λ no.
      let fits : length e.route ≤ length places = omega (arith, ap length is, ltb-false (length places) (length (route (record_of e))) no) in
      let list-is : show_list_of (record_of e ∷ []) places ≡ e.route ++ drop (length e.route) places = cond-false _ _ _ no ∙ ap (λ p. stored p places) is ∙ stored_fits places e.route fits in
      ap₂ shown (cond-false _ _ _ no) list-is
      ∙ ap (λ l. (0, e.figure ∷ e.asked_for.rate ∷ l)) (take_at e.route (drop (length e.route) places) e.hops (sym h.hops_is))
      ∙ sym (cond-false _ _ _ (le-ltb (length places + 2) (length (e.figure ∷ e.asked_for.rate ∷ e.route)) (omega arith))))
      (cases_Bool (ltb (length places) (length (route (record_of e)))))

  show_same : (es : List (Entry K)) → AllByRecursion Measured es → shown (show_told_of (bearing n (map record_of es)) (length places)) (show_list_of (bearing n (map record_of es)) places) ≡ show_within (length places) (unless (stream_refusal (numbers es) n) (show_values m site es n))
  show_same [] h = sym (cond-false _ _ _ (le-ltb (length places + 2) 0 (omega arith)))
  show_same (e ∷ es) h =
      ⊎_elim
      (λ t.
      let place : place_of n (numbers (e ∷ es)) ≡ 0 = cond-true _ _ _ t in
      let some : stream_refusal (numbers (e ∷ es)) n ≡ 0 = cond-true _ _ _ (lt-ltb (place_of n (numbers (e ∷ es))) (length (numbers (e ∷ es))) (omega arith)) in
      ap (λ ss. shown (show_told_of ss (length places)) (show_list_of ss places)) (cond-true _ _ _ t)
      ∙ shown_one e h.0
      ∙ ap (show_within (length places)) (ap (λ vs. (0, vs)) (sym (cond-true _ _ _ t)) ∙ sym (unless_none _ _ some)))
      (λ t.
      ap (λ ss. shown (show_told_of ss (length places)) (show_list_of ss places)) (cond-false _ _ _ t)
      ∙ show_same es h.1
      ∙ ap (show_within (length places)) (ap₂ unless (sym (refusal_later (number e) n (numbers es) t)) (sym (cond-false _ _ _ t))))
      (cases_Bool (eqb (number e) n))

  pub show_answer_is : (s : Ledger K U) (b : Table Stream) → s.serving ≡ true → listed 64 b ≡ map record_of s.streams → AllByRecursion Measured s.streams → shown (show_told_of (bearing n (listed 64 b)) (length places)) (show_list_of (bearing n (listed 64 b)) places) ≡ show_within (length places) (answer m site s (Show n))
  show_answer_is s b on is h =
      ap (λ ss. shown (show_told_of (bearing n ss) (length places)) (show_list_of (bearing n ss) places)) is
      ∙ show_same s.streams h
      ∙ ap (show_within (length places)) (sym (cond-true _ _ _ on))

module _ {K S U : Type 0} (m : Model K S U) (site : Site) (n : ℕ) where
  few_values : (es : List (Entry K)) → AllByRecursion Measured es → length (show_values m site es n) ≤ 18
  few_values [] h = omega arith
  few_values (e ∷ es) h =
      cond_both (eqb (number e) n) (e.figure ∷ e.asked_for.rate ∷ e.route) (show_values m site es n) (λ vs. length vs ≤ 18) (λ _. omega (arith, h.0.short)) (λ _. few_values es h.1)

  -- sixteen places are enough for every route
  pub show_whole_is : (places : ℕ) → 16 ≤ places → (s : Ledger K U) → AllByRecursion Measured s.streams → show_within places (answer m site s (Show n)) ≡ answer m site s (Show n)
  show_whole_is places enough s h =
      let refusal = stream_refusal (numbers s.streams) n in
      let values = show_values m site s.streams n in
      let few : length (answer m site s (Show n)).1 ≤ 18 =
      cond_both {A = Told} s.serving (unless refusal values) (22, []) (λ x. length x.1 ≤ 18)
      (λ _. cond_both {A = Told} (eqb refusal 0) (0, values) (refusal, []) (λ x. length x.1 ≤ 18) (λ _. few_values s.streams h) (λ _. omega arith))
      (λ _. omega arith) in
      cond-false _ _ _ (le-ltb (places + 2) (length (answer m site s (Show n)).1) (omega arith))

module _ {K S U : Type 0} (m : Model K S U) (laws : Laws m) (site : Site) (calls : List (Call K U)) (n nodes : ℕ) (t : Table (Link U)) (b : Table Stream) (h : Matches site (after m site calls) true nodes t b) (told : Told) (places places' : List ℕ) (is : told ≡ show_told b n places) (left : places' ≡ show_list b n places) where
  measured : AllByRecursion Measured (after m site calls).streams
  measured = sound_measured m (after m site calls) (sound_after m site laws calls)

  -- a show into any list
  pub shows_within : Shows m site calls n (length places) (shown told places') nodes t b
  shows_within = (
    ap (λ (x : Told). shown x places') is
        ∙ ap (shown (show_told b n places)) left
        ∙ show_answer_is m site n places (after m site calls) b h.serving_is h.streams_are measured,
    subst (λ s. Matches site s true nodes t b) (sym (after_push m site calls (Show n))) (show_kept m site (after m site calls) nodes t b h n),
  )

  -- a show into a list that is long enough for every route
  pub shows_whole : 16 ≤ length places → Follows m site calls (Show n) (shown told places') true nodes t b
  shows_whole enough = (shows_within.0 ∙ show_whole_is m site n (length places) enough (after m site calls) measured, shows_within.1)
