-- The label picked is the best at the target. Assumes nothing.
use Rattle.std.proofs.Common.{◌≡◌, ℕ, ◌+◌, ◌<◌, ◌≤◌, true, false, ◌&&◌, eqb, ltb, List, [], ◌∷◌, ◌++◌, length, get_or, drop, Some, None, Option, sym, refl, ap, ◌∙◌, subst, ⊎_elim, arith}
use Rattle.std.proofs.lemmas.List.{at_drop_more, at_drop_all, get_or_append_left, get_or_at, length_push}
use Rattle.std.proofs.lemmas.Bool.{cases_Bool, cases_lt, cond-true, cond-false, and_parts, or_cases, or_parts, and_cases, eqb-true, eqb-false, ltb-true, ltb-false}
use Rattle.kinds.specs.Kinds.{Model}
use Rattle.kinds.proofs.Along.{from_end}
use Rattle.search.specs.Answers.{lower, lesser, weighed, weighs, best, Least}
use Rattle.search.specs.declared.answer.Best.{Best}
use Rattle.search.specs.declared.label.Label.{Label}

module _ {K S U : Type 0} (m : Model K S U) (k : K) (target : ℕ) where
  pub weighs_more : (b : Option Best) (n : ℕ) (ls : List (Label S)) (l : Label S) → n < length ls → l ≡ get_or ls n l → weighs m k target b n (drop n ls) ≡ weighs m k target (weighed m k target b n l) (n + 1) (drop (n + 1) ls)
  weighs_more b n ls l lt read =
      at_drop_more (weighs m k target b n) ls n l lt ∙ ap (λ x. weighs m k target (weighed m k target b n x) (n + 1) (drop (n + 1) ls)) (sym read)

  pub weighs_all : (b : Option Best) (n : ℕ) (ls : List (Label S)) → length ls ≤ n → weighs m k target b n (drop n ls) ≡ b
  weighs_all b n ls le = at_drop_all (weighs m k target b n) ls n le

  weighs_push : (b : Option Best) (n : ℕ) (ls : List (Label S)) (l : Label S) → weighs m k target b n (ls ++ l ∷ []) ≡ weighed m k target (weighs m k target b n ls) (n + length ls) l
  weighs_push b n [] l = ap (λ i. weighed m k target b i l) (omega arith)
  weighs_push b n (x ∷ ls) l =
      weighs_push (weighed m k target b n x) (n + 1) ls l ∙ ap (λ i. weighed m k target (weighs m k target (weighed m k target b n x) (n + 1) ls) i l) (omega arith)

  -- what holds of each label of a list with one label more
  each : (ls : List (Label S)) (l d : Label S) (Q : ℕ → Label S → Type 0) → ((j : ℕ) → j < length ls → Q j (get_or ls j d)) → Q (length ls) l → (j : ℕ) → j < length (ls ++ l ∷ []) → Q j (get_or (ls ++ l ∷ []) j d)
  each ls l d Q old new j lt =
      ⊎_elim
      (λ before. subst (Q j) (sym (get_or_append_left ls (l ∷ []) d j before)) (old j before))
      (λ after.
      let last : length ls ≡ j = omega (arith, length_push ls l) in
      subst (λ i. Q i (get_or (ls ++ l ∷ []) i d)) last (subst (Q (length ls)) (sym (get_or_at ls l [] d (length ls) refl)) new))
      (cases_lt j (length ls))

  -- no label stands at the target
  abbrev pub NoneThere : List (Label S) → Type 0
  NoneThere ls = (d : Label S) (j : ℕ) → j < length ls → (get_or ls j d).node ≡ target → ⊥

  abbrev pub Picked : List (Label S) → Option Best → Type 0
  Picked ls None = NoneThere ls
  Picked ls (Some b) = Least m k target ls b

  module _ (ls : List (Label S)) (l : Label S) where
    elsewhere : (b : Option Best) → (l.node ≡ target → ⊥) → Picked ls b → Picked (ls ++ l ∷ []) b
    elsewhere None away h = λ d. each ls l d (λ j x. x.node ≡ target → ⊥) (h d) away
    elsewhere (Some b) away h = record {
      inside = omega (arith, length_push ls l, h.inside);
      node_is = λ d. ap (λ x. x.node) (old d) ∙ h.node_is d;
      figure_is = λ d. ap (λ x. m.figure k x.state) (old d) ∙ h.figure_is d;
      hops_is = λ d. ap (λ x. x.hops) (old d) ∙ h.hops_is d;
      figure_least = λ d. each ls l d (λ j x. x.node ≡ target → b.figure ≤ m.figure k x.state) (h.figure_least d) (λ there. absurd (away there));
      hops_least = λ d. each ls l d (λ j x. x.node ≡ target → m.figure k x.state ≡ b.figure → b.hops ≤ x.hops) (h.hops_least d) (λ there. absurd (away there));
      number_least = λ d. each ls l d (λ j x. x.node ≡ target → m.figure k x.state ≡ b.figure → x.hops ≡ b.hops → b.label ≤ j) (h.number_least d) (λ there. absurd (away there));
    }
      where
        old : (d : Label S) → get_or (ls ++ l ∷ []) b.label d ≡ get_or ls b.label d
        old d = get_or_append_left ls (l ∷ []) d b.label h.inside

    -- the entry of the label that is added
    entry : Best
    entry = record { label = length ls; figure = m.figure k l.state; hops = l.hops }

    last_is : (d : Label S) → get_or (ls ++ l ∷ []) (length ls) d ≡ l
    last_is d = get_or_at ls l [] d (length ls) refl

    takes_over : l.node ≡ target → ((d : Label S) (j : ℕ) → j < length ls → (get_or ls j d).node ≡ target → (m.figure k l.state ≤ m.figure k (get_or ls j d).state) × (m.figure k (get_or ls j d).state ≡ m.figure k l.state → l.hops < (get_or ls j d).hops)) → Least m k target (ls ++ l ∷ []) entry
    unfolding entry
    takes_over there beats = record {
      inside = omega (arith, length_push ls l);
      node_is = λ d. ap (λ x. x.node) (last_is d) ∙ there;
      figure_is = λ d. ap (λ x. m.figure k x.state) (last_is d);
      hops_is = λ d. ap (λ x. x.hops) (last_is d);
      figure_least = λ d. each ls l d (λ j x. x.node ≡ target → m.figure k l.state ≤ m.figure k x.state) (λ j lt at. (beats d j lt at).0) (λ at. omega arith);
      hops_least = λ d. each ls l d (λ j x. x.node ≡ target → m.figure k x.state ≡ m.figure k l.state → l.hops ≤ x.hops) (λ j lt at e. let s = (beats d j lt at).1 e in omega arith) (λ at e. omega arith);
      number_least = λ d. each ls l d (λ j x. x.node ≡ target → m.figure k x.state ≡ m.figure k l.state → x.hops ≡ l.hops → length ls ≤ j) (λ j lt at e f. absurd (let s = (beats d j lt at).1 e in omega arith)) (λ at e f. omega arith);
    }

    stays : (b : Best) → l.node ≡ target → lower (record { label = length ls; figure = m.figure k l.state; hops = l.hops }) b ≡ false → Least m k target ls b → Least m k target (ls ++ l ∷ []) b
    stays b there no_lower h =
        let parts = or_parts _ _ no_lower in
        let figure-fits : b.figure ≤ m.figure k l.state = ltb-false _ _ parts.0 in
        let hops_fit : m.figure k l.state ≡ b.figure → b.hops ≤ l.hops = λ e. ⊎_elim (λ ne. absurd (eqb-false _ _ ne e)) (λ ge. ltb-false _ _ ge) (and_cases _ _ parts.1) in
        record {
          inside = omega (arith, length_push ls l, h.inside);
          node_is = λ d. ap (λ x. x.node) (old d) ∙ h.node_is d;
          figure_is = λ d. ap (λ x. m.figure k x.state) (old d) ∙ h.figure_is d;
          hops_is = λ d. ap (λ x. x.hops) (old d) ∙ h.hops_is d;
          figure_least = λ d. each ls l d (λ j x. x.node ≡ target → b.figure ≤ m.figure k x.state) (h.figure_least d) (λ at. figure-fits);
          hops_least = λ d. each ls l d (λ j x. x.node ≡ target → m.figure k x.state ≡ b.figure → b.hops ≤ x.hops) (h.hops_least d) (λ at. hops_fit);
          number_least = λ d. each ls l d (λ j x. x.node ≡ target → m.figure k x.state ≡ b.figure → x.hops ≡ b.hops → b.label ≤ j) (h.number_least d) (λ at e f. omega (arith, h.inside));
        }
      where
        old : (d : Label S) → get_or (ls ++ l ∷ []) b.label d ≡ get_or ls b.label d
        old d = get_or_append_left ls (l ∷ []) d b.label h.inside

    against : (b : Option Best) → l.node ≡ target → Picked ls b → Picked (ls ++ l ∷ []) (lesser b entry)
    unfolding entry
    against None there h = takes_over there (λ d j lt at. absurd (h d j lt at))
    against (Some b) there h =
        ⊎_elim
        (λ t. subst (λ x. Least m k target (ls ++ l ∷ []) x) (sym (cond-true _ _ _ t)) (takes_over there (wins t)))
        (λ t. subst (λ x. Least m k target (ls ++ l ∷ []) x) (sym (cond-false _ _ _ t)) (stays b there t h))
        (cases_Bool (lower entry b))
      where
        wins : lower entry b ≡ true → (d : Label S) (j : ℕ) → j < length ls → (get_or ls j d).node ≡ target → (m.figure k l.state ≤ m.figure k (get_or ls j d).state) × (m.figure k (get_or ls j d).state ≡ m.figure k l.state → l.hops < (get_or ls j d).hops)
        wins t d j lt at =
            let least = h.figure_least d j lt at in
            ⊎_elim
            (λ less. let s : m.figure k l.state < b.figure = ltb-true _ _ less in (omega arith, λ e. absurd (omega arith)))
            (λ tie.
            let parts = and_parts (eqb (m.figure k l.state) b.figure) (ltb l.hops b.hops) tie in
            let same : m.figure k l.state ≡ b.figure = eqb-true _ _ parts.0 in
            let fewer : l.hops < b.hops = ltb-true _ _ parts.1 in
            (omega arith, λ e. let s = h.hops_least d j lt at (e ∙ same) in omega arith))
            (or_cases (ltb (m.figure k l.state) b.figure) (eqb (m.figure k l.state) b.figure && ltb l.hops b.hops) t)

    picked_push : (b : Option Best) → Picked ls b → Picked (ls ++ l ∷ []) (weighed m k target b (length ls) l)
    unfolding entry
    picked_push b h =
        ⊎_elim
        (λ t. subst (Picked (ls ++ l ∷ [])) (sym (cond-true _ _ _ t)) (against b (eqb-true _ _ t) h))
        (λ t. subst (Picked (ls ++ l ∷ [])) (sym (cond-false _ _ _ t)) (elsewhere b (eqb-false _ _ t) h))
        (cases_Bool (eqb l.node target))

  pub picked : (ls : List (Label S)) → Picked ls (best m k target ls)
  picked =
      from_end (λ ls. Picked ls (best m k target ls))
      (λ ls l h. subst (Picked (ls ++ l ∷ [])) (sym (weighs_push None 0 ls l ∙ ap (λ i. weighed m k target (best m k target ls) i l) (omega arith))) (picked_push ls l (best m k target ls) h))
      (λ d j lt. absurd (omega arith))
