-- The labels that one label makes. Assumes nothing.
use Rattle.std.proofs.Common.{◌≡◌, ℕ, zero, suc, ◌+◌, ◌<◌, ◌≤◌, Bool, true, false, not, ◌&&◌, ◌||◌, eqb, leb, List, [], ◌∷◌, ◌++◌, length, get_or, take, drop, sym, refl, ap, ◌∙◌, subst, ap₂, ⊎_elim, append_assoc, append-nil, arith, length-drop, take-append-drop}
use Rattle.std.specs.List.{AllByRecursion}
use Rattle.std.proofs.lemmas.List.{get_or_default}
use Rattle.std.proofs.ByRecursion.{All-weaker, All-append}
use Rattle.std.proofs.lemmas.Bool.{cases_Bool, cond-true, cond-false, and_parts, and_from, or_parts, or_left, or_right, or_cases, and_right, not-true, not_from_true, not_from_false, eqb-true, eq-eqb, le-leb, leb-true, both_ways, cases_lt}
use Rattle.kinds.specs.Kinds.{Model, Laws}
use Rattle.search.specs.Rule.{is_open, candidate, beats, beaten, offered, tried, tries}
use Rattle.search.specs.declared.label.Label.{Label}
use Rattle.search.specs.declared.label.Link.{Link}
use Rattle.search.proofs.Offers.{drop_view, tried_over, tries_grows}

module _ {K S U : Type 0} (m : Model K S U) (k : K) where
  pub beats_parts : (l c : Label S) → beats m k l c ≡ true → (l.node ≡ c.node) × (l.hops ≤ c.hops) × (m.covers k l.state c.state ≡ true)
  beats_parts l c h =
      let outer = and_parts (eqb l.node c.node && leb l.hops c.hops) (m.covers k l.state c.state) h in
      let inner = and_parts (eqb l.node c.node) (leb l.hops c.hops) outer.0 in
      (eqb-true _ _ inner.0, leb-true _ _ inner.1, outer.1)

  pub beats_from : (l c : Label S) → l.node ≡ c.node → l.hops ≤ c.hops → m.covers k l.state c.state ≡ true → beats m k l c ≡ true
  beats_from l c node hops covers =
      and_from (eqb l.node c.node && leb l.hops c.hops) (m.covers k l.state c.state) (and_from (eqb l.node c.node) (leb l.hops c.hops) (eq-eqb _ _ node) (le-leb _ _ hops)) covers

  pub beaten_front : (c : Label S) (xs ys : List (Label S)) → beaten m k c (xs ++ ys) ≡ false → beaten m k c xs ≡ false
  beaten_front c [] ys h = refl
  beaten_front c (x ∷ xs) ys h =
      let parts = or_parts (beats m k x c) (beaten m k c (xs ++ ys)) h in
      ap (λ t. t || beaten m k c xs) parts.0 ∙ beaten_front c xs ys parts.1

  pub beaten_more : (c : Label S) (xs ys : List (Label S)) → beaten m k c xs ≡ true → beaten m k c (xs ++ ys) ≡ true
  beaten_more c xs ys h =
      ⊎_elim (λ e. e) (λ e. absurd (both_ways _ (beaten_front c xs ys e) h)) (cases_Bool (beaten m k c (xs ++ ys)))

  pub beaten_at : (c : Label S) (xs : List (Label S)) → beaten m k c xs ≡ false → (i : ℕ) (d : Label S) → i < length xs → beats m k (get_or xs i d) c ≡ false
  beaten_at c [] h i d lt = absurd (omega arith)
  beaten_at c (x ∷ xs) h zero d lt = (or_parts (beats m k x c) (beaten m k c xs) h).0
  beaten_at c (x ∷ xs) h (suc i) d lt = beaten_at c xs (or_parts (beats m k x c) (beaten m k c xs) h).1 i d (omega arith)

  pub beaten_by : (c : Label S) (xs : List (Label S)) → beaten m k c xs ≡ true → (d : Label S) → (i : ℕ) × (i < length xs) × (beats m k (get_or xs i d) c ≡ true)
  beaten_by c [] h d = absurd (both_ways false refl h)
  beaten_by c (x ∷ xs) h d =
      ⊎_elim
      (λ here. (0, omega arith, here))
      (λ later. let (i, lt, b) = beaten_by c xs later d in (suc i, omega arith, b))
      (or_cases (beats m k x c) (beaten m k c xs) h)

  pub beaten_last : (laws : Laws m) (c : Label S) (xs : List (Label S)) → beaten m k c (xs ++ c ∷ []) ≡ true
  beaten_last laws c [] =
      or_left (beats m k c c) false (beats_from c c refl (omega arith) (laws.itself k c.state))
  beaten_last laws c (x ∷ xs) = or_right (beats m k x c) (beaten m k c (xs ++ c ∷ [])) (beaten_last laws c xs)

-- c was made of label n, which is l, when ls were there
pub record Made {K S U : Type 0} (m : Model K S U) (k : K) (flags : List Bool) (links : List (Link U)) (n : ℕ) (l : Label S) (ls : List (Label S)) (c : Label S) : Type 0 where
  pub number : ℕ
  pub link : Link U
  pub inside : number < length links
  pub read : link ≡ get_or links number link
  pub opened : is_open flags number ≡ true
  pub starts : link.tail ≡ l.node
  pub is : c ≡ candidate m k n l number link
  pub within : m.within k c.state ≡ true
  pub unbeaten : beaten m k c ls ≡ false

module _ {K S U : Type 0} (m : Model K S U) (k : K) (flags : List Bool) (n : ℕ) (l : Label S) where
  -- the labels that trying the links `rest`, numbered from i on, adds to ls
  record Adds (all rest : List (Link U)) (ls ls' : List (Label S)) : Type 0 where
    more : List (Label S)
    is : ls' ≡ ls ++ more
    each : AllByRecursion (Made m k flags all n l ls) more

  one : (all : List (Link U)) (i : ℕ) (link : Link U) (ls : List (Label S)) → i < length all → link ≡ get_or all i link → Adds all (link ∷ []) ls (tried m k flags n l i link ls)
  one all i link ls lt read =
      ⊎_elim
      (λ tries-it.
      let parts = and_parts _ _ tries-it in
      let c = candidate m k n l i link in
      ⊎_elim
      (λ keeps.
      let kept = and_parts _ _ keeps in
      record {
        more = c ∷ [];
        is = cond-true _ _ _ tries-it ∙ cond-true _ _ _ keeps;
        each = (record { number = i; link = link; inside = lt; read = read; opened = parts.0; starts = eqb-true _ _ parts.1; is = refl; within = kept.0; unbeaten = not-true _ kept.1 }, tt);
      })
      (λ drops. record { more = []; is = cond-true _ _ _ tries-it ∙ cond-false _ _ _ drops ∙ sym (append-nil ls); each = tt })
      (cases_Bool (m.within k c.state && not (beaten m k c ls))))
      (λ skips. record { more = []; is = cond-false _ _ _ skips ∙ sym (append-nil ls); each = tt })
      (cases_Bool (is_open flags i && eqb link.tail l.node))

  weaken : (all : List (Link U)) (ls more : List (Label S)) (c : Label S) → Made m k flags all n l (ls ++ more) c → Made m k flags all n l ls c
  weaken all ls more c h = record {
    number = h.number;
    link = h.link;
    inside = h.inside;
    read = h.read;
    opened = h.opened;
    starts = h.starts;
    is = h.is;
    within = h.within;
    unbeaten = beaten_front m k c ls more h.unbeaten;
  }

  adds : (all : List (Link U)) (rest : List (Link U)) (i : ℕ) (ls : List (Label S)) → rest ≡ drop i all → Adds all rest ls (tries m k flags n l i rest ls)
  unfolding tries
  adds all [] i ls e = record { more = []; is = sym (append-nil ls); each = tt }
  adds all (link ∷ rest) i ls e =
      let (lt, read, next) = drop_view all i link rest e in
      let a = one all i link ls lt read in
      let b = adds all rest (i + 1) (tried m k flags n l i link ls) next in
      record {
        more = a.more ++ b.more;
        is = b.is ∙ ap (λ x. x ++ b.more) a.is ∙ append_assoc ls a.more b.more;
        each = All-append (Made m k flags all n l ls) a.more b.more a.each
            (All-weaker (Made m k flags all n l (tried m k flags n l i link ls)) (Made m k flags all n l ls)
            (λ c h. weaken all ls a.more c (subst (λ x. Made m k flags all n l x c) a.is h)) b.more b.each);
      }

  pub tries_adds : (all : List (Link U)) (ls : List (Label S)) → (more : List (Label S)) × (tries m k flags n l 0 all ls ≡ ls ++ more) × AllByRecursion (Made m k flags all n l ls) more
  tries_adds all ls = let a = adds all all 0 ls refl in (a.more, a.is, a.each)

  -- a link that was tried left a label that beats its candidate, if that is within
  module _ (laws : Laws m) where
    offered-beats : (c : Label S) (ls : List (Label S)) → m.within k c.state ≡ true → beaten m k c (offered m k c ls) ≡ true
    offered-beats c ls w =
        ⊎_elim
        (λ b. subst (λ x. beaten m k c x ≡ true) (sym (cond-false _ _ _ (and_right (m.within k c.state) (not (beaten m k c ls)) (not_from_true _ b)))) b)
        (λ b. subst (λ x. beaten m k c x ≡ true) (sym (cond-true _ _ _ (and_from (m.within k c.state) (not (beaten m k c ls)) w (not_from_false _ b)))) (beaten_last m k laws c ls))
        (cases_Bool (beaten m k c ls))

    closed : (all : List (Link U)) (rest : List (Link U)) (i : ℕ) (ls : List (Label S)) → rest ≡ drop i all → (j : ℕ) (link : Link U) → i ≤ j → j < length all → link ≡ get_or all j link → is_open flags j ≡ true → link.tail ≡ l.node → m.within k (candidate m k n l j link).state ≡ true → beaten m k (candidate m k n l j link) (tries m k flags n l i rest ls) ≡ true
    unfolding tries
    closed all [] i ls e j link le lt read o t w = absurd (let f = ap length e in omega (arith, length-drop i all))
    closed all (x ∷ rest) i ls e j link le lt read o t w =
        let (here, first, next) = drop_view all i x rest e in
        ⊎_elim
        (λ later. closed all rest (i + 1) (tried m k flags n l i x ls) next j link (omega arith) lt read o t w)
        (λ ge.
        let same : j ≡ i = omega arith in
        let link_is : link ≡ x = read ∙ ap (λ a. get_or all a link) same ∙ get_or_default all i link x here ∙ sym first in
        let over : tried m k flags n l i x ls ≡ offered m k (candidate m k n l j link) ls = ap₂ (λ a b. tried m k flags n l a b ls) (sym same) (sym link_is) ∙ tried_over m k flags n l j link ls o t in
        let rest-grows = tries_grows m k flags n l (i + 1) rest (tried m k flags n l i x ls) in
        subst (λ y. beaten m k (candidate m k n l j link) y ≡ true) (sym rest-grows.is)
        (beaten_more m k (candidate m k n l j link) (tried m k flags n l i x ls) rest-grows.more
        (subst (λ y. beaten m k (candidate m k n l j link) y ≡ true) (sym over) (offered-beats (candidate m k n l j link) ls w))))
        (cases_lt i j)

    pub tries_closed : (all : List (Link U)) (ls : List (Label S)) (j : ℕ) (link : Link U) → j < length all → link ≡ get_or all j link → is_open flags j ≡ true → link.tail ≡ l.node → m.within k (candidate m k n l j link).state ≡ true → beaten m k (candidate m k n l j link) (tries m k flags n l 0 all ls) ≡ true
    tries_closed all ls j link lt read o t w = closed all all 0 ls refl j link (omega arith) lt read o t w

  pub weaken_to : (all : List (Link U)) (ls : List (Label S)) (n' : ℕ) (c : Label S) → Made m k flags all n l ls c → Made m k flags all n l (take n' ls) c
  weaken_to all ls n' c h = weaken all (take n' ls) (drop n' ls) c (subst (λ x. Made m k flags all n l x c) (sym (take-append-drop n' ls)) h)
