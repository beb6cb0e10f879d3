-- A booking: what the search's answer says of it. Assumes nothing.
use Rattle.std.proofs.Common.{◌≡◌, ℕ, suc, ◌+◌, ◌-◌, ◌<◌, ◌≤◌, Bool, true, false, cond, ◌&&◌, eqb, ltb, leb, List, [], ◌∷◌, ◌++◌, length, get_or, take, drop, replicate, Some, None, Ok, Err, Option, sym, refl, ap, ◌∙◌, ap₂, ⊎_elim, arith, length-append, length-drop}
use lib.ListN.{get_or-replicate}
use Rattle.std.proofs.lemmas.List.{same_lists, length-map, length-take-le, get_or_append_left, get_or-append_right, get_or-take, get_or-drop}
use Rattle.std.proofs.lemmas.Bool.{cases_Bool, cond-true, cond-false, eq-eqb, ne_eqb, ltb-false, leb-true, leb-false, le-leb, lt-ltb, cases_lt}
use Rattle.kinds.specs.Kinds.{Model, Laws}
use Rattle.search.specs.Answers.{best, fault_number, answer, answer_of}
use Rattle.search.specs.Routes.{route_of}
use Rattle.search.specs.Rule.{Query, made}
use Rattle.slice_vec.specs.Tables.{Table, room, listed, stored, put, pushed}
use Rattle.search.specs.declared.answer.Best.{Best}
use Rattle.search.specs.declared.answer.Found.{Found}
use Rattle.search.specs.declared.answer.SearchFault.{SearchFault}
use Rattle.search.specs.declared.answer.SearchFault.TheVariants.{Full, NoRoute}
use Rattle.search.specs.declared.label.Label.{Label}
use Rattle.search.specs.declared.label.Link.{Link}
use Rattle.search.proofs.Promised.{best_inside, best_cheapest, stored-route}
use Rattle.net.specs.Calls.{numbers_of, booking, first_refusal, recorded, recorded_as, written, entered, Books, book_told_by, book_left, labels_left}
use Rattle.net.specs.Questions.{unless, net_fault_number, book_refusal, route_refusal, found_of, search_told}
use Rattle.net.specs.Tables.{place_of, sixteen}
use Rattle.net.specs.declared.types.NetFault.{NetFault}
use Rattle.net.specs.declared.types.NetFault.TheVariants.{NodeCount, Tail, Head, LinkEnds, LinksFull, NoLink, StreamZero, StreamTaken, BookFull, Source, Target, StreamEnds, Rate, HopLimit, Search, NoStream, ListShort}
use Rattle.net.specs.declared.types.Request.{Request}
use Rattle.net.specs.declared.types.Stream.{Stream}
use Rattle.slice_vec.proofs.Tables.{length_within}

-- no refusal has the number 0
pub fault_some : (f : NetFault) → net_fault_number f ≡ 0 → ⊥
fault_some NodeCount e = omega arith
fault_some Tail e = omega arith
fault_some Head e = omega arith
fault_some LinkEnds e = omega arith
fault_some LinksFull e = omega arith
fault_some NoLink e = omega arith
fault_some StreamZero e = omega arith
fault_some StreamTaken e = omega arith
fault_some BookFull e = omega arith
fault_some Source e = omega arith
fault_some Target e = omega arith
fault_some StreamEnds e = omega arith
fault_some Rate e = omega arith
fault_some HopLimit e = omega arith
fault_some (Search Full) e = omega arith
fault_some (Search NoRoute) e = omega arith
fault_some NoStream e = omega arith
fault_some ListShort e = omega arith

-- a fault that says what `unless` says is the refusal
pub refused_by : (refusal : ℕ) (values : List ℕ) (f : NetFault) → (net_fault_number f, []) ≡ unless refusal values → refusal ≡ net_fault_number f
refused_by refusal values f e =
    ⊎_elim
    (λ t. absurd (fault_some f (ap (λ x. x.0) (e ∙ cond-true _ _ _ t))))
    (λ t. sym (ap (λ x. x.0) (e ∙ cond-false _ _ _ t)))
    (cases_Bool (eqb refusal 0))

module _ {K S U : Type 0} (m : Model K S U) (q : Query K U) (places : ℕ) where
  -- the booking's answer is the search's without the label's number
  search_told_is : search_told m q places ≡ ((answer m q places).0, drop 1 (answer m q places).1)
  search_told_is = by_fit (ltb places (length (made m q))) (best m q.kind q.target (made m q))
    where
      by_fit : (full : Bool) (b : Option Best) → cond full (16, []) (found_of b (length (made m q))) ≡ ((cond full (16, []) (answer_of b (length (made m q)))).0, drop 1 (cond full (16, []) (answer_of b (length (made m q)))).1)
      by_fit true b = refl
      by_fit false None = refl
      by_fit false (Some b) = refl

  pub search_told_err : (f : SearchFault) → (fault_number f, []) ≡ answer m q places → search_told m q places ≡ (fault_number f, [])
  search_told_err f e = search_told_is ∙ ap (λ a. (a.0, drop 1 a.1)) (sym e)

  pub search_told_ok : (f : Found) → (0, f.label ∷ f.figure ∷ f.hops ∷ f.count ∷ []) ≡ answer m q places → search_told m q places ≡ (0, f.figure ∷ f.hops ∷ f.count ∷ [])
  search_told_ok f e = search_told_is ∙ ap (λ a. (a.0, drop 1 a.1)) (sym e)

  -- the label that an accepted search answers is the best
  pub record Answered (f : Found) : Type 0 where
    pub label : Best
    pub is_best : best m q.kind q.target (made m q) ≡ Some label
    pub label_is : label.label ≡ f.label
    pub figure_is : label.figure ≡ f.figure
    pub hops_is : label.hops ≡ f.hops
    pub fits : length (made m q) ≤ places

  pub answered : (f : Found) → (0, f.label ∷ f.figure ∷ f.hops ∷ f.count ∷ []) ≡ answer m q places → Answered f
  answered f e =
      ⊎_elim
      (λ full. absurd (let z = ap (λ x. x.0) (e ∙ cond-true _ _ _ full) in omega arith))
      (λ fits. by_best (best m q.kind q.target (made m q)) refl fits (e ∙ cond-false _ _ _ fits))
      (cases_Bool (ltb places (length (made m q))))
    where
      by_best : (b : Option Best) → best m q.kind q.target (made m q) ≡ b → ltb places (length (made m q)) ≡ false → (0, f.label ∷ f.figure ∷ f.hops ∷ f.count ∷ []) ≡ answer_of (best m q.kind q.target (made m q)) (length (made m q)) → Answered f
      by_best None is fits a = absurd (let z = ap (λ x. x.0) (a ∙ ap (λ o. answer_of o (length (made m q))) is) in omega arith)
      by_best (Some b) is fits a =
          let values = ap (λ x. x.1) (a ∙ ap (λ o. answer_of o (length (made m q))) is) in
          record {
            label = b;
            is_best = is;
            label_is = sym (ap (λ l. get_or l 0 0) values);
            figure_is = sym (ap (λ l. get_or l 1 0) values);
            hops_is = sym (ap (λ l. get_or l 2 0) values);
            fits = ltb-false _ _ fits;
          }

-- a question that was not answered no
pub none_of : (n : ℕ) (b : Bool) (rest : ℕ) → cond b (suc n) rest ≡ 0 → rest ≡ 0
none_of n true rest e = absurd (omega arith)
none_of n false rest e = e

pub is_false : (n : ℕ) (b : Bool) (rest : ℕ) → cond b (suc n) rest ≡ 0 → b ≡ false
is_false n true rest e = absurd (omega arith)
is_false n false rest e = refl

-- a hop limit that is let through is at most sixteen
hop_limit_fits : (nodes : ℕ) (r : Request) → route_refusal nodes r ≡ 0 → r.hop_limit ≤ 16
hop_limit_fits nodes r e =
    let d = none_of 13 (eqb r.rate 0) _ (none_of 12 (eqb r.source r.target) _ (none_of 11 (leb nodes r.target) _ (none_of 10 (leb nodes r.source) _ e))) in
    last (leb 1 r.hop_limit) (leb r.hop_limit 16) d (leb-true r.hop_limit 16)
  where
    last : (a b : Bool) → ◌≡◌ {A = ℕ} (cond (a && b) 0 15) 0 → (b ≡ true → r.hop_limit ≤ 16) → r.hop_limit ≤ 16
    last true true e h = h refl
    last true false e h = absurd (omega arith)
    last false b e h = absurd (omega arith)

-- what the questions before the search tell of a booking that passes them
pub record Passed (nodes places : ℕ) (numbers : List ℕ) (r : Request) : Type 0 where
  pub room : length numbers < places
  pub hops : r.hop_limit ≤ 16

pub passed : (nodes places : ℕ) (numbers : List ℕ) (r : Request) → book_refusal nodes places numbers r ≡ 0 → Passed nodes places numbers r
passed nodes places numbers r e =
    let a = none_of 7 (eqb r.stream 0) _ e in
    let b = none_of 8 (ltb (place_of r.stream numbers) (length numbers)) _ a in
    let c = none_of 9 (leb places (length numbers)) (route_refusal nodes r) b in
    record { room = leb-false _ _ (is_false 9 (leb places (length numbers)) (route_refusal nodes r) b); hops = hop_limit_fits nodes r c }

written_is : (p : List ℕ) → length p ≤ 16 → written p ≡ sixteen p
written_is p le =
    cond-true _ _ _ (le-leb _ _ le)
    ∙ same_lists (p ++ drop (length p) (replicate 16 0)) (take 16 (p ++ replicate 16 0)) lengths (λ k d lt. places k d lt)
  where
    lengths : length (p ++ drop (length p) (replicate 16 0)) ≡ length (take 16 (p ++ replicate 16 0))
    lengths = length-append p (drop (length p) (replicate 16 0)) ∙ ap (λ n. length p + n) (length-drop (length p) (replicate 16 0)) ∙ omega arith ∙ sym (length-take-le 16 (p ++ replicate 16 0) (omega (arith, length-append p (replicate 16 0))))

    zeros : (i : ℕ) (d : ℕ) → i < 16 → get_or (replicate 16 0) i d ≡ 0
    zeros i d lt = get_or-replicate 16 i 0 d lt

    places : (k : ℕ) (d : ℕ) → k < length (p ++ drop (length p) (replicate 16 0)) → get_or (p ++ drop (length p) (replicate 16 0)) k d ≡ get_or (take 16 (p ++ replicate 16 0)) k d
    places k d lt =
        let long : length (p ++ drop (length p) (replicate 16 0)) ≡ 16 = lengths ∙ length-take-le 16 (p ++ replicate 16 0) (omega (arith, length-append p (replicate 16 0))) in
        ⊎_elim
        (λ before. get_or_append_left p _ d k before ∙ sym (get_or-take 16 (p ++ replicate 16 0) k d (omega arith) ∙ get_or_append_left p _ d k before))
        (λ after.
        get_or-append_right p (drop (length p) (replicate 16 0)) (length p) k d refl after
        ∙ get_or-drop (length p) (replicate 16 0) (k - length p) d
        ∙ zeros (length p + (k - length p)) d (omega arith)
        ∙ sym (get_or-take 16 (p ++ replicate 16 0) k d (omega arith) ∙ get_or-append_right p (replicate 16 0) (length p) k d refl after ∙ zeros (k - length p) d (omega arith)))
        (cases_lt k (length p))

module _ {K S U : Type 0} (m : Model K S U) (laws : Laws m) (nodes : ℕ) (t : Table (Link U)) (b : Table Stream) (k : K) (r : Request) (labels : List (Label S)) where
  -- the search of the booking, and the first of its questions that is answered no
  abbrev asks : Query K U
  asks = booking m nodes (listed 512 t) (listed 64 b) (room 64 b) k r

  abbrev refusal : ℕ
  refusal = first_refusal m nodes (listed 512 t) (listed 64 b) (room 64 b) k r

  -- a booking that is refused leaves the book as it was
  unbooked : (n : ℕ) → (n ≡ 0 → ⊥) → book_told_by m nodes t b k r (length labels) ≡ (n, []) → b ≡ book_left m nodes t b k r (length labels)
  unbooked n some is = sym (cond-false _ _ _ (ne_eqb (book_told_by m nodes t b k r (length labels)).0 0 (λ z. some (sym (ap (λ x. x.0) is) ∙ z))))

  pub books_refused : (f : NetFault) → (net_fault_number f, []) ≡ unless refusal [] → Books m nodes t b k r labels (Err f) b labels
  books_refused f e =
      let is = refused_by _ _ f e in
      let no = ne_eqb refusal 0 (λ z. fault_some f (sym is ∙ z)) in
      let answer_is : book_told_by m nodes t b k r (length labels) ≡ (net_fault_number f, []) = cond-false _ _ _ no ∙ ap (λ n. (n, [])) is in
      record { answer_is = sym answer_is; left_is = unbooked (net_fault_number f) (fault_some f) answer_is; labels_are = sym (cond-false _ _ _ no) }

  module _ (asked-zero : refusal ≡ 0) where
    told_is : book_told_by m nodes t b k r (length labels) ≡ search_told m asks (length labels)
    told_is = cond-true _ _ _ (eq-eqb _ _ asked-zero)

    labels_searched : (labels' : List (Label S)) → labels' ≡ stored (made m asks) labels → labels' ≡ labels_left m nodes t b k r labels
    labels_searched labels' is = is ∙ sym (cond-true _ _ _ (eq-eqb _ _ asked-zero))

    pub books_unfound : (f : SearchFault) (labels' : List (Label S)) → (fault_number f, []) ≡ answer m asks (length labels) → labels' ≡ stored (made m asks) labels → Books m nodes t b k r labels (Err (Search f)) b labels'
    books_unfound f labels' e stored_is =
        let answer_is = told_is ∙ search_told_err m asks (length labels) f e in
        record { answer_is = sym answer_is; left_is = unbooked (fault_number f) (fault_some (Search f)) answer_is; labels_are = labels_searched labels' stored_is }

    pub books_found : (f : Found) (labels' : List (Label S)) (b' : Table Stream) → (0, f.label ∷ f.figure ∷ f.hops ∷ f.count ∷ []) ≡ answer m asks (length labels) → labels' ≡ stored (made m asks) labels → b.count ≤ room 64 b → b' ≡ pushed 64 (recorded_as r f.figure f.hops (written (route_of labels' f.label))) b → Books m nodes t b k r labels (Ok (f.figure, f.hops, f.count)) b' labels'
    books_found f labels' b' e stored_is within pushed_is =
        let answer_is = told_is ∙ search_told_ok m asks (length labels) f e in
        let a = answered m asks (length labels) f e in
        let x = a.label in
        let cheapest = best_cheapest m laws asks x a.is_best in
        let let_through = passed nodes (room 64 b) (numbers_of (listed 64 b)) r asked-zero in
        let hops_fit : length (route_of (made m asks) x.label) ≤ 16 = omega (arith, cheapest.route.short, let_through.hops) in
        let route-is : route_of labels' f.label ≡ route_of (made m asks) x.label = ap₂ route_of stored_is (sym a.label_is) ∙ stored-route m laws asks labels x.label a.fits (best_inside m laws asks x a.is_best) in
        let record_is : recorded_as r f.figure f.hops (written (route_of labels' f.label)) ≡ recorded_as r x.figure x.hops (sixteen (route_of (made m asks) x.label)) =
        ap₂ (λ x y. recorded_as r x y (written (route_of labels' f.label))) (sym a.figure_is) (sym a.hops_is)
        ∙ ap (recorded_as r x.figure x.hops) (ap written route-is ∙ written_is _ hops_fit) in
        let entered-is : listed 64 b ++ recorded_as r f.figure f.hops (written (route_of labels' f.label)) ∷ [] ≡ entered m nodes (listed 512 t) (listed 64 b) (room 64 b) k r =
        ap (λ s. listed 64 b ++ s ∷ []) record_is
        ∙ sym (ap (λ o. listed 64 b ++ recorded m nodes (listed 512 t) (listed 64 b) (room 64 b) k r o) a.is_best) in
        let free : b.count < room 64 b = omega (arith, let_through.room, length-map (listed 64 b) (λ s. s.number), length_within b 64 within) in
        record {
          answer_is = sym answer_is;
          left_is =
              pushed_is
              ∙ cond-true _ _ _ (lt-ltb _ _ free)
              ∙ ap (λ ss. put ss b) entered-is
              ∙ sym (cond-true _ _ _ (eq-eqb (book_told_by m nodes t b k r (length labels)).0 0 (ap (λ x. x.0) answer_is)));
          labels_are = labels_searched labels' stored_is;
        }
