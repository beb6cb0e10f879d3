-- Each call, on a net and a book that are the ledger's, does what the ledger does. Assumes nothing.
use Rattle.std.proofs.Common.{◌≡◌, ℕ, suc, ◌<◌, ◌≤◌, min, true, false, cond, eqb, leb, List, [], ◌∷◌, ◌++◌, map, length, take, drop, Some, None, Option, sym, refl, ap, ◌∙◌, subst, ap₂, ⊎_elim, arith, length-append, length-drop}
use mathlib.Core.Path.{fun_ext}
use Rattle.std.specs.List.{remove, AllByRecursion}
use Rattle.std.proofs.lemmas.List.{length-map, length_push, take_at, take-map, drop-map, map-append}
use Rattle.std.proofs.lemmas.List.Sums.{fold_push}
use Rattle.std.proofs.lemmas.Bool.{cases_Bool, cond-true, cond-false, eq-eqb, ne_eqb, eqb-true, eqb-false, leb-false}
use Rattle.kinds.specs.Kinds.{Model}
use Rattle.search.specs.Answers.{best}
use Rattle.search.specs.Routes.{route_of}
use Rattle.search.specs.Rule.{made}
use Rattle.search.specs.declared.answer.Best.{Best}
use Rattle.search.specs.declared.label.Link.{Link}
use Rattle.slice_vec.proofs.Tables.{stored_fits, length-listed, length_removed}
use Rattle.net.specs.Calls.{numbers_of, add_told, add_left, withdraw_told, withdraw_left, release_told, release_left, load_told, booking, recorded, recorded_as, book_told_by, book_left}
use Rattle.net.specs.Ledger.{Ledger, Site, numbers, booked_over, record_of, begun, asks, answer, entered, changed, next, after}
use Rattle.net.specs.Matching.{Matches}
use Rattle.net.specs.Questions.{Told, unless, node_count, add_refusal, link_refusal, book_refusal, stream_refusal, query, search_told}
use Rattle.net.specs.Tables.{place_of, load, sixteen}
use Rattle.slice_vec.specs.Tables.{Table, room, listed, put}
use Rattle.net.specs.declared.types.Call.{Call}
use Rattle.net.specs.declared.types.Call.TheVariants.{Add, Withdraw, Open, Book, Release, Show, Load, Close}
use Rattle.net.specs.declared.types.Request.{Request}
use Rattle.net.specs.declared.types.Stream.{Stream}
use Rattle.net.proofs.Booking.{none_of, is_false, passed}
use Rattle.net.proofs.Standing.{Measured, load_same}
use Rattle.net.proofs.Tabled.{stream_there}

module _ {X : Type 0} (cap : ℕ) (xs : List X) (t : Table X) (fits : length xs ≤ room cap t) where
  length-put : length (put xs t).places ≡ length t.places
  length-put =
      ap length (stored_fits t.places xs (omega arith)) ∙ length-append xs (drop (length xs) t.places) ∙ omega (arith, length-drop (length xs) t.places)

  listed-put : listed cap (put xs t) ≡ xs
  listed-put =
      ap₂ take (ap (λ n. min (length xs) (min cap n)) length-put ∙ omega arith) (stored_fits t.places xs (omega arith))
      ∙ take_at xs (drop (length xs) t.places) (length xs) refl

module _ {K S U : Type 0} (m : Model K S U) (site : Site) where
  pub after_push : (calls : List (Call K U)) (c : Call K U) → after m site (calls ++ c ∷ []) ≡ next m site (after m site calls) c
  after_push calls c = fold_push (next m site) begun calls c

  -- what a call leaves, whether it was refused or not
  next_is : (s : Ledger K U) (c : Call K U) (P : Ledger K U → Type 0) → ((answer m site s c).0 ≡ 0 → P (changed m site s c)) → (((answer m site s c).0 ≡ 0 → ⊥) → P s) → P (next m site s c)
  next_is s c P yes' no' =
      ⊎_elim
      (λ t. subst P (sym (cond-true _ _ _ t)) (yes' (eqb-true _ _ t)))
      (λ t. subst P (sym (cond-false _ _ _ t)) (no' (eqb-false _ _ t)))
      (cases_Bool (eqb (answer m site s c).0 0))

-- a booking that was accepted passed the questions before the search
let_by : (refusal : ℕ) (x : Told) → (cond (eqb refusal 0) x (refusal, [])).0 ≡ 0 → refusal ≡ 0
let_by refusal x e =
    ⊎_elim
    (λ z. eqb-true _ _ z)
    (λ z. ap (λ (y : Told). y.0) (sym (cond-false _ _ _ z)) ∙ e)
    (cases_Bool (eqb refusal 0))

-- the number of an answer that a question decides
unless-number : (refusal : ℕ) (values : List ℕ) → (unless refusal values).0 ≡ refusal
unless-number refusal values =
    ⊎_elim
    (λ z. ap (λ (x : Told). x.0) (cond-true _ _ _ z) ∙ sym (eqb-true _ _ z))
    (λ z. ap (λ (x : Told). x.0) (cond-false _ _ _ z))
    (cases_Bool (eqb refusal 0))

add_room : {U : Type 0} (nodes places count : ℕ) (l : Link U) → add_refusal nodes places count l ≡ 0 → count < places
add_room nodes places count l e =
    leb-false _ _ (is_false 5 (leb places count) 0 (none_of 4 (eqb l.tail l.head) _ (none_of 3 (leb nodes l.head) _ (none_of 2 (leb nodes l.tail) _ e))))

link_there : (count i : ℕ) → link_refusal count i ≡ 0 → i < count
link_there count i e = leb-false _ _ (is_false 6 (leb count i) 0 e)

map-map : {X Y Z : Type 0} (f : X → Y) (g : Y → Z) (xs : List X) → map g (map f xs) ≡ map (λ x. g (f x)) xs
map-map f g [] = refl
map-map f g (x ∷ xs) = ap (λ l. g (f x) ∷ l) (map-map f g xs)

removed_map : {X Y : Type 0} (f : X → Y) (xs : List X) (i : ℕ) → remove (map f xs) i ≡ map f (remove xs i)
removed_map f xs i = ap₂ ◌++◌ (take-map f i xs) (drop-map f (suc i) xs) ∙ sym (map-append f (take i xs) (drop (suc i) xs))

module _ {K S U : Type 0} (m : Model K S U) (site : Site) (s : Ledger K U) (nodes : ℕ) (t : Table (Link U)) (b : Table Stream) where
  module _ (h : Matches site s false nodes t b) where
    laid_told : (x : Told) → cond s.serving (22, []) x ≡ x
    laid_told x = cond-false _ _ _ h.serving_is

    -- the questions of a call are the same on both sides
    add_same : (l : Link U) → add_refusal nodes (room 512 t) (length (listed 512 t)) l ≡ add_refusal (node_count site.nodes) (min 512 site.link_places) (length s.links) l
    add_same l =
        ap (λ n. add_refusal n (room 512 t) (length (listed 512 t)) l) h.nodes_are
        ∙ ap₂ (λ p c. add_refusal (node_count site.nodes) (min 512 p) c l) h.link_room (ap length h.links_are)

    add_answer : (l : Link U) → add_told nodes t l ≡ answer m site s (Add l)
    add_answer l = ap₂ unless (add_same l) (ap (λ n. n ∷ []) (ap length h.links_are)) ∙ sym (laid_told _)

    pub add_matches : (l : Link U) → (add_told nodes t l ≡ answer m site s (Add l)) × Matches site (next m site s (Add l)) false nodes (add_left nodes t l) b
    add_matches l =
        let refusal = add_refusal nodes (room 512 t) (length (listed 512 t)) l in
        let number : (answer m site s (Add l)).0 ≡ refusal = ap (λ (x : Told). x.0) (sym (add_answer l)) ∙ unless-number refusal _ in (
          add_answer l,
          next_is m site s (Add l) (λ s'. Matches site s' false nodes (add_left nodes t l) b)
              (λ yes'.
              let zero_is : refusal ≡ 0 = sym number ∙ yes' in
              let fits : length (listed 512 t ++ l ∷ []) ≤ room 512 t = omega (arith, length_push (listed 512 t) l, add_room nodes (room 512 t) (length (listed 512 t)) l zero_is) in
              subst (λ t'. Matches site (changed m site s (Add l)) false nodes t' b) (sym (cond-true _ _ _ (eq-eqb _ _ zero_is)))
              (record {
                serving_is = h.serving_is;
                nodes_are = h.nodes_are;
                link_room = length-put 512 (listed 512 t ++ l ∷ []) t fits ∙ h.link_room;
                stream_room = h.stream_room;
                links_are = listed-put 512 (listed 512 t ++ l ∷ []) t fits ∙ ap (λ ls. ls ++ l ∷ []) h.links_are;
                streams_are = h.streams_are;
              }))
              (λ no'. subst (λ t'. Matches site s false nodes t' b) (sym (cond-false _ _ _ (ne_eqb refusal 0 (λ z. no' (number ∙ z))))) h),
        )

    withdraw_answer : (i : ℕ) → withdraw_told t i ≡ answer m site s (Withdraw i)
    withdraw_answer i = ap (λ c. unless (link_refusal c i) []) (ap length h.links_are) ∙ sym (laid_told _)

    pub withdraw_matches : (i : ℕ) → (withdraw_told t i ≡ answer m site s (Withdraw i)) × Matches site (next m site s (Withdraw i)) false nodes (withdraw_left t i) b
    withdraw_matches i =
        let refusal = link_refusal (length (listed 512 t)) i in
        let number : (answer m site s (Withdraw i)).0 ≡ refusal = ap (λ (x : Told). x.0) (sym (withdraw_answer i)) ∙ unless-number refusal [] in (
          withdraw_answer i,
          next_is m site s (Withdraw i) (λ s'. Matches site s' false nodes (withdraw_left t i) b)
              (λ yes'.
              let zero_is : refusal ≡ 0 = sym number ∙ yes' in
              let less = length_removed (listed 512 t) i (link_there (length (listed 512 t)) i zero_is) in
              let fits : length (remove (listed 512 t) i) ≤ room 512 t = omega (arith, length-listed t 512) in
              subst (λ t'. Matches site (changed m site s (Withdraw i)) false nodes t' b) (sym (cond-true _ _ _ (eq-eqb _ _ zero_is)))
              (record {
                serving_is = h.serving_is;
                nodes_are = h.nodes_are;
                link_room = length-put 512 (remove (listed 512 t) i) t fits ∙ h.link_room;
                stream_room = h.stream_room;
                links_are = listed-put 512 (remove (listed 512 t) i) t fits ∙ ap (λ ls. remove ls i) h.links_are;
                streams_are = h.streams_are;
              }))
              (λ no'. subst (λ t'. Matches site s false nodes t' b) (sym (cond-false _ _ _ (ne_eqb refusal 0 (λ z. no' (number ∙ z))))) h),
        )

    pub open_matches : ((0, []) ≡ answer m site s Open) × Matches site (next m site s Open) true nodes t b
    open_matches = (
      sym (laid_told _),
      subst (λ s'. Matches site s' true nodes t b) (sym (cond-true _ _ _ (eq-eqb _ _ (ap (λ (x : Told). x.0) (laid_told (0, []))))))
          (record { serving_is = refl; nodes_are = h.nodes_are; link_room = h.link_room; stream_room = h.stream_room; links_are = h.links_are; streams_are = h.streams_are }),
    )

  module _ (h : Matches site s true nodes t b) where
    served_told : (x : Told) → cond s.serving x (22, []) ≡ x
    served_told x = cond-true _ _ _ h.serving_is

    numbers_same : numbers_of (listed 64 b) ≡ numbers s.streams
    numbers_same = ap numbers_of h.streams_are ∙ map-map (λ e. record_of e) (λ r. r.number) s.streams

    release_answer : (n : ℕ) → release_told b n ≡ answer m site s (Release n)
    release_answer n = ap (λ ns. unless (stream_refusal ns n) []) numbers_same ∙ sym (served_told _)

    pub release_matches : (n : ℕ) → (release_told b n ≡ answer m site s (Release n)) × Matches site (next m site s (Release n)) true nodes t (release_left b n)
    release_matches n =
        let refusal = stream_refusal (numbers_of (listed 64 b)) n in
        let number : (answer m site s (Release n)).0 ≡ refusal = ap (λ (x : Told). x.0) (sym (release_answer n)) ∙ unless-number refusal [] in
        let place = place_of n (numbers_of (listed 64 b)) in (
          release_answer n,
          next_is m site s (Release n) (λ s'. Matches site s' true nodes t (release_left b n))
              (λ yes'.
              let zero_is : refusal ≡ 0 = sym number ∙ yes' in
              let there = stream_there (numbers_of (listed 64 b)) n zero_is in
              let less = length_removed (listed 64 b) place (omega (arith, length-map (listed 64 b) (λ r. r.number))) in
              let fits : length (remove (listed 64 b) place) ≤ room 64 b = omega (arith, length-listed b 64) in
              subst (Matches site (changed m site s (Release n)) true nodes t) (sym (cond-true _ _ _ (eq-eqb _ _ zero_is)))
              (record {
                serving_is = h.serving_is;
                nodes_are = h.nodes_are;
                link_room = h.link_room;
                stream_room = length-put 64 (remove (listed 64 b) place) b fits ∙ h.stream_room;
                links_are = h.links_are;
                streams_are = listed-put 64 (remove (listed 64 b) place) b fits ∙ ap₂ remove h.streams_are (ap (place_of n) numbers_same) ∙ removed_map (λ e. record_of e) s.streams (place_of n (numbers s.streams));
              }))
              (λ no'. subst (Matches site s true nodes t) (sym (cond-false _ _ _ (ne_eqb refusal 0 (λ z. no' (number ∙ z))))) h),
        )

    module _ (measured : AllByRecursion Measured s.streams) where
      load_is : load (listed 64 b) ≡ booked_over s.streams
      load_is = ap load h.streams_are ∙ fun_ext (λ i. load_same s.streams measured i)

      pub load_matches : (i : ℕ) → (load_told t b i ≡ answer m site s (Load i)) × Matches site (next m site s (Load i)) true nodes t b
      load_matches i = (
        ap₂ (λ c x. unless (link_refusal c i) (x ∷ [])) (ap length h.links_are) (ap (λ f. f i) load_is) ∙ sym (served_told _),
        next_is m site s (Load i) (λ s'. Matches site s' true nodes t b) (λ _. h) (λ _. h),
      )

    pub show_kept : (n : ℕ) → Matches site (next m site s (Show n)) true nodes t b
    show_kept n = next_is m site s (Show n) (λ s'. Matches site s' true nodes t b) (λ _. h) (λ _. h)

    pub close_matches : ((0, length (listed 64 b) ∷ []) ≡ answer m site s Close) × Matches site (next m site s Close) false nodes t (put [] b)
    close_matches = (
      ap (λ n. (0, n ∷ [])) (ap length h.streams_are ∙ length-map s.streams record_of) ∙ sym (served_told _),
      subst (λ s'. Matches site s' false nodes t (put [] b)) (sym (cond-true _ _ _ (eq-eqb _ _ (ap (λ (x : Told). x.0) (served_told (0, length s.streams ∷ []))))))
          (record {
            serving_is = refl;
            nodes_are = h.nodes_are;
            link_room = h.link_room;
            stream_room = length-put 64 [] b (omega arith) ∙ h.stream_room;
            links_are = h.links_are;
            streams_are = listed-put 64 [] b (omega arith);
          }),
    )

    module _ (measured : AllByRecursion Measured s.streams) where
      -- the search of a booking, and the questions before it
      pub booking_same : (k : K) (r : Request) → booking m nodes (listed 512 t) (listed 64 b) (room 64 b) k r ≡ asks m site s k r
      booking_same k r = ap₂ (λ ls f. query ls f k r) h.links_are (load_is measured)

      pub refusal_same : (r : Request) → book_refusal nodes (room 64 b) (numbers_of (listed 64 b)) r ≡ book_refusal (node_count site.nodes) (min 64 site.stream_places) (numbers s.streams) r
      refusal_same r =
          ap (λ n. book_refusal n (room 64 b) (numbers_of (listed 64 b)) r) h.nodes_are
          ∙ ap₂ (λ p ns. book_refusal (node_count site.nodes) (min 64 p) ns r) h.stream_room numbers_same

      book_answer : (k : K) (r : Request) (places : ℕ) → book_told_by m nodes t b k r (min places site.label_places) ≡ answer m site s (Book r k places)
      book_answer k r places =
          ap₂ (λ n q. cond (eqb n 0) (search_told m q (min places site.label_places)) (n, [])) (refusal_same r) (booking_same k r) ∙ sym (served_told _)

      recorded_same : (k : K) (r : Request) (o : Option Best) → recorded m nodes (listed 512 t) (listed 64 b) (room 64 b) k r o ≡ map record_of (entered m site s k r o)
      recorded_same k r None = refl
      recorded_same k r (Some x) = ap (λ q. recorded_as r x.figure x.hops (sixteen (route_of (made m q) x.label)) ∷ []) (booking_same k r)

      recorded_few : (k : K) (r : Request) (o : Option Best) → length (recorded m nodes (listed 512 t) (listed 64 b) (room 64 b) k r o) ≤ 1
      recorded_few k r None = omega arith
      recorded_few k r (Some x) = omega arith

      pub book_matches : (k : K) (r : Request) (places : ℕ) → (book_told_by m nodes t b k r (min places site.label_places) ≡ answer m site s (Book r k places)) × Matches site (next m site s (Book r k places)) true nodes t (book_left m nodes t b k r (min places site.label_places))
      book_matches k r places =
          let told-by = book_told_by m nodes t b k r (min places site.label_places) in
          let number : (answer m site s (Book r k places)).0 ≡ told-by.0 = ap (λ (x : Told). x.0) (sym (book_answer k r places)) in
          let o = best m k r.target (made m (booking m nodes (listed 512 t) (listed 64 b) (room 64 b) k r)) in
          let all = listed 64 b ++ recorded m nodes (listed 512 t) (listed 64 b) (room 64 b) k r o in (
            book_answer k r places,
            next_is m site s (Book r k places) (λ s'. Matches site s' true nodes t (book_left m nodes t b k r (min places site.label_places)))
                (λ yes'.
                let zero_is : told-by.0 ≡ 0 = sym number ∙ yes' in
                let room-left = (passed nodes (room 64 b) (numbers_of (listed 64 b)) r (let_by (book_refusal nodes (room 64 b) (numbers_of (listed 64 b)) r) _ zero_is)).room in
                let fits : length all ≤ room 64 b = omega (arith, length-append (listed 64 b) (recorded m nodes (listed 512 t) (listed 64 b) (room 64 b) k r o), recorded_few k r o, length-map (listed 64 b) (λ x. x.number)) in
                subst (Matches site (changed m site s (Book r k places)) true nodes t) (sym (cond-true _ _ _ (eq-eqb _ _ zero_is)))
                (record {
                  serving_is = h.serving_is;
                  nodes_are = h.nodes_are;
                  link_room = h.link_room;
                  stream_room = length-put 64 all b fits ∙ h.stream_room;
                  links_are = h.links_are;
                  streams_are =
                      listed-put 64 all b fits
                      ∙ ap₂ ◌++◌ h.streams_are (recorded_same k r o ∙ ap (λ q. map record_of (entered m site s k r (best m k r.target (made m q)))) (booking_same k r))
                      ∙ sym (map-append record_of s.streams (entered m site s k r (best m k r.target (made m (asks m site s k r)))));
                }))
                (λ no'. subst (Matches site s true nodes t) (sym (cond-false _ _ _ (ne_eqb told-by.0 0 (λ z. no' (number ∙ z))))) h),
          )
