-- Calls performed one after another. Assumes nothing.
use Rattle.std.proofs.Common.{◌≡◌, ℕ, min, Bool, false, List, [], ◌∷◌, ◌++◌, map, length, take, fold, sym, refl, ap, ◌∙◌, subst, ap₂, arith}
use Rattle.std.proofs.lemmas.List.{map_push}
use Rattle.kinds.specs.Kinds.{Model}
use Rattle.search.specs.declared.label.Link.{Link}
use Rattle.net.specs.Ledger.{Ledger, Site, answer, next, after, answers, begun}
use Rattle.net.specs.Matching.{Matches, Follows}
use Rattle.net.specs.Performed.{Reply, told_of, is_serving, nodes_of, links_of, Sofar, Ran}
use Rattle.net.specs.Questions.{Told, node_count}
use Rattle.slice_vec.specs.Tables.{Table, table, listed}
use Rattle.net.specs.declared.types.Call.{Call}
use Rattle.net.specs.declared.types.Net.{Net}
use Rattle.net.specs.declared.types.Stream.{Stream}

module _ {K S U : Type 0} (m : Model K S U) (site : Site) where
  answers_push : (s : Ledger K U) (calls : List (Call K U)) (c : Call K U) → answers m site s (calls ++ c ∷ []) ≡ answers m site s calls ++ answer m site (fold (next m site) s calls) c ∷ []
  answers_push s [] c = refl
  answers_push s (x ∷ calls) c = ap (λ l. answer m site s x ∷ l) (answers_push (next m site s x) calls c)

  pub ran_none : (n : Net K S U) (b : Table Stream) → Matches {K = K} site begun (is_serving n) (nodes_of n) (links_of n) b → Sofar m site [] n b []
  ran_none n b h = record { matches = h; answered = refl }

  pub ran_more : (calls more : List (Call K U)) (c : Call K U) → more ≡ calls ++ c ∷ [] → (n : Net K S U) (b : Table Stream) (list : List Reply) → Sofar m site calls n b list → (n' : Net K S U) (b' : Table Stream) (a : Reply) (list' : List Reply) → list' ≡ list ++ a ∷ [] → Follows m site calls c (told_of a) (is_serving n') (nodes_of n') (links_of n') b' → Sofar m site more n' b' list'
  ran_more calls more c is-more n b list h n' b' a list' is f =
      record {
        matches = subst (λ cs. Matches site (after m site cs) (is_serving n') (nodes_of n') (links_of n') b') (sym is-more) f.1;
        answered =
            ap (map told_of) is
            ∙ map_push told_of list a
            ∙ ap₂ (λ l (x : Told). l ++ x ∷ []) h.answered f.0
            ∙ sym (answers_push begun calls c)
            ∙ ap (answers m site begun) (sym is-more);
      }

  pub ran_as : (calls : List (Call K U)) (n : Net K S U) (b : Table Stream) (list : List Reply) → Sofar m site calls n b list → (serving : Bool) (t : Table (Link U)) (b' : Table Stream) (list' : List Reply) → serving ≡ is_serving n → t ≡ links_of n → b' ≡ b → list' ≡ list → Ran m site calls serving t b' list'
  ran_as calls n b list h serving t b' list' is-serving-now is-t is_b is-list = record {
    serving_is = is-serving-now ∙ sym h.matches.serving_is;
    links_are = ap (listed 512) is-t ∙ h.matches.links_are;
    records_are = ap (listed 64) is_b ∙ h.matches.streams_are;
    answered = ap (map told_of) is-list ∙ h.answered;
  }

-- a net and a book made new
pub new_matches : {K U : Type 0} (site : Site) (nodes : ℕ) (t : Table (Link U)) (b : Table Stream) (links : List (Link U)) (streams : List Stream) → nodes ≡ node_count site.nodes → t ≡ table 0 links → b ≡ table 0 streams → length links ≡ site.link_places → length streams ≡ site.stream_places → Matches {K = K} site begun false nodes t b
new_matches {K} site nodes t b links streams is-nodes is-t is_b link_room stream_room =
    subst (λ x. Matches {K = K} site begun false nodes x b) (sym is-t)
    (subst (λ x. Matches {K = K} site begun false nodes (table 0 links) x) (sym is_b)
    record {
      serving_is = refl;
      nodes_are = is-nodes;
      link_room = link_room;
      stream_room = stream_room;
      links_are = none_listed 512 links;
      streams_are = none_listed 64 streams;
    })
  where
    none_listed : {X : Type 0} (cap : ℕ) (xs : List X) → listed cap (table 0 xs) ≡ []
    none_listed cap xs = let z : min 0 (min cap (length xs)) ≡ 0 = omega arith in ap (λ n. take n xs) z
