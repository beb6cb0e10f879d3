-- What two kinds joined compute. Assumes nothing.
use Rattle.std.specs.Prelude.{◌≡◌, ◌&&◌, List, map}
use Rattle.kinds.specs.Kinds.{Model, along}
use Rattle.kinds.specs.declared.pair.Pair.{Pair}
use Rattle.kinds.specs.declared.pair.PairState.{PairState}
use Rattle.kinds.specs.declared.pair.PairUse.{PairUse}

module _ {J K S T U V : Type 0} (m : Model J S U) (n : Model K T V) where
  abbrev pub pair_model : Model (Pair J K) (PairState S T) (PairUse U V)
  pair_model = record {
    start = λ k. record { first = m.start k.first; second = n.start k.second };
    extended = λ k s u. record { first = m.extended k.first s.first u.first; second = n.extended k.second s.second u.second };
    within = λ k s. m.within k.first s.first && n.within k.second s.second;
    covers = λ k a b. m.covers k.first a.first b.first && n.covers k.second a.second b.second;
    figure = λ k s. m.figure k.first s.first;
  }

  -- what the state of a pair says of the route: it is the pair of its parts' states
  pub record Parts (k : Pair J K) (us : List (PairUse U V)) (s : PairState S T) : Type 0 where
    pub state : s ≡ along pair_model k us
    pub first : s.first ≡ along m k.first (map (λ u. u.first) us)
    pub second : s.second ≡ along n k.second (map (λ u. u.second) us)
