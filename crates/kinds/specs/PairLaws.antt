-- Two kinds that keep the laws keep them joined. Assumes nothing.
use Rattle.std.proofs.lemmas.Bool.{and_from, and_parts}
use Rattle.kinds.specs.Kinds.{Model, Laws}
use Rattle.kinds.specs.Pair.{pair_model}

module _ {J K S T U V : Type 0} {m : Model J S U} {n : Model K T V} (a : Laws m) (b : Laws n) where
  pub pair_laws : Laws (pair_model m n)
  pair_laws = record {
    itself = λ k x. and_from _ _ (a.itself k.first x.first) (b.itself k.second x.second);
    chain = λ k x y z p q.
        let p' = and_parts _ _ p in
        let q' = and_parts _ _ q in
        and_from _ _ (a.chain k.first x.first y.first z.first p'.0 q'.0) (b.chain k.second x.second y.second z.second p'.1 q'.1);
    extends = λ k x y u p.
        let p' = and_parts _ _ p in
        and_from _ _ (a.extends k.first x.first y.first u.first p'.0) (b.extends k.second x.second y.second u.second p'.1);
    keeps = λ k x y p q.
        let p' = and_parts _ _ p in
        let q' = and_parts _ _ q in
        and_from _ _ (a.keeps k.first x.first y.first p'.0 q'.0) (b.keeps k.second x.second y.second p'.1 q'.1);
    grows = λ k x u. and_from _ _ (a.grows k.first x.first u.first) (b.grows k.second x.second u.second);
    ranks = λ k x y p. a.ranks k.first x.first y.first (and_parts _ _ p).0;
  }
