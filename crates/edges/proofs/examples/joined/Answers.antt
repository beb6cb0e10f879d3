use Rattle.std.proofs.Common.{refl}
use Rattle.kinds.specs.Views.{itself, of_first, of_second}
use Rattle.edges.proofs.examples.joined.Goals as goal

pub returns : goal.returns
returns g c =
    let m = g.A.Kind.model in
    let n = g.B.Kind.model in
    record {
      pair = (refl, refl);
      itself = (itself, ((λ k. refl), (λ u. refl)));
      parts = record {
        first = λ v. (of_first m n v, ((λ k. refl), (λ u. refl)));
        second = λ v. (of_second m n v, ((λ k. refl), (λ u. refl)));
      };
    }
