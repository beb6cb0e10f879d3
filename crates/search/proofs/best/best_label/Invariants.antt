use Rattle.std.proofs.Common.{◌≡◌, drop}
use Rattle.search.specs.Answers.{weighs, best}
use Rattle.search.proofs.best.best_label.Given as goal

abbrev pub invariant-loop-n : goal.invariant-loop-n
invariant-loop-n g l =
    weighs g.K.Kind.model l.query.kind l.query.target l.so_far l.n (drop l.n l.labels) ≡ best g.K.Kind.model l.query.kind l.query.target l.labels
