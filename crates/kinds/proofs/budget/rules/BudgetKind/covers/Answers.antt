use Rattle.std.proofs.Common.{◌+◌, take, nat_le, ap, ◌∙◌, arith}
use Rattle.std.specs.List.{list_all, zip}
use Rattle.kinds.proofs.Covering.{covers_all}
use Rattle.kinds.proofs.budget.rules.BudgetKind.covers.Goals as goal

pub returns : goal.returns
returns c =
    let a = c.args.a.now in
    let b = c.args.b.now in
    c.none_above.ensures
    ∙ ap (λ n. list_all (λ p. nat_le p.0 p.1) (zip (take (n + 1) a.worst) (take (n + 1) b.worst))) c.from-count.ensures
    ∙ covers_all c.args.self.now a b (omega arith) (omega arith)
