use Rattle.std.proofs.Common.{cond, nat_le, ap, rules}
use borrow.Author.Tests.{tests}
use Rattle.kinds.specs.Budget.{raised}
use Rattle.kinds.specs.declared.budget.BudgetState.{BudgetState}
use Rattle.kinds.proofs.Filling.{filled_by}
use Rattle.kinds.proofs.budget.rules.BudgetKind.extend.Goals as goal

pub returns : goal.returns
returns c =
    ap {B = BudgetState} (λ ws. record { worst = ws })
    (filled_by _ _ (λ i. cond (nat_le i c.args.self.now.allowance) (raised c.args.state.now c.args.taken.now i) 0) c.from_fn.result (λ i y q k. search (rules, tests)) 9 0 c.from_fn.ensures.items)
