use Rattle.std.proofs.Common.{rules, codes, sym, ap, arith}
use Rattle.forms.specs.Orders.{order_of}
use Rattle.forms.proofs.Words.{word_read}
use Rattle.forms.proofs.order.OrderTryFromRefSliceU8.try_from.Goals as goal

pub returns-in-release : goal.returns-in-release
returns-in-release c = sym (ap order_of (word_read c.args.word.now (codes "release") (omega arith) (search rules)))

pub returns-in-withdraw : goal.returns-in-withdraw
returns-in-withdraw c = sym (ap order_of (word_read c.args.word.now (codes "withdraw") (omega arith) (search rules)))
