-- The words that a line can begin with, and when each is allowed. Assumes nothing.
use Rattle.std.specs.Prelude.{ℕ, Bool, cond, List, Ok, Err, codes, Result}
use Rattle.std.specs.Str.{bytes_eq}
use Rattle.forms.specs.Faults.{Blame}
use Rattle.forms.specs.declared.order.LayOrder.TheVariants.{Link, Withdraw, Open}
use Rattle.forms.specs.declared.order.Order.{Order}
use Rattle.forms.specs.declared.order.Order.TheVariants.{Net, Lay, Serve}
use Rattle.forms.specs.declared.order.ServeOrder.TheVariants.{Book, Release, Show, Load, Close}

-- the order that a word is, or else 21
abbrev pub order_of : List ℕ → Result Order Blame
order_of bs =
    cond (bytes_eq bs (codes "net")) (Ok Net)
    (cond (bytes_eq bs (codes "link")) (Ok (Lay Link))
    (cond (bytes_eq bs (codes "withdraw")) (Ok (Lay Withdraw))
    (cond (bytes_eq bs (codes "open")) (Ok (Lay Open))
    (cond (bytes_eq bs (codes "book")) (Ok (Serve Book))
    (cond (bytes_eq bs (codes "release")) (Ok (Serve Release))
    (cond (bytes_eq bs (codes "show")) (Ok (Serve Show))
    (cond (bytes_eq bs (codes "load")) (Ok (Serve Load))
    (cond (bytes_eq bs (codes "close")) (Ok (Serve Close)) (Err (21, 0))))))))))

-- is the order allowed on a net in service, or being laid? The net may be changed and opened while it is being laid.
abbrev pub checked : Bool → Order → Result (Unit {0}) Blame
checked serving Net = Err (22, 0)
checked serving (Lay order) = cond serving (Err (22, 0)) (Ok tt)
checked serving (Serve order) = cond serving (Ok tt) (Err (22, 0))
