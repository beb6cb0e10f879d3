use Rattle.std.proofs.Common.{string_bytes, sym, subst}
use Rattle.reader.specs.Steps.{lines_left, line_number}
use Rattle.orders.specs.Desk.{new_net}
use Rattle.orders.specs.Finds.{Served}
use Rattle.orders.proofs.Desks.{plain_served, gated_served, made_both}
use Rattle.orders.proofs.file.serve_site.Goals as goal

pub returns-in-Plain : goal.returns-in-Plain
returns-in-Plain c =
    made_both c.serve.result (λ _ wrote laws. subst (λ site. Served (new_net site c.args.net.nodes) (line_number c.args.reader.now) (lines_left c.args.reader.now) (string_bytes c.args.out.now) (string_bytes c.serve.new.out)) (sym c.in-Plain.is) (plain_served _ _ _ _ _ wrote laws)) c.serve.ensures.written c.serve.ensures.laws

pub returns-in-Gated : goal.returns-in-Gated
returns-in-Gated c =
    made_both c.serve-in-Gated.result (λ _ wrote laws. subst (λ site. Served (new_net site c.args.net.nodes) (line_number c.args.reader.now) (lines_left c.args.reader.now) (string_bytes c.args.out.now) (string_bytes c.serve-in-Gated.new.out)) (sym c.in-Gated.is) (gated_served _ _ _ _ _ wrote laws)) c.serve-in-Gated.ensures.written c.serve-in-Gated.ensures.laws
