-- The lines up to the one that makes a net, and those after it. Assumes nothing.
use Rattle.std.proofs.Common.{◌≡◌, ℕ, ◌+◌, List, [], ◌∷◌, ◌++◌, Some, Ok, Err, Result, sym, ap, ◌∙◌, append_assoc, arith}
use Rattle.reader.specs.Steps.{lines_left, line_number, fields_left, SameLine, ToLine}
use Rattle.reader.specs.declared.Reader.{Reader}
use Rattle.orders.specs.Desk.{no_net, net_reply, net_made, desk_after}
use Rattle.forms.specs.Faults.{Blame}
use Rattle.orders.specs.Finds.{text_of, NetFound}
use Rattle.orders.specs.Lines.{reply_line}
use Rattle.forms.specs.Nets.{net_line}
use Rattle.forms.specs.declared.NetOrder.{NetOrder}

-- one part more of all that is to be written
pub part_more : {A : Type 0} (all out out' part rest : List A) → all ≡ out ++ (part ++ rest) → out' ≡ out ++ part → all ≡ out' ++ rest
part_more all out out' part rest is wrote = is ∙ sym (append_assoc out part rest) ∙ ap (λ l. l ++ rest) (sym wrote)

module _ (n : ℕ) (ls : List (List ℕ)) (out : List ℕ) where
  -- the lines so far made no net
  pub record Sofar (r : Reader) (out' : List ℕ) : Type 0 where
    pub texts : out ++ text_of no_net n ls ≡ out' ++ text_of no_net (line_number r) (lines_left r)
    pub desks : desk_after no_net ls ≡ desk_after no_net (lines_left r)

  -- the reader steps to line k, which is read as x and answered
  module _ (r : Reader) (out₁ : List ℕ) (h : Sofar r out₁) (k : ℕ) (r₁ r₂ : Reader) (step : ToLine r k r₁) (line : SameLine r₁ r₂) where
    one_text : (x : Result NetOrder Blame) → x ≡ net_line (fields_left r₁) → (out' : List ℕ) → out' ≡ out₁ ++ (reply_line k (net_reply x) ++ 10 ∷ []) → out ++ text_of no_net n ls ≡ out' ++ text_of (net_made x) (line_number r₂) (lines_left r₂)
    one_text x is out' wrote =
        part_more _ out₁ out' (reply_line k (net_reply x) ++ 10 ∷ []) (text_of (net_made x) (line_number r₂) (lines_left r₂)) (
        h.texts
        ∙ ap (λ ls'. out₁ ++ text_of no_net (line_number r) ls') step.was
        ∙ ap (λ y. out₁ ++ (reply_line (line_number r + 1) (net_reply y) ++ 10 ∷ text_of (net_made y) (line_number r + 1) (lines_left r₁))) (sym (is ∙ ap net_line step.opened))
        ∙ ap (λ m. out₁ ++ (reply_line m (net_reply x) ++ 10 ∷ text_of (net_made x) m (lines_left r₁))) (sym step.counted)
        ∙ ap (λ m. out₁ ++ (reply_line k (net_reply x) ++ 10 ∷ text_of (net_made x) m (lines_left r₁))) (sym (line.1 ∙ step.kept))
        ∙ ap (λ ls'. out₁ ++ (reply_line k (net_reply x) ++ 10 ∷ text_of (net_made x) (line_number r₂) ls')) (sym line.0)
        ∙ ap (λ l. out₁ ++ l) (sym (append_assoc (reply_line k (net_reply x)) (10 ∷ []) (text_of (net_made x) (line_number r₂) (lines_left r₂))))
        ) wrote

    one_desk : (x : Result NetOrder Blame) → x ≡ net_line (fields_left r₁) → desk_after no_net ls ≡ desk_after (net_made x) (lines_left r₂)
    one_desk x is =
        h.desks
        ∙ ap (desk_after no_net) step.was
        ∙ ap (λ y. desk_after (net_made y) (lines_left r₁)) (sym (is ∙ ap net_line step.opened))
        ∙ ap (desk_after (net_made x)) (sym line.0)

    pub one_refused : (b : Blame) (out' : List ℕ) → Err b ≡ net_line (fields_left r₁) → out' ≡ out₁ ++ (reply_line k (net_reply (Err b)) ++ 10 ∷ []) → Sofar r₂ out'
    one_refused b out' is wrote = record { texts = one_text (Err b) is out' wrote; desks = one_desk (Err b) is }

    pub one_made : (net : NetOrder) (out' : List ℕ) → Ok net ≡ net_line (fields_left r₁) → out' ≡ out₁ ++ (reply_line k (net_reply (Ok net)) ++ 10 ∷ []) → NetFound n ls out (Some net) (line_number r₂) (lines_left r₂) out'
    one_made net out' is wrote = record {
      texts = one_text (Ok net) is out' wrote;
      desks = one_desk (Ok net) is;
      ended = λ none. absurd (let z : ◌≡◌ {A = ℕ} 0 1 = cc in omega arith);
    }
