-- What a turn over the lines keeps, and what the last one shows. Assumes nothing.
use Rattle.std.proofs.Common.{◌≡◌, ℕ, ◌+◌, Bool, false, List, [], ◌∷◌, ◌++◌, Result, sym, ap, ◌∙◌, append_assoc, append-nil}
use Rattle.net.specs.declared.Call.{Call}
use Rattle.reader.specs.Steps.{lines_left, line_number, fields_left, SameLine, ToLine}
use Rattle.reader.specs.declared.Reader.{Reader}
use Rattle.forms.specs.Faults.{Blame}
use Rattle.forms.specs.Forms.{Form, line_call}
use Rattle.orders.specs.Passes.{Entry, refusal_in, serving_by, call_in, reads, calls_in, entries}

module _ {K U : Type 0} (form : Form K U) (all : List (List ℕ)) (first : ℕ) where
  -- the calls and the entries of all lines are those that were read, and those of the lines that are left
  pub record Sofar (calls : List (Call K U)) (read : List Entry) (serving : Bool) (r : Reader) : Type 0 where
    pub calls_are : calls_in (reads form false all) ≡ calls ++ calls_in (reads form serving (lines_left r))
    pub entries_are : entries (first + 1) (reads form false all) ≡ read ++ entries (line_number r + 1) (reads form serving (lines_left r))

  module _ (calls : List (Call K U)) (read : List Entry) (serving : Bool) (r : Reader) (h : Sofar calls read serving r) where
    -- the reader steps to line n, which is read as x
    pub one_read : (n : ℕ) (r₁ r₂ : Reader) (x : Result (Call K U) Blame) (calls' : List (Call K U)) (read' : List Entry) (serving' : Bool) → ToLine r n r₁ → SameLine r₁ r₂ → x ≡ line_call form serving (fields_left r₁) → calls' ≡ calls ++ call_in x → read' ≡ read ++ (n, refusal_in x) ∷ [] → serving' ≡ serving_by x serving → Sofar calls' read' serving' r₂
    one_read n r₁ r₂ x calls' read' serving' step line is p q on =
        let left-reads : reads form serving (lines_left r) ≡ x ∷ reads form serving' (lines_left r₂) =
        ap (reads form serving) step.was
        ∙ ap (λ y. y ∷ reads form (serving_by y serving) (lines_left r₁)) (sym (is ∙ ap (line_call form serving) step.opened))
        ∙ ap (λ b. x ∷ reads form b (lines_left r₁)) (sym on)
        ∙ ap (λ ls. x ∷ reads form serving' ls) (sym line.0) in
        let rest = reads form serving' (lines_left r₂) in
        record {
          calls_are =
              h.calls_are
              ∙ ap (λ rs. calls ++ calls_in rs) left-reads
              ∙ sym (append_assoc calls (call_in x) (calls_in rest))
              ∙ ap (λ cs. cs ++ calls_in rest) (sym p);
          entries_are =
              h.entries_are
              ∙ ap (λ rs. read ++ entries (line_number r + 1) rs) left-reads
              ∙ ap (λ k. read ++ entries k (x ∷ rest)) (sym step.counted)
              ∙ sym (append_assoc read ((n, refusal_in x) ∷ []) (entries (n + 1) rest))
              ∙ ap (λ es. es ++ entries (n + 1) rest) (sym q)
              ∙ ap (λ k. read' ++ entries (k + 1) rest) (sym (line.1 ∙ step.kept));
        }

    pub calls_read : lines_left r ≡ [] → calls ≡ calls_in (reads form false all)
    calls_read end = sym (h.calls_are ∙ ap (λ ls. calls ++ calls_in (reads form serving ls)) end ∙ append-nil calls)

    pub entries_read : lines_left r ≡ [] → read ≡ entries (first + 1) (reads form false all)
    entries_read end = sym (h.entries_are ∙ ap (λ ls. read ++ entries (line_number r + 1) (reads form serving ls)) end ∙ append-nil read)
