-- A desk with a net: the replies and the calls are the site's. Assumes nothing.
use Rattle.std.proofs.Common.{◌≡◌, ℕ, ◌+◌, Bool, true, false, not, List, [], ◌∷◌, ◌++◌, map, IfOk, Ok, Err, Result, sym, refl, ap, ◌∙◌, subst, append-nil}
use Rattle.std.proofs.ByRecursion.{All-weaker}
use Rattle.std.proofs.lemmas.Bool.{and_parts}
use Rattle.std.proofs.lemmas.Bool.Decides.{not_from_Decides}
use Rattle.kinds.proofs.Arrivals.{arrives}
use Rattle.kinds.proofs.Parts.{parts}
use Rattle.kinds.proofs.Passes.{passes}
use Rattle.kinds.specs.Budget.{budget_model}
use Rattle.kinds.specs.Clock.{clock_model}
use Rattle.kinds.specs.Ducts.{ducts_model}
use Rattle.kinds.specs.Kinds.{Model, along}
use Rattle.kinds.specs.Pair.{pair_model}
use Rattle.kinds.specs.Views.{itself, of_second}
use Rattle.kinds.specs.declared.Budget.{Budget}
use Rattle.kinds.specs.declared.BudgetUse.{BudgetUse}
use Rattle.kinds.specs.declared.Clock.{Clock}
use Rattle.kinds.specs.declared.ClockUse.{ClockUse}
use Rattle.kinds.specs.declared.DuctUse.{DuctUse}
use Rattle.kinds.specs.declared.Ducts.{Ducts}
use Rattle.kinds.specs.declared.Pair.{Pair}
use Rattle.kinds.specs.declared.PairUse.{PairUse}
use Rattle.net.specs.Laws.{PromiseOfRun, uses_of}
use Rattle.net.specs.Ledger.{Site, after}
use Rattle.net.specs.declared.Call.{Call}
use Rattle.orders.specs.Desk.{Desk, plain_net, gated_net, plain_model, gated_model, supplied, reply, next_desk, replies, desk_after}
use Rattle.orders.specs.Files.{Promised, Passing, clock_uses, duct_uses}
use Rattle.orders.specs.Finds.{Served}
use Rattle.forms.specs.Forms.{Form, plain_form, gated_form}
use Rattle.orders.specs.Lines.{numbered}
use Rattle.orders.specs.Runs.{reply_to, read_after, calls_with, site_replies, site_calls}
use Rattle.reader.specs.Laws.{with_feeds}

-- a desk that a site's lines lead from: a line gets the site's reply, and its call is added
module _ {K S U : Type 0} (m : Model K S U) (form : Form K U) (site : Site) (desk : List (Call K U) → Desk) (replies-as : (calls : List (Call K U)) (l : List ℕ) → reply (desk calls) l ≡ reply_to m form site calls (read_after m form site calls l)) (leads-to : (calls : List (Call K U)) (l : List ℕ) → next_desk (desk calls) l ≡ desk (calls_with calls (read_after m form site calls l))) where
  desk_replies : (ls : List (List ℕ)) (calls : List (Call K U)) → replies (desk calls) ls ≡ site_replies m form site calls ls
  desk_replies [] calls = refl
  desk_replies (l ∷ ls) calls =
      ap (λ r. r ∷ replies (next_desk (desk calls) l) ls) (replies-as calls l)
      ∙ ap (λ d. reply_to m form site calls (read_after m form site calls l) ∷ replies d ls) (leads-to calls l)
      ∙ ap (λ rs. reply_to m form site calls (read_after m form site calls l) ∷ rs) (desk_replies ls (calls_with calls (read_after m form site calls l)))

  desk_calls : (ls : List (List ℕ)) (calls : List (Call K U)) → desk_after (desk calls) ls ≡ desk (site_calls m form site calls ls)
  desk_calls [] calls = refl
  desk_calls (l ∷ ls) calls = ap (λ d. desk_after d ls) (leads-to calls l) ∙ desk_calls ls (calls_with calls (read_after m form site calls l))

  served : (n : ℕ) (ls : List (List ℕ)) (out out' : List ℕ) → out' ≡ out ++ with_feeds (numbered (n + 1) (site_replies m form site [] ls)) → Promised (desk (site_calls m form site [] ls)) → Served (desk []) n ls out out'
  served n ls out out' wrote holds = record {
    texts = wrote ∙ ap (λ rs. out ++ with_feeds (numbered (n + 1) rs)) (sym (desk_replies ls []));
    promised = subst Promised (sym (desk_calls ls [])) holds;
  }

-- within its limits: no gate had closed, and no duct came twice
passing : (k : Pair Budget (Pair Clock Ducts)) (us : List (PairUse BudgetUse (PairUse ClockUse DuctUse))) → gated_model.within k (along gated_model k us) ≡ true → Passing k.second.first (map (λ u. u.second) us)
passing k us fits =
    let rest = map (λ u. u.second) us in
    let both : (pair_model clock_model ducts_model).within k.second (along (pair_model clock_model ducts_model) k.second rest) ≡ true = subst (λ s. (pair_model clock_model ducts_model).within k.second s ≡ true) (parts budget_model (pair_model clock_model ducts_model) k us).second (and_parts _ _ fits).1 in
    let ends = parts clock_model ducts_model k.second rest in
    let open-still : not (along clock_model k.second.first (clock_uses rest)).shut ≡ true = subst (λ s. not s.shut ≡ true) ends.first (and_parts _ _ both).0 in
    let single : not (along ducts_model k.second.second (duct_uses rest)).doubled ≡ true = subst (λ s. not s.doubled ≡ true) ends.second (and_parts _ _ both).1 in
    record {
      gates_open = λ i lt late. not_from_Decides _ (arrives k.second.first (clock_uses rest)).shut (not_true _ open-still) (i, lt, late);
      ducts_once = not_from_Decides _ (passes k.second.second (duct_uses rest)).doubled (not_true _ single);
    }
  where
    not_true : (b : Bool) → not b ≡ true → b ≡ false
    not_true true e = sym e
    not_true false e = refl

module _ (nodes n : ℕ) (ls : List (List ℕ)) (out out' : List ℕ) where
  pub plain_served : out' ≡ out ++ with_feeds (numbered (n + 1) (site_replies plain_model plain_form (supplied nodes) [] ls)) → PromiseOfRun plain_model (supplied nodes) (site_calls plain_model plain_form (supplied nodes) [] ls) → Served (plain_net nodes []) n ls out out'
  plain_served wrote laws =
      served plain_model plain_form (supplied nodes) (plain_net nodes) (λ calls l. refl) (λ calls l. refl) n ls out out' wrote (
        laws,
        (laws.laws.kept _ [] (sym (append-nil _))).worst (of_second budget_model budget_model itself),
      )

  pub gated_served : out' ≡ out ++ with_feeds (numbered (n + 1) (site_replies gated_model gated_form (supplied nodes) [] ls)) → PromiseOfRun gated_model (supplied nodes) (site_calls gated_model gated_form (supplied nodes) [] ls) → Served (gated_net nodes []) n ls out out'
  gated_served wrote laws =
      served gated_model gated_form (supplied nodes) (gated_net nodes) (λ calls l. refl) (λ calls l. refl) n ls out out' wrote (
        laws,
        All-weaker _ _ (λ e fits. passing e.kind (uses_of gated_model (supplied nodes) (after gated_model (supplied nodes) (site_calls gated_model gated_form (supplied nodes) [] ls)) e) fits) _ (laws.laws.kept _ [] (sym (append-nil _))).limits,
      )

-- what two facts of a result give together
pub made_both : {A E : Type 0} {P Q R : A → Type 0} (r : Result A E) → ((x : A) → P x → Q x → R x) → IfOk r P → IfOk r Q → IfOk r R
made_both (Ok x) f p q = f x p q
made_both (Err e) f p q = tt
