-- What a call gets, from what the net or the book answered. Assumes nothing.
use Rattle.std.proofs.Common.{◌≡◌, ℕ, List, Ok, Err, Result, [], ap, ◌∙◌, arith}
use Rattle.std.specs.Result.{MatchResult, IsOkAnd, IsErrAnd}
use Rattle.net.specs.Performed.{Reply, values_of, refusal_number, told_of}
use Rattle.net.specs.Questions.{told, net_fault_number}
use Rattle.net.specs.declared.types.Answer.{Answer}
use Rattle.net.specs.declared.types.NetFault.{NetFault}
use Rattle.net.specs.declared.types.Refusal.TheVariants.{Fault}

-- an accepted call's values made an answer, and a fault a refusal
pub told_mapped : {X : Type 0} (values : X → List ℕ) (f : X → Answer) → ((x : X) → values_of (f x) ≡ values x) → (r : Result X NetFault) (a : Result Answer NetFault) (z : Reply) → MatchResult r (λ x. IsOkAnd a (λ y. y ≡ f x)) (λ e. a ≡ Err e) → MatchResult a (λ y. z ≡ Ok y) (λ e. IsErrAnd z (λ w. w ≡ Fault e)) → told_of z ≡ told values r
told_mapped values f same (Ok x) (Ok y) z is is' = ap told_of is' ∙ ap (λ v. (0, values_of v)) is ∙ ap (λ vs. (0, vs)) (same x)
told_mapped values f same (Ok x) (Err e) z is is' = absurd is
told_mapped values f same (Err e) (Ok y) z is is' = absurd (let w : ◌≡◌ {A = ℕ} 0 1 = cc in omega arith)
told_mapped values f same (Err e) (Err e') (Ok y) is is' = absurd is'
told_mapped values f same (Err e) (Err e') (Err w) is is' = ap (λ f. (refusal_number f, [])) is' ∙ ap (λ f. (net_fault_number f, [])) (err_same is)
  where
    err_same : {A B : Type 0} {x y : B} → ◌≡◌ {A = Result A B} (Err x) (Err y) → x ≡ y
    err_same e = cc
