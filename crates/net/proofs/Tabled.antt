-- Lists put into tables, and calls that are not refused. Assumes nothing.
use Rattle.std.proofs.Common.{◌≡◌, ℕ, suc, ◌<◌, eqb, ltb, List, [], length, sym, ap, ◌∙◌, ⊎_elim, arith}
use Rattle.std.proofs.lemmas.Bool.{cond-true, cond-false, eq-eqb, ne_eqb, lt-leb, eqb-true, eqb-false, ltb-true, cases_Bool}
use Rattle.slice_vec.specs.Tables.{Table, put}
use Rattle.search.specs.declared.label.Link.{Link}
use Rattle.net.specs.Calls.{leave}
use Rattle.net.specs.Questions.{unless, add_refusal, stream_refusal}
use Rattle.net.specs.Tables.{place_of}

pub unless_none : (refusal : ℕ) (values : List ℕ) → refusal ≡ 0 → unless refusal values ≡ (0, values)
unless_none refusal values e = cond-true _ _ _ (eq-eqb _ _ e)

module _ {X : Type 0} (t : Table X) where
  pub leave_none : (refusal : ℕ) (xs : List X) → refusal ≡ 0 → leave refusal xs t ≡ put xs t
  leave_none refusal xs e = cond-true _ _ _ (eq-eqb _ _ e)

pub add_passes : {U : Type 0} (nodes places count : ℕ) (l : Link U) → l.tail < nodes → l.head < nodes → (l.tail ≡ l.head → ⊥) → count < places → add_refusal nodes places count l ≡ 0
add_passes nodes places count l tail head apart free =
    cond-false _ _ _ (lt-leb _ _ tail) ∙ cond-false _ _ _ (lt-leb _ _ head) ∙ cond-false _ _ _ (ne_eqb _ _ apart) ∙ cond-false _ _ _ (lt-leb _ _ free)

pub unless_refused : (refusal r : ℕ) (values : List ℕ) → refusal ≡ suc r → unless refusal values ≡ (suc r, [])
unless_refused refusal r values e = cond-false _ _ _ (ne_eqb refusal 0 (λ z. omega arith)) ∙ ap (λ n. (n, [])) e

pub leave_refused : {X : Type 0} (t : Table X) (refusal r : ℕ) (xs : List X) → refusal ≡ suc r → leave refusal xs t ≡ t
leave_refused t refusal r xs e = cond-false _ _ _ (ne_eqb refusal 0 (λ z. omega arith))

pub unless_accepted : (refusal : ℕ) (values given : List ℕ) → (0, given) ≡ unless refusal values → (refusal ≡ 0) × (given ≡ values)
unless_accepted refusal values given e =
    ⊎_elim
    (λ t. (eqb-true refusal 0 t, ap (λ x. x.1) (e ∙ cond-true _ _ _ t)))
    (λ t. absurd (eqb-false refusal 0 t (sym (ap (λ x. x.0) (e ∙ cond-false _ _ _ t)))))
    (cases_Bool (eqb refusal 0))

pub stream_there : (numbers : List ℕ) (n : ℕ) → stream_refusal numbers n ≡ 0 → place_of n numbers < length numbers
stream_there numbers n e =
    ⊎_elim
    (λ t. ltb-true _ _ t)
    (λ t. absurd (let z = sym (cond-false (ltb (place_of n numbers) (length numbers)) 0 18 t) ∙ e in omega arith))
    (cases_Bool (ltb (place_of n numbers) (length numbers)))
