-- A duct set keeps the laws. Assumes nothing.
use Rattle.std.specs.Prelude.{◌≡◌, ℕ, Bool, true, false, cond, not, ◌||◌, ◌≢◌, bit_and, nat_lt, refl}
use Rattle.std.proofs.Common.{⊎_elim}
use Rattle.std.specs.Int.Bits.{and_self}
use Rattle.std.proofs.lemmas.Bool.{and_from, and_parts, or_cases, or_left, or_right, eqb-true, eqb-false, eq-eqb, ne_eqb, not-true, not_from_false, both_ways, false≢true}
use Rattle.kinds.specs.Kinds.{Laws}
use Rattle.kinds.specs.Ducts.{has_duct, mask, pass, ducts_model}
use Rattle.kinds.specs.declared.ducts.DuctState.{DuctState}
use Rattle.kinds.specs.declared.ducts.Ducts.{Ducts}
use Rattle.kinds.specs.Bits.{part_chain, part_or, part_or_both, part_misses, part_ones}

implied : (x y : Bool) → (not x || y) ≡ true → x ≡ true → y ≡ true
implied true y h e = h
implied false y h e = absurd (false≢true e)

implied_from : (x y : Bool) → (x ≡ true → y ≡ true) → (not x || y) ≡ true
implied_from true y h = h refl
implied_from false y h = refl

-- what covering says of two states
record Smaller (a b : DuctState) : Type 0 where
  part : bit_and a.set b.set ≡ a.set
  clear : a.doubled ≡ true → b.doubled ≡ true

module _ (k : Ducts) (a b : DuctState) where
  smaller : ducts_model.covers k a b ≡ true → Smaller a b
  smaller h =
      let parts = and_parts _ _ h in
      record { part = eqb-true _ _ parts.0; clear = implied a.doubled b.doubled parts.1 }

  covers_from : Smaller a b → ducts_model.covers k a b ≡ true
  covers_from h = and_from _ _ (eq-eqb _ _ h.part) (implied_from a.doubled b.doubled h.clear)

-- a part has no duct that the whole has not
has_more : (a b d : ℕ) → bit_and a b ≡ a → has_duct a d ≡ true → has_duct b d ≡ true
has_more a b d p h =
    not_from_false _ (ne_eqb _ _ (λ miss. eqb-false _ _ (not-true _ h) (part_misses a b (mask d) p miss)))

pass_both : (a b : DuctState) (d : ℕ) → Smaller a b → Smaller (pass a d) (pass b d)
pass_both a b d h = record {
  part = part_or_both a.set b.set (mask d) h.part;
  clear = λ e.
      ⊎_elim
      (λ x. or_left b.doubled (has_duct b.set d) (h.clear x))
      (λ y. or_right b.doubled (has_duct b.set d) (has_more a.set b.set d h.part y))
      (or_cases a.doubled (has_duct a.set d) e);
}

pass_more : (a : DuctState) (d : ℕ) → Smaller a (pass a d)
pass_more a d = record { part = part_or a.set (mask d); clear = λ e. or_left a.doubled (has_duct a.set d) e }

step_both : (t : Bool) (a b : DuctState) (d : ℕ) → Smaller a b → Smaller (cond t (pass a d) a) (cond t (pass b d) b)
step_both true a b d h = pass_both a b d h
step_both false a b d h = h

step_more : (t : Bool) (a : DuctState) (d : ℕ) → Smaller a (cond t (pass a d) a)
step_more true a d = pass_more a d
step_more false a d = record { part = and_self a.set; clear = λ e. e }

pub ducts_laws : Laws ducts_model
ducts_laws = record {
  itself = λ k a. covers_from k a a (record { part = and_self a.set; clear = λ e. e });
  chain = λ k a b c p q.
      let p' = smaller k a b p in
      let q' = smaller k b c q in
      covers_from k a c (record { part = part_chain a.set b.set c.set p'.part q'.part; clear = λ e. q'.clear (p'.clear e) });
  extends = λ k a b u p. covers_from k (ducts_model.extended k a u) (ducts_model.extended k b u) (step_both (nat_lt u.duct 64) a b u.duct (smaller k a b p));
  keeps = λ k a b p q. kept a b (smaller k a b p) q;
  grows = λ k a u. covers_from k a (ducts_model.extended k a u) (step_more (nat_lt u.duct 64) a u.duct);
  ranks = λ k a b p. part_ones a.set b.set (smaller k a b p).part;
}
  where
    kept : (a b : DuctState) → Smaller a b → not b.doubled ≡ true → not a.doubled ≡ true
    kept a b h q = clear_from a.doubled (λ e. both_ways b.doubled (not-true _ q) (h.clear e))
      where
        clear_from : (x : Bool) → (x ≢ true) → not x ≡ true
        clear_from true h = absurd (h refl)
        clear_from false h = refl
