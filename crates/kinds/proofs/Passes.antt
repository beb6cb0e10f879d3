-- A duct set holds the ducts of the route, and is doubled by one that comes twice. Assumes nothing.
use Rattle.std.proofs.Common.{◌≡◌, ℕ, zero, suc, ◌*◌, ◌^◌, ◌<◌, ◌≤◌, max, Bool, true, false, cond, ◌||◌, eqb, ltb, ◌⊎◌, List, [], ◌∷◌, ◌++◌, length, get_or, Decides, sym, refl, ap, ◌∙◌, subst, ap₂, inl, inr, ⊎_elim, one-mul, zero-mul, arith, pow_pos}
use lib.Bits.{or_lt}
use lib.Pow.{pow-lt}
use Rattle.std.proofs.lemmas.List.{length_push, get_or_append_left, get_or_at, map_push}
use Rattle.std.proofs.lemmas.Bool.{cases_Bool, cases_lt, or_cases, or_left, or_right, eqb-true, eqb-false, eq-eqb, ne_eqb, ltb-true, ltb-false, cond-true, cond-false, not_from_false, not_from_true, false≢true}
use Rattle.kinds.specs.Ducts.{ducts_model, has_duct, mask, pass}
use Rattle.kinds.specs.Kinds.{along}
use Rattle.kinds.specs.Passes.{ducts_of, among, Twice, Passes}
use Rattle.kinds.specs.declared.ducts.DuctState.{DuctState}
use Rattle.kinds.specs.declared.ducts.DuctUse.{DuctUse}
use Rattle.kinds.specs.declared.ducts.Ducts.{Ducts}
use Rattle.kinds.proofs.Along.{along_push, from_end}
use Rattle.kinds.specs.Bits.{bit, bit-zero, bit-bit_or, bit_mask_same, bit_mask_other, and_mask_bit, sum_by_alike, ones_bits}

among_push : (d e : ℕ) (es : List ℕ) → among d (es ++ e ∷ []) ≡ (among d es || eqb e d)
among_push d e [] = or_false (eqb e d)
  where
    or_false : (x : Bool) → (x || false) ≡ x
    or_false true = refl
    or_false false = refl
among_push d e (f ∷ es) = ap (λ t. eqb f d || t) (among_push d e es) ∙ or_assoc (eqb f d) (among d es) (eqb e d)
  where
    or_assoc : (x y z : Bool) → (x || (y || z)) ≡ ((x || y) || z)
    or_assoc true y z = refl
    or_assoc false y z = refl

-- d stands at some place of the list
Placed : ℕ → List ℕ → Type 0
Placed d ds = (i : ℕ) × (i < length ds) × (get_or ds i 0 ≡ d)

among-placed : (d : ℕ) (ds : List ℕ) → among d ds ≡ true → Placed d ds
unfolding Placed
among-placed d [] h = absurd (false≢true h)
among-placed d (e ∷ ds) h =
    ⊎_elim
    (λ here. (0, omega arith, eqb-true e d here))
    (λ later. let (i, lt, is) = among-placed d ds later in (suc i, omega arith, is))
    (or_cases (eqb e d) (among d ds) h)

placed-among : (d : ℕ) (ds : List ℕ) (i : ℕ) → i < length ds → get_or ds i 0 ≡ d → among d ds ≡ true
placed-among d [] i lt is = absurd (omega arith)
placed-among d (e ∷ ds) zero lt is = or_left (eqb e d) (among d ds) (eq-eqb e d is)
placed-among d (e ∷ ds) (suc i) lt is = or_right (eqb e d) (among d ds) (placed-among d ds i (omega arith) is)

twice_more : (ds : List ℕ) (e : ℕ) → Twice ds → Twice (ds ++ e ∷ [])
twice_more ds e (i, j, lt, inside, low, same) =
    let at_i = get_or_append_left ds (e ∷ []) 0 i (omega arith) in
    let at_j = get_or_append_left ds (e ∷ []) 0 j inside in
    (i, j, lt, omega (arith, length_push ds e), omega arith, at_i ∙ same ∙ sym at_j)

twice_last : (ds : List ℕ) (e : ℕ) → e < 64 → Placed e ds → Twice (ds ++ e ∷ [])
unfolding Placed
twice_last ds e low (i, lt, is) =
    let at_i = get_or_append_left ds (e ∷ []) 0 i lt in
    let at-end = get_or_at ds e [] 0 (length ds) refl in
    (i, length ds, lt, omega (arith, length_push ds e), omega arith, at_i ∙ is ∙ sym at-end)

twice_cases : (ds : List ℕ) (e : ℕ) → Twice (ds ++ e ∷ []) → Twice ds ⊎ ((e < 64) × Placed e ds)
unfolding Placed
twice_cases ds e (i, j, lt, inside, low, same) =
    let long = length_push ds e in
    let at_i = get_or_append_left ds (e ∷ []) 0 i (omega arith) in
    let at-end = get_or_at ds e [] 0 (length ds) refl in
    ⊎_elim
    (λ before. inl (i, j, lt, before, omega arith, sym at_i ∙ same ∙ get_or_append_left ds (e ∷ []) 0 j before))
    (λ after.
    let last : j ≡ length ds = omega arith in
    let is : get_or ds i 0 ≡ e = sym at_i ∙ same ∙ ap (λ n. get_or (ds ++ e ∷ []) n 0) last ∙ at-end in
    inr (omega arith, (i, omega arith, is)))
    (cases_lt j (length ds))

or_bit : (x y : Bool) → max (cond x 1 0) (cond y 1 0) ≡ cond (x || y) 1 0
or_bit true true = refl
or_bit true false = refl
or_bit false true = refl
or_bit false false = refl

mask-bit : (e d : ℕ) → bit (mask e) d ≡ cond (eqb e d) 1 0
mask-bit e d =
    ⊎_elim
    (λ yes'. subst (λ f. bit (mask e) f ≡ 1) (eqb-true e d yes') (bit_mask_same e) ∙ sym (cond-true _ _ _ yes'))
    (λ no'. bit_mask_other e d (eqb-false e d no') ∙ sym (cond-false _ _ _ no'))
    (cases_Bool (eqb e d))

-- the set of a state has just the ducts of ds
record Holds (ds : List ℕ) (s : DuctState) : Type 0 where
  small : s.set < 2 ^ 64
  bits : (d : ℕ) → d < 64 → bit s.set d ≡ cond (among d ds) 1 0
  twice : Decides s.doubled (Twice ds)

has-bit : (n d : ℕ) (x : Bool) → bit n d ≡ cond x 1 0 → has_duct n d ≡ x
has-bit n d true h = not_from_false _ (ne_eqb _ _ (λ none. absurd (omega (arith, none, and_mask_bit d n ∙ ap (λ b. b * 2 ^ d) h ∙ one-mul (2 ^ d), pow_pos d))))
has-bit n d false h = not_from_true _ (eq-eqb _ _ (and_mask_bit d n ∙ ap (λ b. b * 2 ^ d) h ∙ zero-mul (2 ^ d)))

holds_pass : (ds : List ℕ) (s : DuctState) (e : ℕ) → e < 64 → Holds ds s → Holds (ds ++ e ∷ []) (pass s e)
holds_pass ds s e low h =
    let here = has-bit s.set e (among e ds) (h.bits e low) in
    record {
      small = or_lt 64 s.set (mask e) h.small (pow-lt low);
      bits = λ d lt. bit-bit_or d s.set (mask e) ∙ ap₂ max (h.bits d lt) (mask-bit e d) ∙ or_bit (among d ds) (eqb e d) ∙ ap (λ t. cond t 1 0) (sym (among_push d e ds));
      twice = (
        λ t.
            ⊎_elim
            (λ before. twice_more ds e (h.twice.0 before))
            (λ now'. twice_last ds e low (among-placed e ds (sym here ∙ now')))
            (or_cases s.doubled (has_duct s.set e) t),
        λ t.
            ⊎_elim
            (λ before. or_left s.doubled (has_duct s.set e) (h.twice.1 before))
            (λ (l, p). or_right s.doubled (has_duct s.set e) (here ∙ unfold Placed in placed-among e ds p.0 p.1 p.2))
            (twice_cases ds e t),
      );
    }

holds_none : (ds : List ℕ) (s : DuctState) (e : ℕ) → 64 ≤ e → Holds ds s → Holds (ds ++ e ∷ []) s
holds_none ds s e high h = record {
  small = h.small;
  bits = λ d lt. h.bits d lt ∙ ap (λ t. cond t 1 0) (sym (among_push d e ds ∙ or_miss (among d ds) (ne_eqb e d (λ same. omega arith))));
  twice = (
    λ t. twice_more ds e (h.twice.0 t),
    λ t. ⊎_elim (λ before. h.twice.1 before) (λ (l, p). absurd (omega arith)) (twice_cases ds e t),
  );
}
  where
    or_miss : (x : Bool) {y : Bool} → y ≡ false → (x || y) ≡ x
    or_miss true e = refl
    or_miss false e = e

holds_step : (ds : List ℕ) (s : DuctState) (e : ℕ) → Holds ds s → Holds (ds ++ e ∷ []) (cond (ltb e 64) (pass s e) s)
holds_step ds s e h =
    ⊎_elim
    (λ t. subst (Holds (ds ++ e ∷ [])) (sym (cond-true _ _ _ t)) (holds_pass ds s e (ltb-true _ _ t) h))
    (λ t. subst (Holds (ds ++ e ∷ [])) (sym (cond-false _ _ _ t)) (holds_none ds s e (ltb-false _ _ t) h))
    (cases_Bool (ltb e 64))

module _ (k : Ducts) where
  holds : (us : List DuctUse) → Holds (ducts_of us) (along ducts_model k us)
  holds =
      from_end (λ us. Holds (ducts_of us) (along ducts_model k us))
      (λ us u h.
      subst (λ ds. Holds ds (along ducts_model k (us ++ u ∷ []))) (sym (map_push (λ v. v.duct) us u))
      (subst (Holds (ducts_of us ++ u.duct ∷ [])) (sym (along_push ducts_model k us u)) (holds_step (ducts_of us) (along ducts_model k us) u.duct h)))
      (record {
        small = pow_pos 64;
        bits = λ d lt. bit-zero d;
        twice = (λ e. absurd (false≢true e), λ (i, j, lt, inside, low, same). absurd (omega arith));
      })

  pub passes : (us : List DuctUse) → Passes k us (along ducts_model k us)
  passes us =
      let h = holds us in
      record {
        state = refl;
        figure = ones_bits 64 _ h.small ∙ sum_by_alike _ _ 64 0 (λ d lt. h.bits d lt);
        doubled = h.twice;
      }
