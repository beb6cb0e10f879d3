-- A clock's time is the largest of its candidates, and it is shut by a gate that was reached late. Assumes nothing.
use Rattle.std.proofs.Common.{◌≡◌, ℕ, ◌+◌, ◌*◌, ◌<◌, ◌≤◌, min, max, ltb, List, [], ◌∷◌, ◌++◌, map, length, get_or, Decides, fold, sym, refl, ap, ◌∙◌, subst, ap₂, ⊎_elim, arith}
use Rattle.std.proofs.lemmas.List.{length_push, length-map, get_or_append_left, get_or_at, take-append-le, take_all, map_push}
use Rattle.std.proofs.lemmas.List.Sums.{sum_by_push, sum_by-cons, fold_push}
use Rattle.std.proofs.lemmas.Bool.{cases_lt, or_cases, or_left, or_right, ltb-true, lt-ltb, false≢true}
use Rattle.kinds.specs.Arrivals.{travel, openings, arrival, Late, Arrives}
use Rattle.kinds.specs.Clock.{clock_model, next_time}
use Rattle.kinds.specs.Kinds.{along}
use Rattle.kinds.specs.Stopped.{top}
use Rattle.kinds.specs.declared.clock.Clock.{Clock}
use Rattle.kinds.specs.declared.clock.ClockUse.{ClockUse}
use Rattle.kinds.proofs.Along.{along_push, from_end}

-- the largest number rises with each of them
folded_raised : (t a : ℕ) (ns : List ℕ) → fold max (a + t) (map (λ n. n + t) ns) ≡ fold max a ns + t
folded_raised t a [] = refl
folded_raised t a (n ∷ ns) = ap (λ b. fold max b (map (λ n. n + t) ns)) (omega arith) ∙ folded_raised t (max a n) ns

openings_push : (us : List ClockUse) (u : ClockUse) → openings (us ++ u ∷ []) ≡ map (λ n. n + u.travel) (openings us) ++ u.opens ∷ []
openings_push [] u = ap (λ n. n ∷ []) (omega arith)
openings_push (v ∷ us) u =
    let more = sum_by_push (λ (w : ClockUse). w.travel) us u in
    ap₂ ◌∷◌ (omega arith) (openings_push us u)

pub arrival_push : (k : Clock) (us : List ClockUse) (u : ClockUse) → arrival k (us ++ u ∷ []) ≡ max u.opens (arrival k us + u.travel)
arrival_push k us u =
    ap₂ (fold max) first (openings_push us u)
    ∙ fold_push max (max 0 (k.start + travel us) + u.travel) (map (λ n. n + u.travel) (openings us)) u.opens
    ∙ ap (λ a. max a u.opens) (folded_raised u.travel (max 0 (k.start + travel us)) (openings us))
    ∙ max_comm (arrival k us + u.travel) u.opens
  where
    first : max 0 (k.start + travel (us ++ u ∷ [])) ≡ max 0 (k.start + travel us) + u.travel
    first = omega (arith, sum_by_push (λ (w : ClockUse). w.travel) us u)

    max_comm : (a b : ℕ) → max a b ≡ max b a
    max_comm a b = omega arith

travel_bound : (us : List ClockUse) → travel us ≤ length us * 65535
travel_bound [] = omega arith
travel_bound (u ∷ us) = omega (arith, sum_by-cons (λ (w : ClockUse). w.travel) u us, travel_bound us, u.narrow)

arrival_bound : (k : Clock) (us : List ClockUse) → arrival k us ≤ 65535 + length us * 65535
arrival_bound k =
    from_end (λ us. arrival k us ≤ 65535 + length us * 65535)
    (λ us u h. omega (arith, arrival_push k us u, length_push us u, u.narrow))
    (omega (arith, k.narrow))

module _ (k : Clock) where
  time_push : (us : List ClockUse) (u : ClockUse) → (along clock_model k us).time ≡ min (arrival k us) top → next_time (along clock_model k us) u ≡ min (arrival k (us ++ u ∷ [])) top
  time_push us u h = omega (arith, arrival_push k us u, u.narrow)

  time_told : (us : List ClockUse) → (along clock_model k us).time ≡ min (arrival k us) top
  time_told =
      from_end (λ us. (along clock_model k us).time ≡ min (arrival k us) top)
      (λ us u h. ap (λ s. s.time) (along_push clock_model k us u) ∙ time_push us u h)
      (omega (arith, k.narrow))

  -- some link was reached after it had closed
  Missed : List ClockUse → Type 0
  Missed us = (i : ℕ) × (i < length us) × Late k us i

  late_before : (us : List ClockUse) (u : ClockUse) (i : ℕ) → i < length us → Late k (us ++ u ∷ []) i ≡ Late k us i
  late_before us u i lt =
      ap₂ (λ c t. c < t)
      (ap (λ l. get_or l i 0) (map_push (λ v. v.closes) us u) ∙ get_or_append_left (map (λ v. v.closes) us) (u.closes ∷ []) 0 i (omega (arith, length-map us (λ v. v.closes))))
      (ap (arrival k) (take-append-le (i + 1) us (u ∷ []) (omega arith)))

  late_last : (us : List ClockUse) (u : ClockUse) → Late k (us ++ u ∷ []) (length us) ≡ (u.closes < arrival k (us ++ u ∷ []))
  late_last us u =
      ap₂ (λ c t. c < t)
      (ap (λ l. get_or l (length us) 0) (map_push (λ v. v.closes) us u) ∙ get_or_at (map (λ v. v.closes) us) u.closes [] 0 (length us) (length-map us (λ v. v.closes)))
      (ap (arrival k) (take_all (length us + 1) (us ++ u ∷ []) (omega (arith, length_push us u))))

  missed_more : (us : List ClockUse) (u : ClockUse) → Missed us → Missed (us ++ u ∷ [])
  unfolding Missed
  missed_more us u (i, lt, late) = (i, omega (arith, length_push us u), subst (λ X. X) (sym (late_before us u i lt)) late)

  shut_told : (us : List ClockUse) → Decides (along clock_model k us).shut (Missed us)
  unfolding Missed
  shut_told =
      from_end (λ us. Decides (along clock_model k us).shut (Missed us)) step
      (λ e. absurd (false≢true e), λ (i, lt, late). absurd (omega arith))
    where
      step : (us : List ClockUse) (u : ClockUse) → Decides (along clock_model k us).shut (Missed us) → Decides (along clock_model k (us ++ u ∷ [])).shut (Missed (us ++ u ∷ []))
      step us u h =
          let was = along clock_model k us in
          let is = ap (λ s. s.shut) (along_push clock_model k us u) in
          let told = time_push us u (time_told us) in (
            λ e.
                ⊎_elim
                (λ before. missed_more us u (h.0 before))
                (λ here. (length us, omega (arith, length_push us u), subst (λ X. X) (sym (late_last us u)) (omega (arith, ltb-true _ _ here))))
                (or_cases was.shut (ltb u.closes (next_time was u)) (sym is ∙ e)),
            λ (i, lt, late).
                is
                ∙ ⊎_elim
                (λ before. or_left was.shut (ltb u.closes (next_time was u)) (h.1 (i, before, subst (λ X. X) (late_before us u i before) late)))
                (λ at.
                let same : i ≡ length us = omega (arith, length_push us u) in
                let over : u.closes < arrival k (us ++ u ∷ []) = subst (λ X. X) (late_last us u) (subst (Late k (us ++ u ∷ [])) same late) in
                or_right was.shut (ltb u.closes (next_time was u)) (lt-ltb _ _ (omega (arith, u.narrow))))
                (cases_lt i (length us)),
          )

pub arrives : (k : Clock) (us : List ClockUse) → Arrives k us (along clock_model k us)
unfolding Missed
arrives k us = record {
  state = refl;
  time = time_told k us;
  uncut = λ few. omega (arith, time_told k us, arrival_bound k us);
  shut = shut_told k us;
}
