-- The laws of parting a text.
use Rattle.std.proofs.Common.{◌≡◌, ℕ, ◌<◌, eqb, List, [], ◌∷◌, ◌++◌, length, sym, refl, ap, ◌∙◌, arith, length-append}
use Rattle.std.specs.List.{AllByRecursion}
use Rattle.std.proofs.lemmas.Bool.{eqb-true, eqb-false, eq-eqb, ne_eqb, cond-true, cond-false, cond_both}
use Rattle.reader.specs.Split.{onto, split, lines, fields}
use Rattle.reader.specs.Laws.{Free, with_feeds, with_commas, LinesLaw, FieldsLaw}

split_on : (s : ℕ) (last : List (List ℕ)) (p bs : List ℕ) → Free s p → split s last (p ++ s ∷ bs) ≡ p ∷ split s last bs
split_on s last [] bs free = cond-true _ _ _ (eq-eqb s s refl)
split_on s last (b ∷ p) bs free = cond-false _ _ _ (ne_eqb b s free.0) ∙ ap (onto b) (split_on s last p bs free.1)

split_end : (s : ℕ) (p : List ℕ) → Free s p → split s ([] ∷ []) p ≡ p ∷ []
split_end s [] free = refl
split_end s (b ∷ p) free = cond-false _ _ _ (ne_eqb b s free.0) ∙ ap (onto b) (split_end s p free.1)

free_onto : (s b : ℕ) (ps : List (List ℕ)) → (b ≡ s → ⊥) → AllByRecursion (Free s) ps → AllByRecursion (Free s) (onto b ps)
free_onto s b [] apart h = ((apart, tt), tt)
free_onto s b (p ∷ ps) apart h = ((apart, h.0), h.1)

free_split : (s : ℕ) (last : List (List ℕ)) (bs : List ℕ) → AllByRecursion (Free s) last → AllByRecursion (Free s) (split s last bs)
free_split s last [] h = h
free_split s last (b ∷ bs) h =
    let rest = free_split s last bs h in
    cond_both (eqb b s) _ _ (AllByRecursion (Free s)) (λ e. (tt, rest)) (λ e. free_onto s b _ (eqb-false b s e) rest)

with_feeds-onto : (b : ℕ) (ls : List (List ℕ)) → 0 < length (with_feeds ls) → with_feeds (onto b ls) ≡ b ∷ with_feeds ls
with_feeds-onto b [] h = absurd (omega arith)
with_feeds-onto b (l ∷ ls) h = refl

with_feeds_front : (back full : List ℕ) → 0 < length full → with_feeds (lines back) ≡ full → (front : List ℕ) → with_feeds (lines (front ++ back)) ≡ front ++ full
with_feeds_front back full some h [] = h
with_feeds_front back full some h (b ∷ front) =
    let rest = with_feeds_front back full some h front in
    let more : 0 < length (with_feeds (lines (front ++ back))) = omega (arith, ap length rest, length-append front full) in
    cond_both (eqb b 10) _ _ (λ ls. with_feeds ls ≡ b ∷ (front ++ full))
    (λ e. ap (λ c. c ∷ with_feeds (lines (front ++ back))) (sym (eqb-true b 10 e)) ∙ ap (λ bs. b ∷ bs) rest)
    (λ e. with_feeds-onto b _ more ∙ ap (λ bs. b ∷ bs) rest)

lines_unique : (ls : List (List ℕ)) → AllByRecursion (Free 10) ls → lines (with_feeds ls) ≡ ls
lines_unique [] h = refl
lines_unique (l ∷ ls) h = split_on 10 [] l (with_feeds ls) h.0 ∙ ap (λ ps. l ∷ ps) (lines_unique ls h.1)

pub lines_law : LinesLaw
lines_law = record {
  empty = refl;
  ended = with_feeds_front (10 ∷ []) (10 ∷ []) (omega arith) refl;
  unended = λ front b apart. with_feeds_front (b ∷ []) (b ∷ 10 ∷ []) (omega arith) (ap with_feeds (cond-false _ _ _ (ne_eqb b 10 apart))) front;
  free = λ text. free_split 10 [] text tt;
  unique = lines_unique;
}

onto_some : (b : ℕ) (ps : List (List ℕ)) → 0 < length (onto b ps)
onto_some b [] = omega arith
onto_some b (p ∷ ps) = omega arith

fields_some : (line : List ℕ) → 0 < length (fields line)
fields_some [] = omega arith
fields_some (b ∷ bs) = cond_both (eqb b 44) _ _ (λ ps. 0 < length ps) (λ e. omega arith) (λ e. onto_some b (fields bs))

with_commas-onto : (b : ℕ) (ps : List (List ℕ)) → with_commas (onto b ps) ≡ b ∷ with_commas ps
with_commas-onto b [] = refl
with_commas-onto b (p ∷ []) = refl
with_commas-onto b (p ∷ q ∷ ps) = refl

with_commas-cons : (ps : List (List ℕ)) → 0 < length ps → with_commas ([] ∷ ps) ≡ 44 ∷ with_commas ps
with_commas-cons [] h = absurd (omega arith)
with_commas-cons (p ∷ ps) h = refl

fields_rejoined : (line : List ℕ) → with_commas (fields line) ≡ line
fields_rejoined [] = refl
fields_rejoined (b ∷ bs) =
    let rest = fields_rejoined bs in
    cond_both (eqb b 44) _ _ (λ ps. with_commas ps ≡ b ∷ bs)
    (λ e. with_commas-cons (fields bs) (fields_some bs) ∙ ap (λ c. c ∷ with_commas (fields bs)) (sym (eqb-true b 44 e)) ∙ ap (λ l. b ∷ l) rest)
    (λ e. with_commas-onto b (fields bs) ∙ ap (λ l. b ∷ l) rest)

fields_unique : (fs : List (List ℕ)) → 0 < length fs → AllByRecursion (Free 44) fs → fields (with_commas fs) ≡ fs
fields_unique [] some h = absurd (omega arith)
fields_unique (f ∷ []) some h = split_end 44 f h.0
fields_unique (f ∷ g ∷ fs) some h =
    split_on 44 ([] ∷ []) f (with_commas (g ∷ fs)) h.0 ∙ ap (λ ps. f ∷ ps) (fields_unique (g ∷ fs) (omega arith) h.1)

pub fields_law : FieldsLaw
fields_law = record {
  some = fields_some;
  rejoined = fields_rejoined;
  free = λ line. free_split 44 ([] ∷ []) line (tt, tt);
  unique = fields_unique;
}
