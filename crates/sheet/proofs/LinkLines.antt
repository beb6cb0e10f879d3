-- What a turn over the link lines keeps, and what the last one shows. Assumes nothing.
use Rattle.std.proofs.Common.{◌≡◌, ℕ, ◌+◌, ◌<◌, ◌≤◌, List, [], ◌∷◌, ◌++◌, length, Ok, Err, sym, ap, ◌∙◌, append-nil, arith}
use Rattle.std.proofs.lemmas.List.{length_push}
use Rattle.std.proofs.lemmas.Bool.{cond-true, cond-false, le-leb, lt-leb, eq-eqb, ne_eqb}
use Rattle.reader.specs.Numbers.{onto, then}
use Rattle.reader.specs.Split.{fields}
use Rattle.reader.proofs.LineNumbers.{before, before_nil, before_onto}
use Rattle.sheet.specs.declared.fault.Cause.TheVariants.{TooManyLinks, NoLinks}
use Rattle.sheet.specs.declared.fault.Fault.{Fault}
use Rattle.sheet.specs.Line.{fault}
use Rattle.sheet.specs.Sheet.{link_line, link_lines}

module _ (width : ℕ) (all : List (List ℕ)) where
  -- the links of all the lines are those that were read, and those of the lines that are left
  pub record Sofar (read left : List (List ℕ)) (number : ℕ) : Type 0 where
    pub few : length read ≤ 16
    pub counts : number ≡ length read + 1
    pub gives : link_lines width 0 all ≡ before read (link_lines width (length read) left)

  pub start : Sofar [] all 1
  start = record { few = omega arith; counts = omega arith; gives = sym (before_nil _) }

  module _ (read left : List (List ℕ)) (number line : ℕ) (l : List ℕ) (rest : List (List ℕ)) (h : Sofar read left number) (was : left ≡ l ∷ rest) (here : line ≡ number + 1) where
    place : length read + 2 ≡ line
    place = omega (arith, h.counts)

    pub too_many : length read ≡ 16 → link_lines width 0 all ≡ fault line 1 TooManyLinks
    too_many full =
        let enough : 16 ≤ length read = omega arith in
        h.gives
        ∙ ap (λ ls. before read (link_lines width (length read) ls)) was
        ∙ ap (before read) (cond-true _ _ _ (le-leb _ _ enough) ∙ ap (λ n. fault n 1 TooManyLinks) place)

    one : length read < 16 → link_lines width 0 all ≡ before read (then (link_line width line (fields l)) (λ ns. onto ns (link_lines width (length read + 1) rest)))
    one room =
        h.gives
        ∙ ap (λ ls. before read (link_lines width (length read) ls)) was
        ∙ ap (before read) (cond-false _ _ _ (lt-leb _ _ room) ∙ ap (λ n. then (link_line width n (fields l)) (λ ns. onto ns (link_lines width (length read + 1) rest))) place)

    pub one_bad : length read < 16 → (f : Fault) → link_line width line (fields l) ≡ Err f → link_lines width 0 all ≡ Err f
    one_bad room f e = one room ∙ ap (λ r. before read (then r (λ ns. onto ns (link_lines width (length read + 1) rest)))) e

    pub one_more : length read < 16 → (ns : List ℕ) (read' rest' : List (List ℕ)) (number' : ℕ) → link_line width line (fields l) ≡ Ok ns → read' ≡ read ++ ns ∷ [] → rest' ≡ rest → number' ≡ line → Sofar read' rest' number'
    one_more room ns read' rest' number' e p q same =
        let long : length read' ≡ length read + 1 = ap length p ∙ length_push read ns in
        record {
          few = omega arith;
          counts = omega (arith, h.counts);
          gives =
              one room
              ∙ ap (λ r. before read (then r (λ ns. onto ns (link_lines width (length read + 1) rest)))) e
              ∙ before_onto read ns (link_lines width (length read + 1) rest)
              ∙ ap (λ l. before l (link_lines width (length read + 1) rest)) (sym p)
              ∙ ap (λ n. before read' (link_lines width n rest)) (sym long)
              ∙ ap (λ ls. before read' (link_lines width (length read') ls)) (sym q);
        }

  module _ (read left : List (List ℕ)) (number : ℕ) (h : Sofar read left number) (end : left ≡ []) where
    pub none : length read ≡ 0 → link_lines width 0 all ≡ fault 2 1 NoLinks
    none empty =
        h.gives ∙ ap (λ ls. before read (link_lines width (length read) ls)) end ∙ ap (before read) (cond-true _ _ _ (eq-eqb _ _ empty))

    pub done : 0 < length read → link_lines width 0 all ≡ Ok read
    done some =
        let apart : length read ≡ 0 → ⊥ = λ z. omega arith in
        h.gives
        ∙ ap (λ ls. before read (link_lines width (length read) ls)) end
        ∙ ap (before read) (cond-false _ _ _ (ne_eqb _ _ apart))
        ∙ ap (λ l. Ok l) (append-nil read)
