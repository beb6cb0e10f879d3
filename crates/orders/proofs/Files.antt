-- The laws over whole files. Assumes nothing.
use Rattle.std.proofs.Common.{◌≡◌, ℕ, zero, suc, ◌+◌, ◌/◌, ◌%◌, ◌<◌, ◌≤◌, false, eqb, ltb, List, [], ◌∷◌, ◌++◌, length, get_or, take, codes, decimal, sym, refl, ap, ◌∙◌, subst, ⊎_elim, arith}
use Rattle.std.proofs.lemmas.Bool.{cases_Bool, cond-true, cond-false, le-leb}
use Rattle.std.specs.Fmt.{digits, digits_onto, digit_glyph}
use Rattle.std.specs.List.{AllByRecursion}
use Rattle.reader.specs.Laws.{Free}
use Rattle.reader.specs.Split.{lines}
use Rattle.reader.proofs.Laws.{lines_law}
use Rattle.orders.specs.Desk.{Desk, no_net, reply, next_desk, replies}
use Rattle.orders.specs.Files.{most, answers_of, left_by, Promised, Begins, LawsOfFile}
use Rattle.orders.specs.Finds.{Served}
use Rattle.orders.specs.Lines.{Reply, accepted, refused, listed, reply_line, numbered}

-- no line feed is written of a number
digit_free : (d : ℕ) → digit_glyph false d ≡ 10 → ⊥
digit_free d e =
    ⊎_elim
    (λ t. let z : 48 + d ≡ 10 = sym (cond-true _ _ _ t) ∙ e in omega arith)
    (λ t. let z : 87 + d ≡ 10 = sym (cond-false _ _ _ t) ∙ e in omega arith)
    (cases_Bool (ltb d 10))

spelled_free : (k n : ℕ) (acc : List ℕ) → Free 10 acc → Free 10 (digits_onto k 10 false n acc)
spelled_free zero n acc free = free
spelled_free (suc k) n acc free =
    ⊎_elim
    (λ t. subst (Free 10) (sym (cond-true _ _ _ t)) (digit_free (n % 10), free))
    (λ t. subst (Free 10) (sym (cond-false _ _ _ t)) (spelled_free k (n / 10) (digit_glyph false (n % 10) ∷ acc) (digit_free (n % 10), free)))
    (cases_Bool (eqb (n / 10) 0))

decimal_free : (n : ℕ) → Free 10 (decimal n)
unfolding digits
decimal_free n = spelled_free 64 n [] tt

append_free : (xs ys : List ℕ) → Free 10 xs → Free 10 ys → Free 10 (xs ++ ys)
append_free [] ys p q = q
append_free (x ∷ xs) ys p q = (p.0, append_free xs ys p.1 q)

listed_free : (vs : List ℕ) → Free 10 (listed vs)
listed_free [] = tt
listed_free (v ∷ vs) = ((λ e. absurd (omega arith)), append_free (decimal v) (listed vs) (decimal_free v) (listed_free vs))

reply_free : (n : ℕ) (r : Reply) → Free 10 (reply_line n r)
reply_free n (accepted values) = append_free (decimal n) (codes ",ok" ++ listed values) (decimal_free n) (append_free (codes ",ok") (listed values) ok_free (listed_free values))
  where
    ok_free : Free 10 (codes ",ok")
    ok_free = ((λ e. absurd (omega arith)), ((λ e. absurd (omega arith)), ((λ e. absurd (omega arith)), tt)))
reply_free n (refused number field) = append_free (decimal n) (codes ",refused" ++ listed (number ∷ field ∷ [])) (decimal_free n) (append_free (codes ",refused") (listed (number ∷ field ∷ [])) word_free (listed_free (number ∷ field ∷ [])))
  where
    word_free : Free 10 (codes ",refused")
    word_free = ((λ e. absurd (omega arith)), ((λ e. absurd (omega arith)), ((λ e. absurd (omega arith)), ((λ e. absurd (omega arith)), ((λ e. absurd (omega arith)), ((λ e. absurd (omega arith)), ((λ e. absurd (omega arith)), ((λ e. absurd (omega arith)), tt))))))))

numbered_free : (n : ℕ) (rs : List Reply) → AllByRecursion (Free 10) (numbered n rs)
numbered_free n [] = tt
numbered_free n (r ∷ rs) = (reply_free n r, numbered_free (n + 1) rs)

length-numbered : (n : ℕ) (rs : List Reply) → length (numbered n rs) ≡ length rs
length-numbered n [] = refl
length-numbered n (r ∷ rs) = ap suc (length-numbered (n + 1) rs)

length-replies : (d : Desk) (ls : List (List ℕ)) → length (replies d ls) ≡ length ls
length-replies d [] = refl
length-replies d (l ∷ ls) = ap suc (length-replies (next_desk d l) ls)

begins : (n : ℕ) (r : Reply) → Begins n (reply_line n r)
begins n (accepted values) = (_, refl)
begins n (refused number field) = (_, refl)

begins_at : (n : ℕ) (rs : List Reply) (i : ℕ) → i < length rs → Begins (i + n) (get_or (numbered n rs) i [])
begins_at n [] i lt = absurd (omega arith)
begins_at n (r ∷ rs) zero lt = subst (λ k. Begins k (reply_line n r)) (let e : n ≡ 0 + n = omega arith in e) (begins n r)
begins_at n (r ∷ rs) (suc i) lt = subst (λ k. Begins k (get_or (numbered (n + 1) rs) i [])) (let e : i + (n + 1) ≡ suc i + n = omega arith in e) (begins_at (n + 1) rs i (omega arith))

numbered-take : (n : ℕ) (rs : List Reply) (k : ℕ) → numbered n (take k rs) ≡ take k (numbered n rs)
numbered-take n rs zero = refl
numbered-take n [] (suc k) = refl
numbered-take n (r ∷ rs) (suc k) = ap (λ ls. reply_line n r ∷ ls) (numbered-take (n + 1) rs k)

replies-take : (d : Desk) (ls : List (List ℕ)) (k : ℕ) → replies d (take k ls) ≡ take k (replies d ls)
replies-take d ls zero = refl
replies-take d [] (suc k) = refl
replies-take d (l ∷ ls) (suc k) = ap (λ rs. reply d l ∷ rs) (replies-take (next_desk d l) ls k)

-- the lines of the answers
answer-lines : (text : List ℕ) → length text ≤ most → lines (answers_of text) ≡ numbered 1 (replies no_net (lines text))
answer-lines text fits =
    ap lines (cond-true _ _ _ (le-leb (length text) most fits)) ∙ lines_law.unique (numbered 1 (replies no_net (lines text))) (numbered_free 1 (replies no_net (lines text)))

pub laws_of_file : (text : List ℕ) → Promised (left_by text) → LawsOfFile text
laws_of_file text holds = record {
  counted = λ fits. ap length (answer-lines text fits) ∙ length-numbered 1 (replies no_net (lines text)) ∙ length-replies no_net (lines text);
  ordered = λ fits i lt.
      subst (λ ls. Begins (i + 1) (get_or ls i [])) (sym (answer-lines text fits)) (begins_at 1 (replies no_net (lines text)) i (omega (arith, length-replies no_net (lines text))));
  fronts = λ fits front k short is.
      answer-lines front short
      ∙ ap (λ ls. numbered 1 (replies no_net ls)) is
      ∙ ap (numbered 1) (replies-take no_net (lines text) k)
      ∙ numbered-take 1 (replies no_net (lines text)) k
      ∙ ap (take k) (sym (answer-lines text fits));
  promised = holds;
}

-- the laws of a file whose lines were answered
pub laws_served : (text out : List ℕ) → length text ≤ most → Served no_net 0 (lines text) [] out → LawsOfFile text
laws_served text out fits served = laws_of_file text (subst Promised (sym (cond-true _ _ _ (le-leb (length text) most fits))) served.promised)
