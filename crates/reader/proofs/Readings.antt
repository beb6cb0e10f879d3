-- The value of digits, by the digits before the last.
use Rattle.std.proofs.Common.{◌≡◌, ℕ, suc, ◌+◌, ◌*◌, ◌-◌, ◌%◌, ◌^◌, ◌<◌, ◌≤◌, true, false, Bool, ◌&&◌, leb, cond, List, [], ◌∷◌, ◌++◌, length, Some, None, Option, refl, ap, subst, pow-suc, add-one, arith}
use native.Mathlib.Numerals.{unary_clauses}
use Rattle.std.specs.Char.{is_ascii_digit}
use Rattle.std.specs.List.{list_all}
use Rattle.std.proofs.lemmas.Bool.{and_parts, leb-true}
use Rattle.std.proofs.lemmas.List.Folds.{list_all-append}
use Rattle.std.proofs.Math.Nat.{pow-le-pow_right}
use Rattle.reader.specs.Reading.{value_after, value_of, decimal_of}

pub value_last : (n : ℕ) (bs : List ℕ) (b : ℕ) → value_after n (bs ++ b ∷ []) ≡ value_after n bs * 10 + (b - 48)
value_last n [] b = refl
value_last n (x ∷ bs) b = value_last (n * 10 + (x - 48)) bs b

pub digit_fits : (n b i : ℕ) → n < 10 ^ i → is_ascii_digit b ≡ true → n * 10 + (b - 48) < 10 ^ (i + 1)
digit_fits n b i l d =
    let small : b ≤ 57 = leb-true b 57 (and_parts (leb 48 b) (leb b 57) d).1 in
    rw (add-one, pow-suc) (omega arith)

-- the value of digits that come after a number of k digits
pub value_fits : (n k : ℕ) (bs : List ℕ) → n < 10 ^ k → list_all is_ascii_digit bs ≡ true → value_after n bs < 10 ^ (k + length bs)
value_fits n k [] l d = simp unary_clauses l
value_fits n k (b ∷ bs) l d =
    let parts = and_parts (is_ascii_digit b) (list_all is_ascii_digit bs) d in
    let rest : value_after (n * 10 + (b - 48)) bs < 10 ^ (k + 1 + length bs) = value_fits (n * 10 + (b - 48)) (k + 1) bs (digit_fits n b k l parts.0) parts.1 in
    let same : k + 1 + length bs ≡ k + suc (length bs) = omega arith in
    subst (λ i. value_after (n * 10 + (b - 48)) bs < 10 ^ i) same rest

-- what a turn over a digit makes of the value so far, cut to 64 bits
abbrev pub turn : Option ℕ → ℕ → Option ℕ
turn None x = None
turn (Some n) x = cond (is_ascii_digit x) (Some (((n * 10) % 2 ^ 64 + (x - 48)) % 2 ^ 64)) None

turn_fits : (n x i : ℕ) → n < 10 ^ i → i ≤ 9 → is_ascii_digit x ≡ true → turn (Some n) x ≡ Some (n * 10 + (x - 48))
turn_fits n x i l few d =
    let next : n * 10 + (x - 48) < 10 ^ (i + 1) = digit_fits n x i l d in
    let most : 10 ^ (i + 1) ≤ 10 ^ 10 = pow-le-pow_right {n = 10} (omega arith) {i = i + 1} {j = 10} (omega (arith, few)) in
    rw d (ap Some (omega (arith, next, most)))

-- a turn over x, by whether the digits before it are digits, and whether it is
turn_by : (ys : List ℕ) (x : ℕ) (all one : Bool) → list_all is_ascii_digit ys ≡ all → is_ascii_digit x ≡ one → length ys ≤ 9 → turn (cond all (Some (value_of ys)) None) x ≡ cond (all && (one && true)) (Some (value_of ys * 10 + (x - 48))) None
turn_by ys x false one a o few = refl
turn_by ys x true false a o few = ap (λ v. cond v (Some (((value_of ys * 10) % 2 ^ 64 + (x - 48)) % 2 ^ 64)) None) o
turn_by ys x true true a o few =
    let fits : value_of ys < 10 ^ (0 + length ys) = value_fits 0 0 ys (omega arith) a in
    let same : 0 + length ys ≡ length ys = omega arith in
    turn_fits (value_of ys) x (length ys) (subst (λ i. value_of ys < 10 ^ i) same fits) few o

pub turn_last : (ys : List ℕ) (x : ℕ) → length ys ≤ 9 → turn (decimal_of ys) x ≡ decimal_of (ys ++ x ∷ [])
turn_last ys x few = rw (list_all-append is_ascii_digit ys (x ∷ []), value_last 0 ys x) (turn_by ys x (list_all is_ascii_digit ys) (is_ascii_digit x) refl refl few)
