-- The bits of a number, and numbers as sets of bits. Assumes nothing.
use Rattle.std.specs.Prelude.{◌≡◌, ℕ, zero, suc, ◌+◌, ◌*◌, ◌/◌, ◌%◌, ◌^◌, ◌<◌, ◌≤◌, max, sum_by, ◌≢◌, bit_and, refl}
use Rattle.std.proofs.Common.{sym, ap, ap₂, subst, ◌∙◌, zero-le, add-one, arith, pow-suc, mul_assoc}
use Rattle.std.specs.Int.Bits.{bit_or, and_step, or_step, and_zero_l, and_zero_r, or_zero_r}
use Rattle.std.specs.Int.Count.{ones, ones_step}
use Rattle.std.specs.List.{range_with_len}
use Rattle.std.proofs.lemmas.List.Sums.{sum_by-cons}

-- an induction on the halves of a number
halving_below : (P : ℕ → Type 0) → P 0 → ((n : ℕ) → P (n / 2) → P n) → (k n : ℕ) → n ≤ k → P n
halving_below P z s zero n le = subst P (omega arith) z
halving_below P z s (suc k) zero le = z
halving_below P z s (suc k) (suc n) le = s (suc n) (halving_below P z s k (suc n / 2) (omega arith))

pub halving : (P : ℕ → Type 0) → P 0 → ((n : ℕ) → P (n / 2) → P n) → (n : ℕ) → P n
halving P z s n = halving_below P z s n n (omega arith)

-- a is a part of b, seen from the halves and the last bits
part_halves : (a b : ℕ) → bit_and a b ≡ a → (bit_and (a / 2) (b / 2) ≡ a / 2) × (a % 2 ≤ b % 2)
part_halves a b h = let s = and_step a b in (omega arith, omega arith)

part_from_halves : (a b : ℕ) → bit_and (a / 2) (b / 2) ≡ a / 2 → a % 2 ≤ b % 2 → bit_and a b ≡ a
part_from_halves a b h l = let s = and_step a b in omega arith

pub part_chain : (a b c : ℕ) → bit_and a b ≡ a → bit_and b c ≡ b → bit_and a c ≡ a
part_chain =
    halving
    (λ a. (b c : ℕ) → bit_and a b ≡ a → bit_and b c ≡ b → bit_and a c ≡ a)
    (λ b c p q. and_zero_l c)
    (λ a ih b c p q.
    let p' = part_halves a b p in
    let q' = part_halves b c q in
    part_from_halves a c (ih (b / 2) (c / 2) p'.0 q'.0) (omega arith))

pub part_or : (a m : ℕ) → bit_and a (bit_or a m) ≡ a
part_or =
    halving
    (λ a. (m : ℕ) → bit_and a (bit_or a m) ≡ a)
    (λ m. and_zero_l (bit_or 0 m))
    (λ a ih m.
    let s = or_step a m in
    let half : bit_or a m / 2 ≡ bit_or (a / 2) (m / 2) = omega arith in
    part_from_halves a (bit_or a m) (ap (bit_and (a / 2)) half ∙ ih (m / 2)) (omega arith))

-- one more bit on both sides keeps a part a part
pub part_or_both : (a b m : ℕ) → bit_and a b ≡ a → bit_and (bit_or a m) (bit_or b m) ≡ bit_or a m
part_or_both a b m = joint m a b
  where
    joint : (m a b : ℕ) → bit_and a b ≡ a → bit_and (bit_or a m) (bit_or b m) ≡ bit_or a m
    joint =
        halving
        (λ m. (a b : ℕ) → bit_and a b ≡ a → bit_and (bit_or a m) (bit_or b m) ≡ bit_or a m)
        (λ a b p. rw (or_zero_r a, or_zero_r b) p)
        (λ m ih a b p.
        let p' = part_halves a b p in
        let s = or_step a m in
        let t = or_step b m in
        let left : bit_or a m / 2 ≡ bit_or (a / 2) (m / 2) = omega arith in
        let right : bit_or b m / 2 ≡ bit_or (b / 2) (m / 2) = omega arith in
        part_from_halves (bit_or a m) (bit_or b m) (ap₂ bit_and left right ∙ ih (a / 2) (b / 2) p'.0 ∙ sym left) (omega arith))

-- a part of what misses m misses m
pub part_misses : (a b m : ℕ) → bit_and a b ≡ a → bit_and b m ≡ 0 → bit_and a m ≡ 0
part_misses =
    halving
    (λ a. (b m : ℕ) → bit_and a b ≡ a → bit_and b m ≡ 0 → bit_and a m ≡ 0)
    (λ b m p q. and_zero_l m)
    (λ a ih b m p q.
    let p' = part_halves a b p in
    let s = and_step a m in
    let t = and_step b m in
    let rest : bit_and (b / 2) (m / 2) ≡ 0 = omega arith in
    let half = ih (b / 2) (m / 2) p'.0 rest in
    omega arith)

pub part_ones : (a b : ℕ) → bit_and a b ≡ a → ones a ≤ ones b
unfolding ones
part_ones =
    halving
    (λ a. (b : ℕ) → bit_and a b ≡ a → ones a ≤ ones b)
    (λ b p. zero-le)
    (λ a ih b p.
    let p' = part_halves a b p in
    let half = ih (b / 2) p'.0 in
    rw (ones_step a, ones_step b) (omega arith))

-- the bit of n at place d
pub bit : ℕ → ℕ → ℕ
bit n zero = n % 2
bit n (suc d) = bit (n / 2) d

pub bit-bit_or : (d a b : ℕ) → bit (bit_or a b) d ≡ max (bit a d) (bit b d)
unfolding bit
bit-bit_or zero a b = let s = or_step a b in omega arith
bit-bit_or (suc d) a b =
    let s = or_step a b in
    let half : bit_or a b / 2 ≡ bit_or (a / 2) (b / 2) = omega arith in
    ap (λ n. bit n d) half ∙ bit-bit_or d (a / 2) (b / 2)

pub bit-zero : (d : ℕ) → bit 0 d ≡ 0
unfolding bit
bit-zero zero = refl
bit-zero (suc d) = bit-zero d

pub bit_mask_same : (d : ℕ) → bit (2 ^ d) d ≡ 1
unfolding bit
bit_mask_same zero = refl
bit_mask_same (suc d) = ap (λ n. bit n d) (omega (arith, pow-suc 2 d)) ∙ bit_mask_same d

pub bit_mask_other : (e d : ℕ) → (e ≢ d) → bit (2 ^ e) d ≡ 0
unfolding bit
bit_mask_other zero zero h = absurd (h refl)
bit_mask_other zero (suc d) h = bit-zero d
bit_mask_other (suc e) zero h = omega (arith, pow-suc 2 e)
bit_mask_other (suc e) (suc d) h = ap (λ n. bit n d) (omega (arith, pow-suc 2 e)) ∙ bit_mask_other e d (λ same. h (ap suc same))

-- n meets the set of d alone in the bit of n at d
pub and_mask_bit : (d n : ℕ) → bit_and n (2 ^ d) ≡ bit n d * 2 ^ d
unfolding bit
and_mask_bit zero n = let s = and_step n 1 in omega (arith, and_zero_r (n / 2))
and_mask_bit (suc d) n =
    let s = and_step n (2 ^ suc d) in
    let p = pow-suc 2 d in
    let half : 2 ^ suc d / 2 ≡ 2 ^ d = omega arith in
    let inner : bit_and (n / 2) (2 ^ suc d / 2) ≡ bit (n / 2) d * 2 ^ d = ap (bit_and (n / 2)) half ∙ and_mask_bit d (n / 2) in
    let doubled : bit (n / 2) d * 2 ^ suc d ≡ bit (n / 2) d * 2 ^ d * 2 = ap (λ m. bit (n / 2) d * m) p ∙ sym (mul_assoc (bit (n / 2) d) (2 ^ d) 2) in
    omega arith

pub bit_below : (d n : ℕ) → bit n d < 2
unfolding bit
bit_below zero n = omega arith
bit_below (suc d) n = bit_below d (n / 2)

sum_by_later : (f : ℕ → ℕ) (k a : ℕ) → sum_by f (range_with_len (a + 1) k) ≡ sum_by (λ d. f (d + 1)) (range_with_len a k)
sum_by_later f zero a = refl
sum_by_later f (suc k) a =
    sum_by-cons f (a + 1) (range_with_len (a + 1 + 1) k) ∙ ap (λ n. f (a + 1) + n) (sum_by_later f k (a + 1)) ∙ sym (sum_by-cons (λ d. f (d + 1)) a (range_with_len (a + 1) k))

pub sum_by_alike : (f g : ℕ → ℕ) (k a : ℕ) → ((d : ℕ) → d < a + k → f d ≡ g d) → sum_by f (range_with_len a k) ≡ sum_by g (range_with_len a k)
sum_by_alike f g zero a h = refl
sum_by_alike f g (suc k) a h =
    sum_by-cons f a (range_with_len (a + 1) k) ∙ ap₂ ◌+◌ (h a (omega arith)) (sum_by_alike f g k (a + 1) (λ d lt. h d (omega arith))) ∙ sym (sum_by-cons g a (range_with_len (a + 1) k))

pub ones_bits : (k n : ℕ) → n < 2 ^ k → ones n ≡ sum_by (bit n) (range_with_len 0 k)
unfolding bit ones
ones_bits zero n lt = let none : n ≡ 0 = omega arith in ap ones none
ones_bits (suc k) n lt =
    ones_step n
    ∙ ap (λ m. n % 2 + m) (ones_bits k (n / 2) (omega (arith, pow-suc 2 k)) ∙ sum_by_alike (bit (n / 2)) (λ d. bit n (d + 1)) k 0 (λ d l. ap (bit n) (sym (add-one d))) ∙ sym (sum_by_later (bit n) k 0))
    ∙ sym (sum_by-cons (bit n) 0 (range_with_len 1 k))
