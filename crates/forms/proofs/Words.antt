-- A long word is read byte by byte. Assumes nothing.
use Rattle.std.proofs.Common.{◌≡◌, ℕ, suc, List, [], ◌∷◌, length, slice_index_or, refl, ap, ◌∙◌, arith}

-- each byte of the word stands at its index, the first at i
abbrev pub StandsAt : List ℕ → ℕ → List ℕ → Type 0
StandsAt bs i [] = Unit {0}
StandsAt bs i (c ∷ cs) = (slice_index_or bs i 0 ≡ c) × StandsAt bs (suc i) cs

stands_after : (b : ℕ) (bs : List ℕ) (i : ℕ) (cs : List ℕ) → StandsAt (b ∷ bs) (suc i) cs → StandsAt bs i cs
stands_after b bs i [] h = tt
stands_after b bs i (c ∷ cs) h = (h.0, stands_after b bs (suc i) cs h.1)

pub word_read : (bs word : List ℕ) → length bs ≡ length word → StandsAt bs 0 word → bs ≡ word
word_read [] [] long h = refl
word_read [] (c ∷ cs) long h = absurd (omega arith)
word_read (b ∷ bs) [] long h = absurd (omega arith)
word_read (b ∷ bs) (c ∷ cs) long h = ap (λ x. x ∷ bs) h.0 ∙ ap (λ xs. c ∷ xs) (word_read bs cs (omega arith) (stands_after b bs 0 cs h.1))
