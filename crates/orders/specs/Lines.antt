-- Answer lines: how a reply is written. Assumes nothing.
use Rattle.std.specs.Prelude.{◌≡◌, ℕ, ◌+◌, List, [], ◌∷◌, ◌++◌, codes, decimal, Result, OnOk}
use Rattle.std.specs.List.{flat_map}

-- the reply to a line: values, or the number of the refusal and the field to blame, 0 where none is
pub data Reply : Type 0 where
  accepted : (values : List ℕ) → Reply
  refused : (number field : ℕ) → Reply

-- where all went well, the bytes stand after those that were there
abbrev pub Written : {A E : Type 0} → List ℕ → List ℕ → Result A E → List ℕ → Type 0
Written before bytes r after = OnOk r (after ≡ before ++ bytes)

-- each value after a comma
abbrev pub listed : List ℕ → List ℕ
listed vs = flat_map (λ v. 44 ∷ decimal v) vs

-- line n: `ok` and the values, or `refused`, the number and the field
abbrev pub reply_line : ℕ → Reply → List ℕ
reply_line n (accepted values) = decimal n ++ (codes ",ok" ++ listed values)
reply_line n (refused number field) = decimal n ++ (codes ",refused" ++ listed (number ∷ field ∷ []))

-- the replies as lines, from line n on
abbrev pub numbered : ℕ → List Reply → List (List ℕ)
numbered n [] = []
numbered n (r ∷ rs) = reply_line n r ∷ numbered (n + 1) rs
