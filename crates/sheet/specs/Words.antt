-- The words that a line can begin with. Assumes nothing.
use Rattle.std.specs.Prelude.{ℕ, cond, List, Some, None, Option, codes}
use Rattle.std.specs.Str.{bytes_eq}
use Rattle.sheet.specs.declared.word.Word.{Word}
use Rattle.sheet.specs.declared.word.Word.TheVariants.{Budget, Gated, Link}

abbrev pub word_of : List ℕ → Option Word
word_of bs =
    cond (bytes_eq bs (codes "budget")) (Some Budget) (cond (bytes_eq bs (codes "gated")) (Some Gated) (cond (bytes_eq bs (codes "link")) (Some Link) None))
