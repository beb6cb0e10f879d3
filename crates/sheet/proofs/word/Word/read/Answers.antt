use Rattle.std.proofs.Common.{◌≡◌, codes, rules, arith}
use Rattle.std.proofs.lemmas.Slice.Eq.{text_from_reads}
use Rattle.sheet.proofs.word.Word.read.Goals as goal

pub returns-in-budget : goal.returns-in-budget
returns-in-budget c =
    let text : c.args.text.now ≡ codes "budget" = text_from_reads _ (codes "budget") (omega arith) (search rules) in
    rw text

pub returns-in-gated : goal.returns-in-gated
returns-in-gated c =
    let text : c.args.text.now ≡ codes "gated" = text_from_reads _ (codes "gated") (omega arith) (search rules) in
    rw text
