use Rattle.std.proofs.Common.{◌≡◌, ◌++◌, map, drop, string_bytes}
use Rattle.std.specs.Slice.Iter.{iter_rest}
use Rattle.net.specs.Performed.{told_of}
use Rattle.orders.specs.Passes.{entry_of, entry_texts}
use Rattle.orders.proofs.serve.write_lines.Given as goal

abbrev pub invariant-loop-line : goal.invariant-loop-line
invariant-loop-line l =
    string_bytes l.initial.out ++ entry_texts (map entry_of l.lines) (map told_of (iter_rest l.initial.answers)) ≡ string_bytes l.out ++ entry_texts (map entry_of (drop l.line-index l.lines)) (map told_of (iter_rest l.answers))
