use Rattle.std.proofs.Common.{◌≡◌, ◌≤◌, length, take, vec_items, vec_len, vec_capacity}
use Rattle.net.specs.Labels.{labels_after}
use Rattle.net.specs.Ledger.{Site, begun}
use Rattle.net.specs.Matching.{Matches}
use Rattle.net.specs.Performed.{is_serving, nodes_of, links_of, Sofar}
use Rattle.net.proofs.shift.run.Given as goal

abbrev pub invariant-loop-call : goal.invariant-loop-call
invariant-loop-call g l = record {
  long : vec_len l.answers ≡ l.call-index;
  enough : length l.calls ≤ vec_capacity l.answers;
  room : length l.labels ≡ length l.initial.labels;
  ran : (site : Site) → Matches {K = g.row.K.Denot} site begun (is_serving l.initial.net) (nodes_of l.initial.net) (links_of l.initial.net) l.initial.book.streams → site.label_places ≡ length l.initial.labels → Sofar g.K.Kind.model site (take l.call-index l.calls) l.net l.book.streams (vec_items l.answers);
  labels : (site : Site) → Matches {K = g.row.K.Denot} site begun (is_serving l.initial.net) (nodes_of l.initial.net) (links_of l.initial.net) l.initial.book.streams → site.label_places ≡ length l.initial.labels → l.labels ≡ labels_after g.K.Kind.model site begun (take l.call-index l.calls) l.initial.labels;
}
