use Rattle.std.proofs.Common.{◌≡◌, ◌≤◌, drop, slice_range}
use Rattle.std.specs.List.{list_all}
use Rattle.cli_words.specs.Words.{parts_after, is_part, is_path}
use Rattle.cli_words.proofs.word.has_parts.Given as goal

abbrev pub invariant-loop-place : goal.invariant-loop-place
invariant-loop-place l = record {
  order : l.start ≤ l.place;
  rest : list_all is_part (parts_after (slice_range l.bytes l.start l.place) (drop l.place l.bytes)) ≡ is_path l.bytes;
}
