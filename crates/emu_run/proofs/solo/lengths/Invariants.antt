use Rattle.file_table.specs.State.{outputs_of}
use Rattle.std.proofs.Common.{◌≡◌, ◌<◌, ℕ, [], length, slice_index, slice_index_or}
use Rattle.emu_run.proofs.solo.lengths.Given as goal

abbrev pub invariant-loop-device : goal.invariant-loop-device
invariant-loop-device l = record {
  size : length l.lengths ≡ 8;
  known : (k : ℕ) → k < l.device → slice_index l.lengths k ≡ length (slice_index_or (outputs_of l.core.shared.files) k []);
}
