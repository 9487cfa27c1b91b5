use Rattle.std.proofs.Common.{◌≡◌, ◌≤◌, [], drop}
use Rattle.image_store.specs.Loading.{first_refused, loaded_of}
use Rattle.image_store.proofs.loading.look_over.Given as goal

-- what is left is refused as the whole is
abbrev pub invariant-loop-entry : goal.invariant-loop-entry
invariant-loop-entry l = record {
  rest : first_refused 0 (loaded_of l.listed) [] ≡ first_refused l.before (loaded_of (drop l.entry-index l.listed)) [];
  within : l.before ≤ 268435456;
}
