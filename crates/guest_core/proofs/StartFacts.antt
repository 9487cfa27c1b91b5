-- That the start keeps what every state keeps.
use Rattle.std.proofs.Common.{◌≡◌, ℕ, ◌-◌, List, [], ◌∷◌, map, refl, arith}
use Rattle.std.specs.List.{All}
use Rattle.elf_file.specs.declared.image.Elf.{Elf}
use Rattle.elf_file.specs.Reading.{image}
use Rattle.elf_file.specs.Views.{segment_image}
use Rattle.guest_pages.specs.Ranges.{Range}
use Rattle.start_stack.specs.Placing.{with_stack}
use Rattle.isa_step.specs.declared.decoder.Known.{Known}
use Rattle.guest_pages.specs.Apart.{IsApart}
use Rattle.guest_core.specs.Start.{Program, first_memory, program_of, started, trampoline_bytes, with_trampoline}
use Rattle.guest_pages.specs.Limits.{trampoline, stack_length, stack_end}
use Rattle.guest_pages.specs.Faults.{changeable, runnable}
use Rattle.file_table.specs.State.{Files}
use Rattle.guest_core.specs.Machine.{first_thread}
use Rattle.guest_core.specs.System.{live_ids}
use Rattle.isa_step.specs.Known.{IsKnown}
use Rattle.guest_core.specs.Sound.{IsSound}
use Rattle.guest_pages.proofs.ApartFacts.{apart_placed, apart_protected, apart_written}
use Rattle.guest_core.proofs.SegmentFacts.{all_one_way, apart_loaded}

-- no page of a file, of the trampoline and of the stack can be both written and executed
first_apart : (elf : Elf) (args env : List (List ℕ)) → IsApart (first_memory (program_of (image elf) args env))
unfolding first_memory with_stack with_trampoline
first_apart elf args env =
    let segments = apart_loaded (map segment_image elf.segments.items) elf.clear (all_one_way elf.segments.items) in
    let page = apart_protected trampoline 4096 runnable _ refl (apart_written trampoline trampoline_bytes _ (apart_placed trampoline 4096 changeable _ refl segments)) in
    apart_written _ _ _ (apart_written _ _ _ (apart_placed (stack_end - stack_length) stack_length changeable _ refl page))

-- so a start keeps what every state keeps, where nothing that isn't there is remembered
pub start_sound : (elf : Elf) (args env : List (List ℕ)) (files : Files) (known : List Known) → ((memory : List Range) → All (IsKnown memory) known) → IsSound (started (program_of (image elf) args env) files) known
unfolding started
start_sound elf args env files known all =
    let apart = first_apart elf args env in
    record {
      keeps = record {
        each = (record { apart = apart; flag_set = λ clear. refl; by_place = tt; at_call = tt }, tt);
        noted_due = (refl, tt);
        ids_rise = (omega arith, tt);
      };
      apart = apart;
      right = all (first_memory (program_of (image elf) args env));
    }

pub start_ids : (program : Program) (files : Files) → live_ids (started program files) ≡ first_thread ∷ []
unfolding started
start_ids program files = refl
