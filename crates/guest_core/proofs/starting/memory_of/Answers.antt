use Rattle.std.proofs.Common.{List, subst, sym}
use Rattle.guest_pages.specs.Ranges.{Range}
use Rattle.guest_core.specs.Start.{HasRoom}
use Rattle.guest_core.proofs.RoomFacts.{fewer, load_few, loaded_few, stack_want}
use Rattle.guest_core.proofs.starting.memory_of.Goals as goal

pub load-requires : goal.load-requires
load-requires c = record {
  few = load_few c.args.elf.now c.args.args.now c.args.env.now c.requires.fits;
}

pub add_trampoline-requires : goal.add_trampoline-requires
add_trampoline-requires c =
    subst (λ (memory : List Range). HasRoom memory 1) (sym c.in_ok-memory.ensures)
    (fewer _ (loaded_few c.args.elf.now c.args.args.now c.args.env.now c.requires.fits))

pub unreachable-requires-in-Err-PagesFull : goal.unreachable-requires-in-Err-PagesFull
unreachable-requires-in-Err-PagesFull c =
    let want = stack_want c.args.elf.now c.args.args.now c.args.env.now c.add_trampoline.new.memory c.in_ok-memory.memory c.in-Err-PagesFull.field-0 c.requires.fits
    c.in_ok-memory.ensures c.in_ok-add_trampoline.ensures c.in-Err-PagesFull.ensures.refused in
    let is = c.in-Err-PagesFull.field-0-is in
    cc
