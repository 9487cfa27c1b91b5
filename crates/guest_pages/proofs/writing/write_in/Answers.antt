use Rattle.std.proofs.Common.{ℕ, List, ◌-◌, get_or, length, if◌then◌else◌, sym, ap, ◌∙◌}
use Rattle.guest_pages.specs.declared.page.Page.{Page}
use Rattle.guest_pages.specs.Ranges.{within}
use Rattle.guest_pages.specs.Tables.{cell_in}
use Rattle.guest_pages.specs.Writes.{with_bytes}
use Rattle.guest_pages.proofs.PageFacts.{put_cell}
use Rattle.guest_pages.proofs.writing.write_in.Goals as goal

pub returns-then-include-clause-done : goal.returns-then-include-clause-done
returns-then-include-clause-done c = λ yes k.
    let put = c.put_in.ensures k ∙ ap (λ (l : List ℕ). if within c.args.place (length c.args.bytes.now) k then get_or c.args.bytes.now (k - c.args.place) 0 else get_or l k 0) c.deref_mut.ensures.value in
    put_cell c.in-Held.rights c.in-Held.stored.value c.put_in.new.stored c.args.place c.args.bytes.now k put
    ∙ ap (λ (p : Page). with_bytes c.args.place c.args.bytes.now (cell_in p) k) (sym c.in-Held.is)
