-- The parts in front of a name, one after another.
use Rattle.std.proofs.Common.{◌≡◌, ℕ, List, [], ◌∷◌, ◌++◌, ap, ◌∙◌}
use Rattle.byteorder.specs.Endian.{little_bytes}
use Rattle.file_table.proofs.ListFacts.{four_joined}
use Rattle.file_table.proofs.listing.push_head.Goals as goal

pub returns-in-Ok : goal.returns-in-Ok
returns-in-Ok c =
    let one : c.extend_from_slice.new.self.items ≡ c.args.out.now.items ++ little_bytes 8 c.args.inode = c.in_ok-extend_from_slice.ensures.items ∙ ap (λ (l : List ℕ). c.args.out.now.items ++ l) c.to_le_bytes.ensures in
    let two : c.extend_from_slice-2.new.self.items ≡ c.extend_from_slice.new.self.items ++ little_bytes 8 c.args.next = c.in_ok-extend_from_slice-2.ensures.items ∙ ap (λ (l : List ℕ). c.extend_from_slice.new.self.items ++ l) c.to_le_bytes-2.ensures in
    let three : c.extend_from_slice-3.new.self.items ≡ c.extend_from_slice-2.new.self.items ++ little_bytes 2 c.args.size = c.in_ok-extend_from_slice-3.ensures.items ∙ ap (λ (l : List ℕ). c.extend_from_slice-2.new.self.items ++ l) c.to_le_bytes-3.ensures in
    four_joined c.args.out.now.items (little_bytes 8 c.args.inode) (little_bytes 8 c.args.next) (little_bytes 2 c.args.size) (c.args.kind ∷ [])
    c.extend_from_slice.new.self.items c.extend_from_slice-2.new.self.items c.extend_from_slice-3.new.self.items c.extend_from_slice-4.new.self.items
    one two three c.in-Ok.ensures.items
