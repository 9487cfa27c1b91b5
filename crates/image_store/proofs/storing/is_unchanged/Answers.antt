-- The bytes of the file are compared.
use Rattle.std.proofs.Common.{◌≡◌, ◌∙◌, ap}
use Rattle.std.specs.Str.{bytes_eq}
use Rattle.file_tree.specs.Nodes.{file_bytes}
use Rattle.image_store.proofs.storing.is_unchanged.Goals as goal

pub returns-in-File : goal.returns-in-File
returns-in-File c =
    let same : c.eq.result ≡ bytes_eq (file_bytes c.args.before.now.nodes c.in-File.inode) c.args.bytes.now = c.eq.ensures ∙ ap (λ b. bytes_eq b c.args.bytes.now) c.bytes_of.ensures in
    rw c.in-File.is same
