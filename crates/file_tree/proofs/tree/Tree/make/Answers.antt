-- What is made at the spot is what the definition says.
use Rattle.std.proofs.Common.{Result, sym, subst, refl}
use Rattle.file_tree.specs.declared.errno.Errno.{Errno}
use Rattle.file_tree.specs.Nodes.{Tree}
use Rattle.file_tree.specs.Answers.{Answers}
use Rattle.file_tree.proofs.WalkFacts.{made_spot, made_err}
use Rattle.file_tree.proofs.PathLaws.{leads_found}
use Rattle.file_tree.proofs.SpotFacts.{is_named}
use Rattle.file_tree.proofs.tree.Tree.make.Goals as goal

pub returns-in-Ok-clause-answers : goal.returns-in-Ok-clause-answers
returns-in-Ok-clause-answers c =
    subst (λ (due : Result Tree Errno). Answers c.make_at.result due c.args.self.now c.make_at.new.self)
    (sym (made_spot c.args.kind c.args.from c.args.path.now c.args.self.now (record { at = c.in-Ok.at; name = c.in-Ok.name.now }) c.is_refused_slash.result c.in-Ok.ensures.spot c.is_refused_slash.ensures))
    c.make_at.ensures.answers

pub returns-in-Err-clause-answers : goal.returns-in-Err-clause-answers
returns-in-Err-clause-answers c = (made_err c.args.kind c.args.from c.args.path.now c.args.self.now c.in-Err.errno c.in-Err.ensures.spot, refl)

pub returns-in-Ok-clause-found : goal.returns-in-Ok-clause-found
returns-in-Ok-clause-found c =
    leads_found c.make_at.result c.args.kind c.is_refused_slash.result c.args.from c.args.path.now c.args.self.now c.make_at.new.self (record { at = c.in-Ok.at; name = c.in-Ok.name.now })
    c.make_at.ensures.answers c.make_at.ensures.leads c.in-Ok.ensures.spot c.is_refused_slash.ensures

pub returns-in-Ok-clause-named : goal.returns-in-Ok-clause-named
returns-in-Ok-clause-named c =
    is_named c.args.from c.args.path.now c.args.self.now c.make_at.new.self (record { at = c.in-Ok.at; name = c.in-Ok.name.now }) c.make_at.result c.in-Ok.ensures.spot c.make_at.ensures.named
