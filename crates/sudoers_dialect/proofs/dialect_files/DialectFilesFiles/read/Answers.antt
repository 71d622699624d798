use Rattle.std.proofs.Common.{List, ℕ, Option, Some, None, Result, Ok, sym, ap, subst, ◌∙◌}
use Rattle.sudoers_files.specs.declared.fault.FileFault.{FileFault}
use Rattle.sudoers_files.specs.Shelf.{IsFileReadResult}
use Rattle.sudoers_dialect.specs.Files.{files_in_dialect}
use Rattle.sudoers_dialect.proofs.Fronts.{file_is_read_in_dialect}
use Rattle.sudoers_dialect.proofs.dialect_files.DialectFilesFiles.read.Goals as goal

pub returns-in_ok-adapted-in-Some : goal.returns-in_ok-adapted-in-Some
returns-in_ok-adapted-in-Some g c =
    let d = c.args.self.now.dialect in
    let old = g.F.Files.shelf c.args.self.now.files in
    let new = g.F.Files.shelf c.read.new.self in
    subst (λ (text : List ℕ). IsFileReadResult (Ok (Some text)) c.args.name.now (files_in_dialect d old) (files_in_dialect d new))
    (sym c.in_ok-adapted-in-Some.ensures)
    (file_is_read_in_dialect d (Some c.in-Some.front) c.args.name.now old new
    (subst (λ (r : Result (Option (List ℕ)) FileFault). IsFileReadResult r c.args.name.now old new) (c.in_ok-front.was ∙ ap (λ (o : Option (List ℕ)). Ok o) c.in-Some.is) c.read.ensures))

pub returns-in-None : goal.returns-in-None
returns-in-None g c =
    let d = c.args.self.now.dialect in
    let old = g.F.Files.shelf c.args.self.now.files in
    let new = g.F.Files.shelf c.read.new.self in
    file_is_read_in_dialect d None c.args.name.now old new
    (subst (λ (r : Result (Option (List ℕ)) FileFault). IsFileReadResult r c.args.name.now old new) (c.in_ok-front.was ∙ ap (λ (o : Option (List ℕ)). Ok o) c.in-None.is) c.read.ensures)
