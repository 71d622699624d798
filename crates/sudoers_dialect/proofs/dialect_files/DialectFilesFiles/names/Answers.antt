use Rattle.sudoers_dialect.proofs.Fronts.{names_are_listed_in_dialect}
use Rattle.sudoers_dialect.proofs.dialect_files.DialectFilesFiles.names.Goals as goal

pub returns : goal.returns
returns g c = names_are_listed_in_dialect _ _ _ _ _ c.names.ensures
