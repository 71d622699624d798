use Rattle.sudoers_dialect.proofs.Fronts.{included_names_are_listed_in_dialect}
use Rattle.sudoers_dialect.proofs.dialect_files.DialectFilesFiles.list_included_names.Goals as goal

pub returns : goal.returns
returns g c = included_names_are_listed_in_dialect _ _ _ _ _ c.list_included_names.ensures
