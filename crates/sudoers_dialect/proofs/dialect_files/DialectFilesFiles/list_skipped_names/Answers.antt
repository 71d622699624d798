use Rattle.sudoers_dialect.proofs.Fronts.{unread_names_are_listed_in_dialect}
use Rattle.sudoers_dialect.proofs.dialect_files.DialectFilesFiles.list_skipped_names.Goals as goal

pub returns : goal.returns
returns g c = unread_names_are_listed_in_dialect _ _ _ _ _ c.list_skipped_names.ensures
