use Rattle.laws_load.proofs.MissingNames.{missing_file_is_of_no_known_name}
use Rattle.laws_load.proofs.laws.missing_file_was_not_there.Goals as goal

pub returns : goal.returns
returns c = missing_file_is_of_no_known_name c.line_alone_is_whole.ensures.whole (λ text lines is. (c.lines_stand_alone.ensures text lines is).0) c.gather_is.ensures.is c.walk_is.ensures.is
