use Rattle.laws_dialect.proofs.Slashes.{adapted_line_is_slashed_line}
use Rattle.laws_dialect.proofs.SlashedRows.{slashed_bytes_have_as_many_line_feeds}
use Rattle.laws_dialect.proofs.laws.adapted_line_keeps_rows.Goals as goal

pub returns : goal.returns
returns c = λ line. slashed_bytes_have_as_many_line_feeds line _ (adapted_line_is_slashed_line c.respelled_line_is.ensures line)
