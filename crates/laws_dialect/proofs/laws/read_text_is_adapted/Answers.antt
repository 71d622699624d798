use Rattle.laws_dialect.proofs.AdaptedTexts.{read_text_is_its_adapted_text}
use Rattle.laws_dialect.proofs.laws.read_text_is_adapted.Goals as goal

pub returns : goal.returns
returns c = read_text_is_its_adapted_text c.respelled_line_is.ensures c.one_respelled_line.ensures (λ text lines cut. (c.lines_stand_alone.ensures text lines cut).2)
