use Rattle.laws_compare.proofs.FittingRows.{covering_row_fits_request}
use Rattle.laws_compare.proofs.laws.covering_row_fits.Goals as goal

pub returns : goal.returns
returns c = covering_row_fits_request c.one_flat.ensures
