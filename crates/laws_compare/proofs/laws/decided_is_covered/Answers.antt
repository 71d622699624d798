use Rattle.laws_compare.proofs.DecidedCovers.{row_decided_covering_covers, grant_decided_covering_covers}
use Rattle.laws_compare.proofs.laws.decided_is_covered.Goals as goal

pub returns-clause-row : goal.returns-clause-row
returns-clause-row c = row_decided_covering_covers

pub returns-clause-grant : goal.returns-clause-grant
returns-clause-grant c = grant_decided_covering_covers
