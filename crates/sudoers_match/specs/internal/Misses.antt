-- A device of the proof, which no public contract cites: what is known while near misses are sought.
use Rattle.sudoers_grammar.specs.declared.node.Kind.TheVariants.{Cmnd}
use Rattle.sudoers_match_list.specs.Search.{IsValidVerdictCache}
use Rattle.sudoers_match.specs.declared.near_misses.MissSearch.{MissSearch}
use Rattle.sudoers_match.specs.declared.request_verdicts.RequestContext.{RequestContext}
use Rattle.sudoers_match.specs.internal.Question.{IsValidCacheForContext}
use Rattle.sudoers_match.specs.Spellings.{is_spelled_path_match}

pub record IsValidMissSearch (asked : RequestContext) (s : MissSearch) : Type 0 where
  pub question : IsValidCacheForContext asked s.question
  pub paths : IsValidVerdictCache Cmnd asked.policy.now (is_spelled_path_match asked.command.now) s.paths
