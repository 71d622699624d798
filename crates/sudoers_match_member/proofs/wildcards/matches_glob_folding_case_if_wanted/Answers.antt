use Rattle.sudoers_match_member.specs.Folded.{bytes_case_folded_if_wanted}
use Rattle.sudoers_match_member.proofs.Splits.{pattern_match_truth_is_pattern_match_test}
use Rattle.sudoers_match_member.proofs.wildcards.matches_glob_folding_case_if_wanted.Goals as goal

pub returns : goal.returns
returns c =
    pattern_match_truth_is_pattern_match_test c.args.mode (bytes_case_folded_if_wanted c.args.lower c.args.pattern.now) (bytes_case_folded_if_wanted c.args.lower c.args.text.now) c.matches_whole_pattern.result c.matches_whole_pattern.ensures
