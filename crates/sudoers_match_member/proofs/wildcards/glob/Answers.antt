use Rattle.std.proofs.Common.{false, ap, ◌∙◌}
use Rattle.sudoers_match_member.specs.Folded.{bytes_case_folded_if_wanted}
use Rattle.sudoers_match_member.specs.Wildcard.{is_pattern_match}
use Rattle.sudoers_match_member.proofs.AsRead.{bytes_with_case_kept_are_unchanged}
use Rattle.sudoers_match_member.proofs.wildcards.glob.Goals as goal

pub returns : goal.returns
returns c =
    c.matches_glob_folding_case_if_wanted.ensures
    ∙ ap (λ p. is_pattern_match c.args.mode p (bytes_case_folded_if_wanted false c.args.text.now)) (bytes_with_case_kept_are_unchanged c.args.pattern.now)
    ∙ ap (is_pattern_match c.args.mode c.args.pattern.now) (bytes_with_case_kept_are_unchanged c.args.text.now)
