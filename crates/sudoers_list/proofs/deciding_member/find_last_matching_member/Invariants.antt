use Rattle.std.proofs.Common.{map, take}
use Rattle.std.specs.Option.{option_map}
use Rattle.sudoers_grammar.specs.declared.node.Kind.TheVariants.{Cmnd}
use Rattle.sudoers_line_rows.specs.Tables.{member_in_tables}
use Rattle.sudoers_line_rows.specs.View.{member_of_view}
use Rattle.sudoers_match.specs.Spellings.{is_spelled_command_match}
use Rattle.sudoers_match_list.specs.Search.{IsValidVerdictCache}
use Rattle.sudoers_match.specs.Last.{IsLastItemWith}
use Rattle.sudoers_list.specs.Inner.{MemberMatchesCommand}
use Rattle.sudoers_list.proofs.deciding_member.find_last_matching_member.Given as goal

abbrev pub invariant-loop-row : goal.invariant-loop-row
invariant-loop-row l =
    IsValidVerdictCache Cmnd l.policy (is_spelled_command_match l.command) l.verdicts
    × IsLastItemWith (MemberMatchesCommand l.policy (is_spelled_command_match l.command)) (map (member_in_tables l.tables) (take l.row-index l.row-items)) (option_map member_of_view l.last)
