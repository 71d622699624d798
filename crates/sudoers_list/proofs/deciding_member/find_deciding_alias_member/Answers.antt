use Rattle.std.proofs.Common.{List, ◌∷◌, [], length, sym}
use Rattle.sudoers_grammar.specs.declared.node.Kind.TheVariants.{Cmnd}
use Rattle.sudoers_grammar.specs.Node.{Member}
use Rattle.sudoers_line_rows.specs.View.{member_of_view, members_of_view}
use Rattle.sudoers_tree.specs.Definition.{definitions_of_lines}
use Rattle.sudoers_match.specs.Spellings.{is_spelled_command_match}
use Rattle.sudoers_list.proofs.Going.{begins}
use Rattle.sudoers_list.proofs.Known.{flat_is}
use Rattle.sudoers_list.proofs.Speaking.{members_say}
use Rattle.sudoers_list.proofs.deciding_member.find_deciding_alias_member.Goals as goal

pub find_innermost_member-requires-clause-verdicts : goal.find_innermost_member-requires-clause-verdicts
find_innermost_member-requires-clause-verdicts c = c.in_ok-verdicts.ensures Cmnd (is_spelled_command_match c.args.command.now)

pub find_innermost_member-requires-clause-says : goal.find_innermost_member-requires-clause-says
find_innermost_member-requires-clause-says c =
    let m : Member = member_of_view c.args.member.now in
    let ms : List Member = members_of_view c.in-Some.outer.members in
    members_say c.args.policy.now (is_spelled_command_match c.args.command.now) m ms (sym c.in-Some.ensures.members) c.requires

pub find_innermost_member-requires-clause-within : goal.find_innermost_member-requires-clause-within
find_innermost_member-requires-clause-within c =
    let lines = c.args.policy.now in
    let m : Member = member_of_view c.args.member.now in
    let latest = c.requires.1 in
    begins lines (length (definitions_of_lines lines)) m c.in-Some.outer.name.now latest.flat c.in-Some.ensures.name latest.is_flat
    (flat_is lines c.is_acyclic.ensures.walk (m ∷ []) latest.flat latest.is_flat)

pub returns : goal.returns
returns c = (c.in-Some.outer.name.now, c.in-Some.ensures.name, c.in_ok-find_innermost_member.ensures)
