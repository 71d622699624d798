use Rattle.std.proofs.Common.{◌≡◌, ◌-◌, suc, List, length, Some, refl, sym, ap, subst, ◌∙◌, arith}
use Rattle.std.specs.Option.{option_map}
use Rattle.sudoers_grammar.specs.declared.node.Atom.TheVariants.{Alias}
use Rattle.sudoers_grammar.specs.declared.node.Kind.TheVariants.{Cmnd}
use Rattle.sudoers_grammar.specs.Node.{Member}
use Rattle.sudoers_line_rows.specs.View.{member_of_view, members_of_view}
use Rattle.sudoers_tree.specs.Definition.{definitions_of_lines}
use Rattle.sudoers_check.specs.Chain.{here, onward}
use Rattle.sudoers_match.specs.Spellings.{is_spelled_command_match}
use Rattle.sudoers_match_list.specs.Flat.{alias_members_of_atom}
use Rattle.sudoers_match.specs.Last.{IsLastItemWith}
use Rattle.sudoers_list.specs.internal.Going.{IsAliasGoneAfterExpansions}
use Rattle.sudoers_list.specs.Inner.{MemberMatchesCommand}
use Rattle.sudoers_list.proofs.Going.{at_end, one_in}
use Rattle.sudoers_list.proofs.Speaking.{last_has, members_say, some_last}
use Rattle.sudoers_list.proofs.deciding_member.find_innermost_member.Goals as goal

pub loop-times-init : goal.loop-times-init
loop-times-init c =
    let lines = c.args.policy.now in
    let name = c.args.outer.now.name.now in
    record {
      remembers = c.requires.verdicts;
      defined = c.requires.defined;
      says = c.requires.says;
      reached = here name refl;
      within = subst (λ n. IsAliasGoneAfterExpansions lines n name) (sym (c.len-times.ensures ∙ ap (λ ls. length (definitions_of_lines ls)) c.definition_numbers.ensures)) c.requires.within;
    }

pub unreachable-requires : goal.unreachable-requires
unreachable-requires c =
    let lines = c.args.policy.now in
    let test = is_spelled_command_match c.args.command.now in
    let ms : List Member = members_of_view c.loop-times.alias.members in
    some_last lines test ms c.loop-times.invariant.says
    (subst (λ o. IsLastItemWith (MemberMatchesCommand lines test) ms (option_map member_of_view o)) c.in_default.is c.in_ok-member.ensures.last)

pub loop-times-preserved : goal.loop-times-preserved
loop-times-preserved c =
    let lines = c.args.policy.now in
    let test = is_spelled_command_match c.args.command.now in
    let inv = c.loop-times.invariant in
    let times = c.loop-times.times in
    let name = c.loop-times.alias.name.now in
    let ms : List Member = members_of_view c.loop-times.alias.members in
    let m : Member = member_of_view c.in-Some.member in
    let next = c.in-Some-find_command_alias.next.name.now in
    let ns : List Member = members_of_view c.in-Some-find_command_alias.next.members in
    let last : IsLastItemWith (MemberMatchesCommand lines test) ms (Some m) =
    subst (λ o. IsLastItemWith (MemberMatchesCommand lines test) ms (option_map member_of_view o)) c.in-Some.is c.in_ok-member.ensures.last in
    let names : m.atom ≡ Alias next = c.in-Some-find_command_alias.ensures.name in
    let alias : alias_members_of_atom Cmnd lines m.atom ≡ Some ns = sym c.in-Some-find_command_alias.ensures.members in
    let some = c.loop-times-test.true in
    let one : times ≡ suc (times - 1) = omega (arith, some) in
    record {
      remembers = c.in_ok-member.ensures.kept;
      defined = sym (ap (alias_members_of_atom Cmnd lines) names) ∙ alias;
      says = members_say lines test m ns alias last.3;
      reached = onward name next inv.reached (m, record { members = ms; are_members = inv.defined; is_last = last }, names);
      within =
          one_in lines (times - 1) name next ms m inv.defined (last_has (MemberMatchesCommand lines test) ms m last) names
          (subst (λ n. IsAliasGoneAfterExpansions lines n name) one inv.within);
    }

pub unreachable-requires-2 : goal.unreachable-requires-2
unreachable-requires-2 c =
    let lines = c.args.policy.now in
    let inv = c.loop-times.invariant in
    let name = c.loop-times.alias.name.now in
    let done = c.loop-times-test.false in
    let none : c.loop-times.times ≡ 0 = omega (arith, done) in
    at_end lines name (members_of_view c.loop-times.alias.members) inv.defined (subst (λ n. IsAliasGoneAfterExpansions lines n name) none inv.within)
