use Rattle.std.proofs.Common.{ap, refl}
use Rattle.sudoers_grammar.specs.declared.node.Kind.TheVariants.{User, Host, Runas, Cmnd}
use Rattle.sudoers_match_member.specs.Hits.{is_command_atom_match}
use Rattle.sudoers_undecided.specs.MemberQuestions.{is_command_undecided}
use Rattle.sudoers_undecided.proofs.Standings.{aliases_decided_by, group_aliases_decided}
use Rattle.sudoers_undecided.proofs.request_aliases.RequestAliases.new.Goals as goal

pub returns : goal.returns
returns c =
    let lines = c.args.numbers.now.walk in
    let r = c.args.request.now in
    record {
      users = aliases_decided_by lines User _ _ c.in_ok-users.users _ c.in_ok-users.ensures.all c.in_ok-users.ensures.kind c.in_ok-users.ensures.question refl refl;
      hosts = aliases_decided_by lines Host _ _ c.in_ok-hosts.hosts _ c.in_ok-hosts.ensures.all c.in_ok-hosts.ensures.kind c.in_ok-hosts.ensures.question refl refl;
      targets = aliases_decided_by lines Runas _ _ c.in_ok-targets.targets _ c.in_ok-targets.ensures.all c.in_ok-targets.ensures.kind c.in_ok-targets.ensures.question refl refl;
      groups = group_aliases_decided lines r r.target_group c.in_ok-groups.groups _ c.in_ok-groups.ensures.all c.in_ok-groups.ensures.kind c.in_ok-groups.ensures.question c.question_of_group-group.ensures;
      commands = aliases_decided_by lines Cmnd _ _ c.in_ok-commands.commands _ c.in_ok-commands.ensures.all c.in_ok-commands.ensures.kind c.in_ok-commands.ensures.question
          (ap is_command_undecided c.requires.command) (ap is_command_atom_match c.requires.command);
    }
