use Rattle.sudoers_grammar.specs.declared.node.Kind.TheVariants.{User, Host}
use Rattle.sudoers_match_member.specs.Hits.{is_user_atom_match, is_host_atom_match}
use Rattle.sudoers_match_list.specs.Search.{IsValidVerdictCache}
use Rattle.sudoers_ask.proofs.defaults_of_user.list_defaults_with_reach.Given as goal

abbrev pub invariant-loop-line : goal.invariant-loop-line
invariant-loop-line l =
    IsValidVerdictCache User l.acyclic (is_user_atom_match l.who.user) l.users
    × IsValidVerdictCache Host l.acyclic (is_host_atom_match l.who) l.hosts
