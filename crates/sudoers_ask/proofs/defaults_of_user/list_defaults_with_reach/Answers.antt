use Rattle.std.proofs.Common.{subst, sym}
use Rattle.sudoers_grammar.specs.declared.node.Kind.TheVariants.{User, Host}
use Rattle.sudoers_match_member.specs.Hits.{is_user_atom_match, is_host_atom_match}
use Rattle.sudoers_match_list.specs.Search.{IsValidVerdictCache}
use Rattle.sudoers_ask.proofs.defaults_of_user.list_defaults_with_reach.Goals as goal
use Rattle.sudoers_ask.proofs.defaults_of_user.list_defaults_with_reach.Goals.{in-Defaults+in_ok-reach+then-eq+in_ok-append_defaults_line, in-Defaults+in_ok-reach+else-eq, in_default}

pub loop-line-init : goal.loop-line-init
loop-line-init c = (c.in_ok-users.ensures User (is_user_atom_match c.args.who.now.user), c.in_ok-hosts.ensures Host (is_host_atom_match c.args.who.now))

pub loop-line-preserved : goal.loop-line-preserved
loop-line-preserved c =
    let P = IsValidVerdictCache User c.args.acyclic.now (is_user_atom_match c.args.who.now.user) in
    let Q = IsValidVerdictCache Host c.args.acyclic.now (is_host_atom_match c.args.who.now) in
    elim c.match-node_of_row.branch [
      | in-Defaults+in_ok-reach+then-eq+in_ok-append_defaults_line w ↦ (subst P (sym w.users-is) w.in_ok-reach.ensures.users, subst Q (sym w.hosts-is) w.in_ok-reach.ensures.hosts)
      | in-Defaults+in_ok-reach+else-eq w ↦ (subst P (sym w.users-is) w.in_ok-reach.ensures.users, subst Q (sym w.hosts-is) w.in_ok-reach.ensures.hosts)
      | in_default w ↦ (subst P (sym w.users-is) c.loop-line.invariant.0, subst Q (sym w.hosts-is) c.loop-line.invariant.1)
    ]
