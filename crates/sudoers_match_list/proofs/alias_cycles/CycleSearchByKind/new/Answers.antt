use Rattle.sudoers_match_list.proofs.Common.{false}
use Rattle.sudoers_grammar.specs.declared.node.Kind.TheVariants.{User, Runas, Host, Cmnd}
use Rattle.sudoers_match_list.proofs.alias_cycles.CycleSearchByKind.new.Goals as goal

pub returns : goal.returns
returns c = record {
  users = c.in_ok-new.ensures User (λ _. false);
  runas = c.in_ok-new-2.ensures Runas (λ _. false);
  hosts = c.in_ok-new-3.ensures Host (λ _. false);
  commands = c.in_ok-new-4.ensures Cmnd (λ _. false);
}
