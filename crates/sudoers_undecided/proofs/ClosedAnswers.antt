-- Nothing is undecided in an answer where no member is open.
use Rattle.std.proofs.Common.{◌≡◌, inl, ◌&&◌, ◌||◌, Bool, true, false, List, [], ◌∷◌, ◌++◌, Option, Some, None, refl, sym, ap, subst, ◌∙◌}
use Rattle.std.proofs.lemmas.Bool.{false≢true}
use Rattle.std.specs.List.{list_any}
use Rattle.sudoers_grammar.specs.declared.node.Atom.{Atom}
use Rattle.sudoers_grammar.specs.declared.node.Kind.{Kind}
use Rattle.sudoers_grammar.specs.declared.node.Kind.TheVariants.{User, Host, Runas, Cmnd}
use Rattle.sudoers_grammar.specs.Node.{Member, RunasSpec, Scope}
use Rattle.sudoers_tree.specs.Line.{Line}
use Rattle.sudoers_check.specs.Chain.{ListHasElement}
use Rattle.sudoers_check.proofs.Named.{element_of_back_is_in_appended}
use Rattle.sudoers_match_member.specs.declared.network.Interface.{Interface}
use Rattle.sudoers_match_member.specs.declared.people_and_commands.CommandLine.{CommandLine}
use Rattle.sudoers_match_member.specs.declared.people_and_commands.Group.{Group}
use Rattle.sudoers_match_member.specs.declared.people_and_commands.Who.{Who}
use Rattle.sudoers_match_member.specs.declared.request.Request.{Request}
use Rattle.sudoers_match_list.specs.Flat.{SignedAtom}
use Rattle.sudoers_match_list.proofs.Defined.{list_element_has_property_of_all}
use Rattle.sudoers_match.specs.Answer.{command_with_joined_arguments_of_request}
use Rattle.sudoers_match.specs.Default.{runas_defaults_of_lines}
use Rattle.sudoers_match.specs.Rows.{PrivilegeRow}
use Rattle.sudoers_undecided.specs.declared.request_part.RequestPart.{RequestPart}
use Rattle.sudoers_undecided.specs.declared.request_part.RequestPart.TheVariants as part
use Rattle.sudoers_undecided.specs.MatchTests.{MatchTests, has_no_interfaces, is_address_or_network_atom, is_netgroup_atom, is_netgroup_or_non_unix_group_atom, undecided_by_files_or_paths}
use Rattle.sudoers_undecided.specs.MemberQuestions.{is_command_undecided, is_host_atom_undecided}
use Rattle.sudoers_undecided.specs.RowParts.{CouldTurnRowPart, CouldTurnRunasDefault, CouldTurnRunasGroupList, CouldTurnRunasSpecGroups, CouldTurnRunasSpecUsers, CouldTurnRunasUserList, CouldTurnScope, CouldTurnScopeList}
use Rattle.sudoers_undecided.specs.TurningMembers.{CouldTurnList}
use Rattle.sudoers_undecided.specs.UndecidedAnswer.{IsUndecidedInAnswer}
use Rattle.sudoers_undecided.specs.internal.Open.{is_atom_open, is_line_open, is_list_open, is_runas_open, is_scope_open}
use Rattle.sudoers_undecided.proofs.OpenMembers.{IsRowClosed, both_are_false, flat_list_is_closed, holds_of_no_element, rows_of_policy_are_closed, scope_is_closed}

stands_in_middle : {X : Type 0} (xs before after : List X) (x : X) → xs ≡ before ++ x ∷ after → ListHasElement xs x
stands_in_middle xs before after x e = subst (λ ys. ListHasElement ys x) (sym e) (element_of_back_is_in_appended before (x ∷ after) x (inl refl))

module _ (who : Who) (c : CommandLine) where
  -- ---- atoms that are decided

  is_decided_for_users : (s : SignedAtom) → is_atom_open who c s ≡ false → is_netgroup_or_non_unix_group_atom s.atom ≡ false
  is_decided_for_users s not_open = (both_are_false (is_netgroup_or_non_unix_group_atom s.atom) (is_host_atom_undecided who s.atom || is_command_undecided c s) not_open).0

  is_decided_elsewhere : (s : SignedAtom) → is_atom_open who c s ≡ false → (is_host_atom_undecided who s.atom ≡ false) × (is_command_undecided c s ≡ false)
  is_decided_elsewhere s not_open =
      both_are_false (is_host_atom_undecided who s.atom) (is_command_undecided c s) (both_are_false (is_netgroup_or_non_unix_group_atom s.atom) (is_host_atom_undecided who s.atom || is_command_undecided c s) not_open).1

  module _ (lines : List Line) (closed : list_any (is_line_open who c) lines ≡ false) (r : Request) (tests : MatchTests) (interfaces : r.who.interfaces ≡ who.interfaces)
      (command : command_with_joined_arguments_of_request r ≡ c) where
    abbrev undecided : MatchTests
    undecided = undecided_by_files_or_paths r

    is_decided_for_hosts : (s : SignedAtom) → is_atom_open who c s ≡ false → undecided.host s.atom ≡ false
    is_decided_for_hosts s not_open =
        ap (λ (is : List Interface). is_netgroup_atom s.atom || (is_address_or_network_atom s.atom && has_no_interfaces is)) interfaces ∙ (is_decided_elsewhere s not_open).0

    is_decided_for_commands : (s : SignedAtom) → is_atom_open who c s ≡ false → undecided.command s ≡ false
    is_decided_for_commands s not_open = ap (λ x. is_command_undecided x s) command ∙ (is_decided_elsewhere s not_open).1

    -- ---- lists that could not be turned

    closed_list_cannot_turn : (k : Kind) (unknown test : Atom → Bool) (own : Bool) (ms : List Member) (s : SignedAtom) → ((t : SignedAtom) → is_atom_open who c t ≡ false → unknown t.atom ≡ false)
        → is_list_open who c ms ≡ false → CouldTurnList k lines unknown test own ms s → ⊥
    closed_list_cannot_turn k unknown test own ms s decided not_open t =
        let has = stands_in_middle t.flat t.turns.before t.turns.after s t.turns.stands in
        let is = holds_of_no_element (is_atom_open who c) t.flat (flat_list_is_closed who c lines closed k ms t.flat t.is_flat not_open) s has in
        false≢true (sym (decided s is) ∙ t.turns.is_undecided)

    closed_scope_cannot_turn : (o : Option Scope) (s : SignedAtom) → is_scope_open who c o ≡ false → CouldTurnScope lines undecided tests o s → ⊥
    closed_scope_cannot_turn None s not_open t = t
    closed_scope_cannot_turn (Some scope) s not_open t = by scope.kind t
      where
        by : (k : Kind) → CouldTurnScopeList lines undecided tests k scope.members s → ⊥
        by User t = closed_list_cannot_turn User undecided.user tests.user false scope.members s is_decided_for_users not_open t
        by Host t = closed_list_cannot_turn Host undecided.host tests.host false scope.members s is_decided_for_hosts not_open t
        by Runas t = t
        by Cmnd t = t

    runas_default_cannot_turn : (s : SignedAtom) → CouldTurnRunasDefault lines undecided tests s → ⊥
    runas_default_cannot_turn s t =
        let has = stands_in_middle (runas_defaults_of_lines lines) t.before t.after t.setting t.stands in
        closed_scope_cannot_turn t.setting.0 s (scope_is_closed who c lines closed t.setting has) t.turns

    runas_users_cannot_turn : (o : Option RunasSpec) (s : SignedAtom) → is_runas_open who c o ≡ false → CouldTurnRunasSpecUsers lines undecided tests o s → ⊥
    runas_users_cannot_turn None s not_open t = runas_default_cannot_turn s t
    runas_users_cannot_turn (Some spec) s not_open t = by spec.users (both_are_false (is_list_open who c spec.users) (is_list_open who c spec.groups) not_open).0 t
      where
        by : (us : List Member) → is_list_open who c us ≡ false → CouldTurnRunasUserList lines undecided tests us s → ⊥
        by [] not_open t = t
        by (u ∷ us) not_open t = closed_list_cannot_turn Runas undecided.target tests.target false (u ∷ us) s is_decided_for_users not_open t

    runas_groups_cannot_turn : (g : Option Group) (o : Option RunasSpec) (s : SignedAtom) → is_runas_open who c o ≡ false → CouldTurnRunasSpecGroups lines undecided tests r.target g o s → ⊥
    runas_groups_cannot_turn g None s not_open t = t
    runas_groups_cannot_turn g (Some spec) s not_open t = by g spec.groups (both_are_false (is_list_open who c spec.users) (is_list_open who c spec.groups) not_open).1 t
      where
        by : (g : Option Group) (gs : List Member) → is_list_open who c gs ≡ false → CouldTurnRunasGroupList lines undecided tests r.target g gs s → ⊥
        by None gs not_open t = t
        by (Some group) [] not_open t = t
        by (Some group) (m ∷ ms) not_open t = closed_list_cannot_turn Runas (undecided.group group) (tests.group group) _ (m ∷ ms) s is_decided_for_users not_open t

    -- ---- rows and answers

    closed_row_cannot_turn : (row : PrivilegeRow) (p : RequestPart) (s : SignedAtom) → IsRowClosed who c row → CouldTurnRowPart lines undecided tests r row p s → ⊥
    closed_row_cannot_turn row part.Users s closed_row t = closed_list_cannot_turn User undecided.user tests.user false row.users s is_decided_for_users closed_row.users t
    closed_row_cannot_turn row part.Hosts s closed_row t = closed_list_cannot_turn Host undecided.host tests.host false row.hosts s is_decided_for_hosts closed_row.hosts t
    closed_row_cannot_turn row part.RunasUsers s closed_row t = runas_users_cannot_turn row.head.runas s closed_row.runas t
    closed_row_cannot_turn row part.RunasGroups s closed_row t = runas_groups_cannot_turn r.target_group row.head.runas s closed_row.runas t
    closed_row_cannot_turn row part.Moment s closed_row t = t
    closed_row_cannot_turn row part.Command s closed_row t = false≢true (sym (is_decided_for_commands row.atom closed_row.atom) ∙ subst (λ x. undecided.command x ≡ true) t.0 t.1)

    pub nothing_is_undecided_in_answer : (row : PrivilegeRow) (p : RequestPart) (s : SignedAtom) → IsUndecidedInAnswer lines undecided tests r row p s → ⊥
    nothing_is_undecided_in_answer row p s u =
        let b = u.not_passed in
        let has = stands_in_middle b.rows b.before b.after row b.stands in
        closed_row_cannot_turn row p s (list_element_has_property_of_all (IsRowClosed who c) b.rows (rows_of_policy_are_closed who c lines closed b.rows b.are_rows) row has) u.could.turns
