use Rattle.sudoers_match.proofs.Common.{AreMatchingHostGroupPlacesOfSpec, DecidesWhetherListAllows, Global, Has_at, Host, HostGroupPlace, IsConcatenationOfParts, IsValidVerdictCache, List, User, Vec, [], ap, append-nil, arith, drop}
use Rattle.sudoers_match.proofs.Common.{host_groups_of_view, inl, inr, is_host_atom_match, is_user_atom_match, line_of_row, map, members_of_view, refl, slice_get, subst, sym, user_specs_of_lines, ◌++◌, ◌+◌, ◌∙◌}
use Rattle.sudoers_match.proofs.Passed.{spec_more, none_more, places_after_all_lines_are_complete, line, line_at, says}
use Rattle.sudoers_match.proofs.Reached.{users_straight, groups_straight}
use Rattle.sudoers_match.proofs.matching_host_groups.find_places_of_matching_host_groups.Goals as goal
use Rattle.sudoers_match.proofs.matching_host_groups.find_places_of_matching_host_groups.Goals.{in-Spec+in_ok-is_allowed_by_list, then-branch+in_ok-add_places_of_host_groups_with_matching_hosts, else-branch, in_default}

pub loop-row-init : goal.loop-row-init
loop-row-init c =
    let lines = c.args.policy.now in
    let who = c.args.who.now in
    record {
      users = c.in_ok-users_said.ensures User (is_user_atom_match who.user);
      hosts = c.in_ok-hosts_said.ensures Host (is_host_atom_match who);
      few = omega arith;
      joined = λ rest j. subst (λ ps. IsConcatenationOfParts (AreMatchingHostGroupPlacesOfSpec lines who) 0 (user_specs_of_lines (map (line_of_row c.lines-lines.result.tables.now) c.lines-lines.result.rows.now)) (ps ++ rest)) (sym c.new-places.ensures.items) j;
    }

pub is_allowed_by_list-requires-clause-straight : goal.is_allowed_by_list-requires-clause-straight
is_allowed_by_list-requires-clause-straight c =
    let t = c.lines-lines.result.tables.now in
    let rows = c.lines-lines.result.rows.now in
    let i = c.loop-row.row-index in
    let lines = c.args.policy.now in
    users_straight lines c.is_acyclic.ensures.straight (line t rows i _ c.loop-row-test.true c.node_of_row.result c.node_of_row.ensures)
    (Has_at lines i _ (ap (λ ls. slice_get ls i) (sym c.lines-lines.ensures) ∙ line_at t rows i _ c.loop-row-test.true c.node_of_row.result c.node_of_row.ensures))
    (members_of_view c.in-Spec.users) (host_groups_of_view c.in-Spec.groups)
    (says t rows i _ c.loop-row-test.true c.node_of_row.result c.node_of_row.ensures c.in-Spec.users c.in-Spec.groups c.in-Spec.is)

pub add_places_of_host_groups_with_matching_hosts-requires-clause-straight : goal.add_places_of_host_groups_with_matching_hosts-requires-clause-straight
add_places_of_host_groups_with_matching_hosts-requires-clause-straight c =
    let t = c.lines-lines.result.tables.now in
    let rows = c.lines-lines.result.rows.now in
    let i = c.loop-row.row-index in
    let lines = c.args.policy.now in
    groups_straight lines c.is_acyclic.ensures.straight (line t rows i _ c.loop-row-test.true c.node_of_row.result c.node_of_row.ensures)
    (Has_at lines i _ (ap (λ ls. slice_get ls i) (sym c.lines-lines.ensures) ∙ line_at t rows i _ c.loop-row-test.true c.node_of_row.result c.node_of_row.ensures))
    (members_of_view c.in-Spec.users) (host_groups_of_view c.in-Spec.groups)
    (says t rows i _ c.loop-row-test.true c.node_of_row.result c.node_of_row.ensures c.in-Spec.users c.in-Spec.groups c.in-Spec.is)

pub loop-row-preserved : goal.loop-row-preserved
loop-row-preserved c =
    let lines = c.args.policy.now in
    let who = c.args.who.now in
    let so_far = c.loop-row.invariant in
    let t = c.lines-lines.result.tables.now in
    let rows = c.lines-lines.result.rows.now in
    let i = c.loop-row.row-index in
    elim c.match-node_of_row.branch [
      | in-Spec+in_ok-is_allowed_by_list w ↦
          let says = w.in_ok-is_allowed_by_list.ensures.allowed in
          let ms = members_of_view w.in-Spec.users in
          let goal_of : List HostGroupPlace → Type 0 = λ ps. IsConcatenationOfParts (AreMatchingHostGroupPlacesOfSpec lines who) 0 (user_specs_of_lines (map (line_of_row t) rows)) ps in
          let more = spec_more t rows i _ c.loop-row-test.true c.node_of_row.result c.node_of_row.ensures w.in-Spec.users w.in-Spec.groups w.in-Spec.is who lines goal_of
          c.loop-row.spec c.loop-row.places.items c.match-node_of_row.places.items in
          elim w.if-branch.branch [
            | then-branch+in_ok-add_places_of_host_groups_with_matching_hosts u ↦
                let added = u.in_ok-add_places_of_host_groups_with_matching_hosts.ensures.added in
                record {
                  users = subst (IsValidVerdictCache User lines (is_user_atom_match who.user)) (sym w.users_said-is) w.in_ok-is_allowed_by_list.ensures.kept;
                  hosts = subst (IsValidVerdictCache Host lines (is_host_atom_match who)) (sym (w.hosts_said-is ∙ u.hosts_said-is)) u.in_ok-add_places_of_host_groups_with_matching_hosts.ensures.kept;
                  few = omega (arith, so_far.few, w.spec-is);
                  joined = λ rest j. more added.added so_far.joined (ap (λ (v : Vec HostGroupPlace Global). v.items) (w.places-is ∙ u.places-is) ∙ added.are)
                      (inl (subst (DecidesWhetherListAllows User lines (is_user_atom_match who.user) ms) u.if-branch.true says, added.joined)) rest
                      (subst (λ s. IsConcatenationOfParts (AreMatchingHostGroupPlacesOfSpec lines who) s (user_specs_of_lines (map (line_of_row t) (drop (i + 1) rows))) rest) w.spec-is j);
                }
            | else-branch u ↦ record {
              users = subst (IsValidVerdictCache User lines (is_user_atom_match who.user)) (sym w.users_said-is) w.in_ok-is_allowed_by_list.ensures.kept;
              hosts = subst (IsValidVerdictCache Host lines (is_host_atom_match who)) (sym (w.hosts_said-is ∙ u.hosts_said-is)) so_far.hosts;
              few = omega (arith, so_far.few, w.spec-is);
              joined = λ rest j. more [] so_far.joined (ap (λ (v : Vec HostGroupPlace Global). v.items) (w.places-is ∙ u.places-is) ∙ sym (append-nil c.loop-row.places.items))
                  (inr (subst (DecidesWhetherListAllows User lines (is_user_atom_match who.user) ms) u.if-branch.false says, refl)) rest
                  (subst (λ s. IsConcatenationOfParts (AreMatchingHostGroupPlacesOfSpec lines who) s (user_specs_of_lines (map (line_of_row t) (drop (i + 1) rows))) rest) w.spec-is j);
            }
          ]
      | in_default w ↦ record {
        users = subst (IsValidVerdictCache User lines (is_user_atom_match who.user)) (sym w.users_said-is) so_far.users;
        hosts = subst (IsValidVerdictCache Host lines (is_host_atom_match who)) (sym w.hosts_said-is) so_far.hosts;
        few = omega (arith, so_far.few, w.spec-is);
        joined = λ rest j. subst (λ (v : Vec HostGroupPlace Global). IsConcatenationOfParts (AreMatchingHostGroupPlacesOfSpec lines who) 0 (user_specs_of_lines (map (line_of_row t) rows)) (v.items ++ rest)) (sym w.places-is)
            (so_far.joined rest (none_more t rows i _ c.loop-row-test.true c.node_of_row.result c.node_of_row.ensures w.in_default.not-Spec (AreMatchingHostGroupPlacesOfSpec lines who) c.loop-row.spec rest
            (subst (λ s. IsConcatenationOfParts (AreMatchingHostGroupPlacesOfSpec lines who) s (user_specs_of_lines (map (line_of_row t) (drop (i + 1) rows))) rest) w.spec-is j)));
      }
    ]

pub returns : goal.returns
returns c =
    places_after_all_lines_are_complete c.lines-lines.result.tables.now c.lines-lines.result.rows.now c.args.who.now c.args.policy.now c.args.policy.now c.lines-lines.ensures refl
    c.loop-row.row-index c.loop-row.spec c.loop-row.places.items c.loop-row-test.false c.loop-row.invariant.joined
