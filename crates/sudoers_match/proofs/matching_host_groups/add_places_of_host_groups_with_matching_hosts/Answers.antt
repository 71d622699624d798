use Rattle.sudoers_match.proofs.Common.{HoldsHostGroupPlaceIfHostsMatch, DecidesWhetherListAllows, Global, Has_at, Host, HostGroupPlace, Vec, [], ap, append-nil, arith, host_group_in_tables, host_group_of_view}
use Rattle.sudoers_match.proofs.Common.{host_group_place_from_spec_number, host_groups_of_view, inl, inr, is_host_atom_match, length-map, refl, subst, sym, ◌∙◌, ◌∷◌}
use Rattle.sudoers_match.proofs.Gathered.{one_added, all_added, mapped_row_is_at_its_index}
use Rattle.sudoers_match.proofs.matching_host_groups.add_places_of_host_groups_with_matching_hosts.Goals as goal
use Rattle.sudoers_match.proofs.matching_host_groups.add_places_of_host_groups_with_matching_hosts.Goals.{then-branch+in_ok-push_host_group_place, else-branch}

pub is_allowed_by_list-requires-clause-straight : goal.is_allowed_by_list-requires-clause-straight
is_allowed_by_list-requires-clause-straight c =
    let groups = c.args.groups.now in
    let g = host_group_of_view c.host_group_of_row-group.result in
    (c.requires.straight g (Has_at (host_groups_of_view groups) c.loop-host_group.host_group g
    (mapped_row_is_at_its_index (host_group_in_tables groups.tables.now) groups.rows.now c.loop-host_group.host_group _ c.loop-host_group-test.true g c.host_group_of_row-group.ensures))).hosts

pub loop-host_group-preserved : goal.loop-host_group-preserved
loop-host_group-preserved c =
    let lines = c.args.policy.now in
    let who = c.args.who.now in
    let groups = c.args.groups.now in
    let i = c.loop-host_group.host_group in
    let g = host_group_of_view c.host_group_of_row-group.result in
    let Part = HoldsHostGroupPlaceIfHostsMatch lines who c.args.spec in
    let at = mapped_row_is_at_its_index (host_group_in_tables groups.tables.now) groups.rows.now i _ c.loop-host_group-test.true g c.host_group_of_row-group.ensures in
    let so_far = c.loop-host_group.invariant.added in
    let says = c.in_ok-is_allowed_by_list.ensures.allowed in
    elim c.if-branch.branch [
      | then-branch+in_ok-push_host_group_place w ↦ record {
        verdicts = c.in_ok-is_allowed_by_list.ensures.kept;
        added = one_added Part (host_groups_of_view groups) i g c.args.places.now.items c.loop-host_group.places.items c.if-branch.places.items (host_group_place_from_spec_number c.args.spec i ∷ []) at so_far
            (ap (λ (v : Vec HostGroupPlace Global). v.items) w.places-is ∙ w.in_ok-push_host_group_place.ensures) (inl (subst (DecidesWhetherListAllows Host lines (is_host_atom_match who) g.hosts) w.if-branch.true says, refl));
      }
      | else-branch w ↦ record {
        verdicts = c.in_ok-is_allowed_by_list.ensures.kept;
        added = one_added Part (host_groups_of_view groups) i g c.args.places.now.items c.loop-host_group.places.items c.if-branch.places.items [] at so_far
            (ap (λ (v : Vec HostGroupPlace Global). v.items) w.places-is ∙ sym (append-nil c.loop-host_group.places.items)) (inr (subst (DecidesWhetherListAllows Host lines (is_host_atom_match who) g.hosts) w.if-branch.false says, refl));
      }
    ]

pub returns-clause-added : goal.returns-clause-added
returns-clause-added c =
    let groups = c.args.groups.now in
    all_added (HoldsHostGroupPlaceIfHostsMatch c.args.policy.now c.args.who.now c.args.spec) (host_groups_of_view groups) c.loop-host_group.host_group c.args.places.now.items c.loop-host_group.places.items
    (omega (arith, c.loop-host_group-test.false, length-map groups.rows.now (host_group_in_tables groups.tables.now))) c.loop-host_group.invariant.added
