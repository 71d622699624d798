-- A row fits a request if its flat row does, and a flat row that covers another fits what that fits.
use Rattle.std.proofs.Common.{◌≡◌, inl, inr, ℕ, Bool, true, ◌&&◌, List, [], ◌∷◌, Option, Some, None, refl, sym, ap, ap₂, subst, ◌∙◌}
use Rattle.std.proofs.Math.Path.{subst₂}
use Rattle.std.proofs.lemmas.Bool.{and_parts}
use Rattle.sudoers_grammar.specs.declared.node.Kind.{Kind}
use Rattle.sudoers_grammar.specs.declared.node.Kind.TheVariants.{User, Runas, Host}
use Rattle.sudoers_grammar.specs.declared.node.Atom.{Atom}
use Rattle.sudoers_grammar.specs.Node.{Member, RunasSpec}
use Rattle.sudoers_tree.specs.Line.{Line}
use Rattle.sudoers_match_member.specs.declared.people_and_commands.CommandLine.{CommandLine}
use Rattle.sudoers_match_member.specs.declared.people_and_commands.Group.{Group}
use Rattle.sudoers_match_member.specs.declared.people_and_commands.Person.{Person}
use Rattle.sudoers_match_member.specs.declared.people_and_commands.Who.{Who}
use Rattle.sudoers_match_member.specs.declared.request.Request.{Request}
use Rattle.sudoers_match_member.specs.Hits.{is_name_equal_ignoring_case, is_user_atom_match, is_runas_group_atom_match, is_host_atom_match, is_command_atom_match}
use Rattle.sudoers_match_list.specs.declared.verdict.Verdict.{Verdict}
use Rattle.sudoers_match_list.specs.declared.verdict.Verdict.TheVariants.{Allow}
use Rattle.sudoers_match_list.specs.Flat.{SignedAtom, has_no_digests, IsFlatListOf, last_hit_of_list, verdict_of_hit, IsListVerdict}
use Rattle.sudoers_match.specs.Allows.{ListAllows}
use Rattle.sudoers_match.specs.Answer.{RowFitsRequest, is_request_command_hit, command_with_joined_arguments_of_request}
use Rattle.sudoers_match.specs.Default.{IsRunasDefault}
use Rattle.sudoers_match.specs.Moment.{is_not_before_stamp, is_not_after_stamp, is_in_option_time_bounds}
use Rattle.sudoers_match.specs.Rows.{PrivilegeRow}
use Rattle.sudoers_match.specs.Runas.{is_group_absent_or_among, is_allowed_by_verdict_or_own_group, RunasGroupsAllow, RunasListsAllow, RunasSpecAllows}
use Rattle.sudoers_match.proofs.OneAnswer.{FlatListIsUnique}
use Rattle.laws_compare.specs.Content.{FlatRunasSpec, Grant, FlatPrivilegeRow, IsOptionalFlatListOf, IsFlatRunasSpecOf, IsGrantOfRow, IsFlatRowOf}
use Rattle.laws_compare.specs.Covers.{HasAllInForce, IsListWider, HasNoNegatedGroup, IsRunasSpecWider, same_runas_spec, all_users_and_all_groups, all_users_over_absent_spec, more_users, more_groups, more_users_and_groups, IsCommandAtomWider, all_over_any_command, same_command, any_arguments_over_arguments, any_files_over_files, IsTimeBoundWider, GrantCoversGrant, RowCoversRow}
use Rattle.laws_compare.proofs.ListVerdicts.{verdict_of_flat_list, wider_list_allows, wider_list_permits_group, list_with_all_in_force_allows, list_with_all_in_force_permits_group, list_without_negation_permits_own_group}

-- ---- which targets flat lists allow

abbrev pub FlatGroupsAllow : Person → Option Group → List SignedAtom → Type 0
FlatGroupsAllow target None groups = Unit {0}
FlatGroupsAllow target (Some g) groups =
    is_allowed_by_verdict_or_own_group (verdict_of_flat_list (is_runas_group_atom_match g) groups) (is_group_absent_or_among target.groups (Some g)) ≡ true

abbrev pub FlatRunasListsAllow : Person → Person → Option Group → Option (List SignedAtom) → Option (List SignedAtom) → Type 0
FlatRunasListsAllow user target group None None = (target.uid ≡ user.uid) × (is_group_absent_or_among user.groups group ≡ true)
FlatRunasListsAllow user target group None (Some groups) = (target.uid ≡ user.uid) × FlatGroupsAllow target group groups
FlatRunasListsAllow user target group (Some users) None =
    (verdict_of_flat_list (is_user_atom_match target) users ≡ Allow) × (is_group_absent_or_among target.groups group ≡ true)
FlatRunasListsAllow user target group (Some users) (Some groups) =
    (verdict_of_flat_list (is_user_atom_match target) users ≡ Allow) × FlatGroupsAllow target group groups

-- Without a Runas_Spec a command runs as the user of whose name IsDefaultName holds.
abbrev pub FlatRunasSpecAllows : (List ℕ → Type 0) → Person → Person → Option Group → Option FlatRunasSpec → Type 0
FlatRunasSpecAllows IsDefaultName user target group (Some r) = FlatRunasListsAllow user target group r.users r.groups
FlatRunasSpecAllows IsDefaultName user target group None =
    (name : List ℕ) × IsDefaultName name × (is_name_equal_ignoring_case name target.name ≡ true) × (is_group_absent_or_among target.groups group ≡ true)

pub record GrantFitsRequest (IsDefaultName : List ℕ → Type 0) (request : Request) (grant : Grant) : Type 0 where
  pub runas : FlatRunasSpecAllows IsDefaultName request.who.user request.target request.target_group grant.runas
  pub moment : is_in_option_time_bounds request.moment grant.options ≡ true
  pub command : is_request_command_hit request grant.atom ≡ true

-- ---- they allow what the lists of the policy allow

module _ (law : FlatListIsUnique) (lines : List Line) where
  pub flat_list_has_verdict_of_list : (k : Kind) (test : Atom → Bool) (ms : List Member) (fs : List SignedAtom) (v : Verdict) → IsFlatListOf k lines ms fs
      → IsListVerdict k lines test ms v → verdict_of_flat_list test fs ≡ v
  flat_list_has_verdict_of_list k test ms fs v f is =
      ap (verdict_of_flat_list test) (law k lines ms fs is.is_latest.flat f is.is_latest.is_flat) ∙ ap verdict_of_hit is.is_latest.is_last ∙ sym is.says

  pub list_has_verdict_of_flat_list : (k : Kind) (test : Atom → Bool) (ms : List Member) (fs : List SignedAtom) (v : Verdict) → IsFlatListOf k lines ms fs
      → verdict_of_flat_list test fs ≡ v → IsListVerdict k lines test ms v
  list_has_verdict_of_flat_list k test ms fs v f e = record {
    hit = last_hit_of_list test fs;
    is_latest = record { flat = fs; is_flat = f; is_last = refl };
    says = sym e;
  }

  flat_groups_allow_as_groups : (target : Person) (group : Option Group) (ms : List Member) (fs : List SignedAtom) → IsFlatListOf Runas lines ms fs
      → RunasGroupsAllow lines target group ms → FlatGroupsAllow target group fs
  flat_groups_allow_as_groups target None ms fs f may = tt
  flat_groups_allow_as_groups target (Some g) ms fs f may =
      ap (λ (v : Verdict). is_allowed_by_verdict_or_own_group v (is_group_absent_or_among target.groups (Some g)))
      (flat_list_has_verdict_of_list Runas (is_runas_group_atom_match g) ms fs may.0 f may.1) ∙ may.2

  groups_allow_as_flat_groups : (target : Person) (group : Option Group) (ms : List Member) (fs : List SignedAtom) → IsFlatListOf Runas lines ms fs
      → FlatGroupsAllow target group fs → RunasGroupsAllow lines target group ms
  groups_allow_as_flat_groups target None ms fs f may = tt
  groups_allow_as_flat_groups target (Some g) ms fs f may = (
    verdict_of_flat_list (is_runas_group_atom_match g) fs,
    list_has_verdict_of_flat_list Runas (is_runas_group_atom_match g) ms fs (verdict_of_flat_list (is_runas_group_atom_match g) fs) f refl,
    may,
  )

  module _ (user target : Person) (group : Option Group) where
    flat_runas_lists_allow_as_lists : (ms gs : List Member) (us hs : Option (List SignedAtom)) → IsOptionalFlatListOf lines ms us → IsOptionalFlatListOf lines gs hs
        → RunasListsAllow lines user target group ms gs → FlatRunasListsAllow user target group us hs
    flat_runas_lists_allow_as_lists [] [] us hs f g p = subst₂ (FlatRunasListsAllow user target group) (sym f) (sym g) p
    flat_runas_lists_allow_as_lists [] (n ∷ ns) us hs f g p =
        subst₂ (FlatRunasListsAllow user target group) (sym f) (sym g.2) (p.0, flat_groups_allow_as_groups target group (n ∷ ns) g.0 g.1 p.1)
    flat_runas_lists_allow_as_lists (m ∷ ms) [] us hs f g p =
        subst₂ (FlatRunasListsAllow user target group) (sym f.2) (sym g) (flat_list_has_verdict_of_list Runas (is_user_atom_match target) (m ∷ ms) f.0 Allow f.1 p.0, p.1)
    flat_runas_lists_allow_as_lists (m ∷ ms) (n ∷ ns) us hs f g p =
        subst₂ (FlatRunasListsAllow user target group) (sym f.2) (sym g.2)
        (flat_list_has_verdict_of_list Runas (is_user_atom_match target) (m ∷ ms) f.0 Allow f.1 p.0, flat_groups_allow_as_groups target group (n ∷ ns) g.0 g.1 p.1)

    runas_lists_allow_as_flat_lists : (ms gs : List Member) (us hs : Option (List SignedAtom)) → IsOptionalFlatListOf lines ms us → IsOptionalFlatListOf lines gs hs
        → FlatRunasListsAllow user target group us hs → RunasListsAllow lines user target group ms gs
    runas_lists_allow_as_flat_lists [] [] us hs f g p = subst₂ (FlatRunasListsAllow user target group) f g p
    runas_lists_allow_as_flat_lists [] (n ∷ ns) us hs f g p =
        let flat = subst₂ (FlatRunasListsAllow user target group) f g.2 p in (flat.0, groups_allow_as_flat_groups target group (n ∷ ns) g.0 g.1 flat.1)
    runas_lists_allow_as_flat_lists (m ∷ ms) [] us hs f g p =
        let flat = subst₂ (FlatRunasListsAllow user target group) f.2 g p in (list_has_verdict_of_flat_list Runas (is_user_atom_match target) (m ∷ ms) f.0 Allow f.1 flat.0, flat.1)
    runas_lists_allow_as_flat_lists (m ∷ ms) (n ∷ ns) us hs f g p =
        let flat = subst₂ (FlatRunasListsAllow user target group) f.2 g.2 p in
        (list_has_verdict_of_flat_list Runas (is_user_atom_match target) (m ∷ ms) f.0 Allow f.1 flat.0, groups_allow_as_flat_groups target group (n ∷ ns) g.0 g.1 flat.1)

  flat_runas_spec_allows_as_spec : (who : Who) (target : Person) (group : Option Group) (r : Option RunasSpec) (flat : Option FlatRunasSpec)
      → IsFlatRunasSpecOf lines r flat
      → RunasSpecAllows lines who target group r → FlatRunasSpecAllows (IsRunasDefault lines who) who.user target group flat
  flat_runas_spec_allows_as_spec who target group None flat f p = subst (FlatRunasSpecAllows (IsRunasDefault lines who) who.user target group) (sym f) p
  flat_runas_spec_allows_as_spec who target group (Some s) flat f p =
      subst (FlatRunasSpecAllows (IsRunasDefault lines who) who.user target group) (sym f.4) (flat_runas_lists_allow_as_lists who.user target group s.users s.groups f.0 f.1 f.2 f.3 p)

  runas_spec_allows_as_flat_spec : (who : Who) (target : Person) (group : Option Group) (r : Option RunasSpec) (flat : Option FlatRunasSpec)
      → IsFlatRunasSpecOf lines r flat
      → FlatRunasSpecAllows (IsRunasDefault lines who) who.user target group flat → RunasSpecAllows lines who target group r
  runas_spec_allows_as_flat_spec who target group None flat f p = subst (FlatRunasSpecAllows (IsRunasDefault lines who) who.user target group) f p
  runas_spec_allows_as_flat_spec who target group (Some s) flat f p =
      runas_lists_allow_as_flat_lists who.user target group s.users s.groups f.0 f.1 f.2 f.3 (subst (FlatRunasSpecAllows (IsRunasDefault lines who) who.user target group) f.4 p)

  pub grant_of_fitting_row_fits : (request : Request) (row : PrivilegeRow) (grant : Grant) → IsGrantOfRow lines row grant → RowFitsRequest lines request row
      → GrantFitsRequest (IsRunasDefault lines request.who) request grant
  grant_of_fitting_row_fits request row grant is fits = record {
    runas = flat_runas_spec_allows_as_spec request.who request.target request.target_group row.head.runas grant.runas is.runas fits.runas;
    moment = ap (is_in_option_time_bounds request.moment) is.options ∙ fits.moment;
    command = ap (is_request_command_hit request) is.atom ∙ fits.command;
  }

  pub row_of_fitting_grant_fits : (request : Request) (row : PrivilegeRow) (grant : Grant) → IsGrantOfRow lines row grant
      → ListAllows User lines (is_user_atom_match request.who.user) row.users
      → ListAllows Host lines (is_host_atom_match request.who) row.hosts → GrantFitsRequest (IsRunasDefault lines request.who) request grant
      → RowFitsRequest lines request row
  row_of_fitting_grant_fits request row grant is user host fits = record {
    user = user;
    host = host;
    runas = runas_spec_allows_as_flat_spec request.who request.target request.target_group row.head.runas grant.runas is.runas fits.runas;
    moment = sym (ap (is_in_option_time_bounds request.moment) is.options) ∙ fits.moment;
    command = sym (ap (is_request_command_hit request) is.atom) ∙ fits.command;
  }

-- ---- wider rows

module _ (IsDefaultName : List ℕ → Type 0) (user target : Person) where
  allowed_target_may_have_own_group : (group : Option Group) (users : List SignedAtom) (groups : Option (List SignedAtom))
      → verdict_of_flat_list (is_user_atom_match target) users ≡ Allow → HasNoNegatedGroup groups
      → is_group_absent_or_among target.groups group ≡ true → FlatRunasListsAllow user target group (Some users) groups
  allowed_target_may_have_own_group group users None allows never own = (allows, own)
  allowed_target_may_have_own_group None users (Some groups) allows never own = (allows, tt)
  allowed_target_may_have_own_group (Some g) users (Some groups) allows never own =
      (allows, list_without_negation_permits_own_group (is_runas_group_atom_match g) refl groups (is_group_absent_or_among target.groups (Some g)) never own)

  groups_with_all_in_force_allow : (group : Option Group) (groups : List SignedAtom) → HasAllInForce groups → FlatGroupsAllow target group groups
  groups_with_all_in_force_allow None groups o = tt
  groups_with_all_in_force_allow (Some g) groups o = list_with_all_in_force_permits_group (is_runas_group_atom_match g) refl groups (is_group_absent_or_among target.groups (Some g)) o

  wider_groups_allow : (group : Option Group) (wide narrow : List SignedAtom) → IsListWider wide narrow → FlatGroupsAllow target group narrow
      → FlatGroupsAllow target group wide
  wider_groups_allow None wide narrow wider may = tt
  wider_groups_allow (Some g) wide narrow wider may = wider_list_permits_group (is_runas_group_atom_match g) refl wide narrow (is_group_absent_or_among target.groups (Some g)) wider may

  wider_runas_spec_allows : (group : Option Group) (wide narrow : Option FlatRunasSpec) → IsRunasSpecWider wide narrow
      → FlatRunasSpecAllows IsDefaultName user target group narrow → FlatRunasSpecAllows IsDefaultName user target group wide
  wider_runas_spec_allows group wide narrow (same_runas_spec r) p = p
  wider_runas_spec_allows group wide narrow (all_users_and_all_groups users groups r o g) p =
      (list_with_all_in_force_allows (is_user_atom_match target) refl users o, groups_with_all_in_force_allow group groups g)
  wider_runas_spec_allows group wide narrow (all_users_over_absent_spec users groups o never) p =
      allowed_target_may_have_own_group group users groups (list_with_all_in_force_allows (is_user_atom_match target) refl users o) never p.3
  wider_runas_spec_allows group wide narrow (more_users us vs groups wider never) p =
      allowed_target_may_have_own_group group us groups (wider_list_allows (is_user_atom_match target) refl us vs wider p.0) never p.1
  wider_runas_spec_allows group wide narrow (more_groups us vs wider) p = (p.0, wider_groups_allow group us vs wider p.1)
  wider_runas_spec_allows group wide narrow (more_users_and_groups us vs gs hs users groups) p =
      (wider_list_allows (is_user_atom_match target) refl us vs users p.0, wider_groups_allow group gs hs groups p.1)

wider_first_moment_permits : (moment : ℕ) (wide narrow : Option (List ℕ)) → IsTimeBoundWider wide narrow → is_not_before_stamp moment narrow ≡ true
    → is_not_before_stamp moment wide ≡ true
wider_first_moment_permits moment wide narrow (inl e) p = ap (is_not_before_stamp moment) e
wider_first_moment_permits moment wide narrow (inr e) p = ap (is_not_before_stamp moment) e ∙ p

wider_last_moment_permits : (moment : ℕ) (wide narrow : Option (List ℕ)) → IsTimeBoundWider wide narrow → is_not_after_stamp moment narrow ≡ true
    → is_not_after_stamp moment wide ≡ true
wider_last_moment_permits moment wide narrow (inl e) p = ap (is_not_after_stamp moment) e
wider_last_moment_permits moment wide narrow (inr e) p = ap (is_not_after_stamp moment) e ∙ p

wider_atom_matches_command : (asked : CommandLine) (wide narrow : Atom) → IsCommandAtomWider wide narrow → is_command_atom_match asked narrow ≡ true
    → is_command_atom_match asked wide ≡ true
wider_atom_matches_command asked wide narrow (all_over_any_command a) p = refl
wider_atom_matches_command asked wide narrow (same_command a) p = p
wider_atom_matches_command asked wide narrow (any_arguments_over_arguments words behind) p = ap (λ (b : Bool). b && true) (and_parts _ _ p).0
wider_atom_matches_command asked wide narrow (any_files_over_files behind) p = ap (λ (b : Bool). b && true) (and_parts _ _ p).0

pub covering_grant_fits_request : (IsDefaultName : List ℕ → Type 0) (request : Request) (wide narrow : Grant) → GrantCoversGrant wide narrow
    → GrantFitsRequest IsDefaultName request narrow → GrantFitsRequest IsDefaultName request wide
covering_grant_fits_request IsDefaultName request wide narrow covers fits =
    let moments = and_parts (is_not_before_stamp request.moment narrow.options.notbefore) (is_not_after_stamp request.moment narrow.options.notafter) fits.moment in
    let hits = and_parts (is_command_atom_match (command_with_joined_arguments_of_request request) narrow.atom.atom) (has_no_digests narrow.atom.digests) fits.command in
    record {
      runas = wider_runas_spec_allows IsDefaultName request.who.user request.target request.target_group wide.runas narrow.runas covers.runas fits.runas;
      moment = ap₂ (λ (a b : Bool). a && b) (wider_first_moment_permits request.moment wide.options.notbefore narrow.options.notbefore covers.from moments.0)
          (wider_last_moment_permits request.moment wide.options.notafter narrow.options.notafter covers.up_to moments.1);
      command = ap₂ (λ (a b : Bool). a && b)
          (wider_atom_matches_command (command_with_joined_arguments_of_request request) wide.atom.atom narrow.atom.atom covers.atom hits.0)
          (ap has_no_digests covers.digests);
    }

-- A row that covers another fits each request that the other fits.
pub covering_row_fits_request : FlatListIsUnique → (lines : List Line) (row later : PrivilegeRow) (narrow wide : FlatPrivilegeRow)
    → IsFlatRowOf lines row narrow → IsFlatRowOf lines later wide
    → RowCoversRow wide narrow → (request : Request) → RowFitsRequest lines request row → RowFitsRequest lines request later
covering_row_fits_request law lines row later narrow wide n w covers request fits =
    row_of_fitting_grant_fits law lines request later wide.grant w.grant
    (list_has_verdict_of_flat_list law lines User (is_user_atom_match request.who.user) later.users wide.users Allow w.users
    (wider_list_allows (is_user_atom_match request.who.user) refl wide.users narrow.users covers.users
    (flat_list_has_verdict_of_list law lines User (is_user_atom_match request.who.user) row.users narrow.users Allow n.users fits.user)))
    (list_has_verdict_of_flat_list law lines Host (is_host_atom_match request.who) later.hosts wide.hosts Allow w.hosts
    (wider_list_allows (is_host_atom_match request.who) refl wide.hosts narrow.hosts covers.hosts
    (flat_list_has_verdict_of_list law lines Host (is_host_atom_match request.who) row.hosts narrow.hosts Allow n.hosts fits.host)))
    (covering_grant_fits_request (IsRunasDefault lines request.who) request wide.grant narrow.grant covers.grant (grant_of_fitting_row_fits law lines request row narrow.grant n.grant fits))
