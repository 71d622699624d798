-- What is decided to cover a grant or a row covers it.
use Rattle.std.proofs.Common.{◌≡◌, ◌⊎◌, inl, inr, ℕ, Bool, true, false, not, ◌&&◌, ◌||◌, List, [], ◌∷◌, Option, Some, None, refl, sym, ap, ap₂, subst, ◌∙◌, true≢false}
use Rattle.std.proofs.lemmas.Bool.{and_parts}
use Rattle.std.specs.List.{list_any}
use Rattle.std.specs.Str.{bytes_eq}
use Rattle.sudoers_grammar.specs.Node.{Digest}
use Rattle.sudoers_grammar.specs.declared.node.Args.{Args}
use Rattle.sudoers_grammar.specs.declared.node.Args.TheVariants as args
use Rattle.sudoers_grammar.specs.declared.node.Atom.{Atom}
use Rattle.sudoers_grammar.specs.declared.node.Atom.TheVariants as atom
use Rattle.sudoers_check.specs.Chain.{ListHasElement}
use Rattle.sudoers_match_list.specs.Flat.{SignedAtom, is_all_atom, has_no_digests}
use Rattle.sudoers_line_rows.specs.Alike.{is_same_atom}
use Rattle.laws_compare.specs.Content.{FlatRunasSpec, flat_runas_spec_of_lists, Grant, FlatPrivilegeRow}
use Rattle.laws_compare.specs.Covers.{HasNoNegation, all_without_negation_and_digests, HasAllInForce, IsListWider, same_list, list_with_all_in_force, list_with_more_members, HasNoNegatedGroup, IsRunasSpecWider, same_runas_spec, all_users_and_all_groups, all_users_over_absent_spec, more_users, more_groups, more_users_and_groups, IsCommandAtomWider, all_over_any_command, same_command, any_arguments_over_arguments, any_files_over_files, IsTimeBoundWider, GrantCoversGrant, RowCoversRow}
use Rattle.laws_compare.specs.Decided.{is_same_signed_atom, is_same_flat_list, has_no_negation, has_all_in_force, has_each_unnegated_atom, is_list_wider, has_no_negated_group, has_present_list_all_in_force, are_runas_lists_wider, is_runas_spec_wider, is_any_arguments, is_same_command_with_any_arguments, is_command_atom_wider, is_time_bound_wider, is_covering_grant, is_covering_row}
use Rattle.laws_compare.proofs.SameAtoms.{alike_bytes_are_same, alike_atoms_are_same, alike_lists_are_same, the_signed_atom, alike_signed_atoms_are_same}

pub true_disjunction_has_true_side : (a b : Bool) → (a || b) ≡ true → (a ≡ true) ⊎ (b ≡ true)
true_disjunction_has_true_side true b e = inl refl
true_disjunction_has_true_side false b e = inr e

-- ---- lists

list_decided_without_negation_has_none : (fs : List SignedAtom) → has_no_negation fs ≡ true → HasNoNegation fs
list_decided_without_negation_has_none [] e = tt
list_decided_without_negation_has_none (s ∷ fs) e = let both = and_parts s.allow (has_no_negation fs) e in (both.0, list_decided_without_negation_has_none fs both.1)

atom_decided_all_is_all : (a : Atom) → is_all_atom a ≡ true → a ≡ atom.All
atom_decided_all_is_all atom.All e = refl
atom_decided_all_is_all a e = absurd (true≢false (sym e))

digests_decided_absent_are_absent : (ds : List Digest) → has_no_digests ds ≡ true → ds ≡ []
digests_decided_absent_are_absent [] e = refl
digests_decided_absent_are_absent (d ∷ ds) e = absurd (true≢false (sym e))

list_decided_with_all_in_force_has_it : (fs : List SignedAtom) → has_all_in_force fs ≡ true → HasAllInForce fs
list_decided_with_all_in_force_has_it [] e = absurd (true≢false (sym e))
list_decided_with_all_in_force_has_it (s ∷ fs) e =
    by (list_decided_with_all_in_force_has_it fs)
    (true_disjunction_has_true_side (has_all_in_force fs) (s.allow && has_no_digests s.digests && is_all_atom s.atom && has_no_negation fs) e)
  where
    by : (has_all_in_force fs ≡ true → HasAllInForce fs)
        → (has_all_in_force fs ≡ true) ⊎ ((s.allow && has_no_digests s.digests && is_all_atom s.atom && has_no_negation fs) ≡ true) → HasAllInForce (s ∷ fs)
    by more (inl o) = let found = more o in (s ∷ found.0, found.1, ap (λ gs. s ∷ gs) found.2, found.3)
    by more (inr p) =
        let first = and_parts (s.allow && has_no_digests s.digests && is_all_atom s.atom) (has_no_negation fs) p in
        let second = and_parts (s.allow && has_no_digests s.digests) (is_all_atom s.atom) first.0 in
        let third = and_parts s.allow (has_no_digests s.digests) second.0 in
        let all : s ≡ all_without_negation_and_digests =
        ap₂ (λ allow digests. the_signed_atom allow digests s.atom) third.0 (digests_decided_absent_are_absent s.digests third.1)
        ∙ ap (the_signed_atom true []) (atom_decided_all_is_all s.atom second.1) in
        ([], fs, ap (λ t. t ∷ fs) all, list_decided_without_negation_has_none fs first.1)

list_has_signed_atom_decided_in_it : (s : SignedAtom) (wide : List SignedAtom) → list_any (is_same_signed_atom s) wide ≡ true → ListHasElement wide s
list_has_signed_atom_decided_in_it s [] e = absurd (true≢false (sym e))
list_has_signed_atom_decided_in_it s (t ∷ wide) e = elim (true_disjunction_has_true_side (is_same_signed_atom s t) (list_any (is_same_signed_atom s) wide) e) [
  | inl same ↦ inl (sym (alike_signed_atoms_are_same s t same))
  | inr more ↦ inr (list_has_signed_atom_decided_in_it s wide more)
]

list_has_each_unnegated_atom_decided_in_it : (wide narrow : List SignedAtom) → has_each_unnegated_atom wide narrow ≡ true → (s : SignedAtom)
    → ListHasElement narrow s → s.allow ≡ true → ListHasElement wide s
list_has_each_unnegated_atom_decided_in_it wide [] e s has allow = absurd has
list_has_each_unnegated_atom_decided_in_it wide (t ∷ narrow) e s (inl same) allow =
    let first = (and_parts (not t.allow || list_any (is_same_signed_atom t) wide) (has_each_unnegated_atom wide narrow) e).0 in
    subst (ListHasElement wide) same
    (list_has_signed_atom_decided_in_it t wide (subst (λ (b : Bool). (not b || list_any (is_same_signed_atom t) wide) ≡ true) (ap (λ (x : SignedAtom). x.allow) same ∙ allow) first))
list_has_each_unnegated_atom_decided_in_it wide (t ∷ narrow) e s (inr has) allow =
    list_has_each_unnegated_atom_decided_in_it wide narrow (and_parts (not t.allow || list_any (is_same_signed_atom t) wide) (has_each_unnegated_atom wide narrow) e).1 s has allow

list_decided_wider_is_wider : (wide narrow : List SignedAtom) → is_list_wider wide narrow ≡ true → IsListWider wide narrow
list_decided_wider_is_wider wide narrow e = elim (true_disjunction_has_true_side (is_same_flat_list wide narrow || has_all_in_force wide) (has_no_negation wide && has_each_unnegated_atom wide narrow) e) [
  | inl other ↦ elim (true_disjunction_has_true_side (is_same_flat_list wide narrow) (has_all_in_force wide) other) [
    | inl same ↦ same_list (alike_lists_are_same is_same_signed_atom alike_signed_atoms_are_same wide narrow same)
    | inr o ↦ list_with_all_in_force (list_decided_with_all_in_force_has_it wide o)
  ]
  | inr both ↦
      let parts = and_parts (has_no_negation wide) (has_each_unnegated_atom wide narrow) both in
      list_with_more_members (list_decided_without_negation_has_none wide parts.0) (list_has_each_unnegated_atom_decided_in_it wide narrow parts.1)
]

-- ---- as whom

groups_decided_without_negation_have_none : (groups : Option (List SignedAtom)) → has_no_negated_group groups ≡ true → HasNoNegatedGroup groups
groups_decided_without_negation_have_none None e = tt
groups_decided_without_negation_have_none (Some groups) e = list_decided_without_negation_has_none groups e

list_decided_present_with_all_in_force_has_it : (o : Option (List SignedAtom)) → has_present_list_all_in_force o ≡ true
    → (fs : List SignedAtom) × (o ≡ Some fs) × HasAllInForce fs
list_decided_present_with_all_in_force_has_it None e = absurd (true≢false (sym e))
list_decided_present_with_all_in_force_has_it (Some fs) e = (fs, refl, list_decided_with_all_in_force_has_it fs e)

runas_lists_decided_wider_are_wider : (us gs vs hs : Option (List SignedAtom)) → are_runas_lists_wider us gs vs hs ≡ true
    → IsRunasSpecWider (Some (flat_runas_spec_of_lists us gs)) (Some (flat_runas_spec_of_lists vs hs))
runas_lists_decided_wider_are_wider (Some us) gs (Some vs) None e =
    let both = and_parts (is_list_wider us vs) (has_no_negated_group gs) e in
    more_users us vs gs (list_decided_wider_is_wider us vs both.0) (groups_decided_without_negation_have_none gs both.1)
runas_lists_decided_wider_are_wider (Some us) (Some gs) (Some vs) (Some hs) e =
    let both = and_parts (is_list_wider us vs) (is_list_wider gs hs) e in more_users_and_groups us vs gs hs (list_decided_wider_is_wider us vs both.0) (list_decided_wider_is_wider gs hs both.1)
runas_lists_decided_wider_are_wider None (Some gs) None (Some hs) e = more_groups gs hs (list_decided_wider_is_wider gs hs e)
runas_lists_decided_wider_are_wider None None None None e = same_runas_spec (Some (flat_runas_spec_of_lists None None))
runas_lists_decided_wider_are_wider us gs vs hs e = absurd (true≢false (sym e))

runas_spec_decided_wider_is_wider : (wide narrow : Option FlatRunasSpec) → is_runas_spec_wider wide narrow ≡ true → IsRunasSpecWider wide narrow
runas_spec_decided_wider_is_wider None None e = same_runas_spec None
runas_spec_decided_wider_is_wider None (Some n) e = absurd (true≢false (sym e))
runas_spec_decided_wider_is_wider (Some w) None e =
    let both = and_parts (has_present_list_all_in_force w.users) (has_no_negated_group w.groups) e in
    let users = list_decided_present_with_all_in_force_has_it w.users both.0 in
    subst (λ us. IsRunasSpecWider (Some (flat_runas_spec_of_lists us w.groups)) None) (sym users.1)
    (all_users_over_absent_spec users.0 w.groups users.2 (groups_decided_without_negation_have_none w.groups both.1))
runas_spec_decided_wider_is_wider (Some w) (Some n) e = elim (true_disjunction_has_true_side (has_present_list_all_in_force w.users && has_present_list_all_in_force w.groups) (are_runas_lists_wider w.users w.groups n.users n.groups) e) as (λ _. IsRunasSpecWider (Some w) (Some n)) [
  | inl o ↦
      let both = and_parts (has_present_list_all_in_force w.users) (has_present_list_all_in_force w.groups) o in
      let users = list_decided_present_with_all_in_force_has_it w.users both.0 in
      let groups = list_decided_present_with_all_in_force_has_it w.groups both.1 in
      subst (λ us. IsRunasSpecWider (Some (flat_runas_spec_of_lists us w.groups)) (Some n)) (sym users.1)
      (subst (λ gs. IsRunasSpecWider (Some (flat_runas_spec_of_lists (Some users.0) gs)) (Some n)) (sym groups.1) (all_users_and_all_groups users.0 groups.0 (Some n) users.2 groups.2))
  | inr l ↦ runas_lists_decided_wider_are_wider w.users w.groups n.users n.groups l
]

-- ---- when, and what

arguments_decided_any_are_any : (a : Args) → is_any_arguments a ≡ true → a ≡ args.Any
arguments_decided_any_are_any args.Any e = refl
arguments_decided_any_are_any a e = absurd (true≢false (sym e))

command_decided_same_with_any_arguments_is_wider : (wide narrow : Atom) → is_same_command_with_any_arguments wide narrow ≡ true → IsCommandAtomWider wide narrow
command_decided_same_with_any_arguments_is_wider (atom.Path a m) (atom.Path b n) e =
    let both = and_parts (bytes_eq a b) (is_any_arguments m) e in
    subst (λ (x : Atom). IsCommandAtomWider x (atom.Path b n)) (sym (ap₂ atom.Path (alike_bytes_are_same a b both.0) (arguments_decided_any_are_any m both.1))) (any_arguments_over_arguments b n)
command_decided_same_with_any_arguments_is_wider (atom.Sudoedit m) (atom.Sudoedit n) e =
    subst (λ (x : Args). IsCommandAtomWider (atom.Sudoedit x) (atom.Sudoedit n)) (sym (arguments_decided_any_are_any m e)) (any_files_over_files n)
command_decided_same_with_any_arguments_is_wider a b e = absurd (true≢false (sym e))

command_atom_decided_wider_is_wider : (wide narrow : Atom) → is_command_atom_wider wide narrow ≡ true → IsCommandAtomWider wide narrow
command_atom_decided_wider_is_wider wide narrow e = elim (true_disjunction_has_true_side (is_all_atom wide || is_same_atom wide narrow) (is_same_command_with_any_arguments wide narrow) e) as (λ _. IsCommandAtomWider wide narrow) [
  | inl other ↦ elim (true_disjunction_has_true_side (is_all_atom wide) (is_same_atom wide narrow) other) as (λ _. IsCommandAtomWider wide narrow) [
    | inl all ↦ subst (λ (x : Atom). IsCommandAtomWider x narrow) (sym (atom_decided_all_is_all wide all)) (all_over_any_command narrow)
    | inr same ↦ subst (IsCommandAtomWider wide) (alike_atoms_are_same wide narrow same) (same_command wide)
  ]
  | inr path ↦ command_decided_same_with_any_arguments_is_wider wide narrow path
]

time_bound_decided_wider_is_wider : (wide narrow : Option (List ℕ)) → is_time_bound_wider wide narrow ≡ true → IsTimeBoundWider wide narrow
time_bound_decided_wider_is_wider None narrow e = inl refl
time_bound_decided_wider_is_wider (Some a) None e = absurd (true≢false (sym e))
time_bound_decided_wider_is_wider (Some a) (Some b) e = inr (ap Some (alike_bytes_are_same a b e))

pub grant_decided_covering_covers : (wide narrow : Grant) → is_covering_grant wide narrow ≡ true → GrantCoversGrant wide narrow
grant_decided_covering_covers wide narrow e =
    let r = is_runas_spec_wider wide.runas narrow.runas in
    let from = is_time_bound_wider wide.options.notbefore narrow.options.notbefore in
    let up_to = is_time_bound_wider wide.options.notafter narrow.options.notafter in
    let none = has_no_digests wide.atom.digests in
    let first = and_parts (r && from && up_to && none) (is_command_atom_wider wide.atom.atom narrow.atom.atom) e in
    let second = and_parts (r && from && up_to) none first.0 in
    let third = and_parts (r && from) up_to second.0 in
    let fourth = and_parts r from third.0 in
    record {
      runas = runas_spec_decided_wider_is_wider wide.runas narrow.runas fourth.0;
      from = time_bound_decided_wider_is_wider wide.options.notbefore narrow.options.notbefore fourth.1;
      up_to = time_bound_decided_wider_is_wider wide.options.notafter narrow.options.notafter third.1;
      digests = digests_decided_absent_are_absent wide.atom.digests second.1;
      atom = command_atom_decided_wider_is_wider wide.atom.atom narrow.atom.atom first.1;
    }

pub row_decided_covering_covers : (wide narrow : FlatPrivilegeRow) → is_covering_row wide narrow ≡ true → RowCoversRow wide narrow
row_decided_covering_covers wide narrow e =
    let outer = and_parts (is_list_wider wide.users narrow.users && is_list_wider wide.hosts narrow.hosts) (is_covering_grant wide.grant narrow.grant) e in
    let inner = and_parts (is_list_wider wide.users narrow.users) (is_list_wider wide.hosts narrow.hosts) outer.0 in
    record {
      users = list_decided_wider_is_wider wide.users narrow.users inner.0;
      hosts = list_decided_wider_is_wider wide.hosts narrow.hosts inner.1;
      grant = grant_decided_covering_covers wide.grant narrow.grant outer.1;
    }
