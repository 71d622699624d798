-- User specifications of which no row may fit a request.
use Rattle.sudoers_match.proofs.Common.{AllByRecursion, AreRowsPerFlatAtomOfCommand, AreRowsPerFlatAtomOfHostGroup, AreRowsPerFlatAtomOfSpec, CmdSpec, Cmnd, Host, HostGroup, IsAnswerOfRowsByTest, IsConcatenationOfParts}
use Rattle.sudoers_match.proofs.Common.{Group, IsLastHitOfList, Line, List, ListAllows, ListHasElement, Member, MemberHit, None, Option, PrivilegeRow, Request, RowFitsRequestByTest, AccumulatedCommandSettings, SignedAtom, Some, UserSpec, Who, []}
use Rattle.sudoers_match.proofs.Common.{RunasListsAllow, RunasSpec, RunasSpecAllows, ap, commands_with_settings, final_values_of_options, is_in_option_time_bounds, cons_option, empty_command_settings, false, hit_of_signed_atom, if◌then◌else◌, inl, inr, is_host_atom_match, last_hit_of_list}
use Rattle.sudoers_match.proofs.Common.{later_hit_if_any, map, option_map, privilege_row_of, refl, settings_after_command, slice_get, specs_with_line_numbers, subst, suc, sym, true, user_spec_in_node, user_specs_of_lines, zero, ℕ, ◌+◌, ◌∙◌, ◌∷◌, ◌≡◌}
use Rattle.std.proofs.Common.{below_more, get_or, is_some, length, take, ◌++◌, ◌<◌}
use Rattle.std.proofs.lemmas.Bool.{false≢true}
use Rattle.sudoers_match_list.proofs.Unique.{one_flat}
use Rattle.std.specs.Prelude.{◌&&◌, Bool}
use Rattle.sudoers_grammar.specs.declared.node.Atom.{Atom}
use Rattle.sudoers_grammar.specs.declared.node.Atom.TheVariants as atom
use Rattle.sudoers_match_member.specs.declared.wildcards.GlobMode.TheVariants as mode
use Rattle.sudoers_match_member.specs.Folded.{bytes_case_folded_if_wanted}
use Rattle.sudoers_match_member.specs.Hits.{has_dot, is_host_name_match}
use Rattle.sudoers_match_member.specs.Network.{is_any_interface_hit}
use Rattle.sudoers_match_member.specs.Wildcard.{is_pattern_match}
use Rattle.sudoers_match_list.specs.Flat.{has_no_digests}
use Rattle.sudoers_match.specs.declared.specs_for_users.SpecOnLine.{SpecOnLine}
use Rattle.sudoers_match.specs.ForRequest.{AreRequestsOfTwoUsers, AreSpecsForRequest, MattersIfRowFits, numbered_spec_of_view}
use Rattle.sudoers_match.specs.internal.AnyUser.{IsRowForNoUser, IsRowForSomeUser, MayRunAsTarget, RunasSpecMayAllow, RunasUsersMayAllow}
use Rattle.sudoers_match_member.specs.declared.people_and_commands.Person.{Person}
use Rattle.sudoers_match.proofs.Common.{HasCyclicAliasReachedFromSpecOrDefaults, Has_at, HostGroupsLeadToNoCycle, LeadsToNoCyclicAlias, User, take_more}
use Rattle.sudoers_match.proofs.Existing.{node_with_user_spec_is_spec_node}
use Rattle.sudoers_match.proofs.Gathered.{mapped_list_has_mapped_element_at_index}
use Rattle.sudoers_match.proofs.Lasts.{all_append}
use Rattle.sudoers_match.proofs.Reached.{groups_straight, users_straight}
use Rattle.sudoers_match.proofs.Settings.{map_of_appended_is_appended_maps}
use Rattle.sudoers_match.proofs.Rowed.{answers_none, hit_of_signed_atom_made, joined_all, no_hit_if_true_implies_false}

later_none : (a b : Option MemberHit) → later_hit_if_any a b ≡ None → (a ≡ None) × (b ≡ None)
later_none a None e = (e, refl)
later_none a (Some h) e = let clash : Some h ≡ None = e in absurd cc

module _ (lines : List Line) (test : Atom → Bool) (of_target : Bool) (r : Request) where
  abbrev pub Not : PrivilegeRow → Type 0
  Not = IsRowForNoUser lines test of_target r

  -- ---- rows of a command

  module _ (i j : ℕ) (users hosts : List Member) (k : ℕ) (head : AccumulatedCommandSettings) where
    rows_of_atoms : ((s : SignedAtom) → Not (privilege_row_of i j users hosts k head s)) → (flat : List SignedAtom) → AllByRecursion Not (map (privilege_row_of i j users hosts k head) flat)
    rows_of_atoms each [] = tt
    rows_of_atoms each (s ∷ flat) = (each s, rows_of_atoms each flat)

    flat_without_hit : (flat : List SignedAtom) → last_hit_of_list test flat ≡ None → AllByRecursion Not (map (privilege_row_of i j users hosts k head) flat)
    flat_without_hit [] e = tt
    flat_without_hit (s ∷ flat) e =
        let two = later_none (hit_of_signed_atom test s) (last_hit_of_list test flat) e in
        ((λ f. false≢true (sym (no_hit_if_true_implies_false _ (hit_of_signed_atom_made s) two.0) ∙ f.command)), flat_without_hit flat two.1)

    module _ (m : Member) (rows : List PrivilegeRow) (p : AreRowsPerFlatAtomOfCommand lines i j users hosts k (head, m) rows) where
      pub command_without_hit : IsLastHitOfList Cmnd lines test (m ∷ []) None → AllByRecursion Not rows
      command_without_hit l =
          subst (AllByRecursion Not) (sym p.2)
          (flat_without_hit p.0 (ap (last_hit_of_list test) (one_flat Cmnd lines (m ∷ []) p.0 l.flat p.1 l.is_flat) ∙ l.is_last))

      pub command_of_other_moment : is_in_option_time_bounds r.moment (final_values_of_options head.options) ≡ false → AllByRecursion Not rows
      command_of_other_moment e = subst (AllByRecursion Not) (sym p.2) (rows_of_atoms (λ s f. false≢true (sym e ∙ f.moment)) p.0)

      pub command_of_other_target : (MayRunAsTarget lines of_target r.target head.runas → ⊥) → AllByRecursion Not rows
      command_of_other_target n = subst (AllByRecursion Not) (sym p.2) (rows_of_atoms (λ s f. n f.target) p.0)

  -- things of none of which a row may fit
  pub parts_without_rows : {X : Type 0} (Part : ℕ → X → List PrivilegeRow → Type 0) (xs : List X) → ((n : ℕ) (x : X) → slice_get xs n ≡ Some x → (k : ℕ) (rs : List PrivilegeRow) → Part k x rs → AllByRecursion Not rs)
      → (k : ℕ) (rows : List PrivilegeRow) → IsConcatenationOfParts Part k xs rows → AllByRecursion Not rows
  parts_without_rows Part [] none k rows p = subst (AllByRecursion Not) (sym p) tt
  parts_without_rows Part (x ∷ xs) none k rows p =
      subst (AllByRecursion Not) (sym p.2)
      (all_append Not p.0 p.1 (none 0 x refl k p.0 p.3) (parts_without_rows Part xs (λ n y e. none (suc n) y e) (suc k) p.1 p.4))

  pub group_of_other_host : (i j : ℕ) (users : List Member) (g : HostGroup) (rows : List PrivilegeRow) → (ListAllows Host lines (is_host_atom_match r.who) g.hosts → ⊥)
      → AreRowsPerFlatAtomOfHostGroup lines i users j g rows → AllByRecursion Not rows
  group_of_other_host i j users g rows n p =
      joined_all (AreRowsPerFlatAtomOfCommand lines i j users g.hosts) Not
      (λ k c rs q. subst (AllByRecursion Not) (sym q.2) (rows_of_atoms i j users g.hosts k c.0 (λ s f. n f.host) q.0)) 0 (commands_with_settings empty_command_settings g.commands) rows p

pub length_of_commands : (head : AccumulatedCommandSettings) (cs : List CmdSpec) → length (commands_with_settings head cs) ≡ length cs
length_of_commands head [] = refl
length_of_commands head (c ∷ cs) = ap suc (length_of_commands (settings_after_command head c) cs)

-- ---- user specifications with the numbers of their lines

abbrev pub second : ℕ × UserSpec → UserSpec
second p = p.1

pub numbered_specs_are_specs : (n : ℕ) (lines : List Line) → map second (specs_with_line_numbers n lines) ≡ user_specs_of_lines lines
numbered_specs_are_specs n [] = refl
numbered_specs_are_specs n (line ∷ lines) = by (numbered_specs_are_specs (n + 1) lines) (user_spec_in_node line.node)
  where
    by : map second (specs_with_line_numbers (n + 1) lines) ≡ user_specs_of_lines lines → (o : Option UserSpec)
        → map second (cons_option (option_map (λ (s : UserSpec). (n, s)) o) (specs_with_line_numbers (n + 1) lines)) ≡ cons_option o (user_specs_of_lines lines)
    by rest None = rest
    by rest (Some s) = ap (λ ss. s ∷ ss) rest

pub numbered_spec_is_on_line : (n : ℕ) (lines : List Line) (x : ℕ × UserSpec) → ListHasElement (specs_with_line_numbers n lines) x
    → (line : Line) × ListHasElement lines line × (user_spec_in_node line.node ≡ Some x.1)
numbered_spec_is_on_line n [] x h = absurd h
numbered_spec_is_on_line n (line ∷ lines) x h = by (numbered_spec_is_on_line (n + 1) lines x) (user_spec_in_node line.node) refl h
  where
    later : ((l : Line) × ListHasElement lines l × (user_spec_in_node l.node ≡ Some x.1)) → (l : Line) × ListHasElement (line ∷ lines) l × (user_spec_in_node l.node ≡ Some x.1)
    later w = (w.0, inr w.1, w.2)

    by : (ListHasElement (specs_with_line_numbers (n + 1) lines) x → (l : Line) × ListHasElement lines l × (user_spec_in_node l.node ≡ Some x.1))
        → (o : Option UserSpec) → user_spec_in_node line.node ≡ o → ListHasElement (cons_option (option_map (λ (s : UserSpec). (n, s)) o) (specs_with_line_numbers (n + 1) lines)) x
        → (l : Line) × ListHasElement (line ∷ lines) l × (user_spec_in_node l.node ≡ Some x.1)
    by rest None is h = later (rest h)
    by rest (Some s) is (inl e) = (line, inl refl, is ∙ ap (λ (p : ℕ × UserSpec). Some p.1) e)
    by rest (Some s) is (inr h) = later (rest h)

-- what holds of all holds of the one at this place
pub all_at : {X : Type 0} (P : X → Type 0) (xs : List X) (i : ℕ) (x : X) → AllByRecursion P xs → slice_get xs i ≡ Some x → P x
all_at P [] i x all e = absurd cc
all_at P (y ∷ ys) zero x all e = let same : y ≡ x = cc in subst P same all.0
all_at P (y ∷ ys) (suc i) x all e = all_at P ys i x all.1 e

-- ---- hosts with the same names and interfaces

module _ (lines : List Line) (who other : Who) (long : other.long_host ≡ who.long_host) (short : other.short_host ≡ who.short_host) (interfaces : other.interfaces ≡ who.interfaces) where
  name_of_host : (b : Bool) → (if b then other.long_host else other.short_host) ≡ (if b then who.long_host else who.short_host)
  name_of_host true = long
  name_of_host false = short

  same_name_test : (pattern : List ℕ) → is_host_name_match other pattern ≡ is_host_name_match who pattern
  same_name_test pattern = ap (λ name. is_pattern_match mode.Args (bytes_case_folded_if_wanted true pattern) (bytes_case_folded_if_wanted true name)) (name_of_host (has_dot pattern))

  same_host_test : (a : Atom) → is_host_atom_match other a ≡ is_host_atom_match who a
  same_host_test atom.All = refl
  same_host_test (atom.Alias name) = same_name_test name
  same_host_test (atom.Host pattern) = same_name_test pattern
  same_host_test (atom.Address address) = ap (is_any_interface_hit address None) interfaces
  same_host_test (atom.Network address mask) = ap (is_any_interface_hit address (Some mask)) interfaces
  same_host_test (atom.Name name) = refl
  same_host_test (atom.Id n) = refl
  same_host_test (atom.Group name) = refl
  same_host_test (atom.GroupId n) = refl
  same_host_test (atom.NonUnix name) = refl
  same_host_test (atom.Netgroup name) = refl
  same_host_test atom.Listing = refl
  same_host_test (atom.Path path args) = refl
  same_host_test (atom.Sudoedit args) = refl

  same_last_hit : (flat : List SignedAtom) → last_hit_of_list (is_host_atom_match who) flat ≡ last_hit_of_list (is_host_atom_match other) flat
  same_last_hit [] = refl
  same_last_hit (s ∷ flat) =
      ap (λ h. later_hit_if_any (hit_of_signed_atom (is_host_atom_match who) s) h) (same_last_hit flat)
      ∙ ap (λ t. later_hit_if_any (if t && has_no_digests s.digests then Some (hit_of_signed_atom_made s) else None) (last_hit_of_list (is_host_atom_match other) flat)) (sym (same_host_test s.atom))

  host_allowed : (hosts : List Member) → ListAllows Host lines (is_host_atom_match other) hosts → ListAllows Host lines (is_host_atom_match who) hosts
  host_allowed hosts v = record {
    hit = v.hit;
    is_latest = record { flat = v.is_latest.flat; is_flat = v.is_latest.is_flat; is_last = same_last_hit v.is_latest.flat ∙ v.is_latest.is_last };
    says = v.says;
  }

-- ---- requests of two users

runas_lists_may_allow : (lines : List Line) (user target : Person) (group : Option Group) (us gs : List Member) → RunasListsAllow lines user target group us gs → RunasUsersMayAllow lines target us
runas_lists_may_allow lines user target group [] gs a = tt
runas_lists_may_allow lines user target group (u ∷ us) [] a = a.0
runas_lists_may_allow lines user target group (u ∷ us) (g ∷ gs) a = a.0

runas_spec_may_allow : (lines : List Line) (who : Who) (target : Person) (group : Option Group) (runas : Option RunasSpec) → RunasSpecAllows lines who target group runas → RunasSpecMayAllow lines target runas
runas_spec_may_allow lines who target group None a = tt
runas_spec_may_allow lines who target group (Some s) a = runas_lists_may_allow lines who.user target group s.users s.groups a

module _ (lines : List Line) (test : Atom → Bool) (of_target : Bool) (r other : Request) (both : AreRequestsOfTwoUsers of_target r other) where
  -- a row that fits the one may fit the other
  fitting_row_is_for_some_user : (row : PrivilegeRow) → RowFitsRequestByTest lines test other row → IsRowForSomeUser lines test of_target r row
  fitting_row_is_for_some_user row f = record {
    host = host_allowed lines r.who other.who both.long both.short both.interfaces row.hosts f.host;
    moment = ap (λ m. is_in_option_time_bounds m (final_values_of_options row.head.options)) (sym both.moment) ∙ f.moment;
    target = λ e. subst (λ (t : Person). RunasSpecMayAllow lines t row.head.runas) (both.target e) (runas_spec_may_allow lines other.who other.target other.target_group row.head.runas f.runas);
    command = f.command;
  }

  pub rows_fit_no_other : (rows : List PrivilegeRow) → AllByRecursion (IsRowForNoUser lines test of_target r) rows → AllByRecursion (λ row. RowFitsRequestByTest lines test other row → ⊥) rows
  rows_fit_no_other [] all = tt
  rows_fit_no_other (row ∷ rows) all = ((λ f. all.0 (fitting_row_is_for_some_user row f)), rows_fit_no_other rows all.1)

-- If it does not matter, none of its rows may fit.
abbrev pub MattersForSomeUser : List Line → (Atom → Bool) → Bool → Request → SpecOnLine → Type 0
MattersForSomeUser lines test of_target r s = s.matters ≡ false → (i : ℕ) (rows : List PrivilegeRow)
    → AreRowsPerFlatAtomOfSpec lines i (numbered_spec_of_view s).1 rows → AllByRecursion (IsRowForNoUser lines test of_target r) rows

pub specs_serve_both : (lines : List Line) (test : Atom → Bool) (of_target : Bool) (r : Request) (specs : List SpecOnLine) → map numbered_spec_of_view specs ≡ specs_with_line_numbers 0 lines
    → AllByRecursion (MattersForSomeUser lines test of_target r) specs → (other : Request) → AreRequestsOfTwoUsers of_target r other → AreSpecsForRequest lines test other specs
specs_serve_both lines test of_target r specs all matter other both = record { all = all; matter = each specs matter }
  where
    each : (ss : List SpecOnLine) → AllByRecursion (MattersForSomeUser lines test of_target r) ss → AllByRecursion (MattersIfRowFits lines test other) ss
    each [] m = tt
    each (s ∷ ss) m = ((λ idle i rows p. rows_fit_no_other lines test of_target r other both rows (m.0 idle i rows p)), each ss m.1)

-- Where each user specification matters, they serve each request.
pub specs_that_all_matter : (lines : List Line) (test : Atom → Bool) (r : Request) (specs : List SpecOnLine) → map numbered_spec_of_view specs ≡ specs_with_line_numbers 0 lines
    → AllByRecursion (λ (s : SpecOnLine). s.matters ≡ true) specs → AreSpecsForRequest lines test r specs
specs_that_all_matter lines test r specs all matter = record { all = all; matter = each specs matter }
  where
    each : (ss : List SpecOnLine) → AllByRecursion (λ (s : SpecOnLine). s.matters ≡ true) ss → AllByRecursion (MattersIfRowFits lines test r) ss
    each [] m = tt
    each (s ∷ ss) m = ((λ idle i rows p. absurd (false≢true (sym idle ∙ m.0))), each ss m.1)

-- ---- places below another

pub none_if_not_some : {X : Type 0} (o : Option X) → is_some o ≡ false → o ≡ None
none_if_not_some None e = refl
none_if_not_some (Some x) e = absurd cc

-- what holds of those before a place and of the one there
pub one_below_more : {X : Type 0} (P : X → Type 0) (xs : List X) (k : ℕ) (x : X) → slice_get xs k ≡ Some x → ((n : ℕ) → n < k → (y : X) → slice_get xs n ≡ Some y → P y) → P x
    → (n : ℕ) → n < k + 1 → (y : X) → slice_get xs n ≡ Some y → P y
one_below_more P xs k x at before here =
    below_more _ _ before (λ y e. let two : Some x ≡ Some y = sym at ∙ e in let one : x ≡ y = cc in subst P one here)

-- ---- lists of which each item has its counterpart in another

module _ {X Y : Type 0} (f : X → Y) (xs all : List X) (i : ℕ) (d x : X) (within : i < length all) where
  pub mapped_one_more : f x ≡ f (get_or all i d) → map f xs ≡ map f (take i all) → map f (xs ++ x ∷ []) ≡ map f (take (i + 1) all)
  mapped_one_more e so_far =
      map_of_appended_is_appended_maps f xs (x ∷ [])
      ∙ ap (λ ys. ys ++ f x ∷ []) so_far
      ∙ ap (λ y. map f (take i all) ++ y ∷ []) e
      ∙ sym (map_of_appended_is_appended_maps f (take i all) (get_or all i d ∷ []))
      ∙ ap (map f) (sym (take_more all i d within))

-- the host groups of a user specification lead to no cyclic alias
pub groups_of_numbered_spec_straight : (lines : List Line) → (HasCyclicAliasReachedFromSpecOrDefaults lines → ⊥) → (x : ℕ × UserSpec) → ListHasElement (specs_with_line_numbers 0 lines) x
    → HostGroupsLeadToNoCycle lines x.1.groups
groups_of_numbered_spec_straight lines straight x h =
    let w = numbered_spec_is_on_line 0 lines x h in
    groups_straight lines straight w.0 w.1 x.1.users x.1.groups (node_with_user_spec_is_spec_node w.0.node x.1 w.2)

pub users_of_numbered_spec_straight : (lines : List Line) → (HasCyclicAliasReachedFromSpecOrDefaults lines → ⊥) → (x : ℕ × UserSpec) → ListHasElement (specs_with_line_numbers 0 lines) x
    → LeadsToNoCyclicAlias User lines x.1.users
users_of_numbered_spec_straight lines straight x h =
    let w = numbered_spec_is_on_line 0 lines x h in
    users_straight lines straight w.0 w.1 x.1.users x.1.groups (node_with_user_spec_is_spec_node w.0.node x.1 w.2)

-- one of the user specifications is at its place among those of the lines
module _ (lines : List Line) (specs : List SpecOnLine) (all : map numbered_spec_of_view specs ≡ specs_with_line_numbers 0 lines) (i : ℕ) (s : SpecOnLine) (at : slice_get specs i ≡ Some s) where
  pub numbered_at : slice_get (specs_with_line_numbers 0 lines) i ≡ Some (numbered_spec_of_view s)
  numbered_at = ap (λ xs. slice_get xs i) (sym all) ∙ mapped_list_has_mapped_element_at_index numbered_spec_of_view specs i s at

  pub is_numbered : ListHasElement (specs_with_line_numbers 0 lines) (numbered_spec_of_view s)
  is_numbered = Has_at (specs_with_line_numbers 0 lines) i (numbered_spec_of_view s) numbered_at

pub map_of_map : {X Y Z : Type 0} (f : X → Y) (g : Y → Z) (xs : List X) → map (λ x. g (f x)) xs ≡ map g (map f xs)
map_of_map f g [] = refl
map_of_map f g (x ∷ xs) = ap (λ ys. g (f x) ∷ ys) (map_of_map f g xs)
