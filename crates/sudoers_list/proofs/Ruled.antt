-- What stands at the place of an answer, and at that of a host group.
use Rattle.std.proofs.Common.{◌≡◌, Bool, true, ◌⊎◌, inl, inr, ⊎_elim, ◌+◌, ℕ, zero, suc, List, [], ◌∷◌, ◌++◌, map, slice_get, Option, Some, None, option_and_then, refl, sym, ap, subst, ◌∙◌, arith}
use Rattle.std.proofs.lemmas.Option.{same_Some, slice_get-map}
use Rattle.std.specs.List.{cons_option}
use Rattle.std.specs.Option.{option_map}
use Rattle.sudoers_grammar.specs.Node.{HostGroup, Member}
use Rattle.sudoers_line_rows.specs.View.{member_of_view}
use Rattle.sudoers_tree.specs.Line.{Line}
use Rattle.sudoers_tree.specs.Load.{LoadedPolicy}
use Rattle.sudoers_check.specs.Chain.{ListHasElement}
use Rattle.sudoers_match_member.specs.declared.people_and_commands.Who.{Who}
use Rattle.sudoers_match.specs.declared.matching_host_groups.HostGroupPlace.{HostGroupPlace}
use Rattle.sudoers_match_member.specs.declared.request.Request.{Request}
use Rattle.sudoers_grammar.specs.declared.node.Kind.TheVariants.{User, Host}
use Rattle.sudoers_grammar.specs.declared.node.Atom.{Atom}
use Rattle.sudoers_match_member.specs.Hits.{is_user_atom_match, is_host_atom_match}
use Rattle.sudoers_match.specs.Allows.{ListAllows}
use Rattle.sudoers_match.specs.Answer.{Answer, RowFitsRequestByTest, IsAnswerByCommandTest, is_command_hit_by_test, answer_of_fitting_row}
use Rattle.sudoers_match.specs.declared.answer_of_row.AnswerWithMemberAndSettings.{AnswerWithMemberAndSettings}
use Rattle.sudoers_match.specs.Found.{HasMemberAndSettingsFromLines, answer_without_member_and_settings, specs_with_line_numbers}
use Rattle.sudoers_match.specs.Groups.{ArePlacesOfMatchingHostGroups, HoldsHostGroupPlaceIfHostsMatch, AreMatchingHostGroupPlacesOfSpec, host_group_place_from_spec_number}
use Rattle.sudoers_match.specs.Heads.{AccumulatedCommandSettings, commands_with_settings, empty_command_settings}
use Rattle.sudoers_match.specs.Last.{IsLastItemWith}
use Rattle.sudoers_match.specs.Rows.{AreRowsPerFlatAtomOfCommand, AreRowsPerFlatAtomOfHostGroup, PrivilegeRow, AreRowsPerFlatAtomOfSpec, privilege_row_of}
use Rattle.sudoers_match.specs.Specs.{IsConcatenationOfParts, UserSpec, user_spec_in_node, user_specs_of_lines}
use Rattle.sudoers_list.specs.Listing.{host_group_at_spec_and_group_number, host_groups_of_each_user_spec}
use Rattle.sudoers_list.specs.Inner.{InnerAliasMember, IsDecidingAliasMember, MemberMatchesCommand}
use Rattle.sudoers_list.specs.Reason.{IsAliasMemberOfRule, IsReasonByDecidingRule, alias_member_reason_text, place_verdict_and_command_text, rule_text_with_alias_member}
use Rattle.sudoers_list.proofs.Speaking.{list_with_matching_flat_atom_matches_command}
use Rattle.sudoers_list.specs.Rule.{DecidingRuleOnLine, HostGroupsOnLine, command_with_settings_at_number_in_group, deciding_rule, lines_with_numbers, rule_of_answer_in_spec, deciding_rule_from_answer_line_and_command, host_groups_on_line_from_line_and_spec, host_groups_of_spec_lines}

element_of_appended_is_in_either : {Y : Type 0} (xs ys : List Y) (y : Y) → ListHasElement (xs ++ ys) y → ListHasElement xs y ⊎ ListHasElement ys y
element_of_appended_is_in_either [] ys y h = inr h
element_of_appended_is_in_either (x ∷ xs) ys y (inl e) = inl (inl e)
element_of_appended_is_in_either (x ∷ xs) ys y (inr h) = ⊎_elim (λ a. inl (inr a)) (λ b. inr b) (element_of_appended_is_in_either xs ys y h)

element_amid_list_is_in_list : {Y : Type 0} (before after : List Y) (y : Y) → ListHasElement (before ++ y ∷ after) y
element_amid_list_is_in_list [] after y = inl refl
element_amid_list_is_in_list (x ∷ before) after y = inr (element_amid_list_is_in_list before after y)

mapped_list_element_is_of_an_element : {X Y : Type 0} (f : X → Y) (xs : List X) (y : Y) → ListHasElement (map f xs) y → (x : X) × (f x ≡ y) × ListHasElement xs x
mapped_list_element_is_of_an_element f [] y h = absurd h
mapped_list_element_is_of_an_element f (x ∷ xs) y (inl e) = (x, e, inl refl)
mapped_list_element_is_of_an_element f (x ∷ xs) y (inr h) = let r = mapped_list_element_is_of_an_element f xs y h in (r.0, r.1, inr r.2)

-- The thing with this number gives what is looked for.
record IsInPartOfNumberedItem {X Y : Type 0} (Part : ℕ → X → List Y → Type 0) (i : ℕ) (xs : List X) (y : Y) : Type 0 where
  pub number : ℕ
  pub thing : X
  pub there : slice_get xs number ≡ Some thing
  pub part : List Y
  pub is_part : Part (i + number) thing part
  pub has : ListHasElement part y

element_of_concatenation_is_in_a_part : {X Y : Type 0} (Part : ℕ → X → List Y → Type 0) (i : ℕ) (xs : List X) (ys : List Y) (y : Y) → IsConcatenationOfParts Part i xs ys → ListHasElement ys y → IsInPartOfNumberedItem Part i xs y
element_of_concatenation_is_in_a_part Part i [] ys y joined h = absurd (subst (λ l. ListHasElement l y) joined h)
element_of_concatenation_is_in_a_part {X} {Y} Part i (x ∷ xs) ys y joined h = by (element_of_appended_is_in_either joined.0 joined.1 y (subst (λ l. ListHasElement l y) joined.2 h)) (λ b. element_of_concatenation_is_in_a_part Part (suc i) xs joined.1 y joined.4 b)
  where
    by : ListHasElement joined.0 y ⊎ ListHasElement joined.1 y → (ListHasElement joined.1 y → IsInPartOfNumberedItem Part (suc i) xs y) → IsInPartOfNumberedItem Part i (x ∷ xs) y
    by (inl a) later =
        let e : i ≡ i + 0 = omega arith in
        record { number = 0; thing = x; there = refl; part = joined.0; is_part = subst (λ k. Part k x joined.0) e joined.3; has = a }
    by (inr b) later =
        let r = later b in
        let e : suc i + r.number ≡ i + suc r.number = omega arith in
        record { number = suc r.number; thing = r.thing; there = r.there; part = r.part; is_part = subst (λ k. Part k r.thing r.part) e r.is_part; has = r.has }

-- With numbers from 0.
record IsInPartOfItemFromZero {X Y : Type 0} (Part : ℕ → X → List Y → Type 0) (xs : List X) (y : Y) : Type 0 where
  pub number : ℕ
  pub thing : X
  pub there : slice_get xs number ≡ Some thing
  pub part : List Y
  pub is_part : Part number thing part
  pub has : ListHasElement part y

concatenated_element_is_in_part_from_zero : {X Y : Type 0} (Part : ℕ → X → List Y → Type 0) (xs : List X) (ys : List Y) (y : Y) → IsConcatenationOfParts Part 0 xs ys → ListHasElement ys y → IsInPartOfItemFromZero Part xs y
concatenated_element_is_in_part_from_zero Part xs ys y joined h =
    let r = element_of_concatenation_is_in_a_part Part 0 xs ys y joined h in
    let e : 0 + r.number ≡ r.number = omega arith in
    record { number = r.number; thing = r.thing; there = r.there; part = r.part; is_part = subst (λ k. Part k r.thing r.part) e r.is_part; has = r.has }

-- ---- host groups

host_group_is_at_its_place : (lines : List Line) (n m : ℕ) (s : UserSpec) (g : HostGroup) → slice_get (user_specs_of_lines lines) n ≡ Some s → slice_get s.groups m ≡ Some g
    → host_group_at_spec_and_group_number (host_groups_of_each_user_spec lines) (host_group_place_from_spec_number n m) ≡ Some g
host_group_is_at_its_place lines n m s g there here =
    ap (option_and_then (λ (groups : List HostGroup). slice_get groups m))
    (slice_get-map (λ (t : UserSpec). t.groups) (user_specs_of_lines lines) n ∙ ap (option_map (λ (t : UserSpec). t.groups)) there)
    ∙ here

place_of_spec_is_of_its_group : (lines : List Line) (who : Who) (i : ℕ) (s : UserSpec) (part : List HostGroupPlace) (place : HostGroupPlace) → AreMatchingHostGroupPlacesOfSpec lines who i s part
    → ListHasElement part place → IsInPartOfItemFromZero (HoldsHostGroupPlaceIfHostsMatch lines who i) s.groups place
place_of_spec_is_of_its_group lines who i s part place (inl a) h = concatenated_element_is_in_part_from_zero (HoldsHostGroupPlaceIfHostsMatch lines who i) s.groups part place a.1 h
place_of_spec_is_of_its_group lines who i s part place (inr b) h = absurd (subst (λ l. ListHasElement l place) b.1 h)

place_of_host_group_is_its_own : (lines : List Line) (who : Who) (i j : ℕ) (g : HostGroup) (part : List HostGroupPlace) (place : HostGroupPlace) → HoldsHostGroupPlaceIfHostsMatch lines who i j g part
    → ListHasElement part place → host_group_place_from_spec_number i j ≡ place
place_of_host_group_is_its_own lines who i j g part place (inl a) h = ⊎_elim (λ e. e) (λ n. absurd n) (subst (λ l. ListHasElement l place) a.1 h)
place_of_host_group_is_its_own lines who i j g part place (inr b) h = absurd (subst (λ l. ListHasElement l place) b.1 h)

pub matching_place_has_host_group : (lines : List Line) (who : Who) (places : List HostGroupPlace) (place : HostGroupPlace) → ArePlacesOfMatchingHostGroups lines who places
    → ListHasElement places place → (g : HostGroup) × (host_group_at_spec_and_group_number (host_groups_of_each_user_spec lines) place ≡ Some g)
matching_place_has_host_group lines who places place are h =
    let s = concatenated_element_is_in_part_from_zero (AreMatchingHostGroupPlacesOfSpec lines who) (user_specs_of_lines lines) places place are h in
    let g = place_of_spec_is_of_its_group lines who s.number s.thing s.part place s.is_part s.has in
    let e = place_of_host_group_is_its_own lines who s.number g.number g.thing g.part place g.is_part g.has in
    (g.thing, subst (λ p. host_group_at_spec_and_group_number (host_groups_of_each_user_spec lines) p ≡ Some g.thing) e (host_group_is_at_its_place lines s.number g.number s.thing g.thing s.there g.there))

-- ---- answers

-- A user specification stands on a line.
user_spec_is_on_a_line : (k n : ℕ) (lines : List Line) (s : UserSpec) → slice_get (user_specs_of_lines lines) n ≡ Some s
    → (on : ℕ × Line) × (slice_get (host_groups_of_spec_lines k lines) n ≡ Some (host_groups_on_line_from_line_and_spec on s))
user_spec_is_on_a_line k n [] s h = absurd cc
user_spec_is_on_a_line k n (l ∷ ls) s h = by (user_spec_in_node l.node) n h (λ m. user_spec_is_on_a_line (k + 1) m ls s)
  where
    by : (o : Option UserSpec) (i : ℕ) → slice_get (cons_option o (user_specs_of_lines ls)) i ≡ Some s
        → ((m : ℕ) → slice_get (user_specs_of_lines ls) m ≡ Some s → (on : ℕ × Line) × (slice_get (host_groups_of_spec_lines (k + 1) ls) m ≡ Some (host_groups_on_line_from_line_and_spec on s)))
        → (on : ℕ × Line) × (slice_get (cons_option (option_map (host_groups_on_line_from_line_and_spec (k, l)) o) (host_groups_of_spec_lines (k + 1) ls)) i ≡ Some (host_groups_on_line_from_line_and_spec on s))
    by None i e more = more i e
    by (Some t) zero e more = let same : t ≡ s = cc in ((k, l), ap (λ (x : UserSpec). Some (host_groups_on_line_from_line_and_spec (k, l) x)) same)
    by (Some t) (suc i) e more = more i e

equal_number_is_number_plus_zero : (k line : ℕ) → k ≡ line → line ≡ k + 0
equal_number_is_number_plus_zero k line same = omega (arith, same)

-- Of numbered lines this is the one with the user specification, whose number is `line`, counted from `first` on.
abbrev IsNumberedLineOfUserSpec : ℕ → ℕ → UserSpec → List (ℕ × Line) → List HostGroupsOnLine → ℕ → Type 0
IsNumberedLineOfUserSpec first line s ons specs n = (m : ℕ) × (on : ℕ × Line) × (line ≡ first + m) × (slice_get ons m ≡ Some on) × (slice_get specs n ≡ Some (host_groups_on_line_from_line_and_spec on s))

-- A user specification stands on the line with its number.
numbered_user_spec_is_on_its_line : (k n line : ℕ) (lines : List Line) (s : UserSpec) → slice_get (specs_with_line_numbers k lines) n ≡ Some (line, s)
    → IsNumberedLineOfUserSpec k line s (lines_with_numbers k lines) (host_groups_of_spec_lines k lines) n
numbered_user_spec_is_on_its_line k n line [] s h = absurd cc
numbered_user_spec_is_on_its_line k n line (l ∷ ls) s h = by (user_spec_in_node l.node) n h (λ j. numbered_user_spec_is_on_its_line (k + 1) j line ls s)
  where
    later : (specs : List HostGroupsOnLine) (i j : ℕ) → (slice_get specs j ≡ slice_get (host_groups_of_spec_lines (k + 1) ls) i)
        → IsNumberedLineOfUserSpec (k + 1) line s (lines_with_numbers (k + 1) ls) (host_groups_of_spec_lines (k + 1) ls) i → IsNumberedLineOfUserSpec k line s (lines_with_numbers k (l ∷ ls)) specs j
    later specs i j same r =
        let first = r.2 in
        let at : line ≡ k + suc r.0 = omega (arith, first) in
        (suc r.0, r.1, at, r.3, same ∙ r.4)

    by : (o : Option UserSpec) (j : ℕ) → slice_get (cons_option (option_map (λ (t : UserSpec). (k, t)) o) (specs_with_line_numbers (k + 1) ls)) j ≡ Some (line, s)
        → ((i : ℕ) → slice_get (specs_with_line_numbers (k + 1) ls) i ≡ Some (line, s) → IsNumberedLineOfUserSpec (k + 1) line s (lines_with_numbers (k + 1) ls) (host_groups_of_spec_lines (k + 1) ls) i)
        → IsNumberedLineOfUserSpec k line s (lines_with_numbers k (l ∷ ls)) (cons_option (option_map (host_groups_on_line_from_line_and_spec (k, l)) o) (host_groups_of_spec_lines (k + 1) ls)) j
    by None j e more = later (host_groups_of_spec_lines (k + 1) ls) j j refl (more j e)
    by (Some t) zero e more =
        let both : (k, t) ≡ (line, s) = same_Some (k, t) (line, s) e in
        (0, (k, l), equal_number_is_number_plus_zero k line (ap (λ (p : ℕ × UserSpec). p.0) both), refl, ap (λ (p : ℕ × UserSpec). Some (host_groups_on_line_from_line_and_spec (k, l) p.1)) both)
    by (Some t) (suc j) e more = later (host_groups_on_line_from_line_and_spec (k, l) t ∷ host_groups_of_spec_lines (k + 1) ls) j (suc j) refl (more j e)

pub none_is_unequal_to_some : {X : Type 0} (x : X) → None ≡ Some x → ⊥
none_is_unequal_to_some x e = cc

-- The rule of what was found: the line of its user specification, and its command.
pub found_answer_has_its_deciding_rule : (lines : List Line) (found : AnswerWithMemberAndSettings) → (is : HasMemberAndSettingsFromLines lines found)
    → (on : ℕ × Line) × (slice_get (lines_with_numbers 0 lines) found.line ≡ Some on)
    × (deciding_rule lines (answer_without_member_and_settings found) ≡ Some (deciding_rule_from_answer_line_and_command (answer_without_member_and_settings found) (host_groups_on_line_from_line_and_spec on is.spec) (is.in_groups.in_group.head, member_of_view found.member)))
found_answer_has_its_deciding_rule lines found is =
    let a : Answer = answer_without_member_and_settings found in
    let w = numbered_user_spec_is_on_its_line 0 found.answer.spec found.line lines is.spec is.stands in
    let at : HostGroupsOnLine = host_groups_on_line_from_line_and_spec w.1 is.spec in
    let first = w.2 in
    let number : found.line ≡ w.0 = omega (arith, first) in (
      w.1,
      ap (slice_get (lines_with_numbers 0 lines)) number ∙ w.3,
      ap (option_and_then (rule_of_answer_in_spec a)) w.4
          ∙ ap (λ group. option_map (deciding_rule_from_answer_line_and_command a at) (command_with_settings_at_number_in_group a.command group)) is.in_groups.stands
          ∙ ap (option_map (deciding_rule_from_answer_line_and_command a at)) is.in_groups.in_group.stands,
    )

places_of_answer_have_deciding_rule : (lines : List Line) (a : Answer) (s : UserSpec) (g : HostGroup) (c : AccumulatedCommandSettings × Member) → slice_get (user_specs_of_lines lines) a.spec ≡ Some s
    → slice_get s.groups a.host_group ≡ Some g → slice_get (commands_with_settings empty_command_settings g.commands) a.command ≡ Some c
    → (rule : DecidingRuleOnLine) × (deciding_rule lines a ≡ Some rule) × (rule.command.member ≡ c.1)
places_of_answer_have_deciding_rule lines a s g c there here this =
    let on = user_spec_is_on_a_line 0 a.spec lines s there in
    let at : HostGroupsOnLine = host_groups_on_line_from_line_and_spec on.0 s in (
      deciding_rule_from_answer_line_and_command a at c,
      ap (option_and_then (rule_of_answer_in_spec a)) on.1
          ∙ ap (λ group. option_map (deciding_rule_from_answer_line_and_command a at) (command_with_settings_at_number_in_group a.command group)) here
          ∙ ap (option_map (deciding_rule_from_answer_line_and_command a at)) this,
      refl,
    )

answer_of_last_row_is_fitting_row : (P : PrivilegeRow → Type 0) (rows : List PrivilegeRow) (last : Option PrivilegeRow) (a : Answer) → Some a ≡ option_map answer_of_fitting_row last → IsLastItemWith P rows last
    → (row : PrivilegeRow) × ListHasElement rows row × (a ≡ answer_of_fitting_row row) × P row
answer_of_last_row_is_fitting_row P rows None a says is = absurd cc
answer_of_last_row_is_fitting_row P rows (Some row) a says is =
    let same : a ≡ answer_of_fitting_row row = cc in
    (row, subst (λ l. ListHasElement l row) (sym is.2) (element_amid_list_is_in_list is.0 is.1 row), same, is.3)

-- What stands at the place of an answer: a user specification whose users match, a host group of it whose hosts match, and a command.
record HasMatchingPlaceOfAnswer (lines : List Line) (test : Atom → Bool) (r : Request) (a : Answer) : Type 0 where
  pub spec : UserSpec
  pub group : HostGroup
  pub command : AccumulatedCommandSettings × Member
  pub there : slice_get (user_specs_of_lines lines) a.spec ≡ Some spec
  pub here : slice_get spec.groups a.host_group ≡ Some group
  pub this : slice_get (commands_with_settings empty_command_settings group.commands) a.command ≡ Some command
  pub user : ListAllows User lines (is_user_atom_match r.who.user) spec.users
  pub host : ListAllows Host lines (is_host_atom_match r.who) group.hosts
  pub speaks : MemberMatchesCommand lines test command.1

answer_has_matching_place : (lines : List Line) (test : Atom → Bool) (r : Request) (a : Answer) → IsAnswerByCommandTest lines test r (Some a) → HasMatchingPlaceOfAnswer lines test r a
answer_has_matching_place lines test r a is =
    let last = answer_of_last_row_is_fitting_row (RowFitsRequestByTest lines test r) is.rows is.answers.last a is.answers.says is.answers.is_last in
    let row = last.0 in
    let s = concatenated_element_is_in_part_from_zero (AreRowsPerFlatAtomOfSpec lines) (user_specs_of_lines lines) is.rows row is.are_rows last.1 in
    let g = concatenated_element_is_in_part_from_zero (AreRowsPerFlatAtomOfHostGroup lines s.number s.thing.users) s.thing.groups s.part row s.is_part s.has in
    let c = concatenated_element_is_in_part_from_zero (AreRowsPerFlatAtomOfCommand lines s.number g.number s.thing.users g.thing.hosts) (commands_with_settings empty_command_settings g.thing.commands) g.part row g.is_part g.has in
    let flat = c.is_part in
    let atom = mapped_list_element_is_of_an_element (privilege_row_of s.number g.number s.thing.users g.thing.hosts c.number c.thing.0) flat.0 row (subst (λ l. ListHasElement l row) flat.2 c.has) in
    let spec : a.spec ≡ s.number = ap (λ (x : Answer). x.spec) last.2 ∙ ap (λ (x : PrivilegeRow). x.spec) (sym atom.1) in
    let group : a.host_group ≡ g.number = ap (λ (x : Answer). x.host_group) last.2 ∙ ap (λ (x : PrivilegeRow). x.host_group) (sym atom.1) in
    let command : a.command ≡ c.number = ap (λ (x : Answer). x.command) last.2 ∙ ap (λ (x : PrivilegeRow). x.command) (sym atom.1) in
    record {
      spec = s.thing;
      group = g.thing;
      command = c.thing;
      there = ap (slice_get (user_specs_of_lines lines)) spec ∙ s.there;
      here = ap (slice_get s.thing.groups) group ∙ g.there;
      this = ap (slice_get (commands_with_settings empty_command_settings g.thing.commands)) command ∙ c.there;
      user = subst (λ (x : PrivilegeRow). ListAllows User lines (is_user_atom_match r.who.user) x.users) (sym atom.1) last.3.user;
      host = subst (λ (x : PrivilegeRow). ListAllows Host lines (is_host_atom_match r.who) x.hosts) (sym atom.1) last.3.host;
      speaks =
          list_with_matching_flat_atom_matches_command lines test (c.thing.1 ∷ []) flat.0 atom.0 flat.1 atom.2
          (subst (λ (x : PrivilegeRow). is_command_hit_by_test test x.atom ≡ true) (sym atom.1) last.3.command);
    }

pub answer_has_deciding_rule : (lines : List Line) (test : Atom → Bool) (request : Request) (a : Answer) → IsAnswerByCommandTest lines test request (Some a) → (rule : DecidingRuleOnLine) × (deciding_rule lines a ≡ Some rule)
answer_has_deciding_rule lines test request a is =
    let w = answer_has_matching_place lines test request a is in
    let r = places_of_answer_have_deciding_rule lines a w.spec w.group w.command w.there w.here w.this in
    (r.0, r.1)

-- The command of the rule that decides says something of the command that is asked for.
pub deciding_rule_member_matches_command : (lines : List Line) (test : Atom → Bool) (request : Request) (a : Answer) (rule : DecidingRuleOnLine) → IsAnswerByCommandTest lines test request (Some a) → deciding_rule lines a ≡ Some rule
    → MemberMatchesCommand lines test rule.command.member
deciding_rule_member_matches_command lines test request a rule is e =
    let w = answer_has_matching_place lines test request a is in
    let r = places_of_answer_have_deciding_rule lines a w.spec w.group w.command w.there w.here w.this in
    let same : r.0 ≡ rule = same_Some r.0 rule (sym r.1 ∙ e) in
    subst (MemberMatchesCommand lines test) (sym r.2 ∙ ap (λ (x : DecidingRuleOnLine). x.command.member) same) w.speaks

-- A text names the rule, whose member decides or hides one that does.
pub deciding_rule_text_is_reason : (policy : LoadedPolicy) (test : Atom → Bool) (r : Request) (user d text : List ℕ) (a : Answer) (rule : DecidingRuleOnLine) (inner : Option InnerAliasMember) → user ≡ r.who.user.name
    → deciding_rule policy.walk.lines a ≡ Some rule → IsDecidingAliasMember policy.walk.lines test rule.command.member inner
    → text ≡ place_verdict_and_command_text policy user d a.allow rule ++ alias_member_reason_text policy inner → IsReasonByDecidingRule policy test r d a text
deciding_rule_text_is_reason policy test r user d text a rule inner same e is t = record {
  inner = inner;
  is_inner = subst (λ o. IsAliasMemberOfRule policy.walk.lines test o inner) (sym e) is;
  says =
      t
      ∙ ap (λ u. place_verdict_and_command_text policy u d a.allow rule ++ alias_member_reason_text policy inner) same
      ∙ ap (rule_text_with_alias_member policy r.who.user.name d a.allow inner) (sym e);
}

-- ---- the place of an answer among those that are listed

element_of_front_is_in_appended_parts : {Y : Type 0} (xs ys : List Y) (y : Y) → ListHasElement xs y → ListHasElement (xs ++ ys) y
element_of_front_is_in_appended_parts [] ys y h = absurd h
element_of_front_is_in_appended_parts (x ∷ xs) ys y (inl e) = inl e
element_of_front_is_in_appended_parts (x ∷ xs) ys y (inr h) = inr (element_of_front_is_in_appended_parts xs ys y h)

element_of_rest_is_in_appended_parts : {Y : Type 0} (xs ys : List Y) (y : Y) → ListHasElement ys y → ListHasElement (xs ++ ys) y
element_of_rest_is_in_appended_parts [] ys y h = h
element_of_rest_is_in_appended_parts (x ∷ xs) ys y h = inr (element_of_rest_is_in_appended_parts xs ys y h)

-- What the part of a thing has, all have.
element_of_a_part_is_in_concatenation : {X Y : Type 0} (Part : ℕ → X → List Y → Type 0) (i n : ℕ) (xs : List X) (ys : List Y) (x : X) (y : Y) → IsConcatenationOfParts Part i xs ys
    → slice_get xs n ≡ Some x → ((part : List Y) → Part (i + n) x part → ListHasElement part y) → ListHasElement ys y
element_of_a_part_is_in_concatenation Part i n [] ys x y joined there has = absurd cc
element_of_a_part_is_in_concatenation Part i zero (z ∷ xs) ys x y joined there has =
    let same : z ≡ x = cc in
    let at : i ≡ i + 0 = omega arith in
    subst (λ l. ListHasElement l y) (sym joined.2)
    (element_of_front_is_in_appended_parts joined.0 joined.1 y (has joined.0 (subst (λ k. Part k x joined.0) at (subst (λ t. Part i t joined.0) same joined.3))))
element_of_a_part_is_in_concatenation Part i (suc n) (z ∷ xs) ys x y joined there has =
    let at : suc i + n ≡ i + suc n = omega arith in
    subst (λ l. ListHasElement l y) (sym joined.2)
    (element_of_rest_is_in_appended_parts joined.0 joined.1 y (element_of_a_part_is_in_concatenation Part (suc i) n xs joined.1 x y joined.4 there (λ part p. has part (subst (λ k. Part k x part) at p))))

-- with numbers from 0
part_from_zero_is_in_concatenation : {X Y : Type 0} (Part : ℕ → X → List Y → Type 0) (n : ℕ) (xs : List X) (ys : List Y) (x : X) (y : Y) → IsConcatenationOfParts Part 0 xs ys
    → slice_get xs n ≡ Some x → ((part : List Y) → Part n x part → ListHasElement part y) → ListHasElement ys y
part_from_zero_is_in_concatenation Part n xs ys x y joined there has =
    let at : 0 + n ≡ n = omega arith in
    element_of_a_part_is_in_concatenation Part 0 n xs ys x y joined there (λ part p. has part (subst (λ k. Part k x part) at p))

matching_host_group_is_in_places : (lines : List Line) (who : Who) (i j : ℕ) (g : HostGroup) (part : List HostGroupPlace) → ListAllows Host lines (is_host_atom_match who) g.hosts
    → HoldsHostGroupPlaceIfHostsMatch lines who i j g part → ListHasElement part (host_group_place_from_spec_number i j)
matching_host_group_is_in_places lines who i j g part allows (inl a) = subst (λ l. ListHasElement l (host_group_place_from_spec_number i j)) (sym a.1) (inl refl)
matching_host_group_is_in_places lines who i j g part allows (inr b) = absurd (b.0 allows)

group_of_matching_spec_is_in_places : (lines : List Line) (who : Who) (i n : ℕ) (s : UserSpec) (g : HostGroup) (part : List HostGroupPlace) → ListAllows User lines (is_user_atom_match who.user) s.users
    → slice_get s.groups n ≡ Some g → ListAllows Host lines (is_host_atom_match who) g.hosts → AreMatchingHostGroupPlacesOfSpec lines who i s part → ListHasElement part (host_group_place_from_spec_number i n)
group_of_matching_spec_is_in_places lines who i n s g part user here host (inl a) =
    part_from_zero_is_in_concatenation (HoldsHostGroupPlaceIfHostsMatch lines who i) n s.groups part g (host_group_place_from_spec_number i n) a.1 here (λ inner p. matching_host_group_is_in_places lines who i n g inner host p)
group_of_matching_spec_is_in_places lines who i n s g part user here host (inr b) = absurd (b.0 user)

pub group_of_answer_is_among_matching : (lines : List Line) (test : Atom → Bool) (r : Request) (a : Answer) (places : List HostGroupPlace) → IsAnswerByCommandTest lines test r (Some a)
    → ArePlacesOfMatchingHostGroups lines r.who places → ListHasElement places (host_group_place_from_spec_number a.spec a.host_group)
group_of_answer_is_among_matching lines test r a places is are =
    let w = answer_has_matching_place lines test r a is in
    part_from_zero_is_in_concatenation (AreMatchingHostGroupPlacesOfSpec lines r.who) a.spec (user_specs_of_lines lines) places w.spec (host_group_place_from_spec_number a.spec a.host_group) are w.there
    (λ part p. group_of_matching_spec_is_in_places lines r.who a.spec a.host_group w.spec w.group part w.user w.here w.host p)
