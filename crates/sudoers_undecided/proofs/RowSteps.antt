-- What the sway of a command tells of its rows.
use Rattle.std.proofs.Common.{◌≡◌, inl, inr, ◌&&◌, Bool, true, false, ℕ, List, [], ◌∷◌, map, is_some, refl, sym, ap, subst, ◌∙◌}
use Rattle.sudoers_grammar.specs.declared.node.Kind.{Kind}
use Rattle.sudoers_grammar.specs.declared.node.Kind.TheVariants.{Cmnd}
use Rattle.sudoers_grammar.specs.declared.node.Atom.{Atom}
use Rattle.sudoers_grammar.specs.Node.{Member}
use Rattle.sudoers_line_rows.specs.declared.row_lists.RowsOfTable.{RowsOfTable}
use Rattle.sudoers_line_rows.specs.declared.rows.MemberRow.{MemberRow}
use Rattle.sudoers_line_rows.specs.View.{members_of_view}
use Rattle.sudoers_tree.specs.Line.{Line}
use Rattle.sudoers_check.specs.Chain.{ListHasElement}
use Rattle.sudoers_match_member.specs.declared.request.Request.{Request}
use Rattle.sudoers_match_member.specs.Hits.{is_command_atom_match}
use Rattle.sudoers_match_list.specs.Flat.{IsFlatListOf, SignedAtom, last_hit_of_list}
use Rattle.sudoers_match_list.proofs.Unique.{one_flat}
use Rattle.sudoers_match.specs.Answer.{command_with_joined_arguments_of_request}
use Rattle.sudoers_match.specs.Heads.{AccumulatedCommandSettings}
use Rattle.sudoers_match.specs.Rows.{AreRowsPerFlatAtomOfCommand, PrivilegeRow, privilege_row_of}
use Rattle.sudoers_undecided.specs.declared.asked_request.CommandLists.{CommandLists}
use Rattle.sudoers_undecided.specs.declared.counted_lists.CountedLists.{CountedLists}
use Rattle.sudoers_undecided.specs.declared.decided_aliases.DecidedAliases.{DecidedAliases}
use Rattle.sudoers_undecided.specs.declared.user_and_host_lists.UserAndHostLists.{UserAndHostLists}
use Rattle.sudoers_undecided.specs.declared.list_sway.ListSway.{ListSway}
use Rattle.sudoers_undecided.specs.declared.request_part.RequestPart.TheVariants as part
use Rattle.sudoers_undecided.specs.declared.wanted_members.CountedList.{CountedList}
use Rattle.sudoers_undecided.specs.declared.wanted_members.WantedMembers.TheVariants.{Allowing, Denying, All}
use Rattle.sudoers_undecided.specs.ListSway.{may_list_match, sway_of_atoms}
use Rattle.sudoers_undecided.specs.MatchTests.{match_tests_of_request, undecided_by_files_or_paths}
use Rattle.sudoers_undecided.specs.UndecidedAnswer.{RowMayFitRequest}
use Rattle.sudoers_undecided.specs.internal.Counted.{AddsOnlyListsOfParts, AreDecidedBy, AreListsOfCommand, CountsRows, HasListsOfParts, HasOnlyListsOfParts, HaveGrown, command_list}
use Rattle.sudoers_undecided.specs.internal.Decided.{HasAliasToDecide, IsSwayOfList, matched_by, undecided_by}
use Rattle.sudoers_undecided.specs.internal.Parts.{all_parts, does_row_hold, may_row_hold, parts_without_hold_of}
use Rattle.sudoers_undecided.specs.internal.Wanted.{AreFlat}
use Rattle.sudoers_undecided.proofs.Deciding.{flat_list_has_none_to_decide}
use Rattle.sudoers_undecided.proofs.RowCounts.{atom_may_match, command_decides, command_is_added, no_row_may_fit, row_may_hold}
use Rattle.sudoers_undecided.proofs.RowNames.{added_command_names, added_lists_are_flat, deciding_command_names, no_lists_are_flat}
use Rattle.sudoers_undecided.proofs.Sways.{sway_has_last_hit}

pub undecided_list_is_not_flat : (lines : List Line) (k : Kind) (undecided : SignedAtom → Bool) (test : Atom → Bool) (d : DecidedAliases) → AreDecidedBy lines k undecided test d → (ms : List Member) → HasAliasToDecide lines d ms
    → (fs : List SignedAtom) → IsFlatListOf k lines ms fs → ⊥
undecided_list_is_not_flat lines k undecided test d a ms h fs f = flat_list_has_none_to_decide lines d a.all ms fs (subst (λ (j : Kind). IsFlatListOf j lines ms fs) (sym a.kind) f) h

pub decided_sway : (lines : List Line) (k : Kind) (undecided : SignedAtom → Bool) (test : Atom → Bool) (d : DecidedAliases) → AreDecidedBy lines k undecided test d → (ms : List Member) (sway : ListSway)
    → IsSwayOfList d.kind lines (undecided_by d) (matched_by d) ms sway → IsSwayOfList k lines undecided test ms sway
decided_sway lines k undecided test d a ms sway h =
    subst (λ (j : Kind). IsSwayOfList j lines undecided test ms sway) a.kind
    (subst (λ (u : SignedAtom → Bool). IsSwayOfList d.kind lines u test ms sway) a.undecided_are
    (subst (λ (t : Atom → Bool). IsSwayOfList d.kind lines (undecided_by d) t ms sway) a.matched_are h))

module _ (lines : List Line) (r : Request) (scopes : UserAndHostLists) (head : AccumulatedCommandSettings) (l : CommandLists) (h : AreListsOfCommand lines r scopes head l)
    (member : RowsOfTable MemberRow) (m : Member) (alone : members_of_view member ≡ m ∷ []) (i j k : ℕ) (rows : List PrivilegeRow)
    (are : AreRowsPerFlatAtomOfCommand lines i j (members_of_view l.users) (members_of_view l.hosts) k (head, m) rows) where
  abbrev test : Atom → Bool
  test = is_command_atom_match (command_with_joined_arguments_of_request r)

  is_flat : IsFlatListOf Cmnd lines (members_of_view member) are.0
  is_flat = subst (λ ms. IsFlatListOf Cmnd lines ms are.0) (sym alone) are.1

  counted : (c e : CountedLists) → CountsRows lines r scopes c e (map (privilege_row_of i j (members_of_view l.users) (members_of_view l.hosts) k head) are.0) → CountsRows lines r scopes c e rows
  counted c e x = subst (CountsRows lines r scopes c e) (sym are.2) x

  pub unheld_command_counts : (c : CountedLists) → may_row_hold l.standing ≡ false → CountsRows lines r scopes c c rows
  unheld_command_counts c e = counted c c (no_row_may_fit lines r scopes head l h i j k c are.0
      (λ s _ may. let clash : true ≡ false = sym (row_may_hold lines r scopes head l h i j k s may) ∙ e in absurd cc))

  pub undecided_command_counts : (c : CountedLists) (d : DecidedAliases) → AreDecidedBy lines Cmnd (undecided_by_files_or_paths r).command test d → HasAliasToDecide lines d (members_of_view member) → CountsRows lines r scopes c c rows
  undecided_command_counts c d a x = absurd (undecided_list_is_not_flat lines Cmnd (undecided_by_files_or_paths r).command test d a (members_of_view member) x are.0 is_flat)

  module _ (sway : ListSway) (says : IsSwayOfList Cmnd lines (undecided_by_files_or_paths r).command test (members_of_view member) sway) where
    it : sway ≡ sway_of_atoms (undecided_by_files_or_paths r).command test are.0
    it = says.says ∙ ap (sway_of_atoms (undecided_by_files_or_paths r).command test) (one_flat Cmnd lines (members_of_view member) says.flat are.0 says.is_flat is_flat)

    hit_is : sway.hit ≡ last_hit_of_list test are.0
    hit_is = ap (λ (s : ListSway). s.hit) it ∙ sway_has_last_hit (undecided_by_files_or_paths r).command test are.0

    pub unmatched_command_counts : (c : CountedLists) → may_list_match sway ≡ false → CountsRows lines r scopes c c rows
    unmatched_command_counts c e = counted c c (no_row_may_fit lines r scopes head l h i j k c are.0 no)
      where
        no : (s : SignedAtom) → ListHasElement are.0 s → RowMayFitRequest lines (undecided_by_files_or_paths r) (match_tests_of_request r) r (privilege_row_of i j (members_of_view l.users) (members_of_view l.hosts) k head s) → ⊥
        no s stands may =
            let matches : may_list_match (sway_of_atoms (undecided_by_files_or_paths r).command test are.0) ≡ true =
            elim (may part.Command) as (λ _. may_list_match (sway_of_atoms (undecided_by_files_or_paths r).command test are.0) ≡ true) [
              | inl hit ↦ atom_may_match (undecided_by_files_or_paths r).command test are.0 s stands (inl hit)
              | inr t ↦ atom_may_match (undecided_by_files_or_paths r).command test are.0 s stands (inr (ap (undecided_by_files_or_paths r).command (sym t.1.0) ∙ t.1.1))
            ] in
            let clash : true ≡ false = sym matches ∙ ap may_list_match (sym it) ∙ e in absurd cc

    both : (a b : Bool) → (a && b) ≡ true → (a ≡ true) × (b ≡ true)
    both true b e = (refl, e)
    both false b e = absurd cc

    not_both : (a b : Bool) → (a && b) ≡ false → a ≡ true → b ≡ true → ⊥
    not_both true b e p q = let clash : true ≡ false = sym q ∙ e in absurd cc
    not_both false b e p q = absurd cc

    commands_are_flat : (xs : List CountedList) → ((x : CountedList) → ListHasElement xs x → x.members ≡ member) → AreFlat Cmnd lines xs
    commands_are_flat xs same x stands = record { flat = are.0; is_flat = subst (λ (m : RowsOfTable MemberRow). IsFlatListOf Cmnd lines (members_of_view m) are.0) (sym (same x stands)) is_flat }

    allowing_and_denying : (x : CountedList) → ListHasElement (command_list l.line member Allowing ∷ command_list l.line member Denying ∷ []) x → x.members ≡ member
    allowing_and_denying x (inl e) = ap (λ (y : CountedList). y.members) (sym e)
    allowing_and_denying x (inr (inl e)) = ap (λ (y : CountedList). y.members) (sym e)
    allowing_and_denying x (inr (inr n)) = absurd n

    all_alone : (x : CountedList) → ListHasElement (command_list l.line member All ∷ []) x → x.members ≡ member
    all_alone x (inl e) = ap (λ (y : CountedList). y.members) (sym e)
    all_alone x (inr n) = absurd n

    pub deciding_command_counts : (c e : CountedLists) → HasListsOfParts e l all_parts → ListHasElement e.commands.items (command_list l.line member Allowing) → ListHasElement e.commands.items (command_list l.line member Denying)
        → (does_row_hold l.standing && is_some sway.hit) ≡ true → may_row_hold l.standing ≡ true → HasOnlyListsOfParts e l all_parts (command_list l.line member Allowing ∷ command_list l.line member Denying ∷ [])
        → CountsRows lines r scopes c e rows
    deciding_command_counts c e has allowing denying decides may only =
        let x = both (does_row_hold l.standing) (is_some sway.hit) decides in
        let hit = ap is_some (sym hit_is) ∙ x.1 in
        let commands = command_list l.line member Allowing ∷ command_list l.line member Denying ∷ [] in
        counted c e
        (command_decides lines r scopes head l h i j k member are.0 is_flat e c has allowing denying x.0 hit
        (deciding_command_names lines r scopes head l h i j k member are.0 is_flat may x.0 hit c e only)
        (λ _. added_lists_are_flat lines r scopes head l h i j k may only.start e all_parts commands only.only (commands_are_flat commands allowing_and_denying) (no_lists_are_flat lines r only.start only.empty)))

    pub added_command_counts : (c e : CountedLists) → HaveGrown c e → HasListsOfParts e l (parts_without_hold_of l.standing) → ListHasElement e.commands.items (command_list l.line member All)
        → (does_row_hold l.standing && is_some sway.hit) ≡ false → may_row_hold l.standing ≡ true → may_list_match sway ≡ true
        → AddsOnlyListsOfParts c e l (parts_without_hold_of l.standing) (command_list l.line member All ∷ []) → CountsRows lines r scopes c e rows
    added_command_counts c e grown has all undone may matters only =
        let commands = command_list l.line member All ∷ [] in
        counted c e
        (command_is_added lines r scopes head l h i j k member are.0 is_flat e c grown has all neither
        (added_command_names lines r scopes head l h i j k member are.0 is_flat may neither (ap may_list_match (sym it) ∙ matters) c e only)
        (added_lists_are_flat lines r scopes head l h i j k may c e (parts_without_hold_of l.standing) commands only (commands_are_flat commands all_alone)))
      where
        neither : does_row_hold l.standing ≡ true → is_some (last_hit_of_list test are.0) ≡ true → ⊥
        neither holds hit = not_both (does_row_hold l.standing) (is_some sway.hit) undone holds (ap is_some hit_is ∙ hit)
