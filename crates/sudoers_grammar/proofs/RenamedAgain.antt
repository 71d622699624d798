-- Where the new name stands in a renamed line: where the old one stood.
use Rattle.std.proofs.Common.{◌≡◌, inl, inr, ℕ, ◌+◌, ◌-◌, ◌≤◌, ◌<◌, Bool, true, false, ◌&&◌, List, [], ◌∷◌, ◌++◌, map, length, Option, Some, None, refl, sym, ap, ap₂, ◌∙◌, arith}
use Rattle.std.specs.Prelude.{if◌then◌else◌}
use Rattle.std.specs.List.{AllByRecursion, flat_map}
use Rattle.std.specs.Str.{bytes_eq}
use Rattle.std.proofs.lemmas.Slice.Eq.{bytes_eq-Decides}
use Rattle.std.proofs.lemmas.List.{map-append}
use Rattle.std.proofs.lemmas.Bool.{cases_lt}
use Rattle.sudoers_grammar.specs.declared.node.Kind.{Kind}
use Rattle.sudoers_grammar.specs.declared.node.Kind.TheVariants.{User, Runas, Host, Cmnd}
use Rattle.sudoers_grammar.specs.declared.node.Atom.{Atom}
use Rattle.sudoers_grammar.specs.declared.node.Atom.TheVariants as atom
use Rattle.sudoers_grammar.specs.Node.{Member, Def, RunasSpec, CmdSpec, HostGroup, Scope, Node}
use Rattle.sudoers_grammar.specs.Node as node
use Rattle.sudoers_grammar.specs.Renamed.{NamedAlias, AliasRenaming, alias_offsets_in_atom, alias_offsets_in_member, alias_offsets_in_members, alias_offsets_in_definition, alias_offsets_in_runas, alias_offsets_in_runas_option, alias_offsets_in_command, alias_offsets_in_host_group, alias_offsets_in_scope, alias_offsets_in_node, atom_with_alias_renamed, member_with_alias_renamed, members_with_alias_renamed, definition_with_alias_renamed, runas_with_alias_renamed, runas_option_with_alias_renamed, command_with_alias_renamed, host_group_with_alias_renamed, scope_with_alias_renamed, node_with_alias_renamed, renamed_alias, offset_after_renames}
use Rattle.sudoers_grammar.proofs.RenamedStarts.{AreOffsetsApart, offset_before_renames_is_unchanged, offset_after_first_rename_is_replaced}

-- ---- offsets

-- A name that begins at this offset is moved whole.
abbrev pub IsMovedWholeAtOffset : ℕ → ℕ → (ℕ → ℕ) → ℕ → Type 0
IsMovedWholeAtOffset old new at p = (e : ℕ) → e - old ≡ p → at e - new ≡ at p

record IsMovedAtOrAfterPlace (old new from : ℕ) (ps : List ℕ) (p : ℕ) : Type 0 where
  least : from ≤ p
  stays : from ≤ offset_after_renames old new ps p
  moves : IsMovedWholeAtOffset old new (offset_after_renames old new ps) p

implication_keeps_all_of_list : (P Q : ℕ → Type 0) → ((p : ℕ) → P p → Q p) → (ps : List ℕ) → AllByRecursion P ps → AllByRecursion Q ps
implication_keeps_all_of_list P Q f [] all = tt
implication_keeps_all_of_list P Q f (p ∷ ps) all = (f p all.0, implication_keeps_all_of_list P Q f ps all.1)

renamed_offsets_are_moved_after_start : (old new from to : ℕ) (ps : List ℕ) → 0 < old → AreOffsetsApart old from to ps → AllByRecursion (IsMovedAtOrAfterPlace old new from ps) ps
renamed_offsets_are_moved_after_start old new from to [] some a = tt
renamed_offsets_are_moved_after_start old new from to (q ∷ qs) some a =
    let first : offset_after_renames old new (q ∷ qs) q ≡ q = offset_before_renames_is_unchanged old new old q to (q ∷ qs) q (omega arith, a.1) (omega arith) in (
      record { least = a.0; stays = omega (arith, first, a.0); moves = head first },
      implication_keeps_all_of_list (IsMovedAtOrAfterPlace old new (q + old) qs) (IsMovedAtOrAfterPlace old new from (q ∷ qs)) later qs (renamed_offsets_are_moved_after_start old new (q + old) to qs some a.1),
    )
  where
    head : offset_after_renames old new (q ∷ qs) q ≡ q → IsMovedWholeAtOffset old new (offset_after_renames old new (q ∷ qs)) q
    head first e is =
        elim (cases_lt q e) [
          | inl past ↦
              let above = offset_after_first_rename_is_replaced old new q qs e past in
              let same : offset_after_renames old new qs e ≡ e = offset_before_renames_is_unchanged old new old (q + old) to qs e a.1 (omega (arith, is)) in
              omega (arith, above, same, is, first)
          | inr upto ↦
              let same : offset_after_renames old new (q ∷ qs) e ≡ e = offset_before_renames_is_unchanged old new old q to (q ∷ qs) e (omega arith, a.1) upto in
              omega (arith, same, is, first, upto, some)
        ]

    later : (p : ℕ) → IsMovedAtOrAfterPlace old new (q + old) qs p → IsMovedAtOrAfterPlace old new from (q ∷ qs) p
    later p is =
        let above = offset_after_first_rename_is_replaced old new q qs p (omega (arith, is.least, some)) in
        record {
          least = omega (arith, is.least, a.0);
          stays = omega (arith, above, is.stays, a.0);
          moves = λ e h.
              let over = offset_after_first_rename_is_replaced old new q qs e (omega (arith, is.least, h, some)) in
              let same = is.moves e h in
              omega (arith, over, above, same, is.stays, some);
        }

pub renamed_offsets_are_each_moved : (old new to : ℕ) (ps : List ℕ) → 0 < old → AreOffsetsApart old 0 to ps → AllByRecursion (IsMovedWholeAtOffset old new (offset_after_renames old new ps)) ps
renamed_offsets_are_each_moved old new to ps some a =
    implication_keeps_all_of_list (IsMovedAtOrAfterPlace old new 0 ps) (IsMovedWholeAtOffset old new (offset_after_renames old new ps)) (λ p is. is.moves) ps (renamed_offsets_are_moved_after_start old new 0 to ps some a)

-- ---- lists

empty_concatenation_has_empty_parts : (xs ys : List ℕ) → xs ++ ys ≡ [] → (xs ≡ []) × (ys ≡ [])
empty_concatenation_has_empty_parts [] ys e = (refl, e)
empty_concatenation_has_empty_parts (x ∷ xs) ys e = absurd (cc)

all_of_concatenation_are_all_of_parts : (P : ℕ → Type 0) (xs ys : List ℕ) → AllByRecursion P (xs ++ ys) → AllByRecursion P xs × AllByRecursion P ys
all_of_concatenation_are_all_of_parts P [] ys all = (tt, all)
all_of_concatenation_are_all_of_parts P (x ∷ xs) ys all =
    let more = all_of_concatenation_are_all_of_parts P xs ys all.1 in
    ((all.0, more.0), more.1)

-- Where the new name stands nowhere in a part, and the old one is moved whole, the new one stands in the renamed part where the old one
-- stood.
abbrev pub StandsAgainWhereOldNameStood : (X : Type 0) → (ℕ → Type 0) → (ℕ → ℕ) → (X → X) → (X → List ℕ) → (X → List ℕ) → Type 0
StandsAgainWhereOldNameStood X P at g s t = (x : X) → t x ≡ [] → AllByRecursion P (s x) → t (g x) ≡ map at (s x)

concatenation_of_mapped_lists_is_mapped : (at : ℕ → ℕ) (a b c d : List ℕ) → a ≡ map at c → b ≡ map at d → a ++ b ≡ map at (c ++ d)
concatenation_of_mapped_lists_is_mapped at a b c d e f = ap₂ (λ (x y : List ℕ). x ++ y) e f ∙ sym (map-append at c d)

renamed_lists_have_new_name_again : {X : Type 0} (P : ℕ → Type 0) (at : ℕ → ℕ) (g : X → X) (s t : X → List ℕ) → StandsAgainWhereOldNameStood X P at g s t
    → StandsAgainWhereOldNameStood (List X) P at (map g) (flat_map s) (flat_map t)
renamed_lists_have_new_name_again P at g s t again [] none all = refl
renamed_lists_have_new_name_again P at g s t again (x ∷ xs) none all =
    let no = empty_concatenation_has_empty_parts (t x) (flat_map t xs) none in
    let are = all_of_concatenation_are_all_of_parts P (s x) (flat_map s xs) all in
    concatenation_of_mapped_lists_is_mapped at (t (g x)) (flat_map t (map g xs)) (s x) (flat_map s xs) (again x no.0 are.0) (renamed_lists_have_new_name_again P at g s t again xs no.1 are.1)

-- ---- what a line says

module _ (r : AliasRenaming) where
  -- the alias with its new name
  abbrev back : NamedAlias
  back = renamed_alias r.old r.fresh

  abbrev Here : ℕ → Type 0
  Here = IsMovedWholeAtOffset (length r.old.name) (length r.fresh) r.at

  same_name : bytes_eq r.fresh r.fresh ≡ true
  same_name = (bytes_eq-Decides r.fresh r.fresh).1 refl

  -- whether a name is the old one, and whether it is the new one
  one_atom : (meant is other : Bool) (stop : ℕ) (word : List ℕ) → bytes_eq r.old.name word ≡ is → bytes_eq r.fresh word ≡ other
      → (let none : List ℕ = [] in (if meant && other then (stop - length r.fresh) ∷ [] else []) ≡ none)
      → AllByRecursion Here (if meant && is then (stop - length r.old.name) ∷ [] else [])
      → (if meant && bytes_eq r.fresh (if meant && is then r.fresh else word) then (r.at stop - length r.fresh) ∷ [] else [])
      ≡ map r.at (if meant && is then (stop - length r.old.name) ∷ [] else [])
  one_atom false is other stop word e f none all = refl
  one_atom true true other stop word e f none all =
      ap (λ (t : Bool). if t then (r.at stop - length r.fresh) ∷ [] else []) same_name ∙ ap (λ (n : ℕ). n ∷ []) (all.0 stop refl)
  one_atom true false false stop word e f none all = ap (λ (t : Bool). if t then (r.at stop - length r.fresh) ∷ [] else []) f
  one_atom true false true stop word e f none all = absurd (cc)

  atom_again : (meant : Bool) (stop : ℕ) (a : Atom) → alias_offsets_in_atom back meant stop a ≡ [] → AllByRecursion Here (alias_offsets_in_atom r.old meant stop a)
      → alias_offsets_in_atom back meant (r.at stop) (atom_with_alias_renamed r meant a) ≡ map r.at (alias_offsets_in_atom r.old meant stop a)
  atom_again meant stop (atom.Alias word) none all = one_atom meant (bytes_eq r.old.name word) (bytes_eq r.fresh word) stop word refl refl none all
  atom_again meant stop atom.All none all = refl
  atom_again meant stop (atom.Name n) none all = refl
  atom_again meant stop (atom.Id n) none all = refl
  atom_again meant stop (atom.Group n) none all = refl
  atom_again meant stop (atom.GroupId n) none all = refl
  atom_again meant stop (atom.NonUnix n) none all = refl
  atom_again meant stop (atom.Netgroup n) none all = refl
  atom_again meant stop (atom.Host n) none all = refl
  atom_again meant stop (atom.Address n) none all = refl
  atom_again meant stop (atom.Network n m) none all = refl
  atom_again meant stop atom.Listing none all = refl
  atom_again meant stop (atom.Path p args) none all = refl
  atom_again meant stop (atom.Sudoedit args) none all = refl

  member_again : (k : Kind) → StandsAgainWhereOldNameStood Member Here r.at (member_with_alias_renamed r k) (alias_offsets_in_member r.old k) (alias_offsets_in_member back k)
  member_again k m none all = atom_again (r.old.kinds k) m.stop m.atom none all

  members_again : (k : Kind) → StandsAgainWhereOldNameStood (List Member) Here r.at (members_with_alias_renamed r k) (alias_offsets_in_members r.old k) (alias_offsets_in_members back k)
  members_again k = renamed_lists_have_new_name_again Here r.at (member_with_alias_renamed r k) (alias_offsets_in_member r.old k) (alias_offsets_in_member back k) (member_again k)

  one_def : (meant is other : Bool) (start : ℕ) (name : List ℕ) → bytes_eq r.old.name name ≡ is → bytes_eq r.fresh name ≡ other
      → (let none : List ℕ = [] in (if meant && other then start ∷ [] else []) ≡ none)
      → (if meant && bytes_eq r.fresh (if meant && is then r.fresh else name) then r.at start ∷ [] else [])
      ≡ map r.at (if meant && is then start ∷ [] else [])
  one_def false is other start name e f none = refl
  one_def true true other start name e f none = ap (λ (t : Bool). if t then r.at start ∷ [] else []) same_name
  one_def true false false start name e f none = ap (λ (t : Bool). if t then r.at start ∷ [] else []) f
  one_def true false true start name e f none = absurd (cc)

  def_again : (k : Kind) → StandsAgainWhereOldNameStood Def Here r.at (definition_with_alias_renamed r k) (alias_offsets_in_definition r.old k) (alias_offsets_in_definition back k)
  def_again k d none all =
      let meant = r.old.kinds k in
      let is = bytes_eq r.old.name d.name in
      let other = bytes_eq r.fresh d.name in
      let no = empty_concatenation_has_empty_parts (if meant && other then d.start ∷ [] else []) (alias_offsets_in_members back k d.members) none in
      let are = all_of_concatenation_are_all_of_parts Here (if meant && is then d.start ∷ [] else []) (alias_offsets_in_members r.old k d.members) all in
      concatenation_of_mapped_lists_is_mapped r.at (if meant && bytes_eq r.fresh (if meant && is then r.fresh else d.name) then r.at d.start ∷ [] else [])
      (alias_offsets_in_members back k (members_with_alias_renamed r k d.members)) (if meant && is then d.start ∷ [] else []) (alias_offsets_in_members r.old k d.members)
      (one_def meant is other d.start d.name refl refl no.0) (members_again k d.members no.1 are.1)

  runas_again : StandsAgainWhereOldNameStood RunasSpec Here r.at (runas_with_alias_renamed r) (alias_offsets_in_runas r.old) (alias_offsets_in_runas back)
  runas_again s none all =
      let no = empty_concatenation_has_empty_parts (alias_offsets_in_members back Runas s.users) (alias_offsets_in_members back Runas s.groups) none in
      let are = all_of_concatenation_are_all_of_parts Here (alias_offsets_in_members r.old Runas s.users) (alias_offsets_in_members r.old Runas s.groups) all in
      concatenation_of_mapped_lists_is_mapped r.at (alias_offsets_in_members back Runas (members_with_alias_renamed r Runas s.users)) (alias_offsets_in_members back Runas (members_with_alias_renamed r Runas s.groups))
      (alias_offsets_in_members r.old Runas s.users) (alias_offsets_in_members r.old Runas s.groups) (members_again Runas s.users no.0 are.0)
      (members_again Runas s.groups no.1 are.1)

  runas_option_again : StandsAgainWhereOldNameStood (Option RunasSpec) Here r.at (runas_option_with_alias_renamed r) (alias_offsets_in_runas_option r.old) (alias_offsets_in_runas_option back)
  runas_option_again None none all = refl
  runas_option_again (Some s) none all = runas_again s none all

  command_again : StandsAgainWhereOldNameStood CmdSpec Here r.at (command_with_alias_renamed r) (alias_offsets_in_command r.old) (alias_offsets_in_command back)
  command_again s none all =
      let no = empty_concatenation_has_empty_parts (alias_offsets_in_runas_option back s.runas) (alias_offsets_in_member back Cmnd s.member) none in
      let are = all_of_concatenation_are_all_of_parts Here (alias_offsets_in_runas_option r.old s.runas) (alias_offsets_in_member r.old Cmnd s.member) all in
      concatenation_of_mapped_lists_is_mapped r.at (alias_offsets_in_runas_option back (runas_option_with_alias_renamed r s.runas)) (alias_offsets_in_member back Cmnd (member_with_alias_renamed r Cmnd s.member))
      (alias_offsets_in_runas_option r.old s.runas) (alias_offsets_in_member r.old Cmnd s.member) (runas_option_again s.runas no.0 are.0)
      (member_again Cmnd s.member no.1 are.1)

  group_again : StandsAgainWhereOldNameStood HostGroup Here r.at (host_group_with_alias_renamed r) (alias_offsets_in_host_group r.old) (alias_offsets_in_host_group back)
  group_again g none all =
      let no = empty_concatenation_has_empty_parts (alias_offsets_in_members back Host g.hosts) (flat_map (alias_offsets_in_command back) g.commands) none in
      let are = all_of_concatenation_are_all_of_parts Here (alias_offsets_in_members r.old Host g.hosts) (flat_map (alias_offsets_in_command r.old) g.commands) all in
      concatenation_of_mapped_lists_is_mapped r.at (alias_offsets_in_members back Host (members_with_alias_renamed r Host g.hosts)) (flat_map (alias_offsets_in_command back) (map (command_with_alias_renamed r) g.commands))
      (alias_offsets_in_members r.old Host g.hosts) (flat_map (alias_offsets_in_command r.old) g.commands) (members_again Host g.hosts no.0 are.0)
      (renamed_lists_have_new_name_again Here r.at (command_with_alias_renamed r) (alias_offsets_in_command r.old) (alias_offsets_in_command back) command_again g.commands no.1 are.1)

  scope_again : StandsAgainWhereOldNameStood (Option Scope) Here r.at (scope_with_alias_renamed r) (alias_offsets_in_scope r.old) (alias_offsets_in_scope back)
  scope_again None none all = refl
  scope_again (Some s) none all = members_again s.kind s.members none all

  pub node_again : StandsAgainWhereOldNameStood Node Here r.at (node_with_alias_renamed r) (alias_offsets_in_node r.old) (alias_offsets_in_node back)
  node_again node.Blank none all = refl
  node_again node.Comment none all = refl
  node_again (node.Include dir path) none all = refl
  node_again (node.Defaults scope params) none all = scope_again scope none all
  node_again (node.Alias k defs) none all =
      renamed_lists_have_new_name_again Here r.at (definition_with_alias_renamed r k) (alias_offsets_in_definition r.old k) (alias_offsets_in_definition back k) (def_again k) defs none all
  node_again (node.Spec users groups) none all =
      let no = empty_concatenation_has_empty_parts (alias_offsets_in_members back User users) (flat_map (alias_offsets_in_host_group back) groups) none in
      let are = all_of_concatenation_are_all_of_parts Here (alias_offsets_in_members r.old User users) (flat_map (alias_offsets_in_host_group r.old) groups) all in
      concatenation_of_mapped_lists_is_mapped r.at (alias_offsets_in_members back User (members_with_alias_renamed r User users)) (flat_map (alias_offsets_in_host_group back) (map (host_group_with_alias_renamed r) groups))
      (alias_offsets_in_members r.old User users) (flat_map (alias_offsets_in_host_group r.old) groups) (members_again User users no.0 are.0)
      (renamed_lists_have_new_name_again Here r.at (host_group_with_alias_renamed r) (alias_offsets_in_host_group r.old) (alias_offsets_in_host_group back) group_again groups no.1 are.1)
