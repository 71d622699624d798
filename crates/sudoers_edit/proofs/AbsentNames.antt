-- A name that is absent from a line stands nowhere in it.
use Rattle.sudoers_edit.proofs.Common.{AliasMember, AllByRecursion, Bool, Def, Kind, Line, LineChange, LineRow, List, ListedMember, Member, Node, Some, [], add-one, alias_member_of_atom, aliases_among_listed}
use Rattle.sudoers_edit.proofs.Common.{aliases_in_node, ap, append-nil, append_assoc, ap₂, arith, drop, drop-cons, false, flat_map, flat_map-append, get_or, if◌then◌else◌, is_equal_kind, length, line_of_row}
use Rattle.sudoers_edit.proofs.Common.{members_of_kind_among_listed, listed_members_of_node, map, map-append, members_listed_as_kind, members_of_kind_in_line, mention_offsets_in_members, name_offset_if_alias_member_matches}
use Rattle.sudoers_edit.proofs.Common.{name_offsets_in_definition, name_offsets_in_line, option_map, refl, rename_change_in_line, rename_changes_in_file, slice_get-get_or, slice_get-map, subst, suc, sym, ℕ, ◌&&◌}
use Rattle.sudoers_edit.proofs.Common.{◌++◌, ◌+◌, ◌-◌, ◌<◌, ◌∙◌, ◌∷◌, ◌≡◌}
use Rattle.std.proofs.Common.{bytes_eq, slice_get}
use Rattle.sudoers_grammar.specs.Node as node
use Rattle.sudoers_line_rows.specs.declared.rows.Tables.{Tables}
use Rattle.sudoers_tree.specs.Standing.{IsAliasNameAbsent}
use Rattle.sudoers_edit.proofs.StartLemmas.{kind_mentions_are_offsets_of_listed_aliases, offsets_of_listed_members_are_mentions}

abbrev IsNameAmongNone : List ℕ → List (List ℕ) → Type 0
IsNameAmongNone name others = AllByRecursion (λ (other : List ℕ). bytes_eq name other ≡ false) others

abbrev names_of_alias_members : List AliasMember → List (List ℕ)
names_of_alias_members aliases = map (λ (a : AliasMember). a.name) aliases

absence_from_joined_implies_first_list : (name : List ℕ) (xs ys : List (List ℕ)) → IsNameAmongNone name (xs ++ ys) → IsNameAmongNone name xs
absence_from_joined_implies_first_list name [] ys none = tt
absence_from_joined_implies_first_list name (x ∷ xs) ys none = (none.0, absence_from_joined_implies_first_list name xs ys none.1)

absence_from_joined_implies_second_list : (name : List ℕ) (xs ys : List (List ℕ)) → IsNameAmongNone name (xs ++ ys) → IsNameAmongNone name ys
absence_from_joined_implies_second_list name [] ys none = none
absence_from_joined_implies_second_list name (x ∷ xs) ys none = absence_from_joined_implies_second_list name xs ys none.1

-- ---- members

absent_name_has_no_offset_in_aliases : (k : Kind) (name : List ℕ) (aliases : List AliasMember) → IsNameAmongNone name (names_of_alias_members aliases) → flat_map (name_offset_if_alias_member_matches k name) aliases ≡ []
absent_name_has_no_offset_in_aliases k name [] none = refl
absent_name_has_no_offset_in_aliases k name (a ∷ aliases) none =
    ap₂ (λ (x y : List ℕ). x ++ y) (by (is_equal_kind k a.kind) (bytes_eq name a.name) none.0) (absent_name_has_no_offset_in_aliases k name aliases none.1)
  where
    by : (same is : Bool) → is ≡ false → (if same && is then (a.stop - length name) ∷ [] else []) ≡ []
    by same is e = rw e (grind arith)

absent_name_has_no_offset_in_members : (j : Kind) (name : List ℕ) (members : List Member) → IsNameAmongNone name (names_of_alias_members (aliases_among_listed (members_listed_as_kind j members)))
    → mention_offsets_in_members name members ≡ []
absent_name_has_no_offset_in_members j name members none = sym (offsets_of_listed_members_are_mentions j name members) ∙ absent_name_has_no_offset_in_aliases j name (aliases_among_listed (members_listed_as_kind j members)) none

-- ---- definitions

abbrev members_listed_in_definitions : Kind → List Def → List ListedMember
members_listed_in_definitions j defs = flat_map (λ (d : Def). members_listed_as_kind j d.members) defs

absent_name_has_no_offset_in_definitions : (j : Kind) (name : List ℕ) (defs : List Def) → IsNameAmongNone name (map (λ (d : Def). d.name) defs)
    → IsNameAmongNone name (names_of_alias_members (aliases_among_listed (members_listed_in_definitions j defs))) → flat_map (name_offsets_in_definition name) defs ≡ []
absent_name_has_no_offset_in_definitions j name [] named none = refl
absent_name_has_no_offset_in_definitions j name (d ∷ defs) named none =
    let here : List (List ℕ) = names_of_alias_members (aliases_among_listed (members_listed_as_kind j d.members)) in
    let later : List (List ℕ) = names_of_alias_members (aliases_among_listed (members_listed_in_definitions j defs)) in
    let split : IsNameAmongNone name (here ++ later) =
    subst (IsNameAmongNone name)
    (ap names_of_alias_members (flat_map-append (λ (l : ListedMember). alias_member_of_atom l.0 l.1 l.1.atom) (members_listed_as_kind j d.members) (members_listed_in_definitions j defs))
    ∙ map-append (λ (a : AliasMember). a.name) (aliases_among_listed (members_listed_as_kind j d.members)) (aliases_among_listed (members_listed_in_definitions j defs)))
    none in
    ap₂ (λ (x y : List ℕ). x ++ y)
    (ap₂ (λ (x y : List ℕ). x ++ y) (by (bytes_eq name d.name) named.0) (absent_name_has_no_offset_in_members j name d.members (absence_from_joined_implies_first_list name here later split)))
    (absent_name_has_no_offset_in_definitions j name defs named.1 (absence_from_joined_implies_second_list name here later split))
  where
    by : (is : Bool) → is ≡ false → (if is then d.start ∷ [] else []) ≡ []
    by is e = rw e refl

-- ---- lines

abbrev pub MembersOfLineAreListed : Type 0
MembersOfLineAreListed = (k : Kind) (says : Node) → members_of_kind_in_line k says ≡ members_of_kind_among_listed k (listed_members_of_node says)

pub absent_name_has_no_offset_in_line : MembersOfLineAreListed → (k : Kind) (name : List ℕ) (says : Node) → IsAliasNameAbsent name says → name_offsets_in_line k name says ≡ []
absent_name_has_no_offset_in_line law k name (node.Alias j defs) absent =
    let named : List (List ℕ) = map (λ (d : Def). d.name) defs in
    let members : List (List ℕ) = names_of_alias_members (aliases_among_listed (members_listed_in_definitions j defs)) in
    by (is_equal_kind k j) (absent_name_has_no_offset_in_definitions j name defs (absence_from_joined_implies_first_list name named members absent) (absence_from_joined_implies_second_list name named members absent))
  where
    by : (b : Bool) → flat_map (name_offsets_in_definition name) defs ≡ [] → (if b then flat_map (name_offsets_in_definition name) defs else []) ≡ []
    by b none = rw none (grind arith)
absent_name_has_no_offset_in_line law k name (node.Spec users groups) absent =
    let says : Node = node.Spec users groups in
    ap (mention_offsets_in_members name) (law k says) ∙ kind_mentions_are_offsets_of_listed_aliases k name (listed_members_of_node says) ∙ absent_name_has_no_offset_in_aliases k name (aliases_in_node says) absent
absent_name_has_no_offset_in_line law k name (node.Defaults scope params) absent =
    let says : Node = node.Defaults scope params in
    ap (mention_offsets_in_members name) (law k says) ∙ kind_mentions_are_offsets_of_listed_aliases k name (listed_members_of_node says) ∙ absent_name_has_no_offset_in_aliases k name (aliases_in_node says) absent
absent_name_has_no_offset_in_line law k name node.Blank absent = refl
absent_name_has_no_offset_in_line law k name node.Comment absent = refl
absent_name_has_no_offset_in_line law k name (node.Include dir path) absent = refl

-- ---- lines one after another

-- the line that the row with the number n holds
abbrev line_of_numbered_row : Tables → List LineRow → ℕ → LineRow → Line
line_of_numbered_row t rows n none = line_of_row t (get_or rows n none)

-- The change of one more line is added.
pub rename_change_of_next_line_is_added : (f n : ℕ) (k : Kind) (name fresh : List ℕ) (t : Tables) (rows : List LineRow) (none : LineRow) (before after all : List LineChange)
    → n < length rows → after ≡ before ++ rename_change_in_line f n (length name) fresh (name_offsets_in_line k name (line_of_numbered_row t rows n none).node) (line_of_numbered_row t rows n none).text
    → before ++ rename_changes_in_file f n k name fresh (map (line_of_row t) (drop n rows)) ≡ all
    → after ++ rename_changes_in_file f (n + 1) k name fresh (map (line_of_row t) (drop (n + 1) rows)) ≡ all
rename_change_of_next_line_is_added f n k name fresh t rows none before after all within adds so_far =
    let here : List LineChange = rename_change_in_line f n (length name) fresh (name_offsets_in_line k name (line_of_numbered_row t rows n none).node) (line_of_numbered_row t rows n none).text in
    let rest : List LineChange = rename_changes_in_file f (n + 1) k name fresh (map (line_of_row t) (drop (suc n) rows)) in
    ap (λ (i : ℕ). after ++ rename_changes_in_file f (n + 1) k name fresh (map (line_of_row t) (drop i rows))) (add-one n)
    ∙ ap (λ (changes : List LineChange). changes ++ rest) adds
    ∙ append_assoc before here rest
    ∙ sym (ap (λ (ls : List LineRow). before ++ rename_changes_in_file f n k name fresh (map (line_of_row t) ls)) (drop-cons rows n none within))
    ∙ so_far

-- A line from which the name is absent is passed over.
pub line_without_name_adds_no_rename_change : MembersOfLineAreListed → (f n : ℕ) (k : Kind) (name fresh : List ℕ) (t : Tables) (rows : List LineRow) (none : LineRow) (lines : List Line)
    (before : List LineChange) → n < length rows → map (line_of_row t) rows ≡ lines
    → ((says : Line) → slice_get lines n ≡ Some says → IsAliasNameAbsent name says.node)
    → before ≡ before ++ rename_change_in_line f n (length name) fresh (name_offsets_in_line k name (line_of_numbered_row t rows n none).node) (line_of_numbered_row t rows n none).text
line_without_name_adds_no_rename_change law f n k name fresh t rows none lines before within held absent =
    let line : Line = line_of_numbered_row t rows n none in
    let there : slice_get lines n ≡ Some line =
    ap (λ (ls : List Line). slice_get ls n) (sym held)
    ∙ slice_get-map (line_of_row t) rows n
    ∙ ap (option_map (line_of_row t)) (slice_get-get_or rows n none within) in
    sym (append-nil before)
    ∙ ap (λ (starts : List ℕ). before ++ rename_change_in_line f n (length name) fresh starts line.text)
    (sym (absent_name_has_no_offset_in_line law k name line.node (absent line there)))
