-- The aliases of a user are the fewest names that have each alias whose list is his.
use Rattle.std.proofs.Common.{◌≡◌, ◌⊎◌, inl, inr, ℕ, zero, suc, ◌+◌, ◌≤◌, Bool, true, false, not, List, [], ◌∷◌, ◌++◌, length, Option, Some, refl, sym, ap, subst, ◌∙◌, arith}
use Rattle.std.specs.Prelude.{◌&&◌, ◌||◌, if◌then◌else◌}
use Rattle.std.specs.List.{list_any, list_all, AllByRecursion}
use Rattle.std.specs.Str.{bytes_eq}
use Rattle.std.proofs.lemmas.Bool.{and_parts}
use Rattle.std.proofs.lemmas.Slice.Eq.{bytes_eq-Decides}
use Rattle.sudoers_grammar.specs.declared.node.Kind.{Kind}
use Rattle.sudoers_grammar.specs.declared.node.Kind.TheVariants.{User, Runas, Host, Cmnd}
use Rattle.sudoers_grammar.specs.declared.node.Atom.{Atom}
use Rattle.sudoers_grammar.specs.declared.node.Atom.TheVariants as atom
use Rattle.sudoers_grammar.specs.Node.{Def, Member, Node}
use Rattle.sudoers_grammar.specs.Node as node
use Rattle.sudoers_tree.specs.Line.{Line}
use Rattle.sudoers_tree.specs.Definition.{PlacedDefinition, definitions_from_place, definitions_in_line, definitions_from_line_number, is_equal_kind}
use Rattle.sudoers_tree.specs.Policy.{AreValidWalkLines, alias_limit_of_each_kind, definition_count_of_kind}
use Rattle.sudoers_plan.specs.declared.user_members.ListPart.{ListPart}
use Rattle.sudoers_plan.specs.declared.user_members.ListPart.TheVariants.{Any, All}
use Rattle.sudoers_plan.specs.User.{is_name_of_user, is_user_alias_defined, is_atom_of_user, is_member_of_user, is_list_of_user, names_with_definitions_of_user, user_definitions_of_node, user_definitions_of_lines, names_after_rounds, aliases_of_user}
use Rattle.laws_plan.specs.AliasesOfUser.{HaveAliasesOfUser}

-- The definition stands in the list.
abbrev ListHasDefinition : List Def → Def → Type 0
ListHasDefinition [] d = ⊥
ListHasDefinition (e ∷ ds) d = (e ≡ d) ⊎ ListHasDefinition ds d

what_holds_of_each_holds_of_all : (P : Def → Type 0) (ds : List Def) → ((d : Def) → ListHasDefinition ds d → P d) → AllByRecursion P ds
what_holds_of_each_holds_of_all P [] each = tt
what_holds_of_each_holds_of_all P (d ∷ ds) each = (each d (inl refl), what_holds_of_each_holds_of_all P ds (λ e stands. each e (inr stands)))

what_holds_of_all_holds_of_each : (P : Def → Type 0) (ds : List Def) → AllByRecursion P ds → (d : Def) → ListHasDefinition ds d → P d
what_holds_of_all_holds_of_each P [] all d stands = absurd stands
what_holds_of_all_holds_of_each P (e ∷ ds) all d (inl same) = subst P same all.0
what_holds_of_all_holds_of_each P (e ∷ ds) all d (inr behind) = what_holds_of_all_holds_of_each P ds all.1 d behind

-- ---- names

abbrev HasName : List (List ℕ) → List ℕ → Type 0
HasName names name = list_any (bytes_eq name) names ≡ true

-- The second names have each of the first.
abbrev HaveEach : List (List ℕ) → List (List ℕ) → Type 0
HaveEach names others = (name : List ℕ) → HasName names name → HasName others name

some_of_front : (p : List ℕ → Bool) (xs ys : List (List ℕ)) → list_any p xs ≡ true → list_any p (xs ++ ys) ≡ true
some_of_front p [] ys e = absurd (cc)
some_of_front p (x ∷ xs) ys e = by (p x) (λ behind. some_of_front p xs ys behind) e
  where
    by : (b : Bool) → (list_any p xs ≡ true → list_any p (xs ++ ys) ≡ true) → (b || list_any p xs) ≡ true → (b || list_any p (xs ++ ys)) ≡ true
    by true front found = refl
    by false front found = front found

last_name_is_there : (names : List (List ℕ)) (name : List ℕ) → HasName (names ++ name ∷ []) name
last_name_is_there [] name = ap (λ (b : Bool). b || false) ((bytes_eq-Decides name name).1 refl)
last_name_is_there (x ∷ names) name = by (bytes_eq name x) (last_name_is_there names name)
  where
    by : (b : Bool) → HasName (names ++ name ∷ []) name → (b || list_any (bytes_eq name) (names ++ name ∷ [])) ≡ true
    by true behind = refl
    by false behind = behind

name_with_one_more : (names : List (List ℕ)) (last name : List ℕ) → HasName (names ++ last ∷ []) name → HasName names name ⊎ (name ≡ last)
name_with_one_more [] last name e = inr ((bytes_eq-Decides name last).0 (by (bytes_eq name last) e))
  where
    by : (b : Bool) → (b || false) ≡ true → b ≡ true
    by true e = refl
    by false e = e
name_with_one_more (x ∷ names) last name e = by (bytes_eq name x) (λ behind. name_with_one_more names last name behind) e
  where
    by : (b : Bool) → (HasName (names ++ last ∷ []) name → HasName names name ⊎ (name ≡ last)) → (b || list_any (bytes_eq name) (names ++ last ∷ [])) ≡ true → ((b || list_any (bytes_eq name) names) ≡ true) ⊎ (name ≡ last)
    by true behind found = inl refl
    by false behind found = behind found

-- ---- more names, more lists

either_part_is_true : (a b : Bool) → (a || b) ≡ true → (a ≡ true) ⊎ (b ≡ true)
either_part_is_true true b e = inl refl
either_part_is_true false b e = inr e

first_part_is_enough : (a b : Bool) → a ≡ true → (a || b) ≡ true
first_part_is_enough true b e = refl
first_part_is_enough false b e = absurd (cc)

second_part_is_enough : (a b : Bool) → b ≡ true → (a || b) ≡ true
second_part_is_enough true b e = refl
second_part_is_enough false b e = e

both_parts_are_true : (a b : Bool) → a ≡ true → b ≡ true → (a && b) ≡ true
both_parts_are_true true b e f = f
both_parts_are_true false b e f = absurd (cc)

atom_is_his_with_more_names : (user : Option (List ℕ)) (lines : List Line) (names others : List (List ℕ)) → HaveEach names others → (a : Atom) → is_atom_of_user user lines names a ≡ true → is_atom_of_user user lines others a ≡ true
atom_is_his_with_more_names user lines names others each (atom.Alias name) e =
    let own = is_name_of_user user name && not (is_user_alias_defined lines name) in
    elim (either_part_is_true (list_any (bytes_eq name) names) own e) [
      | inl there ↦ first_part_is_enough (list_any (bytes_eq name) others) own (each name there)
      | inr his ↦ second_part_is_enough (list_any (bytes_eq name) others) own his
    ]
atom_is_his_with_more_names user lines names others each a e = e

some_member_passes : (p q : Member → Bool) → ((m : Member) → p m ≡ true → q m ≡ true) → (ms : List Member) → list_any p ms ≡ true → list_any q ms ≡ true
some_member_passes p q more [] e = absurd (cc)
some_member_passes p q more (m ∷ ms) e =
    elim (either_part_is_true (p m) (list_any p ms) e) [
      | inl there ↦ first_part_is_enough (q m) (list_any q ms) (more m there)
      | inr behind ↦ second_part_is_enough (q m) (list_any q ms) (some_member_passes p q more ms behind)
    ]

all_members_pass : (p q : Member → Bool) → ((m : Member) → p m ≡ true → q m ≡ true) → (ms : List Member) → list_all p ms ≡ true → list_all q ms ≡ true
all_members_pass p q more [] e = refl
all_members_pass p q more (m ∷ ms) e =
    let parts = and_parts (p m) (list_all p ms) e in
    both_parts_are_true (q m) (list_all q ms) (more m parts.0) (all_members_pass p q more ms parts.1)

list_is_his_with_more_names : (part : ListPart) (user : List ℕ) (lines : List Line) (names others : List (List ℕ)) → HaveEach names others → (ms : List Member) → is_list_of_user part user lines names ms ≡ true
    → is_list_of_user part user lines others ms ≡ true
list_is_his_with_more_names Any user lines names others each ms e =
    some_member_passes (is_member_of_user (Some user) lines names) (is_member_of_user (Some user) lines others) (λ m. atom_is_his_with_more_names (Some user) lines names others each m.atom) ms e
list_is_his_with_more_names All user lines names others each ms e =
    let more : (m : Member) → is_member_of_user (Some user) lines names m ≡ true → is_member_of_user (Some user) lines others m ≡ true = λ m. atom_is_his_with_more_names (Some user) lines names others each m.atom in
    let parts = and_parts (list_any (is_member_of_user (Some user) lines names) ms) (list_all (is_member_of_user (Some user) lines names) ms) e in
    both_parts_are_true (list_any (is_member_of_user (Some user) lines others) ms) (list_all (is_member_of_user (Some user) lines others) ms)
    (some_member_passes (is_member_of_user (Some user) lines names) (is_member_of_user (Some user) lines others) more ms parts.0)
    (all_members_pass (is_member_of_user (Some user) lines names) (is_member_of_user (Some user) lines others) more ms parts.1)

-- ---- one definition

-- the names after one definition
abbrev names_with_definition : Bool → Bool → List (List ℕ) → List ℕ → List (List ℕ)
names_with_definition there his names name = if there then names else (if his then names ++ name ∷ [] else names)

names_grow_by_definition : (there his : Bool) (names : List (List ℕ)) (name : List ℕ) → HaveEach names (names_with_definition there his names name)
names_grow_by_definition true his names name other has = has
names_grow_by_definition false true names name other has = some_of_front (bytes_eq other) names (name ∷ []) has
names_grow_by_definition false false names name other has = has

names_grow_by_definitions : (part : ListPart) (user : List ℕ) (lines : List Line) (ds : List Def) (names : List (List ℕ)) → HaveEach names (names_with_definitions_of_user part user lines names ds)
names_grow_by_definitions part user lines [] names name has = has
names_grow_by_definitions part user lines (d ∷ ds) names name has =
    let there = list_any (bytes_eq d.name) names in
    let his = is_list_of_user part user lines names d.members in
    names_grow_by_definitions part user lines ds (names_with_definition there his names d.name) name (names_grow_by_definition there his names d.name name has)

-- ---- definitions that are missing

-- how many of the definitions have none of the names
abbrev missing_definition_count : List (List ℕ) → List Def → ℕ
missing_definition_count names [] = 0
missing_definition_count names (d ∷ ds) = if list_any (bytes_eq d.name) names then missing_definition_count names ds else suc (missing_definition_count names ds)

missing_count_is_at_most_length : (names : List (List ℕ)) (ds : List Def) → missing_definition_count names ds ≤ length ds
missing_count_is_at_most_length names [] = omega arith
missing_count_is_at_most_length names (d ∷ ds) = by (list_any (bytes_eq d.name) names) (missing_count_is_at_most_length names ds)
  where
    by : (b : Bool) → missing_definition_count names ds ≤ length ds → (if b then missing_definition_count names ds else suc (missing_definition_count names ds)) ≤ suc (length ds)
    by true behind = omega (arith, behind)
    by false behind = omega (arith, behind)

no_missing_definition_is_there : (names : List (List ℕ)) (ds : List Def) → missing_definition_count names ds ≡ 0 → (d : Def) → ListHasDefinition ds d → HasName names d.name
no_missing_definition_is_there names [] none d stands = absurd stands
no_missing_definition_is_there names (e ∷ ds) none d stands = by (list_any (bytes_eq e.name) names) refl none (λ zero_behind behind. no_missing_definition_is_there names ds zero_behind d behind) stands
  where
    by : (b : Bool) → list_any (bytes_eq e.name) names ≡ b → (if b then missing_definition_count names ds else suc (missing_definition_count names ds)) ≡ 0
        → (missing_definition_count names ds ≡ 0 → ListHasDefinition ds d → HasName names d.name) → (e ≡ d) ⊎ ListHasDefinition ds d → HasName names d.name
    by true is none later (inl same) = subst (λ (f : Def). HasName names f.name) same is
    by true is none later (inr behind) = later none behind
    by false is none later there = absurd (omega (arith, none))

fewer_are_missing : (names others : List (List ℕ)) → HaveEach names others → (ds : List Def) → missing_definition_count others ds ≤ missing_definition_count names ds
fewer_are_missing names others each [] = omega arith
fewer_are_missing names others each (d ∷ ds) = by (list_any (bytes_eq d.name) names) (list_any (bytes_eq d.name) others) refl refl (fewer_are_missing names others each ds)
  where
    by : (a b : Bool) → list_any (bytes_eq d.name) names ≡ a → list_any (bytes_eq d.name) others ≡ b → missing_definition_count others ds ≤ missing_definition_count names ds
        → (if b then missing_definition_count others ds else suc (missing_definition_count others ds)) ≤ (if a then missing_definition_count names ds else suc (missing_definition_count names ds))
    by true true x y behind = behind
    by true false x y behind = absurd (let z = each d.name x in cc)
    by false true x y behind = omega (arith, behind)
    by false false x y behind = omega (arith, behind)

one_fewer_is_missing : (names others : List (List ℕ)) → HaveEach names others → (ds : List Def) (d : Def) → ListHasDefinition ds d → list_any (bytes_eq d.name) names ≡ false → HasName others d.name
    → suc (missing_definition_count others ds) ≤ missing_definition_count names ds
one_fewer_is_missing names others each [] d stands gone there = absurd stands
one_fewer_is_missing names others each (e ∷ ds) d stands gone there =
    by (list_any (bytes_eq e.name) names) (list_any (bytes_eq e.name) others) refl refl (fewer_are_missing names others each ds) (λ behind. one_fewer_is_missing names others each ds d behind gone there) stands
  where
    by : (a b : Bool) → list_any (bytes_eq e.name) names ≡ a → list_any (bytes_eq e.name) others ≡ b → missing_definition_count others ds ≤ missing_definition_count names ds
        → (ListHasDefinition ds d → suc (missing_definition_count others ds) ≤ missing_definition_count names ds) → (e ≡ d) ⊎ ListHasDefinition ds d
        → suc (if b then missing_definition_count others ds else suc (missing_definition_count others ds)) ≤ (if a then missing_definition_count names ds else suc (missing_definition_count names ds))
    by true b x y fewer later (inl same) = absurd (let z = subst (λ (f : Def). list_any (bytes_eq f.name) names ≡ false) (sym same) gone in cc)
    by true true x y fewer later (inr behind) = later behind
    by true false x y fewer later (inr behind) = absurd (let z = each e.name x in cc)
    by false true x y fewer later stands = omega (arith, fewer)
    by false false x y fewer later (inl same) = absurd (let z = subst (λ (f : Def). HasName others f.name) (sym same) there in cc)
    by false false x y fewer later (inr behind) = omega (arith, later behind)

-- ---- one round

-- Nothing was found, and these definitions have nothing to find; or one fewer of all is missing.
abbrev FoundSomeOrNone : ListPart → List ℕ → List Line → List Def → List Def → List (List ℕ) → List (List ℕ) → Type 0
FoundSomeOrNone part user lines all ds names found =
    ((found ≡ names) × ((d : Def) → ListHasDefinition ds d → is_list_of_user part user lines names d.members ≡ true → HasName names d.name))
    ⊎ (suc (missing_definition_count found all) ≤ missing_definition_count names all)

abbrev HasEachDefinition : List Def → List Def → Type 0
HasEachDefinition all ds = (d : Def) → ListHasDefinition ds d → ListHasDefinition all d

round_finds_some_or_none : (part : ListPart) (user : List ℕ) (lines : List Line) (all ds : List Def) (names : List (List ℕ)) → HasEachDefinition all ds
    → FoundSomeOrNone part user lines all ds names (names_with_definitions_of_user part user lines names ds)
round_finds_some_or_none part user lines all [] names each = inl (refl, λ d stands. absurd stands)
round_finds_some_or_none part user lines all (d ∷ ds) names each =
    by (list_any (bytes_eq d.name) names) (is_list_of_user part user lines names d.members) refl refl
    (round_finds_some_or_none part user lines all ds names (λ e stands. each e (inr stands)))
  where
    by : (there his : Bool) → list_any (bytes_eq d.name) names ≡ there → is_list_of_user part user lines names d.members ≡ his
        → FoundSomeOrNone part user lines all ds names (names_with_definitions_of_user part user lines names ds)
        → FoundSomeOrNone part user lines all (d ∷ ds) names (names_with_definitions_of_user part user lines (names_with_definition there his names d.name) ds)
    by true his there_is his_is (inl none) = inl (none.0, λ e stands is. elim stands [ inl same ↦ subst (λ (f : Def). HasName names f.name) same there_is | inr behind ↦ none.1 e behind is ])
    by true his there_is his_is (inr some) = inr some
    by false false there_is his_is (inl none) =
        inl (none.0, λ e stands is. elim stands [ inl same ↦ absurd (let z = subst (λ (f : Def). is_list_of_user part user lines names f.members ≡ false) same his_is in cc) | inr behind ↦ none.1 e behind is ])
    by false false there_is his_is (inr some) = inr some
    by false true there_is his_is behind =
        let more = names ++ d.name ∷ [] in
        let fewer = one_fewer_is_missing names more (λ name. some_of_front (bytes_eq name) names (d.name ∷ [])) all d (each d (inl refl)) there_is (last_name_is_there names d.name) in
        inr (omega (arith, fewer, fewer_are_missing more (names_with_definitions_of_user part user lines more ds) (names_grow_by_definitions part user lines ds more) all))

-- ---- all rounds

rounds_leave_names : (n : ℕ) (part : ListPart) (user : List ℕ) (lines : List Line) (defs : List Def) (names : List (List ℕ)) → names_with_definitions_of_user part user lines names defs ≡ names
    → names_after_rounds n part user lines defs names ≡ names
rounds_leave_names zero part user lines defs names e = refl
rounds_leave_names (suc n) part user lines defs names e =
    ap (λ (next : List (List ℕ)). names_after_rounds n part user lines defs next) e ∙ rounds_leave_names n part user lines defs names e

abbrev HaveEachAliasOf : ListPart → List ℕ → List Line → List Def → List (List ℕ) → Type 0
HaveEachAliasOf part user lines defs names = (d : Def) → ListHasDefinition defs d → is_list_of_user part user lines names d.members ≡ true → HasName names d.name

rounds_find_all : (n : ℕ) (part : ListPart) (user : List ℕ) (lines : List Line) (defs : List Def) (names : List (List ℕ))
    → HaveEachAliasOf part user lines defs (names_after_rounds n part user lines defs names)
    ⊎ (missing_definition_count (names_after_rounds n part user lines defs names) defs + n ≤ missing_definition_count names defs)
rounds_find_all zero part user lines defs names = inr (omega arith)
rounds_find_all (suc n) part user lines defs names =
    let next = names_with_definitions_of_user part user lines names defs in
    elim (round_finds_some_or_none part user lines defs defs names (λ d stands. stands)) [
      | inl none ↦
          let stays : names_after_rounds n part user lines defs next ≡ names = ap (λ (m : List (List ℕ)). names_after_rounds n part user lines defs m) none.0 ∙ rounds_leave_names n part user lines defs names none.0 in
          inl (subst (HaveEachAliasOf part user lines defs) (sym stays) none.1)
      | inr some ↦ elim (rounds_find_all n part user lines defs next) [
        | inl all ↦ inl all
        | inr fewer ↦ inr (omega (arith, some, fewer))
      ]
    ]

-- ---- at most as many definitions as rounds

count_of_both_lists : (k : Kind) (ds es : List PlacedDefinition) → definition_count_of_kind k (ds ++ es) ≡ definition_count_of_kind k ds + definition_count_of_kind k es
count_of_both_lists k [] es = omega arith
count_of_both_lists k (d ∷ ds) es = by (is_equal_kind k d.kind) (count_of_both_lists k ds es)
  where
    by : (b : Bool) → definition_count_of_kind k (ds ++ es) ≡ definition_count_of_kind k ds + definition_count_of_kind k es
        → (if b then 1 + definition_count_of_kind k (ds ++ es) else definition_count_of_kind k (ds ++ es)) ≡ (if b then 1 + definition_count_of_kind k ds else definition_count_of_kind k ds) + definition_count_of_kind k es
    by true behind = omega (arith, behind)
    by false behind = behind

user_definitions_are_counted : (ds : List Def) (line n : ℕ) → definition_count_of_kind User (definitions_from_place User line n ds) ≡ length ds
user_definitions_are_counted [] line n = refl
user_definitions_are_counted (d ∷ ds) line n = omega (arith, user_definitions_are_counted ds line (n + 1))

other_definitions_are_not_counted : (k : Kind) → is_equal_kind User k ≡ false → (ds : List Def) (line n : ℕ) → definition_count_of_kind User (definitions_from_place k line n ds) ≡ 0
other_definitions_are_not_counted k e [] line n = refl
other_definitions_are_not_counted k e (d ∷ ds) line n =
    ap (λ (b : Bool). if b then 1 + definition_count_of_kind User (definitions_from_place k line (n + 1) ds) else definition_count_of_kind User (definitions_from_place k line (n + 1) ds)) e
    ∙ other_definitions_are_not_counted k e ds line (n + 1)

definitions_of_node_are_counted : (says : Node) (line : ℕ) → definition_count_of_kind User (definitions_in_line line says) ≡ length (user_definitions_of_node says)
definitions_of_node_are_counted (node.Alias User defs) line = user_definitions_are_counted defs line 0
definitions_of_node_are_counted (node.Alias Runas defs) line = other_definitions_are_not_counted Runas refl defs line 0
definitions_of_node_are_counted (node.Alias Host defs) line = other_definitions_are_not_counted Host refl defs line 0
definitions_of_node_are_counted (node.Alias Cmnd defs) line = other_definitions_are_not_counted Cmnd refl defs line 0
definitions_of_node_are_counted node.Blank line = refl
definitions_of_node_are_counted node.Comment line = refl
definitions_of_node_are_counted (node.Include dir path) line = refl
definitions_of_node_are_counted (node.Defaults scope params) line = refl
definitions_of_node_are_counted (node.Spec users groups) line = refl

length_of_both_lists : (ds es : List Def) → length (ds ++ es) ≡ length ds + length es
length_of_both_lists [] es = omega arith
length_of_both_lists (d ∷ ds) es = omega (arith, length_of_both_lists ds es)

definitions_of_lines_are_counted : (lines : List Line) (n : ℕ) → definition_count_of_kind User (definitions_from_line_number n lines) ≡ length (user_definitions_of_lines lines)
definitions_of_lines_are_counted [] n = refl
definitions_of_lines_are_counted (line ∷ lines) n =
    count_of_both_lists User (definitions_in_line n line.node) (definitions_from_line_number (n + 1) lines)
    ∙ ap (λ (m : ℕ). m + definition_count_of_kind User (definitions_from_line_number (n + 1) lines)) (definitions_of_node_are_counted line.node n)
    ∙ ap (λ (m : ℕ). length (user_definitions_of_node line.node) + m) (definitions_of_lines_are_counted lines (n + 1))
    ∙ sym (length_of_both_lists (user_definitions_of_node line.node) (user_definitions_of_lines lines))

pub aliases_of_user_have_each : (part : ListPart) (user : List ℕ) (lines : List Line) → AreValidWalkLines lines → HaveAliasesOfUser part user lines (aliases_of_user part user lines)
unfolding aliases_of_user
aliases_of_user_have_each part user lines walk =
    let defs = user_definitions_of_lines lines in
    let found = names_after_rounds alias_limit_of_each_kind part user lines defs [] in
    let few : length defs ≤ alias_limit_of_each_kind = subst (λ (n : ℕ). n ≤ alias_limit_of_each_kind) (definitions_of_lines_are_counted lines 0) (walk.few User) in
    let each : HaveEachAliasOf part user lines defs found = elim (rounds_find_all alias_limit_of_each_kind part user lines defs []) [
      | inl all ↦ all
      | inr fewer ↦ λ d stands is. no_missing_definition_is_there found defs (omega (arith, fewer, few, missing_count_is_at_most_length [] defs)) d stands
    ] in
    what_holds_of_each_holds_of_all (λ (d : Def). is_list_of_user part user lines found d.members ≡ true → list_any (bytes_eq d.name) found ≡ true) defs each

-- ---- the fewest

names_with_definition_are_in_other_names : (there his : Bool) (names others : List (List ℕ)) (name : List ℕ) → HaveEach names others → (his ≡ true → HasName others name) → HaveEach (names_with_definition there his names name) others
names_with_definition_are_in_other_names true his names others name each found = each
names_with_definition_are_in_other_names false false names others name each found = each
names_with_definition_are_in_other_names false true names others name each found = λ other has.
    elim (name_with_one_more names name other has) [
      | inl before ↦ each other before
      | inr same ↦ subst (HasName others) (sym same) (found refl)
    ]

round_is_in_other_names : (part : ListPart) (user : List ℕ) (lines : List Line) (all ds : List Def) (names others : List (List ℕ)) → HasEachDefinition all ds → HaveEachAliasOf part user lines all others → HaveEach names others
    → HaveEach (names_with_definitions_of_user part user lines names ds) others
round_is_in_other_names part user lines all [] names others stand all_are each = each
round_is_in_other_names part user lines all (d ∷ ds) names others stand all_are each =
    let there = list_any (bytes_eq d.name) names in
    let his = is_list_of_user part user lines names d.members in
    round_is_in_other_names part user lines all ds (names_with_definition there his names d.name) others (λ e stands. stand e (inr stands)) all_are
    (names_with_definition_are_in_other_names there his names others d.name each
    (λ is. all_are d (stand d (inl refl)) (list_is_his_with_more_names part user lines names others each d.members is)))

rounds_are_in_other_names : (n : ℕ) (part : ListPart) (user : List ℕ) (lines : List Line) (defs : List Def) (names others : List (List ℕ)) → HaveEachAliasOf part user lines defs others → HaveEach names others
    → HaveEach (names_after_rounds n part user lines defs names) others
rounds_are_in_other_names zero part user lines defs names others all_are each = each
rounds_are_in_other_names (suc n) part user lines defs names others all_are each =
    rounds_are_in_other_names n part user lines defs (names_with_definitions_of_user part user lines names defs) others all_are
    (round_is_in_other_names part user lines defs defs names others (λ d stands. stands) all_are each)

pub aliases_of_user_are_in_other_names : (part : ListPart) (user : List ℕ) (lines : List Line) (names : List (List ℕ)) → HaveAliasesOfUser part user lines names
    → (name : List ℕ) → list_any (bytes_eq name) (aliases_of_user part user lines) ≡ true → list_any (bytes_eq name) names ≡ true
unfolding aliases_of_user
aliases_of_user_are_in_other_names part user lines names all =
    let defs = user_definitions_of_lines lines in
    rounds_are_in_other_names alias_limit_of_each_kind part user lines defs [] names
    (what_holds_of_all_holds_of_each (λ (d : Def). is_list_of_user part user lines names d.members ≡ true → list_any (bytes_eq d.name) names ≡ true) defs all)
    (λ name has. absurd (let z : false ≡ true = has in cc))
