-- The bits of names one after another, and of the names of aliases in a line.
use Rattle.sudoers_tree.proofs.Common.{AliasMember, CmdSpec, Cmnd, Def, Host, HostGroup, Kind, List, ListedMember, Member, None, Option, Runas, RunasSpec, Scope, Some, Tables, User, [], add-one, alias_member_of_atom}
use Rattle.sudoers_tree.proofs.Common.{alias_names_in_atom, alias_names_in_command, alias_names_in_host_group, alias_names_in_members, alias_names_in_runas, alias_names_in_scope, aliases_among_listed, ap, ap₂, command_in_tables}
use Rattle.sudoers_tree.proofs.Common.{bits_of_name, bits_with_names_added, drop, drop-cons, get_or, length, listed_members_of_command, listed_members_of_host_group, listed_members_of_runas, listed_members_of_scope}
use Rattle.sudoers_tree.proofs.Common.{map, map-append, members_listed_as_kind, refl, suc, sym, ℕ, ◌++◌, ◌+◌, ◌<◌, ◌∙◌, ◌∷◌, ◌≡◌}
use Rattle.std.proofs.lemmas.Grind.{flat_map-append}
use Rattle.std.proofs.lemmas.List.{append-nil}
use Rattle.std.specs.Int.Bits.{bit_or}
use Rattle.std.specs.List.{flat_map}
use Rattle.sudoers_line_rows.specs.declared.rows.CommandRow.{CommandRow}
use Rattle.sudoers_grammar.specs.declared.node.Atom.{Atom}
use Rattle.sudoers_grammar.specs.declared.node.Atom.TheVariants as atom

pub bits_of_appended_names_are_added_in_turn : (bits : ℕ) (xs ys : List (List ℕ)) → bits_with_names_added bits (xs ++ ys) ≡ bits_with_names_added (bits_with_names_added bits xs) ys
bits_of_appended_names_are_added_in_turn bits [] ys = refl
bits_of_appended_names_are_added_in_turn bits (x ∷ xs) ys = bits_of_appended_names_are_added_in_turn (bit_or bits (bits_of_name x)) xs ys

-- A loop over rows, which adds the bits of the names of one row.
pub bits_go_on_after_row : {Row X : Type 0} (f : X → List (List ℕ)) (view : Row → X) (rows : List Row) (i : ℕ) (d : Row) (x : X) (before after start : ℕ)
    → i < length rows → x ≡ view (get_or rows i d) → after ≡ bits_with_names_added before (f x)
    → bits_with_names_added before (flat_map f (map view (drop i rows))) ≡ start → bits_with_names_added after (flat_map f (map view (drop (i + 1) rows))) ≡ start
bits_go_on_after_row {Row = Row} {X = X} f view rows i d x before after start within is adds so_far =
    let rest : List (List ℕ) = flat_map f (map view (drop (suc i) rows)) in
    rw add-one
    (ap (λ (m : ℕ). bits_with_names_added m rest) (adds ∙ ap (λ (y : X). bits_with_names_added before (f y)) is)
    ∙ sym (bits_of_appended_names_are_added_in_turn before (f (view (get_or rows i d))) rest)
    ∙ sym (ap (λ (ls : List Row). bits_with_names_added before (flat_map f (map view ls))) (drop-cons rows i d within))
    ∙ so_far)

-- The bits of those as whom a command runs are added first, and then those of the command.
pub bits_go_on_after_command : (t : Tables) (rows : List CommandRow) (i : ℕ) (d : CommandRow) (before middle after start : ℕ) → i < length rows
    → middle ≡ bits_with_names_added before (alias_names_in_runas (command_in_tables t (get_or rows i d)).runas)
    → after ≡ bits_with_names_added middle (alias_names_in_atom (command_in_tables t (get_or rows i d)).member.atom)
    → bits_with_names_added before (flat_map alias_names_in_command (map (command_in_tables t) (drop i rows))) ≡ start
    → bits_with_names_added after (flat_map alias_names_in_command (map (command_in_tables t) (drop (i + 1) rows))) ≡ start
bits_go_on_after_command t rows i d before middle after start within first then so_far =
    let command = command_in_tables t (get_or rows i d) in
    bits_go_on_after_row alias_names_in_command (command_in_tables t) rows i d command before after start within refl
    (then ∙ ap (λ (m : ℕ). bits_with_names_added m (alias_names_in_atom command.member.atom)) first
    ∙ sym (bits_of_appended_names_are_added_in_turn before (alias_names_in_runas command.runas) (alias_names_in_atom command.member.atom)))
    so_far

-- ---- the names of the aliases among members of lists

abbrev pub alias_names_among_listed_members : List ListedMember → List (List ℕ)
alias_names_among_listed_members ls = map (λ (a : AliasMember). a.name) (aliases_among_listed ls)

alias_names_of_appended_members_are_appended : (xs ys : List ListedMember) {ms ns : List (List ℕ)} → alias_names_among_listed_members xs ≡ ms → alias_names_among_listed_members ys ≡ ns → alias_names_among_listed_members (xs ++ ys) ≡ ms ++ ns
alias_names_of_appended_members_are_appended xs ys a b =
    ap (map (λ (a : AliasMember). a.name)) (flat_map-append (λ (l : ListedMember). alias_member_of_atom l.0 l.1 l.1.atom) xs ys)
    ∙ map-append (λ (a : AliasMember). a.name) (aliases_among_listed xs) (aliases_among_listed ys)
    ∙ ap₂ (λ (x y : List (List ℕ)). x ++ y) a b

alias_names_of_flat_map_are_flat_map : {X : Type 0} (f : X → List ListedMember) (g : X → List (List ℕ)) → ((x : X) → alias_names_among_listed_members (f x) ≡ g x) → (xs : List X)
    → alias_names_among_listed_members (flat_map f xs) ≡ flat_map g xs
alias_names_of_flat_map_are_flat_map f g one [] = refl
alias_names_of_flat_map_are_flat_map f g one (x ∷ xs) = alias_names_of_appended_members_are_appended (f x) (flat_map f xs) (one x) (alias_names_of_flat_map_are_flat_map f g one xs)

alias_name_of_member_is_that_of_atom : (k : Kind) (m : Member) (a : Atom) → map (λ (a : AliasMember). a.name) (alias_member_of_atom k m a) ≡ alias_names_in_atom a
alias_name_of_member_is_that_of_atom k m (atom.Alias name) = refl
alias_name_of_member_is_that_of_atom k m a = refl

alias_names_of_first_member_and_rest : (k : Kind) (m : Member) (ls : List ListedMember) {ns : List (List ℕ)} → alias_names_among_listed_members ls ≡ ns → alias_names_among_listed_members ((k, m) ∷ ls) ≡ alias_names_in_atom m.atom ++ ns
alias_names_of_first_member_and_rest k m ls is =
    map-append (λ (a : AliasMember). a.name) (alias_member_of_atom k m m.atom) (aliases_among_listed ls)
    ∙ ap₂ (λ (x y : List (List ℕ)). x ++ y) (alias_name_of_member_is_that_of_atom k m m.atom) is

alias_names_of_members_listed_as_kind : (k : Kind) (ms : List Member) → alias_names_among_listed_members (members_listed_as_kind k ms) ≡ alias_names_in_members ms
alias_names_of_members_listed_as_kind k [] = refl
alias_names_of_members_listed_as_kind k (m ∷ ms) = alias_names_of_first_member_and_rest k m (members_listed_as_kind k ms) (alias_names_of_members_listed_as_kind k ms)

alias_names_of_single_member : (k : Kind) (m : Member) → alias_names_among_listed_members ((k, m) ∷ []) ≡ alias_names_in_atom m.atom
alias_names_of_single_member k m = alias_names_of_first_member_and_rest k m [] refl ∙ append-nil (alias_names_in_atom m.atom)

alias_names_of_runas_members : (r : Option RunasSpec) → alias_names_among_listed_members (listed_members_of_runas r) ≡ alias_names_in_runas r
alias_names_of_runas_members None = refl
alias_names_of_runas_members (Some r) = alias_names_of_appended_members_are_appended (members_listed_as_kind Runas r.users) (members_listed_as_kind Runas r.groups) (alias_names_of_members_listed_as_kind Runas r.users) (alias_names_of_members_listed_as_kind Runas r.groups)

alias_names_of_command_members : (c : CmdSpec) → alias_names_among_listed_members (listed_members_of_command c) ≡ alias_names_in_command c
alias_names_of_command_members c = alias_names_of_appended_members_are_appended (listed_members_of_runas c.runas) ((Cmnd, c.member) ∷ []) (alias_names_of_runas_members c.runas) (alias_names_of_single_member Cmnd c.member)

alias_names_of_host_group_members : (g : HostGroup) → alias_names_among_listed_members (listed_members_of_host_group g) ≡ alias_names_in_host_group g
alias_names_of_host_group_members g =
    alias_names_of_appended_members_are_appended (members_listed_as_kind Host g.hosts) (flat_map listed_members_of_command g.commands) (alias_names_of_members_listed_as_kind Host g.hosts) (alias_names_of_flat_map_are_flat_map listed_members_of_command alias_names_in_command alias_names_of_command_members g.commands)

-- ---- those of a line, by what it says

pub alias_names_of_scope_members : (s : Option Scope) → alias_names_among_listed_members (listed_members_of_scope s) ≡ alias_names_in_scope s
alias_names_of_scope_members None = refl
alias_names_of_scope_members (Some s) = alias_names_of_members_listed_as_kind s.kind s.members

pub alias_names_of_definition_members : (k : Kind) (defs : List Def)
    → alias_names_among_listed_members (flat_map (λ (d : Def). members_listed_as_kind k d.members) defs) ≡ flat_map (λ (d : Def). alias_names_in_members d.members) defs
alias_names_of_definition_members k defs = alias_names_of_flat_map_are_flat_map (λ (d : Def). members_listed_as_kind k d.members) (λ (d : Def). alias_names_in_members d.members) (λ d. alias_names_of_members_listed_as_kind k d.members) defs

pub alias_names_of_user_spec_members : (users : List Member) (groups : List HostGroup)
    → alias_names_among_listed_members (members_listed_as_kind User users ++ flat_map listed_members_of_host_group groups) ≡ alias_names_in_members users ++ flat_map alias_names_in_host_group groups
alias_names_of_user_spec_members users groups =
    alias_names_of_appended_members_are_appended (members_listed_as_kind User users) (flat_map listed_members_of_host_group groups) (alias_names_of_members_listed_as_kind User users) (alias_names_of_flat_map_are_flat_map listed_members_of_host_group alias_names_in_host_group alias_names_of_host_group_members groups)
