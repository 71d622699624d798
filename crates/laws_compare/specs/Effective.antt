-- The effect of a policy, and what it grants a user on a host, computed.
use Rattle.std.specs.Prelude.{◌&&◌, Bool, true, false, List, [], ◌∷◌, if◌then◌else◌}
use Rattle.std.specs.List.{list_any}
use Rattle.sudoers_grammar.specs.declared.node.Atom.{Atom}
use Rattle.sudoers_tree.specs.Line.{Line}
use Rattle.sudoers_match_member.specs.declared.people_and_commands.Who.{Who}
use Rattle.sudoers_match_member.specs.Hits.{is_user_atom_match, is_host_atom_match}
use Rattle.sudoers_match_list.specs.declared.verdict.Verdict.{Verdict}
use Rattle.sudoers_match_list.specs.declared.verdict.Verdict.TheVariants.{Allow, Deny, Unsaid}
use Rattle.sudoers_match_list.specs.Flat.{SignedAtom, last_hit_of_list, verdict_of_hit}
use Rattle.laws_compare.specs.Content.{Grant, FlatPrivilegeRow, PolicyContent}
use Rattle.laws_compare.specs.Computed.{content_of_lines}
use Rattle.laws_compare.specs.Decided.{is_covering_grant, is_covering_row}

-- the list without each item that one behind it covers
abbrev pub list_without_covered_items : {X : Type 0} → (X → X → Bool) → List X → List X
list_without_covered_items covers [] = []
list_without_covered_items covers (x ∷ xs) =
    if list_any (λ y. covers y x) xs then list_without_covered_items covers xs else x ∷ list_without_covered_items covers xs

-- the content without the rows that a later one covers
abbrev pub effect_of_lines : List Line → PolicyContent
effect_of_lines lines = record {
  rows = list_without_covered_items is_covering_row (content_of_lines lines).rows;
  runas_defaults = (content_of_lines lines).runas_defaults;
}

abbrev pub is_allow_verdict : Verdict → Bool
is_allow_verdict Allow = true
is_allow_verdict Deny = false
is_allow_verdict Unsaid = false

-- the flat list allows
abbrev pub is_allowed_by_flat_list : (Atom → Bool) → List SignedAtom → Bool
is_allowed_by_flat_list test fs = is_allow_verdict (verdict_of_hit (last_hit_of_list test fs))

abbrev pub is_flat_row_for_user_on_host : Who → FlatPrivilegeRow → Bool
is_flat_row_for_user_on_host who row =
    is_allowed_by_flat_list (is_user_atom_match who.user) row.users && is_allowed_by_flat_list (is_host_atom_match who) row.hosts

-- what the rows for the user and the host say
abbrev pub grants_of_rows_for_user_on_host : Who → List FlatPrivilegeRow → List Grant
grants_of_rows_for_user_on_host who [] = []
grants_of_rows_for_user_on_host who (row ∷ rows) =
    if is_flat_row_for_user_on_host who row
    then row.grant ∷ grants_of_rows_for_user_on_host who rows
    else grants_of_rows_for_user_on_host who rows

-- of these, those that no later one covers
abbrev pub grants_for_user_on_host : List Line → Who → List Grant
grants_for_user_on_host lines who = list_without_covered_items is_covering_grant (grants_of_rows_for_user_on_host who (content_of_lines lines).rows)
