-- Rows of passwd and of group (passwd(5), group(5)).
use Rattle.std.specs.Prelude.{ℕ, ◌==◌, ◌||◌, ◌&&◌, not, Bool, true, List, [], ◌∷◌, ◌++◌, Option, Some, None, is_none, if◌then◌else◌}
use Rattle.std.specs.List.{filter, filter_map, list_any, slice_split}
use Rattle.sudoers_grammar.specs.Number.{is_nonempty_digit_string, number_if_within_limit, id_limit}
use Rattle.sudoers_list_people.specs.declared.account_and_group_row_types.PasswdAccount.{PasswdAccount}
use Rattle.sudoers_list_people.specs.declared.account_and_group_row_types.GroupFileRow.{GroupFileRow}

-- the pieces of a text between the bytes b
abbrev pub pieces_split_at_byte : ℕ → List ℕ → List (List ℕ)
pieces_split_at_byte b text = slice_split (λ other. other == b) text

-- A row that is empty, or begins with `#`, `+` or `-`, says nothing.
abbrev pub is_skipped_row : List ℕ → Bool
is_skipped_row [] = true
is_skipped_row (b ∷ row) = b == 35 || b == 43 || b == 45

-- a decimal number up to 4,294,967,295
abbrev pub id_number_of_field : List ℕ → Option ℕ
id_number_of_field field = if is_nonempty_digit_string field then number_if_within_limit id_limit field else None

-- ---- passwd: name, password, number, number of the primary group, comment, home and shell

abbrev pub account_from_name_and_ids : List ℕ → Option ℕ → Option ℕ → Option PasswdAccount
account_from_name_and_ids (b ∷ name) (Some uid) (Some gid) = Some (record { name = b ∷ name; uid = uid; gid = gid })
account_from_name_and_ids name uid gid = None

abbrev pub account_of_fields : List (List ℕ) → Option PasswdAccount
account_of_fields (name ∷ password ∷ uid ∷ gid ∷ comment ∷ home ∷ shell ∷ []) = account_from_name_and_ids name (id_number_of_field uid) (id_number_of_field gid)
account_of_fields fields = None

-- the user of whom a row says, if it is in the form of a row
abbrev pub account_of_passwd_row : List ℕ → Option PasswdAccount
account_of_passwd_row row = account_of_fields (pieces_split_at_byte 58 row)

-- ---- group: name, password, number and members, joined by `,`

abbrev pub group_row_from_name_and_gid : List ℕ → Option ℕ → List ℕ → Option GroupFileRow
group_row_from_name_and_gid (b ∷ name) (Some gid) members = Some (record { name = b ∷ name; gid = gid; members = members })
group_row_from_name_and_gid name gid members = None

abbrev pub group_of_fields : List (List ℕ) → Option GroupFileRow
group_of_fields (name ∷ password ∷ gid ∷ members ∷ []) = group_row_from_name_and_gid name (id_number_of_field gid) members
group_of_fields fields = None

abbrev pub group_file_row_of_text : List ℕ → Option GroupFileRow
group_file_row_of_text row = group_of_fields (pieces_split_at_byte 58 row)

-- ---- all rows of a text; said: what a row says, if it is in the form of a row

-- what a row says, if it is not passed over
abbrev pub parsed_unless_skipped_row : {X : Type 0} → (List ℕ → Option X) → List ℕ → Option X
parsed_unless_skipped_row said row = if is_skipped_row row then None else said row

-- what rows say
abbrev pub parsed_rows_without_skipped_or_malformed : {X : Type 0} → (List ℕ → Option X) → List (List ℕ) → List X
parsed_rows_without_skipped_or_malformed said rows = filter_map (parsed_unless_skipped_row said) rows

-- A row that is not passed over is in the form of no row.
abbrev pub is_malformed_row : {X : Type 0} → (List ℕ → Option X) → List ℕ → Bool
is_malformed_row said row = not (is_skipped_row row) && is_none (said row)

-- Of those that are the same the first counts.
abbrev pub deduplicated_keeping_first : {X : Type 0} → (X → X → Bool) → List X → List X
deduplicated_keeping_first same [] = []
deduplicated_keeping_first same (x ∷ xs) = x ∷ filter (λ other. not (same other x)) (deduplicated_keeping_first same xs)

-- a row more, where none is the same
abbrev pub with_item_if_new : {X : Type 0} → (X → X → Bool) → Option X → List X → List X
with_item_if_new same None xs = xs
with_item_if_new same (Some x) xs = if list_any (same x) xs then xs else xs ++ x ∷ []
