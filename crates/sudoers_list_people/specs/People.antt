-- The people of a machine (passwd(5), group(5)).
use Rattle.std.specs.Prelude.{ℕ, nat_lt, Bool, List, length, Option, Some, None, option_map, Result, Ok, Err, if◌then◌else◌}
use Rattle.std.specs.List.{position_from}
use Rattle.std.specs.Option.{option_or}
use Rattle.std.specs.Str.{bytes_eq}
use Rattle.sudoers_text.specs.Fault.{text_limit}
use Rattle.sudoers_list_people.specs.declared.account_and_group_row_types.PasswdAccount.{PasswdAccount}
use Rattle.sudoers_list_people.specs.declared.account_and_group_row_types.GroupFileRow.{GroupFileRow}
use Rattle.sudoers_list_people.specs.declared.fault.PeopleFile.{PeopleFile}
use Rattle.sudoers_list_people.specs.declared.fault.PeopleFile.TheVariants.{Passwd, Group}
use Rattle.sudoers_list_people.specs.declared.fault.PeopleFault.{PeopleFault}
use Rattle.sudoers_list_people.specs.declared.fault.PeopleFault.TheVariants.{BadRow, TooLarge}
use Rattle.sudoers_list_people.specs.Rows.{pieces_split_at_byte, parsed_rows_without_skipped_or_malformed, is_malformed_row, account_of_passwd_row, group_file_row_of_text, deduplicated_keeping_first}

-- the users and the groups, in file order, each name once
pub record People : Type 0 where
  pub accounts : List PasswdAccount
  pub groups : List GroupFileRow

-- They have one name.
abbrev pub has_same_user_name : PasswdAccount → PasswdAccount → Bool
has_same_user_name a other = bytes_eq a.name other.name

abbrev pub has_same_group_name : GroupFileRow → GroupFileRow → Bool
has_same_group_name g other = bytes_eq g.name other.name

-- the rows of a text
abbrev pub rows_of_file_text : List ℕ → List (List ℕ)
rows_of_file_text text = pieces_split_at_byte 10 text

-- Of rows with one name the first counts.
abbrev pub accounts_of_passwd : List ℕ → List PasswdAccount
accounts_of_passwd passwd = deduplicated_keeping_first has_same_user_name (parsed_rows_without_skipped_or_malformed account_of_passwd_row (rows_of_file_text passwd))

abbrev pub groups_of_group_file : List ℕ → List GroupFileRow
groups_of_group_file group = deduplicated_keeping_first has_same_group_name (parsed_rows_without_skipped_or_malformed group_file_row_of_text (rows_of_file_text group))

abbrev pub people_of_texts : List ℕ → List ℕ → People
people_of_texts passwd group = record { accounts = accounts_of_passwd passwd; groups = groups_of_group_file group }

-- ---- faults

abbrev pub bad_row_fault : PeopleFile → ℕ → PeopleFault
bad_row_fault file line = BadRow file line

-- why a text is not read: it is too large, or a row of it is bad, the first of which counts, by its number from 1
abbrev pub first_fault_in_people_file : {X : Type 0} → PeopleFile → (List ℕ → Option X) → List ℕ → Option PeopleFault
first_fault_in_people_file file said text =
    if nat_lt text_limit (length text) then Some TooLarge
    else option_map (bad_row_fault file) (position_from (is_malformed_row said) 1 (rows_of_file_text text))

-- the faults of passwd before those of group
abbrev pub first_people_fault : List ℕ → List ℕ → Option PeopleFault
first_people_fault passwd group = option_or (first_fault_in_people_file Passwd account_of_passwd_row passwd) (first_fault_in_people_file Group group_file_row_of_text group)

abbrev pub ok_unless_fault : {X : Type 0} → Option PeopleFault → X → Result X PeopleFault
ok_unless_fault None x = Ok x
ok_unless_fault (Some fault) x = Err fault

-- what the two texts say
abbrev pub people_read_result : List ℕ → List ℕ → Result People PeopleFault
people_read_result passwd group = ok_unless_fault (first_people_fault passwd group) (people_of_texts passwd group)
