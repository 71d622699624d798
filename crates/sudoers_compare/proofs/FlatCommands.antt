-- The commands of a host group, flat so far.
use Rattle.std.proofs.Common.{◌≡◌, ℕ, List, [], ◌∷◌, ◌++◌, length, map, slice_range, Option, Some, None, refl, sym, ap, ◌∙◌, arith}
use Rattle.std.proofs.lemmas.List.{append_assoc, append-nil}
use Rattle.std.specs.List.{flat_map}
use Rattle.std.specs.Option.{option_map, option_or}
use Rattle.sudoers_grammar.specs.Node.{Member, RunasSpec}
use Rattle.sudoers_grammar.specs.declared.node.Kind.TheVariants.{User, Host}
use Rattle.sudoers_line_rows.specs.declared.rows.CommandRow.{CommandRow}
use Rattle.sudoers_line_rows.specs.declared.rows.RowRange.{RowRange}
use Rattle.sudoers_line_rows.specs.declared.rows.RunasRow.{RunasRow}
use Rattle.sudoers_line_rows.specs.declared.rows.Tables.{Tables}
use Rattle.sudoers_line_rows.specs.Tables.{command_in_tables, commands_of_range_in_tables, member_in_tables, runas_in_tables}
use Rattle.sudoers_tree.specs.Line.{Line}
use Rattle.sudoers_match.specs.declared.command_settings.CommandSettings.{CommandSettings}
use Rattle.sudoers_match.specs.Heads.{AccumulatedCommandSettings, commands_with_settings, empty_command_settings, settings_after_command}
use Rattle.sudoers_match.specs.IsHead.{HoldsCommandSettings}
use Rattle.laws_compare.specs.Content.{FlatPrivilegeRow}
use Rattle.laws_compare.specs.Computed.{flat_list_of_members, flat_rows_of_command}
use Rattle.sudoers_compare.specs.declared.flat_specs.FlatCommand.{FlatCommand}
use Rattle.sudoers_compare.specs.FlatSpecs.{PlacedRow, placed_rows_of_command, placed_rows_of_flat_command, row_at_place, rows_of_flat_command}

-- The rows of the commands that are flat, and those of the commands that are left, are the rows of all.
pub record AreCommandsFlatSoFar (t : Tables) (lines : List Line) (range : RowRange) (commands : List FlatCommand) (settings : CommandSettings) (runas : Option RunasRow) (left : List CommandRow) : Type 0 where
  pub head : AccumulatedCommandSettings
  pub is_head : HoldsCommandSettings settings head
  pub is_runas : option_map (runas_in_tables t) runas ≡ head.runas
  pub rows : (number : ℕ) (users hosts : List Member) → flat_map (placed_rows_of_flat_command t number (flat_list_of_members User lines users) (flat_list_of_members Host lines hosts)) commands
      ++ flat_map (placed_rows_of_command lines number users hosts) (commands_with_settings head (map (command_in_tables t) left))
      ≡ flat_map (placed_rows_of_command lines number users hosts) (commands_with_settings empty_command_settings (commands_of_range_in_tables t range))

pub no_command_is_flat_yet : (t : Tables) (lines : List Line) (range : RowRange) (commands : List FlatCommand) (settings : CommandSettings) (left : List CommandRow) → commands ≡ []
    → HoldsCommandSettings settings empty_command_settings → left ≡ slice_range t.commands.items range.from range.to → AreCommandsFlatSoFar t lines range commands settings None left
no_command_is_flat_yet t lines range commands settings left none is_head all = record {
  head = empty_command_settings;
  is_head = is_head;
  is_runas = refl;
  rows = λ number users hosts.
      let flat : FlatCommand → List PlacedRow = placed_rows_of_flat_command t number (flat_list_of_members User lines users) (flat_list_of_members Host lines hosts) in
      let rest : List CommandRow → List PlacedRow = λ rows. flat_map (placed_rows_of_command lines number users hosts) (commands_with_settings empty_command_settings (map (command_in_tables t) rows)) in
      ap (λ (cs : List FlatCommand). flat_map flat cs ++ rest left) none ∙ ap rest all;
}

map_of_first_of_two : {X Y : Type 0} → (f : X → Y) (a b : Option X) → option_map f (option_or a b) ≡ option_or (option_map f a) (option_map f b)
map_of_first_of_two f None b = refl
map_of_first_of_two f (Some x) b = refl

pub rows_of_one_more : {X Y : Type 0} → (f : X → List Y) (xs : List X) (x : X) → flat_map f (xs ++ x ∷ []) ≡ flat_map f xs ++ f x
rows_of_one_more f [] x = append-nil (f x)
rows_of_one_more f (y ∷ xs) x = ap (λ (rows : List _). f y ++ rows) (rows_of_one_more f xs x) ∙ sym (append_assoc (f y) (flat_map f xs) (f x))

-- the command is flat, whatever holds of it
abbrev pub IsFlatCommandOf : Tables → List Line → CommandSettings → Option RunasRow → CommandRow → FlatCommand → Type 0
IsFlatCommandOf t lines settings runas row command =
    (head : AccumulatedCommandSettings) → HoldsCommandSettings settings head → option_map (runas_in_tables t) runas ≡ head.runas → (users hosts : List Member)
    → rows_of_flat_command t (flat_list_of_members User lines users) (flat_list_of_members Host lines hosts) command ≡ flat_rows_of_command lines users hosts (head, member_in_tables t row.member)

pub one_more_command_is_flat : (t : Tables) (lines : List Line) (range : RowRange) (commands new_commands : List FlatCommand) (settings new_settings : CommandSettings) (runas new_runas : Option RunasRow)
    (left behind : List CommandRow) (row : CommandRow) (command : FlatCommand) → AreCommandsFlatSoFar t lines range commands settings runas left → left ≡ row ∷ behind
    → ((before : AccumulatedCommandSettings) → HoldsCommandSettings settings before → HoldsCommandSettings new_settings (settings_after_command before (command_in_tables t row)))
    → new_runas ≡ option_or row.runas runas → IsFlatCommandOf t lines new_settings new_runas row command → command.start ≡ row.member.start → new_commands ≡ commands ++ command ∷ []
    → AreCommandsFlatSoFar t lines range new_commands new_settings new_runas behind
one_more_command_is_flat t lines range commands new_commands settings new_settings runas new_runas left behind row command so_far split settings_are runas_is is_flat starts pushed =
    let head = settings_after_command so_far.head (command_in_tables t row) in
    let is_head = settings_are so_far.head so_far.is_head in
    let is_runas : option_map (runas_in_tables t) new_runas ≡ head.runas =
    ap (option_map (runas_in_tables t)) runas_is ∙ map_of_first_of_two (runas_in_tables t) row.runas runas
    ∙ ap (λ (r : Option RunasSpec). option_or (option_map (runas_in_tables t) row.runas) r) so_far.is_runas in
    record {
      head = head;
      is_head = is_head;
      is_runas = is_runas;
      rows = λ number users hosts.
          let flat : FlatCommand → List PlacedRow = placed_rows_of_flat_command t number (flat_list_of_members User lines users) (flat_list_of_members Host lines hosts) in
          let said = placed_rows_of_command lines number users hosts in
          let rest : List PlacedRow = flat_map said (commands_with_settings head (map (command_in_tables t) behind)) in
          ap (λ (cs : List FlatCommand). flat_map flat cs ++ rest) pushed
          ∙ ap (λ (rows : List PlacedRow). rows ++ rest) (rows_of_one_more flat commands command)
          ∙ append_assoc (flat_map flat commands) (flat command) rest
          ∙ ap (λ (rows : List FlatPrivilegeRow). flat_map flat commands ++ (map (row_at_place number command.start) rows ++ rest)) (is_flat head is_head is_runas users hosts)
          ∙ ap (λ (start : ℕ). flat_map flat commands ++ (map (row_at_place number start) (flat_rows_of_command lines users hosts (head, member_in_tables t row.member)) ++ rest)) starts
          ∙ ap (λ (rows : List CommandRow). flat_map flat commands ++ flat_map said (commands_with_settings so_far.head (map (command_in_tables t) rows))) (sym split)
          ∙ so_far.rows number users hosts;
    }

pub all_commands_are_flat : (t : Tables) (lines : List Line) (range : RowRange) (commands : List FlatCommand) (settings : CommandSettings) (runas : Option RunasRow) (left : List CommandRow)
    → AreCommandsFlatSoFar t lines range commands settings runas left → left ≡ [] → (number : ℕ) (users hosts : List Member)
    → flat_map (placed_rows_of_flat_command t number (flat_list_of_members User lines users) (flat_list_of_members Host lines hosts)) commands
    ≡ flat_map (placed_rows_of_command lines number users hosts) (commands_with_settings empty_command_settings (commands_of_range_in_tables t range))
all_commands_are_flat t lines range commands settings runas left so_far none number users hosts =
    let flat : FlatCommand → List PlacedRow = placed_rows_of_flat_command t number (flat_list_of_members User lines users) (flat_list_of_members Host lines hosts) in
    sym (append-nil (flat_map flat commands))
    ∙ ap (λ (rows : List CommandRow). flat_map flat commands ++ flat_map (placed_rows_of_command lines number users hosts) (commands_with_settings so_far.head (map (command_in_tables t) rows))) (sym none)
    ∙ so_far.rows number users hosts

pub list_without_length_is_empty : {X : Type 0} → (xs : List X) → length xs ≡ 0 → xs ≡ []
list_without_length_is_empty [] e = refl
list_without_length_is_empty (x ∷ xs) e = absurd (omega (arith, e))
