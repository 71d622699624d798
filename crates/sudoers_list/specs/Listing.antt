-- What a user may run on a host, as a text (sudo(8), the option `-l`).
use Rattle.std.specs.Prelude.{◌≡◌, ℕ, false, List, [], ◌∷◌, ◌++◌, map, codes, slice_get, Option, Some, None, option_and_then}
use Rattle.std.specs.List.{filter_map, flat_map}
use Rattle.sudoers_grammar.specs.declared.node.Atom.TheVariants as atom
use Rattle.sudoers_grammar.specs.declared.node.Kind.TheVariants.{Runas}
use Rattle.sudoers_grammar.specs.Node.{CmdSpec, HostGroup, Member, RunasSpec}
use Rattle.sudoers_tree.specs.Line.{Line}
use Rattle.sudoers_match_member.specs.declared.people_and_commands.Who.{Who}
use Rattle.sudoers_match.specs.declared.matching_host_groups.HostGroupPlace.{HostGroupPlace}
use Rattle.sudoers_match.specs.Specs.{UserSpec, user_specs_of_lines}
use Rattle.sudoers_match.specs.Groups.{ArePlacesOfMatchingHostGroups}
use Rattle.sudoers_match.specs.Default.{IsRunasDefault}
use Rattle.sudoers_cvt_spell.specs.Members.{printed_member_list}
use Rattle.sudoers_cvt_spell.specs.Commands.{printed_runas_options_tags_and_command}
use Rattle.sudoers_cvt_rules.specs.Effective.{effective_commands}

-- ---- as whom a command is listed

-- the member that is a plain name
abbrev pub member_of_plain_name : List ℕ → Member
member_of_plain_name name = record { start = 0; stop = 0; negated = false; digests = []; atom = atom.Name name }

abbrev pub runas_users_or_self : List ℕ → List Member → List Member
runas_users_or_self user [] = member_of_plain_name user ∷ []
runas_users_or_self user (u ∷ us) = u ∷ us

-- A command without a Runas_Spec is listed with `(D)`, D being runas_default. In a Runas_Spec without users the user himself stands.
abbrev pub runas_spec_with_users_filled_in : List ℕ → List ℕ → Option RunasSpec → RunasSpec
runas_spec_with_users_filled_in user d None = record { users = member_of_plain_name d ∷ []; groups = [] }
runas_spec_with_users_filled_in user d (Some r) = record { users = runas_users_or_self user r.users; groups = r.groups }

abbrev pub command_with_runas_users_filled_in : List ℕ → List ℕ → CmdSpec → CmdSpec
command_with_runas_users_filled_in user d c = record { runas = Some (runas_spec_with_users_filled_in user d c.runas); options = c.options; tags = c.tags; member = c.member }

-- ---- the text

-- a line for a command, which says all that holds of it
abbrev pub listed_command_text_line : List ℕ → List ℕ → CmdSpec → List ℕ
listed_command_text_line user d c = codes "    " ++ printed_runas_options_tags_and_command (command_with_runas_users_filled_in user d c) ++ codes "\n"

abbrev pub listed_host_group_lines : List ℕ → List ℕ → HostGroup → List ℕ
listed_host_group_lines user d g = flat_map (listed_command_text_line user d) (effective_commands g.commands)

-- a name, spelled as in a list of runas users
abbrev pub printed_runas_name : List ℕ → List ℕ
printed_runas_name name = printed_member_list false Runas (member_of_plain_name name ∷ [])

-- what stands before the name of the host, and behind it
abbrev pub text_before_host_name : List HostGroup → List ℕ
text_before_host_name [] = codes " may run nothing on "
text_before_host_name (g ∷ gs) = codes " on "

abbrev pub text_after_host_name : List HostGroup → List ℕ
text_after_host_name [] = codes ".\n"
text_after_host_name (g ∷ gs) = codes ":\n"

-- the first line
abbrev pub listing_heading : List ℕ → List ℕ → List HostGroup → List ℕ
listing_heading user host groups = printed_runas_name user ++ text_before_host_name groups ++ host ++ text_after_host_name groups

abbrev pub listing_text : List ℕ → List ℕ → List ℕ → List HostGroup → List ℕ
listing_text user host d groups = listing_heading user host groups ++ flat_map (listed_host_group_lines user d) groups

-- ---- host groups by their places

abbrev pub host_groups_of_each_user_spec : List Line → List (List HostGroup)
host_groups_of_each_user_spec lines = map (λ (s : UserSpec). s.groups) (user_specs_of_lines lines)

abbrev pub host_group_at_spec_and_group_number : List (List HostGroup) → HostGroupPlace → Option HostGroup
host_group_at_spec_and_group_number specs place = option_and_then (λ groups. slice_get groups place.host_group) (slice_get specs place.spec)

abbrev pub host_groups_at_places : List Line → List HostGroupPlace → List HostGroup
host_groups_at_places lines places = filter_map (host_group_at_spec_and_group_number (host_groups_of_each_user_spec lines)) places

-- The text lists the host groups whose users and hosts match, in the order of the lines, with the commands of each.
pub record IsListingOfUser (lines : List Line) (who : Who) (text : List ℕ) : Type 0 where
  pub places : List HostGroupPlace
  pub are_all : ArePlacesOfMatchingHostGroups lines who places
  pub default : List ℕ
  pub is_default : IsRunasDefault lines who default
  pub says : text ≡ listing_text who.user.name who.long_host default (host_groups_at_places lines places)
