-- Why a request is answered as it is, as a text: the rule that decides, and the alias whose member decides.
use Rattle.std.specs.Prelude.{◌≡◌, ℕ, ◌+◌, Bool, true, false, List, [], ◌++◌, codes, take, slice_get, Option, Some, None, option_and_then}
use Rattle.std.specs.Fmt.{decimal}
use Rattle.sudoers_text.specs.Fault.{lf_count}
use Rattle.sudoers_grammar.specs.declared.node.Atom.{Atom}
use Rattle.sudoers_grammar.specs.declared.node.Kind.TheVariants.{Cmnd}
use Rattle.sudoers_tree.specs.declared.place.Place.{Place}
use Rattle.sudoers_tree.specs.Line.{Line}
use Rattle.sudoers_tree.specs.Definition.{definition_place_of_name}
use Rattle.sudoers_tree.specs.Files.{name_of_numbered_file}
use Rattle.sudoers_tree.specs.Load.{LoadedPolicy}
use Rattle.sudoers_tree.specs.Physical.{column_behind}
use Rattle.sudoers_tree.specs.Walk.{spot_of_walk_line}
use Rattle.sudoers_check.specs.declared.walk_cursor.BytePlace.{BytePlace}
use Rattle.sudoers_match_member.specs.declared.request.Request.{Request}
use Rattle.sudoers_match.specs.Answer.{Answer, is_request_command_match}
use Rattle.sudoers_match.specs.Default.{IsRunasDefault}
use Rattle.sudoers_cvt_spell.specs.Commands.{printed_runas_options_tags_and_command}
use Rattle.sudoers_cvt_spell.specs.Members.{printed_member}
use Rattle.sudoers_list.specs.Listing.{command_with_runas_users_filled_in}
use Rattle.sudoers_list.specs.Inner.{InnerAliasMember, IsDecidingAliasMember}
use Rattle.sudoers_list.specs.Rule.{DecidingRuleOnLine, deciding_rule, lines_with_numbers}

abbrev pub no_rule_matches_text : List ℕ
no_rule_matches_text = codes "no rule matches\n"

-- the name of the file in which the line with this number of the walk stands
abbrev pub file_name_of_walk_line : LoadedPolicy → ℕ → List ℕ
file_name_of_walk_line policy line = name_of_numbered_file policy.files (spot_of_walk_line policy.walk line).file

-- the physical line of its file on which it begins, from 1
abbrev pub physical_row_of_walk_line : LoadedPolicy → ℕ → ℕ
physical_row_of_walk_line policy line = (spot_of_walk_line policy.walk line).row

-- a place in the files of the policy: the file, the physical line of the file and the column
abbrev pub byte_place_text : LoadedPolicy → BytePlace → List ℕ
byte_place_text policy place =
    name_of_numbered_file policy.files place.file ++ codes ":" ++ decimal place.row ++ codes ":" ++ decimal place.column

-- what stands before a message: the place of the byte `start` of the line with this number of the walk, whose text is `text`. It is the
-- file, the physical line of the file and the column
abbrev pub file_row_column_text : LoadedPolicy → ℕ → List ℕ → ℕ → List ℕ
file_row_column_text policy line text start =
    file_name_of_walk_line policy line
    ++ codes ":" ++ decimal (physical_row_of_walk_line policy line + lf_count (take start text))
    ++ codes ":" ++ decimal (column_behind (take start text))

abbrev pub place_text_on_optional_line : LoadedPolicy → ℕ → ℕ → Option Line → List ℕ
place_text_on_optional_line policy number start None = []
place_text_on_optional_line policy number start (Some line) = file_row_column_text policy number line.text start

-- the place of a byte of the walk; nothing where the walk has no such line
abbrev pub place_text_on_walk_line : LoadedPolicy → ℕ → ℕ → List ℕ
place_text_on_walk_line policy number start = place_text_on_optional_line policy number start (slice_get policy.walk.lines number)

abbrev pub allowed_or_denied_words : Bool → List ℕ
allowed_or_denied_words true = codes ": allowed by: "
allowed_or_denied_words false = codes ": denied by: "

-- the rule as it is listed, with its place
abbrev pub place_verdict_and_command_text : LoadedPolicy → List ℕ → List ℕ → Bool → DecidingRuleOnLine → List ℕ
place_verdict_and_command_text policy user d allow rule =
    file_row_column_text policy rule.line rule.text rule.command.member.start ++ allowed_or_denied_words allow
    ++ printed_runas_options_tags_and_command (command_with_runas_users_filled_in user d rule.command) ++ codes "\n"

-- the line on which an alias of commands is defined, with its number
abbrev pub alias_definition_line : List Line → List ℕ → Option (ℕ × Line)
alias_definition_line lines name = option_and_then (λ (p : Place). slice_get (lines_with_numbers 0 lines) p.line) (definition_place_of_name Cmnd name lines)

-- the member of an alias, with its place on this line
abbrev pub alias_member_text_on_line : LoadedPolicy → InnerAliasMember → Option (ℕ × Line) → List ℕ
alias_member_text_on_line policy inner None = []
alias_member_text_on_line policy inner (Some l) =
    file_row_column_text policy l.0 l.1.text inner.member.start ++ codes ": in Cmnd_Alias " ++ inner.name ++ codes ": "
    ++ printed_member false Cmnd inner.member ++ codes "\n"

abbrev pub alias_member_reason_text : LoadedPolicy → Option InnerAliasMember → List ℕ
alias_member_reason_text policy None = []
alias_member_reason_text policy (Some inner) = alias_member_text_on_line policy inner (alias_definition_line policy.walk.lines inner.name)

-- a rule, and the member that decides if an alias hides it
abbrev pub rule_text_with_alias_member : LoadedPolicy → List ℕ → List ℕ → Bool → Option InnerAliasMember → Option DecidingRuleOnLine → List ℕ
rule_text_with_alias_member policy user d allow inner None = no_rule_matches_text
rule_text_with_alias_member policy user d allow inner (Some rule) = place_verdict_and_command_text policy user d allow rule ++ alias_member_reason_text policy inner

-- The member that decides of the rule, by this test of the command, stands in this alias, if it stands in one.
abbrev pub IsAliasMemberOfRule : List Line → (Atom → Bool) → Option DecidingRuleOnLine → Option InnerAliasMember → Type 0
IsAliasMemberOfRule lines test None inner = inner ≡ None
IsAliasMemberOfRule lines test (Some rule) inner = IsDecidingAliasMember lines test rule.command.member inner

-- The text names the rule that gives the answer. d: as whom a command runs where nothing else is said
pub record IsReasonByDecidingRule (policy : LoadedPolicy) (test : Atom → Bool) (request : Request) (d : List ℕ) (a : Answer) (text : List ℕ) : Type 0 where
  pub inner : Option InnerAliasMember
  pub is_inner : IsAliasMemberOfRule policy.walk.lines test (deciding_rule policy.walk.lines a) inner
  pub says : text ≡ rule_text_with_alias_member policy request.who.user.name d a.allow inner (deciding_rule policy.walk.lines a)

abbrev pub IsReasonOfAnswer : LoadedPolicy → (Atom → Bool) → Request → List ℕ → Option Answer → List ℕ → Type 0
IsReasonOfAnswer policy test request d None text = text ≡ no_rule_matches_text
IsReasonOfAnswer policy test request d (Some a) text = IsReasonByDecidingRule policy test request d a text

-- The text tells why the request has this answer by this test of its command.
pub record IsReasonTextByTest (policy : LoadedPolicy) (test : Atom → Bool) (request : Request) (answer : Option Answer) (text : List ℕ) : Type 0 where
  pub default : List ℕ
  pub is_default : IsRunasDefault policy.walk.lines request.who default
  pub tells : IsReasonOfAnswer policy test request default answer text

-- The text tells why the request is so answered.
abbrev pub IsReasonText : LoadedPolicy → Request → Option Answer → List ℕ → Type 0
IsReasonText policy request = IsReasonTextByTest policy (is_request_command_match request) request
