-- How commands of user specifications are printed (sudoers(5), User specification).
use Rattle.std.specs.Prelude.{ℕ, Bool, true, false, List, [], ◌∷◌, ◌++◌, codes, Option, Some, None}
use Rattle.std.specs.List.{flat_map}
use Rattle.sudoers_grammar.specs.declared.node.Kind.TheVariants.{Runas, Cmnd}
use Rattle.sudoers_grammar.specs.Node.{Member, RunasSpec, CmdSpec}
use Rattle.sudoers_grammar.specs.declared.node.OptionName.{OptionName}
use Rattle.sudoers_grammar.specs.declared.node.OptionName.TheVariants as option
use Rattle.sudoers_grammar.specs.declared.node.Tag.{Tag}
use Rattle.sudoers_grammar.specs.declared.node.Tag.TheVariants as tag
use Rattle.sudoers_cvt_spell.specs.Spelling.{spelled_word}
use Rattle.sudoers_cvt_spell.specs.Members.{printed_member, printed_member_list}

-- what stands in the parentheses: users, groups, both or nothing
abbrev pub printed_runas_lists : List Member → List Member → List ℕ
printed_runas_lists [] [] = []
printed_runas_lists (u ∷ us) [] = printed_member_list false Runas (u ∷ us)
printed_runas_lists [] (g ∷ gs) = codes ": " ++ printed_member_list false Runas (g ∷ gs)
printed_runas_lists (u ∷ us) (g ∷ gs) = printed_member_list false Runas (u ∷ us) ++ codes " : " ++ printed_member_list false Runas (g ∷ gs)

abbrev pub printed_runas : RunasSpec → List ℕ
printed_runas r = codes "(" ++ printed_runas_lists r.users r.groups ++ codes ")"

abbrev pub printed_runas_prefix : Option RunasSpec → List ℕ
printed_runas_prefix None = []
printed_runas_prefix (Some r) = printed_runas r ++ codes " "

abbrev pub option_keyword : OptionName → List ℕ
option_keyword option.Role = codes "ROLE"
option_keyword option.Type = codes "TYPE"
option_keyword option.ApparmorProfile = codes "APPARMOR_PROFILE"
option_keyword option.Privs = codes "PRIVS"
option_keyword option.Limitprivs = codes "LIMITPRIVS"
option_keyword option.Notbefore = codes "NOTBEFORE"
option_keyword option.Notafter = codes "NOTAFTER"
option_keyword option.Timeout = codes "TIMEOUT"
option_keyword option.Cwd = codes "CWD"
option_keyword option.Chroot = codes "CHROOT"

-- the value of an option; an empty one is a pair of quotes
abbrev pub printed_option_value : List ℕ → List ℕ
printed_option_value [] = codes "\"\""
printed_option_value (b ∷ bytes) = spelled_word (b ∷ bytes)

abbrev pub printed_option : OptionName → List ℕ → List ℕ
printed_option name value = option_keyword name ++ codes "=" ++ printed_option_value value

abbrev pub tag_keyword_without_no : Tag → List ℕ
tag_keyword_without_no tag.Exec = codes "EXEC"
tag_keyword_without_no tag.Follow = codes "FOLLOW"
tag_keyword_without_no tag.Intercept = codes "INTERCEPT"
tag_keyword_without_no tag.LogInput = codes "LOG_INPUT"
tag_keyword_without_no tag.LogOutput = codes "LOG_OUTPUT"
tag_keyword_without_no tag.Mail = codes "MAIL"
tag_keyword_without_no tag.Passwd = codes "PASSWD"
tag_keyword_without_no tag.Setenv = codes "SETENV"

-- a tag, with `NO` before it or not
abbrev pub tag_keyword_or_negated : Tag → Bool → List ℕ
tag_keyword_or_negated t true = tag_keyword_without_no t
tag_keyword_or_negated t false = codes "NO" ++ tag_keyword_without_no t

abbrev pub printed_options : List (OptionName × List ℕ) → List ℕ
printed_options options = flat_map (λ (o : OptionName × List ℕ). printed_option o.0 o.1 ++ codes " ") options

abbrev pub printed_tags : List (Tag × Bool) → List ℕ
printed_tags tags = flat_map (λ (t : Tag × Bool). tag_keyword_or_negated t.0 t.1 ++ codes ": ") tags

-- a command: its Runas_Spec, its options, its tags and its member, one after another
abbrev pub printed_runas_options_tags_and_command : CmdSpec → List ℕ
printed_runas_options_tags_and_command c = printed_runas_prefix c.runas ++ printed_options c.options ++ printed_tags c.tags ++ printed_member false Cmnd c.member
