-- A device of the proof, which no public contract cites: options and tags as they are printed one by one.
use Rattle.std.specs.Prelude.{ℕ, Bool, List, [], ◌++◌, codes, Option, Some, None}
use Rattle.sudoers_grammar.specs.declared.node.OptionName.{OptionName}
use Rattle.sudoers_grammar.specs.declared.node.OptionName.TheVariants as option
use Rattle.sudoers_grammar.specs.declared.node.Tag.{Tag}
use Rattle.sudoers_grammar.specs.declared.node.Tag.TheVariants as tag
use Rattle.sudoers_match.specs.declared.tags.CommandTags.{CommandTags}
use Rattle.sudoers_match.specs.Values.{OptionValues}
use Rattle.sudoers_cvt_spell.specs.Commands.{printed_option, tag_keyword_or_negated}

abbrev pub printed_option_if_given : OptionName → Option (List ℕ) → List ℕ
printed_option_if_given name None = []
printed_option_if_given name (Some value) = printed_option name value ++ codes " "

-- the options of security labels and privileges, and those of time and place
abbrev pub printed_label_and_privilege_options : OptionValues → List ℕ
printed_label_and_privilege_options v =
    printed_option_if_given option.Role v.role ++ (printed_option_if_given option.Type v.kind ++ (printed_option_if_given option.ApparmorProfile v.apparmor_profile
    ++ (printed_option_if_given option.Privs v.privs ++ printed_option_if_given option.Limitprivs v.limitprivs)))

abbrev pub printed_time_place_options : OptionValues → List ℕ
printed_time_place_options v =
    printed_option_if_given option.Notbefore v.notbefore ++ (printed_option_if_given option.Notafter v.notafter ++ (printed_option_if_given option.Timeout v.timeout
    ++ (printed_option_if_given option.Cwd v.cwd ++ printed_option_if_given option.Chroot v.chroot)))

abbrev pub printed_given_options : OptionValues → List ℕ
printed_given_options v = printed_label_and_privilege_options v ++ printed_time_place_options v

abbrev pub printed_tag_if_given : Tag → Option Bool → List ℕ
printed_tag_if_given t None = []
printed_tag_if_given t (Some on) = tag_keyword_or_negated t on ++ codes ": "

-- the first half of the tags, and the second
abbrev pub printed_first_four_tags : CommandTags → List ℕ
printed_first_four_tags s =
    printed_tag_if_given tag.Exec s.exec ++ (printed_tag_if_given tag.Follow s.follow ++ (printed_tag_if_given tag.Intercept s.intercept ++ printed_tag_if_given tag.LogInput s.log_input))

abbrev pub printed_last_four_tags : CommandTags → List ℕ
printed_last_four_tags s =
    printed_tag_if_given tag.LogOutput s.log_output ++ (printed_tag_if_given tag.Mail s.mail ++ (printed_tag_if_given tag.Passwd s.passwd ++ printed_tag_if_given tag.Setenv s.setenv))

abbrev pub printed_given_tags : CommandTags → List ℕ
printed_given_tags s = printed_first_four_tags s ++ printed_last_four_tags s
