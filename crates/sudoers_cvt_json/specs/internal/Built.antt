-- Devices of the proof, which no public contract cites: values as the code writes them.
use Rattle.std.specs.Prelude.{◌≡◌, ◌⊎◌, ◌&&◌, ℕ, Bool, false, List, [], ◌∷◌, ◌++◌, map, codes, Option, Some}
use Rattle.std.specs.List.{filter_map}
use Rattle.std.specs.Option.{option_map}
use Rattle.std.specs.Borrow.{Bor}
use Rattle.json.specs.Token.{Token, begin_object, end_object, key}
use Rattle.json.specs.Tree.{json_tokens, items_tokens}
use Rattle.json.specs.Written.{Written}
use Rattle.serde_json.specs.Data.{Data, string, object, no_members, member}
use Rattle.serde_json.specs.View.{items_of}
use Rattle.serde_json.specs.Written.{outline, items_outline}
use Rattle.sudoers_grammar.specs.declared.node.Kind.TheVariants.{Cmnd}
use Rattle.sudoers_grammar.specs.declared.node.OptionName.{OptionName}
use Rattle.sudoers_grammar.specs.declared.node.OptionName.TheVariants as option
use Rattle.sudoers_grammar.specs.declared.node.Tag.{Tag}
use Rattle.sudoers_grammar.specs.declared.node.Tag.TheVariants as tag
use Rattle.sudoers_grammar.specs.Node.{RunasSpec, Scope}
use Rattle.sudoers_line_rows.specs.declared.view.Member.{Member as MemberView}
use Rattle.sudoers_line_rows.specs.View.{alias_definition_of_view, host_groups_of_view, member_of_view, members_of_view, parameters_of_view, runas_of_view, scope_of_view}
use Rattle.sudoers_match.specs.declared.command_settings.CommandSettings.{CommandSettings as HeadHeld}
use Rattle.sudoers_match.specs.declared.options.CommandOptions.{CommandOptions}
use Rattle.sudoers_match.specs.declared.tags.CommandTags.{CommandTags}
use Rattle.sudoers_match.specs.Values.{option_value_of_view}
use Rattle.sudoers_cvt_spell.specs.Members.{printed_member}
use Rattle.sudoers_cvt_spell.specs.Commands.{printed_option, tag_keyword_or_negated}
use Rattle.sudoers_cvt_rules.specs.declared.fault.CvtFault.{CvtFault}
use Rattle.sudoers_cvt_rules.specs.declared.fault.CvtFault.TheVariants.{NotUtf8, NoMemory}
use Rattle.sudoers_cvt_rules.specs.declared.rule.Rule.{Rule}
use Rattle.sudoers_cvt_rules.specs.declared.rule.Rule.TheVariants.{Defaults, Def, Spec}
use Rattle.sudoers_cvt_rules.specs.Effective.{effective_host_group}
use Rattle.sudoers_cvt_json.specs.Value.{string_array_value, runas_object_or_null, scope_object_or_null, spec_object_value, alias_object_value, defaults_object_value}
use Rattle.sudoers_cvt_json.specs.Unicode.{are_texts_of_value_unicode, are_texts_of_items_unicode}

-- The fault is want of memory, or that some text is not UTF-8.
abbrev pub IsJsonFault : Bool → CvtFault → Type 0
IsJsonFault unicode fault = (fault ≡ NoMemory) ⊎ ((fault ≡ NotUtf8) × (unicode ≡ false))

abbrev pub tokens_of_value : Data → List Token
tokens_of_value d = json_tokens (outline d)

-- the tokens of items, and the bracket behind them
abbrev pub tokens_of_items_and_end : List Data → List Token
tokens_of_items_and_end ds = items_tokens (items_outline (items_of ds))

-- These tokens were written.
abbrev pub WritesTokens : Written → Written → List Token → Type 0
WritesTokens old new ts = (new.before ≡ old.before) × (new.tokens ≡ old.tokens ++ ts)

abbrev pub are_values_unicode : List Data → Bool
are_values_unicode ds = are_texts_of_items_unicode (items_of ds)

-- ---- what stands before a command

abbrev pub option_pairs_in_order : CommandOptions → List (OptionName × Option (Bor (List ℕ)))
option_pairs_in_order o =
    (option.Role, o.role) ∷ (option.Type, o.kind) ∷ (option.ApparmorProfile, o.apparmor_profile) ∷ (option.Privs, o.privs)
    ∷ (option.Limitprivs, o.limitprivs) ∷ (option.Notbefore, o.notbefore) ∷ (option.Notafter, o.notafter) ∷ (option.Timeout, o.timeout)
    ∷ (option.Cwd, o.cwd) ∷ (option.Chroot, o.chroot) ∷ []

abbrev pub printed_option_text_if_given : OptionName × Option (Bor (List ℕ)) → Option (List ℕ)
printed_option_text_if_given p = option_map (printed_option p.0) (option_value_of_view p.1)

abbrev pub printed_option_texts : CommandOptions → List (List ℕ)
printed_option_texts o = filter_map printed_option_text_if_given (option_pairs_in_order o)

abbrev pub tags_with_optional_settings_in_order : CommandTags → List (Tag × Option Bool)
tags_with_optional_settings_in_order t =
    (tag.Exec, t.exec) ∷ (tag.Follow, t.follow) ∷ (tag.Intercept, t.intercept) ∷ (tag.LogInput, t.log_input) ∷ (tag.LogOutput, t.log_output)
    ∷ (tag.Mail, t.mail) ∷ (tag.Passwd, t.passwd) ∷ (tag.Setenv, t.setenv) ∷ []

abbrev pub printed_tag_text_if_given : Tag × Option Bool → Option (List ℕ)
printed_tag_text_if_given p = option_map (tag_keyword_or_negated p.0) p.1

abbrev pub printed_tag_texts : CommandTags → List (List ℕ)
printed_tag_texts t = filter_map printed_tag_text_if_given (tags_with_optional_settings_in_order t)

-- a command, of which the code holds this
abbrev pub command_value_of_view : HeadHeld → MemberView → Data
command_value_of_view head m =
    object (member (codes "command") (string (printed_member false Cmnd (member_of_view m)))
    (member (codes "options") (string_array_value (printed_option_texts head.options))
    (member (codes "runas") (runas_object_or_null (option_map runas_of_view head.runas))
    (member (codes "tags") (string_array_value (printed_tag_texts head.tags)) no_members))))

-- the first half of its object
abbrev pub member_and_option_tokens : HeadHeld → MemberView → List Token
member_and_option_tokens head m =
    begin_object ∷ key (codes "command") ∷ (tokens_of_value (string (printed_member false Cmnd (member_of_view m)))
    ++ key (codes "options") ∷ tokens_of_value (string_array_value (printed_option_texts head.options)))

abbrev pub are_member_and_options_unicode : HeadHeld → MemberView → Bool
are_member_and_options_unicode head m =
    are_texts_of_value_unicode (string (printed_member false Cmnd (member_of_view m))) && are_texts_of_value_unicode (string_array_value (printed_option_texts head.options))

-- the second half
abbrev pub runas_and_tag_tokens : HeadHeld → List Token
runas_and_tag_tokens head =
    key (codes "runas") ∷ (tokens_of_value (runas_object_or_null (option_map runas_of_view head.runas))
    ++ key (codes "tags") ∷ (tokens_of_value (string_array_value (printed_tag_texts head.tags)) ++ end_object ∷ []))

abbrev pub are_runas_and_tags_unicode : HeadHeld → Bool
are_runas_and_tags_unicode head =
    are_texts_of_value_unicode (runas_object_or_null (option_map runas_of_view head.runas)) && are_texts_of_value_unicode (string_array_value (printed_tag_texts head.tags))

-- ---- entries

abbrev pub runas_object : RunasSpec → Data
runas_object r = runas_object_or_null (Some r)

abbrev pub scope_object : Scope → Data
scope_object s = scope_object_or_null (Some s)

abbrev pub rule_object_value : Rule → Data
rule_object_value (Defaults scope params) = defaults_object_value (option_map scope_of_view scope) (parameters_of_view params)
rule_object_value (Def kind def) = alias_object_value kind (alias_definition_of_view def)
rule_object_value (Spec users groups) = spec_object_value (members_of_view users) (map effective_host_group (host_groups_of_view groups))
