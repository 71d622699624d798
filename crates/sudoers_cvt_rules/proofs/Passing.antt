-- Commands as they are printed one after another, each with what it inherits.
use Rattle.std.proofs.Common.{◌≡◌, ℕ, List, ◌∷◌, ◌++◌, map, flat_map, codes, ap, ◌∙◌, append_assoc}
use Rattle.std.specs.List.{join_by}
use Rattle.sudoers_grammar.specs.Node.{CmdSpec}
use Rattle.sudoers_match.specs.declared.command_settings.CommandSettings.{CommandSettings as HeadHeld}
use Rattle.sudoers_match.specs.Heads.{AccumulatedCommandSettings, empty_command_settings, settings_after_command, commands_with_settings}
use Rattle.sudoers_match.specs.IsHead.{HoldsCommandSettings}
use Rattle.sudoers_cvt_spell.specs.Commands.{printed_runas_options_tags_and_command}
use Rattle.sudoers_cvt_rules.specs.Effective.{effective_command, effective_commands}

-- commands behind others that leave this to be inherited
abbrev pub text_of_commands_after_settings : AccumulatedCommandSettings → List CmdSpec → List ℕ
text_of_commands_after_settings h cs = flat_map (λ (c : CmdSpec). codes ", " ++ printed_runas_options_tags_and_command c) (map effective_command (commands_with_settings h cs))

-- With these commands, what is printed becomes the whole.
pub record AreCommandsPrintedSoFar (held : HeadHeld) (out : List ℕ) (rest : List CmdSpec) (whole : List ℕ) : Type 0 where
  pub head : AccumulatedCommandSettings
  pub is_head : HoldsCommandSettings held head
  pub so_far : out ++ text_of_commands_after_settings head rest ≡ whole

pub first_printed_command_begins_so_far : (held : HeadHeld) (out out' : List ℕ) (c : CmdSpec) (cs : List CmdSpec) → HoldsCommandSettings held (settings_after_command empty_command_settings c)
    → out' ≡ out ++ printed_runas_options_tags_and_command (effective_command (settings_after_command empty_command_settings c, c.member))
    → AreCommandsPrintedSoFar held out' cs (out ++ join_by printed_runas_options_tags_and_command (codes ", ") (effective_commands (c ∷ cs)))
first_printed_command_begins_so_far held out out' c cs is e = record {
  head = settings_after_command empty_command_settings c;
  is_head = is;
  so_far = ap (λ o. o ++ text_of_commands_after_settings (settings_after_command empty_command_settings c) cs) e
      ∙ append_assoc out (printed_runas_options_tags_and_command (effective_command (settings_after_command empty_command_settings c, c.member))) (text_of_commands_after_settings (settings_after_command empty_command_settings c) cs);
}

four_appended_texts_are_regrouped : (a b c d : List ℕ) → ((a ++ b) ++ c) ++ d ≡ a ++ ((b ++ c) ++ d)
four_appended_texts_are_regrouped a b c d = simp append_assoc

pub printing_next_command_keeps_so_far : (held held' : HeadHeld) (out out' : List ℕ) (c : CmdSpec) (cs : List CmdSpec) (whole : List ℕ) → (s : AreCommandsPrintedSoFar held out (c ∷ cs) whole)
    → HoldsCommandSettings held' (settings_after_command s.head c) → out' ≡ (out ++ codes ", ") ++ printed_runas_options_tags_and_command (effective_command (settings_after_command s.head c, c.member))
    → AreCommandsPrintedSoFar held' out' cs whole
printing_next_command_keeps_so_far held held' out out' c cs whole s is e =
    let h = settings_after_command s.head c in
    let p = printed_runas_options_tags_and_command (effective_command (h, c.member)) in
    record {
      head = h;
      is_head = is;
      so_far = ap (λ o. o ++ text_of_commands_after_settings h cs) e ∙ four_appended_texts_are_regrouped out (codes ", ") p (text_of_commands_after_settings h cs) ∙ s.so_far;
    }
