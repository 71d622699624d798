-- Commands that are written one after another, each with what it inherits.
use Rattle.std.proofs.Common.{◌≡◌, ℕ, Bool, true, false, ◌+◌, ◌<◌, List, ◌∷◌, ◌++◌, length, map, drop, get_or, refl, sym, ap, ◌∙◌, append_assoc}
use Rattle.std.specs.Prelude.{◌&&◌}
use Rattle.std.proofs.lemmas.List.{drop_more}
use Rattle.serde_json.specs.Data.{Data}
use Rattle.json.specs.Token.{Token}
use Rattle.sudoers_grammar.specs.Node.{CmdSpec}
use Rattle.sudoers_match.specs.declared.command_settings.CommandSettings.{CommandSettings as HeadHeld}
use Rattle.sudoers_match.specs.Heads.{AccumulatedCommandSettings, settings_after_command, commands_with_settings}
use Rattle.sudoers_match.specs.IsHead.{HoldsCommandSettings}
use Rattle.sudoers_cvt_rules.specs.Effective.{effective_command}
use Rattle.sudoers_cvt_json.specs.Value.{command_object_value}
use Rattle.sudoers_cvt_json.specs.Unicode.{are_texts_of_value_unicode}
use Rattle.sudoers_cvt_json.specs.internal.Built.{are_values_unicode, tokens_of_items_and_end, tokens_of_value}

-- what is next in a list, by what each row says
pub mapped_drop_begins_with_next_image : {X Y : Type 0} (f : X → Y) (xs : List X) (i : ℕ) (d : X) → i < length xs → (y : Y) → y ≡ f (get_or xs i d)
    → map f (drop i xs) ≡ y ∷ map f (drop (i + 1) xs)
mapped_drop_begins_with_next_image f xs i d h y e = ap (map f) (drop_more xs i d h) ∙ ap (λ z. z ∷ map f (drop (i + 1) xs)) (sym e)

-- commands behind others that leave this to be inherited
abbrev pub command_values_after_settings : AccumulatedCommandSettings → List CmdSpec → List Data
command_values_after_settings h cs = map command_object_value (map effective_command (commands_with_settings h cs))

-- With these commands, what is written becomes the whole, and is UTF-8 or not.
pub record AreCommandValuesWrittenSoFar (held : HeadHeld) (out : List Token) (rest : List CmdSpec) (whole : List Token) (unicode : Bool) : Type 0 where
  pub head : AccumulatedCommandSettings
  pub is_head : HoldsCommandSettings held head
  pub text : out ++ tokens_of_items_and_end (command_values_after_settings head rest) ≡ whole
  pub all : are_values_unicode (command_values_after_settings head rest) ≡ unicode

true_conjunct_drops_out : (a b : Bool) → a ≡ true → a && b ≡ b
true_conjunct_drops_out true b e = refl
true_conjunct_drops_out false b e = absurd (let clash : false ≡ true = e in cc)

false_conjunct_is_false : (a b : Bool) → a ≡ false → a && b ≡ false
false_conjunct_is_false false b e = refl
false_conjunct_is_false true b e = absurd (let clash : true ≡ false = e in cc)

abbrev pub value_of_next_command : AccumulatedCommandSettings → CmdSpec → Data
value_of_next_command h c = command_object_value (effective_command (settings_after_command h c, c.member))

pub writing_command_value_keeps_so_far : (held held' : HeadHeld) (out out' : List Token) (c : CmdSpec) (cs : List CmdSpec) (whole : List Token) (unicode : Bool)
    → (s : AreCommandValuesWrittenSoFar held out (c ∷ cs) whole unicode) → HoldsCommandSettings held' (settings_after_command s.head c)
    → out' ≡ out ++ tokens_of_value (value_of_next_command s.head c) → are_texts_of_value_unicode (value_of_next_command s.head c) ≡ true
    → AreCommandValuesWrittenSoFar held' out' cs whole unicode
writing_command_value_keeps_so_far held held' out out' c cs whole unicode s is e good =
    let h = settings_after_command s.head c in
    record {
      head = h;
      is_head = is;
      text = ap (λ o. o ++ tokens_of_items_and_end (command_values_after_settings h cs)) e
          ∙ append_assoc out (tokens_of_value (value_of_next_command s.head c)) (tokens_of_items_and_end (command_values_after_settings h cs)) ∙ s.text;
      all = sym (true_conjunct_drops_out (are_texts_of_value_unicode (value_of_next_command s.head c)) (are_values_unicode (command_values_after_settings h cs)) good) ∙ s.all;
    }

-- Some text of the next command is not UTF-8.
pub non_unicode_command_makes_whole_non_unicode : (held : HeadHeld) (out : List Token) (c : CmdSpec) (cs : List CmdSpec) (whole : List Token) (unicode : Bool)
    → (s : AreCommandValuesWrittenSoFar held out (c ∷ cs) whole unicode) → are_texts_of_value_unicode (value_of_next_command s.head c) ≡ false → unicode ≡ false
non_unicode_command_makes_whole_non_unicode held out c cs whole unicode s bad =
    sym s.all ∙ false_conjunct_is_false (are_texts_of_value_unicode (value_of_next_command s.head c)) (are_values_unicode (command_values_after_settings (settings_after_command s.head c) cs)) bad
