-- Commands of a list, one line after another, and lines by their numbers.
use Rattle.std.proofs.Common.{◌≡◌, ℕ, zero, suc, Some, slice_get, ◌+◌, ◌<◌, arith, length, drop, get_or, OnOk, Result, Ok, Err, is_ok, if◌then◌else◌, List, [], ◌∷◌, ◌++◌, map, flat_map, refl, sym, ap, ◌∙◌, append_assoc}
use Rattle.std.proofs.lemmas.List.{drop_more}
use Rattle.std.specs.Option.{option_map}
use Rattle.sudoers_grammar.specs.Node.{CmdSpec}
use Rattle.sudoers_tree.specs.Line.{Line}
use Rattle.sudoers_match.specs.declared.command_settings.CommandSettings.{CommandSettings as HeadHeld}
use Rattle.sudoers_match.specs.Heads.{AccumulatedCommandSettings, settings_after_command, commands_with_settings}
use Rattle.sudoers_match.specs.IsHead.{HoldsCommandSettings}
use Rattle.sudoers_cvt_rules.specs.Effective.{effective_command}
use Rattle.sudoers_list.specs.Rule.{lines_with_numbers}

-- With the lines of these commands, the text becomes the whole.
pub record IsTextBeforeRemainingCommands (line : CmdSpec → List ℕ) (held : HeadHeld) (out : List ℕ) (rest : List CmdSpec) (whole : List ℕ) : Type 0 where
  pub head : AccumulatedCommandSettings
  pub is_head : HoldsCommandSettings held head
  pub so_far : out ++ flat_map line (map effective_command (commands_with_settings head rest)) ≡ whole

pub passed_command_extends_listed_text : (line : CmdSpec → List ℕ) (held held' : HeadHeld) (out out' : List ℕ) (c : CmdSpec) (cs all : List CmdSpec) (whole : List ℕ)
    → all ≡ c ∷ cs → (s : IsTextBeforeRemainingCommands line held out all whole)
    → HoldsCommandSettings held' (settings_after_command s.head c) → out' ≡ out ++ line (effective_command (settings_after_command s.head c, c.member))
    → IsTextBeforeRemainingCommands line held' out' cs whole
passed_command_extends_listed_text line held held' out out' c cs all whole split s is e = record {
  head = settings_after_command s.head c;
  is_head = is;
  so_far =
      ap (λ o. o ++ flat_map line (map effective_command (commands_with_settings (settings_after_command s.head c) cs))) e
      ∙ append_assoc out (line (effective_command (settings_after_command s.head c, c.member))) (flat_map line (map effective_command (commands_with_settings (settings_after_command s.head c) cs)))
      ∙ ap (λ xs. out ++ flat_map line (map effective_command (commands_with_settings s.head xs))) (sym split)
      ∙ s.so_far;
}

-- what is next in a list, by what each row says
pub mapped_rest_begins_with_next_row : {X Y : Type 0} (f : X → Y) (xs : List X) (i : ℕ) (d : X) → i < length xs → (y : Y) → y ≡ f (get_or xs i d)
    → map f (drop i xs) ≡ y ∷ map f (drop (i + 1) xs)
mapped_rest_begins_with_next_row f xs i d h y e = ap (map f) (drop_more xs i d h) ∙ ap (λ z. z ∷ map f (drop (i + 1) xs)) (sym e)

-- a command in its parts
pub command_text_parts_reassociate : (o r b x y m : List ℕ) → ((o ++ r) ++ b) ++ ((x ++ y) ++ m) ≡ o ++ ((((r ++ b) ++ x) ++ y) ++ m)
command_text_parts_reassociate o r b x y m = simp append_assoc

pub alias_member_text_parts_reassociate : (o p a n b m e : List ℕ) → (((((o ++ p) ++ a) ++ n) ++ b) ++ m) ++ e ≡ o ++ (((((p ++ a) ++ n) ++ b) ++ m) ++ e)
alias_member_text_parts_reassociate o p a n b m e = simp append_assoc

pub consequence_on_ok_is_weakened : {T E : Type 0} (r : Result T E) (P Q : Type 0) → (P → Q) → OnOk r P → OnOk r Q
consequence_on_ok_is_weakened (Ok v) P Q next h = next h
consequence_on_ok_is_weakened (Err e) P Q next h = tt

pub value_on_ok_is_first_choice : {T E X : Type 0} (r : Result T E) (new one other : X) → new ≡ (if is_ok r then one else other) → OnOk r (new ≡ one)
value_on_ok_is_first_choice (Ok v) new one other e = e
value_on_ok_is_first_choice (Err f) new one other e = tt

-- ---- lines by their numbers

-- The line with a number is found with this number.
pub numbered_line_at_index_has_its_number : (n i : ℕ) (lines : List Line) → slice_get (lines_with_numbers n lines) i ≡ option_map (λ (l : Line). (n + i, l)) (slice_get lines i)
numbered_line_at_index_has_its_number n i [] = refl
numbered_line_at_index_has_its_number n zero (l ∷ lines) =
    let e : n ≡ n + 0 = omega arith in
    ap (λ k. Some (k, l)) e
numbered_line_at_index_has_its_number n (suc i) (l ∷ lines) =
    let e : n + 1 + i ≡ n + suc i = omega arith in
    numbered_line_at_index_has_its_number (n + 1) i lines ∙ ap (λ k. option_map (λ (x : Line). (k, x)) (slice_get lines i)) e

pub line_numbered_from_zero_has_its_index : (i : ℕ) (lines : List Line) → slice_get (lines_with_numbers 0 lines) i ≡ option_map (λ (l : Line). (i, l)) (slice_get lines i)
line_numbered_from_zero_has_its_index i lines =
    let e : 0 + i ≡ i = omega arith in
    numbered_line_at_index_has_its_number 0 i lines ∙ ap (λ k. option_map (λ (x : Line). (k, x)) (slice_get lines i)) e
