-- Tags, one more at a time.
use Rattle.sudoers_match.proofs.Common.{Bool, List, None, Option, Some, TablesOf, Tag, [], ap, append_assoc, arith, final_tags_of, final_value_of_tag, get_or, get_or-map, if◌then◌else◌, last_value_named, length}
use Rattle.sudoers_match.proofs.Common.{length-map, map, option_or, ordinal_of_tag, refl, sym, tag_in_tables, tags_with_tag_set, take, take_more, ℕ, ◌++◌, ◌+◌, ◌<◌, ◌==◌, ◌∙◌, ◌∷◌, ◌≡◌}
use Rattle.sudoers_grammar.specs.declared.node.Tag.TheVariants as tag
use Rattle.sudoers_match.specs.declared.tags.CommandTags.{CommandTags}
use Rattle.sudoers_line_rows.specs.declared.rows.TagRow.{TagRow}
use Rattle.sudoers_match.proofs.Lasts.{option_or_none_is_option}

option_or_is_associative : {X : Type 0} (a b c : Option X) → option_or (option_or a b) c ≡ option_or a (option_or b c)
option_or_is_associative None b c = refl
option_or_is_associative (Some x) b c = refl

pub last_value_after_push_is_option_or : {N V : Type 0} (is_it : N → Bool) (ps : List (N × V)) (p : N × V) → last_value_named is_it (ps ++ p ∷ []) ≡ option_or (if is_it p.0 then Some p.1 else None) (last_value_named is_it ps)
last_value_after_push_is_option_or is_it [] p = sym (option_or_none_is_option (if is_it p.0 then Some p.1 else None))
last_value_after_push_is_option_or is_it (q ∷ ps) p =
    ap (λ o. option_or o (if is_it q.0 then Some q.1 else None)) (last_value_after_push_is_option_or is_it ps p)
    ∙ option_or_is_associative (if is_it p.0 then Some p.1 else None) (last_value_named is_it ps) (if is_it q.0 then Some q.1 else None)

final_tag_after_push_is_option_or : (u t : Tag) (on : Bool) (ps : List (Tag × Bool)) → final_value_of_tag (ps ++ (t, on) ∷ []) u ≡ option_or (if ordinal_of_tag u == ordinal_of_tag t then Some on else None) (final_value_of_tag ps u)
final_tag_after_push_is_option_or u t on ps = last_value_after_push_is_option_or (λ v. ordinal_of_tag u == ordinal_of_tag v) ps (t, on)

abbrev command_tags_of_eight_values : Option Bool → Option Bool → Option Bool → Option Bool → Option Bool → Option Bool → Option Bool → Option Bool → CommandTags
command_tags_of_eight_values a b c d e f g h = record { exec = a; follow = b; intercept = c; log_input = d; log_output = e; mail = f; passwd = g; setenv = h }

pub final_tags_after_push_have_tag_set : (t : Tag) (on : Bool) (ps : List (Tag × Bool)) → final_tags_of (ps ++ (t, on) ∷ []) ≡ tags_with_tag_set t on (final_tags_of ps)
final_tags_after_push_have_tag_set t on ps =
    ap (λ (x : Option Bool). command_tags_of_eight_values (x) (final_value_of_tag (ps ++ (t, on) ∷ []) tag.Follow) (final_value_of_tag (ps ++ (t, on) ∷ []) tag.Intercept) (final_value_of_tag (ps ++ (t, on) ∷ []) tag.LogInput) (final_value_of_tag (ps ++ (t, on) ∷ []) tag.LogOutput) (final_value_of_tag (ps ++ (t, on) ∷ []) tag.Mail) (final_value_of_tag (ps ++ (t, on) ∷ []) tag.Passwd) (final_value_of_tag (ps ++ (t, on) ∷ []) tag.Setenv)) (final_tag_after_push_is_option_or tag.Exec t on ps)
    ∙ ap (λ (x : Option Bool). command_tags_of_eight_values ((tags_with_tag_set t on (final_tags_of ps)).exec) (x) (final_value_of_tag (ps ++ (t, on) ∷ []) tag.Intercept) (final_value_of_tag (ps ++ (t, on) ∷ []) tag.LogInput) (final_value_of_tag (ps ++ (t, on) ∷ []) tag.LogOutput) (final_value_of_tag (ps ++ (t, on) ∷ []) tag.Mail) (final_value_of_tag (ps ++ (t, on) ∷ []) tag.Passwd) (final_value_of_tag (ps ++ (t, on) ∷ []) tag.Setenv)) (final_tag_after_push_is_option_or tag.Follow t on ps)
    ∙ ap (λ (x : Option Bool). command_tags_of_eight_values ((tags_with_tag_set t on (final_tags_of ps)).exec) ((tags_with_tag_set t on (final_tags_of ps)).follow) (x) (final_value_of_tag (ps ++ (t, on) ∷ []) tag.LogInput) (final_value_of_tag (ps ++ (t, on) ∷ []) tag.LogOutput) (final_value_of_tag (ps ++ (t, on) ∷ []) tag.Mail) (final_value_of_tag (ps ++ (t, on) ∷ []) tag.Passwd) (final_value_of_tag (ps ++ (t, on) ∷ []) tag.Setenv)) (final_tag_after_push_is_option_or tag.Intercept t on ps)
    ∙ ap (λ (x : Option Bool). command_tags_of_eight_values ((tags_with_tag_set t on (final_tags_of ps)).exec) ((tags_with_tag_set t on (final_tags_of ps)).follow) ((tags_with_tag_set t on (final_tags_of ps)).intercept) (x) (final_value_of_tag (ps ++ (t, on) ∷ []) tag.LogOutput) (final_value_of_tag (ps ++ (t, on) ∷ []) tag.Mail) (final_value_of_tag (ps ++ (t, on) ∷ []) tag.Passwd) (final_value_of_tag (ps ++ (t, on) ∷ []) tag.Setenv)) (final_tag_after_push_is_option_or tag.LogInput t on ps)
    ∙ ap (λ (x : Option Bool). command_tags_of_eight_values ((tags_with_tag_set t on (final_tags_of ps)).exec) ((tags_with_tag_set t on (final_tags_of ps)).follow) ((tags_with_tag_set t on (final_tags_of ps)).intercept) ((tags_with_tag_set t on (final_tags_of ps)).log_input) (x) (final_value_of_tag (ps ++ (t, on) ∷ []) tag.Mail) (final_value_of_tag (ps ++ (t, on) ∷ []) tag.Passwd) (final_value_of_tag (ps ++ (t, on) ∷ []) tag.Setenv)) (final_tag_after_push_is_option_or tag.LogOutput t on ps)
    ∙ ap (λ (x : Option Bool). command_tags_of_eight_values ((tags_with_tag_set t on (final_tags_of ps)).exec) ((tags_with_tag_set t on (final_tags_of ps)).follow) ((tags_with_tag_set t on (final_tags_of ps)).intercept) ((tags_with_tag_set t on (final_tags_of ps)).log_input) ((tags_with_tag_set t on (final_tags_of ps)).log_output) (x) (final_value_of_tag (ps ++ (t, on) ∷ []) tag.Passwd) (final_value_of_tag (ps ++ (t, on) ∷ []) tag.Setenv)) (final_tag_after_push_is_option_or tag.Mail t on ps)
    ∙ ap (λ (x : Option Bool). command_tags_of_eight_values ((tags_with_tag_set t on (final_tags_of ps)).exec) ((tags_with_tag_set t on (final_tags_of ps)).follow) ((tags_with_tag_set t on (final_tags_of ps)).intercept) ((tags_with_tag_set t on (final_tags_of ps)).log_input) ((tags_with_tag_set t on (final_tags_of ps)).log_output) ((tags_with_tag_set t on (final_tags_of ps)).mail) (x) (final_value_of_tag (ps ++ (t, on) ∷ []) tag.Setenv)) (final_tag_after_push_is_option_or tag.Passwd t on ps)
    ∙ ap (λ (x : Option Bool). command_tags_of_eight_values ((tags_with_tag_set t on (final_tags_of ps)).exec) ((tags_with_tag_set t on (final_tags_of ps)).follow) ((tags_with_tag_set t on (final_tags_of ps)).intercept) ((tags_with_tag_set t on (final_tags_of ps)).log_input) ((tags_with_tag_set t on (final_tags_of ps)).log_output) ((tags_with_tag_set t on (final_tags_of ps)).mail) ((tags_with_tag_set t on (final_tags_of ps)).passwd) (x)) (final_tag_after_push_is_option_or tag.Setenv t on ps)

pub next_row_sets_its_final_tag : (tables : TablesOf) (rows : List TagRow) (i : ℕ) (d : TagRow) → i < length rows → (old new : CommandTags)
    → new ≡ tags_with_tag_set (get_or rows i d).tag (get_or rows i d).on old → (before : List (Tag × Bool))
    → old ≡ final_tags_of (before ++ take i (map (tag_in_tables tables) rows)) → new ≡ final_tags_of (before ++ take (i + 1) (map (tag_in_tables tables) rows))
next_row_sets_its_final_tag tables rows i d within old new e before is =
    let xs = map (tag_in_tables tables) rows in
    let row = get_or rows i d in
    e ∙ ap (tags_with_tag_set row.tag row.on) is ∙ sym (final_tags_after_push_have_tag_set row.tag row.on (before ++ take i xs))
    ∙ ap final_tags_of (append_assoc before (take i xs) ((row.tag, row.on) ∷ [])
    ∙ ap (λ zs. before ++ zs) (sym (take_more xs i (row.tag, row.on) (omega (arith, within, length-map rows (tag_in_tables tables)))
    ∙ ap (λ z. take i xs ++ z ∷ []) (get_or-map (tag_in_tables tables) rows i d (row.tag, row.on) within))))
