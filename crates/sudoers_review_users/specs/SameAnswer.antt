-- Whether two answers say the same, decided. No public contract cites it.
use Rattle.std.specs.Prelude.{◌&&◌, Bool, true, false, Option, Some, None}
use Rattle.sudoers_line_rows.specs.Alike.{is_same_bool}
use Rattle.sudoers_match.specs.Answer.{Answer}
use Rattle.sudoers_compare.specs.SameRow.{are_same_option_values, are_same_tags}

-- The sign, the tags and the options are the same.
abbrev pub has_same_parts : Answer → Answer → Bool
has_same_parts a b = is_same_bool a.allow b.allow && are_same_tags a.tags b.tags && are_same_option_values a.options b.options

-- Both are nothing, or they have the same parts.
abbrev pub are_answers_same : Option Answer → Option Answer → Bool
are_answers_same None None = true
are_answers_same None (Some b) = false
are_answers_same (Some a) None = false
are_answers_same (Some a) (Some b) = has_same_parts a b
