-- Why sudo refuses a parameter of a Defaults line.
use Rattle.std.specs.Prelude.{ℕ, ◌-◌, ◌==◌, ◌&&◌, ◌||◌, not, Bool, true, false, List, [], ◌∷◌, length, drop, take, codes, Option, Some, None, if◌then◌else◌}
use Rattle.std.specs.List.{list_any}
use Rattle.std.specs.Str.{bytes_eq}
use Rattle.sudoers_text.specs.Unit.{is_empty}
use Rattle.sudoers_text.specs.Word.{is_among}
use Rattle.sudoers_grammar.specs.declared.node.Operator.{Operator}
use Rattle.sudoers_grammar.specs.declared.node.Operator.TheVariants as operator
use Rattle.sudoers_grammar.specs.Node.{Param, Setting}
use Rattle.sudoers_grammar.specs.Number.{parts_around_first_byte}
use Rattle.sudoers_grammar.specs.Piece.{has_first_byte, has_byte}
use Rattle.sudoers_defaults.specs.declared.parameter_group.ParameterGroup.{ParameterGroup}
use Rattle.sudoers_defaults.specs.declared.parameter_group.ParameterType.{ParameterType}
use Rattle.sudoers_defaults.specs.declared.parameter_group.ParameterType.TheVariants as type
use Rattle.sudoers_defaults.specs.declared.parameter_group.UseWithoutValue.{UseWithoutValue}
use Rattle.sudoers_defaults.specs.declared.parameter_group.UseWithoutValue.TheVariants as bare
use Rattle.sudoers_defaults.specs.declared.parameter_fault.ParameterFault.{ParameterFault}
use Rattle.sudoers_defaults.specs.declared.parameter_fault.ParameterFault.TheVariants as fault
use Rattle.sudoers_defaults.specs.Values.{words_of_set, is_path, is_path_or_star, is_integer, is_unsigned, is_mode, is_minutes, is_time, is_resource_limit, is_small_number, is_plain_minutes}

abbrev pub is_name_in_group : List ℕ → ParameterGroup → Bool
is_name_in_group name g = list_any (λ n. bytes_eq n.now name) g.names.now

-- the group of the parameter with this name, the first if there are several
abbrev pub group_of_name : List ℕ → List ParameterGroup → Option ParameterGroup
group_of_name name [] = None
group_of_name name (g ∷ gs) = if is_name_in_group name g then Some g else group_of_name name gs

-- The parameter may stand without a value, with or without `!`.
abbrev pub may_stand_without_value : UseWithoutValue → Bool → Bool
may_stand_without_value bare.Both negated = true
may_stand_without_value bare.Negated negated = negated
may_stand_without_value bare.Never negated = false

-- A `=` stands in the text without a backslash. Escaped: the byte before the text is a backslash that escapes.
abbrev pub has_bare_equals : Bool → List ℕ → Bool
has_bare_equals escaped [] = false
has_bare_equals escaped (b ∷ rest) = (b == 61 && not escaped) || has_bare_equals (b == 92 && not escaped) rest

-- The text behind the pairs of `!` that it begins with: sudo drops them before a value.
abbrev pub text_behind_mark_pairs : List ℕ → List ℕ
text_behind_mark_pairs [] = []
text_behind_mark_pairs (b ∷ []) = b ∷ []
text_behind_mark_pairs (b ∷ c ∷ rest) = if b == 33 && c == 33 then text_behind_mark_pairs rest else b ∷ c ∷ rest

-- The text is no value without quotes: it has no bytes, begins with `!` or holds a `=` without a backslash.
abbrev pub is_no_bare_value : List ℕ → Bool
is_no_bare_value text = is_empty text || has_first_byte 33 text || has_bare_equals false text

-- The spelling of a value has no quotes, and is no value without them.
abbrev pub needs_quotes : List ℕ → Bool
needs_quotes spelling = not (has_first_byte 34 spelling) && is_no_bare_value (text_behind_mark_pairs spelling)

-- the bytes before a first NUL
abbrev pub front_to_nul : List ℕ → List ℕ
front_to_nul text = front_of_parts text (parts_around_first_byte 0 text)
  where
    front_of_parts : List ℕ → Option (List ℕ × List ℕ) → List ℕ
    front_of_parts text None = text
    front_of_parts text (Some parts) = parts.0

-- What sudo reads of a value that is spelled so. In quotes it knows the escape `\"` and continuations alone, so that other bytes between the
-- quotes stand for themselves; no type but texts and lists takes a `"`. Without quotes pairs of `!` fall away, and a NUL ends the value.
abbrev pub value_for_sudo : List ℕ → List ℕ → List ℕ
value_for_sudo spelling value =
    if not (has_first_byte 34 spelling) then front_to_nul (drop (length spelling - length (text_behind_mark_pairs spelling)) value)
    else (if has_byte 10 spelling then value
    else take (length spelling - 2) (drop 1 spelling))

abbrev pub is_free_text : ParameterType → Bool
is_free_text type.FreeText = true
is_free_text t = false

abbrev pub is_list : ParameterType → Bool
is_list type.List = true
is_list t = false

-- `+=` and `-=` are for lists.
abbrev pub is_operator_for : ParameterType → Operator → Bool
is_operator_for t operator.Set = true
is_operator_for t o = is_list t

abbrev pub fault_unless : Bool → ParameterFault → Option ParameterFault
fault_unless true f = None
fault_unless false f = Some f

-- the locales that each machine has
abbrev pub locales_of_each_machine : List (List ℕ)
locales_of_each_machine = codes "C" ∷ codes "POSIX" ∷ []

-- A parameter of this type takes the value, if it takes numbers or words.
abbrev pub is_number_or_word_taken : ParameterType → List ℕ → Bool
is_number_or_word_taken type.Integer value = is_integer value
is_number_or_word_taken type.Unsigned value = is_unsigned value
is_number_or_word_taken type.Mode value = is_mode value
is_number_or_word_taken type.Minutes value = is_minutes value
is_number_or_word_taken type.Time value = is_time value
is_number_or_word_taken type.ResourceLimit value = is_resource_limit value
is_number_or_word_taken type.SmallNumber value = is_small_number value
is_number_or_word_taken type.PlainMinutes value = is_plain_minutes value
is_number_or_word_taken (type.OneOf set) value = is_among (words_of_set set) value
is_number_or_word_taken t value = true

-- what a parameter of this type does not take as a value
abbrev pub fault_of_value : ParameterType → List ℕ → Option ParameterFault
fault_of_value type.Flag value = Some fault.NeedlessValue
fault_of_value type.Text value = None
fault_of_value type.FreeText value = None
fault_of_value type.List value = None
fault_of_value type.Locale value = fault_unless (is_among locales_of_each_machine value) fault.NotDecided
fault_of_value type.Path value = fault_unless (is_path value) fault.BadPath
fault_of_value type.PathOrStar value = fault_unless (is_path_or_star value) fault.BadPath
fault_of_value t value = fault_unless (is_number_or_word_taken t value) fault.BadValue

-- what is wrong with a value: it is empty, needs quotes, has an operator that is for lists, or is not taken
abbrev pub fault_of_setting : ParameterType → Setting → List ℕ → Option ParameterFault
fault_of_setting t s spelling =
    if is_empty s.value then Some fault.EmptyValue
    else (if not (is_free_text t) && needs_quotes spelling then Some fault.NeedsQuotes
    else (if not (is_operator_for t s.operator) then Some fault.Operator
    else fault_of_value t (value_for_sudo spelling s.value)))

abbrev pub fault_of_use : ParameterGroup → Bool → Option Setting → List ℕ → Option ParameterFault
fault_of_use k negated None spelling = fault_unless (may_stand_without_value k.without_value negated) fault.NoValue
fault_of_use k negated (Some s) spelling = fault_of_setting k.takes s spelling

abbrev pub fault_if_known : Option ParameterGroup → Param → List ℕ → Option ParameterFault
fault_if_known None p spelling = Some fault.Unknown
fault_if_known (Some k) p spelling = fault_of_use k p.negated p.setting spelling

-- why a parameter is refused whose value is spelled so, where these parameters are known
abbrev pub fault_of_parameter : List ParameterGroup → Param → List ℕ → Option ParameterFault
fault_of_parameter known p spelling = fault_if_known (group_of_name p.name known) p spelling
