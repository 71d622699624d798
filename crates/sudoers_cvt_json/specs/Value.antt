-- The rules of a policy as JSON. The policy
--
--     User_Alias A = bob, !ann
--     A h1 = (root) NOPASSWD: /bin/ls
--
-- has this text, in one line:
--
--     {"aliases":[{"kind":"User_Alias","members":["bob","!ann"],"name":"A"}],"defaults":[],
--      "specs":[{"groups":[{"commands":[{"command":"/bin/ls","options":[],"runas":{"groups":null,"users":["root"]},
--      "tags":["NOPASSWD"]}],"hosts":["h1"]}],"users":["A"]}]}
use Rattle.std.specs.Prelude.{ℕ, Bool, true, false, List, [], ◌∷◌, ◌++◌, map, codes, Option, Some, None}
use Rattle.std.specs.List.{flat_map}
use Rattle.serde_json.specs.Data.{Data, null, string, array, object, no_members, member}
use Rattle.serde_json.specs.View.{items_of}
use Rattle.serde_json.specs.Written.{compact_text}
use Rattle.sudoers_grammar.specs.declared.node.Kind.{Kind}
use Rattle.sudoers_grammar.specs.declared.node.Kind.TheVariants.{User, Runas, Host, Cmnd}
use Rattle.sudoers_grammar.specs.Node.{Member, RunasSpec, CmdSpec, HostGroup, Def, Param, Scope, Node}
use Rattle.sudoers_grammar.specs.declared.node.OptionName.{OptionName}
use Rattle.sudoers_grammar.specs.declared.node.Tag.{Tag}
use Rattle.sudoers_grammar.specs.Node as node
use Rattle.sudoers_grammar.specs.Kind.{alias_line_keyword}
use Rattle.sudoers_cvt_spell.specs.Members.{printed_member}
use Rattle.sudoers_cvt_spell.specs.Commands.{printed_option, tag_keyword_or_negated}
use Rattle.sudoers_cvt_spell.specs.Parameters.{printed_param, defaults_scope_mark}
use Rattle.sudoers_cvt_rules.specs.Rules.{Rules}

-- ---- lists

abbrev pub array_value_of : List Data → Data
array_value_of ds = array (items_of ds)

abbrev pub string_array_value : List (List ℕ) → Data
string_array_value texts = array_value_of (map string texts)

-- Members as they are printed. first: a line begins with them.
abbrev pub printed_member_texts : Bool → Kind → List Member → List (List ℕ)
printed_member_texts first k [] = []
printed_member_texts first k (m ∷ ms) = printed_member first k m ∷ printed_member_texts false k ms

abbrev pub member_array_value : Bool → Kind → List Member → Data
member_array_value first k ms = string_array_value (printed_member_texts first k ms)

-- ---- commands

-- the users or the groups of a Runas_Spec
abbrev pub runas_part_array_or_null : List Member → Data
runas_part_array_or_null [] = null
runas_part_array_or_null (m ∷ ms) = member_array_value false Runas (m ∷ ms)

abbrev pub runas_object_or_null : Option RunasSpec → Data
runas_object_or_null None = null
runas_object_or_null (Some r) = object (member (codes "groups") (runas_part_array_or_null r.groups) (member (codes "users") (runas_part_array_or_null r.users) no_members))

abbrev pub option_array_value : List (OptionName × List ℕ) → Data
option_array_value options = string_array_value (map (λ (o : OptionName × List ℕ). printed_option o.0 o.1) options)

abbrev pub tag_array_value : List (Tag × Bool) → Data
tag_array_value tags = string_array_value (map (λ (t : Tag × Bool). tag_keyword_or_negated t.0 t.1) tags)

abbrev pub command_object_value : CmdSpec → Data
command_object_value c =
    object (member (codes "command") (string (printed_member false Cmnd c.member))
    (member (codes "options") (option_array_value c.options)
    (member (codes "runas") (runas_object_or_null c.runas)
    (member (codes "tags") (tag_array_value c.tags) no_members))))

-- ---- entries

abbrev pub host_group_object_value : HostGroup → Data
host_group_object_value g =
    object (member (codes "commands") (array_value_of (map command_object_value g.commands))
    (member (codes "hosts") (member_array_value false Host g.hosts) no_members))

abbrev pub spec_object_value : List Member → List HostGroup → Data
spec_object_value users groups =
    object (member (codes "groups") (array_value_of (map host_group_object_value groups))
    (member (codes "users") (member_array_value true User users) no_members))

abbrev pub alias_object_value : Kind → Def → Data
alias_object_value k d =
    object (member (codes "kind") (string (alias_line_keyword k))
    (member (codes "members") (member_array_value false k d.members)
    (member (codes "name") (string d.name) no_members)))

abbrev pub scope_object_or_null : Option Scope → Data
scope_object_or_null None = null
scope_object_or_null (Some s) =
    object (member (codes "members") (member_array_value false s.kind s.members)
    (member (codes "sign") (string (defaults_scope_mark s.kind)) no_members))

abbrev pub defaults_object_value : Option Scope → List Param → Data
defaults_object_value scope params =
    object (member (codes "parameters") (string_array_value (map printed_param params))
    (member (codes "scope") (scope_object_or_null scope) no_members))

-- The entries of a line: one, or as many as an alias line has definitions. Other lines have none.
abbrev pub json_entries_of_node : Node → List Data
json_entries_of_node (node.Defaults scope params) = defaults_object_value scope params ∷ []
json_entries_of_node (node.Alias k defs) = map (alias_object_value k) defs
json_entries_of_node (node.Spec users groups) = spec_object_value users groups ∷ []
json_entries_of_node node.Blank = []
json_entries_of_node node.Comment = []
json_entries_of_node (node.Include dir path) = []

-- ---- rules

abbrev pub rules_object_value : Rules → Data
rules_object_value r =
    object (member (codes "aliases") (array_value_of (flat_map json_entries_of_node r.defs))
    (member (codes "defaults") (array_value_of (flat_map json_entries_of_node r.defaults))
    (member (codes "specs") (array_value_of (flat_map json_entries_of_node r.specs)) no_members)))

-- the text of the rules, and a line end
abbrev pub json_text_of_rules : Rules → List ℕ
json_text_of_rules r = compact_text (rules_object_value r) ++ codes "\n"
