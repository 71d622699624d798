-- A device of the proof, which no public contract cites: names with their kinds as keys.
use Rattle.std.specs.Prelude.{ℕ, Bool, List, ◌∷◌}
use Rattle.std.specs.List.{list_any}
use Rattle.std.specs.Str.{bytes_eq}
use Rattle.sudoers_grammar.specs.declared.node.Kind.{Kind}
use Rattle.sudoers_grammar.specs.declared.node.Kind.TheVariants.{User, Runas, Host, Cmnd}

abbrev pub key_of_kind_and_name : Kind → List ℕ → List ℕ
key_of_kind_and_name User name = 117 ∷ name
key_of_kind_and_name Runas name = 114 ∷ name
key_of_kind_and_name Host name = 104 ∷ name
key_of_kind_and_name Cmnd name = 99 ∷ name

-- the name is among those of these keys
abbrev pub is_name_key_among_keys : List (List ℕ) → Kind → List ℕ → Bool
is_name_key_among_keys keys k name = list_any (bytes_eq (key_of_kind_and_name k name)) keys
