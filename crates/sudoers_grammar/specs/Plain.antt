-- Members of lists whose token is their text.
use Rattle.std.specs.Prelude.{ℕ, ◌==◌, ◌||◌, not, Bool, false, List, [], ◌∷◌}
use Rattle.sudoers_text.specs.Unit.{is_digit}
use Rattle.sudoers_grammar.specs.declared.node.Atom.{Atom}
use Rattle.sudoers_grammar.specs.declared.node.Atom.TheVariants as atom
use Rattle.sudoers_grammar.specs.declared.node.Args.TheVariants.{Any}
use Rattle.sudoers_grammar.specs.declared.plain_atom.PlainAtom.{PlainAtom}
use Rattle.sudoers_grammar.specs.declared.plain_atom.PlainAtom.TheVariants as plain

-- the member with this text
abbrev pub atom_of_plain : PlainAtom → List ℕ → Atom
atom_of_plain plain.All text = atom.All
atom_of_plain plain.Alias text = atom.Alias text
atom_of_plain plain.Name text = atom.Name text
atom_of_plain plain.Host text = atom.Host text
atom_of_plain plain.Path text = atom.Path text Any

-- none of `%`, `+` and `#`
abbrev pub has_first_byte_of_plain_name : List ℕ → Bool
has_first_byte_of_plain_name [] = false
has_first_byte_of_plain_name (b ∷ rest) = not (b == 37 || b == 43 || b == 35)

-- none of `+`, `.`, `/` and the digits
abbrev pub has_first_byte_of_plain_host : List ℕ → Bool
has_first_byte_of_plain_host [] = false
has_first_byte_of_plain_host (b ∷ rest) = not (b == 43 || b == 46 || b == 47 || is_digit b)
