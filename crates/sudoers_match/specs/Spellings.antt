-- A command that may be spelled in several ways.
use Rattle.std.specs.Prelude.{◌||◌, Bool}
use Rattle.std.specs.List.{list_any}
use Rattle.sudoers_grammar.specs.declared.node.Args.TheVariants as args
use Rattle.sudoers_grammar.specs.declared.node.Atom.{Atom}
use Rattle.sudoers_grammar.specs.declared.node.Atom.TheVariants as atom
use Rattle.sudoers_match_member.specs.declared.people_and_commands.CommandLine.{CommandLine}
use Rattle.sudoers_match_member.specs.Hits.{is_command_atom_match}
use Rattle.sudoers_match.specs.declared.spellings.CommandSpellings.{CommandSpellings}

-- The atom matches one of the spellings.
abbrev pub is_spelled_command_match : CommandSpellings → Atom → Bool
is_spelled_command_match s a = list_any (λ (other : CommandLine). is_command_atom_match other a) s.others || is_command_atom_match s.command a

-- the atom without what it says of arguments
abbrev pub atom_with_any_arguments : Atom → Atom
atom_with_any_arguments (atom.Path path said) = atom.Path path args.Any
atom_with_any_arguments (atom.Sudoedit said) = atom.Sudoedit args.Any
atom_with_any_arguments other = other

-- The atom matches one of the spellings, whatever the arguments are.
abbrev pub is_spelled_path_match : CommandSpellings → Atom → Bool
is_spelled_path_match s a = is_spelled_command_match s (atom_with_any_arguments a)
