-- Commands with arguments.
use Rattle.std.specs.Prelude.{ℕ, Bool, true, List, [], ◌∷◌, ◌++◌, Option, Some, None, if◌then◌else◌}
use Rattle.sudoers_grammar.specs.Node.{Digest}
use Rattle.sudoers_grammar.specs.declared.node.Args.{Args}
use Rattle.sudoers_grammar.specs.declared.node.Args.TheVariants.{Any, Nothing, Pattern}
use Rattle.sudoers_grammar.specs.declared.node.Atom.{Atom}
use Rattle.sudoers_grammar.specs.declared.node.Atom.TheVariants as atom
use Rattle.sudoers_grammar.specs.declared.command_arguments.ArglessCommand.{ArglessCommand}
use Rattle.sudoers_grammar.specs.declared.command_arguments.ArglessCommand.TheVariants as program
use Rattle.sudoers_grammar.specs.declared.pattern.PatternSpelling.TheVariants.{Command}
use Rattle.sudoers_grammar.specs.Pattern.{pattern_of_text}
use Rattle.sudoers_grammar.specs.Atom.{is_argument_of_empty_quotes, is_command_allowing_digests}

-- A command with digests is one that may have them.
abbrev pub has_digests_only_if_allowed : List Digest → Atom → Bool
has_digests_only_if_allowed [] a = true
has_digests_only_if_allowed (d ∷ ds) a = is_command_allowing_digests a

-- what can have arguments
abbrev pub argless_command_of_atom : Atom → Option ArglessCommand
argless_command_of_atom (atom.Path path args) = Some (program.Path path)
argless_command_of_atom (atom.Sudoedit args) = Some program.Sudoedit
argless_command_of_atom a = None

abbrev pub atom_of_command_and_args : ArglessCommand → Args → Atom
atom_of_command_and_args (program.Path path) args = atom.Path path args
atom_of_command_and_args program.Sudoedit args = atom.Sudoedit args

-- the arguments with one more
abbrev pub args_with_one_more : Args → List ℕ → Args
args_with_one_more Any text = if is_argument_of_empty_quotes text then Nothing else Pattern (pattern_of_text Command text)
args_with_one_more Nothing text = Pattern (34 ∷ 34 ∷ 32 ∷ pattern_of_text Command text)
args_with_one_more (Pattern p) text = Pattern (p ++ 32 ∷ pattern_of_text Command text)
