-- The words for the kinds of aliases.
use Rattle.std.specs.Prelude.{ℕ, List, codes}
use Rattle.sudoers_grammar.specs.declared.node.Kind.{Kind}
use Rattle.sudoers_grammar.specs.declared.node.Kind.TheVariants as kind

-- the word with which definitions of this kind begin (sudoers(5), Aliases)
abbrev pub alias_line_keyword : Kind → List ℕ
alias_line_keyword kind.User = codes "User_Alias"
alias_line_keyword kind.Runas = codes "Runas_Alias"
alias_line_keyword kind.Host = codes "Host_Alias"
alias_line_keyword kind.Cmnd = codes "Cmnd_Alias"
