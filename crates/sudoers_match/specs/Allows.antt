-- Lists that allow what is asked.
use Rattle.std.specs.Prelude.{Bool, true, false, List}
use Rattle.sudoers_grammar.specs.declared.node.Kind.{Kind}
use Rattle.sudoers_grammar.specs.declared.node.Atom.{Atom}
use Rattle.sudoers_grammar.specs.Node.{Member}
use Rattle.sudoers_tree.specs.Line.{Line}
use Rattle.sudoers_match_list.specs.declared.verdict.Verdict.TheVariants.{Allow}
use Rattle.sudoers_match_list.specs.Flat.{IsListVerdict}

-- The verdict of the list is Allow.
abbrev pub ListAllows : Kind → List Line → (Atom → Bool) → List Member → Type 0
ListAllows k lines test ms = IsListVerdict k lines test ms Allow

-- The list allows, or it does not.
abbrev pub DecidesWhetherListAllows : Kind → List Line → (Atom → Bool) → List Member → Bool → Type 0
DecidesWhetherListAllows k lines test ms true = ListAllows k lines test ms
DecidesWhetherListAllows k lines test ms false = ListAllows k lines test ms → ⊥
