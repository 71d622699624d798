-- What a line says, as a value: lists, members and what they hold. The code has views of tables in its place (sudoers_line_rows).
use Rattle.std.specs.Prelude.{ℕ, Bool, List, Option}
use Rattle.sudoers_grammar.specs.declared.node.Atom.{Atom}
use Rattle.sudoers_grammar.specs.declared.node.DigestKind.{DigestKind}
use Rattle.sudoers_grammar.specs.declared.node.Kind.{Kind}
use Rattle.sudoers_grammar.specs.declared.node.Operator.{Operator}
use Rattle.sudoers_grammar.specs.declared.node.OptionName.{OptionName}
use Rattle.sudoers_grammar.specs.declared.node.Tag.{Tag}

-- A digest of a command's file; of several one is enough (sudoers(5), Digest_Spec).
pub record Digest : Type 0 where
  pub kind : DigestKind
  pub text : List ℕ

-- A member of a list: from its first digest, `!` or other token up to its last token's end. It is negated if an odd number of `!` stands
-- before it. Commands alone have digests.
pub record Member : Type 0 where
  pub start : ℕ
  pub stop : ℕ
  pub negated : Bool
  pub digests : List Digest
  pub atom : Atom

-- A definition of an alias: from its name's first byte up to its last member's end.
pub record Def : Type 0 where
  pub name : List ℕ
  pub start : ℕ
  pub stop : ℕ
  pub members : List Member

-- What a Defaults line is for: `@` hosts, `:` users, `!` commands, `>` runas users (sudoers(5), Defaults).
pub record Scope : Type 0 where
  pub kind : Kind
  pub members : List Member

-- What a parameter is set to, without quotes and escapes.
pub record Setting : Type 0 where
  pub operator : Operator
  pub value : List ℕ

-- A parameter of a Defaults line. It is negated if an odd number of `!` stands before its name.
pub record Param : Type 0 where
  pub negated : Bool
  pub name : List ℕ
  pub setting : Option Setting

-- The users and groups as which a command may be run. A list without members is an absent one (sudoers(5), Runas_Spec).
pub record RunasSpec : Type 0 where
  pub users : List Member
  pub groups : List Member

-- A command with what stands before it; each tag with whether it stands without `NO` (sudoers(5), User specification).
pub record CmdSpec : Type 0 where
  pub runas : Option RunasSpec
  pub options : List (OptionName × List ℕ)
  pub tags : List (Tag × Bool)
  pub member : Member

-- Hosts, and what may be run there (sudoers(5), User specification).
pub record HostGroup : Type 0 where
  pub hosts : List Member
  pub commands : List CmdSpec

-- What a line says (sudoers(5), SUDOERS FILE FORMAT): nothing; a comment alone; a file that is read in this place, or if true all files of
-- a directory; settings of parameters; definitions of aliases of one kind; who may run what, where, and as whom.
pub data Node : Type 0 where
  Blank : Node
  Comment : Node
  Include : Bool → List ℕ → Node
  Defaults : Option Scope → List Param → Node
  Alias : Kind → List Def → Node
  Spec : List Member → List HostGroup → Node
