-- The grammar: which tokens a line has that says this. Each rule says of some tokens that they begin with such a thing, and
-- which tokens are left behind it.
use Rattle.std.specs.Prelude.{◌≡◌, ℕ, Bool, true, false, not, List, [], ◌∷◌, ◌++◌, Option, Some, None, codes}
use Rattle.std.specs.List.{AllByRecursion}
use Rattle.sudoers_grammar.specs.declared.node.Kind.{Kind}
use Rattle.sudoers_grammar.specs.declared.node.Kind.TheVariants.{User, Runas, Host, Cmnd}
use Rattle.sudoers_grammar.specs.declared.node.OptionName.{OptionName}
use Rattle.sudoers_grammar.specs.declared.node.Tag.{Tag}
use Rattle.sudoers_grammar.specs.Node.{Digest, Member, Def, RunasSpec, CmdSpec, HostGroup, Scope, Setting, Param, Node}
use Rattle.sudoers_grammar.specs.Node as node
use Rattle.sudoers_text.specs.Value.{value_of_word}
use Rattle.sudoers_grammar.specs.Piece.{TokenWithBytes, is_arg, is_digest, is_parameter_name_kind, is_value, is_comment, is_mark_of_byte, is_given_word, is_alias_name, alias_kind_of_token, include_is_dir_of_token, option_of_token, tag_and_sign_of_token, digest_kind_of_token, operator_of_token, scope_kind_of_sign_token_after}
use Rattle.sudoers_grammar.specs.Atom.{atom_of_token, command_atom_of_tokens, is_command_allowing_digests, option_value_of_token, include_path_of_token}

abbrev pub IsMark : ℕ → TokenWithBytes → Type 0
IsMark b t = is_mark_of_byte b t ≡ true

-- ---- one after another

-- P*
abbrev pub Many : {X : Type 0} → (List TokenWithBytes → X → List TokenWithBytes → Type 0) → List TokenWithBytes → List X → List TokenWithBytes → Type 0
Many P ts [] rest = ts ≡ rest
Many P ts (x ∷ xs) rest = (behind : List TokenWithBytes) × P ts x behind × Many P behind xs rest

-- a mark, and then P
pub record MarkThenRule {X : Type 0} (b : ℕ) (P : List TokenWithBytes → X → List TokenWithBytes → Type 0) (ts : List TokenWithBytes) (x : X) (rest : List TokenWithBytes) : Type 0 where
  pub mark : TokenWithBytes
  pub behind : List TokenWithBytes
  pub split : ts ≡ mark ∷ behind
  pub is_mark : IsMark b mark
  pub is : P behind x rest

-- P, and then a mark and P again and again
abbrev pub Separated : {X : Type 0} → ℕ → (List TokenWithBytes → X → List TokenWithBytes → Type 0) → List TokenWithBytes → List X → List TokenWithBytes → Type 0
Separated b P ts [] rest = ⊥
Separated b P ts (x ∷ xs) rest = (behind : List TokenWithBytes) × P ts x behind × Many (MarkThenRule b P) behind xs rest

-- a list by this rule, or nothing
abbrev pub Perhaps : {X : Type 0} → (List TokenWithBytes → List X → List TokenWithBytes → Type 0) → List TokenWithBytes → List X → List TokenWithBytes → Type 0
Perhaps P ts [] rest = ts ≡ rest
Perhaps P ts (x ∷ xs) rest = P ts (x ∷ xs) rest

-- ---- lists of members (sudoers(5), User_List, Runas_List, Host_List)

abbrev pub is_odd_count_of_tokens : List TokenWithBytes → Bool
is_odd_count_of_tokens [] = false
is_odd_count_of_tokens (t ∷ ts) = not (is_odd_count_of_tokens ts)

-- where the first token begins
abbrev pub start_of_first_token : List TokenWithBytes → ℕ
start_of_first_token [] = 0
start_of_first_token (t ∷ ts) = t.start

-- "!"* Atom
pub record IsMember (k : Kind) (ts : List TokenWithBytes) (m : Member) (rest : List TokenWithBytes) : Type 0 where
  pub signs : List TokenWithBytes
  pub last : TokenWithBytes
  pub split : ts ≡ signs ++ last ∷ rest
  pub are_signs : AllByRecursion (IsMark 33) signs
  pub atom : atom_of_token k last ≡ Some m.atom
  pub negated : m.negated ≡ is_odd_count_of_tokens signs
  pub digests : m.digests ≡ []
  pub start : m.start ≡ start_of_first_token ts
  pub stop : m.stop ≡ last.stop

-- Member ("," Member)*
abbrev pub AreMembers : Kind → List TokenWithBytes → List Member → List TokenWithBytes → Type 0
AreMembers k = Separated 44 (IsMember k)

-- ---- commands (sudoers(5), Cmnd_List, Digest_List)

-- shaN ":" digest
pub record IsDigest (ts : List TokenWithBytes) (d : Digest) (rest : List TokenWithBytes) : Type 0 where
  pub word : TokenWithBytes
  pub colon : TokenWithBytes
  pub digest : TokenWithBytes
  pub split : ts ≡ word ∷ colon ∷ digest ∷ rest
  pub is_kind : digest_kind_of_token word ≡ Some d.kind
  pub is_colon : IsMark 58 colon
  pub is_digest : is_digest digest.kind ≡ true
  pub text : d.text ≡ digest.text

abbrev pub IsArg : TokenWithBytes → Type 0
IsArg t = is_arg t.kind ≡ true

-- where the last token ends
abbrev pub stop_of_last_token : TokenWithBytes → List TokenWithBytes → ℕ
stop_of_last_token t [] = t.stop
stop_of_last_token t (a ∷ args) = stop_of_last_token a args

-- Digests before it are fine.
abbrev pub MayHaveDigests : List Digest → Member → Type 0
MayHaveDigests [] m = Unit {0}
MayHaveDigests (d ∷ ds) m = is_command_allowing_digests m.atom ≡ true

-- (Digest ("," Digest)*)? "!"* CmdAtom Arg*
pub record IsCommand (ts : List TokenWithBytes) (m : Member) (rest : List TokenWithBytes) : Type 0 where
  pub behind : List TokenWithBytes
  pub digests : Perhaps (Separated 44 IsDigest) ts m.digests behind
  pub signs : List TokenWithBytes
  pub word : TokenWithBytes
  pub args : List TokenWithBytes
  pub split : behind ≡ signs ++ (word ∷ (args ++ rest))
  pub are_signs : AllByRecursion (IsMark 33) signs
  pub are_args : AllByRecursion IsArg args
  pub atom : command_atom_of_tokens word args ≡ Some m.atom
  pub suits : MayHaveDigests m.digests m
  pub negated : m.negated ≡ is_odd_count_of_tokens signs
  pub start : m.start ≡ start_of_first_token ts
  pub stop : m.stop ≡ stop_of_last_token word args

-- a list of commands
abbrev pub AreCommands : List TokenWithBytes → List Member → List TokenWithBytes → Type 0
AreCommands = Separated 44 IsCommand

-- ---- aliases (sudoers(5), Aliases)

-- List, of that kind
abbrev pub IsAliasMemberList : Kind → List TokenWithBytes → List Member → List TokenWithBytes → Type 0
IsAliasMemberList User = AreMembers User
IsAliasMemberList Runas = AreMembers Runas
IsAliasMemberList Host = AreMembers Host
IsAliasMemberList Cmnd = AreCommands

-- where the last member ends
abbrev pub stop_of_last_member : List Member → ℕ
stop_of_last_member [] = 0
stop_of_last_member (m ∷ []) = m.stop
stop_of_last_member (m ∷ n ∷ ms) = stop_of_last_member (n ∷ ms)

-- NAME "=" List
pub record IsDef (k : Kind) (ts : List TokenWithBytes) (d : Def) (rest : List TokenWithBytes) : Type 0 where
  pub name : TokenWithBytes
  pub equals : TokenWithBytes
  pub behind : List TokenWithBytes
  pub split : ts ≡ name ∷ equals ∷ behind
  pub is_name : is_alias_name name ≡ true
  pub is_equals : IsMark 61 equals
  pub members : IsAliasMemberList k behind d.members rest
  pub same_name : d.name ≡ name.text
  pub start : d.start ≡ name.start
  pub stop : d.stop ≡ stop_of_last_member d.members

-- Kind Def (":" Def)*
pub record IsAliasLine (k : Kind) (ts : List TokenWithBytes) (ds : List Def) (rest : List TokenWithBytes) : Type 0 where
  pub word : TokenWithBytes
  pub behind : List TokenWithBytes
  pub split : ts ≡ word ∷ behind
  pub is_kind : alias_kind_of_token word ≡ Some k
  pub defs : Separated 58 (IsDef k) behind ds rest

-- ---- user specifications (sudoers(5), User specification)

-- "(" List? (":" List)? ")"
pub record IsRunas (ts : List TokenWithBytes) (r : RunasSpec) (rest : List TokenWithBytes) : Type 0 where
  pub opening : TokenWithBytes
  pub inside : List TokenWithBytes
  pub behind_users : List TokenWithBytes
  pub behind_groups : List TokenWithBytes
  pub closing : TokenWithBytes
  pub split : ts ≡ opening ∷ inside
  pub is_open : IsMark 40 opening
  pub users : Perhaps (AreMembers Runas) inside r.users behind_users
  pub groups : Perhaps (MarkThenRule 58 (AreMembers Runas)) behind_users r.groups behind_groups
  pub split_groups : behind_groups ≡ closing ∷ rest
  pub is_close : IsMark 41 closing

abbrev pub PerhapsRunas : List TokenWithBytes → Option RunasSpec → List TokenWithBytes → Type 0
PerhapsRunas ts None rest = ts ≡ rest
PerhapsRunas ts (Some r) rest = IsRunas ts r rest

-- OptionName "=" (Word | Quoted)
pub record IsOption (ts : List TokenWithBytes) (o : OptionName × List ℕ) (rest : List TokenWithBytes) : Type 0 where
  pub name : TokenWithBytes
  pub equals : TokenWithBytes
  pub value : TokenWithBytes
  pub split : ts ≡ name ∷ equals ∷ value ∷ rest
  pub is_name : option_of_token name ≡ Some o.0
  pub is_equals : IsMark 61 equals
  pub is_value : option_value_of_token o.0 value ≡ Some o.1

-- Tag ":"
pub record IsTag (ts : List TokenWithBytes) (g : Tag × Bool) (rest : List TokenWithBytes) : Type 0 where
  pub word : TokenWithBytes
  pub colon : TokenWithBytes
  pub split : ts ≡ word ∷ colon ∷ rest
  pub is_tag : tag_and_sign_of_token word ≡ Some g
  pub is_colon : IsMark 58 colon

-- Runas? Option* (Tag ":")* Command
pub record IsCmdSpec (ts : List TokenWithBytes) (c : CmdSpec) (rest : List TokenWithBytes) : Type 0 where
  pub behind_runas : List TokenWithBytes
  pub behind_options : List TokenWithBytes
  pub behind_tags : List TokenWithBytes
  pub runas : PerhapsRunas ts c.runas behind_runas
  pub options : Many IsOption behind_runas c.options behind_options
  pub tags : Many IsTag behind_options c.tags behind_tags
  pub member : IsCommand behind_tags c.member rest

-- Hosts "=" CmdSpec ("," CmdSpec)*
pub record IsHostGroup (ts : List TokenWithBytes) (g : HostGroup) (rest : List TokenWithBytes) : Type 0 where
  pub behind_hosts : List TokenWithBytes
  pub equals : TokenWithBytes
  pub behind : List TokenWithBytes
  pub hosts : AreMembers Host ts g.hosts behind_hosts
  pub split : behind_hosts ≡ equals ∷ behind
  pub is_equals : IsMark 61 equals
  pub commands : Separated 44 IsCmdSpec behind g.commands rest

abbrev pub is_defaults : TokenWithBytes → Bool
is_defaults t = is_given_word (codes "Defaults") t

-- The line begins with a word that begins no specification: of an include, an alias or Defaults.
pub record BeginsNoAliasIncludeOrDefaults (t : TokenWithBytes) : Type 0 where
  pub no_kind : alias_kind_of_token t ≡ None
  pub no_include : include_is_dir_of_token t ≡ None
  pub no_defaults : is_defaults t ≡ false

abbrev pub BeginsSpec : List TokenWithBytes → Type 0
BeginsSpec [] = Unit {0}
BeginsSpec (t ∷ ts) = BeginsNoAliasIncludeOrDefaults t

-- Users Group (":" Group)*
pub record IsUserSpec (ts : List TokenWithBytes) (us : List Member) (gs : List HostGroup) (rest : List TokenWithBytes) : Type 0 where
  pub behind : List TokenWithBytes
  pub begins : BeginsSpec ts
  pub users : AreMembers User ts us behind
  pub groups : Separated 58 IsHostGroup behind gs rest

-- ---- Defaults (sudoers(5), Defaults)

-- Commands have no digests there.
abbrev pub IsScopeCommand : List TokenWithBytes → Member → List TokenWithBytes → Type 0
IsScopeCommand ts m rest = (m.digests ≡ []) × IsCommand ts m rest

abbrev pub IsScopeMemberList : Kind → List TokenWithBytes → List Member → List TokenWithBytes → Type 0
IsScopeMemberList User = AreMembers User
IsScopeMemberList Runas = AreMembers Runas
IsScopeMemberList Host = AreMembers Host
IsScopeMemberList Cmnd = Separated 44 IsScopeCommand

-- Sign List, directly behind the word that ends at this byte
pub record IsScope (stop : ℕ) (ts : List TokenWithBytes) (s : Scope) (rest : List TokenWithBytes) : Type 0 where
  pub sign : TokenWithBytes
  pub behind : List TokenWithBytes
  pub split : ts ≡ sign ∷ behind
  pub is_sign : scope_kind_of_sign_token_after stop sign ≡ Some s.kind
  pub members : IsScopeMemberList s.kind behind s.members rest

-- No scope's sign stands there.
abbrev pub BeginsNoScope : ℕ → List TokenWithBytes → Type 0
BeginsNoScope stop [] = Unit {0}
BeginsNoScope stop (t ∷ ts) = scope_kind_of_sign_token_after stop t ≡ None

abbrev pub PerhapsScope : ℕ → List TokenWithBytes → Option Scope → List TokenWithBytes → Type 0
PerhapsScope stop ts None rest = (ts ≡ rest) × BeginsNoScope stop ts
PerhapsScope stop ts (Some s) rest = IsScope stop ts s rest

-- "!"* Name
pub record IsFlag (ts : List TokenWithBytes) (p : Param) (rest : List TokenWithBytes) : Type 0 where
  pub signs : List TokenWithBytes
  pub name : TokenWithBytes
  pub split : ts ≡ signs ++ name ∷ rest
  pub are_signs : AllByRecursion (IsMark 33) signs
  pub is_name : is_parameter_name_kind name.kind ≡ true
  pub negated : p.negated ≡ is_odd_count_of_tokens signs
  pub same_name : p.name ≡ name.text

-- Name ("=" | "+=" | "-=") Value
pub record IsSetting (ts : List TokenWithBytes) (p : Param) (s : Setting) (rest : List TokenWithBytes) : Type 0 where
  pub name : TokenWithBytes
  pub operator : TokenWithBytes
  pub value : TokenWithBytes
  pub split : ts ≡ name ∷ operator ∷ value ∷ rest
  pub is_name : is_parameter_name_kind name.kind ≡ true
  pub is_operator : operator_of_token operator ≡ Some s.operator
  pub is_value : is_value value.kind ≡ true
  pub not_negated : p.negated ≡ false
  pub same_name : p.name ≡ name.text
  pub same_value : s.value ≡ value_of_word value.text

abbrev pub IsFlagOrSetting : Option Setting → List TokenWithBytes → Param → List TokenWithBytes → Type 0
IsFlagOrSetting None ts p rest = IsFlag ts p rest
IsFlagOrSetting (Some s) ts p rest = IsSetting ts p s rest

abbrev pub IsParam : List TokenWithBytes → Param → List TokenWithBytes → Type 0
IsParam ts p rest = IsFlagOrSetting p.setting ts p rest

-- "Defaults" (Sign List)? Param ("," Param)*
pub record IsDefaultsLine (ts : List TokenWithBytes) (scope : Option Scope) (ps : List Param) (rest : List TokenWithBytes) : Type 0 where
  pub word : TokenWithBytes
  pub behind : List TokenWithBytes
  pub behind_scope : List TokenWithBytes
  pub split : ts ≡ word ∷ behind
  pub is_word : is_defaults word ≡ true
  pub in_scope : PerhapsScope word.stop behind scope behind_scope
  pub params : Separated 44 IsParam behind_scope ps rest

-- ---- includes (sudoers(5), Including other files from within sudoers)

-- ("@include" | "#include" | "@includedir" | "#includedir") path
pub record IsIncludeLine (dir : Bool) (path : List ℕ) (ts rest : List TokenWithBytes) : Type 0 where
  pub word : TokenWithBytes
  pub name : TokenWithBytes
  pub split : ts ≡ word ∷ name ∷ rest
  pub is_include : include_is_dir_of_token word ≡ Some dir
  pub is_path : include_path_of_token name ≡ Some path

-- ---- lines

-- Nothing is left, or a comment.
abbrev pub IsEnd : List TokenWithBytes → Type 0
IsEnd [] = Unit {0}
IsEnd (t ∷ []) = is_comment t.kind ≡ true
IsEnd (t ∷ u ∷ ts) = ⊥

-- The tokens say this but for what is left.
abbrev pub ReadsNodeWithRest : List TokenWithBytes → Node → List TokenWithBytes → Type 0
ReadsNodeWithRest ts node.Blank rest = (ts ≡ []) × (rest ≡ [])
ReadsNodeWithRest ts node.Comment rest = (t : TokenWithBytes) × (ts ≡ t ∷ []) × (is_comment t.kind ≡ true) × (rest ≡ [])
ReadsNodeWithRest ts (node.Include dir path) rest = IsIncludeLine dir path ts rest
ReadsNodeWithRest ts (node.Defaults scope params) rest = IsDefaultsLine ts scope params rest
ReadsNodeWithRest ts (node.Alias k defs) rest = IsAliasLine k ts defs rest
ReadsNodeWithRest ts (node.Spec users groups) rest = IsUserSpec ts users groups rest

-- Line: what these tokens say, with a comment behind it or none
abbrev pub Reads : List TokenWithBytes → Node → Type 0
Reads ts n = (rest : List TokenWithBytes) × ReadsNodeWithRest ts n rest × IsEnd rest
