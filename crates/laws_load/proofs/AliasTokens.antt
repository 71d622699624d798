-- Each member of a list that is an alias ends with a token that is its name.
use Rattle.std.proofs.Common.{◌≡◌, ℕ, Bool, true, false, if◌then◌else◌, List, [], ◌∷◌, ◌++◌, Option, Some, None, refl, ap, subst, ◌∙◌}
use Rattle.std.specs.List.{AllByRecursion, flat_map}
use Rattle.std.specs.Prelude.{codes}
use Rattle.std.specs.Str.{bytes_eq}
use Rattle.sudoers_text.specs.declared.token.TokenKind.{TokenKind}
use Rattle.sudoers_text.specs.declared.token.TokenKind.TheVariants as kind
use Rattle.sudoers_grammar.specs.declared.node.Args.{Args}
use Rattle.sudoers_grammar.specs.declared.node.Atom.TheVariants as atom
use Rattle.sudoers_grammar.specs.declared.node.Kind.{Kind}
use Rattle.sudoers_grammar.specs.declared.node.Kind.TheVariants.{User, Runas, Host, Cmnd}
use Rattle.sudoers_grammar.specs.declared.node.OptionName.{OptionName}
use Rattle.sudoers_grammar.specs.declared.node.Tag.{Tag}
use Rattle.sudoers_grammar.specs.declared.pattern.PatternSpelling.TheVariants.{Command}
use Rattle.sudoers_grammar.specs.Node.{Digest, Member, Def, RunasSpec, CmdSpec, HostGroup, Scope, Node}
use Rattle.sudoers_grammar.specs.Node as node
use Rattle.sudoers_grammar.specs.Atom.{atom_of_token, args_of_argument_tokens, command_atom_of_tokens, command_atom_with_args}
use Rattle.sudoers_grammar.specs.Grammar.{Many, MarkThenRule, Separated, Perhaps, stop_of_last_token, IsMember, AreMembers, IsDigest, IsCommand, AreCommands, IsAliasMemberList, IsDef, PerhapsRunas, IsOption, IsTag, IsCmdSpec, IsHostGroup, IsScopeCommand, IsScopeMemberList, PerhapsScope, ReadsNodeWithRest, Reads}
use Rattle.sudoers_grammar.specs.Listed.{ListedMember, listed_members_of_command, listed_members_of_host_group, listed_members_of_node, listed_members_of_runas, listed_members_of_scope, members_listed_as_kind}
use Rattle.sudoers_grammar.specs.Pattern.{pattern_of_text}
use Rattle.sudoers_grammar.specs.Piece.{TokenWithBytes, has_first_byte, has_last_byte}
use Rattle.sudoers_grammar.proofs.AliasWords.{alias_atom_is_word_of_its_name}
use Rattle.laws_load.proofs.ListProperties.{property_of_append_holds_of_its_end, property_of_each_part_holds_of_flat_map, property_of_two_lists_holds_of_append, property_of_values_holds_of_map}

-- ---- commands that are aliases

command_with_arguments_is_no_alias : (k : TokenKind) (text : List ℕ) (args : Args) (name : List ℕ)
    → command_atom_with_args k text args ≡ Some (atom.Alias name) → ⊥
unfolding command_atom_with_args
command_with_arguments_is_no_alias kind.Word text args name e = by (bytes_eq text (codes "sudoedit")) e
  where
    by : (t : Bool) → (if t then Some (atom.Sudoedit args) else None) ≡ Some (atom.Alias name) → ⊥
    by true f = cc
    by false f = cc
command_with_arguments_is_no_alias kind.Path text args name e = by (has_last_byte 47 text) e
  where
    by : (t : Bool) → (if t then None else Some (atom.Path (pattern_of_text Command text) args)) ≡ Some (atom.Alias name) → ⊥
    by true f = cc
    by false f = cc
command_with_arguments_is_no_alias k text args name e = cc

-- A command that is an alias is one word.
command_of_alias_is_its_word : (word : TokenWithBytes) (args : List TokenWithBytes) (name : List ℕ)
    → command_atom_of_tokens word args ≡ Some (atom.Alias name)
    → (word.text ≡ name) × (stop_of_last_token word args ≡ word.stop)
unfolding atom_of_token
command_of_alias_is_its_word word [] name e = ((alias_atom_is_word_of_its_name Cmnd word name e).1, refl)
command_of_alias_is_its_word word (arg ∷ args) name e = absurd (by (has_first_byte 94 arg.text) e)
  where
    values : Args
    values = args_of_argument_tokens (arg ∷ args)

    by : (t : Bool) → (if t then None else command_atom_with_args word.kind word.text values) ≡ Some (atom.Alias name) → ⊥
    by true f = cc
    by false f = command_with_arguments_is_no_alias word.kind word.text values name f

-- ---- tokens with a property

module _ (T : TokenWithBytes → Type 0) where
  -- If the member is an alias, a token with the property is its name, and ends where the member ends.
  abbrev pub EndsWithAliasToken : Member → Type 0
  EndsWithAliasToken m = (name : List ℕ) → m.atom ≡ atom.Alias name → (t : TokenWithBytes) × T t × (t.text ≡ name) × (m.stop ≡ t.stop)

  abbrev AllEndWithAliasTokens : List Member → Type 0
  AllEndWithAliasTokens = AllByRecursion EndsWithAliasToken

  -- the same of members that are listed with their kinds
  abbrev pub AllListedEndWithAliasTokens : List ListedMember → Type 0
  AllListedEndWithAliasTokens = AllByRecursion (λ (l : ListedMember). EndsWithAliasToken l.1)

  -- From tokens with the property, the rule reads a thing with a property of its own, and leaves such tokens.
  abbrev ReadsFromTokens : (X : Type 0) → (List TokenWithBytes → X → List TokenWithBytes → Type 0) → (X → Type 0) → Type 0
  ReadsFromTokens X P Q = (ts rest : List TokenWithBytes) (x : X) → AllByRecursion T ts → P ts x rest → Q x × AllByRecursion T rest

  -- ---- one after another

  many_rule_reads : {X : Type 0} (P : List TokenWithBytes → X → List TokenWithBytes → Type 0) (Q : X → Type 0) → ReadsFromTokens X P Q
      → ReadsFromTokens (List X) (Many P) (AllByRecursion Q)
  many_rule_reads P Q reads ts rest [] all is = (tt, subst (AllByRecursion T) is all)
  many_rule_reads P Q reads ts rest (x ∷ xs) all is =
      let first = reads ts is.0 x all is.1 in
      let others = many_rule_reads P Q reads is.0 rest xs first.1 is.2 in
      ((first.0, others.0), others.1)

  mark_then_rule_reads : {X : Type 0} (b : ℕ) (P : List TokenWithBytes → X → List TokenWithBytes → Type 0) (Q : X → Type 0) → ReadsFromTokens X P Q
      → ReadsFromTokens X (MarkThenRule b P) Q
  mark_then_rule_reads b P Q reads ts rest x all is =
      let there : AllByRecursion T (is.mark ∷ is.behind) = subst (AllByRecursion T) is.split all in
      reads is.behind rest x there.1 is.is

  separated_rule_reads : {X : Type 0} (b : ℕ) (P : List TokenWithBytes → X → List TokenWithBytes → Type 0) (Q : X → Type 0) → ReadsFromTokens X P Q
      → ReadsFromTokens (List X) (Separated b P) (AllByRecursion Q)
  separated_rule_reads b P Q reads ts rest [] all is = absurd is
  separated_rule_reads b P Q reads ts rest (x ∷ xs) all is =
      let first = reads ts is.0 x all is.1 in
      let others = many_rule_reads (MarkThenRule b P) Q (mark_then_rule_reads b P Q reads) is.0 rest xs first.1 is.2 in
      ((first.0, others.0), others.1)

  perhaps_rule_reads : {X : Type 0} (P : List TokenWithBytes → List X → List TokenWithBytes → Type 0) (Q : X → Type 0)
      → ReadsFromTokens (List X) P (AllByRecursion Q)
      → ReadsFromTokens (List X) (Perhaps P) (AllByRecursion Q)
  perhaps_rule_reads P Q reads ts rest [] all is = (tt, subst (AllByRecursion T) is all)
  perhaps_rule_reads P Q reads ts rest (x ∷ xs) all is = reads ts rest (x ∷ xs) all is

  -- ---- members

  listed_members_end_with_alias_tokens : (k : Kind) (ms : List Member) → AllEndWithAliasTokens ms
      → AllListedEndWithAliasTokens (members_listed_as_kind k ms)
  listed_members_end_with_alias_tokens k ms all =
      property_of_values_holds_of_map (λ (l : ListedMember). EndsWithAliasToken l.1) (λ (m : Member). (k, m)) ms all

  both_lists_end_with_alias_tokens : (ls more : List ListedMember) → AllListedEndWithAliasTokens ls → AllListedEndWithAliasTokens more
      → AllListedEndWithAliasTokens (ls ++ more)
  both_lists_end_with_alias_tokens = property_of_two_lists_holds_of_append (λ (l : ListedMember). EndsWithAliasToken l.1)

  parts_end_with_alias_tokens : {X : Type 0} (f : X → List ListedMember) (xs : List X) → AllByRecursion (λ x. AllListedEndWithAliasTokens (f x)) xs
      → AllListedEndWithAliasTokens (flat_map f xs)
  parts_end_with_alias_tokens f xs = property_of_each_part_holds_of_flat_map (λ (l : ListedMember). EndsWithAliasToken l.1) f xs

  member_ends_with_alias_token : (k : Kind) → ReadsFromTokens Member (IsMember k) EndsWithAliasToken
  member_ends_with_alias_token k ts rest m all is = (
    λ name named. (is.last, there.0, (alias_atom_is_word_of_its_name k is.last name (is.atom ∙ ap (λ a. Some a) named)).1, is.stop),
    there.1,
  )
    where
      there : AllByRecursion T (is.last ∷ rest)
      there = property_of_append_holds_of_its_end T is.signs (is.last ∷ rest) (subst (AllByRecursion T) is.split all)

  members_end_with_alias_tokens : (k : Kind) → ReadsFromTokens (List Member) (AreMembers k) AllEndWithAliasTokens
  members_end_with_alias_tokens k = separated_rule_reads 44 (IsMember k) EndsWithAliasToken (member_ends_with_alias_token k)

  -- ---- commands

  abbrev HasNoOwnProperty : {X : Type 0} → X → Type 0
  HasNoOwnProperty x = Unit {0}

  digest_leaves_tokens : ReadsFromTokens Digest IsDigest HasNoOwnProperty
  digest_leaves_tokens ts rest d all is =
      let there : AllByRecursion T (is.word ∷ is.colon ∷ is.digest ∷ rest) = subst (AllByRecursion T) is.split all in
      (tt, there.1.1.1)

  digests_leave_tokens : ReadsFromTokens (List Digest) (Perhaps (Separated 44 IsDigest)) (AllByRecursion HasNoOwnProperty)
  digests_leave_tokens =
      perhaps_rule_reads (Separated 44 IsDigest) HasNoOwnProperty (separated_rule_reads 44 IsDigest HasNoOwnProperty digest_leaves_tokens)

  command_ends_with_alias_token : ReadsFromTokens Member IsCommand EndsWithAliasToken
  command_ends_with_alias_token ts rest m all is = (
    λ name named. let word = command_of_alias_is_its_word is.word is.args name (is.atom ∙ ap (λ a. Some a) named) in
        (is.word, there.0, word.0, is.stop ∙ word.1),
    property_of_append_holds_of_its_end T is.args rest there.1,
  )
    where
      behind : AllByRecursion T is.behind
      behind = (digests_leave_tokens ts is.behind m.digests all is.digests).1

      there : AllByRecursion T (is.word ∷ (is.args ++ rest))
      there = property_of_append_holds_of_its_end T is.signs (is.word ∷ (is.args ++ rest)) (subst (AllByRecursion T) is.split behind)

  commands_end_with_alias_tokens : ReadsFromTokens (List Member) AreCommands AllEndWithAliasTokens
  commands_end_with_alias_tokens = separated_rule_reads 44 IsCommand EndsWithAliasToken command_ends_with_alias_token

  -- ---- definitions

  alias_members_end_with_alias_tokens : (k : Kind) → ReadsFromTokens (List Member) (IsAliasMemberList k) AllEndWithAliasTokens
  alias_members_end_with_alias_tokens User = members_end_with_alias_tokens User
  alias_members_end_with_alias_tokens Runas = members_end_with_alias_tokens Runas
  alias_members_end_with_alias_tokens Host = members_end_with_alias_tokens Host
  alias_members_end_with_alias_tokens Cmnd = commands_end_with_alias_tokens

  definition_ends_with_alias_tokens : (k : Kind)
      → ReadsFromTokens Def (IsDef k) (λ d. AllListedEndWithAliasTokens (members_listed_as_kind k d.members))
  definition_ends_with_alias_tokens k ts rest d all is =
      let there : AllByRecursion T (is.name ∷ is.equals ∷ is.behind) = subst (AllByRecursion T) is.split all in
      let members = alias_members_end_with_alias_tokens k is.behind rest d.members there.1.1 is.members in
      (listed_members_end_with_alias_tokens k d.members members.0, members.1)

  -- ---- user specifications

  runas_ends_with_alias_tokens : ReadsFromTokens (Option RunasSpec) PerhapsRunas (λ r. AllListedEndWithAliasTokens (listed_members_of_runas r))
  runas_ends_with_alias_tokens ts rest None all is = (tt, subst (AllByRecursion T) is all)
  runas_ends_with_alias_tokens ts rest (Some r) all is =
      let there : AllByRecursion T (is.opening ∷ is.inside) = subst (AllByRecursion T) is.split all in
      let lists = members_end_with_alias_tokens Runas in
      let later = mark_then_rule_reads 58 (AreMembers Runas) AllEndWithAliasTokens lists in
      let users = perhaps_rule_reads (AreMembers Runas) EndsWithAliasToken lists is.inside is.behind_users r.users there.1 is.users in
      let groups = perhaps_rule_reads (MarkThenRule 58 (AreMembers Runas)) EndsWithAliasToken later is.behind_users is.behind_groups r.groups users.1 is.groups in
      let left : AllByRecursion T (is.closing ∷ rest) = subst (AllByRecursion T) is.split_groups groups.1 in (
        both_lists_end_with_alias_tokens (members_listed_as_kind Runas r.users) (members_listed_as_kind Runas r.groups)
            (listed_members_end_with_alias_tokens Runas r.users users.0) (listed_members_end_with_alias_tokens Runas r.groups groups.0),
        left.1,
      )

  option_leaves_tokens : ReadsFromTokens (OptionName × List ℕ) IsOption HasNoOwnProperty
  option_leaves_tokens ts rest o all is =
      let there : AllByRecursion T (is.name ∷ is.equals ∷ is.value ∷ rest) = subst (AllByRecursion T) is.split all in
      (tt, there.1.1.1)

  tag_leaves_tokens : ReadsFromTokens (Tag × Bool) IsTag HasNoOwnProperty
  tag_leaves_tokens ts rest g all is =
      let there : AllByRecursion T (is.word ∷ is.colon ∷ rest) = subst (AllByRecursion T) is.split all in
      (tt, there.1.1)

  abbrev CommandEndsWithAliasTokens : CmdSpec → Type 0
  CommandEndsWithAliasTokens c = AllListedEndWithAliasTokens (listed_members_of_command c)

  command_with_runas_ends_with_alias_tokens : ReadsFromTokens CmdSpec IsCmdSpec CommandEndsWithAliasTokens
  command_with_runas_ends_with_alias_tokens ts rest c all is =
      let runas = runas_ends_with_alias_tokens ts is.behind_runas c.runas all is.runas in
      let options = many_rule_reads IsOption HasNoOwnProperty option_leaves_tokens is.behind_runas is.behind_options c.options runas.1 is.options in
      let tags = many_rule_reads IsTag HasNoOwnProperty tag_leaves_tokens is.behind_options is.behind_tags c.tags options.1 is.tags in
      let member = command_ends_with_alias_token is.behind_tags rest c.member tags.1 is.member in
      (both_lists_end_with_alias_tokens (listed_members_of_runas c.runas) ((Cmnd, c.member) ∷ []) runas.0 (member.0, tt), member.1)

  abbrev GroupEndsWithAliasTokens : HostGroup → Type 0
  GroupEndsWithAliasTokens g = AllListedEndWithAliasTokens (listed_members_of_host_group g)

  group_ends_with_alias_tokens : ReadsFromTokens HostGroup IsHostGroup GroupEndsWithAliasTokens
  group_ends_with_alias_tokens ts rest g all is =
      let hosts = members_end_with_alias_tokens Host ts is.behind_hosts g.hosts all is.hosts in
      let there : AllByRecursion T (is.equals ∷ is.behind) = subst (AllByRecursion T) is.split hosts.1 in
      let rule = separated_rule_reads 44 IsCmdSpec CommandEndsWithAliasTokens command_with_runas_ends_with_alias_tokens in
      let commands = rule is.behind rest g.commands there.1 is.commands in (
        both_lists_end_with_alias_tokens (members_listed_as_kind Host g.hosts) (flat_map listed_members_of_command g.commands)
            (listed_members_end_with_alias_tokens Host g.hosts hosts.0) (parts_end_with_alias_tokens listed_members_of_command g.commands commands.0),
        commands.1,
      )

  -- ---- what a Defaults line is for

  scope_command_ends_with_alias_token : ReadsFromTokens Member IsScopeCommand EndsWithAliasToken
  scope_command_ends_with_alias_token ts rest m all is = command_ends_with_alias_token ts rest m all is.1

  scope_members_end_with_alias_tokens : (k : Kind) → ReadsFromTokens (List Member) (IsScopeMemberList k) AllEndWithAliasTokens
  scope_members_end_with_alias_tokens User = members_end_with_alias_tokens User
  scope_members_end_with_alias_tokens Runas = members_end_with_alias_tokens Runas
  scope_members_end_with_alias_tokens Host = members_end_with_alias_tokens Host
  scope_members_end_with_alias_tokens Cmnd = separated_rule_reads 44 IsScopeCommand EndsWithAliasToken scope_command_ends_with_alias_token

  scope_ends_with_alias_tokens : (stop : ℕ) (scope : Option Scope) (ts rest : List TokenWithBytes) → AllByRecursion T ts
      → PerhapsScope stop ts scope rest
      → AllListedEndWithAliasTokens (listed_members_of_scope scope)
  scope_ends_with_alias_tokens stop None ts rest all is = tt
  scope_ends_with_alias_tokens stop (Some s) ts rest all is =
      let there : AllByRecursion T (is.sign ∷ is.behind) = subst (AllByRecursion T) is.split all in
      let members = scope_members_end_with_alias_tokens s.kind is.behind rest s.members there.1 is.members in
      listed_members_end_with_alias_tokens s.kind s.members members.0

  -- ---- lines

  node_ends_with_alias_tokens : (n : Node) (ts rest : List TokenWithBytes) → AllByRecursion T ts → ReadsNodeWithRest ts n rest
      → AllListedEndWithAliasTokens (listed_members_of_node n)
  node_ends_with_alias_tokens node.Blank ts rest all is = tt
  node_ends_with_alias_tokens node.Comment ts rest all is = tt
  node_ends_with_alias_tokens (node.Include dir path) ts rest all is = tt
  node_ends_with_alias_tokens (node.Defaults scope params) ts rest all is =
      let there : AllByRecursion T (is.word ∷ is.behind) = subst (AllByRecursion T) is.split all in
      scope_ends_with_alias_tokens is.word.stop scope is.behind is.behind_scope there.1 is.in_scope
  node_ends_with_alias_tokens (node.Alias k defs) ts rest all is =
      let there : AllByRecursion T (is.word ∷ is.behind) = subst (AllByRecursion T) is.split all in
      let rule = separated_rule_reads 58 (IsDef k) (λ d. AllListedEndWithAliasTokens (members_listed_as_kind k d.members)) (definition_ends_with_alias_tokens k) in
      parts_end_with_alias_tokens (λ (d : Def). members_listed_as_kind k d.members) defs (rule is.behind rest defs there.1 is.defs).0
  node_ends_with_alias_tokens (node.Spec users groups) ts rest all is =
      let first = members_end_with_alias_tokens User ts is.behind users all is.users in
      let others = separated_rule_reads 58 IsHostGroup GroupEndsWithAliasTokens group_ends_with_alias_tokens is.behind rest groups first.1 is.groups in
      both_lists_end_with_alias_tokens (members_listed_as_kind User users) (flat_map listed_members_of_host_group groups)
      (listed_members_end_with_alias_tokens User users first.0) (parts_end_with_alias_tokens listed_members_of_host_group groups others.0)

  -- The members of all lists in what tokens say.
  pub read_members_end_with_alias_tokens : (ts : List TokenWithBytes) (n : Node) → AllByRecursion T ts → Reads ts n
      → AllListedEndWithAliasTokens (listed_members_of_node n)
  read_members_end_with_alias_tokens ts n all is = node_ends_with_alias_tokens n ts is.0 all is.1
