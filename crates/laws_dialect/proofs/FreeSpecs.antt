-- The commands of a user specification are free, and so is the specification.
use Rattle.std.proofs.Common.{◌≡◌, ◌⊎◌, inl, inr, ℕ, Bool, true, false, not, List, [], ◌∷◌, ◌++◌, drop, map, Option, Some, None, refl, sym, ap, subst, ◌∙◌, nat_eq}
use Rattle.std.specs.Prelude.{◌&&◌, ◌||◌, codes, option_map, if◌then◌else◌}
use Rattle.std.specs.List.{AllByRecursion, starts_with}
use Rattle.std.specs.Str.{bytes_eq}
use Rattle.std.proofs.lemmas.Bool.{and_parts, eqb-true}
use Rattle.std.proofs.lemmas.Slice.Eq.{bytes_eq-Decides}
use Rattle.sudoers_text.specs.declared.token.TokenKind.{TokenKind}
use Rattle.sudoers_text.specs.declared.token.TokenKind.TheVariants as kind
use Rattle.sudoers_text.specs.declared.token.Mode.{Mode}
use Rattle.sudoers_text.specs.declared.token.Mode.TheVariants as mode
use Rattle.sudoers_text.specs.declared.context.TokenContext.{TokenContext}
use Rattle.sudoers_text.specs.declared.context.TokenContext.TheVariants as context
use Rattle.sudoers_text.specs.declared.adapting.TokenBefore.{TokenBefore}
use Rattle.sudoers_text.specs.declared.adapting.TokenBefore.TheVariants as before
use Rattle.sudoers_text.specs.Word.{is_name, is_reserved, is_tag, is_option_name, is_among, digest_kinds, include_words}
use Rattle.sudoers_text.specs.Value.{value_of_word}
use Rattle.sudoers_text.specs.Context.{is_word_kind, context_after_token, context_after_first_token, context_after_command_word}
use Rattle.sudoers_text.specs.Adapted.{is_equals_among_arguments, token_before}
use Rattle.sudoers_grammar.specs.declared.node.Kind.TheVariants.{User, Host}
use Rattle.sudoers_grammar.specs.declared.node.Tag.{Tag}
use Rattle.sudoers_grammar.specs.declared.node.OptionName.{OptionName}
use Rattle.sudoers_grammar.specs.declared.node.DigestKind.{DigestKind}
use Rattle.sudoers_grammar.specs.declared.node.Args.{Args}
use Rattle.sudoers_grammar.specs.declared.node.Args.TheVariants.{Any}
use Rattle.sudoers_grammar.specs.declared.node.Atom.TheVariants as atom
use Rattle.sudoers_grammar.specs.declared.node.Atom.{Atom}
use Rattle.sudoers_grammar.specs.Node.{Member, HostGroup}
use Rattle.sudoers_grammar.specs.Piece.{TokenWithBytes, is_word, is_quoted, is_arg, is_digest, is_comment, has_first_byte, meaning_of_token_word, value_of_matching_row, tags_by_word, tag_and_sign_of_word, tag_and_sign_of_token, options_by_name, option_of_token, digest_kinds_by_word, digest_kind_of_token, include_is_dir_by_word, include_is_dir_of_token}
use Rattle.sudoers_grammar.specs.Atom.{command_atom_without_args, command_atom_with_args, command_atom_of_word, command_atom_of_tokens, args_of_argument_tokens, is_option_value_allowed, option_value_of_token}
use Rattle.sudoers_grammar.specs.Grammar.{IsMark, Separated, IsDigest, IsArg, IsCommand, IsOption, IsTag, IsCmdSpec, IsHostGroup, BeginsSpec, IsUserSpec, IsEnd}
use Rattle.laws_dialect.proofs.KeptTokens.{test_of_some_choice_is_true}
use Rattle.laws_dialect.proofs.FreeTokens.{AreFreeFrom, is_quiet_kind, Leads, AreFreeIn, AreFreeBehindCommand, token_that_leads_before_free_tokens, mark_leads, mark_before_tokens_free_behind_command, tokens_free_behind_command_are_free_among_arguments, argument_before_tokens_free_behind_command, other_token_is_free, tokens_without_commands_are_free}
use Rattle.laws_dialect.proofs.FreeRules.{RuleLeads, many_rule_leads, separated_rule_leads, perhaps_rule_leads, signs_before_free_tokens, mark_before_free_tokens, list_among_hosts_is_free, user_atoms_are_members, host_atoms_are_members, perhaps_runas_is_free}

-- ---- words among commands

-- A word that stands in these rows has what each word of them has.
word_of_row_has_property : {X : Type 0} → (P : List ℕ → Type 0) (rows : List (List ℕ × X)) → AllByRecursion (λ (row : List ℕ × X). P row.0) rows → (text : List ℕ) (x : X) → value_of_matching_row rows text ≡ Some x → P text
word_of_row_has_property P [] all text x e = absurd (cc)
word_of_row_has_property {X} P (row ∷ rows) all text x e = by (bytes_eq text row.0) refl (λ found. word_of_row_has_property P rows all.1 text x found) e
  where
    by : (b : Bool) → bytes_eq text row.0 ≡ b → (value_of_matching_row rows text ≡ Some x → P text) → (if b then Some row.1 else value_of_matching_row rows text) ≡ Some x → P text
    by true is behind found = subst P (sym ((bytes_eq-Decides text row.0).0 is)) all.0
    by false is behind found = behind found

word_kind_is_word : (k : TokenKind) → is_word k ≡ true → k ≡ kind.Word
word_kind_is_word kind.Word e = refl
word_kind_is_word k e = absurd (cc)

-- A word that means something leads where its text does.
word_with_meaning_leads : {X : Type 0} → (after : TokenContext) (says : List ℕ → Option X) → ((text : List ℕ) (x : X) → says text ≡ Some x → context_after_command_word text ≡ after)
    → (t : TokenWithBytes) (x : X) → meaning_of_token_word says t ≡ Some x → Leads context.Commands after t
word_with_meaning_leads after says each t x e =
    let is = test_of_some_choice_is_true (is_word t.kind) (says t.text) x e in
    let word = word_kind_is_word t.kind is in
    let found : says t.text ≡ Some x = sym (ap (λ (b : Bool). if b then says t.text else None) is) ∙ e in
    word_leads word (each t.text x found)
  where
    word_leads : t.kind ≡ kind.Word → context_after_command_word t.text ≡ after → Leads context.Commands after t
    word_leads word there = record {
      quiet = ap is_quiet_kind word;
      no_equals = refl;
      leads = λ rest. ap (λ (k : TokenKind). context_after_token context.Commands k t.text rest) word ∙ there;
    }

option_name_leads : (t : TokenWithBytes) (name : OptionName) → option_of_token t ≡ Some name → Leads context.Commands context.BehindOption t
unfolding option_of_token
option_name_leads t name e =
    word_with_meaning_leads context.BehindOption (value_of_matching_row options_by_name)
    (word_of_row_has_property (λ (text : List ℕ). context_after_command_word text ≡ context.BehindOption) options_by_name (refl, (refl, (refl, (refl, (refl, (refl, (refl, (refl, (refl, (refl, tt))))))))))) t name e

digest_kind_leads : (t : TokenWithBytes) (k : DigestKind) → digest_kind_of_token t ≡ Some k → Leads context.Commands context.BehindDigestKind t
unfolding digest_kind_of_token
digest_kind_leads t k e =
    word_with_meaning_leads context.BehindDigestKind (value_of_matching_row digest_kinds_by_word)
    (word_of_row_has_property (λ (text : List ℕ). context_after_command_word text ≡ context.BehindDigestKind) digest_kinds_by_word (refl, (refl, (refl, (refl, tt))))) t k e

bytes_behind_no : (text : List ℕ) → starts_with nat_eq text (codes "NO") ≡ true → 78 ∷ 79 ∷ drop 2 text ≡ text
bytes_behind_no [] e = absurd (cc)
bytes_behind_no (a ∷ []) e = absurd (let last = (and_parts (nat_eq 78 a) false e).1 in cc)
bytes_behind_no (a ∷ b ∷ rest) e =
    let parts = and_parts (nat_eq 78 a) (nat_eq 79 b && true) e in
    let first : 78 ≡ a = eqb-true 78 a parts.0 in
    let second : 79 ≡ b = eqb-true 79 b (and_parts (nat_eq 79 b) true parts.1).0 in
    ap (λ (n : ℕ). n ∷ 79 ∷ rest) first ∙ ap (λ (n : ℕ). a ∷ n ∷ rest) second

mapped_option_has_value : {X Y : Type 0} → (f : X → Y) (found : Option X) (y : Y) → option_map f found ≡ Some y → (x : X) × (found ≡ Some x)
mapped_option_has_value f (Some x) y e = (x, refl)
mapped_option_has_value f None y e = absurd (cc)

tag_text_leads : (text : List ℕ) (g : Tag × Bool) → tag_and_sign_of_word text ≡ Some g → context_after_command_word text ≡ context.BehindTag
tag_text_leads text g e = by (starts_with nat_eq text (codes "NO")) refl e
  where
    by : (b : Bool) → starts_with nat_eq text (codes "NO") ≡ b
        → (if b then option_map (λ (t : Tag). (t, false)) (value_of_matching_row tags_by_word (drop 2 text)) else option_map (λ (t : Tag). (t, true)) (value_of_matching_row tags_by_word text)) ≡ Some g
        → context_after_command_word text ≡ context.BehindTag
    by true prefix found =
        let tag = mapped_option_has_value (λ (t : Tag). (t, false)) (value_of_matching_row tags_by_word (drop 2 text)) g found in
        subst (λ (word : List ℕ). context_after_command_word word ≡ context.BehindTag) (bytes_behind_no text prefix)
        (word_of_row_has_property (λ (word : List ℕ). context_after_command_word (78 ∷ 79 ∷ word) ≡ context.BehindTag) tags_by_word (refl, (refl, (refl, (refl, (refl, (refl, (refl, (refl, tt)))))))) (drop 2 text) tag.0 tag.1)
    by false prefix found =
        let tag = mapped_option_has_value (λ (t : Tag). (t, true)) (value_of_matching_row tags_by_word text) g found in
        word_of_row_has_property (λ (word : List ℕ). context_after_command_word word ≡ context.BehindTag) tags_by_word (refl, (refl, (refl, (refl, (refl, (refl, (refl, (refl, tt)))))))) text tag.0 tag.1

tag_leads : (t : TokenWithBytes) (g : Tag × Bool) → tag_and_sign_of_token t ≡ Some g → Leads context.Commands context.BehindTag t
unfolding tag_and_sign_of_token
tag_leads t g e = word_with_meaning_leads context.BehindTag tag_and_sign_of_word tag_text_leads t g e

-- ---- commands

-- the tokens are free where commands stand
abbrev AreFreeCommands : List TokenWithBytes → Type 0
AreFreeCommands ts = AreFreeIn context.Commands ts

option_is_free : RuleLeads AreFreeCommands AreFreeCommands IsOption
unfolding option_value_of_token
option_is_free ts o rest all is =
    let text = value_of_word is.value.text in
    let kind_is = (and_parts (is_word is.value.kind || is_quoted is.value.kind) (is_option_value_allowed o.0 text)
    (test_of_some_choice_is_true ((is_word is.value.kind || is_quoted is.value.kind) && is_option_value_allowed o.0 text) (Some text) o.1 is.is_value)).0 in
    let value = token_that_leads_before_free_tokens context.OptionValue context.Commands is.value rest (value_leads is.value kind_is) all in
    let equals = mark_before_free_tokens context.BehindOption context.OptionValue 61 refl (λ rest. refl) is.equals (is.value ∷ rest) is.is_equals value in
    subst AreFreeCommands (sym is.split) (token_that_leads_before_free_tokens context.Commands context.BehindOption is.name (is.equals ∷ is.value ∷ rest) (option_name_leads is.name o.0 is.is_name) equals)
  where
    value_kind_leads : (k : TokenKind) → (is_word k || is_quoted k) ≡ true → (is_quiet_kind k ≡ true) × ((text rest : List ℕ) → context_after_token context.OptionValue k text rest ≡ context.Commands)
    value_kind_leads kind.Word e = (refl, λ text rest. refl)
    value_kind_leads kind.Quoted e = (refl, λ text rest. refl)
    value_kind_leads k e = absurd (cc)

    value_leads : (t : TokenWithBytes) → (is_word t.kind || is_quoted t.kind) ≡ true → Leads context.OptionValue context.Commands t
    value_leads t e = record { quiet = (value_kind_leads t.kind e).0; no_equals = refl; leads = λ rest. (value_kind_leads t.kind e).1 t.text rest }

tag_is_free : RuleLeads AreFreeCommands AreFreeCommands IsTag
tag_is_free ts g rest all is =
    subst AreFreeCommands (sym is.split)
    (token_that_leads_before_free_tokens context.Commands context.BehindTag is.word (is.colon ∷ rest) (tag_leads is.word g is.is_tag)
    (mark_before_free_tokens context.BehindTag context.Commands 58 refl (λ rest. refl) is.colon rest is.is_colon all))

digest_is_free : RuleLeads AreFreeCommands AreFreeCommands IsDigest
digest_is_free ts d rest all is =
    let digest = token_that_leads_before_free_tokens context.Digest context.Commands is.digest rest (digest_leads is.digest is.is_digest) all in
    subst AreFreeCommands (sym is.split)
    (token_that_leads_before_free_tokens context.Commands context.BehindDigestKind is.word (is.colon ∷ is.digest ∷ rest) (digest_kind_leads is.word d.kind is.is_kind)
    (mark_before_free_tokens context.BehindDigestKind context.Digest 58 refl (λ rest. refl) is.colon (is.digest ∷ rest) is.is_colon digest))
  where
    digest_token_leads : (k : TokenKind) → is_digest k ≡ true → (is_quiet_kind k ≡ true) × ((text rest : List ℕ) → context_after_token context.Digest k text rest ≡ context.Commands)
    digest_token_leads kind.Digest e = (refl, λ text rest. refl)
    digest_token_leads k e = absurd (cc)

    digest_leads : (t : TokenWithBytes) → is_digest t.kind ≡ true → Leads context.Digest context.Commands t
    digest_leads t e = record { quiet = (digest_token_leads t.kind e).0; no_equals = refl; leads = λ rest. (digest_token_leads t.kind e).1 t.text rest }

arguments_before_tokens_free_behind_command : (args rest : List TokenWithBytes) → AllByRecursion IsArg args → AreFreeBehindCommand rest → AreFreeBehindCommand (args ++ rest)
arguments_before_tokens_free_behind_command [] rest are all = all
arguments_before_tokens_free_behind_command (t ∷ args) rest are all =
    argument_before_tokens_free_behind_command t (args ++ rest) (argument_kind_is_argument t.kind are.0) (arguments_before_tokens_free_behind_command args rest are.1 all)
  where
    argument_kind_is_argument : (k : TokenKind) → is_arg k ≡ true → k ≡ kind.Arg
    argument_kind_is_argument kind.Arg e = refl
    argument_kind_is_argument k e = absurd (cc)

-- The token of a command leads to arguments, or to commands.
abbrev LeadsBehindCommand : TokenWithBytes → Type 0
LeadsBehindCommand t = Leads context.Commands context.Commands t ⊎ Leads context.Commands context.Arguments t

abbrev WordLeadsBehindCommand : List ℕ → Type 0
WordLeadsBehindCommand text = (context_after_command_word text ≡ context.Commands) ⊎ (context_after_command_word text ≡ context.Arguments)

word_of_test_is_among_none : (test : List ℕ → Bool) (words : List (List ℕ)) → AllByRecursion (λ (word : List ℕ). test word ≡ false) words → (text : List ℕ) → test text ≡ true → is_among words text ≡ false
word_of_test_is_among_none test [] all text passes = refl
word_of_test_is_among_none test (word ∷ words) all text passes = by (bytes_eq text word) refl (word_of_test_is_among_none test words all.1 text passes)
  where
    by : (b : Bool) → bytes_eq text word ≡ b → is_among words text ≡ false → (b || is_among words text) ≡ false
    by true e behind = absurd (let one : true ≡ false = sym (subst (λ (s : List ℕ). test s ≡ true) ((bytes_eq-Decides text word).0 e) passes) ∙ all.0 in cc)
    by false e behind = behind

unreserved_name_leads : (text : List ℕ) → is_name text ≡ true → is_reserved text ≡ false → context_after_command_word text ≡ context.Commands
unreserved_name_leads text name free = by (bytes_eq text (codes "ALL")) (is_tag text) (is_option_name text) refl refl refl free
  where
    no_edit : is_among (codes "sudoedit" ∷ []) text ≡ false
    no_edit = word_of_test_is_among_none is_name (codes "sudoedit" ∷ []) (refl, tt) text name

    no_digest : is_among digest_kinds text ≡ false
    no_digest = word_of_test_is_among_none is_name digest_kinds (refl, (refl, (refl, (refl, tt)))) text name

    edit_is : (b : Bool) → (b || false) ≡ false → b ≡ false
    edit_is true e = e
    edit_is false e = refl

    by : (all tag option : Bool) → bytes_eq text (codes "ALL") ≡ all → is_tag text ≡ tag → is_option_name text ≡ option → (all || tag || option) ≡ false → context_after_command_word text ≡ context.Commands
    by false false false all tag option e =
        ap (λ (b : Bool). if b then context.Arguments else (if is_option_name text then context.BehindOption else (if is_tag text then context.BehindTag else (if is_among digest_kinds text then context.BehindDigestKind else context.Commands)))) (edit_is (bytes_eq text (codes "sudoedit")) no_edit)
        ∙ ap (λ (b : Bool). if b then context.BehindOption else (if is_tag text then context.BehindTag else (if is_among digest_kinds text then context.BehindDigestKind else context.Commands))) option
        ∙ ap (λ (b : Bool). if b then context.BehindTag else (if is_among digest_kinds text then context.BehindDigestKind else context.Commands)) tag
        ∙ ap (λ (b : Bool). if b then context.BehindDigestKind else context.Commands) no_digest
    by true tag option a t o e = absurd (cc)
    by false true option a t o e = absurd (cc)
    by false false true a t o e = absurd (cc)

command_word_leads : (text : List ℕ) (a : Atom) → command_atom_of_word text ≡ Some a → WordLeadsBehindCommand text
command_word_leads text a e = by (bytes_eq text (codes "ALL")) (bytes_eq text (codes "list")) (bytes_eq text (codes "sudoedit")) (is_name text) (is_reserved text) refl refl refl refl refl e
  where
    by : (all listing edit name reserved : Bool) → bytes_eq text (codes "ALL") ≡ all → bytes_eq text (codes "list") ≡ listing → bytes_eq text (codes "sudoedit") ≡ edit → is_name text ≡ name → is_reserved text ≡ reserved
        → (if all then Some atom.All else (if listing then Some atom.Listing else (if edit then Some (atom.Sudoedit Any) else (if name && not reserved then Some (atom.Alias text) else None)))) ≡ Some a
        → WordLeadsBehindCommand text
    by true listing edit name reserved a_is l_is e_is n_is r_is found = inl (ap context_after_command_word ((bytes_eq-Decides text (codes "ALL")).0 a_is))
    by false true edit name reserved a_is l_is e_is n_is r_is found = inl (ap context_after_command_word ((bytes_eq-Decides text (codes "list")).0 l_is))
    by false false true name reserved a_is l_is e_is n_is r_is found = inr (ap context_after_command_word ((bytes_eq-Decides text (codes "sudoedit")).0 e_is))
    by false false false true false a_is l_is e_is n_is r_is found = inl (unreserved_name_leads text n_is r_is)
    by false false false true true a_is l_is e_is n_is r_is found = absurd (cc)
    by false false false false reserved a_is l_is e_is n_is r_is found = absurd (cc)

word_leads_behind_command : (t : TokenWithBytes) → t.kind ≡ kind.Word → WordLeadsBehindCommand t.text → LeadsBehindCommand t
word_leads_behind_command t word leads = elim leads [
  | inl there ↦ inl (record { quiet = ap is_quiet_kind word; no_equals = refl; leads = λ rest. ap (λ (k : TokenKind). context_after_token context.Commands k t.text rest) word ∙ there })
  | inr there ↦ inr (record { quiet = ap is_quiet_kind word; no_equals = refl; leads = λ rest. ap (λ (k : TokenKind). context_after_token context.Commands k t.text rest) word ∙ there })
]

path_leads_behind_command : (t : TokenWithBytes) → t.kind ≡ kind.Path → LeadsBehindCommand t
path_leads_behind_command t path = inr (record { quiet = ap is_quiet_kind path; no_equals = refl; leads = λ rest. ap (λ (k : TokenKind). context_after_token context.Commands k t.text rest) path })

command_without_arguments_leads : (t : TokenWithBytes) (k : TokenKind) (a : Atom) → t.kind ≡ k → command_atom_without_args k t.text ≡ Some a → LeadsBehindCommand t
unfolding command_atom_without_args
command_without_arguments_leads t kind.Word a is e = word_leads_behind_command t is (command_word_leads t.text a e)
command_without_arguments_leads t kind.Path a is e = path_leads_behind_command t is
command_without_arguments_leads t k a is e = absurd (cc)

command_with_arguments_leads : (t : TokenWithBytes) (k : TokenKind) (args : Args) (a : Atom) → t.kind ≡ k → command_atom_with_args k t.text args ≡ Some a → LeadsBehindCommand t
unfolding command_atom_with_args
command_with_arguments_leads t kind.Word args a is e =
    word_leads_behind_command t is (inr (ap context_after_command_word ((bytes_eq-Decides t.text (codes "sudoedit")).0 (test_of_some_choice_is_true (bytes_eq t.text (codes "sudoedit")) (Some (atom.Sudoedit args)) a e))))
command_with_arguments_leads t kind.Path args a is e = path_leads_behind_command t is
command_with_arguments_leads t k args a is e = absurd (cc)

some_choice_behind_none : {X : Type 0} → (b : Bool) (found : Option X) (x : X) → (if b then None else found) ≡ Some x → found ≡ Some x
some_choice_behind_none true found x e = absurd (cc)
some_choice_behind_none false found x e = e

command_leads : (t : TokenWithBytes) (args : List TokenWithBytes) (a : Atom) → command_atom_of_tokens t args ≡ Some a → LeadsBehindCommand t
command_leads t [] a e = command_without_arguments_leads t t.kind a refl e
command_leads t (x ∷ args) a e =
    let values = args_of_argument_tokens (x ∷ args) in
    command_with_arguments_leads t t.kind values a refl (some_choice_behind_none (has_first_byte 94 x.text) (command_atom_with_args t.kind t.text values) a e)

token_of_command_before_free_tokens : (t : TokenWithBytes) (ts : List TokenWithBytes) → LeadsBehindCommand t → AreFreeBehindCommand ts → AreFreeCommands (t ∷ ts)
token_of_command_before_free_tokens t ts leads all = elim leads [
  | inl commands ↦ token_that_leads_before_free_tokens context.Commands context.Commands t ts commands all.commands
  | inr arguments ↦ token_that_leads_before_free_tokens context.Commands context.Arguments t ts arguments (tokens_free_behind_command_are_free_among_arguments ts all)
]

command_is_free : RuleLeads AreFreeCommands AreFreeBehindCommand IsCommand
command_is_free ts m rest all is =
    let word = token_of_command_before_free_tokens is.word (is.args ++ rest) (command_leads is.word is.args m.atom is.atom) (arguments_before_tokens_free_behind_command is.args rest is.are_args all) in
    let sign = mark_before_free_tokens context.Commands context.Commands 33 refl (λ rest. refl) in
    let behind = subst AreFreeCommands (sym is.split) (signs_before_free_tokens context.Commands sign is.signs (is.word ∷ (is.args ++ rest)) is.are_signs word) in
    perhaps_rule_leads AreFreeCommands (Separated 44 IsDigest)
    (separated_rule_leads 44 AreFreeCommands AreFreeCommands IsDigest (mark_before_free_tokens context.Commands context.Commands 44 refl (λ rest. refl)) digest_is_free) ts m.digests is.behind behind is.digests

command_spec_is_free : RuleLeads AreFreeCommands AreFreeBehindCommand IsCmdSpec
command_spec_is_free ts c rest all is =
    let command = command_is_free is.behind_tags c.member rest all is.member in
    let tags = many_rule_leads AreFreeCommands IsTag tag_is_free is.behind_options c.tags is.behind_tags command is.tags in
    let options = many_rule_leads AreFreeCommands IsOption option_is_free is.behind_runas c.options is.behind_options tags is.options in
    perhaps_runas_is_free ts c.runas is.behind_runas options is.runas

-- ---- specifications

abbrev AreFreeHosts : List TokenWithBytes → Type 0
AreFreeHosts ts = AreFreeIn context.Hosts ts

host_group_is_free : RuleLeads AreFreeHosts AreFreeBehindCommand IsHostGroup
host_group_is_free ts g rest all is =
    let comma : (t : TokenWithBytes) (ts : List TokenWithBytes) → IsMark 44 t → AreFreeCommands ts → AreFreeBehindCommand (t ∷ ts) = λ t ts mark.
    mark_before_tokens_free_behind_command context.Commands t ts (mark_leads context.Commands context.Commands 44 t mark refl (λ rest. refl)) (mark_leads context.Arguments context.Commands 44 t mark refl (λ rest. refl)) in
    let commands = separated_rule_leads 44 AreFreeCommands AreFreeBehindCommand IsCmdSpec comma command_spec_is_free is.behind g.commands rest all is.commands in
    let equals = subst AreFreeHosts (sym is.split) (mark_before_free_tokens context.Hosts context.Commands 61 refl (λ rest. refl) is.equals is.behind is.is_equals commands) in
    list_among_hosts_is_free Host host_atoms_are_members ts g.hosts is.behind_hosts equals is.hosts

end_of_line_is_free : (rest : List TokenWithBytes) → IsEnd rest → AreFreeBehindCommand rest
end_of_line_is_free [] is = record { commands = record { inside = λ left. tt; quoted = λ left. tt }; arguments = λ left. tt }
end_of_line_is_free (t ∷ []) is = record {
  commands = record {
    inside = λ left. (other_token_is_free context.Commands t refl left, λ rest. tt);
    quoted = λ left. (other_token_is_free context.QuotedArgument t (comment_is_no_equals context.QuotedArgument t.kind t.text is) left, λ rest. tt);
  };
  arguments = λ left. (other_token_is_free context.Arguments t (comment_is_no_equals context.Arguments t.kind t.text is) left, λ rest. tt);
}
  where
    comment_is_no_equals : (here : TokenContext) (k : TokenKind) (text : List ℕ) → is_comment k ≡ true → is_equals_among_arguments here k text ≡ false
    comment_is_no_equals context.Arguments kind.Punct text e = absurd (cc)
    comment_is_no_equals context.QuotedArgument kind.Bad text e = absurd (cc)
    comment_is_no_equals here k text e = refl
end_of_line_is_free (t ∷ u ∷ ts) is = absurd is

spec_is_free_among_hosts : (ts : List TokenWithBytes) (us : List Member) (gs : List HostGroup) (rest : List TokenWithBytes) → IsUserSpec ts us gs rest → IsEnd rest → AreFreeHosts ts
spec_is_free_among_hosts ts us gs rest is end =
    let colon : (t : TokenWithBytes) (ts : List TokenWithBytes) → IsMark 58 t → AreFreeHosts ts → AreFreeBehindCommand (t ∷ ts) = λ t ts mark.
    mark_before_tokens_free_behind_command context.Hosts t ts (mark_leads context.Commands context.Hosts 58 t mark refl (λ rest. refl)) (mark_leads context.Arguments context.Hosts 58 t mark refl (λ rest. refl)) in
    let groups = separated_rule_leads 58 AreFreeHosts AreFreeBehindCommand IsHostGroup colon host_group_is_free is.behind gs rest (end_of_line_is_free rest end) is.groups in
    list_among_hosts_is_free User user_atoms_are_members ts us is.behind groups is.users

-- ---- the first token

-- A word that no row has is none of the words of the rows.
word_without_row_is_among_none : {X : Type 0} → (rows : List (List ℕ × X)) (text : List ℕ) → value_of_matching_row rows text ≡ None → is_among (map (λ (row : List ℕ × X). row.0) rows) text ≡ false
word_without_row_is_among_none [] text e = refl
word_without_row_is_among_none {X} (row ∷ rows) text e = by (bytes_eq text row.0) (λ found. word_without_row_is_among_none rows text found) e
  where
    others : Bool
    others = is_among (map (λ (row : List ℕ × X). row.0) rows) text

    by : (b : Bool) → (value_of_matching_row rows text ≡ None → others ≡ false) → (if b then Some row.1 else value_of_matching_row rows text) ≡ None → (b || others) ≡ false
    by true behind found = absurd (cc)
    by false behind found = behind found

first_token_is_no_include_word : (t : TokenWithBytes) (k : TokenKind) → t.kind ≡ k → include_is_dir_of_token t ≡ None → (is_word_kind k && is_among include_words t.text) ≡ false
unfolding include_is_dir_of_token
first_token_is_no_include_word t kind.Word is none =
    word_without_row_is_among_none include_is_dir_by_word t.text (sym (ap (λ (k : TokenKind). if is_word k then value_of_matching_row include_is_dir_by_word t.text else None) is) ∙ none)
first_token_is_no_include_word t k is none = refl

spec_is_free_from_its_first_token : (ts : List TokenWithBytes) → BeginsSpec ts → AreFreeFrom context.Hosts before.Other ts → AreFreeFrom (context.First mode.Commands) before.Other ts
spec_is_free_from_its_first_token [] begins free = tt
spec_is_free_from_its_first_token (t ∷ ts) begins free = (
  tt,
  λ rest. subst (λ (c : TokenContext). AreFreeFrom c (token_before t.kind t.text) ts)
      (sym (ap (λ (b : Bool). if b then context.IncludePath mode.Commands else context_after_first_token mode.Commands t.kind t.text rest) (first_token_is_no_include_word t t.kind refl begins.no_include)))
      (free.1 rest),
)

pub tokens_of_spec_are_free : (m : Mode) (ts : List TokenWithBytes) (us : List Member) (gs : List HostGroup) (rest : List TokenWithBytes) → IsUserSpec ts us gs rest → IsEnd rest → AreFreeFrom (context.First m) before.Other ts
tokens_of_spec_are_free mode.Words ts us gs rest is end = tokens_without_commands_are_free ts (context.First mode.Words) before.Other refl
tokens_of_spec_are_free mode.Parameters ts us gs rest is end = tokens_without_commands_are_free ts (context.First mode.Parameters) before.Other refl
tokens_of_spec_are_free mode.Commands ts us gs rest is end = spec_is_free_from_its_first_token ts is.begins ((spec_is_free_among_hosts ts us gs rest is end).inside before.Other)
