-- What a user specification reads is free: no `=` stands behind `sudoedit` where arguments may stand.
use Rattle.std.proofs.Common.{◌≡◌, ◌⊎◌, inl, inr, ℕ, Bool, true, false, not, List, [], ◌∷◌, ◌++◌, drop, Option, Some, None, refl, sym, ap, subst, ◌∙◌, nat_eq}
use Rattle.std.specs.Prelude.{◌&&◌, ◌||◌, codes, option_map, if◌then◌else◌}
use Rattle.std.specs.List.{AllByRecursion}
use Rattle.std.specs.Str.{bytes_eq}
use Rattle.std.proofs.lemmas.Bool.{and_parts}
use Rattle.std.proofs.lemmas.Slice.Eq.{bytes_eq-Decides}
use Rattle.sudoers_text.specs.declared.token.TokenKind.{TokenKind}
use Rattle.sudoers_text.specs.declared.token.TokenKind.TheVariants as kind
use Rattle.sudoers_text.specs.declared.context.TokenContext.{TokenContext}
use Rattle.sudoers_text.specs.declared.context.TokenContext.TheVariants as context
use Rattle.sudoers_text.specs.Word.{is_name, is_reserved, is_tag, is_option_name, is_among, digest_kinds}
use Rattle.sudoers_text.specs.Value.{value_of_word}
use Rattle.sudoers_text.specs.Context.{context_after_token, context_after_command_word}
use Rattle.sudoers_text.specs.Adapted.{is_equals_among_arguments, token_before}
use Rattle.sudoers_grammar.specs.declared.node.Kind.{Kind}
use Rattle.sudoers_grammar.specs.declared.node.Kind.TheVariants.{User, Runas, Host}
use Rattle.sudoers_grammar.specs.declared.node.Tag.{Tag}
use Rattle.sudoers_grammar.specs.declared.node.Args.{Args}
use Rattle.sudoers_grammar.specs.declared.node.Atom.{Atom}
use Rattle.sudoers_grammar.specs.Node.{Member, RunasSpec, HostGroup}
use Rattle.sudoers_grammar.specs.Piece.{TokenWithBytes, is_word, is_quoted, is_arg, is_digest, is_comment, has_first_byte, meaning_of_token_word, value_of_matching_row, tags_by_word, tag_and_sign_of_word, tag_and_sign_of_token, options_by_name, option_of_token, digest_kinds_by_word, digest_kind_of_token}
use Rattle.sudoers_grammar.specs.Atom.{atom_of_token, user_atom_of_token, host_atom_of_token, command_atom_without_args, command_atom_with_args, command_atom_of_word, command_atom_of_tokens, args_of_argument_tokens, is_option_value_allowed, option_value_of_token}
use Rattle.sudoers_grammar.specs.Grammar.{IsMark, Many, MarkThenRule, Separated, Perhaps, IsMember, AreMembers, IsDigest, IsArg, IsCommand, IsRunas, PerhapsRunas, IsOption, IsTag, IsCmdSpec, IsHostGroup, IsUserSpec, IsEnd}
use Rattle.laws_dialect.proofs.KeptTokens.{test_of_some_choice_is_true}
use Rattle.laws_dialect.proofs.FreeTokens.{is_quiet_kind, Leads, AreFreeIn, AreFreeBehindCommand, token_that_leads_before_free_tokens, mark_leads, mark_before_tokens_free_behind_command, tokens_free_behind_command_are_free_among_arguments, argument_before_tokens_free_behind_command, other_token_is_free}

-- ---- one after another

-- What the rule reads has the first property, if what is left has the second.
abbrev pub RuleLeads : {X : Type 0} → (List TokenWithBytes → Type 0) → (List TokenWithBytes → Type 0) → (List TokenWithBytes → X → List TokenWithBytes → Type 0) → Type 0
RuleLeads {X} Before After P = (ts : List TokenWithBytes) (x : X) (rest : List TokenWithBytes) → After rest → P ts x rest → Before ts

pub many_rule_leads : {X : Type 0} → (All : List TokenWithBytes → Type 0) (P : List TokenWithBytes → X → List TokenWithBytes → Type 0) → RuleLeads All All P
    → (ts : List TokenWithBytes) (xs : List X) (rest : List TokenWithBytes) → All rest → Many P ts xs rest → All ts
many_rule_leads All P each ts [] rest all are = subst All (sym are) all
many_rule_leads All P each ts (x ∷ xs) rest all are = each ts x are.0 (many_rule_leads All P each are.0 xs rest all are.2) are.1

-- The mark before tokens of the first property makes tokens of the second.
abbrev pub MarkLeads : ℕ → (List TokenWithBytes → Type 0) → (List TokenWithBytes → Type 0) → Type 0
MarkLeads b Before After = (t : TokenWithBytes) (ts : List TokenWithBytes) → IsMark b t → Before ts → After (t ∷ ts)

mark_then_rule_leads : {X : Type 0} → (b : ℕ) (Before After : List TokenWithBytes → Type 0) (P : List TokenWithBytes → X → List TokenWithBytes → Type 0) → MarkLeads b Before After → RuleLeads Before After P
    → RuleLeads After After (MarkThenRule b P)
mark_then_rule_leads b Before After P mark each ts x rest all is = subst After (sym is.split) (mark is.mark is.behind is.is_mark (each is.behind x rest all is.is))

pub separated_rule_leads : {X : Type 0} → (b : ℕ) (Before After : List TokenWithBytes → Type 0) (P : List TokenWithBytes → X → List TokenWithBytes → Type 0) → MarkLeads b Before After → RuleLeads Before After P
    → RuleLeads Before After (Separated b P)
separated_rule_leads b Before After P mark each ts [] rest all are = absurd are
separated_rule_leads b Before After P mark each ts (x ∷ xs) rest all are =
    each ts x are.0 (many_rule_leads After (MarkThenRule b P) (mark_then_rule_leads b Before After P mark each) are.0 xs rest all are.2) are.1

pub perhaps_rule_leads : {X : Type 0} → (All : List TokenWithBytes → Type 0) (P : List TokenWithBytes → List X → List TokenWithBytes → Type 0) → RuleLeads All All P
    → (ts : List TokenWithBytes) (xs : List X) (rest : List TokenWithBytes) → All rest → Perhaps P ts xs rest → All ts
perhaps_rule_leads All P each ts [] rest all is = subst All (sym is) all
perhaps_rule_leads All P each ts (x ∷ xs) rest all is = each ts (x ∷ xs) rest all is

pub signs_before_free_tokens : (here : TokenContext) → MarkLeads 33 (AreFreeIn here) (AreFreeIn here) → (signs ts : List TokenWithBytes) → AllByRecursion (IsMark 33) signs → AreFreeIn here ts → AreFreeIn here (signs ++ ts)
signs_before_free_tokens here sign [] ts are all = all
signs_before_free_tokens here sign (t ∷ signs) ts are all = sign t (signs ++ ts) are.0 (signs_before_free_tokens here sign signs ts are.1 all)

-- A mark that leads from one context to another.
pub mark_before_free_tokens : (here after : TokenContext) (b : ℕ) → is_equals_among_arguments here kind.Punct (b ∷ []) ≡ false → ((rest : List ℕ) → context_after_token here kind.Punct (b ∷ []) rest ≡ after)
    → MarkLeads b (AreFreeIn after) (AreFreeIn here)
mark_before_free_tokens here after b no_equals leads t ts is all = token_that_leads_before_free_tokens here after t ts (mark_leads here after b t is no_equals leads) all

-- ---- members

-- a kind that a member of a list of users or hosts can have
abbrev pub is_member_kind : TokenKind → Bool
is_member_kind kind.Word = true
is_member_kind kind.Quoted = true
is_member_kind kind.Id = true
is_member_kind k = false

user_atom_has_member_kind : (k : TokenKind) (text : List ℕ) (a : Atom) → user_atom_of_token k text ≡ Some a → is_member_kind k ≡ true
unfolding user_atom_of_token
user_atom_has_member_kind kind.Word text a e = refl
user_atom_has_member_kind kind.Quoted text a e = refl
user_atom_has_member_kind kind.Id text a e = refl
user_atom_has_member_kind k text a e = absurd (cc)

host_atom_has_member_kind : (k : TokenKind) (text : List ℕ) (a : Atom) → host_atom_of_token k text ≡ Some a → is_member_kind k ≡ true
unfolding host_atom_of_token
host_atom_has_member_kind kind.Word text a e = refl
host_atom_has_member_kind kind.Quoted text a e = refl
host_atom_has_member_kind k text a e = absurd (cc)

-- A context in which members of a list leave all as it is.
abbrev MembersStay : TokenContext → Type 0
MembersStay here = (k : TokenKind) (text rest : List ℕ) → is_member_kind k ≡ true → (context_after_token here k text rest ≡ here) × (is_equals_among_arguments here k text ≡ false)

members_stay_among_hosts : MembersStay context.Hosts
members_stay_among_hosts kind.Word text rest e = (refl, refl)
members_stay_among_hosts kind.Quoted text rest e = (refl, refl)
members_stay_among_hosts kind.Id text rest e = (refl, refl)
members_stay_among_hosts k text rest e = absurd (cc)

members_stay_in_parentheses : MembersStay context.Parentheses
members_stay_in_parentheses kind.Word text rest e = (refl, refl)
members_stay_in_parentheses kind.Quoted text rest e = (refl, refl)
members_stay_in_parentheses kind.Id text rest e = (refl, refl)
members_stay_in_parentheses k text rest e = absurd (cc)

member_kind_is_quiet : (k : TokenKind) → is_member_kind k ≡ true → is_quiet_kind k ≡ true
member_kind_is_quiet kind.Word e = refl
member_kind_is_quiet kind.Quoted e = refl
member_kind_is_quiet kind.Id e = refl
member_kind_is_quiet k e = absurd (cc)

-- Atoms of members of this kind have such kinds of tokens.
abbrev pub AtomsAreMembers : Kind → Type 0
AtomsAreMembers k = (t : TokenWithBytes) (a : Atom) → atom_of_token k t ≡ Some a → is_member_kind t.kind ≡ true

member_list_is_free : (here : TokenContext) (k : Kind) → MembersStay here → AtomsAreMembers k → MarkLeads 33 (AreFreeIn here) (AreFreeIn here) → MarkLeads 44 (AreFreeIn here) (AreFreeIn here)
    → RuleLeads (AreFreeIn here) (AreFreeIn here) (AreMembers k)
member_list_is_free here k stay atoms sign comma = separated_rule_leads 44 (AreFreeIn here) (AreFreeIn here) (IsMember k) comma member
  where
    member : RuleLeads (AreFreeIn here) (AreFreeIn here) (IsMember k)
    member ts m rest all is =
        let last = is.last in
        let kind_is = atoms last m.atom is.atom in
        let leads : Leads here here last = record {
          quiet = member_kind_is_quiet last.kind kind_is;
          no_equals = (stay last.kind last.text [] kind_is).1;
          leads = λ rest. (stay last.kind last.text rest kind_is).0;
        } in
        subst (AreFreeIn here) (sym is.split)
        (signs_before_free_tokens here sign is.signs (last ∷ rest) is.are_signs (token_that_leads_before_free_tokens here here last rest leads all))

pub user_atoms_are_members : AtomsAreMembers User
unfolding atom_of_token
user_atoms_are_members t a e = user_atom_has_member_kind t.kind t.text a e

runas_atoms_are_members : AtomsAreMembers Runas
unfolding atom_of_token
runas_atoms_are_members t a e = user_atom_has_member_kind t.kind t.text a e

pub host_atoms_are_members : AtomsAreMembers Host
unfolding atom_of_token
host_atoms_are_members t a e = host_atom_has_member_kind t.kind t.text a e

pub list_among_hosts_is_free : (k : Kind) → AtomsAreMembers k → RuleLeads (AreFreeIn context.Hosts) (AreFreeIn context.Hosts) (AreMembers k)
list_among_hosts_is_free k atoms =
    member_list_is_free context.Hosts k members_stay_among_hosts atoms (mark_before_free_tokens context.Hosts context.Hosts 33 refl (λ rest. refl)) (mark_before_free_tokens context.Hosts context.Hosts 44 refl (λ rest. refl))

runas_list_is_free : RuleLeads (AreFreeIn context.Parentheses) (AreFreeIn context.Parentheses) (AreMembers Runas)
runas_list_is_free =
    member_list_is_free context.Parentheses Runas members_stay_in_parentheses runas_atoms_are_members (mark_before_free_tokens context.Parentheses context.Parentheses 33 refl (λ rest. refl))
    (mark_before_free_tokens context.Parentheses context.Parentheses 44 refl (λ rest. refl))

pub perhaps_runas_is_free : (ts : List TokenWithBytes) (r : Option RunasSpec) (rest : List TokenWithBytes) → AreFreeIn context.Commands rest → PerhapsRunas ts r rest → AreFreeIn context.Commands ts
perhaps_runas_is_free ts None rest all is = subst (AreFreeIn context.Commands) (sym is) all
perhaps_runas_is_free ts (Some r) rest all is =
    let inside = AreFreeIn context.Parentheses in
    let end = subst inside (sym is.split_groups) (mark_before_free_tokens context.Parentheses context.Commands 41 refl (λ rest. refl) is.closing rest is.is_close all) in
    let groups = perhaps_rule_leads inside (MarkThenRule 58 (AreMembers Runas))
    (mark_then_rule_leads 58 inside inside (AreMembers Runas) (mark_before_free_tokens context.Parentheses context.Parentheses 58 refl (λ rest. refl)) runas_list_is_free)
    is.behind_users r.groups is.behind_groups end is.groups in
    let users = perhaps_rule_leads inside (AreMembers Runas) runas_list_is_free is.inside r.users is.behind_users groups is.users in
    subst (AreFreeIn context.Commands) (sym is.split) (mark_before_free_tokens context.Commands context.Parentheses 40 refl (λ rest. refl) is.opening is.inside is.is_open users)
